-- Lemmas on files that transactions have open for writing.
use Rattle.std.proofs.Common.{◌≡◌, ℕ, ◌/◌, ◌%◌, ◌^◌, ◌<◌, ◌==◌, ◌&&◌, true, false, not, eqb, List, [], ◌∷◌, ◌++◌, length, Option, Some, None, is_some, IfSome, IfNone, refl, sym, subst, ap, ◌∙◌, inl, inr, arith}
use Rattle.std.specs.List.{list_any}
use Rattle.std.specs.Ordering.{nat_cmp, ordering_then}
use Rattle.std.specs.declared.cmp.Ordering.{Ordering}
use Rattle.std.specs.declared.cmp.Ordering.TheVariants.{Less, Equal, Greater}
use Rattle.std.proofs.lemmas.Bool.{cases_Bool, and_parts, and_from, eqb-true, not-true, not_from_false}
use Rattle.std.proofs.lemmas.Cmp.{nat_cmp_total, ranked, tied_itself}
use Rattle.ktm_base.specs.declared.id.Id.{Id}
use Rattle.ktm_world.specs.Conflicts.{same_group, writes}
use Rattle.ktm_world.specs.Files.{OpenFile}
use Rattle.ktm_links.specs.declared.list.Key.{Key}
use Rattle.ktm_links.specs.Items.{Item, value_at}
use Rattle.ktm_links.specs.Mapped.{NamedItem, Begins, IsNotBelow}
use Rattle.ktm_links.specs.Indexed.{AreDistinct, IsFirstUnder}
use Rattle.ktm_links.proofs.offered.Names.{begins_between, begins_not_below}
use Rattle.txf_opens.specs.declared.file.OpenFile.{OpenFile as Kept}
use Rattle.txf_opens.specs.Indexed.{is_writer, opens_of, IsIndex}
use Rattle.ktm_links.specs.Numbers.{number_bytes, long_bytes}
use Rattle.txf_opens.specs.Names.{group_bytes, number_name, past, use_name}
use Rattle.txf_opens.specs.Acts.{open_of}
use Rattle.txf_opens.specs.OpensState.{is_other_writer}
use Rattle.txf_opens.specs.Writers.{IsFirstWriter, IsNoWriter}
use Rattle.txf_opens.proofs.Bytes.{begins_transacted, group_tells, node_leaves, same_group-true, transacted_begins}
use Rattle.txf_opens.proofs.Found.{found_at}
use Rattle.txf_opens.proofs.Listed.{any_from, none_passes}
use Rattle.ktm_links.proofs.offered.Comparing.{not_below_upto, level}

-- ---- the first writer
module _ (P : List ℕ → Type 0) (items : List (Item Kept)) (named : List (NamedItem Key)) (key : Key) (index : IsIndex is_writer use_name items named) (first : IsFirstUnder P named key) where
  pub first_writer : (o : Option Kept) → o ≡ value_at items key → IfSome o (IsFirstWriter P items)
  first_writer None is = tt
  first_writer (Some file) is =
      let at = found_at is_writer use_name items named first.name key file index first.there (sym is) in
      record {
        key = key;
        there = sym is;
        writes = at.so;
        so = subst P (sym at.is) first.so;
        first = λ k other there so holds.
            let under = index.all k other there so in
            let Q : List ℕ → Type 0 = λ q. IsNotBelow (use_name (open_of other)) q in
            subst Q (sym at.is) (first.first (use_name (open_of other)) holds (rw under refl));
      }

  pub some_writer : (o : Option Kept) → o ≡ value_at items key → IfNone o (IsNoWriter P items)
  some_writer None is = let at = index.only first.name key first.there in absurd (let some = at.there in cc)
  some_writer (Some file) is = tt

-- ---- the order of names

-- what two names begin with alike does not order them
behind : (p a b : List ℕ) → IsNotBelow (p ++ a) (p ++ b) → IsNotBelow a b
behind [] a b not_below = not_below
behind (x ∷ p) a b not_below = behind p a b (rw (tied_itself nat_cmp_total x) at not_below)

-- two names that begin with other bytes, of one length, are in the order of these bytes
decided : (a b x y z : List ℕ) → length a ≡ length b → (a ≡ b → ⊥) → IsNotBelow (a ++ x) (b ++ y) → IsNotBelow (a ++ x) (b ++ z)
decided [] [] x y z same differs not_below = absurd (differs refl)
decided [] (b ∷ bs) x y z same differs not_below = absurd (omega arith)
decided (a ∷ at) [] x y z same differs not_below = absurd (omega arith)
decided (a ∷ at) (b ∷ bs) x y z same differs not_below =
    by_first (nat_cmp a b) refl (decided at bs x y z (omega arith)) not_below
  where
    by_first : (o : Ordering) → o ≡ nat_cmp a b → ((at ≡ bs → ⊥) → IsNotBelow (at ++ x) (bs ++ y) → IsNotBelow (at ++ x) (bs ++ z))
        → IsNotBelow (a ∷ (at ++ x)) (b ∷ (bs ++ y)) → IsNotBelow (a ∷ (at ++ x)) (b ∷ (bs ++ z))
    by_first Less is rest not_below = absurd (let no = rw (← is) at not_below in cc)
    by_first Equal is rest not_below =
        let same : a ≡ b = ranked a b Equal is in
        rw (← is) (rest (λ tails. differs (ap (λ h. h ∷ at) same ∙ ap (λ l. b ∷ l) tails)) (rw (← is) at not_below))
    by_first Greater is rest not_below = rw (← is) refl

-- no number's bytes come after the greatest ones
not_past : (n : ℕ) → n < 2 ^ 32 → IsNotBelow (number_bytes n []) (255 ∷ 255 ∷ 255 ∷ 255 ∷ 0 ∷ []) → ⊥
not_past n small not_below =
    let fourth : Ordering = ordering_then (nat_cmp (n % 256) 255) Less in
    let third : Ordering = ordering_then (nat_cmp (n / 256 % 256) 255) fourth in
    let second : Ordering = ordering_then (nat_cmp (n / 65536 % 256) 255) third in
    elim (level (n / 16777216) 255 second (nat_cmp (n / 16777216) 255) refl not_below) [
      | inl above ↦ absurd (omega arith)
      | inr same ↦
          elim (level (n / 65536 % 256) 255 third (nat_cmp (n / 65536 % 256) 255) refl same.1) [
            | inl above ↦ absurd (omega arith)
            | inr same ↦
                elim (level (n / 256 % 256) 255 fourth (nat_cmp (n / 256 % 256) 255) refl same.1) [
                  | inl above ↦ absurd (omega arith)
                  | inr same ↦
                      elim (level (n % 256) 255 Less (nat_cmp (n % 256) 255) refl same.1) [
                        | inl above ↦ absurd (omega arith)
                        | inr same ↦ absurd (let less = same.1 in cc)
                      ]
                ]
          ]
    ]

-- ---- another transaction that writes
-- the parts of the test
pub record IsOther (who : Option Id) (node : ℕ) (o : OpenFile) : Type 0 where
  pub transacted : is_some o.transaction ≡ true
  pub other : same_group o.transaction who ≡ false
  pub writes : is_writer o ≡ true
  pub on : eqb o.node node ≡ true

pub other_from : (who : Option Id) (node : ℕ) (o : OpenFile) → is_other_writer who node o ≡ true → IsOther who node o
other_from who node o so =
    let last = and_parts (is_some o.transaction && not (same_group o.transaction who) && writes o.access) (eqb o.node node) so in
    let mid = and_parts (is_some o.transaction && not (same_group o.transaction who)) (writes o.access) last.0 in
    let first = and_parts (is_some o.transaction) (not (same_group o.transaction who)) mid.0 in
    record { transacted = first.0; other = not-true (same_group o.transaction who) first.1; writes = mid.1; on = last.1 }

pub other_to : (who : Option Id) (node : ℕ) (o : OpenFile) → IsOther who node o → is_other_writer who node o ≡ true
other_to who node o is =
    and_from (is_some o.transaction && not (same_group o.transaction who) && writes o.access) (eqb o.node node)
    (and_from (is_some o.transaction && not (same_group o.transaction who)) (writes o.access)
    (and_from (is_some o.transaction) (not (same_group o.transaction who)) is.transacted (not_from_false (same_group o.transaction who) is.other)) is.writes) is.on

abbrev pub transacted : ℕ → List ℕ
transacted node = long_bytes node (1 ∷ [])

begins_other : (who : Option Id) (node : ℕ) (o : OpenFile) → IsOther who node o → Begins (transacted node) (use_name o)
begins_other who node o is = begins_transacted node o (and_from (is_some o.transaction) (eqb o.node node) is.transacted is.on)

module _ (items : List (Item Kept)) (who : Option Id) (node : ℕ) (distinct : AreDistinct items) where
  -- no transaction writes
  pub none_at_all : IsNoWriter (Begins (transacted node)) items → false ≡ list_any (is_other_writer who node) (opens_of items)
  none_at_all none =
      sym (none_passes (is_other_writer who node) items distinct (λ key e there so.
      let is = other_from who node (open_of e) so in
      none key e there is.writes (begins_other who node (open_of e) is)))

  -- the first that writes is another
  pub first_is_other : (first : Kept) → IsFirstWriter (Begins (transacted node)) items first → same_group first.transaction who ≡ false
      → true ≡ list_any (is_other_writer who node) (opens_of items)
  first_is_other first is other =
      let parts = and_parts (is_some first.transaction) (eqb first.node node) (transacted_begins node (open_of first) is.so) in
      sym (any_from (is_other_writer who node) items is.key first is.there
      (other_to who node (open_of first) (record { transacted = parts.0; other = other; writes = is.writes; on = parts.1 })))

  module _ (first : Kept) (is_first : IsFirstWriter (Begins (transacted node)) items first) (own : same_group first.transaction who ≡ true) where
    -- another comes behind all those of this transaction
    beyond : (key : Key) (e : Kept) → value_at items key ≡ Some e → IsOther who node (open_of e) → IsNotBelow (use_name (open_of e)) (past node who)
    beyond key e there is =
        let begins = begins_other who node (open_of e) is in
        let high = is_first.first key e there is.writes begins in
        let first_node : first.node ≡ node = eqb-true first.node node (and_parts (is_some first.transaction) (eqb first.node node) (transacted_begins node (open_of first) is_first.so)).1 in
        let e_node : e.node ≡ node = eqb-true e.node node is.on in
        let first_name : use_name (open_of first) ≡ long_bytes node (group_bytes who (number_name (open_of first))) =
        ap (λ n. long_bytes n (group_bytes first.transaction (number_name (open_of first)))) first_node
        ∙ ap (λ g. long_bytes node (group_bytes g (number_name (open_of first)))) (same_group-true first.transaction who own) in
        let e_name : use_name (open_of e) ≡ long_bytes node (group_bytes e.transaction (number_name (open_of e))) =
        ap (λ n. long_bytes n (group_bytes e.transaction (number_name (open_of e)))) e_node in
        let P : List ℕ → Type 0 = λ q. IsNotBelow (use_name (open_of e)) q in
        let Q : List ℕ → Type 0 = λ q. IsNotBelow q (long_bytes node (group_bytes who (number_name (open_of first)))) in
        let R : List ℕ → Type 0 = λ q. IsNotBelow q (past node who) in
        let apart : long_bytes node (group_bytes e.transaction []) ≡ long_bytes node (group_bytes who []) → ⊥ = λ same.
        let groups = node_leaves node node (group_bytes e.transaction []) (group_bytes who []) same in
        let is_same = group_tells e.transaction who [] [] groups in
        absurd (let no = is.other in cc) in
        subst R (sym e_name)
        (decided (long_bytes node (group_bytes e.transaction [])) (long_bytes node (group_bytes who [])) (number_name (open_of e)) (number_name (open_of first)) (255 ∷ 255 ∷ 255 ∷ 255 ∷ 0 ∷ [])
        refl apart (subst Q e_name (subst P first_name high)))

    -- none comes behind them
    pub none_behind : IsNoWriter (λ q. IsNotBelow q (past node who)) items → false ≡ list_any (is_other_writer who node) (opens_of items)
    none_behind none =
        sym (none_passes (is_other_writer who node) items distinct (λ key e there so.
        let is = other_from who node (open_of e) so in
        none key e there is.writes (beyond key e there is)))

    who_some : (who : Option Id) → same_group first.transaction who ≡ true → (id : Id) × (who ≡ Some id)
    who_some None same =
        let parts = and_parts (is_some first.transaction) (eqb first.node node) (transacted_begins node (open_of first) is_first.so) in
        let none : first.transaction ≡ None = same_group-true first.transaction None same in
        absurd (let some = rw none at parts.0 in cc)
    who_some (Some id) same = (id, refl)

    -- what comes behind them on the node is another
    is_behind : (next : Kept) → next.number < 2 ^ 32 → IsNotBelow (use_name (open_of next)) (past node who) → next.node ≡ node
        → (is_some next.transaction ≡ true) × (same_group next.transaction who ≡ false)
    is_behind next small high same =
        let P : ℕ → Type 0 = λ n. IsNotBelow (long_bytes n (group_bytes next.transaction (number_name (open_of next)))) (past node who) in
        let groups : IsNotBelow (group_bytes next.transaction (number_name (open_of next))) (group_bytes who (255 ∷ 255 ∷ 255 ∷ 255 ∷ 0 ∷ [])) =
        behind (long_bytes node []) (group_bytes next.transaction (number_name (open_of next))) (group_bytes who (255 ∷ 255 ∷ 255 ∷ 255 ∷ 0 ∷ [])) (subst P same high) in
        let some = who_some who own in
        let Q : Option Id → Type 0 = λ w. IsNotBelow (group_bytes next.transaction (number_name (open_of next))) (group_bytes w (255 ∷ 255 ∷ 255 ∷ 255 ∷ 0 ∷ [])) in
        (in_one next.transaction (number_name (open_of next)) some.0 (subst Q some.1 groups), apart groups)
      where
        in_one : (g : Option Id) (rest : List ℕ) (id : Id) → IsNotBelow (group_bytes g rest) (group_bytes (Some id) (255 ∷ 255 ∷ 255 ∷ 255 ∷ 0 ∷ [])) → is_some g ≡ true
        in_one None rest id not_below = absurd (let no = not_below in cc)
        in_one (Some g) rest id not_below = refl

        apart : IsNotBelow (group_bytes next.transaction (number_name (open_of next))) (group_bytes who (255 ∷ 255 ∷ 255 ∷ 255 ∷ 0 ∷ [])) → same_group next.transaction who ≡ false
        apart not_below =
            elim (cases_Bool (same_group next.transaction who)) [
              | inr differs ↦ differs
              | inl is_same ↦
                  let R : Option Id → Type 0 = λ g. IsNotBelow (group_bytes g (number_name (open_of next))) (group_bytes who (255 ∷ 255 ∷ 255 ∷ 255 ∷ 0 ∷ [])) in
                  absurd
                  (not_past next.number small
                  (behind (group_bytes who []) (number_name (open_of next)) (255 ∷ 255 ∷ 255 ∷ 255 ∷ 0 ∷ []) (subst R (same_group-true next.transaction who is_same) not_below)))
            ]

    -- the next one behind them tells whether another writes the node
    pub next_tells : (next : Kept) → next.number < 2 ^ 32 → IsFirstWriter (λ q. IsNotBelow q (past node who)) items next
        → (next.node == node) ≡ list_any (is_other_writer who node) (opens_of items)
    next_tells next small is =
        elim (cases_Bool (eqb next.node node)) [
          | inl same ↦
              let parts = is_behind next small is.so (eqb-true next.node node same) in
              same
              ∙ sym (any_from (is_other_writer who node) items is.key next is.there
              (other_to who node (open_of next) (record { transacted = parts.0; other = parts.1; writes = is.writes; on = same })))
          | inr differs ↦
              differs
              ∙ sym (none_passes (is_other_writer who node) items distinct (λ key e there so.
              let e_is = other_from who node (open_of e) so in
              let begins = begins_other who node (open_of e) e_is in
              let high = is.first key e there e_is.writes (beyond key e there e_is) in
              let P : List ℕ → Type 0 = λ q. IsNotBelow q (use_name (open_of next)) in
              let low = not_below_upto (use_name (open_of next)) (past node who) (transacted node) is.so (past_begins who own) in
              let between = begins_between (transacted node) begins.after (use_name (open_of next)) low (subst P begins.is high) in
              let parts = and_parts (is_some next.transaction) (eqb next.node node) (transacted_begins node (open_of next) between) in
              absurd (let yes = parts.1 in cc)))
        ]
      where
        past_begins : (w : Option Id) → same_group first.transaction w ≡ true → IsNotBelow (past node w) (transacted node)
        past_begins w w_own =
            let some = who_some w w_own in
            let Q : Option Id → Type 0 = λ g. IsNotBelow (past node g) (transacted node) in
            subst Q (sym some.1)
            (begins_not_below (transacted node) (number_bytes some.0.boot (number_bytes some.0.number (255 ∷ 255 ∷ 255 ∷ 255 ∷ 0 ∷ []))))
