-- Lemmas on what the open files of a group on a node do.
use Rattle.std.proofs.Common.{◌≡◌, ℕ, ◌==◌, ◌&&◌, ◌||◌, Bool, true, false, not, eqb, List, [], ◌∷◌, filter, Option, None, Some, is_some, is_none, refl, sym, ap, ◌∙◌, inl, inr}
use Rattle.std.specs.Bool.{MatchBool}
use Rattle.std.specs.List.{list_any}
use Rattle.std.proofs.lemmas.Bool.{cases_Bool, and_parts, and_from}
use Rattle.ktm_base.specs.declared.id.Id.{Id}
use Rattle.ktm_world.specs.declared.options.Access.{Access}
use Rattle.ktm_world.specs.declared.options.Access.TheVariants.{Read, Write, ReadWrite}
use Rattle.ktm_world.specs.declared.options.ShareMode.{ShareMode}
use Rattle.ktm_world.specs.Conflicts.{is_open_in, is_shared, lets_read, lets_write, opened_in, reads, same_group, violates_sharing, writes, written_by}
use Rattle.ktm_world.specs.Files.{OpenFile}
use Rattle.ktm_world.specs.Holds.{is_in}
use Rattle.ktm_world.specs.Transactions.{is_of}
use Rattle.ktm_links.specs.declared.list.Key.{Key}
use Rattle.ktm_links.specs.Items.{Item}
use Rattle.ktm_links.specs.Mapped.{NamedItem, Begins}
use Rattle.ktm_links.specs.Indexed.{AreDistinct, IsNoneUnder}
use Rattle.txf_opens.specs.declared.file.OpenFile.{OpenFile as Kept}
use Rattle.txf_opens.specs.Indexed.{opens_of, HasUnder, IsIndex}
use Rattle.ktm_links.specs.Numbers.{long_bytes}
use Rattle.txf_opens.specs.Names.{group_bytes, use_name}
use Rattle.txf_opens.proofs.Bytes.{begins_transacted, begins_use, is_of-group, same_group-true, transacted_begins, use_begins}
use Rattle.txf_opens.proofs.Found.{any_under}
use Rattle.txf_opens.proofs.Lists.{any-filter, any-map, any_or, any_same}

-- ---- whether one passes a test
pub any_and : (b : Bool) (f : OpenFile → Bool) (os : List OpenFile) → list_any (λ o. b && f o) os ≡ (b && list_any f os)
any_and true f os = refl
any_and false f [] = refl
any_and false f (o ∷ os) = any_and false f os

-- ---- by the maps
module _ (has : OpenFile → Bool) (items : List (Item Kept)) (named : List (NamedItem Key)) (index : IsIndex has use_name items named) (distinct : AreDistinct items) where
  pub in_group : (group : Option Id) (node : ℕ) (b : Bool) → MatchBool b (HasUnder (Begins (long_bytes node (group_bytes group []))) named) (IsNoneUnder (Begins (long_bytes node (group_bytes group []))) named)
      → b ≡ list_any has (opened_in (opens_of items) group node)
  in_group group node b told =
      any_under has use_name items named index distinct (λ o. (same_group o.transaction group && o.node == node) && has o) (long_bytes node (group_bytes group [])) b told
      (λ o so begins. and_from (same_group o.transaction group && eqb o.node node) (has o) (use_begins node group o begins) so)
      (λ o passes. (and_parts (same_group o.transaction group && eqb o.node node) (has o) passes).1)
      (λ o passes. begins_use node group o (and_parts (same_group o.transaction group && eqb o.node node) (has o) passes).0)
      ∙ sym (any-filter has (λ o. same_group o.transaction group && o.node == node) (opens_of items))

  pub in_transaction : (node : ℕ) (b : Bool) → MatchBool b (HasUnder (Begins (long_bytes node (1 ∷ []))) named) (IsNoneUnder (Begins (long_bytes node (1 ∷ []))) named)
      → b ≡ list_any (λ o. (is_some o.transaction && o.node == node) && has o) (opens_of items)
  in_transaction node b told =
      any_under has use_name items named index distinct (λ o. (is_some o.transaction && o.node == node) && has o) (long_bytes node (1 ∷ [])) b told
      (λ o so begins. and_from (is_some o.transaction && eqb o.node node) (has o) (transacted_begins node o begins) so)
      (λ o passes. (and_parts (is_some o.transaction && eqb o.node node) (has o) passes).1)
      (λ o passes. begins_transacted node o (and_parts (is_some o.transaction && eqb o.node node) (has o) passes).0)

-- ---- sharing
asked : (a l b m : Bool) → not ((not a || l) && (not b || m)) ≡ ((a && not l) || (b && not m))
asked false l false m = refl
asked false l true m = refl
asked true true false m = refl
asked true true true m = refl
asked true false b m = refl

asked_of : (a l b m : Bool) → not ((not a || l) && (not b || m)) ≡ ((not l && a) || (not m && b))
asked_of false true false true = refl
asked_of false true false false = refl
asked_of false true true true = refl
asked_of false true true false = refl
asked_of false false false true = refl
asked_of false false false false = refl
asked_of false false true true = refl
asked_of false false true false = refl
asked_of true true false true = refl
asked_of true true false false = refl
asked_of true true true true = refl
asked_of true true true false = refl
asked_of true false b m = refl

-- what is asked for is not shared exactly where a part of it is not
pub any_denying : (asks_read asks_write : Bool) (os : List OpenFile)
    → list_any (λ o. not (is_shared asks_read asks_write o.share)) os ≡ ((asks_read && list_any (λ o. not (lets_read o.share)) os) || (asks_write && list_any (λ o. not (lets_write o.share)) os))
any_denying r w os =
    any_same (λ o. not (is_shared r w o.share)) (λ o. (r && not (lets_read o.share)) || (w && not (lets_write o.share)))
    (λ o. asked r (lets_read o.share) w (lets_write o.share)) os
    ∙ any_or (λ o. r && not (lets_read o.share)) (λ o. w && not (lets_write o.share)) os
    ∙ ap (λ b. b || list_any (λ o. w && not (lets_write o.share)) os) (any_and r (λ o. not (lets_read o.share)) os)
    ∙ ap (λ b. (r && list_any (λ o. not (lets_read o.share)) os) || b) (any_and w (λ o. not (lets_write o.share)) os)

pub any_against : (mode : ShareMode) (os : List OpenFile)
    → list_any (λ o. not (is_shared (reads o.access) (writes o.access) mode)) os ≡ ((not (lets_read mode) && list_any (λ o. reads o.access) os) || (not (lets_write mode) && list_any (λ o. writes o.access) os))
any_against mode os =
    any_same (λ o. not (is_shared (reads o.access) (writes o.access) mode)) (λ o. (not (lets_read mode) && reads o.access) || (not (lets_write mode) && writes o.access))
    (λ o. asked_of (reads o.access) (lets_read mode) (writes o.access) (lets_write mode)) os
    ∙ any_or (λ o. not (lets_read mode) && reads o.access) (λ o. not (lets_write mode) && writes o.access) os
    ∙ ap (λ b. b || list_any (λ o. not (lets_write mode) && writes o.access) os) (any_and (not (lets_read mode)) (λ o. reads o.access) os)
    ∙ ap (λ b. (not (lets_read mode) && list_any (λ o. reads o.access) os) || b) (any_and (not (lets_write mode)) (λ o. writes o.access) os)

-- a violation, by what the one denies and what the other does
pub violated : (opens : List OpenFile) (group : Option Id) (node : ℕ) (access : Access) (truncates : Bool) (mode : ShareMode)
    → violates_sharing opens group node access truncates mode
    ≡ (list_any (λ o. not (is_shared (reads access) (writes access || truncates) o.share)) (opened_in opens group node) || list_any (λ o. not (is_shared (reads o.access) (writes o.access) mode)) (opened_in opens group node))
unfolding violates_sharing
violated opens group node access truncates mode =
    any_or (λ o. not (is_shared (reads access) (writes access || truncates) o.share)) (λ o. not (is_shared (reads o.access) (writes o.access) mode)) (opened_in opens group node)

-- each open file reads or writes
used : (access : Access) → true ≡ (reads access || writes access)
used Read = refl
used Write = refl
used ReadWrite = refl

pub opened : (opens : List OpenFile) (group : Option Id) (node : ℕ)
    → is_open_in opens group node ≡ (list_any (λ o. reads o.access) (opened_in opens group node) || list_any (λ o. writes o.access) (opened_in opens group node))
opened opens group node =
    any_same (λ o. true) (λ o. reads o.access || writes o.access) (λ o. used o.access) (opened_in opens group node)
    ∙ any_or (λ o. reads o.access) (λ o. writes o.access) (opened_in opens group node)

both_ways : (b : Bool) (access : Access) → b ≡ ((b && reads access) || (b && writes access))
both_ways true access = used access
both_ways false access = refl

pub opened_transacted : (opens : List OpenFile) (node : ℕ)
    → list_any (λ o. is_some o.transaction && o.node == node) opens
    ≡ (list_any (λ o. (is_some o.transaction && o.node == node) && reads o.access) opens || list_any (λ o. (is_some o.transaction && o.node == node) && writes o.access) opens)
opened_transacted opens node =
    any_same (λ o. is_some o.transaction && o.node == node)
    (λ o. ((is_some o.transaction && o.node == node) && reads o.access) || ((is_some o.transaction && o.node == node) && writes o.access))
    (λ o. both_ways (is_some o.transaction && o.node == node) o.access) opens
    ∙ any_or (λ o. (is_some o.transaction && o.node == node) && reads o.access) (λ o. (is_some o.transaction && o.node == node) && writes o.access) opens

-- ---- writers of one group
plain_group : (group : Option Id) → same_group group None ≡ is_none group
plain_group None = refl
plain_group (Some id) = refl

turned : (a b c : Bool) → ((a && b) && c) ≡ ((a && c) && b)
turned true true true = refl
turned true true false = refl
turned true false true = refl
turned true false false = refl
turned false b c = refl

pub plain_writer : (opens : List OpenFile) (node : ℕ)
    → list_any (λ o. writes o.access) (opened_in opens None node) ≡ list_any (λ o. is_none o.transaction && writes o.access && o.node == node) opens
plain_writer opens node =
    any-filter (λ o. writes o.access) (λ o. same_group o.transaction None && o.node == node) opens
    ∙ any_same (λ o. (same_group o.transaction None && o.node == node) && writes o.access) (λ o. is_none o.transaction && writes o.access && o.node == node)
    (λ o. ap (λ b. (b && o.node == node) && writes o.access) (plain_group o.transaction) ∙ turned (is_none o.transaction) (o.node == node) (writes o.access)) opens

pub turned_group : (a b : Option Id) → same_group a b ≡ same_group b a
turned_group a b =
    elim (cases_Bool (same_group a b)) [
      | inl same ↦
          let is = same_group-true a b same in
          same ∙ sym (ap (λ g. same_group g a) (sym is) ∙ ap (same_group a) is ∙ same)
      | inr differs ↦
          elim (cases_Bool (same_group b a)) [
            | inl same ↦
                let is = same_group-true b a same in
                absurd (let yes : same_group a b ≡ true = ap (λ g. same_group g b) (sym is) ∙ ap (same_group b) is ∙ same in cc)
            | inr other ↦ differs ∙ sym other
          ]
    ]

pub transaction_writer : (opens : List OpenFile) (id : Id) (node : ℕ) → list_any (λ o. writes o.access) (opened_in opens (Some id) node) ≡ is_in (written_by opens id) node
transaction_writer opens id node =
    any-filter (λ o. writes o.access) (λ o. same_group o.transaction (Some id) && o.node == node) opens
    ∙ any_same (λ o. (same_group o.transaction (Some id) && o.node == node) && writes o.access) (λ o. (is_of id o.transaction && writes o.access) && o.node == node)
    (λ o. ap (λ b. (b && o.node == node) && writes o.access) (turned_group o.transaction (Some id) ∙ sym (is_of-group id o.transaction))
    ∙ turned (is_of id o.transaction) (o.node == node) (writes o.access)) opens
    ∙ sym (any-filter (λ o. o.node == node) (λ o. is_of id o.transaction && writes o.access) opens)
    ∙ sym (any-map (λ m. m == node) (λ (o : OpenFile). o.node) (filter (λ o. is_of id o.transaction && writes o.access) opens))

-- ---- one after another
-- where the first part decides, the answer is its value
pub first_part : (v x y l : Bool) → v ≡ x → v ≡ true → l ≡ (x || y) → v ≡ l
first_part v x y l is so whole = so ∙ sym (whole ∙ ap (λ b. b || y) (sym is ∙ so))

-- where the first part does not decide, the answer is the value of the second
pub second_part : (v x y r l : Bool) → v ≡ x → v ≡ false → r ≡ y → l ≡ (x || y) → r ≡ l
second_part v x y r l is not_so last whole = last ∙ sym (whole ∙ ap (λ b. b || y) (sym is ∙ not_so))

pub both_parts : (a b r v : Bool) → a ≡ true → v ≡ r → r ≡ b → v ≡ (a && b)
both_parts a b r v so is last = is ∙ last ∙ ap (λ x. x && b) (sym so)

pub no_part : (a b v : Bool) → a ≡ false → v ≡ a → v ≡ (a && b)
no_part a b v not_so is = is ∙ not_so ∙ ap (λ x. x && b) (sym not_so)
