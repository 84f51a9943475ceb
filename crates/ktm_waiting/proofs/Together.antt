-- What transactions take together, as one comes and another goes.
use Rattle.std.proofs.Common.{◌≡◌, ℕ, ◌+◌, ◌-◌, ◌^◌, ◌<◌, ◌≤◌, ◌||◌, not, Bool, true, false, List, [], ◌∷◌, ◌++◌, Option, Some, None, length, map, filter, count_by, is_none, is_some, nat_le, refl, sym, ◌∙◌, ap, subst, arith, inl, inr, ◌⊎◌, length-append}
use Rattle.std.specs.List.{list_any}
use Rattle.std.proofs.lemmas.Bool.{and_from, cases_Bool, le-leb, true≢false}
use Rattle.std.proofs.lemmas.List.{append-nil}
use Rattle.std.proofs.lemmas.Option.{none-some, same_Some}
use Rattle.ktm_base.specs.declared.id.Id.{Id}
use Rattle.ktm_keyed.specs.declared.keyed.Keyed.{Keyed}
use Rattle.ktm_world.specs.declared.change.Change.{Change}
use Rattle.ktm_world.specs.declared.event.DonePart.{DonePart}
use Rattle.ktm_world.specs.declared.event.Part.{Part}
use Rattle.ktm_world.specs.declared.event.Part.TheVariants.{Enlistment, Changes, Settings}
use Rattle.ktm_world.specs.declared.recorded.RecordedPart.{RecordedPart}
use Rattle.ktm_world.specs.declared.recorded.Stage.{Stage}
use Rattle.ktm_world.specs.declared.recorded.Superior.{Superior}
use Rattle.ktm_world.specs.Changes.{changes_apply, changes_bytes, has_changes, nodes_made}
use Rattle.ktm_world.specs.Durable.{Recorded, changes_in, changes_of, emptied_part, enlistments_in, enlistments_of, is_before, is_decided, is_of_enlistment, is_part_of, parts_done, recorded_at, recorded_or_new, settings_in, settings_of, superior_ids, while_not_done, with_recorded, without_recorded}
use Rattle.ktm_world.specs.Keys.{OwnSettings}
use Rattle.ktm_world.specs.Transactions.{same_id}
use Rattle.ktm_world.specs.Tree.{Tree}
use Rattle.txf_laws.proofs.offered.Sums.{count-append}
use Rattle.txf_laws.proofs.offered.Tables.{Rises, fresh, recorded_at-found, rises-first, rises-rest, same_id-equal}
use Rattle.txf_laws.proofs.offered.Parts.{gathered, gathered-map, gathered-push}
use Rattle.ktm_waiting.specs.declared.amounts.Amounts.{Amounts}
use Rattle.ktm_waiting.specs.Table.{decided_in, finished_in, held_for, with_one_part}
use Rattle.ktm_waiting.specs.Totals.{AllApply, AreKeptOver, IsAmountAt, IsAmountOf, PassImages, TakeTogether, amounts_in, enlisted_at, enlistments_alone, nothing}
use Rattle.ktm_waiting.specs.Waiting.{amounts_of, fits_in, limits, minus, plus, total, units_waiting_in}
use Rattle.ktm_waiting.proofs.Fitting.{total-cons}
use Rattle.ktm_waiting.proofs.offered.Reserving.{at-with-itself}
use Rattle.ktm_waiting.proofs.offered.TableSteps.{absent-without, gone, none-other, or-new, or-new-id, or_new, with-without}

-- ---- amounts

turned : (x y z : ℕ) → x + (y + z) ≡ y + (x + z)
turned x y z = omega arith

plus-turned : (a b c : Amounts) → plus a (plus b c) ≡ plus b (plus a c)
plus-turned a b c = λ i. record {
  units = turned a.units b.units c.units i;
  nodes = turned a.nodes b.nodes c.nodes i;
  keys = turned a.keys b.keys c.keys i;
  changes = turned a.changes b.changes c.changes i;
  enlistments = turned a.enlistments b.enlistments c.enlistments i;
}

grouped : (x y z : ℕ) → x + (y + z) ≡ (x + y) + z
grouped x y z = omega arith

plus-grouped : (a b c : Amounts) → plus a (plus b c) ≡ plus (plus a b) c
plus-grouped a b c = λ i. record {
  units = grouped a.units b.units c.units i;
  nodes = grouped a.nodes b.nodes c.nodes i;
  keys = grouped a.keys b.keys c.keys i;
  changes = grouped a.changes b.changes c.changes i;
  enlistments = grouped a.enlistments b.enlistments c.enlistments i;
}

last : (x y z : ℕ) → (x + y) + z ≡ (x + z) + y
last x y z = omega arith

plus-last : (a b c : Amounts) → plus (plus a b) c ≡ plus (plus a c) b
plus-last a b c = λ i. record {
  units = last a.units b.units c.units i;
  nodes = last a.nodes b.nodes c.nodes i;
  keys = last a.keys b.keys c.keys i;
  changes = last a.changes b.changes c.changes i;
  enlistments = last a.enlistments b.enlistments c.enlistments i;
}

none-first : (x : ℕ) → 0 + x ≡ x
none-first x = omega arith

none-last : (x : ℕ) → x + 0 ≡ x
none-last x = omega arith

plus-nothing : (a : Amounts) → plus nothing a ≡ a
plus-nothing a = λ i. record { units = none-first a.units i; nodes = none-first a.nodes i; keys = none-first a.keys i; changes = none-first a.changes i; enlistments = none-first a.enlistments i }

behind-nothing : (a : Amounts) → plus a nothing ≡ a
behind-nothing a = λ i. record { units = none-last a.units i; nodes = none-last a.nodes i; keys = none-last a.keys i; changes = none-last a.changes i; enlistments = none-last a.enlistments i }

without-first : (x y : ℕ) → (x + y) - x ≡ y
without-first x y = omega arith

minus-first : (a b : Amounts) → minus (plus a b) a ≡ b
minus-first a b = λ i. record {
  units = without-first a.units b.units i;
  nodes = without-first a.nodes b.nodes i;
  keys = without-first a.keys b.keys i;
  changes = without-first a.changes b.changes i;
  enlistments = without-first a.enlistments b.enlistments i;
}

without-none : (x : ℕ) → x - 0 ≡ x
without-none x = omega arith

minus-nothing : (a : Amounts) → minus a nothing ≡ a
minus-nothing a = λ i. record { units = without-none a.units i; nodes = without-none a.nodes i; keys = without-none a.keys i; changes = without-none a.changes i; enlistments = without-none a.enlistments i }

below : (x y : ℕ) → nat_le x (x + y) ≡ true
below x y = le-leb x (x + y) (omega arith)

fits-first : (a b : Amounts) → fits_in a (plus a b) ≡ true
fits-first a b =
    and_from _ _ (and_from _ _ (and_from _ _ (and_from _ _ (below a.units b.units) (below a.nodes b.nodes)) (below a.keys b.keys)) (below a.changes b.changes)) (below a.enlistments b.enlistments)

fits-nothing : (a : Amounts) → fits_in nothing a ≡ true
fits-nothing a = subst (λ (b : Amounts). fits_in nothing b ≡ true) (plus-nothing a) (fits-first nothing a)

-- ---- all of them

pub together-total : (tree : Tree) (a : Amounts) (ts : List Recorded) → TakeTogether a ts → AllApply tree ts → a ≡ total tree ts
together-total tree a [] none apply = none
together-total tree a (t ∷ ts) (b, c, is, rest, sum) apply =
    sum ∙ (λ i. plus (is tree (apply t (inl refl)) i) (together-total tree c ts rest (λ u there. apply u (inr there)) i)) ∙ sym (total-cons tree t ts)

-- one of them, and the others
pub record IsOut (a : Amounts) (ts : List Recorded) (id : Id) (t : Recorded) : Type 0 where
  pub this : Amounts
  pub others : Amounts
  pub is : IsAmountOf this t
  pub rest : TakeTogether others (without_recorded ts id)
  pub sum : a ≡ plus this others

taken-out : (a : Amounts) (ts : List Recorded) (id : Id) (t : Recorded) → Rises ts → TakeTogether a ts → recorded_at ts id ≡ Some t → IsOut a ts id t
taken-out a [] id t rises all found = absurd (none-some t found)
taken-out a (x ∷ ts) id t rises (b, c, is, rest, sum) found = elim (cases_Bool (same_id x.id id)) [
  | inl same ↦
      let this : x ≡ t = same_Some x t (rw same at found) in
      let alone : without_recorded ts id ≡ ts = none-other ts id (λ u there. subst (λ (i : Id). is_before i u.id ≡ true) (same_id-equal x.id id same) (rises-first x ts rises u there)) in
      record { this = b; others = c; is = subst (IsAmountOf b) this is; rest = rw same (subst (TakeTogether c) (sym alone) rest); sum = sum }
  | inr other ↦
      let out = taken-out c ts id t (rises-rest x ts rises) rest (rw other at found) in
      record { this = out.this; others = plus b out.others; is = out.is; rest = rw other (b, out.others, is, out.rest, refl); sum = sum ∙ ap (plus b) out.sum ∙ plus-turned b out.this out.others }
]

-- a transaction, of which perhaps nothing is recorded, and the others
known-out : (a : Amounts) (ts : List Recorded) (id : Id) → Rises ts → TakeTogether a ts → IsOut a ts id (recorded_or_new ts id)
known-out a ts id rises all = go (recorded_at ts id) refl
  where
    go : (o : Option Recorded) → recorded_at ts id ≡ o → IsOut a ts id (recorded_or_new ts id)
    go None none =
        let new : recorded_or_new ts id ≡ fresh id = or-new ts id ∙ ap (or_new id) none in
        record {
          this = nothing;
          others = a;
          is = subst (IsAmountOf nothing) (sym new) (λ tree apply. refl);
          rest = subst (TakeTogether a) (sym (absent-without ts id (sym none))) all;
          sum = sym (plus-nothing a);
        }
    go (Some t) found = subst (IsOut a ts id) (sym (or-new ts id ∙ ap (or_new id) found)) (taken-out a ts id t rises all found)

-- one comes that was not there
pub put-in : (a : Amounts) (us : List Recorded) (t : Recorded) (b : Amounts) → TakeTogether a us → recorded_at us t.id ≡ None → IsAmountOf b t → TakeTogether (plus b a) (with_recorded us t)
put-in a [] t b all none is = (b, nothing, is, refl, ap (plus b) all)
put-in a (x ∷ us) t b (d, c, this, rest, sum) none is = elim (cases_Bool (same_id x.id t.id)) [
  | inl same ↦ absurd (none-some x (sym (rw same at none)))
  | inr other ↦ elim (cases_Bool (is_before t.id x.id)) [
    | inl before ↦ rw (other, before) (b, a, is, (d, c, this, rest, sum), refl)
    | inr behind ↦ rw (other, behind) (d, plus b c, this, put-in c us t b rest (rw other at none) is, ap (plus b) sum ∙ plus-turned b d c)
  ]
]

-- one comes in the place of the one with its Id
put-for : (a : Amounts) (ts : List Recorded) (id : Id) (t u : Recorded) (b : Amounts) (out : IsOut a ts id t) → Rises ts → u.id ≡ id → IsAmountOf b u → TakeTogether (plus b out.others) (with_recorded ts u)
put-for a ts id t u b out rises same is =
    subst (TakeTogether (plus b out.others)) (ap (λ (i : Id). with_recorded (without_recorded ts i) u) (sym same) ∙ with-without ts u rises)
    (put-in out.others (without_recorded ts id) u b out.rest (gone ts (without_recorded ts id) id u.id refl same) is)

-- one takes more than it did
with-more : (a p : Amounts) (ts : List Recorded) (id : Id) (u : Recorded) → Rises ts → TakeTogether a ts → u.id ≡ id → ((b : Amounts) → IsAmountOf b (recorded_or_new ts id) → IsAmountOf (plus b p) u)
    → TakeTogether (plus a p) (with_recorded ts u)
with-more a p ts id u rises all same more =
    let out = known-out a ts id rises all in
    subst (λ (x : Amounts). TakeTogether x (with_recorded ts u)) (plus-last out.this p out.others ∙ ap (λ (x : Amounts). plus x p) (sym out.sum))
    (put-for a ts id (recorded_or_new ts id) u (plus out.this p) out rises same (more out.this out.is))

-- ---- a part more

-- what changes, settings and enlistments take that wait
abbrev amounts_by : Tree → List Change → OwnSettings → ℕ → Amounts
amounts_by tree cs ss n = record {
  units = units_waiting_in tree cs;
  nodes = nodes_made cs;
  keys = count_by (λ setting. is_some setting.value) ss;
  changes = count_by (λ change. not (changes_bytes change)) cs + count_by (λ setting. is_none setting.value) ss;
  enlistments = n;
}

waits-by : (tree : Tree) (t : Recorded) → is_decided t.stage ≡ false → amounts_of tree t ≡ amounts_by tree (changes_of t) (settings_of t) (length (enlistments_of t))
waits-by tree t waits = rw waits refl

both-by : (tree : Tree) (cs ds : List Change) (ss rs : OwnSettings) (n m : ℕ) → (cs ≡ []) ⊎ (ds ≡ []) → plus (amounts_by tree cs ss n) (amounts_by tree ds rs m) ≡ amounts_by tree (cs ++ ds) (ss ++ rs) (n + m)
both-by tree cs ds ss rs n m (inl none) =
    let keys = count-append (λ (s : Keyed (Option (List ℕ))). is_some s.value) ss rs in
    ap (λ (l : List Change). plus (amounts_by tree l ss n) (amounts_by tree ds rs m)) none ∙ (λ i. record {
      units = none-first (units_waiting_in tree ds) i;
      nodes = none-first (nodes_made ds) i;
      keys = sym keys i;
      changes = unset i;
      enlistments = n + m;
    }) ∙ ap (λ (l : List Change). amounts_by tree (l ++ ds) (ss ++ rs) (n + m)) (sym none)
  where
    unset : (0 + count_by (λ (s : Keyed (Option (List ℕ))). is_none s.value) ss) + (count_by (λ (c : Change). not (changes_bytes c)) ds + count_by (λ (s : Keyed (Option (List ℕ))). is_none s.value) rs)
        ≡ count_by (λ (c : Change). not (changes_bytes c)) ds + count_by (λ (s : Keyed (Option (List ℕ))). is_none s.value) (ss ++ rs)
    unset = omega (arith, count-append (λ (s : Keyed (Option (List ℕ))). is_none s.value) ss rs)
both-by tree cs ds ss rs n m (inr none) =
    let keys = count-append (λ (s : Keyed (Option (List ℕ))). is_some s.value) ss rs in
    ap (λ (l : List Change). plus (amounts_by tree cs ss n) (amounts_by tree l rs m)) none ∙ (λ i. record {
      units = none-last (units_waiting_in tree cs) i;
      nodes = none-last (nodes_made cs) i;
      keys = sym keys i;
      changes = unset i;
      enlistments = n + m;
    }) ∙ ap (λ (l : List Change). amounts_by tree l (ss ++ rs) (n + m)) (sym (append-nil cs)) ∙ ap (λ (l : List Change). amounts_by tree (cs ++ l) (ss ++ rs) (n + m)) (sym none)
  where
    unset : (count_by (λ (c : Change). not (changes_bytes c)) cs + count_by (λ (s : Keyed (Option (List ℕ))). is_none s.value) ss) + (0 + count_by (λ (s : Keyed (Option (List ℕ))). is_none s.value) rs)
        ≡ count_by (λ (c : Change). not (changes_bytes c)) cs + count_by (λ (s : Keyed (Option (List ℕ))). is_none s.value) (ss ++ rs)
    unset = omega (arith, count-append (λ (s : Keyed (Option (List ℕ))). is_none s.value) ss rs)

-- a part is so much
abbrev pub IsAmountIn : Amounts → Part → Type 0
IsAmountIn p part = (tree : Tree) → changes_apply tree (changes_in part) ≡ true → p ≡ amounts_in tree part

no-changes : (cs : List Change) → has_changes cs ≡ false → cs ≡ []
no-changes [] none = refl
no-changes (c ∷ cs) none = absurd (true≢false none)

part-more : (t : Recorded) (part : Part) (p b : Amounts) → is_decided t.stage ≡ false → (has_changes (changes_in part) ≡ true → changes_of t ≡ []) → IsAmountIn p part → IsAmountOf b t → IsAmountOf (plus b p) (with_one_part t part)
part-more t part p b waits first in_part is tree apply = go (cases_Bool (has_changes (changes_in part)))
  where
    u : Recorded
    u = with_one_part t part

    q : RecordedPart
    q = record { is_done = false; part = part }

    changes : changes_of u ≡ changes_of t ++ changes_in part
    changes = gathered-push changes_in t.parts q

    enlistments : length (enlistments_of u) ≡ length (enlistments_of t) + length (enlistments_in part)
    enlistments =
        let all = length-append (superior_ids t.superior) (gathered enlistments_in (t.parts ++ q ∷ [])) in
        let few = length-append (superior_ids t.superior) (gathered enlistments_in t.parts) in
        let more = ap length (gathered-push enlistments_in t.parts q) ∙ length-append (gathered enlistments_in t.parts) (enlistments_in part) in
        omega (arith, all, few, more)

    whole : (changes_of t ≡ []) ⊎ (changes_in part ≡ []) → changes_apply tree (changes_of t) ≡ true → changes_apply tree (changes_in part) ≡ true → plus b p ≡ amounts_of tree u
    whole none one other =
        (λ i. plus ((is tree one ∙ waits-by tree t waits) i) (in_part tree other i))
        ∙ both-by tree (changes_of t) (changes_in part) (settings_of t) (settings_in part) (length (enlistments_of t)) (length (enlistments_in part)) none
        ∙ (λ i. amounts_by tree (sym changes i) (sym (gathered-push settings_in t.parts q) i) (sym enlistments i))
        ∙ sym (waits-by tree u waits)

    go : (has_changes (changes_in part) ≡ true) ⊎ (has_changes (changes_in part) ≡ false) → plus b p ≡ amounts_of tree u
    go (inl some) =
        let none = first some in
        whole (inl none) (subst (λ (cs : List Change). changes_apply tree cs ≡ true) (sym none) refl) (ap (changes_apply tree) (sym (changes ∙ ap (λ (cs : List Change). cs ++ changes_in part) none)) ∙ apply)
    go (inr few) =
        let none = no-changes (changes_in part) few in
        whole (inr none) (ap (changes_apply tree) (sym (changes ∙ ap (λ (cs : List Change). changes_of t ++ cs) none ∙ append-nil (changes_of t))) ∙ apply) (subst (λ (cs : List Change). changes_apply tree cs ≡ true) (sym none) refl)

-- ---- a superior

superior-more : (t : Recorded) (superior : Superior) (b : Amounts) → is_decided t.stage ≡ false → IsAmountOf b t → IsAmountOf (plus b (enlistments_alone (1 - length (superior_ids t.superior)))) (held_for t superior)
superior-more t superior b waits is tree apply =
    ap (λ (x : Amounts). plus x (enlistments_alone (1 - length (superior_ids t.superior)))) (is tree apply ∙ waits-by tree t waits)
    ∙ (λ i. record {
      units = none-last (units_waiting_in tree (changes_of t)) i;
      nodes = none-last (nodes_made (changes_of t)) i;
      keys = none-last (count_by (λ (s : Keyed (Option (List ℕ))). is_some s.value) (settings_of t)) i;
      changes = none-last (count_by (λ (c : Change). not (changes_bytes c)) (changes_of t) + count_by (λ (s : Keyed (Option (List ℕ))). is_none s.value) (settings_of t)) i;
      enlistments = one t.superior (gathered enlistments_in t.parts) i;
    })
  where
    one : (o : Option Superior) (es : List Id) → length (superior_ids o ++ es) + (1 - length (superior_ids o)) ≡ length (superior_ids (Some superior) ++ es)
    one None es = omega arith
    one (Some s) es = omega arith

-- ---- one that is decided

decided-amount : (u : Recorded) → is_decided u.stage ≡ true → IsAmountOf (enlistments_alone (length (enlistments_of u))) u
decided-amount u decided tree apply = rw decided refl

module _ (a before : Amounts) (ts : List Recorded) (id : Id) (rises : Rises ts) (all : TakeTogether a ts) (tree : Tree) (kept : AreKeptOver tree ts) (is : IsAmountAt before (recorded_at ts id)) where
  -- what one takes is that
  record Found (t : Recorded) : Type 0 where
    out : IsOut a ts id t
    same : before ≡ out.this

  found-out : (t : Recorded) → recorded_at ts id ≡ Some t → Found t
  found-out t found =
      let apply = (kept t (recorded_at-found ts id t found).0).apply in
      let out = taken-out a ts id t rises all found in
      let amount = subst (IsAmountAt before) found is in
      record { out = out; same = amount tree apply ∙ sym (out.is tree apply) }

  left : (t : Recorded) (f : Found t) → minus a before ≡ f.out.others
  left t f = (λ i. minus (f.out.sum i) (f.same i)) ∙ minus-first f.out.this f.out.others

  none-left : recorded_at ts id ≡ None → minus a before ≡ a
  none-left none = (λ i. minus a (subst (IsAmountAt before) none is i)) ∙ minus-nothing a

  -- what it takes is within what all take
  pub at-fits : fits_in before a ≡ true
  at-fits = go (recorded_at ts id) refl
    where
      go : (o : Option Recorded) → recorded_at ts id ≡ o → fits_in before a ≡ true
      go None none = ap (λ (b : Amounts). fits_in b a) (subst (IsAmountAt before) none is) ∙ fits-nothing a
      go (Some t) found = let f = found-out t found in (λ i. fits_in (f.same i) (f.out.sum i)) ∙ fits-first f.out.this f.out.others

  -- without it
  pub at-forgotten : TakeTogether (minus a before) (without_recorded ts id)
  at-forgotten = go (recorded_at ts id) refl
    where
      go : (o : Option Recorded) → recorded_at ts id ≡ o → TakeTogether (minus a before) (without_recorded ts id)
      go None none = subst (λ (x : Amounts). TakeTogether x (without_recorded ts id)) (sym (none-left none)) (subst (TakeTogether a) (sym (absent-without ts id (sym none))) all)
      go (Some t) found = let f = found-out t found in subst (λ (x : Amounts). TakeTogether x (without_recorded ts id)) (sym (left t f)) f.out.rest

  -- what all take once it is decided
  abbrev after : List Recorded → Amounts
  after us = plus (enlistments_alone (enlisted_at (recorded_at us id))) (minus a before)

  while-decided : (t u : Recorded) → recorded_at ts id ≡ Some t → u.id ≡ id → is_decided u.stage ≡ true → TakeTogether (after (while_not_done ts u)) (while_not_done ts u)
  while-decided t u found same decided = elim (cases_Bool (list_any (λ (p : RecordedPart). not p.is_done) u.parts)) [
    | inl stays ↦
        let there : recorded_at (with_recorded ts u) id ≡ Some u = ap (recorded_at (with_recorded ts u)) (sym same) ∙ at-with-itself ts u in
        rw stays (subst (λ (x : Amounts). TakeTogether x (with_recorded ts u)) (λ i. plus (enlistments_alone (enlisted_at (sym there i))) (sym (left t f) i))
        (put-for a ts id t u (enlistments_alone (length (enlistments_of u))) f.out rises same (decided-amount u decided)))
    | inr over ↦
        let absent : recorded_at (without_recorded ts u.id) id ≡ None = gone ts (without_recorded ts u.id) id id (ap (without_recorded ts) same) refl in
        rw over (subst (λ (x : Amounts). TakeTogether x (without_recorded ts u.id)) (sym (plus-nothing f.out.others) ∙ (λ i. plus (enlistments_alone (enlisted_at (sym absent i))) (sym (left t f) i)))
        (subst (λ (i : Id). TakeTogether f.out.others (without_recorded ts i)) (sym same) f.out.rest))
  ]
    where
      f : Found t
      f = found-out t found

  while-few : (t u : Recorded) → recorded_at ts id ≡ Some t → u.id ≡ id → length (enlistments_of u) ≤ length (enlistments_of t) → enlisted_at (recorded_at (while_not_done ts u) id) ≤ before.enlistments
  while-few t u found same few = elim (cases_Bool (list_any (λ (p : RecordedPart). not p.is_done) u.parts)) [
    | inl stays ↦
        let there : recorded_at (with_recorded ts u) id ≡ Some u = ap (recorded_at (with_recorded ts u)) (sym same) ∙ at-with-itself ts u in
        rw (stays, there) (omega (arith, few, many))
    | inr over ↦
        let absent : recorded_at (without_recorded ts u.id) id ≡ None = gone ts (without_recorded ts u.id) id id (ap (without_recorded ts) same) refl in
        rw (over, absent) (omega arith)
  ]
    where
      many : before.enlistments ≡ length (enlistments_of t)
      many =
          let apply = (kept t (recorded_at-found ts id t found).0).apply in
          ap (λ (x : Amounts). x.enlistments) (subst (IsAmountAt before) found is tree apply)

  -- it is decided
  pub at-decided : TakeTogether (after (decided_in ts (recorded_at ts id))) (decided_in ts (recorded_at ts id))
  at-decided = go (recorded_at ts id) refl
    where
      go : (o : Option Recorded) → recorded_at ts id ≡ o → TakeTogether (after (decided_in ts o)) (decided_in ts o)
      go None none = subst (λ (x : Amounts). TakeTogether x ts) (sym ((λ i. plus (enlistments_alone (enlisted_at (none i))) (none-left none i)) ∙ plus-nothing a)) all
      go (Some t) found = while-decided t (record t { stage = Stage.Decided; parts = map emptied_part t.parts }) found (recorded_at-found ts id t found).1 refl

  pub at-decided-few : enlisted_at (recorded_at (decided_in ts (recorded_at ts id)) id) ≤ before.enlistments
  at-decided-few = go (recorded_at ts id) refl
    where
      emptied-same : (p : RecordedPart) → enlistments_in (emptied_part p).part ≡ enlistments_in p.part
      emptied-same p = of p.part
        where
          of : (part : Part) → enlistments_in (emptied_part (record { is_done = p.is_done; part = part })).part ≡ enlistments_in part
          of (Enlistment enlistment manager information) = refl
          of (Changes changes) = refl
          of (Settings settings) = refl

      go : (o : Option Recorded) → recorded_at ts id ≡ o → enlisted_at (recorded_at (decided_in ts o) id) ≤ before.enlistments
      go None none = rw none (omega arith)
      go (Some t) found =
          let same = ap (λ (es : List Id). length (superior_ids t.superior ++ es)) (gathered-map enlistments_in emptied_part emptied-same t.parts) in
          while-few t (record t { stage = Stage.Decided; parts = map emptied_part t.parts }) found (recorded_at-found ts id t found).1 (omega (arith, same))

  -- a participant of it is done
  module _ (done : DonePart) (decided : (t : Recorded) → recorded_at ts id ≡ Some t → is_decided t.stage ≡ true) where
    pub at-finished : TakeTogether (after (finished_in ts done (recorded_at ts id))) (finished_in ts done (recorded_at ts id))
    at-finished = go (recorded_at ts id) refl
      where
        go : (o : Option Recorded) → recorded_at ts id ≡ o → TakeTogether (after (finished_in ts done o)) (finished_in ts done o)
        go None none = subst (λ (x : Amounts). TakeTogether x ts) (sym ((λ i. plus (enlistments_alone (enlisted_at (none i))) (none-left none i)) ∙ plus-nothing a)) all
        go (Some t) found = while-decided t (record t { parts = parts_done done t.parts }) found (recorded_at-found ts id t found).1 (decided t found)

    pub at-finished-few : enlisted_at (recorded_at (finished_in ts done (recorded_at ts id)) id) ≤ before.enlistments
    at-finished-few = go (recorded_at ts id) refl
      where
        fewer : (keep : RecordedPart → Bool) (ps : List RecordedPart) → length (gathered enlistments_in (filter keep ps)) ≤ length (gathered enlistments_in ps)
        fewer keep [] = omega arith
        fewer keep (p ∷ ps) =
            let rest = fewer keep ps in
            let all' = length-append (enlistments_in p.part) (gathered enlistments_in ps) in
            elim (cases_Bool (keep p)) [
              | inl is_kept ↦ rw is_kept (let some = length-append (enlistments_in p.part) (gathered enlistments_in (filter keep ps)) in omega (arith, rest, all', some))
              | inr out ↦ rw out (omega (arith, rest, all'))
            ]

        less : (ps : List RecordedPart) → length (gathered enlistments_in (parts_done done ps)) ≤ length (gathered enlistments_in ps)
        less ps = elim (cases_Bool (is_of_enlistment done)) [
          | inl one ↦ rw one (fewer (λ p. not (is_part_of done p.part)) ps)
          | inr other ↦
              let same = ap length (gathered-map enlistments_in (λ (p : RecordedPart). record p { is_done = p.is_done || is_part_of done p.part }) (λ p. refl) ps) in
              rw other (omega (arith, same))
        ]

        go : (o : Option Recorded) → recorded_at ts id ≡ o → enlisted_at (recorded_at (finished_in ts done o) id) ≤ before.enlistments
        go None none = rw none (omega arith)
        go (Some t) found =
            let some = length-append (superior_ids t.superior) (gathered enlistments_in (parts_done done t.parts)) in
            let most = length-append (superior_ids t.superior) (gathered enlistments_in t.parts) in
            while-few t (record t { parts = parts_done done t.parts }) found (recorded_at-found ts id t found).1 (omega (arith, less t.parts, some, most))

-- ---- those that are ready

-- what is left once those of some that are ready are taken off
pub record IsLeft (ready : Recorded → Bool) (a : Amounts) (ts us : List Recorded) : Type 0 where
  pub stay : Amounts
  pub go : Amounts
  pub of_stay : TakeTogether stay (filter (λ t. not (ready t)) ts)
  pub of_go : TakeTogether go (filter ready us)
  pub sum : a ≡ plus stay go

pub left-first : (ready : Recorded → Bool) (a : Amounts) (ts : List Recorded) → TakeTogether a ts → IsLeft ready a ts ts
left-first ready a [] none = record { stay = nothing; go = nothing; of_stay = refl; of_go = refl; sum = none }
left-first ready a (t ∷ ts) (b, c, is, rest, sum) =
    let left = left-first ready c ts rest in
    elim (cases_Bool (ready t)) [
      | inl goes ↦ record {
        stay = left.stay;
        go = plus b left.go;
        of_stay = rw goes left.of_stay;
        of_go = rw goes (b, left.go, is, left.of_go, refl);
        sum = sum ∙ ap (plus b) left.sum ∙ plus-turned b left.stay left.go;
      }
      | inr stays ↦ record {
        stay = plus b left.stay;
        go = left.go;
        of_stay = rw stays (b, left.stay, is, left.of_stay, refl);
        of_go = rw stays left.of_go;
        sum = sum ∙ ap (plus b) left.sum ∙ plus-grouped b left.stay left.go;
      }
    ]

left-ready : (ready : Recorded → Bool) (a p : Amounts) (tree : Tree) (ts us : List Recorded) (t : Recorded) → IsLeft ready a ts (t ∷ us) → ready t ≡ true → changes_apply tree (changes_of t) ≡ true → IsAmountOf p t
    → (fits_in p a ≡ true) × IsLeft ready (minus a p) ts us
left-ready ready a p tree ts us t left goes apply is = go (rw goes at left.of_go)
  where
    go : TakeTogether left.go (t ∷ filter ready us) → (fits_in p a ≡ true) × IsLeft ready (minus a p) ts us
    go (b, c, this, rest, sum) =
        let same : p ≡ b = is tree apply ∙ sym (this tree apply) in
        let whole : a ≡ plus b (plus left.stay c) = left.sum ∙ ap (plus left.stay) sum ∙ plus-turned left.stay b c in (
          (λ i. fits_in (same i) (whole i)) ∙ fits-first b (plus left.stay c),
          record {
            stay = left.stay;
            go = c;
            of_stay = left.of_stay;
            of_go = rest;
            sum = (λ i. minus (whole i) (same i)) ∙ minus-first b (plus left.stay c);
          },
        )

left-other : (ready : Recorded → Bool) (a : Amounts) (ts us : List Recorded) (t : Recorded) → IsLeft ready a ts (t ∷ us) → ready t ≡ false → IsLeft ready a ts us
left-other ready a ts us t left stays = record { stay = left.stay; go = left.go; of_stay = left.of_stay; of_go = rw stays at left.of_go; sum = left.sum }

pub left-next : (ready : Recorded → Bool) (a p : Amounts) (tree : Tree) (ts us : List Recorded) (t : Recorded) → IsLeft ready a ts (t ∷ us) → changes_apply tree (changes_of t) ≡ true
    → (ready t ≡ true → IsAmountOf p t) → (ready t ≡ false → p ≡ nothing) → (fits_in p a ≡ true) × IsLeft ready (minus a p) ts us
left-next ready a p tree ts us t before apply is none = elim (cases_Bool (ready t)) [
  | inl goes ↦ left-ready ready a p tree ts us t before goes apply (is goes)
  | inr stays ↦ (
    ap (λ (b : Amounts). fits_in b a) (none stays) ∙ fits-nothing a,
    subst (λ (x : Amounts). IsLeft ready x ts us) (sym (minus-nothing a) ∙ ap (minus a) (sym (none stays))) (left-other ready a ts us t before stays),
  )
]

pub left-last : (ready : Recorded → Bool) (a : Amounts) (ts : List Recorded) → IsLeft ready a ts [] → TakeTogether a (filter (λ t. not (ready t)) ts)
left-last ready a ts left =
    subst (λ (x : Amounts). TakeTogether x (filter (λ t. not (ready t)) ts)) (sym (left.sum ∙ ap (plus left.stay) left.of_go ∙ behind-nothing left.stay)) left.of_stay

-- ---- what is told of them

-- with a part more
pub part-together : (a p : Amounts) (ts : List Recorded) (id : Id) (part : Part) → Rises ts → TakeTogether a ts → is_decided (recorded_or_new ts id).stage ≡ false
    → (has_changes (changes_in part) ≡ true → changes_of (recorded_or_new ts id) ≡ []) → IsAmountIn p part → TakeTogether (plus a p) (with_recorded ts (with_one_part (recorded_or_new ts id) part))
part-together a p ts id part rises all waits first in_part =
    with-more a p ts id (with_one_part (recorded_or_new ts id) part) rises all (or-new-id ts id) (λ b is. part-more (recorded_or_new ts id) part p b waits first in_part is)

-- with a superior
pub superior-together : (a : Amounts) (ts : List Recorded) (id : Id) (superior : Superior) → Rises ts → TakeTogether a ts → is_decided (recorded_or_new ts id).stage ≡ false
    → TakeTogether (plus a (enlistments_alone (1 - length (superior_ids (recorded_or_new ts id).superior)))) (with_recorded ts (held_for (recorded_or_new ts id) superior))
superior-together a ts id superior rises all waits =
    with-more a (enlistments_alone (1 - length (superior_ids (recorded_or_new ts id).superior))) ts id (held_for (recorded_or_new ts id) superior) rises all (or-new-id ts id) (λ b is. superior-more (recorded_or_new ts id) superior b waits is)

-- for more than an image has room for there is none
pub too-many : (a : Amounts) (ts : List Recorded) → TakeTogether a ts → ((units : ℕ) → units < 2 ^ 32 → fits_in a (limits units) ≡ false) → PassImages ts
too-many a ts all past tree apply units small = ap (λ (b : Amounts). fits_in b (limits units)) (sym (together-total tree a ts all apply)) ∙ past units small
