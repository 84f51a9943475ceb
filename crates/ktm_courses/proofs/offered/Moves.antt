-- A transaction on its way: what its steps leave of the enlistments, and what they send and record.
use Rattle.std.proofs.Common.{◌≡◌, ℕ, ◌≤◌, ◌&&◌, not, Bool, true, false, List, [], ◌∷◌, ◌++◌, map, filter, Some, refl, sym, ◌∙◌, ap, subst, inl, inr, ◌⊎◌, find, Option, None, arith}
use Rattle.std.specs.Prelude.{if◌then◌else◌}
use Rattle.std.proofs.lemmas.Bool.{cases_Bool, true≢false}
use Rattle.std.proofs.lemmas.List.{map-id}
use Rattle.std.proofs.lemmas.Option.{none-some, same_Some}
use Rattle.std.proofs.lemmas.Simd.{map-map}
use Rattle.ktm_base.specs.declared.id.Id.{Id}
use Rattle.ktm_base.specs.declared.notify.Notify.{Notify}
use Rattle.ktm_world.specs.declared.event.Event.{Event}
use Rattle.ktm_world.specs.declared.event.Event.TheVariants.{Boot}
use Rattle.ktm_world.specs.declared.object.Transaction.{Transaction}
use Rattle.ktm_world.specs.Committed.{Work}
use Rattle.ktm_world.specs.Enlistments.{Enlistment, Sent, is_superior, takes_part, with_enlistments, tell, superior_of}
use Rattle.ktm_world.specs.Phases.{Course, telling, unchanged}
use Rattle.ktm_world.specs.Transactions.{same_id}
use Rattle.txf_laws.specs.Elements.{IsIn, each_pair}
use Rattle.ktm_courses.specs.SoundCourse.{is_last_recover, is_idle, is_unrecovered_well}
use Rattle.txf_laws.proofs.offered.Lists.{IsIn-cases, IsIn-unmap}
use Rattle.ktm_world.specs.Durable.{is_before}
use Rattle.ktm_steps.proofs.offered.Staying.{Stays, stays, stays-then}
use Rattle.txf_laws.proofs.offered.Elements.{IsIn-filter, each_pair-either}
use Rattle.txf_laws.proofs.offered.Tables.{before_other}
use Rattle.ktm_world.specs.Steps.{lasting, lasting_of}
use Rattle.ktm_steps.proofs.offered.Ways.{if_cases}

-- what holds where one of two is taken
pub if_parts : (b x y : Bool) → (if b then x else y) ≡ true → ((b ≡ true) × (x ≡ true)) ⊎ ((b ≡ false) × (y ≡ true))
if_parts true x y is = inl (refl, is)
if_parts false x y is = inr (refl, is)

pub if_first : (b x y : Bool) → b ≡ true → x ≡ true → (if b then x else y) ≡ true
if_first true x y is first = first
if_first false x y is first = absurd (true≢false (sym is))

pub if_second : (b x y : Bool) → b ≡ false → y ≡ true → (if b then x else y) ≡ true
if_second true x y is second = absurd (true≢false is)
if_second false x y is second = second

pub IsIn-map : {A B : Type 0} (f : A → B) (x : A) (xs : List A) → IsIn x xs → IsIn (f x) (map f xs)
IsIn-map f x [] there = absurd there
IsIn-map f x (y ∷ ys) (inl e) = inl (ap f e)
IsIn-map f x (y ∷ ys) (inr there) = inr (IsIn-map f x ys there)

-- the first that passes a test is there, and passes
pub find-found : {X : Type 0} (test : X → Bool) (xs : List X) (x : X) → find test xs ≡ Some x → IsIn x xs × (test x ≡ true)
find-found test [] x found = absurd (none-some x found)
find-found test (y ∷ ys) x found = elim (cases_Bool (test y)) [
  | inl is ↦ let e : y ≡ x = same_Some y x (rw is at found) in (inl e, subst (λ z. test z ≡ true) e is)
  | inr other ↦ let rest = find-found test ys x (rw other at found) in (inr rest.0, rest.1)
]

-- what is so of each superior is so of the one that is read when it is recorded
pub of-superior : (P : Enlistment → Type 0) (es : List Enlistment) (id : Id) → ((e : Enlistment) → IsIn e es → (same_id e.transaction id && is_superior e) ≡ true → P (lasting e)) → (f : Enlistment) → lasting_of (superior_of es id) ≡ Some f → P f
of-superior P es id each f = go (superior_of es id) refl
  where
    go : (o : Option Enlistment) → superior_of es id ≡ o → lasting_of o ≡ Some f → P f
    go None found is = absurd (none-some f is)
    go (Some e) found is = let at = find-found _ es e found in subst P (same_Some (lasting e) f is) (each e at.0 at.1)

-- ---- by rising Ids

-- those with one Id are one
pub same-by_id : {X : Type 0} (id_of : X → Id) (xs : List X) → each_pair (λ x y. is_before (id_of x) (id_of y)) xs ≡ true → (x y : X) → IsIn x xs → IsIn y xs → id_of x ≡ id_of y → x ≡ y
same-by_id id_of xs rise x y there there' same = elim (each_pair-either (λ x y. is_before (id_of x) (id_of y)) xs rise x y there there') [
  | inl e ↦ e
  | inr (inl before) ↦ absurd (before_other (id_of x) (id_of y) before same)
  | inr (inr before) ↦ absurd (before_other (id_of y) (id_of x) before (sym same))
]

-- ---- enlistments

-- both are one enlistment, at steps that may differ
pub record IsSame (e f : Enlistment) : Type 0 where
  pub id : f.id ≡ e.id
  pub manager : f.manager ≡ e.manager
  pub transaction : f.transaction ≡ e.transaction
  pub kind : f.kind ≡ e.kind
  pub information : f.information ≡ e.information

pub IsSame-refl : (e : Enlistment) → IsSame e e
IsSame-refl e = record { id = refl; manager = refl; transaction = refl; kind = refl; information = refl }

pub IsSame-then : {e f g : Enlistment} → IsSame e f → IsSame f g → IsSame e g
IsSame-then a b = record { id = b.id ∙ a.id; manager = b.manager ∙ a.manager; transaction = b.transaction ∙ a.transaction; kind = b.kind ∙ a.kind; information = b.information ∙ a.information }

-- it is the same enlistment, and it is or is not read-only as before
pub record IsAlike (e f : Enlistment) : Type 0 where
  pub same : IsSame e f
  pub read_only : f.is_read_only ≡ e.is_read_only

-- one that takes part does so as before
pub takes_part-alike : (id : Id) (e f : Enlistment) → IsAlike e f → takes_part id f ≡ takes_part id e
takes_part-alike id e f alike i =
    takes_part id (record e { transaction = ((alike.same).transaction) i; kind = ((alike.same).kind) i; is_read_only = (alike.read_only) i })

-- ---- what is sent and recorded

-- a notification that tells an enlistment something
pub record IsTold (es : List Enlistment) (s : Sent) : Type 0 where
  pub enlistment : Enlistment
  pub there : IsIn enlistment es
  pub manager : s.manager ≡ enlistment.manager
  pub note : (s.note).enlistment ≡ Some enlistment.id
  pub kind : is_last_recover (s.note).kind ≡ false

-- is it the event of a boot
abbrev pub is_boot : Event → Bool
is_boot (Boot boot) = true
is_boot _ = false

-- no boot is recorded
pub record NoBoots (events : List Event) : Type 0 where
  pub none : (event : Event) → IsIn event events → is_boot event ≡ false

pub NoBoots-append : {a b : List Event} → NoBoots a → NoBoots b → NoBoots (a ++ b)
NoBoots-append {a} {b} first second = record { none = λ event there. elim (IsIn-cases event a b there) [ inl left ↦ first.none event left | inr right ↦ second.none event right ] }

pub NoBoots-none : NoBoots []
NoBoots-none = record { none = λ event there. absurd there }

pub NoBoots-one : (event : Event) → is_boot event ≡ false → NoBoots (event ∷ [])
NoBoots-one event is = record { none = λ other there. elim there [ inl e ↦ subst (λ x. is_boot x ≡ false) e is | inr none ↦ absurd none ] }

-- ---- steps

-- what was changed of enlistments: those of the transaction, each of which is the same, and recovered where it is changed
pub record Moves (c d : Course) : Type 0 where
  pub step : Enlistment → Enlistment
  pub is : d.enlistments ≡ map step c.enlistments
  pub same : (e : Enlistment) → IsSame e (step e)
  pub others : (e : Enlistment) → IsIn e c.enlistments → same_id e.transaction (c.transaction).id ≡ false → step e ≡ e
  pub recovered : (e : Enlistment) → IsIn e c.enlistments → (step e ≡ e) ⊎ ((step e).is_recovered ≡ true)

-- a transaction has gone on, and it sent what a transaction on its way does
pub record Moved (c d : Course) : Type 0 where
  pub stays : Stays c d
  pub enlistments : Moves c d
  pub sent : (s : Sent) → IsIn s d.sent → IsIn s c.sent ⊎ IsTold c.enlistments s

-- no enlistment is changed
moves-none : (c d : Course) → d.enlistments ≡ c.enlistments → Moves c d
moves-none c d same = record { step = λ e. e; is = same ∙ sym (map-id c.enlistments); same = IsSame-refl; others = λ e there other. refl; recovered = λ e there. inl refl }

IsTold-back : (es : List Enlistment) (step : Enlistment → Enlistment) → ((e : Enlistment) → IsSame e (step e)) → (s : Sent) → IsTold (map step es) s → IsTold es s
IsTold-back es step same s told =
    let from = IsIn-unmap step told.enlistment es told.there in
    let alike = same from.0 in
    record {
      enlistment = from.0;
      there = from.2;
      manager = told.manager ∙ ap (λ (e : Enlistment). e.manager) (sym from.1) ∙ alike.manager;
      note = told.note ∙ ap (λ (e : Enlistment). Some e.id) (sym from.1) ∙ ap Some alike.id;
      kind = told.kind;
    }

-- one move after another
moves-then : (c d e : Course) → Stays c d → Moves c d → Moves d e → Moves c e
moves-then c d e stays a b = record {
  step = λ x. b.step (a.step x);
  is = b.is ∙ ap (map b.step) a.is ∙ map-map b.step a.step c.enlistments;
  same = λ x. IsSame-then (a.same x) (b.same (a.step x));
  others = λ x there other.
      b.others (a.step x) (in_d x there) (subst (λ id. same_id (a.step x).transaction id ≡ false) (sym stays.id) (subst (λ id. same_id id (c.transaction).id ≡ false) (sym (a.same x).transaction) other))
      ∙ a.others x there other;
  recovered = λ x there. elim (b.recovered (a.step x) (in_d x there)) [
    | inl still ↦ elim (a.recovered x there) [ inl still' ↦ inl (still ∙ still') | inr recovered ↦ inr (ap (λ (y : Enlistment). y.is_recovered) still ∙ recovered) ]
    | inr recovered ↦ inr recovered
  ];
}
  where
    in_d : (x : Enlistment) → IsIn x c.enlistments → IsIn (a.step x) d.enlistments
    in_d x there = subst (λ es. IsIn (a.step x) es) (sym a.is) (IsIn-map a.step x c.enlistments there)

pub Moved-then : {c d e : Course} → Moved c d → Moved d e → Moved c e
Moved-then {c} {d} {e} first second = let a = first.enlistments in record {
  stays = stays-then c d e first.stays second.stays;
  enlistments = moves-then c d e first.stays a second.enlistments;
  sent = λ s there. elim (second.sent s there) [
    | inl before ↦ first.sent s before
    | inr told ↦ inr (IsTold-back c.enlistments a.step a.same s (subst (λ es. IsTold es s) a.is told))
  ];
}

-- of the transaction itself something else is so, and events and works are recorded
pub moved-still : (c : Course) (t : Transaction) (events : List Event) (works : List Work) → t.id ≡ (c.transaction).id → t.created ≤ (c.transaction).created → Moved c (record c { transaction = t; events = events; works = works })
moved-still c t events works id created = record {
  stays = record { id = id; created = created; managers = refl; changes = refl; settings = refl; caller = refl };
  enlistments = moves-none c (record c { transaction = t; events = events; works = works }) refl;
  sent = λ s there. inl there;
}

pub moved-transaction : (c : Course) (t : Transaction) → t.id ≡ (c.transaction).id → t.created ≤ (c.transaction).created → Moved c (record c { transaction = t })
moved-transaction c t = moved-still c t c.events c.works

-- enlistments that pass a test are changed
abbrev pub stepped : (Enlistment → Bool) → (Enlistment → Enlistment) → Enlistment → Enlistment
stepped test f e = if test e then f e else e

-- of what is told, each change
pub record Changes (c : Course) (test : Enlistment → Bool) (f : Enlistment → Enlistment) : Type 0 where
  pub own : (e : Enlistment) → IsIn e c.enlistments → test e ≡ true → same_id e.transaction (c.transaction).id ≡ true
  pub same : (e : Enlistment) → IsSame e (f e)
  pub recovered : (e : Enlistment) → IsIn e c.enlistments → test e ≡ true → (f e ≡ e) ⊎ ((f e).is_recovered ≡ true)

-- its enlistments are changed, and sent something or nothing
pub moved-changing : (c : Course) (test : Enlistment → Bool) (f : Enlistment → Enlistment) (sent : List Sent) → Changes c test f
    → ((s : Sent) → IsIn s sent → IsIn s c.sent ⊎ IsTold c.enlistments s)
    → Moved c (record c { sent = sent; enlistments = with_enlistments test f c.enlistments })
moved-changing c test f sent changes told = record {
  stays = record { id = refl; created = omega arith; managers = refl; changes = refl; settings = refl; caller = refl };
  enlistments = record {
    step = stepped test f;
    is = refl;
    same = λ e. if_cases (λ x. IsSame e x) (test e) (f e) e (λ is. changes.same e) (λ is. IsSame-refl e);
    others = λ e there other. if_cases (λ x. x ≡ e) (test e) (f e) e (λ is. absurd (true≢false (sym (changes.own e there is) ∙ other))) (λ is. refl);
    recovered = λ e there. if_cases (λ (x : Enlistment). (x ≡ e) ⊎ (x.is_recovered ≡ true)) (test e) (f e) e (λ is. changes.recovered e there is) (λ is. inl refl);
  };
  sent = told;
}

told-in : (c : Course) (test : Enlistment → Bool) (kind : Notify) → is_last_recover kind ≡ false → (s : Sent) → IsIn s (c.sent ++ map (tell kind) (filter test c.enlistments)) → IsIn s c.sent ⊎ IsTold c.enlistments s
told-in c test kind other s there = elim (IsIn-cases s c.sent (map (tell kind) (filter test c.enlistments)) there) [
  | inl before ↦ inl before
  | inr new ↦
      let from = IsIn-unmap (tell kind) s (filter test c.enlistments) new in
      inr (record {
        enlistment = from.0;
        there = (IsIn-filter test c.enlistments from.0 from.2).0;
        manager = ap (λ (s : Sent). s.manager) (sym from.1);
        note = ap (λ (s : Sent). (s.note).enlistment) (sym from.1);
        kind = subst (λ (s : Sent). is_last_recover (s.note).kind ≡ false) from.1 other;
      })
]

pub moved-telling : (c : Course) (test : Enlistment → Bool) (kind : Notify) (f : Enlistment → Enlistment) → is_last_recover kind ≡ false → Changes c test f → Moved c (telling c test kind f)
moved-telling c test kind f other changes = moved-changing c test f (c.sent ++ map (tell kind) (filter test c.enlistments)) changes (told-in c test kind other)

-- who is told, and not changed
pub with-unchanged : (test : Enlistment → Bool) (es : List Enlistment) → with_enlistments test unchanged es ≡ es
with-unchanged test [] = refl
with-unchanged test (e ∷ es) = λ i. (if_cases (λ x. x ≡ e) (test e) e e (λ is. refl) (λ is. refl)) i ∷ with-unchanged test es i

pub changes-none : (c : Course) (test : Enlistment → Bool) → ((e : Enlistment) → IsIn e c.enlistments → test e ≡ true → same_id e.transaction (c.transaction).id ≡ true) → Changes c test unchanged
changes-none c test own = record { own = own; same = IsSame-refl; recovered = λ e there is. inl refl }

-- an enlistment that is not recovered stays one that was brought back
pub unrecovered-moved : (c d : Course) (boot : ℕ) → Moved c d → ((e : Enlistment) → IsIn e c.enlistments → is_unrecovered_well boot c.managers e ≡ true)
    → (e : Enlistment) → IsIn e d.enlistments → is_unrecovered_well boot d.managers e ≡ true
unrecovered-moved c d boot moved all e there =
    let from = IsIn-unmap moved.enlistments.step e c.enlistments (subst (λ es. IsIn e es) moved.enlistments.is there) in
    subst (λ ms. is_unrecovered_well boot ms e ≡ true) (sym moved.stays.managers) (subst (λ x. is_unrecovered_well boot c.managers x ≡ true) from.1 (elim (moved.enlistments.recovered from.0 from.2) [
      | inl still ↦ subst (λ x. is_unrecovered_well boot c.managers x ≡ true) (sym still) (all from.0 from.2)
      | inr recovered ↦ rw recovered refl
    ]))

-- ---- those of the transaction

-- what a superior is, or one that is read-only
abbrev pub is_bystander : Enlistment → Bool
is_bystander e = is_idle e && not (is_superior e && e.is_read_only)

-- those that take part pass the test, and the others of the transaction give no answers
pub record Stand (es : List Enlistment) (id : Id) (test : Enlistment → Bool) : Type 0 where
  pub others : (e : Enlistment) → IsIn e es → same_id e.transaction id ≡ true → takes_part id e ≡ false → is_bystander e ≡ true
  pub parts : (e : Enlistment) → IsIn e es → takes_part id e ≡ true → test e ≡ true

-- those that take part are changed, and no other
pub Stand-with : (es : List Enlistment) (id : Id) (before after told : Enlistment → Bool) (f : Enlistment → Enlistment) → Stand es id before
    → ((e : Enlistment) → IsIn e es → told e ≡ true → takes_part id e ≡ true) → ((e : Enlistment) → IsAlike e (f e))
    → ((e : Enlistment) → IsIn e es → takes_part id e ≡ true → before e ≡ true → told e ≡ true → after (f e) ≡ true)
    → ((e : Enlistment) → IsIn e es → takes_part id e ≡ true → before e ≡ true → told e ≡ false → after e ≡ true) → Stand (with_enlistments told f es) id after
Stand-with es id before after told f stand only alike changed left = record {
  others = λ e there own other.
      let from = IsIn-unmap (stepped told f) e es there in
      bystander e from.0 from.2 from.1 own other (cases_Bool (told from.0));
  parts = λ e there part.
      let from = IsIn-unmap (stepped told f) e es there in
      one e from.0 from.2 from.1 part (cases_Bool (told from.0));
}
  where
    bystander : (e x : Enlistment) → IsIn x es → stepped told f x ≡ e → same_id e.transaction id ≡ true → takes_part id e ≡ false → (told x ≡ true) ⊎ (told x ≡ false) → is_bystander e ≡ true
    bystander e x there is own other (inl told') =
        let e' : f x ≡ e = rw told' at is in
        absurd (true≢false (sym (only x there told') ∙ sym (takes_part-alike id x (f x) (alike x)) ∙ ap (takes_part id) e' ∙ other))
    bystander e x there is own other (inr silent) =
        let e' : x ≡ e = rw silent at is in
        subst (λ y. is_bystander y ≡ true) e' (stand.others x there (subst (λ (y : Enlistment). same_id y.transaction id ≡ true) (sym e') own) (ap (takes_part id) e' ∙ other))

    one : (e x : Enlistment) → IsIn x es → stepped told f x ≡ e → takes_part id e ≡ true → (told x ≡ true) ⊎ (told x ≡ false) → after e ≡ true
    one e x there is part (inl told') =
        let e' : f x ≡ e = rw told' at is in
        let part' : takes_part id x ≡ true = only x there told' in
        subst (λ y. after y ≡ true) e' (changed x there part' (stand.parts x there part') told')
    one e x there is part (inr silent) =
        let e' : x ≡ e = rw silent at is in
        let part' : takes_part id x ≡ true = ap (takes_part id) e' ∙ part in
        subst (λ y. after y ≡ true) e' (left x there part' (stand.parts x there part') silent)

-- they pass another test
pub Stand-as : (es : List Enlistment) (id : Id) (before after : Enlistment → Bool) → Stand es id before → ((e : Enlistment) → IsIn e es → takes_part id e ≡ true → before e ≡ true → after e ≡ true) → Stand es id after
Stand-as es id before after stand each = record { others = stand.others; parts = λ e there part. each e there part (stand.parts e there part) }
