-- Transactions with their parts, as they stand in memory: one is changed, forgotten or added, with its parts.
use Rattle.std.proofs.Common.{◌≡◌, ◌||◌, not, Bool, true, false, List, [], ◌∷◌, ◌++◌, map, filter, Option, Some, None, refl, sym, ◌∙◌, ap, subst, inl, inr}
use Rattle.std.specs.Prelude.{if◌then◌else◌}
use Rattle.std.specs.List.{list_any}
use Rattle.std.proofs.lemmas.Bool.{cases_Bool}
use Rattle.std.proofs.lemmas.Option.{none-some}
use Rattle.ktm_base.specs.declared.id.Id.{Id}
use Rattle.ktm_world.specs.declared.event.DonePart.{DonePart}
use Rattle.ktm_world.specs.declared.recorded.RecordedPart.{RecordedPart}
use Rattle.ktm_world.specs.declared.recorded.Stage.{Stage}
use Rattle.ktm_world.specs.Durable.{Recorded}
use Rattle.ktm_world.specs.Transactions.{same_id}
use Rattle.txf_laws.proofs.offered.Tables.{same_id-equal, same_id-from, same_id-sym}
use Rattle.ktm_trace.specs.declared.heads.Head.{Head}
use Rattle.ktm_trace.specs.declared.marks.Mark.{Mark}
use Rattle.ktm_trace.specs.Joined.{AreJoined, has_undone_mark, head_id, head_or_new, is_mark_by, is_mark_of, joined, joined_all, mark_of, marked_part, marks_done, parts_at, without_marks}
use Rattle.ktm_trace.specs.Placed.{Rises, at_id, placed, without_id}
use Rattle.ktm_trace.specs.Traces.{Traced, TracedPart, id_of, marked, once_decided, once_done, once_held, once_ready, same_participant, stays_while_not_done, superior_id, traced, traced_or, traced_or_new, traced_part, with_ready, without_done}
use Rattle.ktm_trace.proofs.Placed.{absent-without, at-others, at-placed, found-id, made, map-at, map-filter, map-placed, map-rises, placed-without, rises-filter, rises-placed, taken-none}

-- ---- parts

pub appended : (ms ns : List Mark) (id : Id) → parts_at (ms ++ ns) id ≡ parts_at ms id ++ parts_at ns id
appended [] ns id = refl
appended (m ∷ ms) ns id = elim (cases_Bool (is_mark_of id m)) [
  | inl is ↦ rw is (ap (λ l. marked_part m ∷ l) (appended ms ns id))
  | inr other ↦ rw other (appended ms ns id)
]

-- the parts of the other transactions are as they were
abbrev pub KeepsOthers : List Mark → List Mark → Id → Type 0
KeepsOthers ms ns id = (i : Id) → same_id i id ≡ false → parts_at ns i ≡ parts_at ms i

-- a part of one is none of another
none-of : (m : Mark) (id i : Id) → is_mark_of id m ≡ true → same_id i id ≡ false → is_mark_of i m ≡ false
none-of m id i is other = ap (λ j. same_id j i) (same_id-equal m.transaction id is) ∙ same_id-sym i id other

append-none : {X : Type 0} (xs : List X) → xs ++ [] ≡ xs
append-none [] = refl
append-none (x ∷ xs) = ap (λ l. x ∷ l) (append-none xs)

added-itself : (ps : List RecordedPart) (id : Id) → parts_at (map (mark_of id) ps) id ≡ map traced_part ps
added-itself [] id = refl
added-itself (p ∷ ps) id = rw (same_id-from id id refl) (ap (λ l. traced_part p ∷ l) (added-itself ps id))

added-others : (ps : List RecordedPart) (id i : Id) → same_id i id ≡ false → parts_at (map (mark_of id) ps) i ≡ []
added-others [] id i other = refl
added-others (p ∷ ps) id i other = rw (same_id-sym i id other) (added-others ps id i other)

pushed-itself : (ms : List Mark) (id : Id) (is_done : Bool) (who : DonePart) → parts_at (ms ++ record { transaction = id; is_done = is_done; who = who } ∷ []) id ≡ parts_at ms id ++ record { is_done = is_done; who = who } ∷ []
pushed-itself ms id is_done who = appended ms (record { transaction = id; is_done = is_done; who = who } ∷ []) id ∙ rw (same_id-from id id refl) refl

pushed-others : (ms : List Mark) (id : Id) (is_done : Bool) (who : DonePart) → KeepsOthers ms (ms ++ record { transaction = id; is_done = is_done; who = who } ∷ []) id
pushed-others ms id is_done who i other = appended ms (record { transaction = id; is_done = is_done; who = who } ∷ []) i ∙ rw (same_id-sym i id other) (append-none (parts_at ms i))

forgotten-itself : (ms : List Mark) (id : Id) → parts_at (without_marks ms id) id ≡ []
forgotten-itself [] id = refl
forgotten-itself (m ∷ ms) id = elim (cases_Bool (is_mark_of id m)) [
  | inl is ↦ rw is (forgotten-itself ms id)
  | inr other ↦ rw (other, other) (forgotten-itself ms id)
]

forgotten-others : (ms : List Mark) (id : Id) → KeepsOthers ms (without_marks ms id) id
forgotten-others [] id i other = refl
forgotten-others (m ∷ ms) id i other = elim (cases_Bool (is_mark_of id m)) [
  | inl is ↦ rw (is, none-of m id i is other) (forgotten-others ms id i other)
  | inr differs ↦ elim (cases_Bool (is_mark_of i m)) [
    | inl it ↦ rw (differs, it) (ap (λ l. marked_part m ∷ l) (forgotten-others ms id i other))
    | inr its ↦ rw (differs, its) (forgotten-others ms id i other)
  ]
]

-- ---- a participant is done

taken-itself : (ms : List Mark) (id : Id) (done : DonePart) → parts_at (filter (λ m. not (is_mark_by id done m)) ms) id ≡ filter (λ (p : TracedPart). not (same_participant done p.who)) (parts_at ms id)
taken-itself [] id done = refl
taken-itself (m ∷ ms) id done = elim (cases_Bool (is_mark_of id m)) [
  | inr other ↦ rw (other, other) (taken-itself ms id done)
  | inl is ↦ elim (cases_Bool (same_participant done m.who)) [
    | inl by_him ↦ rw (is, by_him) (taken-itself ms id done)
    | inr not_by ↦ rw (is, not_by, is) (ap (λ l. marked_part m ∷ l) (taken-itself ms id done))
  ]
]

taken-others : (ms : List Mark) (id : Id) (done : DonePart) → KeepsOthers ms (filter (λ m. not (is_mark_by id done m)) ms) id
taken-others [] id done i other = refl
taken-others (m ∷ ms) id done i other = elim (cases_Bool (is_mark_of id m)) [
  | inr differs ↦ elim (cases_Bool (is_mark_of i m)) [
    | inl it ↦ rw (differs, it) (ap (λ l. marked_part m ∷ l) (taken-others ms id done i other))
    | inr its ↦ rw (differs, its) (taken-others ms id done i other)
  ]
  | inl is ↦ elim (cases_Bool (same_participant done m.who)) [
    | inl by_him ↦ rw (is, by_him, none-of m id i is other) (taken-others ms id done i other)
    | inr not_by ↦ rw (is, not_by, none-of m id i is other) (taken-others ms id done i other)
  ]
]

-- the part, marked where it is this participant's
abbrev pub done_of : Id → DonePart → Mark → Mark
done_of id done m = record m { is_done = m.is_done || is_mark_by id done m }

marked-itself : (ms : List Mark) (id : Id) (done : DonePart) → parts_at (map (done_of id done) ms) id ≡ map (marked done) (parts_at ms id)
marked-itself [] id done = refl
marked-itself (m ∷ ms) id done = elim (cases_Bool (is_mark_of id m)) [
  | inl is ↦ rw is (ap (λ l. marked done (marked_part m) ∷ l) (marked-itself ms id done))
  | inr other ↦ rw other (marked-itself ms id done)
]

or-none : (b : Bool) → (b || false) ≡ b
or-none true = refl
or-none false = refl

marked-others : (ms : List Mark) (id : Id) (done : DonePart) → KeepsOthers ms (map (done_of id done) ms) id
marked-others [] id done i other = refl
marked-others (m ∷ ms) id done i other = elim (cases_Bool (is_mark_of i m)) [
  | inl it ↦ rw (it, none-of m i id it (same_id-sym i id other), or-none m.is_done) (ap (λ l. marked_part m ∷ l) (marked-others ms id done i other))
  | inr its ↦ rw its (marked-others ms id done i other)
]

done-itself : (done : DonePart) (ms : List Mark) (id : Id) → parts_at (marks_done ms id done) id ≡ without_done done (parts_at ms id)
done-itself (DonePart.Enlistment e) ms id = taken-itself ms id (DonePart.Enlistment e)
done-itself DonePart.Files ms id = marked-itself ms id DonePart.Files
done-itself DonePart.Keys ms id = marked-itself ms id DonePart.Keys

done-others : (done : DonePart) (ms : List Mark) (id : Id) → KeepsOthers ms (marks_done ms id done) id
done-others (DonePart.Enlistment e) ms id = taken-others ms id (DonePart.Enlistment e)
done-others DonePart.Files ms id = marked-others ms id DonePart.Files
done-others DonePart.Keys ms id = marked-others ms id DonePart.Keys

undone-joined : (ms : List Mark) (id : Id) → has_undone_mark ms id ≡ list_any (λ (p : TracedPart). not p.is_done) (parts_at ms id)
undone-joined [] id = refl
undone-joined (m ∷ ms) id = elim (cases_Bool (is_mark_of id m)) [
  | inl is ↦ rw is (ap (λ b. not m.is_done || b) (undone-joined ms id))
  | inr other ↦ rw other (undone-joined ms id)
]

-- ---- transactions

others-joined : (hs : List Head) (ms ns : List Mark) (id : Id) → KeepsOthers ms ns id → joined_all (without_id head_id hs id) ns ≡ joined_all (without_id head_id hs id) ms
others-joined [] ms ns id keeps = refl
others-joined (h ∷ hs) ms ns id keeps = elim (cases_Bool (same_id h.id id)) [
  | inl is ↦ rw is (others-joined hs ms ns id keeps)
  | inr other ↦ rw other (λ i. record { id = h.id; stage = h.stage; superior = h.superior; parts = keeps h.id other i } ∷ others-joined hs ms ns id keeps i)
]

without-joined : (hs : List Head) (ms : List Mark) (id : Id) → joined_all (without_id head_id hs id) ms ≡ without_id id_of (joined_all hs ms) id
without-joined hs ms id = map-filter (λ (h : Head). not (same_id h.id id)) (λ (t : Traced). not (same_id t.id id)) (joined ms) (λ h. refl) hs

pub at-joined : (hs : List Head) (ms : List Mark) (id : Id) → at_id id_of (joined_all hs ms) id ≡ made (joined ms) (at_id head_id hs id)
at-joined hs ms id = map-at head_id id_of (joined ms) (λ h. refl) hs id

pub not-among : (hs : List Head) (ms : List Mark) (id : Id) → at_id id_of (joined_all hs ms) id ≡ None → at_id head_id hs id ≡ None
not-among hs ms id none = go (at_id head_id hs id) (sym (at-joined hs ms id) ∙ none)
  where
    go : (o : Option Head) → made (joined ms) o ≡ None → o ≡ None
    go None is = refl
    go (Some h) is = absurd (none-some (joined ms h) (sym is))

pub rises-joined : (hs : List Head) (ms : List Mark) → AreJoined hs ms → Rises id_of (joined_all hs ms)
rises-joined hs ms are = map-rises head_id id_of (joined ms) (λ g. refl) hs are.rise

-- the transactions and parts are joined, and come to these
pub record Comes (hs : List Head) (ms : List Mark) (ts : List Traced) : Type 0 where
  pub are : AreJoined hs ms
  pub is : joined_all hs ms ≡ ts

put-itself : (hs : List Head) (ms ns : List Mark) (h : Head) → AreJoined hs ms → KeepsOthers ms ns h.id → Comes (placed head_id (without_id head_id hs h.id) h) ns (placed id_of (joined_all hs ms) (joined ns h))
put-itself hs ms ns h are keeps = record {
  are = record {
    rise = rises-placed head_id (without_id head_id hs h.id) h (rises-filter head_id (λ (g : Head). not (same_id g.id h.id)) hs are.rise);
    known = λ i none.
        let of = at-placed head_id (without_id head_id hs h.id) h i none in
        let other = same_id-sym h.id i of.0 in
        keeps i other ∙ are.known i (sym (at-others head_id hs h.id i other) ∙ of.1);
  };
  is = map-placed head_id id_of (joined ns) (λ g. refl) (without_id head_id hs h.id) h
      ∙ ap (λ ts. placed id_of ts (joined ns h)) (others-joined hs ms ns h.id keeps ∙ without-joined hs ms h.id)
      ∙ placed-without id_of (joined_all hs ms) (joined ns h) (rises-joined hs ms are);
}

-- one is taken out and put back, changed
pub put-back : (hs : List Head) (ms ns : List Mark) (h : Head) (id : Id) → AreJoined hs ms → h.id ≡ id → KeepsOthers ms ns id → Comes (placed head_id (without_id head_id hs id) h) ns (placed id_of (joined_all hs ms) (joined ns h))
put-back hs ms ns h id are itself =
    subst (λ i. KeepsOthers ms ns i → Comes (placed head_id (without_id head_id hs i) h) ns (placed id_of (joined_all hs ms) (joined ns h))) itself (put-itself hs ms ns h are)

-- one is taken out, with its parts
pub gone : (hs : List Head) (ms ns : List Mark) (id : Id) → AreJoined hs ms → KeepsOthers ms ns id → parts_at ns id ≡ [] → Comes (without_id head_id hs id) ns (without_id id_of (joined_all hs ms) id)
gone hs ms ns id are keeps none = record {
  are = record {
    rise = rises-filter head_id (λ (g : Head). not (same_id g.id id)) hs are.rise;
    known = λ i absent. elim (cases_Bool (same_id i id)) [
      | inl same ↦ ap (parts_at ns) (same_id-equal i id same) ∙ none
      | inr other ↦ keeps i other ∙ are.known i (sym (at-others head_id hs id i other) ∙ absent)
    ];
  };
  is = others-joined hs ms ns id keeps ∙ without-joined hs ms id;
}

pub gone-forgotten : (hs : List Head) (ms : List Mark) (id : Id) → AreJoined hs ms → Comes (without_id head_id hs id) (without_marks ms id) (without_id id_of (joined_all hs ms) id)
gone-forgotten hs ms id are = gone hs ms (without_marks ms id) id are (forgotten-others ms id) (forgotten-itself ms id)

-- one is put back while a part of it is not done
pub stays : (hs : List Head) (ms ns : List Mark) (h : Head) (id : Id) (hs' hs'' : List Head) (ns' : List Mark) → AreJoined hs ms → h.id ≡ id → KeepsOthers ms ns id
    → hs' ≡ without_id head_id hs id → hs'' ≡ (if has_undone_mark ns h.id then placed head_id hs' h else hs') → ns' ≡ (if has_undone_mark ns h.id then ns else without_marks ns h.id)
    → Comes hs'' ns' (stays_while_not_done (joined_all hs ms) (joined ns h))
stays hs ms ns h id hs' hs'' ns' are itself keeps left heads marks = elim (cases_Bool (has_undone_mark ns h.id)) [
  | inl some ↦
      let placed_back = rw some at heads in
      let kept = rw some at marks in
      rw (placed_back, left, kept, sym (undone-joined ns h.id) ∙ some) (put-back hs ms ns h id are itself keeps)
  | inr over ↦
      let out = rw over at heads in
      let lost = rw over at marks in
      rw (out, left, lost, sym (undone-joined ns h.id) ∙ over, itself) (gone hs ms (without_marks ns id) id are (λ i other. forgotten-others ns id i other ∙ keeps i other) (forgotten-itself ns id))
]

-- ---- one that is there, or a new one

pub new-id : (id : Id) (o : Option Head) (hs : List Head) → at_id head_id hs id ≡ o → (head_or_new id o).id ≡ id
new-id id None hs found = refl
new-id id (Some h) hs found = found-id head_id hs id h found

new-joined : (hs : List Head) (ms : List Mark) (id : Id) (o : Option Head) → AreJoined hs ms → at_id head_id hs id ≡ o → joined ms (head_or_new id o) ≡ traced_or id (made (joined ms) o)
new-joined hs ms id None are found = λ i. record { id = id; stage = Stage.Ready; superior = None; parts = are.known id found i }
new-joined hs ms id (Some h) are found = refl

-- a head among all, or a new one, joined with the marks is the transaction among all that are joined, or a new one
or-new-joined : (hs : List Head) (ms : List Mark) (id : Id) → AreJoined hs ms → joined ms (head_or_new id (at_id head_id hs id)) ≡ traced_or_new (joined_all hs ms) id
or-new-joined hs ms id are = new-joined hs ms id (at_id head_id hs id) are refl ∙ ap (traced_or id) (sym (at-joined hs ms id))

-- once it was taken out it is not there
pub free : (hs hs' : List Head) (id i : Id) → hs' ≡ without_id head_id hs id → i ≡ id → at_id head_id hs' i ≡ None
free hs hs' id i left itself = ap (λ (l : List Head). at_id head_id l i) left ∙ ap (at_id head_id (without_id head_id hs id)) itself ∙ taken-none head_id hs id

-- ---- what is made of them

ready-joined : (ms : List Mark) (h : Head) (id : Id) (who : DonePart) → h.id ≡ id → joined (ms ++ record { transaction = id; is_done = false; who = who } ∷ []) h ≡ with_ready (joined ms h) who
ready-joined ms h id who itself = ap (λ ps. record { id = h.id; stage = h.stage; superior = h.superior; parts = ps })
    (ap (parts_at (ms ++ record { transaction = id; is_done = false; who = who } ∷ [])) itself ∙ pushed-itself ms id false who ∙ ap (λ i. parts_at ms i ++ record { is_done = false; who = who } ∷ []) (sym itself))

pub ready-comes : (hs : List Head) (ms : List Mark) (id : Id) (who : DonePart) (h : Head) (hs' hs'' : List Head) (ns : List Mark) → AreJoined hs ms → h ≡ head_or_new id (at_id head_id hs id)
    → hs' ≡ without_id head_id hs id → hs'' ≡ placed head_id hs' h → ns ≡ ms ++ record { transaction = id; is_done = false; who = who } ∷ [] → Comes hs'' ns (once_ready (joined_all hs ms) id who)
ready-comes hs ms id who h hs' hs'' ns are taken left heads marks =
    let itself = ap (λ (g : Head). g.id) taken ∙ new-id id (at_id head_id hs id) hs refl in
    let it = ready-joined ms h id who itself ∙ ap (λ t. with_ready t who) (ap (joined ms) taken ∙ or-new-joined hs ms id are) in
    rw (heads, left, marks, sym it) (put-back hs ms (ms ++ record { transaction = id; is_done = false; who = who } ∷ []) h id are itself (pushed-others ms id false who))

pub held-comes : (hs : List Head) (ms : List Mark) (id superior : Id) (h : Head) (hs' hs'' : List Head) → AreJoined hs ms → h ≡ head_or_new id (at_id head_id hs id)
    → hs' ≡ without_id head_id hs id → hs'' ≡ placed head_id hs' (record { id = h.id; stage = Stage.Held; superior = Some superior }) → Comes hs'' ms (once_held (joined_all hs ms) id superior)
held-comes hs ms id superior h hs' hs'' are taken left heads =
    let itself = ap (λ (g : Head). g.id) taken ∙ new-id id (at_id head_id hs id) hs refl in
    let it = ap (λ (t : Traced). record t { stage = Stage.Held; superior = Some superior }) (ap (joined ms) taken ∙ or-new-joined hs ms id are) in
    rw (heads, left, sym it) (put-back hs ms ms (record { id = h.id; stage = Stage.Held; superior = Some superior }) id are itself (λ i other. refl))

pub absent : (hs : List Head) (ms : List Mark) (id : Id) (hs' : List Head) → AreJoined hs ms → None ≡ at_id head_id hs id → hs' ≡ without_id head_id hs id → Comes hs' ms (joined_all hs ms) × (at_id id_of (joined_all hs ms) id ≡ None)
absent hs ms id hs' are none left =
    let is = left ∙ absent-without head_id hs id (sym none) in
    (subst (λ l. Comes l ms (joined_all hs ms)) (sym is) (record { are = are; is = refl }), at-joined hs ms id ∙ ap (made (joined ms)) (sym none))

pub decided-comes : (hs : List Head) (ms : List Mark) (id : Id) (h : Head) (hs' hs'' : List Head) (ns : List Mark) → AreJoined hs ms → Some h ≡ at_id head_id hs id → hs' ≡ without_id head_id hs id
    → hs'' ≡ (if has_undone_mark ms h.id then placed head_id hs' (record h { stage = Stage.Decided }) else hs') → ns ≡ (if has_undone_mark ms h.id then ms else without_marks ms h.id)
    → Comes hs'' ns (once_decided (joined_all hs ms) (at_id id_of (joined_all hs ms) id))
decided-comes hs ms id h hs' hs'' ns are found left heads marks =
    rw (at-joined hs ms id ∙ ap (made (joined ms)) (sym found))
    (stays hs ms ms (record h { stage = Stage.Decided }) id hs' hs'' ns are (new-id id (Some h) hs (sym found)) (λ i other. refl) left heads marks)

pub done-comes : (hs : List Head) (ms : List Mark) (id : Id) (done : DonePart) (h : Head) (hs' hs'' : List Head) (ns ns' : List Mark) → AreJoined hs ms → Some h ≡ at_id head_id hs id → hs' ≡ without_id head_id hs id
    → ns ≡ marks_done ms id done → hs'' ≡ (if has_undone_mark ns h.id then placed head_id hs' h else hs') → ns' ≡ (if has_undone_mark ns h.id then ns else without_marks ns h.id)
    → Comes hs'' ns' (once_done (joined_all hs ms) done (at_id id_of (joined_all hs ms) id))
done-comes hs ms id done h hs' hs'' ns ns' are found left done_is heads marks =
    let itself = new-id id (Some h) hs (sym found) in
    let parts : parts_at ns h.id ≡ without_done done (parts_at ms h.id) = ap (λ (l : List Mark). parts_at l h.id) done_is ∙ ap (parts_at (marks_done ms id done)) itself ∙ done-itself done ms id ∙ ap (λ i. without_done done (parts_at ms i)) (sym itself) in
    let keeps : KeepsOthers ms ns id = λ i other. ap (λ (l : List Mark). parts_at l i) done_is ∙ done-others done ms id i other in
    rw (at-joined hs ms id ∙ ap (made (joined ms)) (sym found), sym parts)
    (stays hs ms ns h id hs' hs'' ns' are itself keeps left heads marks)

pub added-comes : (hs : List Head) (ms : List Mark) (t : Recorded) (hs' : List Head) (ns : List Mark) → AreJoined hs ms → at_id head_id hs t.id ≡ None
    → hs' ≡ placed head_id hs (record { id = t.id; stage = t.stage; superior = superior_id t.superior }) → ns ≡ ms ++ map (mark_of t.id) t.parts → Comes hs' ns (placed id_of (joined_all hs ms) (traced t))
added-comes hs ms t hs' ns are none heads marks =
    let h : Head = record { id = t.id; stage = t.stage; superior = superior_id t.superior } in
    let parts : parts_at (ms ++ map (mark_of t.id) t.parts) t.id ≡ map traced_part t.parts = appended ms (map (mark_of t.id) t.parts) t.id ∙ (λ i. are.known t.id none i ++ added-itself t.parts t.id i) in
    let keeps : KeepsOthers ms (ms ++ map (mark_of t.id) t.parts) t.id = λ i other. appended ms (map (mark_of t.id) t.parts) i ∙ ap (λ l. parts_at ms i ++ l) (added-others t.parts t.id i other) ∙ append-none (parts_at ms i) in
    let back = put-back hs ms (ms ++ map (mark_of t.id) t.parts) h t.id are refl keeps in
    let first = subst (λ (l : List Head). Comes (placed head_id l h) (ms ++ map (mark_of t.id) t.parts) (placed id_of (joined_all hs ms) (joined (ms ++ map (mark_of t.id) t.parts) h))) (absent-without head_id hs t.id none) back in
    rw (heads, marks) (subst (λ (ps : List TracedPart). Comes (placed head_id hs h) (ms ++ map (mark_of t.id) t.parts) (placed id_of (joined_all hs ms) (record { id = t.id; stage = t.stage; superior = superior_id t.superior; parts = ps }))) parts first)
