-- A walk over enlistments that tells those that pass a test.
use Rattle.std.proofs.Common.{◌≡◌, ℕ, zero, suc, ◌+◌, ◌-◌, ◌<◌, ◌≤◌, Bool, true, false, List, [], ◌∷◌, ◌++◌, length, get_or, take, drop, map, MatchOption, Option, Some, None, refl, sym, ◌∙◌, ap, subst, arith, add-one, length-append}
use Rattle.std.specs.Prelude.{filter, if◌then◌else◌}
use Rattle.std.specs.List.{list_all}
use Rattle.std.proofs.lemmas.Bool.{and_parts, cases_Bool, true≢false}
use Rattle.std.proofs.Common.{inl, inr}
use Rattle.std.proofs.lemmas.List.{get_or_default, length-drop, length-map, map-append, take_all, take_more}
use Rattle.std.proofs.lemmas.List.Elements.{filter-append}
use Rattle.ktm_base.specs.declared.id.Id.{Id}
use Rattle.ktm_base.specs.declared.notify.Notify.{Notify}
use Rattle.ktm_world.specs.Enlistments.{Enlistment, Manager, has_id, is_given, tell, with_enlistments}
use Rattle.ktm_world.specs.Outcome.{served}
use Rattle.ktm_manager.proofs.offered.Served.{served_nothing, served_twice, there_served}
use Rattle.ktm_manager.specs.Rising.{IsAt, IsNowhere}
use Rattle.ktm_enlist.specs.Places.{changed, is_own, place_from, HasNone, IsOnlyAt, PassesAt}
use Rattle.ktm_world.specs.declared.step.Who.{Who}
use Rattle.ktm_world.specs.Steps.{is_one_of}
use Rattle.ktm_world.specs.Transactions.{same_id}
use Rattle.ktm_enlist.specs.declared.telling.Told.{Told}
use Rattle.ktm_enlist.specs.Telling.{asked, asked_if, has_manager, is_of_transaction, told, visited, with_first}
use Rattle.ktm_enlist.proofs.Changing.{asked_keeps}
use Rattle.ktm_enlist.proofs.Places.{changed_length, found_from, none_from, passes_within}

-- there is one where a place is
pub some_of : (es : List Enlistment) (i : ℕ) → i < length es → Enlistment
some_of [] i within = absurd (omega (arith, within))
some_of (e ∷ es) i within = e

-- so many steps behind a place
abbrev behind : ℕ → ℕ → ℕ
behind zero m = m
behind (suc k) m = suc (behind k m)

-- that is their sum
behind_is : (k m : ℕ) → behind k m ≡ k + m
behind_is zero m = omega arith
behind_is (suc k) m = let rest = behind_is k m in omega (arith, rest)

-- ---- the enlistments

-- the one at the place of the walk is as it was
pub first_read : (test : Enlistment → Bool) (f : Enlistment → Enlistment) (i : ℕ) (es : List Enlistment) (d : Enlistment) → get_or (with_first test f i es) i d ≡ get_or es i d
first_read test f zero es d = refl
first_read test f (suc i) [] d = refl
first_read test f (suc i) (e ∷ es) d = first_read test f i es d

-- they are as many
pub first_length : (test : Enlistment → Bool) (f : Enlistment → Enlistment) (i : ℕ) (es : List Enlistment) → length (with_first test f i es) ≡ length es
first_length test f zero es = refl
first_length test f (suc i) [] = refl
first_length test f (suc i) (e ∷ es) = ap suc (first_length test f i es)

-- one more of them is changed
pub first_more : (test : Enlistment → Bool) (f : Enlistment → Enlistment) (i : ℕ) (es : List Enlistment) → i < length es
    → changed (λ e. if test e then f e else e) (with_first test f i es) i ≡ with_first test f (i + 1) es
first_more test f zero [] within = absurd (omega (arith, within))
first_more test f zero (x ∷ xs) within = refl
first_more test f (suc i) [] within = absurd (omega (arith, within))
first_more test f (suc i) (x ∷ xs) within =
    ap (λ (l : List Enlistment). (if test x then f x else x) ∷ l) (first_more test f i xs (omega (arith, within)))
    ∙ ap (λ (n : ℕ). with_first test f n (x ∷ xs)) (ap suc (add-one i) ∙ sym (add-one (suc i)))

-- in the end all are
pub first_all : (test : Enlistment → Bool) (f : Enlistment → Enlistment) (i : ℕ) (es : List Enlistment) → length es ≤ i → with_first test f i es ≡ with_enlistments test f es
first_all test f zero [] past = refl
first_all test f zero (e ∷ es) past = absurd (omega (arith, past))
first_all test f (suc i) [] past = refl
first_all test f (suc i) (e ∷ es) past = ap (λ (l : List Enlistment). (if test e then f e else e) ∷ l) (first_all test f i es (omega (arith, past)))

-- ---- what is sent

-- what is sent to one alone
told_is : (test : Enlistment → Bool) (kind : Notify) (e : Enlistment) → map (tell kind) (filter test (e ∷ [])) ≡ told test kind e
told_is test kind e = elim (cases_Bool (test e)) [ inl passes ↦ rw passes refl | inr fails ↦ rw fails refl ]

-- those that pass, with the next one
filter_more : (test : Enlistment → Bool) (es : List Enlistment) (i : ℕ) (e : Enlistment) → i < length es → e ≡ get_or es i e → filter test (take (i + 1) es) ≡ filter test (take i es) ++ filter test (e ∷ [])
filter_more test es i e within is =
    ap (filter test) (take_more es i e within ∙ ap (λ x. take i es ++ x ∷ []) (sym is)) ∙ filter-append test (take i es) (e ∷ [])

-- what is sent, with what is sent to the next one
pub sent_more : (test : Enlistment → Bool) (kind : Notify) (es : List Enlistment) (i : ℕ) (e : Enlistment) → i < length es → e ≡ get_or es i e
    → map (tell kind) (filter test (take (i + 1) es)) ≡ map (tell kind) (filter test (take i es)) ++ told test kind e
sent_more test kind es i e within is =
    ap (map (tell kind)) (filter_more test es i e within is) ∙ map-append (tell kind) (filter test (take i es)) (filter test (e ∷ []))
    ∙ ap (λ l. map (tell kind) (filter test (take i es)) ++ l) (told_is test kind e)

-- how much that is
pub count_more : (test : Enlistment → Bool) (kind : Notify) (es : List Enlistment) (i : ℕ) (e : Enlistment) → i < length es → e ≡ get_or es i e
    → length (filter test (take (i + 1) es)) ≡ length (filter test (take i es)) + length (told test kind e)
count_more test kind es i e within is =
    ap length (filter_more test es i e within is) ∙ length-append (filter test (take i es)) (filter test (e ∷ []))
    ∙ ap (λ n. length (filter test (take i es)) + n) (sym (length-map (filter test (e ∷ [])) (tell kind)) ∙ ap length (told_is test kind e))

-- those of a part are no more than those of all
pub count_first : (test : Enlistment → Bool) (i : ℕ) (es : List Enlistment) → length (filter test (take i es)) ≤ length (filter test es)
count_first test zero es = omega arith
count_first test (suc i) [] = omega arith
count_first test (suc i) (e ∷ es) = elim (cases_Bool (test e)) [
  | inl passes ↦ let rest = count_first test i es in rw passes (omega (arith, rest))
  | inr fails ↦ rw fails (count_first test i es)
]

-- ---- the managers

-- the manager of each is there
pub there_at : (ms : List Manager) (es : List Enlistment) (i : ℕ) (d : Enlistment) → list_all (has_manager ms) es ≡ true → i < length es → has_manager ms (get_or es i d) ≡ true
there_at ms [] i d all within = absurd (omega (arith, within))
there_at ms (e ∷ es) zero d all within = (and_parts (has_manager ms e) (list_all (has_manager ms) es) all).0
there_at ms (e ∷ es) (suc i) d all within = there_at ms es i d (and_parts (has_manager ms e) (list_all (has_manager ms) es) all).1 (omega (arith, within))

-- ---- from one enlistment of a transaction to the next

-- what is read is as it was before the walk
was_read : (test : Enlistment → Bool) (f : Enlistment → Enlistment) (es now : List Enlistment) (i : ℕ) (d : Enlistment) → now ≡ with_first test f i es → get_or now i d ≡ get_or es i d
was_read test f es now i d first = rw first (first_read test f i es d)

-- the walk has come this far, and goes on at the next of the transaction
pub record IsWalked (t : Told) (es now : List Enlistment) (next : Option ℕ) (base ms : List Manager) (before spare : ℕ) : Type 0 where
  pub reached : ℕ
  pub leads : next ≡ place_from (is_own t.transaction) reached (drop reached es)
  pub items : now ≡ with_first (is_one_of t.transaction t.caller t.who) (asked t.owed) reached es
  pub sent : ms ≡ map (served None (map (tell t.kind) (filter (is_one_of t.transaction t.caller t.who) (take reached es)))) base
  pub left : spare + length (filter (is_one_of t.transaction t.caller t.who) (take reached es)) ≡ before

-- it has come to this enlistment of the transaction
pub record IsReached (t : Told) (es now : List Enlistment) (p : ℕ) (base ms : List Manager) (before spare : ℕ) : Type 0 where
  pub within : p < length es
  pub here : PassesAt (is_own t.transaction) es p
  pub items : now ≡ with_first (is_one_of t.transaction t.caller t.who) (asked t.owed) p es
  pub sent : ms ≡ map (served None (map (tell t.kind) (filter (is_one_of t.transaction t.caller t.who) (take p es)))) base
  pub left : spare + length (filter (is_one_of t.transaction t.caller t.who) (take p es)) ≡ before

-- those that pass, of those before the next, or of all where there is none
abbrev pub before_next : (Enlistment → Bool) → Option ℕ → List Enlistment → List Enlistment
before_next test None es = filter test es
before_next test (Some p) es = filter test (take p es)

module _ (own test : Enlistment → Bool) (fails : (e : Enlistment) → own e ≡ false → test e ≡ false) where
  -- those between are not told
  skip_taken : (k m : ℕ) (es : List Enlistment) → HasNone own (take m (drop k es)) → filter test (take (behind k m) es) ≡ filter test (take k es)
  skip_taken zero zero es none = refl
  skip_taken zero (suc m) [] none = refl
  skip_taken zero (suc m) (e ∷ es) none = rw (fails e none.0) (skip_taken zero m es none.1)
  skip_taken (suc k) m [] none = refl
  skip_taken (suc k) m (e ∷ es) none = elim (cases_Bool (test e)) [
    | inl passes ↦ rw passes (ap (λ (l : List Enlistment). e ∷ l) (skip_taken k m es none))
    | inr not_told ↦ rw not_told (skip_taken k m es none)
  ]

  -- nor are those behind the last
  skip_rest : (k : ℕ) (es : List Enlistment) → HasNone own (drop k es) → filter test (take k es) ≡ filter test es
  skip_rest k es none =
      let past : length es ≤ behind k (length es) = omega (arith, behind_is k (length es)) in
      let whole : HasNone own (take (length es) (drop k es)) = subst (HasNone own) (sym (take_all (length es) (drop k es) (omega (arith, length-drop k es)))) none in
      sym (skip_taken k (length es) es whole) ∙ ap (filter test) (take_all (behind k (length es)) es past)

  -- between a place and the next one that is found from there none is told
  pub next_taken : (k : ℕ) (es : List Enlistment) (next : Option ℕ) → next ≡ place_from own k (drop k es) → before_next test next es ≡ filter test (take k es)
  next_taken k es None leads = sym (skip_rest k es (none_from own k (drop k es) (sym leads)))
  next_taken k es (Some p) leads =
      let found = found_from own k (drop k es) p (sym leads) in
      ap (λ (n : ℕ). filter test (take n es)) (found.is ∙ sym (behind_is k found.offset)) ∙ skip_taken k found.offset es found.before

-- how many places are left from the next of the transaction on
abbrev pub left_of : Option ℕ → ℕ → ℕ
left_of None n = 0
left_of (Some p) n = n - p

-- none of those is of another transaction
others_fail : (id : Id) (caller : Option Id) (who : Who) → is_of_transaction who ≡ true → (e : Enlistment) → is_own id e ≡ false → is_one_of id caller who e ≡ false
others_fail id caller Who.Parts is e other = rw other refl
others_fail id caller Who.Asking is e other = rw other refl
others_fail id caller Who.Prepared is e other = rw other refl
others_fail id caller Who.Recovered is e other = rw other refl
others_fail id caller Who.Superior is e other = rw other refl
others_fail id caller Who.OtherSuperior is e other = rw other refl
others_fail id caller Who.Caller is e other = absurd (true≢false (sym is))

-- to tell those all of the transaction are visited
visits_all : (id : Id) (caller : Option Id) (who : Who) → is_of_transaction who ≡ true → (es : List Enlistment) → visited id caller who es ≡ length (filter (is_own id) es)
visits_all id caller Who.Parts is es = refl
visits_all id caller Who.Asking is es = refl
visits_all id caller Who.Prepared is es = refl
visits_all id caller Who.Recovered is es = refl
visits_all id caller Who.Superior is es = refl
visits_all id caller Who.OtherSuperior is es = refl
visits_all id caller Who.Caller is es = absurd (true≢false (sym is))

-- with one that passes there are one more
passes_more : (test : Enlistment → Bool) (es : List Enlistment) (p : ℕ) → PassesAt test es p → length (filter test (take (suc p) es)) ≡ suc (length (filter test (take p es)))
passes_more test [] p at = absurd at
passes_more test (e ∷ es) zero at = rw at refl
passes_more test (e ∷ es) (suc p) at = elim (cases_Bool (test e)) [
  | inl passes ↦ rw passes (ap suc (passes_more test es p at))
  | inr fails ↦ rw fails (passes_more test es p at)
]

module _ (t : Told) (owns : is_of_transaction t.who ≡ true) where
  abbrev own : Enlistment → Bool
  own = is_own t.transaction

  abbrev test : Enlistment → Bool
  test = is_one_of t.transaction t.caller t.who

  abbrev f : Enlistment → Enlistment
  f = asked t.owed

  -- one of another transaction is not told
  fails : (e : Enlistment) → own e ≡ false → test e ≡ false
  fails = others_fail t.transaction t.caller t.who owns

  -- one that is asked stays of its transaction
  same : (e : Enlistment) → own (f e) ≡ own e
  same e = ap (λ (id : Id). same_id id t.transaction) ((asked_keeps t.owed).transaction e)

  -- those between are not changed
  skip_first : (k m : ℕ) (es : List Enlistment) → HasNone own (take m (drop k es)) → with_first test f (behind k m) es ≡ with_first test f k es
  skip_first zero zero es none = refl
  skip_first zero (suc m) [] none = refl
  skip_first zero (suc m) (e ∷ es) none = rw (fails e none.0) (ap (λ (l : List Enlistment). e ∷ l) (skip_first zero m es none.1))
  skip_first (suc k) m [] none = refl
  skip_first (suc k) m (e ∷ es) none = ap (λ (l : List Enlistment). (if test e then f e else e) ∷ l) (skip_first k m es none)

  -- one that passes behind a place passes among all
  passes_behind : (k m : ℕ) (es : List Enlistment) → PassesAt own (drop k es) m → PassesAt own es (behind k m)
  passes_behind zero m es at = at
  passes_behind (suc k) m [] at = absurd at
  passes_behind (suc k) m (e ∷ es) at = passes_behind k m es at

  -- it stays of the transaction
  kept : (e : Enlistment) → own (if test e then f e else e) ≡ own e
  kept e = elim (cases_Bool (test e)) [ inl passes ↦ rw passes (same e) | inr not_told ↦ rw not_told refl ]

  -- an enlistment stays one of the transaction at its place where the first so many are changed
  passes_first : (i : ℕ) (es : List Enlistment) (p : ℕ) → PassesAt own es p → PassesAt own (with_first test f i es) p
  passes_first zero es p at = at
  passes_first (suc i) [] p at = absurd at
  passes_first (suc i) (e ∷ es) zero at = kept e ∙ at
  passes_first (suc i) (e ∷ es) (suc p) at = passes_first i es p at

  -- those behind the place are not changed yet
  first_dropped : (i : ℕ) (es : List Enlistment) → drop i (with_first test f i es) ≡ drop i es
  first_dropped zero es = refl
  first_dropped (suc i) [] = refl
  first_dropped (suc i) (e ∷ es) = first_dropped i es

  -- the walk begins at the first of the transaction
  pub walk_begins : (es : List Enlistment) (next : Option ℕ) (base : List Manager) (before : ℕ) → next ≡ place_from own 0 es → IsWalked t es es next base base before before
  walk_begins es next base before first = record { reached = 0; leads = first; items = refl; sent = sym (served_nothing base); left = omega arith }

  -- it comes to the next
  pub walk_reaches : (es now : List Enlistment) (p : ℕ) (base ms : List Manager) (before spare : ℕ) → IsWalked t es now (Some p) base ms before spare → IsReached t es now p base ms before spare
  walk_reaches es now p base ms before spare w =
      let found = found_from own w.reached (drop w.reached es) p (sym w.leads) in
      let is : p ≡ behind w.reached found.offset = found.is ∙ sym (behind_is w.reached found.offset) in
      let here = subst (λ (n : ℕ). PassesAt own es n) (sym is) (passes_behind w.reached found.offset es found.here) in
      let taken = next_taken own test fails w.reached es (Some p) w.leads in
      record {
        within = passes_within own es p here;
        here = here;
        items = w.items ∙ sym (skip_first w.reached found.offset es found.before) ∙ ap (λ (n : ℕ). with_first test f n es) (sym is);
        sent = w.sent ∙ ap (λ (l : List Enlistment). map (served None (map (tell t.kind) l)) base) (sym taken);
        left = ap (λ (l : List Enlistment). spare + length l) taken ∙ w.left;
      }

  -- once it is told, one more is changed
  walk_changes : (es now new : List Enlistment) (p : ℕ) (base ms : List Manager) (before spare : ℕ) → IsReached t es now p base ms before spare → new ≡ changed (asked_if test t.owed) now p → new ≡ with_first test f (p + 1) es
  walk_changes es now new p base ms before spare r changes = changes ∙ ap (λ (l : List Enlistment). changed (asked_if test t.owed) l p) r.items ∙ first_more test f p es r.within

  -- it is still of the transaction once it is told
  pub walk_passes : (es now new : List Enlistment) (p : ℕ) (base ms : List Manager) (before spare : ℕ) → IsReached t es now p base ms before spare → new ≡ changed (asked_if test t.owed) now p → PassesAt own new p
  walk_passes es now new p base ms before spare r changes =
      let items = walk_changes es now new p base ms before spare r changes in
      subst (λ (l : List Enlistment). PassesAt own l p) (sym items) (passes_first (p + 1) es p r.here)

  -- fewer places are left from the next one on
  pub walk_smaller : (now new : List Enlistment) (p : ℕ) (next after : Option ℕ) → next ≡ Some p → p < length now → new ≡ changed (asked_if test t.owed) now p → after ≡ place_from own (p + 1) (drop (p + 1) new) → left_of after (length new) < left_of next (length now)
  walk_smaller now new p next after is within changes leads =
      let as_many : length new ≡ length now = ap length changes ∙ changed_length (asked_if test t.owed) now p in
      rw (is, as_many) (go after leads)
    where
      go : (o : Option ℕ) → o ≡ place_from own (p + 1) (drop (p + 1) new) → left_of o (length now) < length now - p
      go None leads = omega (arith, within)
      go (Some q) leads = let found = found_from own (p + 1) (drop (p + 1) new) q (sym leads) in omega (arith, within, found.is)

  -- the next one is found among those that it began with
  pub walk_leads : (es now new : List Enlistment) (p : ℕ) (next : Option ℕ) (base ms : List Manager) (before spare : ℕ) → IsReached t es now p base ms before spare → new ≡ changed (asked_if test t.owed) now p
      → next ≡ place_from own (p + 1) (drop (p + 1) new) → next ≡ place_from own (p + 1) (drop (p + 1) es)
  walk_leads es now new p next base ms before spare r changes leads =
      leads ∙ ap (λ (l : List Enlistment). place_from own (p + 1) (drop (p + 1) l)) (walk_changes es now new p base ms before spare r changes) ∙ ap (place_from own (p + 1)) (first_dropped (p + 1) es)

  -- it goes on behind it
  pub walk_goes_on : (es now new : List Enlistment) (p : ℕ) (next : Option ℕ) (base ms sent : List Manager) (before spare left : ℕ) (d : Enlistment)
      → IsReached t es now p base ms before spare
      → new ≡ changed (asked_if test t.owed) now p
      → sent ≡ map (served None (told test t.kind (get_or now p d))) ms
      → left + length (told test t.kind (get_or now p d)) ≡ spare
      → next ≡ place_from own (p + 1) (drop (p + 1) new)
      → IsWalked t es new next base sent before left
  walk_goes_on es now new p next base ms sent before spare left d r changes sends leaves leads =
      let items = walk_changes es now new p base ms before spare r changes in
      let e = get_or es p d in
      let is : e ≡ get_or es p e = get_or_default es p d e r.within in
      let read : get_or now p d ≡ e = was_read test f es now p d r.items in
      record {
        reached = p + 1;
        leads = walk_leads es now new p next base ms before spare r changes leads;
        items = items;
        sent =
            rw read at sends ∙ ap (map (served None (told test t.kind e))) r.sent
            ∙ served_twice _ _ _ ∙ ap (λ l. map (served None l) base) (sym (sent_more test t.kind es p e r.within is));
        left = let leaves_so = rw read at leaves in omega (arith, leaves_so, r.left, count_more test t.kind es p e r.within is);
      }

  -- where none is left of the transaction, all have been told
  pub walk_ends : (es now : List Enlistment) (base ms : List Manager) (before spare : ℕ) → IsWalked t es now None base ms before spare
      → (now ≡ with_enlistments test f es) × (ms ≡ map (served None (map (tell t.kind) (filter test es))) base) × (spare + length (filter test es) ≡ before)
  walk_ends es now base ms before spare w =
      let none = none_from own w.reached (drop w.reached es) (sym w.leads) in
      let past : length es ≤ behind w.reached (length es) = omega (arith, behind_is w.reached (length es)) in
      let whole : HasNone own (take (length es) (drop w.reached es)) = subst (HasNone own) (sym (take_all (length es) (drop w.reached es) (omega (arith, length-drop w.reached es)))) none in
      let taken : filter test (take w.reached es) ≡ filter test es = skip_rest own test fails w.reached es none in (
        w.items ∙ sym (skip_first w.reached (length es) es whole) ∙ first_all test f (behind w.reached (length es)) es past,
        w.sent ∙ ap (λ (l : List Enlistment). map (served None (map (tell t.kind) l)) base) taken,
        ap (λ (l : List Enlistment). spare + length l) (sym taken) ∙ w.left,
      )

  -- nothing is visited in front of the first of the transaction
  pub visits_begin : (es : List Enlistment) (next : Option ℕ) (n : ℕ) → next ≡ place_from own 0 es → n ≡ n + length (before_next own next es)
  visits_begin es next n first = omega (arith, ap length (next_taken own own (λ e other. other) 0 es next first))

  -- one more is visited, and those before the next one are one more
  pub visits_go_on : (es now new : List Enlistment) (p : ℕ) (next after : Option ℕ) (base ms : List Manager) (before spare start had has : ℕ) → IsReached t es now p base ms before spare → next ≡ Some p
      → new ≡ changed (asked_if test t.owed) now p → after ≡ place_from own (p + 1) (drop (p + 1) new) → had ≡ start + length (before_next own next es) → has ≡ had + 1 → has ≡ start + length (before_next own after es)
  visits_go_on es now new p next after base ms before spare start had has r is changes leads counted ticks =
      let here = ap (λ (o : Option ℕ). length (before_next own o es)) is in
      let there = ap length (next_taken own own (λ e other. other) (p + 1) es after (walk_leads es now new p after base ms before spare r changes leads)) in
      let more = ap (λ (n : ℕ). length (filter own (take n es))) (add-one p) ∙ passes_more own es p r.here in
      omega (arith, here, there, more, counted, ticks)

  -- in the end all of the transaction are visited
  pub visits_end : (es : List Enlistment) (next : Option ℕ) (start has : ℕ) → next ≡ None → has ≡ start + length (before_next own next es) → has ≡ start + visited t.transaction t.caller t.who es
  visits_end es next start has is counted =
      counted ∙ ap (λ (o : Option ℕ). start + length (before_next own o es)) is ∙ ap (λ n. start + n) (sym (visits_all t.transaction t.caller t.who owns es))

  -- the manager of the one that is reached is there
  pub reached_there : (es now : List Enlistment) (p : ℕ) (base ms : List Manager) (before spare : ℕ) (d : Enlistment) → IsReached t es now p base ms before spare
      → list_all (has_manager base) es ≡ true → has_manager ms (get_or now p d) ≡ true
  reached_there es now p base ms before spare d r all =
      rw (was_read test f es now p d r.items, r.sent) (there_served None _ base (get_or es p d).manager ∙ there_at base es p d all r.within)

  -- there is room to tell the one that is reached
  pub reached_fits : (es now : List Enlistment) (p : ℕ) (base ms : List Manager) (before spare : ℕ) (d : Enlistment) → IsReached t es now p base ms before spare
      → length (filter test es) ≤ before → length (told test t.kind (get_or now p d)) ≤ spare
  reached_fits es now p base ms before spare d r enough =
      let e = get_or es p d in
      let is : e ≡ get_or es p e = get_or_default es p d e r.within in
      rw (was_read test f es now p d r.items) (omega (arith, r.left, enough, count_more test t.kind es p e r.within is, count_first test (p + 1) es))

  -- fewer are left behind it
  pub reached_less : (es now : List Enlistment) (p : ℕ) (base ms : List Manager) (before spare : ℕ) → IsReached t es now p base ms before spare → p < length now
  reached_less es now p base ms before spare r = omega (arith, r.within, ap length r.items, first_length test f p es)

-- ---- one enlistment alone

module _ (test : Enlistment → Bool) where
  pub none_filtered : (es : List Enlistment) → HasNone test es → filter test es ≡ []
  none_filtered [] none = refl
  none_filtered (e ∷ es) none = rw none.0 (none_filtered es none.1)

  -- where none passes, none is changed
  pub none_with : (f : Enlistment → Enlistment) (es : List Enlistment) → HasNone test es → with_enlistments test f es ≡ es
  none_with f [] none = refl
  none_with f (e ∷ es) none = rw none.0 (ap (λ (l : List Enlistment). e ∷ l) (none_with f es none.1))

  -- the one that passes is all that passes
  pub one_filtered : (es : List Enlistment) (i : ℕ) (d : Enlistment) → IsOnlyAt test es i → filter test es ≡ get_or es i d ∷ []
  one_filtered [] i d at = absurd at
  one_filtered (e ∷ es) zero d at = rw at.0 (ap (λ (l : List Enlistment). e ∷ l) (none_filtered es at.1))
  one_filtered (e ∷ es) (suc i) d at = rw at.0 (one_filtered es i d at.1)

  -- the one that passes is all that is changed
  pub one_with : (f : Enlistment → Enlistment) (es : List Enlistment) (i : ℕ) → IsOnlyAt test es i → with_enlistments test f es ≡ changed f es i
  one_with f [] i at = absurd at
  one_with f (e ∷ es) zero at = rw at.0 (ap (λ (l : List Enlistment). f e ∷ l) (none_with f es at.1))
  one_with f (e ∷ es) (suc i) at = rw at.0 (ap (λ (l : List Enlistment). e ∷ l) (one_with f es i at.1))

  -- it passes
  pub only_passes : (es : List Enlistment) (i : ℕ) (d : Enlistment) → IsOnlyAt test es i → test (get_or es i d) ≡ true
  only_passes [] i d at = absurd at
  only_passes (e ∷ es) zero d at = at.0
  only_passes (e ∷ es) (suc i) d at = only_passes es i d at.1

  -- where one alone may pass, changing all that pass is changing it if it passes
  pub one_with_if : (f : Enlistment → Enlistment) (es : List Enlistment) (i : ℕ) → IsOnlyAt test es i → with_enlistments test f es ≡ changed (λ e. if test e then f e else e) es i
  one_with_if f [] i at = absurd at
  one_with_if f (e ∷ es) zero at = ap (λ (l : List Enlistment). (if test e then f e else e) ∷ l) (none_with f es at.1)
  one_with_if f (e ∷ es) (suc i) at = rw at.0 (ap (λ (l : List Enlistment). e ∷ l) (one_with_if f es i at.1))

  -- what is sent to the one that passes is all that is sent
  pub one_told : (kind : Notify) (es : List Enlistment) (i : ℕ) (d : Enlistment) → IsOnlyAt test es i → told test kind (get_or es i d) ≡ map (tell kind) (filter test es)
  one_told kind es i d at = rw (only_passes es i d at, one_filtered es i d at) refl

  -- as much is sent to the one that passes as there are that pass
  pub one_counted : (kind : Notify) (es : List Enlistment) (i : ℕ) (d : Enlistment) → IsOnlyAt test es i → length (told test kind (get_or es i d)) ≡ length (filter test es)
  one_counted kind es i d at = rw (only_passes es i d at, one_filtered es i d at) refl

  -- it stands among them
  pub only_within : (es : List Enlistment) (i : ℕ) → IsOnlyAt test es i → i < length es
  only_within [] i at = absurd at
  only_within (e ∷ es) zero at = omega arith
  only_within (e ∷ es) (suc i) at = let rest = only_within es i at.1 in omega (arith, rest)

-- where an Id is nowhere, none has it
pub only_none : (es : List Enlistment) (id : Id) → IsNowhere (λ (e : Enlistment). e.id) es id → HasNone (has_id id) es
only_none [] id nowhere = tt
only_none (e ∷ es) id nowhere = (nowhere.0, only_none es id nowhere.1)

-- the one that has an Id is the only one
pub only_at : (es : List Enlistment) (id : Id) (i : ℕ) → IsAt (λ (e : Enlistment). e.id) es id i → IsOnlyAt (has_id id) es i
only_at [] id i at = absurd at
only_at (e ∷ es) id zero at = (at.0, only_none es id at.1)
only_at (e ∷ es) id (suc i) at = (at.0, only_at es id i at.1)

-- where the enlistment that calls stands, if there is one
pub given_place : (es : List Enlistment) (id : Id) (o : Option ℕ) → MatchOption o (IsNowhere (λ (e : Enlistment). e.id) es id) (IsAt (λ (e : Enlistment). e.id) es id)
    → MatchOption o (HasNone (is_given (Some id)) es) (IsOnlyAt (is_given (Some id)) es)
given_place es id None found = only_none es id found
given_place es id (Some i) found = only_at es id i found

-- where nobody calls, none is the one that calls
pub nobody_given : (es : List Enlistment) → HasNone (is_given None) es
nobody_given [] = tt
nobody_given (e ∷ es) = (refl, nobody_given es)
