-- The transactions as they are kept, with one more or with one changed.
use Rattle.std.proofs.Common.{◌≡◌, ℕ, ◌+◌, ◌-◌, ◌<◌, ◌&&◌, zero, suc, Bool, true, false, List, [], ◌∷◌, ◌++◌, length, get_or, set, Some, None, inl, inr, refl, sym, ◌∙◌, ap, subst, arith}
use Rattle.std.specs.Prelude.{filter, find, is_some, option_and_then, if◌then◌else◌}
use Rattle.std.specs.List.{list_all, remove}
use Rattle.std.proofs.lemmas.Bool.{and_from, and_parts, and_right, cases_Bool, true≢false}
use Rattle.std.proofs.lemmas.List.{get_or_default}
use Rattle.std.proofs.lemmas.List.Elements.{filter-append}
use Rattle.ktm_base.specs.declared.id.Id.{Id}
use Rattle.ktm_world.specs.declared.object.Phase.{Phase}
use Rattle.ktm_world.specs.declared.object.Transaction.{Transaction}
use Rattle.ktm_world.specs.Durable.{is_before}
use Rattle.ktm_world.specs.Transactions.{change_at, is_live, same_id, transaction_at}
use Rattle.txf_laws.proofs.offered.Tables.{same_id-equal, same_id-from}
use Rattle.ktm_manager.specs.Rising.{are_rising, IsAt, IsNowhere}
use Rattle.ktm_manager.proofs.offered.Places.{at_id, none_found, nowhere_behind}
use Rattle.ktm_tm.specs.declared.ending.Ending.{Ending}
use Rattle.ktm_tm.specs.Listed.{AreNumbered, AreSplit, IsPlace}
use Rattle.ktm_tm.specs.Table.{AreEndings, IsForgotten, IsTable, TableState, all_of, ended_with, live_or_ended, numbered_of, one_of}
use Rattle.ktm_tm.specs.TmState.{if_live}
use Rattle.ktm_tm.proofs.Numbers.{found_live, id_of, listed_back, listed_push, listed_set, live_head}

-- ---- the live ones

all_live : (test : Transaction → Bool) (ts : List Transaction) → list_all test ts ≡ true → list_all test (filter is_live ts) ≡ true
all_live test [] all = refl
all_live test (t ∷ ts) all =
    let parts = and_parts (test t) (list_all test ts) all in head (is_live t) parts.0 (all_live test ts parts.1)
  where
    head : (b : Bool) → test t ≡ true → list_all test (filter is_live ts) ≡ true → list_all test (if b then t ∷ filter is_live ts else filter is_live ts) ≡ true
    head true is rest = and_from _ _ is rest
    head false is rest = rest

-- they rise as all do
live_rising : (ts : List Transaction) → are_rising id_of ts ≡ true → are_rising id_of (filter is_live ts) ≡ true
live_rising [] rises = refl
live_rising (t ∷ ts) rises =
    let parts = and_parts (list_all (λ (u : Transaction). is_before t.id u.id) ts) (are_rising id_of ts) rises in
    head (is_live t) (all_live (λ (u : Transaction). is_before t.id u.id) ts parts.0) (live_rising ts parts.1)
  where
    head : (b : Bool) → list_all (λ (u : Transaction). is_before t.id u.id) (filter is_live ts) ≡ true → are_rising id_of (filter is_live ts) ≡ true → are_rising id_of (if b then t ∷ filter is_live ts else filter is_live ts) ≡ true
    head true behind rest = and_from _ _ behind rest
    head false behind rest = rest

-- so do those that are kept
pub kept_rising : (boot : ℕ) (back : List Id) (es : List Ending) (live ts : List Transaction) → IsTable boot back es live ts → are_rising id_of live ≡ true
kept_rising boot back es live ts table = subst (λ (l : List Transaction). are_rising id_of l ≡ true) (sym table.live_are) (live_rising ts table.listed.rising)

-- one that is found among the live ones is the live one with its Id
pub live_found : (ts : List Transaction) (id : Id) → find (λ t. same_id t.id id) (filter is_live ts) ≡ find (λ t. is_live t && same_id t.id id) ts
live_found [] id = refl
live_found (t ∷ ts) id = head (is_live t) refl (live_found ts id)
  where
    head : (b : Bool) → is_live t ≡ b → find (λ u. same_id u.id id) (filter is_live ts) ≡ find (λ u. is_live u && same_id u.id id) ts
        → find (λ u. same_id u.id id) (if b then t ∷ filter is_live ts else filter is_live ts) ≡ find (λ u. is_live u && same_id u.id id) (t ∷ ts)
    head true is rest = elim (cases_Bool (same_id t.id id)) [ inl same ↦ rw (is, same) refl | inr other ↦ rw (is, other) rest ]
    head false is rest = rw is rest

-- the first live one with an Id is the one with it, where that is live
pub first_live : (ts : List Transaction) (id : Id) → are_rising id_of ts ≡ true → find (λ t. is_live t && same_id t.id id) ts ≡ option_and_then if_live (transaction_at ts id)
first_live [] id rises = refl
first_live (t ∷ ts) id rises =
    let parts = and_parts (list_all (λ (u : Transaction). is_before t.id u.id) ts) (are_rising id_of ts) rises in
    elim (cases_Bool (same_id t.id id)) [
      | inl same ↦
          let others = nowhere_behind id_of ts id (subst (λ (a : Id). list_all (λ (u : Transaction). is_before a u.id) ts ≡ true) (same_id-equal t.id id same) parts.0) in
          live_head (is_live t) t ts id same refl others ∙ sym (ap (option_and_then if_live) (at-head same))
      | inr other ↦ past other ∙ first_live ts id parts.1 ∙ sym (ap (option_and_then if_live) (at-rest other))
    ]
  where
    at-head : same_id t.id id ≡ true → transaction_at (t ∷ ts) id ≡ Some t
    at-head same = rw same refl

    at-rest : same_id t.id id ≡ false → transaction_at (t ∷ ts) id ≡ transaction_at ts id
    at-rest other = rw other refl

    past : same_id t.id id ≡ false → find (λ u. is_live u && same_id u.id id) (t ∷ ts) ≡ find (λ u. is_live u && same_id u.id id) ts
    past other = rw (other, and_right (is_live t) false refl) refl

-- the transaction that is there is found, if it is live
pub found_there : (ts : List Transaction) (t : Transaction) (id : Id) → transaction_at ts id ≡ Some t → is_live t ≡ true → is_some (find (λ u. is_live u && same_id u.id id) ts) ≡ true
found_there [] t id there live = absurd cc
found_there (u ∷ us) t id there live = elim (cases_Bool (same_id u.id id)) [
  | inl same ↦
      let head : Some u ≡ Some t = rw same at there in
      let is : u ≡ t = cc in
      let going : is_live u ≡ true = ap is_live is ∙ live in
      rw (same, going) refl
  | inr other ↦
      let rest : transaction_at us id ≡ Some t = rw other at there in
      rw (other, and_right (is_live u) false refl) (found_there us t id rest live)
]

-- ---- what is kept is all that there is

kept_one : (live : List Transaction) (t : Transaction) (id : Id) (e : Ending) → t.id ≡ id → find (λ u. same_id u.id id) live ≡ if_live t → (is_live t ≡ false → t ≡ ended_with t.id e) → one_of live id e ≡ t
kept_one live t id e named found ended = elim (cases_Bool (is_live t)) [
  | inl is ↦ ap (λ o. live_or_ended o id e) (found ∙ ap (λ (b : Bool). if b then Some t else None) is)
  | inr over ↦ ap (λ o. live_or_ended o id e) (found ∙ ap (λ (b : Bool). if b then Some t else None) over) ∙ ap (λ (i : Id). ended_with i e) (sym named) ∙ sym (ended over)
]

-- each of the transactions is found among those where it is live
abbrev AreFound : List Transaction → List Transaction → Type 0
AreFound live ts = (k : ℕ) (d : Transaction) → k < length ts → find (λ u. same_id u.id (get_or ts k d).id) live ≡ if_live (get_or ts k d)

found_each : (ts : List Transaction) → are_rising id_of ts ≡ true → AreFound (filter is_live ts) ts
found_each ts rises k d within =
    live_found ts (get_or ts k d).id ∙ found_live ts (get_or ts k d).id k d (at_id id_of ts (get_or ts k d).id k rises within (λ e. same_id-from _ _ (ap id_of (get_or_default ts k e d within))))

numbered_kept : (live ts : List Transaction) (es : List Ending) (boot before : ℕ) → AreNumbered boot before ts → AreEndings es ts → AreFound live ts → numbered_of boot before es live ≡ ts
numbered_kept live [] [] boot before are ends found = refl
numbered_kept live [] (e ∷ es) boot before are ends found = absurd ends
numbered_kept live (t ∷ ts) [] boot before are ends found = absurd ends
numbered_kept live (t ∷ ts) (e ∷ es) boot before are ends found =
    let first = kept_one live t _ e are.0 (subst (λ (x : Id). find (λ u. same_id u.id x) live ≡ if_live t) are.0 (found 0 t (omega arith))) ends.0 in
    let rest = numbered_kept live ts es boot (before + 1) are.1 ends.1 (λ k d within. found (suc k) d (omega (arith, within))) in
    ap (λ (x : Transaction). x ∷ numbered_of boot (before + 1) es live) first ∙ ap (λ (l : List Transaction). t ∷ l) rest

all_kept : (live ts : List Transaction) (es : List Ending) (boot : ℕ) (back : List Id) → AreSplit boot back ts → AreEndings es ts → AreFound live ts → all_of boot back es live ≡ ts
all_kept live ts es boot [] split ends found = numbered_kept live ts es boot 0 split ends found
all_kept live [] es boot (b ∷ back) split ends found = absurd split
all_kept live (t ∷ ts) [] boot (b ∷ back) split ends found = absurd ends
all_kept live (t ∷ ts) (e ∷ es) boot (b ∷ back) split ends found =
    let first = kept_one live t b e split.0 (subst (λ (x : Id). find (λ u. same_id u.id x) live ≡ if_live t) split.0 (found 0 t (omega arith))) ends.0 in
    let rest = all_kept live ts es boot back split.2 ends.1 (λ k d within. found (suc k) d (omega (arith, within))) in
    ap (λ (x : Transaction). x ∷ all_of boot back es live) first ∙ ap (λ (l : List Transaction). t ∷ l) rest

pub all_are : (boot : ℕ) (back : List Id) (es : List Ending) (live ts : List Transaction) → IsTable boot back es live ts → all_of boot back es live ≡ ts
all_are boot back es live ts table = all_kept live ts es boot back table.listed.split table.endings_are (subst (λ (l : List Transaction). AreFound l ts) (sym table.live_are) (found_each ts table.listed.rising))

-- so they are those that are shown
pub shown : (boot : ℕ) (back : List Id) (es : List Ending) (live ts : List Transaction) → IsTable boot back es live ts → IsTable boot back es live (all_of boot back es live)
shown boot back es live ts table = subst (IsTable boot back es live) (sym (all_are boot back es live ts table)) table

-- ---- how each has ended

pub as_many : (es : List Ending) (ts : List Transaction) → AreEndings es ts → length es ≡ length ts
as_many [] [] ends = refl
as_many [] (t ∷ ts) ends = absurd ends
as_many (e ∷ es) [] ends = absurd ends
as_many (e ∷ es) (t ∷ ts) ends = ap suc (as_many es ts ends.1)

ending_at : (es : List Ending) (ts : List Transaction) (i : ℕ) (d : Transaction) (e : Ending) → AreEndings es ts → i < length ts → is_live (get_or ts i d) ≡ false → get_or ts i d ≡ ended_with (get_or ts i d).id (get_or es i e)
ending_at [] [] i d e ends within over = absurd (omega (arith, within))
ending_at [] (t ∷ ts) i d e ends within over = absurd ends
ending_at (x ∷ es) [] i d e ends within over = absurd ends
ending_at (x ∷ es) (t ∷ ts) zero d e ends within over = ends.0 over
ending_at (x ∷ es) (t ∷ ts) (suc i) d e ends within over = ending_at es ts i d e ends.1 (omega (arith, within)) over

ends_push : (es : List Ending) (ts : List Transaction) (e : Ending) (t : Transaction) → AreEndings es ts → is_live t ≡ true → AreEndings (es ++ e ∷ []) (ts ++ t ∷ [])
ends_push [] [] e t ends live = (λ over. absurd (true≢false (sym live ∙ over)), tt)
ends_push [] (u ∷ ts) e t ends live = absurd ends
ends_push (x ∷ es) [] e t ends live = absurd ends
ends_push (x ∷ es) (u ∷ ts) e t ends live = (ends.0, ends_push es ts e t ends.1 live)

ends_live : (es : List Ending) (ts : List Transaction) (i : ℕ) (t : Transaction) → AreEndings es ts → is_live t ≡ true → AreEndings es (set ts i t)
ends_live [] [] i t ends live = tt
ends_live [] (u ∷ ts) i t ends live = absurd ends
ends_live (x ∷ es) [] i t ends live = absurd ends
ends_live (x ∷ es) (u ∷ ts) zero t ends live = (λ over. absurd (true≢false (sym live ∙ over)), ends.1)
ends_live (x ∷ es) (u ∷ ts) (suc i) t ends live = (ends.0, ends_live es ts i t ends.1 live)

ends_over : (es : List Ending) (ts : List Transaction) (i : ℕ) (e : Ending) (t : Transaction) → AreEndings es ts → t ≡ ended_with t.id e → AreEndings (set es i e) (set ts i t)
ends_over [] [] i e t ends is = tt
ends_over [] (u ∷ ts) i e t ends is = absurd ends
ends_over (x ∷ es) [] i e t ends is = absurd ends
ends_over (x ∷ es) (u ∷ ts) zero e t ends is = (λ over. is, ends.1)
ends_over (x ∷ es) (u ∷ ts) (suc i) e t ends is = (ends.0, ends_over es ts i e t ends.1 is)

-- one that is not live and whose times are forgotten is known by its outcome and whether it is recorded
forgotten_is : (t : Transaction) → IsForgotten t → is_live t ≡ false → t ≡ ended_with t.id (record { outcome = t.outcome; is_recorded = t.is_recorded })
forgotten_is t forgotten over =
    let times = forgotten over in
    ap (λ (p : Phase). record t { phase = p }) (phase t.phase over) ∙ ap (λ (n : ℕ). record t { phase = Phase.Ended; timeout = n }) times.0 ∙ ap (λ (n : ℕ). record t { phase = Phase.Ended; timeout = 0; created = n }) times.1
  where
    phase : (p : Phase) → is_live (record t { phase = p }) ≡ false → p ≡ Phase.Ended
    phase Phase.Ended over = refl
    phase _ over = absurd (true≢false over)

-- ---- one is found

pub one_found : (boot : ℕ) (back : List Id) (es : List Ending) (live ts : List Transaction) (id : Id) (place : ℕ) (e : Ending) → IsTable boot back es live ts → IsPlace ts id place → e ≡ get_or es place e → Some (one_of live id e) ≡ transaction_at ts id
one_found boot back es live ts id place e table at is =
    let d = ended_with id e in
    let found = ap (find (λ u. same_id u.id id)) table.live_are ∙ live_found ts id ∙ at.live d in
    let ended = λ (over : is_live (get_or ts place d) ≡ false). ending_at es ts place d e table.endings_are at.within over ∙ ap (ended_with (get_or ts place d).id) (sym is) in
    ap Some (kept_one live (get_or ts place d) id e (at.named d) found ended) ∙ sym (at.found d)

-- ---- the live ones, where one comes or changes

live_push : (live ts : List Transaction) (t : Transaction) → live ≡ filter is_live ts → is_live t ≡ true → live ++ t ∷ [] ≡ filter is_live (ts ++ t ∷ [])
live_push live ts t are going = ap (λ (l : List Transaction). l ++ t ∷ []) are ∙ sym (filter-append is_live ts (t ∷ []) ∙ ap (λ (b : Bool). filter is_live ts ++ (if b then t ∷ [] else [])) going)

nowhere_live : (ts : List Transaction) (id : Id) (k : ℕ) → IsNowhere id_of ts id → IsAt id_of (filter is_live ts) id k → ⊥
nowhere_live [] id k nowhere at = at
nowhere_live (t ∷ ts) id k nowhere at = head (is_live t) k (λ j. nowhere_live ts id j nowhere.1) at
  where
    head : (b : Bool) (k : ℕ) → ((j : ℕ) → IsAt id_of (filter is_live ts) id j → ⊥) → IsAt id_of (if b then t ∷ filter is_live ts else filter is_live ts) id k → ⊥
    head true zero rest at = true≢false (sym at.0 ∙ nowhere.0)
    head true (suc k) rest at = rest k at.1
    head false k rest at = rest k at

-- the live ones, where the one at this place changes or goes
abbrev pub changed_live : List Transaction → ℕ → Transaction → Bool → List Transaction
changed_live live k t true = set live k t
changed_live live k t false = remove live k

live_set : (ts : List Transaction) (id : Id) (i k : ℕ) (t : Transaction) (b : Bool) → is_live t ≡ b → IsAt id_of ts id i → IsAt id_of (filter is_live ts) id k → changed_live (filter is_live ts) k t b ≡ filter is_live (set ts i t)
live_set [] id i k t b is at among = absurd at
live_set (x ∷ xs) id zero k t b is at among = head (is_live x) k b is among
  where
    head : (a : Bool) (k : ℕ) (b : Bool) → is_live t ≡ b → IsAt id_of (if a then x ∷ filter is_live xs else filter is_live xs) id k → changed_live (if a then x ∷ filter is_live xs else filter is_live xs) k t b ≡ filter is_live (t ∷ xs)
    head true zero true is among = rw is refl
    head true zero false is among = rw is refl
    head true (suc k) b is among = absurd (true≢false (sym at.0 ∙ among.0))
    head false k b is among = absurd (nowhere_live xs id k at.1 among)
live_set (x ∷ xs) id (suc i) k t b is at among = head (is_live x) k b (λ j. live_set xs id i j t b is at.1) among
  where
    head : (a : Bool) (k : ℕ) (b : Bool) → ((j : ℕ) → IsAt id_of (filter is_live xs) id j → changed_live (filter is_live xs) j t b ≡ filter is_live (set xs i t))
        → IsAt id_of (if a then x ∷ filter is_live xs else filter is_live xs) id k
        → changed_live (if a then x ∷ filter is_live xs else filter is_live xs) k t b ≡ (if a then x ∷ filter is_live (set xs i t) else filter is_live (set xs i t))
    head true zero b rest among = absurd (true≢false (sym among.0 ∙ at.0))
    head true (suc k) true rest among = ap (λ (l : List Transaction). x ∷ l) (rest k among.1)
    head true (suc k) false rest among = ap (λ (l : List Transaction). x ∷ l) (rest k among.1)
    head false k b rest among = rest k among

-- ---- one more

-- the next one of this boot
pub table_new : (boot : ℕ) (back : List Id) (es : List Ending) (live ts : List Transaction) (e : Ending) (t : Transaction) → IsTable boot back es live ts → t.id ≡ record { boot = boot; number = length ts - length back + 1 } → is_live t ≡ true
    → IsTable boot back (es ++ e ∷ []) (live ++ t ∷ []) (ts ++ t ∷ [])
table_new boot back es live ts e t table is going = record {
  listed = listed_push ts boot back t table.listed is;
  endings_are = ends_push es ts e t table.endings_are going;
  live_are = live_push live ts t table.live_are going;
}

-- one that is brought back
pub table_back : (boot : ℕ) (back : List Id) (es : List Ending) (live ts : List Transaction) (e : Ending) (t : Transaction) → IsTable boot back es live ts → length ts ≡ length back → t.id.boot < boot → list_all (λ (u : Transaction). is_before u.id t.id) ts ≡ true → is_live t ≡ true
    → IsTable boot (back ++ t.id ∷ []) (es ++ e ∷ []) (live ++ t ∷ []) (ts ++ t ∷ [])
table_back boot back es live ts e t table same earlier behind going = record {
  listed = listed_back ts boot back t table.listed same earlier behind;
  endings_are = ends_push es ts e t table.endings_are going;
  live_are = live_push live ts t table.live_are going;
}

-- ---- one changes

at_own : (ts : List Transaction) (id : Id) (i : ℕ) → are_rising id_of ts ≡ true → IsPlace ts id i → IsAt id_of ts id i
at_own ts id i rises place = at_id id_of ts id i rises place.within (λ d. same_id-from _ _ (place.named d))

-- one that has not ended
pub table_live : (boot : ℕ) (back : List Id) (es : List Ending) (live ts : List Transaction) (t : Transaction) (i k : ℕ) → IsTable boot back es live ts → IsPlace ts t.id i → IsAt id_of live t.id k → is_live t ≡ true
    → IsTable boot back es (set live k t) (change_at ts t.id (λ other. t))
table_live boot back es live ts t i k table place at going =
    let among = subst (λ (l : List Transaction). IsAt id_of l t.id k) table.live_are at in
    subst (IsTable boot back es (set live k t)) (sym (place.changes (λ other. t) t)) record {
      listed = listed_set ts boot back i t table.listed place.within (place.named t);
      endings_are = ends_live es ts i t table.endings_are going;
      live_are = ap (λ (l : List Transaction). set l k t) table.live_are ∙ live_set ts t.id i k t true going (at_own ts t.id i table.listed.rising place) among;
    }

-- one that has
pub table_over : (boot : ℕ) (back : List Id) (es : List Ending) (live ts : List Transaction) (t : Transaction) (i k : ℕ) → IsTable boot back es live ts → IsPlace ts t.id i → IsAt id_of live t.id k → IsForgotten t → is_live t ≡ false
    → IsTable boot back (set es i (record { outcome = t.outcome; is_recorded = t.is_recorded })) (remove live k) (change_at ts t.id (λ other. t))
table_over boot back es live ts t i k table place at forgotten over =
    let among = subst (λ (l : List Transaction). IsAt id_of l t.id k) table.live_are at in
    subst (IsTable boot back (set es i (record { outcome = t.outcome; is_recorded = t.is_recorded })) (remove live k)) (sym (place.changes (λ other. t) t)) record {
      listed = listed_set ts boot back i t table.listed place.within (place.named t);
      endings_are = ends_over es ts i _ t table.endings_are (forgotten_is t forgotten over);
      live_are = ap (λ (l : List Transaction). remove l k) table.live_are ∙ live_set ts t.id i k t false over (at_own ts t.id i table.listed.rising place) among;
    }

-- one that is not among the live ones is not live
pub not_there : (boot : ℕ) (back : List Id) (es : List Ending) (live ts : List Transaction) (id : Id) → IsTable boot back es live ts → IsNowhere id_of live id → is_some (find (λ u. is_live u && same_id u.id id) ts) ≡ true → ⊥
not_there boot back es live ts id table nowhere there =
    true≢false (sym there ∙ ap is_some (sym (live_found ts id) ∙ sym (ap (find (λ u. same_id u.id id)) table.live_are) ∙ none_found id_of live id nowhere))

-- ---- what is seen

abbrev pub state_of : ℕ → ℕ → ℕ → List Transaction → TableState
state_of boot room made ts = record { boot = boot; made = made; items = ts; room = room }

pub as_seen : (boot room made made' : ℕ) (ts ts' : List Transaction) → made ≡ made' → ts ≡ ts' → state_of boot room made ts ≡ state_of boot room made' ts'
as_seen boot room made made' ts ts' same all = λ i. record { boot = boot; made = same i; items = all i; room = room }
