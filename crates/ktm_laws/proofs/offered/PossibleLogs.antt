-- Which logs a loss of power may leave, and what each of them passes.
use Rattle.std.specs.Prelude.{Contains}
use Rattle.std.proofs.Common.{◌≡◌, ℕ, zero, suc, not, Bool, true, false, List, [], ◌∷◌, ◌++◌, filter, length, map, inl, inr, refl, sym, ◌∙◌, ap, subst, arith, length-append}
use Rattle.std.proofs.lemmas.Bool.{and_from, and_parts, cases_Bool}
use Rattle.std.proofs.lemmas.List.{append-nil, drop-map}
use Rattle.std.proofs.lemmas.List.Folds.{list_all-append, list_all-map}
use Rattle.std.specs.List.{list_all}
use Rattle.ktm_world.specs.declared.event.Event.{Event}
use Rattle.ktm_world.specs.Logs.{Group, Power, up, down, as_groups, kept_after, prefixes, prefixes_from, possible_by}
use Rattle.ktm_world.specs.Outcome.{Outcome}
use Rattle.ktm_world.specs.World.{World, extend, is_worn_log, possible_logs, with_own}

pub contains-passes : {X : Type 0} (p : X → Bool) (xs : List X) (x : X) → list_all p xs ≡ true → Contains xs x → p x ≡ true
contains-passes p [] x all (k, within, is) = absurd (omega arith)
contains-passes p (y ∷ ys) x all (zero, within, is) = ap p (sym is) ∙ (and_parts (p y) (list_all p ys) all).0
contains-passes p (y ∷ ys) x all (suc k, within, is) = contains-passes p ys x (and_parts (p y) (list_all p ys) all).1 (k, omega arith, is)

-- a test over what may be left of a log and groups behind it
prefixes-pass : (p : List Group → Bool) (log groups : List Group) → list_all p (prefixes_from (length log) (log ++ groups)) ≡ list_all (λ more. p (log ++ more)) (prefixes groups)
prefixes-pass p [] groups = refl
prefixes-pass p (group ∷ log) groups =
    ap (list_all p) (drop-map (λ (l : List Group). group ∷ l) (length log) (prefixes (log ++ groups)))
    ∙ list_all-map p (λ (l : List Group). group ∷ l) (prefixes_from (length log) (log ++ groups))
    ∙ prefixes-pass (λ l. p (group ∷ l)) log groups

-- of a log whose groups are all kept, with the group of a command
pub left-with : (p : List Group → Bool) (log : List Group) (kept : ℕ) (events : List Event) → kept ≡ length log → p log ≡ true → p (log ++ as_groups events) ≡ true
    → list_all p (prefixes_from kept (log ++ as_groups events)) ≡ true
left-with p log kept events all before then = subst (λ n. list_all p (prefixes_from n (log ++ as_groups events)) ≡ true) (sym all) (prefixes-pass p log (as_groups events) ∙ go events then)
  where
    here : p (log ++ []) ≡ true
    here = ap p (append-nil log) ∙ before

    go : (events : List Event) → p (log ++ as_groups events) ≡ true → list_all (λ more. p (log ++ more)) (prefixes (as_groups events)) ≡ true
    go [] then = and_from _ _ here refl
    go (event ∷ events) then = and_from _ _ here (and_from _ _ then refl)

-- of a log whose groups are all kept, and no more
pub left-all : (p : List Group → Bool) (log : List Group) (kept : ℕ) → kept ≡ length log → p log ≡ true → list_all p (prefixes_from kept log) ≡ true
left-all p log kept all is = subst (λ l. list_all p (prefixes_from kept l) ≡ true) (append-nil log) (left-with p log kept [] all is (ap p (append-nil log) ∙ is))

-- all groups stay kept
pub kept-all : (kept : ℕ) (log : List Group) (events : List Event) → kept ≡ length log → kept_after kept log events ≡ length (log ++ as_groups events)
kept-all kept log [] all = all ∙ ap length (sym (append-nil log))
kept-all kept log (event ∷ events) all = sym (length-append log ((event ∷ events) ∷ []))

-- after an outcome
pub left-extend : (p : List Group → Bool) (w : World) (o : Outcome) → w.kept ≡ length w.log → p (w.log ++ as_groups o.events) ≡ true → list_all p (possible_logs w) ≡ true → list_all p (possible_logs (extend w o)) ≡ true
left-extend p w o all then before = go w.power refl
  where
    go : (power : Power) → w.power ≡ power → list_all p (possible_by w.power (kept_after w.kept w.log o.events) (w.log ++ as_groups o.events)) ≡ true
    go up is = subst (λ power. list_all p (possible_by power (kept_after w.kept w.log o.events) (w.log ++ as_groups o.events)) ≡ true) (sym is)
        (left-all p (w.log ++ as_groups o.events) (kept_after w.kept w.log o.events) (kept-all w.kept w.log o.events all) then)
    go (down may) is = subst (λ power. list_all p (possible_by power (kept_after w.kept w.log o.events) (w.log ++ as_groups o.events)) ≡ true) (sym is)
        (subst (λ power. list_all p (possible_by power w.kept w.log) ≡ true) is before)

-- after a restart in which the power went
pub left-restart : (p : List Group → Bool) (w : World) → ((l : List Group) → is_worn_log w l ≡ false → p l ≡ true → p (with_own w l) ≡ true) → (logs : List (List Group)) → list_all p logs ≡ true
    → list_all p (logs ++ map (with_own w) (filter (λ l. not (is_worn_log w l)) logs)) ≡ true
left-restart p w then logs all = list_all-append p logs _ ∙ and_from _ _ all (go logs all)
  where
    go : (logs : List (List Group)) → list_all p logs ≡ true → list_all p (map (with_own w) (filter (λ l. not (is_worn_log w l)) logs)) ≡ true
    go [] all = refl
    go (l ∷ logs) all =
        let parts = and_parts (p l) (list_all p logs) all in
        let rest = go logs parts.1 in
        elim (cases_Bool (is_worn_log w l)) [
          | inl worn ↦ rw worn rest
          | inr fresh ↦ rw fresh (and_from _ _ (then l fresh parts.0) rest)
        ]
