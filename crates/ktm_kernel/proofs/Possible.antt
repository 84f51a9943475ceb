-- Which logs are among the possible ones.
use Rattle.std.proofs.Common.{◌≡◌, ℕ, Bool, true, false, cond, List, [], ◌∷◌, ◌++◌, filter, map, length, drop, zero, suc, refl, sym, ◌∙◌, ap, subst, arith}
use Rattle.std.proofs.lemmas.List.{append-nil}
use Rattle.std.specs.Prelude.{Contains}
use Rattle.ktm_world.specs.declared.event.Event.{Event}
use Rattle.ktm_world.specs.Logs.{Group, as_groups, prefixes, prefixes_from}

-- a list's first element, and one that stands somewhere
pub first_is : {X : Type 0} (x : X) (xs : List X) → Contains (x ∷ xs) x
first_is x xs = (0, omega arith, refl)

pub Contains-map : {X Y : Type 0} (f : X → Y) (xs : List X) (x : X) → Contains xs x → Contains (map f xs) (f x)
Contains-map f [] x (k, within, is) = absurd (omega arith)
Contains-map f (y ∷ ys) x (zero, within, is) = (0, omega arith, ap f is)
Contains-map f (y ∷ ys) x (suc k, within, is) =
    let (j, inside, at) = Contains-map f ys x (k, omega arith, is) in (suc j, omega arith, at)

drop-map : {X Y : Type 0} (f : X → Y) (n : ℕ) (xs : List X) → drop n (map f xs) ≡ map f (drop n xs)
drop-map f zero xs = refl
drop-map f (suc n) [] = refl
drop-map f (suc n) (x ∷ xs) = drop-map f n xs

-- a log is among the prefixes of what it begins, from its own length on, and so is one with a group more
pub log_possible : (log more : List Group) → Contains (prefixes_from (length log) (log ++ more)) log
log_possible [] [] = first_is [] []
log_possible [] (g ∷ more) = first_is [] _
log_possible (g ∷ log) more =
    subst (λ (ls : List (List Group)). Contains ls (g ∷ log)) (sym (drop-map (λ (l : List Group). g ∷ l) (length log) (prefixes (log ++ more))))
    (Contains-map (λ (l : List Group). g ∷ l) (prefixes_from (length log) (log ++ more)) log (log_possible log more))

pub more_possible : (log : List Group) (group : Group) → Contains (prefixes_from (length log) (log ++ group ∷ [])) (log ++ group ∷ [])
more_possible [] group = (1, omega arith, refl)
more_possible (g ∷ log) group =
    subst (λ (ls : List (List Group)). Contains ls (g ∷ (log ++ group ∷ []))) (sym (drop-map (λ (l : List Group). g ∷ l) (length log) (prefixes (log ++ group ∷ []))))
    (Contains-map (λ (l : List Group). g ∷ l) (prefixes_from (length log) (log ++ group ∷ [])) (log ++ group ∷ []) (more_possible log group))

pub groups_possible : (log : List Group) (events : List Event) → Contains (prefixes_from (length log) (log ++ as_groups events)) (log ++ as_groups events)
groups_possible log [] = subst (λ (l : List Group). Contains (prefixes_from (length log) (log ++ [])) l) (sym (append-nil log)) (log_possible log [])
groups_possible log (event ∷ events) = more_possible log (event ∷ events)

-- of a list and another behind it
pub in_first : {X : Type 0} (xs ys : List X) (x : X) → Contains xs x → Contains (xs ++ ys) x
in_first [] ys x (k, within, is) = absurd (omega arith)
in_first (z ∷ zs) ys x (zero, within, is) = (0, omega arith, is)
in_first (z ∷ zs) ys x (suc k, within, is) = let (j, inside, at) = in_first zs ys x (k, omega arith, is) in (suc j, omega arith, at)

pub in_second : {X : Type 0} (xs ys : List X) (x : X) → Contains ys x → Contains (xs ++ ys) x
in_second [] ys x there = there
in_second (z ∷ zs) ys x there = let (j, inside, at) = in_second zs ys x there in (suc j, omega arith, at)

-- of a list of which only some are kept
pub Contains-filter : {X : Type 0} (p : X → Bool) (xs : List X) (x : X) → Contains xs x → p x ≡ true → Contains (filter p xs) x
Contains-filter p [] x (k, within, is) passes = absurd (omega arith)
Contains-filter p (y ∷ ys) x (zero, within, is) passes =
    subst (λ b. Contains (cond b (y ∷ filter p ys) (filter p ys)) x) (sym (ap p is ∙ passes)) (0, omega arith, is)
Contains-filter p (y ∷ ys) x (suc k, within, is) passes = in_rest (p y) (Contains-filter p ys x (k, omega arith, is) passes)
  where
    in_rest : (b : Bool) → Contains (filter p ys) x → Contains (cond b (y ∷ filter p ys) (filter p ys)) x
    in_rest true there = in_second (y ∷ []) (filter p ys) x there
    in_rest false there = there
