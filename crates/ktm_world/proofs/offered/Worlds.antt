-- What an outcome does to the history, and to what is so now.
use Rattle.std.proofs.Common.{◌≡◌, ◌≤◌, not, Bool, true, List, [], ◌∷◌, ◌++◌, length, map, filter, All, None, Option, refl, sym, ◌∙◌, ap, subst, arith, inl, inr, length-append}
use Rattle.std.proofs.Math.Seq.{take-append_seam}
use Rattle.std.proofs.lemmas.Bool.{cases_Bool}
use Rattle.std.proofs.lemmas.List.{append-nil, map-append, take-append-le}
use Rattle.std.proofs.lemmas.List.Elements.{All-append, All-filter, All-head, All-map, All-nil, All-tail, All-weaker}
use Rattle.std.proofs.lemmas.List.Sums.{fold-append}
use Rattle.ktm_base.specs.declared.refusal.Refusal.{Refusal}
use Rattle.ktm_base.specs.declared.refusal.Refusal.TheVariants.{MachineDown}
use Rattle.ktm_world.specs.declared.reply.Reply.{Reply}
use Rattle.ktm_world.specs.declared.reply.Reply.TheVariants.{Refused}
use Rattle.ktm_world.specs.Outcome.{first_refusal, Outcome, apply, first_opens_after, is_forgotten, only_reply, refuse_or, served}
use Rattle.ktm_world.specs.Logs.{is_up}
use Rattle.ktm_world.specs.Committed.{committed_with, with_work}
use Rattle.ktm_world.specs.Decide.{decide, command_effect}
use Rattle.ktm_world.specs.Durable.{after_events}
use Rattle.ktm_world.specs.Enlistments.{Manager}
use Rattle.ktm_world.specs.Files.{FirstOpen, first_open}
use Rattle.ktm_world.specs.TransactionCalls.{tick}
use Rattle.ktm_world.specs.World.{World, ManagerPast, OpenedAfter, committed, decide_tick, extend, first_open_now, made_past, manager_now, opened_after, present, served_past}
use Rattle.ktm_world.specs.Laws.{FirstOpensLaw, FirstOpensLieWithin, RefusalLaw, StepLaw}

-- ---- lists

map_map : {A B C : Type 0} (f : B → C) (g : A → B) (xs : List A) → map f (map g xs) ≡ map (λ x. f (g x)) xs
map_map f g [] = refl
map_map f g (x ∷ xs) = ap (λ ys. f (g x) ∷ ys) (map_map f g xs)

-- two functions that agree on each element
map_same : {A B : Type 0} (f g : A → B) → ((x : A) → f x ≡ g x) → (xs : List A) → map f xs ≡ map g xs
map_same f g same [] = refl
map_same f g same (x ∷ xs) = λ i. same x i ∷ map_same f g same xs i

-- two functions that agree on the elements that are so
map_where : {A B : Type 0} (f g : A → B) (P : A → Type 0) → ((x : A) → P x → f x ≡ g x) → (xs : List A) → All P xs → map f xs ≡ map g xs
map_where f g P same [] all = refl
map_where f g P same (x ∷ xs) all = λ i. same x (All-head P x xs all) i ∷ map_where f g P same xs (All-tail P x xs all) i

-- a test that a function keeps
map_filter : {A B : Type 0} (f : A → B) (p : A → Bool) (q : B → Bool) → ((x : A) → p x ≡ q (f x)) → (xs : List A) → map f (filter p xs) ≡ filter q (map f xs)
map_filter f p q kept [] = refl
map_filter f p q kept (x ∷ xs) = elim (cases_Bool (p x)) [
  | inl yes' ↦ rw (yes', sym (kept x) ∙ yes') (ap (λ ys. f x ∷ ys) (map_filter f p q kept xs))
  | inr no' ↦ rw (no', sym (kept x) ∙ no') (map_filter f p q kept xs)
]

-- a test that each element passes
pub filter_all : {A : Type 0} (p : A → Bool) → ((x : A) → p x ≡ true) → (xs : List A) → filter p xs ≡ xs
filter_all p pass [] = refl
filter_all p pass (x ∷ xs) = rw (pass x) (ap (λ ys. x ∷ ys) (filter_all p pass xs))

-- ---- what is so after an outcome

committed_after : (w : World) (o : Outcome) → committed (extend w o) ≡ committed_with (committed w) o.works
committed_after w o = fold-append with_work w.start w.works o.works

managers_after : (w : World) (o : Outcome) → map manager_now (extend w o).managers ≡ map (served o.took o.sent) (map manager_now w.managers ++ o.made)
managers_after w o =
    map_map manager_now (served_past o.took o.sent) (w.managers ++ map made_past o.made)
    ∙ sym (map_map (served o.took o.sent) manager_now (w.managers ++ map made_past o.made))
    ∙ ap (map (served o.took o.sent)) (map-append manager_now w.managers (map made_past o.made) ∙ ap (λ ms. map manager_now w.managers ++ ms) (back o.made))
  where
    back : (ms : List Manager) → map manager_now (map made_past ms) ≡ ms
    back [] = refl
    back (m ∷ ms) = ap (λ others. m ∷ others) (back ms)

-- the first opens that there were show what they showed
old_after : (w : World) (o : Outcome) → FirstOpensLieWithin w → map (first_open_now (extend w o)) w.first_opens ≡ map (first_open_now w) w.first_opens
old_after w o within =
    map_where (first_open_now (extend w o)) (first_open_now w) (λ (f : OpenedAfter). f.works ≤ length w.works)
    (λ f few. ap (λ works. first_open (committed_with w.start works) (record { transaction = f.transaction; file = f.file })) (take-append-le f.works w.works o.works few)) w.first_opens within.works

-- the new ones show what was committed before
new_after : (w : World) (o : Outcome) → map (first_open_now (extend w o)) (map (opened_after w) o.openings) ≡ map (first_open (committed w)) o.openings
new_after w o =
    map_map (first_open_now (extend w o)) (opened_after w) o.openings
    ∙ map_same (λ opening. first_open_now (extend w o) (opened_after w opening)) (first_open (committed w))
    (λ opening. ap (λ works. first_open (committed_with w.start works) opening) (take-append_seam w.works o.works)) o.openings

-- the first opens that an outcome leaves
abbrev keeps : Outcome → FirstOpen → Bool
keeps o f = not (is_forgotten o.forgotten f.transaction)

first_opens_now_after : (w : World) (o : Outcome) → FirstOpensLieWithin w → map (first_open_now (extend w o)) (extend w o).first_opens ≡ first_opens_after (present w) o
first_opens_now_after w o within =
    map_filter (first_open_now (extend w o)) (λ f. not (is_forgotten o.forgotten f.transaction)) (keeps o) (λ f. refl) (w.first_opens ++ map (opened_after w) o.openings)
    ∙ ap (filter (keeps o))
    (map-append (first_open_now (extend w o)) w.first_opens (map (opened_after w) o.openings) ∙ ap (λ fs. fs ++ map (first_open_now (extend w o)) (map (opened_after w) o.openings)) (old_after w o within)
    ∙ ap (λ fs. map (first_open_now w) w.first_opens ++ fs) (new_after w o))

pub present-extend : (w : World) (o : Outcome) → FirstOpensLieWithin w → present (extend w o) ≡ apply (present w) o
present-extend w o within i = record {
  machine = record { is_up = is_up w.power };
  recorded = after_events w.recorded o.events;
  transactions = o.transactions;
  managers = managers_after w o i;
  files = record { tree = (committed_after w o i).tree; versions = (committed_after w o i).versions; first_opens = first_opens_now_after w o within i; table = o.table };
  keys = record { store = (committed_after w o i).store; own = o.own };
  handles = o.handles;
}

pub step_law : StepLaw
step_law = (
  present-extend,
  λ w process command. present-extend w (decide (present w) process command),
  λ w ms. present-extend w (decide_tick (present w) ms),
)

-- ---- the first opens lie within the works

pub first_opens_law : FirstOpensLaw
first_opens_law = (λ base log. record { works = All-nil (λ (f : OpenedAfter). f.works ≤ 0) }, λ w o within. record { works = kept w o within })
  where
    kept : (w : World) (o : Outcome) → FirstOpensLieWithin w → All (λ (f : OpenedAfter). f.works ≤ length (w.works ++ o.works)) (extend w o).first_opens
    kept w o within =
        let longer = length-append w.works o.works in
        All-filter (λ f. not (is_forgotten o.forgotten f.transaction)) (λ (f : OpenedAfter). f.works ≤ length (w.works ++ o.works)) (w.first_opens ++ map (opened_after w) o.openings)
        (All-append (λ (f : OpenedAfter). f.works ≤ length (w.works ++ o.works)) w.first_opens (map (opened_after w) o.openings)
        (All-weaker (λ (f : OpenedAfter). f.works ≤ length w.works) (λ (f : OpenedAfter). f.works ≤ length (w.works ++ o.works)) (λ f few. omega arith) w.first_opens within.works)
        (All-map (λ (f : OpenedAfter). f.works ≤ length (w.works ++ o.works)) (opened_after w) o.openings (λ k d l. omega arith)))

-- ---- refusals

managers_served_nothing : (ms : List ManagerPast) → map (served_past None []) ms ≡ ms
managers_served_nothing [] = refl
managers_served_nothing (m ∷ ms) = λ i. record m { taken = append-nil m.taken i; queue = append-nil m.queue i } ∷ managers_served_nothing ms i

extend-only_reply : (w : World) (reply : Reply) → extend w (only_reply (present w) reply) ≡ w
extend-only_reply w reply i = record w {
  log = append-nil w.log i;
  works = append-nil w.works i;
  managers = (ap (map (served_past None [])) (append-nil w.managers) ∙ managers_served_nothing w.managers) i;
  first_opens = (filter_all (λ (f : OpenedAfter). true) (λ f. refl) (w.first_opens ++ []) ∙ append-nil w.first_opens) i;
}

pub refusal_law : RefusalLaw
refusal_law = (
  λ w process command refusal refused.
      subst (λ (r : Option Refusal). extend w (refuse_or (present w) r (command_effect (present w) process command)) ≡ w) (sym refused)
      (extend-only_reply w (Refused refusal)),
  λ w ms down.
      subst (λ (up : Bool). extend w (refuse_or (present w) (first_refusal ((not up, MachineDown) ∷ [])) (tick (present w) ms)) ≡ w) (sym down)
      (extend-only_reply w (Refused MachineDown)),
)
