-- Groups as they are recorded with pages, and what they mean.
use Rattle.std.specs.Prelude.{◌≡◌, ℕ, ◌≤◌, true, List, [], ◌∷◌, map, sum_by, All, ⊤}
use Rattle.std.specs.List.{list_all}
use Rattle.ktm_world.specs.Sizes.{event_size}
use Rattle.ktm_world.specs.declared.change.Change.{Change}
use Rattle.ktm_world.specs.declared.event.Event.TheVariants.{Plain}
use Rattle.ktm_world.specs.declared.step.Step.{Step}
use Rattle.txf_laws.specs.Contents.{puts_some}
use Rattle.txf_laws.specs.Grammatical.{changes_of_event, is_grammatical}
use Rattle.ktm_world.specs.Durable.{Durable, events_apply}
use Rattle.ktm_world.specs.Logs.{Group}
use Rattle.ktm_world.specs.Steps.{Basis, events_ahead}
use Rattle.ktm_each.specs.Each.{EachOfDurable, EachOfGroup}
use Rattle.ktm_paged.specs.Meaning.{has_event_its_pages, has_its_pages, has_work_pages, meant, size_before}
use Rattle.ktm_paged.specs.Paged.{GroupApplies, IsSound, meant_group, paged_after}

-- each event of a group has its pages, in the state that those before it come to
abbrev pub HaveTheirPages : Durable → Group → Type 0
HaveTheirPages s [] = ⊤
HaveTheirPages s (event ∷ events) = (has_event_its_pages s.tree event ≡ true) × HaveTheirPages (paged_after s event) events

-- these events are recorded so, with pages: the recorded ones mean them in this state, take no more bytes of a log, and are as the grammar has them where they are
pub record IsRecordOf (s : Durable) (raw events : Group) : Type 0 where
  pub means : meant_group s raw ≡ events
  pub paged : HaveTheirPages s raw
  pub size : sum_by event_size raw ≤ sum_by event_size events
  pub grammatical : list_all is_grammatical events ≡ true → list_all is_grammatical raw ≡ true

-- what is recorded of commands, and that it applies
pub record RecordsLaw : Type 0 where
  -- a plain change
  pub plain : (s : Durable) (c : Change) → has_its_pages (size_before s.tree c) c ≡ true → puts_some c ≡ true → IsRecordOf s (Plain c ∷ []) (Plain (meant (size_before s.tree c) c) ∷ [])
  -- what steps record of a transaction whose changes are recorded so
  pub course : (s : Durable) (steps : List Step) (b : Basis) (raw : List Change) → map (meant 0) raw ≡ b.changes → list_all has_work_pages raw ≡ true → list_all puts_some raw ≡ true
      → IsRecordOf s (events_ahead steps (record b { changes = raw })) (events_ahead steps b)
  -- events without changes are recorded as they are
  pub bare : (s : Durable) (events : Group) → All (λ event. changes_of_event event ≡ []) events → IsRecordOf s events events
  -- where each place has its owner, what is recorded of events that apply applies
  pub applies : (count : ℕ) (owner : ℕ → ℕ × ℕ) (s : Durable) (raw events : Group) → IsRecordOf s raw events → EachOfDurable (IsSound owner count) s → EachOfGroup (IsSound owner count) events
      → events_apply s events ≡ true → GroupApplies count s raw
