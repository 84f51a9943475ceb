-- A state over the places of bytes from which a machine starts, as it is over the bytes.
use Rattle.std.proofs.Common.{◌≡◌, ℕ, [], length, refl, sym, ◌∙◌, ap, subst}
use Rattle.std.proofs.lemmas.List.{length-map}
use Rattle.std.proofs.lemmas.List.Elements.{All-map, All-weaker}
use Rattle.ktm_alike.specs.Alike.{mapped_present}
use Rattle.ktm_alike.specs.Laws.{AlikeLaw}
use Rattle.ktm_core.specs.Starting.{started}
use Rattle.ktm_mapped.specs.Laws.{MappedLaw}
use Rattle.ktm_mapped.specs.Mapped.{IsBlank, mapped_durable, mapped_recorded}
use Rattle.ktm_mapped.proofs.offered.Events.{settings_of-mapped}
use Rattle.ktm_mapped.proofs.offered.Lists.{filter-mapped}
use Rattle.ktm_records.specs.Spelling.{AreRecordedTexts, HaveTextKeys}
use Rattle.ktm_standing.specs.Laws.{FreshLaw}
use Rattle.ktm_standing.specs.Standing.{fresh}
use Rattle.ktm_world.specs.Durable.{Durable, Recorded, after_events, is_held, settings_of}
use Rattle.ktm_world.specs.World.{in_doubt, own_group}

module _ (f : ℕ → ℕ) where
  -- its keys are the same
  pub texts-mapped : (s : Durable) → AreRecordedTexts s → AreRecordedTexts (mapped_durable f s)
  texts-mapped s texts = record {
    keys = texts.keys;
    settings = All-map (λ (t : Recorded). HaveTextKeys (settings_of t)) (mapped_recorded f) s.transactions
        (All-weaker (λ (t : Recorded). HaveTextKeys (settings_of t)) (λ (t : Recorded). HaveTextKeys (settings_of (mapped_recorded f t))) (λ t has. subst HaveTextKeys (sym (settings_of-mapped f t)) has) s.transactions texts.settings);
  }

  -- as many transactions are in doubt
  pub doubts-mapped : (s : Durable) → length (in_doubt (mapped_durable f s)) ≡ length (in_doubt s)
  doubts-mapped s = ap length (filter-mapped (λ (t : Recorded). is_held t.stage) (λ (t : Recorded). is_held t.stage) (mapped_recorded f) (λ t. refl) s.transactions) ∙ length-map (in_doubt s) (mapped_recorded f)

  module _ (blank : IsBlank f) where
    -- what a start makes of it
    pub started-mapped : MappedLaw → (s : Durable) → started (mapped_durable f s) ≡ mapped_durable f (started s)
    started-mapped law s =
        let states = (law f blank).2 in
        ap (after_events (mapped_durable f s)) (states.own s ∙ sym (states.own_kept s)) ∙ (law f blank).1.all s (own_group s)

    -- what is so once a machine started from it
    pub fresh-mapped : AlikeLaw → FreshLaw → (s : Durable) → fresh (mapped_durable f s) ≡ mapped_present f (fresh s)
    fresh-mapped law begins s = sym (begins.opens (mapped_durable f s) []) ∙ (law f blank).1.opens s [] ∙ ap (mapped_present f) (begins.opens s [])
