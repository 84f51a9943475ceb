-- Payloads that are read as groups, one after another.
use Rattle.std.proofs.Common.{◌≡◌, ℕ, ◌+◌, ◌≤◌, None, Some, List, [], ◌∷◌, ◌++◌, length, drop, refl, sym, ◌∙◌, ap, subst, arith, append_assoc, length-drop}
use Rattle.std.proofs.lemmas.List.{append-nil, drop-drop}
use Rattle.ktm_log.specs.Log.{end_of, first_payload, payloads_in}
use Rattle.ktm_log.proofs.Frames.{end_of-push}
use Rattle.ktm_log.proofs.Payloads.{payloads_first, payloads_none}
use Rattle.ktm_world.specs.Logs.{Group}
use Rattle.ktm_world.specs.Durable.{Durable}
use Rattle.ktm_world.specs.EventGrammar.{IsGroupOf}
use Rattle.ktm_paged.specs.Paged.{paged_after_all}
use Rattle.ktm_restart.specs.Bad.{IsBadPayload}
use Rattle.ktm_restart.specs.Logs.{AppliesTo}
use Rattle.ktm_restart.specs.Payloads.{ComesTo, IsFirstBad}
use Rattle.ktm_restart.proofs.PagedLogs.{next-applies, paged-append}
use Rattle.ktm_journal.proofs.offered.Images.{groups-push}

-- so far the payloads come to this state, and the others are those of the bytes from here on
pub record Folded (first : Durable) (bytes : List ℕ) (at : ℕ) (state : Durable) : Type 0 where
  pub inside : at ≤ length bytes
  pub before : List (List ℕ)
  pub split : payloads_in bytes ≡ before ++ payloads_in (drop at bytes)
  pub good : ComesTo first before state
  pub end : at ≡ end_of before

pub folded_none : (first : Durable) (bytes : List ℕ) → Folded first bytes 0 first
folded_none first bytes = record { inside = omega arith; before = []; split = refl; good = record { log = []; groups = tt; applies = tt; is = refl }; end = refl }

module _ (first : Durable) (bytes : List ℕ) (at : ℕ) (state : Durable) (folded : Folded first bytes at state) where
  module _ (payload : List ℕ) (next : first_payload (drop at bytes) ≡ Some payload) where
    split_next : payloads_in bytes ≡ folded.before ++ payload ∷ payloads_in (drop (at + (length payload + 5)) bytes)
    split_next =
        folded.split
        ∙ ap (λ (l : List (List ℕ)). folded.before ++ l) (payloads_first payload (drop at bytes) next)
        ∙ ap (λ (l : List ℕ). folded.before ++ payload ∷ payloads_in l) (drop-drop (length payload + 5) at bytes)

    pub folded_more : (new : Durable) → length payload + 6 ≤ length (drop at bytes)
        → ((events : Group) × IsGroupOf events payload × AppliesTo state events × (new ≡ paged_after_all state events)) → Folded first bytes (at + (length payload + 5)) new
    folded_more new fits (events, group, applied, after) =
        let good = folded.good in
        record {
          inside = omega (arith, folded.inside, length-drop at bytes);
          before = folded.before ++ payload ∷ [];
          split = split_next ∙ sym (append_assoc folded.before (payload ∷ []) (payloads_in (drop (at + (length payload + 5)) bytes)));
          good = record {
            log = good.log ++ events ∷ [];
            groups = groups-push good.log folded.before events payload good.groups group;
            applies = next-applies first state good.log events good.is good.applies applied;
            is = after ∙ ap (λ (s : Durable). paged_after_all s events) good.is ∙ sym (paged-append first good.log (events ∷ []));
          };
          end = omega (arith, folded.end, end_of-push folded.before payload);
        }

    pub first_bad : (begin : ℕ) → IsBadPayload state payload → IsFirstBad first begin (payloads_in bytes) (begin + at)
    first_bad begin bad = record {
      before = folded.before;
      payload = payload;
      rest = payloads_in (drop (at + (length payload + 5)) bytes);
      split = split_next;
      state = state;
      good = folded.good;
      bad = bad;
      at = ap (λ n. begin + n) folded.end;
    }

  pub folded_all : first_payload (drop at bytes) ≡ None → ComesTo first (payloads_in bytes) state
  folded_all none =
      subst (λ (l : List (List ℕ)). ComesTo first l state)
      (sym (folded.split ∙ ap (λ (l : List (List ℕ)). folded.before ++ l) (payloads_none (drop at bytes) none) ∙ append-nil folded.before))
      folded.good
