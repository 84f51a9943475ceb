-- What stands behind the begin of a state, once it was read.
use Rattle.std.proofs.Common.{◌≡◌, ◌∙◌, ℕ, ◌<◌, ◌≤◌, Bool, true, false, List, [], length, refl, sym, ap, subst}
use Rattle.std.proofs.lemmas.Bool.{true≢false}
use Rattle.ktm_base.specs.declared.id.Id.{Id}
use Rattle.ktm_codec.specs.Spans.{Spans}
use Rattle.ktm_records.specs.Spelling.{SpellingLaw}
use Rattle.ktm_saved.proofs.Whole.{good, have_texts, no_other, none_longer, spelled}
use Rattle.ktm_saved.specs.declared.saved.Saved.{Saved}
use Rattle.ktm_saved.specs.Reading.{AreTransactionsRead, IsGoodFront, ReadsRest, front_of, state_behind}
use Rattle.ktm_saved.specs.Saved.{state_of}
use Rattle.ktm_saved.specs.Tests.{Against, against}
use Rattle.ktm_snapshot.specs.StateGrammar.{IsUpToManagersOf}
use Rattle.ktm_world.specs.Durable.{Durable, Recorded, is_within_limits}
use Rattle.txf_tree.specs.TreeState.{tree_of}

-- what transactions are tested against is what was read before them
pub tested : (saved : Saved) (ids : List Id) → ids ≡ saved.managers.managers
    → ◌≡◌ {A = Against} (record { boots = saved.boots; next_node = saved.files.next_node; managers = ids; tree = tree_of saved.files.tree }) (against (state_behind 0 0 (front_of saved) []))
tested saved ids same = ap (λ (all : List Id). let a : Against = record { boots = saved.boots; next_node = saved.files.next_node; managers = all; tree = tree_of saved.files.tree } in a) same

module _ (units : ℕ) (bytes : List ℕ) (start end : ℕ) (saved : Saved) (begun : Spans (IsUpToManagersOf (state_behind 0 0 (front_of saved) [])) bytes 0 start)
    (read : AreTransactionsRead (against (state_behind 0 0 (front_of saved) [])) bytes start end saved.transactions.transactions saved.waiting) where
  abbrev transactions : List Recorded
  transactions = saved.transactions.transactions

  -- no state stands where something is left
  pub reads_longer : end < length bytes → ReadsRest units bytes saved false
  reads_longer left = λ s same is sound. none_longer bytes (front_of saved) start begun units 0 transactions end read.spelled left s is

  -- else it is good where the limits hold
  pub reads_all : IsGoodFront (front_of saved) → SpellingLaw → length bytes ≤ end → (is : Bool) → ((image : ℕ) → is ≡ is_within_limits (state_of units image saved)) → ReadsRest units bytes saved is
  reads_all front law all true within = λ image small. record {
    spelled = spelled bytes (front_of saved) start begun units image transactions end read.spelled all;
    good = good bytes (front_of saved) start begun units image transactions end read.spelled front read.good small (sym (within image));
    held = read.held;
    texts = have_texts bytes (front_of saved) start begun units image transactions end read.spelled law;
  }
  reads_all front law all false within = λ s same is sound.
      let it = no_other bytes (front_of saved) start begun units s.image transactions end read.spelled all s same refl is in
      true≢false (sym (subst (λ (t : Durable). is_within_limits t ≡ true) it sound.limits) ∙ sym (within s.image))
