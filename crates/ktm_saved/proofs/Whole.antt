-- A state whose pieces were all read.
use Rattle.std.proofs.Common.{◌≡◌, ℕ, ◌<◌, ◌≤◌, ◌^◌, ◌&&◌, true, List, [], length, nat_le, refl, ap, subst, arith}
use Rattle.std.specs.List.{list_all}
use Rattle.std.proofs.lemmas.Bool.{and_parts}
use Rattle.ktm_base.specs.declared.limits.TheConstants.{MOST_LIVE}
use Rattle.ktm_codec.specs.Spans.{Spans}
use Rattle.ktm_keyed.specs.Keyed.{is_rising}
use Rattle.ktm_records.specs.Spelling.{AreRecordedTexts, SpellingLaw}
use Rattle.ktm_saved.proofs.Fronts.{behind_managers}
use Rattle.ktm_saved.proofs.SoFar.{good-state}
use Rattle.ktm_saved.proofs.Texts.{key_texts, texts}
use Rattle.ktm_saved.specs.declared.front.Front.{Front}
use Rattle.ktm_saved.specs.Reading.{IsGoodFront, is_drawn_by, state_behind}
use Rattle.ktm_saved.specs.Tests.{Against, AreGoodSoFar, against}
use Rattle.ktm_snapshot.proofs.OneState.{one_state}
use Rattle.ktm_snapshot.proofs.Reading.{reads_state}
use Rattle.ktm_snapshot.specs.StateGrammar.{AreTransactionsOf, IsStateOf, IsUpToManagersOf, head_of}
use Rattle.txf_laws.specs.GoodState.{IsGoodState}
use Rattle.ktm_world.specs.Durable.{Durable, Recorded, is_before, is_within_limits}
use Rattle.txf_laws.specs.Contents.{is_good_entry}
use Rattle.txf_laws.specs.Elements.{each_pair}

module _ (bytes : List ℕ) (front : Front) (start : ℕ) (begun : Spans (IsUpToManagersOf (state_behind 0 0 front [])) bytes 0 start) where
  -- what stands before the transactions of any state is what was read
  pub begins_so : (s : Durable) → IsStateOf s bytes → (against s ≡ against (state_behind 0 0 front [])) × Spans (AreTransactionsOf s.transactions) bytes start (length bytes)
  begins_so s is =
      let t = state_behind 0 0 front [] in
      let (same, spans) = behind_managers bytes s is (head_of t) t.tree t.keys t.managers start begun in
      (ap (λ p. let a : Against = record { boots = p.0.0.0.boots; next_node = p.0.0.0.next_node; managers = p.1; tree = p.0.0.1 } in a) same, spans)

  module _ (units image : ℕ) (ts : List Recorded) (end : ℕ) (read : Spans (AreTransactionsOf ts) bytes start end) where
    abbrev pub state : Durable
    state = state_behind units image front ts

    -- where something is left no state stands
    pub none_longer : end < length bytes → (s : Durable) → IsStateOf s bytes → ⊥
    none_longer left = (reads_state bytes state).longer start end begun read left

    pub spelled : length bytes ≤ end → IsStateOf state bytes
    spelled all =
        let last : end ≡ length bytes = omega (arith, all, read.within) in
        (reads_state bytes state).whole start begun (subst (λ n. Spans (AreTransactionsOf ts) bytes start n) last read)

    -- and no other state
    pub no_other : length bytes ≤ end → (s : Durable) → s.units ≡ units → s.image ≡ image → IsStateOf s bytes → s ≡ state
    no_other all s same same' is = (one_state s state bytes bytes [] [] same same' is (spelled all) refl).0

    pub good : IsGoodFront front → AreGoodSoFar (against state) ts → image < 2 ^ 16 → is_within_limits state ≡ true → IsGoodState state
    good first behind number within =
        let most = and_parts (nat_le (length state.managers) MOST_LIVE && list_all (is_drawn_by front.boots) state.managers) (each_pair is_before state.managers) first.managers in
        let keys = and_parts (list_all is_good_entry state.keys) (is_rising state.keys) first.keys in
        good-state state behind (record {
          counts = record { image_fits = number; limits = within; events_left = first.events; boots_left = first.boots };
          managers = record { rise = most.1; drawn = (and_parts (nat_le (length state.managers) MOST_LIVE) (list_all (is_drawn_by front.boots) state.managers) most.0).1 };
          files = record { formed = first.tree.formed; below = first.tree.below; from = first.tree.from; to = first.tree.to };
          keys = record { rise = keys.1; good = keys.0 };
        })

    pub have_texts : SpellingLaw → AreRecordedTexts state
    have_texts law = record { keys = key_texts front.keys.items _ (((begun.form.3).4).listed).4; settings = texts law ts _ (read.form.listed).4 }
