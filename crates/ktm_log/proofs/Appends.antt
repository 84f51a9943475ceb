-- What the two writes of an append make of a log, and what may be left of each.
use Rattle.std.proofs.Common.{◌≡◌, inl, ℕ, ◌+◌, ◌<◌, ◌≤◌, ◌^◌, List, [], ◌∷◌, ◌++◌, length, get_or, take, drop, sym, ◌∙◌, ap, subst, arith, length-append}
use Rattle.std.specs.Int.{to_le_bytes, w32}
use Rattle.ktm_base.specs.Bytes.{SameOutside, written}
use Rattle.ktm_base.specs.Disk.{DiskState, IsSafe}
use Rattle.ktm_log.specs.declared.area.Area.{Area}
use Rattle.ktm_log.specs.Log.{Rests, LeavesEither, SameElsewhere, IsLog, area_bytes, end_of}
use Rattle.ktm_log.specs.Settle.{Settled, Tore, IsBodyOf, behind_gate}
use Rattle.std.proofs.lemmas.List.{get_or-take}
use Rattle.ktm_base.proofs.offered.Images.{same_written}
use Rattle.ktm_log.proofs.Parts.{area_written, area_same, elsewhere_same, elsewhere_trans, length-area}
use Rattle.ktm_log.proofs.Frames.{Staged, first_at, gate_opened, gate_either, log_torn_behind, end_of-push}

pub length-behind_gate : (p : List ℕ) → length (behind_gate p) ≡ length p + 5
length-behind_gate p = omega (arith, length-append (to_le_bytes w32 (length p)) (p ++ 0 ∷ []), length-append p (0 ∷ []))

pub length-body : (p body : List ℕ) → IsBodyOf p body → length body ≡ length p + 5
length-body p body is = ap (λ (l : List ℕ). length l) is.is ∙ length-behind_gate p

-- the rest of a frame is safe behind the closed gate
pub record StagedAt (area : Area) (ps : List (List ℕ)) (p : List ℕ) (end : ℕ) (before : List ℕ) (s : DiskState) : Type 0 where
  pub safe : IsSafe s
  pub within : area.at + area.len ≤ length s.seen
  pub staged : Staged ps p (area_bytes area s.seen)
  pub gate_at : end ≡ end_of ps
  pub elsewhere : SameElsewhere area before s.seen

one_byte : (b : List ℕ) (at x : ℕ) → take 1 (drop at b) ≡ x ∷ [] → get_or b at 0 ≡ x
one_byte b at x h = sym (first_at b at) ∙ sym (get_or-take 1 (drop at b) 0 0 (omega arith)) ∙ ap (λ (l : List ℕ). get_or l 0 0) h

module _ (area : Area) where
  -- what a write to the area leaves as it was
  settled_same : (from at : ℕ) (bytes : List ℕ) (a b : DiskState) → at ≡ area.at + from → area.at + area.len ≤ length a.seen → from + length bytes ≤ area.len → Settled at bytes a b → SameOutside ((area.at + from, length bytes) ∷ []) a.seen b.seen
  settled_same from at bytes a b e within fits settled =
      subst (λ (l : List ℕ). SameOutside ((area.at + from, length bytes) ∷ []) a.seen l) (sym (settled.seen ∙ ap (λ x. written a.seen x bytes) e)) (same_written a.seen (area.at + from) bytes (omega arith))

  settled_bytes : (from at : ℕ) (bytes : List ℕ) (a b : DiskState) → at ≡ area.at + from → area.at + area.len ≤ length a.seen → from + length bytes ≤ area.len → Settled at bytes a b → take (length bytes) (drop from (area_bytes area b.seen)) ≡ bytes
  settled_bytes from at bytes a b e within fits settled =
      ap (λ (l : List ℕ). take (length bytes) (drop from (area_bytes area l))) (settled.seen ∙ ap (λ x. written a.seen x bytes) e) ∙ area_written area a.seen bytes from within fits

  pub settled_elsewhere : (from at : ℕ) (bytes : List ℕ) (a b : DiskState) → at ≡ area.at + from → area.at + area.len ≤ length a.seen → from + length bytes ≤ area.len → Settled at bytes a b → SameElsewhere area a.seen b.seen
  settled_elsewhere from at bytes a b e within fits settled = elsewhere_same area a.seen b.seen from (length bytes) fits (settled_same from at bytes a b e within fits settled)

  module _ (ps : List (List ℕ)) (p : List ℕ) (end : ℕ) (room : end + length p + 6 ≤ area.len) where
    log_behind : (a : DiskState) (image : List ℕ) → Rests area ps end a → SameOutside ((area.at + (end_of ps + 1), length (behind_gate p)) ∷ []) a.seen image → IsLog ps (area_bytes area image)
    log_behind a image rests torn =
        log_torn_behind ps (area_bytes area a.seen) (area_bytes area image) (length (behind_gate p)) rests.log (area_same area a.seen image (end_of ps + 1) (length (behind_gate p)) torn)

    pub stage_tore : (at : ℕ) (bytes : List ℕ) (a b : DiskState) → at ≡ area.at + (end + 1) → bytes ≡ behind_gate p → Rests area ps end a → Tore at (length bytes) a b → LeavesEither area ps p a.seen b
    stage_tore at bytes a b e form rests tore image left = (
      inl (log_behind a image rests torn),
      elsewhere_same area a.seen image (end_of ps + 1) (length (behind_gate p)) (omega (arith, length-behind_gate p, rests.gate_at)) torn,
    )
      where
        torn : SameOutside ((area.at + (end_of ps + 1), length (behind_gate p)) ∷ []) a.seen image
        torn = subst (λ x. SameOutside ((x, length (behind_gate p)) ∷ []) a.seen image) (omega (arith, rests.gate_at))
            (subst (λ (l : List ℕ). SameOutside ((at, length l) ∷ []) a.seen image) form (tore.leaves rests.safe image left))

    pub stage_done : (at : ℕ) (bytes : List ℕ) (a b : DiskState) → at ≡ area.at + (end + 1) → bytes ≡ behind_gate p → Rests area ps end a → Settled at bytes a b → StagedAt area ps p end a.seen b
    stage_done at bytes a b e form rests settled = record {
      safe = settled.safe;
      within = within;
      staged = record {
        log = log_behind a b.seen rests same;
        room = omega (arith, length-area area b.seen within, rests.gate_at);
        body = ap (λ n. take n (drop (end_of ps + 1) (area_bytes area b.seen))) (sym (length-behind_gate p)) ∙ settled_bytes (end_of ps + 1) at (behind_gate p) a b gate rests.within fits plain;
      };
      gate_at = rests.gate_at;
      elsewhere = settled_elsewhere (end_of ps + 1) at (behind_gate p) a b gate rests.within fits plain;
    }
      where
        plain : Settled at (behind_gate p) a b
        plain = subst (λ (l : List ℕ). Settled at l a b) form settled

        gate : at ≡ area.at + (end_of ps + 1)
        gate = omega (arith, rests.gate_at)

        fits : end_of ps + 1 + length (behind_gate p) ≤ area.len
        fits = omega (arith, length-behind_gate p, rests.gate_at)

        same : SameOutside ((area.at + (end_of ps + 1), length (behind_gate p)) ∷ []) a.seen b.seen
        same = settled_same (end_of ps + 1) at (behind_gate p) a b gate rests.within fits plain

        within : area.at + area.len ≤ length b.seen
        within = omega (arith, same.same_length, rests.within)

    pub gate_tore : (at : ℕ) (before : List ℕ) (a b : DiskState) → at ≡ area.at + end → length p < 2 ^ 32 → StagedAt area ps p end before a → Tore at 1 a b → LeavesEither area ps p before b
    gate_tore at before a b e small staged tore image left = (
      gate_either ps p (area_bytes area a.seen) (area_bytes area image) staged.staged (area_same area a.seen image (end_of ps) 1 torn) small,
      elsewhere_trans area before a.seen image staged.elsewhere (elsewhere_same area a.seen image (end_of ps) 1 (omega (arith, staged.gate_at)) torn),
    )
      where
        torn : SameOutside ((area.at + end_of ps, 1) ∷ []) a.seen image
        torn = subst (λ x. SameOutside ((x, 1) ∷ []) a.seen image) (omega (arith, staged.gate_at)) (tore.leaves staged.safe image left)

    pub gate_done : (at : ℕ) (before : List ℕ) (a b : DiskState) → at ≡ area.at + end → length p < 2 ^ 32 → StagedAt area ps p end before a → Settled at (1 ∷ []) a b → Rests area (ps ++ p ∷ []) (end + (length p + 5)) b
    gate_done at before a b e small staged settled = record {
      safe = settled.safe;
      within = omega (arith, same.same_length, staged.within);
      log = gate_opened ps p (area_bytes area a.seen) (area_bytes area b.seen) staged.staged (area_same area a.seen b.seen (end_of ps) 1 same) small
          (one_byte (area_bytes area b.seen) (end_of ps) 1 (settled_bytes (end_of ps) at (1 ∷ []) a b gate staged.within fits settled));
      gate_at = omega (arith, staged.gate_at, end_of-push ps p);
    }
      where
        gate : at ≡ area.at + end_of ps
        gate = omega (arith, staged.gate_at)

        fits : end_of ps + 1 ≤ area.len
        fits = omega (arith, staged.gate_at)

        same : SameOutside ((area.at + end_of ps, 1) ∷ []) a.seen b.seen
        same = settled_same (end_of ps) at (1 ∷ []) a b gate staged.within fits settled

  -- both writes stay in the area
  pub both_elsewhere : (end behind at : ℕ) (bytes : List ℕ) (a b d : DiskState) → end + length bytes + 1 ≤ area.len → behind ≡ area.at + (end + 1) → at ≡ area.at + end → area.at + area.len ≤ length a.seen → Settled behind bytes a b → Settled at (1 ∷ []) b d → SameElsewhere area a.seen d.seen
  both_elsewhere end behind at bytes a b d room e f within staged opened =
      let first = settled_elsewhere (end + 1) behind bytes a b e within (omega arith) staged in
      elsewhere_trans area a.seen b.seen d.seen first (settled_elsewhere end at (1 ∷ []) b d f (omega (arith, first.same_length)) (omega arith) opened)
