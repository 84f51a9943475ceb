-- An area that is read piece by piece.
use Rattle.std.specs.Prelude.{IfSome, IsSomeAnd}
use Rattle.std.proofs.Common.{◌≡◌, ℕ, ◌+◌, ◌-◌, ◌*◌, ◌/◌, ◌<◌, ◌≤◌, max, min, Bool, false, true, Option, Vec, None, Some, List, [], ◌∷◌, ◌++◌, length, get_or, take, drop, sym, ◌∙◌, ap, subst, arith, length-take, length-drop, length-append}
use Rattle.std.proofs.lemmas.List.{take_at, take_all, drop_all, take-append-drop, take-take, drop-take, drop-drop, append-nil}
use borrow.Rule.Slice.PartMut.{put_mid}
use Rattle.ktm_base.specs.Disk.{DiskState, DiskStatus, DeviceCalls, IsSafe, OnlyReads}
use Rattle.ktm_log.specs.declared.area.Area.{Area}
use Rattle.ktm_log.specs.Log.{area_bytes, size_at, IsClosed, IsTorn, IsFrame, IsLog, IsBadLog, Rests, end_of, first_payload, payloads_in}
use Rattle.ktm_log.specs.Load.{EndFrames, IsRead, Loads, ReadOn, ReadRefused, WentOn, pieces}
use Rattle.ktm_log.specs.OnDisk.{OnDisk, on}
use Rattle.ktm_log.proofs.Reading.{calls_most}
use Rattle.ktm_log.proofs.Parts.{area_part, length-area}
use Rattle.ktm_log.proofs.Frames.{first_at, begins-push, end_of-push}
use Rattle.ktm_base.proofs.offered.Images.{calls_law}
use Rattle.ktm_base.proofs.offered.ToldSteps.{IfSome-map}
use Rattle.ktm_log.proofs.Payloads.{front_at, went_on_trans, size_went_on, begins_went_on, log_went_on, none_closed, payloads_are}
use Rattle.ktm_log.proofs.Steps.{IfSome-both}

-- where so many bytes are not there yet, one piece more goes no further than the piece in which they end
pub piece_within : (first old new upto : ℕ) → 4096 * (old / 4096) ≡ old → old < upto → pieces old ≤ max (pieces first) (pieces upto) → pieces new ≤ pieces old + 1
    → pieces new ≤ max (pieces first) (pieces upto)
piece_within first old new upto whole short before one = omega arith

-- a frame that was found goes no further than the gate behind it
pub reached_further : (old new at size : ℕ) → pieces old ≤ pieces (at + 1) → pieces new ≤ max (pieces old) (pieces (at + size + 6)) → pieces new ≤ pieces (at + (size + 5) + 1)
reached_further old new at size before now = omega arith

-- a vector that was made longer, and then filled from its old end on
pub filled : (old m buf rest : List ℕ) (from n len : ℕ) → take from m ≡ old → length m ≡ from + n → from ≡ length old → length buf ≡ n → len ≡ from + n → take len (put_mid from (length m - from) m buf ++ rest) ≡ old ++ buf
filled old m buf rest from n len front long at full is =
    ap (λ (l : List ℕ). take len (take from m ++ (buf ++ l) ++ rest)) (drop_all (length m - from) (drop from m) (omega (arith, length-drop from m)))
    ∙ ap (λ (l : List ℕ). take len (take from m ++ l ++ rest)) (append-nil buf)
    ∙ ap (λ (l : List ℕ). take len (l ++ buf ++ rest)) front
    ∙ take_at (old ++ buf) rest len (omega (arith, length-append old buf))

-- one piece more
pub read_on : (area : Area) (old buf image : List ℕ) (from n to : ℕ) → IsRead area old image → buf ≡ take (to - (area.at + from)) (drop (area.at + from) image) → to ≡ area.at + from + n → from ≡ length old → length buf ≡ n → from + n ≤ area.len → IsRead area (old ++ buf) image
read_on area old buf image from n to read is end at full fits = record {
  within = read.within;
  is = sym (
      ap (λ k. take k (area_bytes area image)) (omega (arith, length-append old buf))
      ∙ sym (take-append-drop from (take (from + n) (area_bytes area image)))
      ∙ ap (λ (l : List ℕ). l ++ drop from (take (from + n) (area_bytes area image))) (take-take from (from + n) (area_bytes area image) (omega arith) ∙ ap (λ k. take k (area_bytes area image)) at ∙ sym read.is)
      ∙ ap (λ (l : List ℕ). old ++ l) (drop-take from n (area_bytes area image) ∙ area_part area image from n fits ∙ ap (λ k. take k (drop (area.at + from) image)) (omega arith) ∙ sym is));
}

-- the old front of a vector that was made longer
pub grown_front : (old more m : List ℕ) (from k : ℕ) → from ≡ length old → from ≤ k → m ≡ take k old ++ more → take from m ≡ old
grown_front old more m from k at fits is =
    ap (λ (l : List ℕ). take from l) (is ∙ ap (λ (l : List ℕ). l ++ more) (take_all k old (omega arith))) ∙ take_at old more from (sym at)

pub loads_then : (area : Area) (a b d : ℕ) (s t u : DiskStatus) (refused : Bool) → Loads area a b s t false → Loads area b d t u refused → Loads area a d s u refused
loads_then area a b d s t u refused first second = record {
  longer = omega (arith, first.longer, second.longer);
  inside = second.inside;
  calls = subst (λ n. DeviceCalls n s u refused) (omega (arith, first.longer, second.longer)) (calls_law s t u (pieces b - pieces a) (pieces d - pieces b) refused first.calls second.calls);
  pending = second.pending ∙ first.pending;
}

-- it was read on, and then once more
module _ {Z : Type 0} (area : Area) (a b d : OnDisk (Vec ℕ Z)) (first : ReadOn area a b) where
  pub read_on_then : ReadOn area b d → ReadOn area a d
  read_on_then second = record {
    same = second.same ∙ first.same;
    room = omega (arith, first.room, second.room);
    front = went_on_trans a.it.items b.it.items d.it.items first.front second.front;
    holds = second.holds;
    loads = loads_then area (length a.it.items) (length b.it.items) (length d.it.items) a.status b.status d.status false first.loads second.loads;
  }

  pub refused_then : ReadRefused area b d → ReadRefused area a d
  refused_then second = record {
    same = second.same ∙ first.same;
    room = omega (arith, first.room, second.room);
    loads = loads_then area (length a.it.items) (length b.it.items) (length d.it.items) a.status b.status d.status true first.loads second.loads;
  }

-- what was read of an area from its begin, as device calls
pub only_read : (area : Area) (after most : ℕ) (o n : Option DiskState) (s t : DiskStatus) (refused : Bool) → n ≡ o → Loads area 0 after s t refused → pieces after ≤ most → OnlyReads most o n s t refused
only_read area after most o n s t refused same loads few = record { same = same; pending = loads.pending; calls = calls_most (pieces after - pieces 0) most s t refused (omega arith) loads.calls }

-- a closed gate was found with no piece behind its own
pub few_closed : (old new end : ℕ) → pieces old ≤ pieces (end + 1) → pieces new ≤ max (pieces old) (pieces (end + 1)) → pieces new ≤ pieces (end + 1)
few_closed old new end before now = omega arith

-- a bad frame was found with no piece behind its length, and none behind the area
pub few_torn : (old new end len at : ℕ) → end ≡ at → new ≤ len → pieces old ≤ pieces (end + 1) → pieces new ≤ max (pieces old) (pieces (end + 5)) → pieces new ≤ pieces (min len (at + 5))
few_torn old new end len at is within before now = omega arith

-- what was read, in the area
pub in_area : (area : Area) (read image : List ℕ) → IsRead area read image → WentOn read (area_bytes area image)
in_area area read image is = record { front = sym is.is }

module _ (area : Area) (at : ℕ) where
  -- the gate and the size of a frame that is cut short
  module _ (first second : List ℕ) (size : ℕ) (there : at < length first) (open_gate : get_or first at 0 ≡ 1) (more : at + 5 ≤ length second) (size_is : size ≡ size_at (drop at second)) where
    torn : (image : List ℕ) → IsRead area first image → IsRead area second image → area.len - at < size + 6 → at < area.len → IsTorn (drop at (area_bytes area image))
    torn image one two short inside = record {
      open_gate = first_at (area_bytes area image) at ∙ front_at first (area_bytes area image) (in_area area first image one) at there ∙ open_gate;
      short = omega (arith, length-area area image one.within, length-drop at (area_bytes area image), size_is, size_went_on second (area_bytes area image) (in_area area second image two) at more);
    }

    pub finds_torn : (o m : Option DiskState) → m ≡ o → IfSome o (λ s. IsRead area first s.seen) → IfSome m (λ s. IsRead area second s.seen) → area.len - at < size + 6 → at < area.len → IfSome m (λ s. IsTorn (drop at (area_bytes area s.seen)))
    finds_torn o m same one two short inside =
        IfSome-both (λ (s : DiskState). IsRead area first s.seen) (λ (s : DiskState). IsRead area second s.seen) (λ (s : DiskState). IsTorn (drop at (area_bytes area s.seen))) m
        (subst (λ t. IfSome t (λ (s : DiskState). IsRead area first s.seen)) (sym same) one) two (λ s a b. torn s.seen a b short inside)

    -- the frame, in bytes that went on
    pub finds_frame : (third : List ℕ) → WentOn first second → WentOn second third → at + size + 6 ≤ length third → (payload : List ℕ) × (length payload ≡ size) × IsFrame payload (drop at third)
    finds_frame third on again long =
        let p = take size (drop (at + 5) third) in
        let size_of : length p ≡ size = omega (arith, length-take size (drop (at + 5) third), length-drop (at + 5) third) in (
          p,
          size_of,
          record {
            open_gate = first_at third at ∙ front_at first third (went_on_trans first second third on again) at there ∙ open_gate;
            size = size_went_on second third again at more ∙ sym size_is ∙ sym size_of;
            fits = omega (arith, size_of, length-drop at third);
            payload_is = ap (λ n. take n (drop 5 (drop at third))) size_of ∙ ap (λ (l : List ℕ). take size l) (drop-drop 5 at third);
          },
        )

-- the frames that were read, in bytes that went on
module _ (area : Area) (at : ℕ) (old read : List ℕ) (frames : EndFrames at old) (on : WentOn old read) where
  pub one_more : (size : ℕ) → ((payload : List ℕ) × (length payload ≡ size) × IsFrame payload (drop at read)) → EndFrames (at + (size + 5)) read
  one_more size (p, long, frame) =
      let ps = frames.payloads in
      record {
        payloads = ps ++ p ∷ [];
        begins = begins-push ps p read (begins_went_on ps old read on frames.begins) (subst (λ k. IsFrame p (drop k read)) frames.gate_at frame);
        gate_at = omega (arith, frames.gate_at, end_of-push ps p, long);
      }

  all_payloads : first_payload (drop at read) ≡ None → payloads_in read ≡ frames.payloads
  all_payloads none = payloads_are frames.payloads read (begins_went_on frames.payloads old read on frames.begins) (subst (λ k. first_payload (drop k read) ≡ None) frames.gate_at none)

  -- no frame begins here, so here is the end of all that are there
  pub end_found : first_payload (drop at read) ≡ None → at ≡ end_of (payloads_in read)
  end_found none = frames.gate_at ∙ ap end_of (sym (all_payloads none))

  pub log_found : IsClosed (drop at read) → (o n : Option DiskState) → n ≡ o → IfSome n (λ s. IsRead area read s.seen) → IfSome o (λ s. IsLog (payloads_in read) (area_bytes area s.seen))
  log_found closed o n same is =
      let ps = frames.payloads in
      subst (λ t. IfSome t (λ (s : DiskState). IsLog (payloads_in read) (area_bytes area s.seen))) same
      (IfSome-map n (λ (s : DiskState). IsRead area read s.seen) (λ (s : DiskState). IsLog (payloads_in read) (area_bytes area s.seen)) is
      (λ s r. subst (λ (l : List (List ℕ)). IsLog l (area_bytes area s.seen)) (sym (all_payloads (none_closed (drop at read) closed)))
      (log_went_on ps read (area_bytes area s.seen) (in_area area read s.seen r) (begins_went_on ps old read on frames.begins) (subst (λ k. IsClosed (drop k read)) frames.gate_at closed))))

  pub bad_found : first_payload (drop at read) ≡ None → (o n : Option DiskState) → n ≡ o → IfSome o (λ s. IsRead area old s.seen) → IfSome n (λ s. IsTorn (drop at (area_bytes area s.seen)))
      → IfSome o (λ s. IsBadLog (payloads_in read) (area_bytes area s.seen))
  bad_found none o n same is short =
      let ps = frames.payloads in
      IfSome-both (λ (s : DiskState). IsRead area old s.seen) (λ (s : DiskState). IsTorn (drop at (area_bytes area s.seen))) (λ (s : DiskState). IsBadLog (payloads_in read) (area_bytes area s.seen)) o is
      (subst (λ t. IfSome t (λ (s : DiskState). IsTorn (drop at (area_bytes area s.seen)))) same short)
      (λ s r t. subst (λ (l : List (List ℕ)). IsBadLog l (area_bytes area s.seen)) (sym (all_payloads none))
      (record { frames = begins_went_on ps old (area_bytes area s.seen) (in_area area old s.seen r) frames.begins; gate = subst (λ k. IsTorn (drop k (area_bytes area s.seen))) frames.gate_at t }))

-- a log that was read from a safe disk rests on it
pub rests_found : (area : Area) (ps : List (List ℕ)) (end : ℕ) → end ≡ end_of ps → (o n : Option DiskState) → n ≡ o → IfSome o (λ s. area.at + area.len ≤ length s.seen) → IfSome o (λ s. IsLog ps (area_bytes area s.seen))
    → IsSomeAnd o IsSafe → IsSomeAnd n (Rests area ps end)
rests_found area ps end gate None n same within log safe = absurd safe
rests_found area ps end gate (Some s) n same within log safe = subst (λ t. IsSomeAnd t (Rests area ps end)) (sym same) (record { safe = safe; within = within; log = log; gate_at = gate })
