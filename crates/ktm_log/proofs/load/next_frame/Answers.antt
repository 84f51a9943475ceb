use Rattle.std.proofs.Common.{◌≡◌, ℕ, List, drop, get_or, ◌∙◌, ap, sym, arith}
use Rattle.std.proofs.lemmas.Grind.{common_steps}
use Rattle.std.proofs.lemmas.List.{get_or_read}
use Rattle.ktm_log.specs.Log.{size_at}
use Rattle.ktm_log.proofs.Loading.{finds_torn, finds_frame, read_on_then, refused_then}
use Rattle.ktm_log.proofs.load.next_frame.Goals as goal

pub returns-then-area-at : goal.returns-then-area-at
returns-then-area-at g c =
    let at = c.args.at in
    let first = c.load.new.read.items in
    let second = c.load-2.new.read.items in
    let gate : get_or first at 0 ≡ 1 = sym (get_or_read first at c.index.result.now (omega (arith, c.in_default.ensures.upto)) c.index.ensures 0) ∙ c.if-index-ne1.false in
    let size : c.from-size.result ≡ size_at (drop at second) =
    c.from-size.ensures ∙ c.payload_size.ensures ∙ ap (λ (l : List ℕ). size_at (drop at l)) c.deref.ensures.value in
    let one = c.in_default.ensures.leaves in
    let two = c.in_default-load.ensures.leaves in
    let torn = finds_torn c.args.area at first second c.from-size.result (omega (arith, c.in_default.ensures.upto)) gate (omega (arith, c.in_default-load.ensures.upto)) size
    _ _ two.same one.holds.bytes two.holds.bytes (omega arith) (omega arith) in
    record {
      reads = record {
        read = read_on_then c.args.area _ _ _ one two;
        few = omega (arith, c.load.ensures.few, c.load-2.ensures.few);
        up = two.holds.up (omega (arith, c.in_default-load.ensures.upto));
      };
      torn = torn;
      none = grind (arith, common_steps);
    }

pub returns-in-Err-load-2 : goal.returns-in-Err-load-2
returns-in-Err-load-2 g c =
    let one = c.in_default.ensures.leaves in
    let two = c.in_default-load.ensures.leaves in
    refused_then c.args.area _ _ _ (read_on_then c.args.area _ _ _ one two) c.in-Err-load-2.ensures.leaves

pub returns : goal.returns
returns g c =
    let at = c.args.at in
    let first = c.load.new.read.items in
    let second = c.load-2.new.read.items in
    let third = c.load-3.new.read.items in
    let n = c.from-size.result in
    let gate : get_or first at 0 ≡ 1 = sym (get_or_read first at c.index.result.now (omega (arith, c.in_default.ensures.upto)) c.index.ensures 0) ∙ c.if-index-ne1.false in
    let size : n ≡ size_at (drop at second) =
    c.from-size.ensures ∙ c.payload_size.ensures ∙ ap (λ (l : List ℕ). size_at (drop at l)) c.deref.ensures.value in
    let one = c.in_default.ensures.leaves in
    let two = c.in_default-load.ensures.leaves in
    let three = c.in_default-load-2.ensures.leaves in
    record {
      reads = record {
        read = read_on_then c.args.area _ _ _ (read_on_then c.args.area _ _ _ one two) three;
        few = omega (arith, c.load.ensures.few, c.load-2.ensures.few, c.load-3.ensures.few);
        up = three.holds.up (omega (arith, c.in_default-load-2.ensures.upto));
      };
      finds = (
        omega arith,
        finds_frame c.args.area at first second n (omega (arith, c.in_default.ensures.upto)) gate (omega (arith, c.in_default-load.ensures.upto)) size third
            two.front three.front (omega (arith, c.in_default-load-2.ensures.upto)),
      );
    }
