use Rattle.std.proofs.Common.{◌≡◌, ◌==◌, [], Some, None, filter, sym, ap, ◌∙◌}
use Rattle.std.proofs.lemmas.Bool.{eq-eqb}
use Rattle.ktm_links.specs.Items.{value_at}
use Rattle.ktm_links.proofs.offered.Indexes.{AreDistinct-without}
use Rattle.txf_opens.specs.Indexed.{is_any, opens_of}
use Rattle.ktm_links.specs.Numbers.{number_bytes, long_bytes}
use Rattle.txf_opens.specs.Names.{group_bytes, group_name, number_name}
use Rattle.txf_opens.specs.OpensState.{is_other_number, OpensState}
use Rattle.txf_opens.proofs.Adding.{one_number, was_there, AreUses-take, IsIndex-take, IsLess}
use Rattle.txf_opens.proofs.Bytes.{group_name-tells, number_name-tells}
use Rattle.txf_opens.proofs.Found.{none_with_number, number-found, only_number}
use Rattle.txf_opens.proofs.Listed.{filter-none, filter-without}
use Rattle.txf_opens.proofs.opens.Opens.close.Goals as goal

pub returns-in_default-clause-opens : goal.returns-in_default-clause-opens
returns-in_default-clause-opens c =
    rw (← c.self.view_is)
    (sym (filter-none (λ o. o.number == c.args.number) (opens_of c.self.inside.files.items)
    (none_with_number _ _ c.args.number c.self.invariant.by_number c.self.invariant.distinct (rw c.number_bytes-bytes.ensures at c.in_default.ensures))))

pub unreachable-requires : goal.unreachable-requires
unreachable-requires c =
    let at = c.self.invariant.by_number.only c.number_bytes-bytes.result c.in-Some.key (sym c.in-Some.ensures) in
    let some = at.there in
    let none : value_at c.self.inside.files.items c.in-Some.key ≡ None = sym c.unlink.ensures.value ∙ c.in_default-unlink.is in
    cc

pub invariant_of-self : goal.invariant_of-self
invariant_of-self c =
    let file = c.in-Some-unlink.file in
    let there : value_at c.self.inside.files.items c.in-Some.key ≡ Some file = sym c.in-Some-unlink.ensures.value in
    let number : file.number ≡ c.args.number =
    number-found _ _ c.args.number c.in-Some.key file c.self.invariant.by_number (rw c.number_bytes-bytes.ensures at c.in-Some.ensures) there in
    let is : IsLess c.self.inside.files.items c.unlink.new.self.items c.in-Some.key file =
    record { there = there; gone = c.in-Some-unlink.ensures.gone.gone; others = c.in-Some-unlink.ensures.others } in
    let one = one_number c.self.inside.files.items _ c.in-Some.key file c.self.invariant.by_number there in
    record {
      by_number =
          IsIndex-take is_any number_name _ _ _ _ c.in-Some.key file _ c.self.invariant.by_number is one number_name-tells
          (c.number_bytes-bytes.ensures ∙ ap (λ n. number_bytes n []) (sym number)) c.take.ensures.takes;
      by_group =
          IsIndex-take is_any group_name _ _ _ _ c.in-Some.key file _ c.self.invariant.by_group is one group_name-tells
          (c.group_name.ensures ∙ ap (λ n. group_bytes file.transaction (number_bytes n [])) (sym number)) c.take-2.ensures.takes;
      by_use =
          AreUses-take _ _ _ _ c.in-Some.key file _ c.self.invariant.by_use is one
          (c.use_name.ensures ∙ ap (λ n. long_bytes file.node (group_bytes file.transaction (number_bytes n []))) (sym number)) c.take-3.ensures.takes;
      distinct = rw c.in-Some-unlink.ensures.items (AreDistinct-without _ c.in-Some.key c.self.invariant.distinct);
      below = λ k f f_there. c.self.invariant.below k f (was_there _ _ c.in-Some.key file k f is f_there);
      small = c.self.invariant.small;
    }

pub returns-clause-opens : goal.returns-clause-opens
returns-clause-opens c =
    let file = c.in-Some-unlink.file in
    let there : value_at c.self.inside.files.items c.in-Some.key ≡ Some file = sym c.in-Some-unlink.ensures.value in
    let under = rw c.number_bytes-bytes.ensures at c.in-Some.ensures in
    let number : file.number ≡ c.args.number = number-found _ _ c.args.number c.in-Some.key file c.self.invariant.by_number under there in
    ap opens_of c.in-Some-unlink.ensures.items
    ∙ filter-without (λ o. o.number == c.args.number) _ c.in-Some.key file c.self.invariant.distinct
    (only_number _ _ c.args.number c.self.invariant.by_number c.self.invariant.distinct c.in-Some.key (sym under)) there (eq-eqb file.number c.args.number number)
    ∙ ap (λ (t : OpensState). filter (is_other_number c.args.number) t.opens) c.self.view_is
