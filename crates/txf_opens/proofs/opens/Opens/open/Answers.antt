use Rattle.std.proofs.Common.{◌≡◌, ◌+◌, None, refl, arith}
use Rattle.txf_opens.specs.declared.file.OpenFile.{OpenFile as Kept}
use Rattle.ktm_links.specs.Mapped.{key_under}
use Rattle.ktm_links.proofs.offered.Indexes.{AreDistinct-push}
use Rattle.txf_opens.specs.Indexed.{is_any, IsFree}
use Rattle.txf_opens.specs.Names.{group_name, number_name, use_name}
use Rattle.txf_opens.specs.Acts.{open_of}
use Rattle.txf_opens.specs.OpensState.{opened}
use Rattle.txf_opens.proofs.Adding.{below_add, free_name, free_uses, AreUses-add, IsIndex-add, IsMore}
use Rattle.txf_opens.proofs.Bytes.{group_name-tells, number_name-tells}
use Rattle.txf_opens.proofs.opens.Opens.open.Goals as goal

pub add-requires-clause-free : goal.add-requires-clause-free
add-requires-clause-free c =
    free_name is_any number_name _ _ (opened (c.self.inside.last + 1) c.args.node c.args.transaction c.args.access c.args.share) c.self.inside.last _ c.self.invariant.by_number
    number_name-tells c.self.invariant.below (omega arith) c.number_bytes.ensures

pub add-requires-2-clause-free : goal.add-requires-2-clause-free
add-requires-2-clause-free c =
    free_name is_any group_name _ _ (opened (c.self.inside.last + 1) c.args.node c.args.transaction c.args.access c.args.share) c.self.inside.last _ c.self.invariant.by_group
    group_name-tells c.self.invariant.below (omega arith) c.group_name-by_group.ensures

pub add-requires-3-clause-free : goal.add-requires-3-clause-free
add-requires-3-clause-free c =
    free_uses _ _ (opened (c.self.inside.last + 1) c.args.node c.args.transaction c.args.access c.args.share) c.self.inside.last c.self.invariant.by_use
    c.self.invariant.below (omega arith)

pub invariant_of-self : goal.invariant_of-self
invariant_of-self c =
    let last = c.self.inside.last in
    let file : Kept = record { number = last + 1; node = c.args.node; transaction = c.args.transaction; access = c.args.access; share = c.args.share } in
    let is : IsMore c.self.inside.files.items c.push_spare-key.new.self.items c.push_spare-key.result file =
    record { absent = c.push_spare-key.ensures.absent; named = c.push_spare-key.ensures.named; others = c.push_spare-key.ensures.others } in
    let by_number : key_under c.self.inside.by_number.entries (number_name (open_of file)) ≡ None =
    free_name is_any number_name c.self.inside.files.items _ (open_of file) last _ c.self.invariant.by_number number_name-tells c.self.invariant.below (omega arith) refl in
    let by_group : key_under c.self.inside.by_group.entries (group_name (open_of file)) ≡ None =
    free_name is_any group_name c.self.inside.files.items _ (open_of file) last _ c.self.invariant.by_group group_name-tells c.self.invariant.below (omega arith) refl in
    let by_use : IsFree (use_name (open_of file)) c.self.inside.by_use =
    free_uses c.self.inside.files.items _ (open_of file) last c.self.invariant.by_use c.self.invariant.below (omega arith) in
    record {
      by_number = IsIndex-add is_any number_name _ _ _ _ _ file c.self.invariant.by_number is by_number (rw c.number_bytes.ensures at c.add.ensures.adds);
      by_group = IsIndex-add is_any group_name _ _ _ _ _ file c.self.invariant.by_group is by_group (rw c.group_name-by_group.ensures at c.add-2.ensures.adds);
      by_use = AreUses-add _ _ _ _ _ file c.self.invariant.by_use is by_use c.add-3.ensures.adds;
      distinct = rw c.push_spare-key.ensures.items (AreDistinct-push _ _ file c.self.invariant.distinct c.push_spare-key.ensures.absent);
      below = below_add _ _ _ file last is c.self.invariant.below refl;
      small = let within = rw (← c.self.view_is) at c.requires.numbers in omega (arith, within);
    }
