use Rattle.std.proofs.Common.{length, sym, subst}
use Rattle.txf_volume.specs.Held.{files_of}
use Rattle.ktm_memory.specs.Memory.{MemoryState}
use Rattle.ktm_memory.specs.Stored.{FilesLieBelow, HoldsFiles}
use Rattle.ktm_memory.proofs.memory.Memory.hold_pages.Goals as goal

pub hold_pages-requires : goal.hold_pages-requires
hold_pages-requires c = subst (λ (m : MemoryState). FilesLieBelow (length c.args.store.now.marks.held) (files_of m.files)) (sym c.self.view_is) c.requires

pub returns : goal.returns
returns c = subst (λ (m : MemoryState). HoldsFiles (files_of m.files) c.args.store.now c.hold_pages.new.store) c.self.view_is (record {
  seen = c.hold_pages.ensures.seen;
  stored = c.hold_pages.ensures.stored;
  wanted = c.hold_pages.ensures.wanted;
  next = c.hold_pages.ensures.next;
  count = c.hold_pages.ensures.count;
  places = c.hold_pages.ensures.places;
  kept = c.hold_pages.ensures.kept;
  free = c.hold_pages.ensures.free;
})
