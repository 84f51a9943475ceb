use Rattle.txf_durable.proofs.files.DurableFiles.make_node.Goals as goal

pub invariant_of-self : goal.invariant_of-self
invariant_of-self c = c.make_node-made.ensures.sound _ c.self.invariant

pub invariant_of-self-else-made : goal.invariant_of-self-else-made
invariant_of-self-else-made c = c.make_node-made.ensures.sound _ c.self.invariant
