use Rattle.ktm_event.proofs.Writings.{headed, sole, sole_spellable, on_ok_so}
use Rattle.ktm_event.proofs.event.put_single.Goals as goal

pub put_part-requires-clause-spellable : goal.put_part-requires-clause-spellable
put_part-requires-clause-spellable c = sole_spellable _ c.requires.part

pub returns-clause-adds : goal.returns-clause-adds
returns-clause-adds c = on_ok_so c.put_part.result c.put_part.ensures.adds (λ adds. headed c.in_ok-put_tagged_id.ensures.adds (sole _ c.requires.part adds))
