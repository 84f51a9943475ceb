use Rattle.txf_calls.proofs.search.find_files.Goals as goal

pub returns : goal.returns
returns g c = c.find_pattern.ensures c.args.room.now c.args.text.now c.in_ok-pattern.ensures
