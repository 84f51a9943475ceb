use Rattle.ktm_codec.proofs.Adding.{adds_then}
use Rattle.ktm_snapshot.proofs.entry.put_entry.Goals as goal

pub returns-clause-adds : goal.returns-clause-adds
returns-clause-adds c =
    let both = adds_then _ _ _ _ _ c.put_text.ensures.adds c.put_value.ensures.adds in
    record { more = both.more; is = both.is; form = record { text = c.requires.text; parts = both.form } }
