use Rattle.ktm_script.specs.Reading.{form_name, forms}
use Rattle.ktm_script.proofs.FormLemmas.{by_word-as_long}
use Rattle.ktm_script.proofs.form.form_named.Goals as goal

pub returns : goal.returns
returns c = rw c.by_word.ensures (rw c.forms_of_length.ensures (by_word-as_long form_name forms c.args.name.now))
