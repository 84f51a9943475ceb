use Rattle.txf_overlay.proofs.OwnForms.{own_form_law}
use Rattle.txf_overlay.proofs.laws.law_of_own_forms.Goals as goal

pub returns : goal.returns
returns c = own_form_law
