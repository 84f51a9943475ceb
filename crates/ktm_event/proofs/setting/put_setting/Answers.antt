use Rattle.ktm_event.proofs.Writings.{then, setting, on_ok_so}
use Rattle.ktm_event.proofs.setting.put_setting.Goals as goal

pub returns-clause-adds : goal.returns-clause-adds
returns-clause-adds c =
    let key = rw c.as_slice.ensures at c.put_text.ensures.adds in
    rw (← c.in_ok-reserve.ensures.items) (on_ok_so c.put_set_to.result c.put_set_to.ensures.adds (λ adds. setting c.requires.text (then key adds)))
