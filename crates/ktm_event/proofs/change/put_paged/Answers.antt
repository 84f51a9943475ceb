use Rattle.ktm_event.proofs.Writings.{then, tagged, put}
use Rattle.ktm_event.proofs.change.put_paged.Goals as goal

pub returns-clause-adds : goal.returns-clause-adds
returns-clause-adds c =
    rw (← c.in_ok-reserve.ensures.items)
    (tagged c.put_u8.ensures.adds (then c.put_u64.ensures.adds (then c.put_u64-2.ensures.adds (put c.args.len c.args.pages.now c.requires.0 (then c.put_u32.ensures.adds c.put_pages.ensures.adds)))))
