use Rattle.std.proofs.Common.{refl}
use Rattle.ktm_world.specs.declared.command.Command.TheVariants.{KvSet, KvUnset, KvGet}
use Rattle.ktm_world.specs.Labels.{transaction_named, transaction_tests, view_tests}
use Rattle.ktm_memory.specs.Memory.{present_of}
use Rattle.ktm_route.proofs.Routes.{active_named, active_viewer, get_routed, list_routed, refused_first, set_routed, unset_routed}
use Rattle.ktm_route.proofs.Takes.{get_takes, list_takes, set_takes, unset_takes}
use Rattle.ktm_route.proofs.route.route.Goals as goal

pub returns-in-Ok : goal.returns-in-Ok
returns-in-Ok c =
    let (named, passed) = c.in-Ok.ensures.ok in
    let x = present_of c.args.memory.now in
    rw c.in-KvSet.is (
      set_routed x c.args.process c.requires.up c.in-KvSet.transaction c.in-Ok.t named passed c.in-KvSet.key c.in-KvSet.value,
      active_named x c.args.process c.in-KvSet.transaction c.in-Ok.t named passed,
      set_takes x c.args.process c.requires.up c.in-KvSet.transaction c.in-Ok.t named passed c.in-KvSet.key c.in-KvSet.value,
      refl,
    )

pub returns-in-Err : goal.returns-in-Err
returns-in-Err c = rw c.in-KvSet.is (refused_first (present_of c.args.memory.now) c.args.process (KvSet c.in-KvSet.transaction c.in-KvSet.key c.in-KvSet.value) (transaction_tests (transaction_named (present_of c.args.memory.now) c.args.process c.in-KvSet.transaction)) _ c.in-Err.refusal c.requires.up refl (c.in-Err.ensures.err))

pub returns-in-Ok-active : goal.returns-in-Ok-active
returns-in-Ok-active c =
    let (named, passed) = c.in-Ok-active.ensures.ok in
    let x = present_of c.args.memory.now in
    rw c.in-KvUnset.is (
      unset_routed x c.args.process c.requires.up c.in-KvUnset.transaction c.in-Ok-active.t named passed c.in-KvUnset.key,
      active_named x c.args.process c.in-KvUnset.transaction c.in-Ok-active.t named passed,
      unset_takes x c.args.process c.requires.up c.in-KvUnset.transaction c.in-Ok-active.t named passed c.in-KvUnset.key,
      refl,
    )

pub returns-in-Err-active : goal.returns-in-Err-active
returns-in-Err-active c = rw c.in-KvUnset.is (refused_first (present_of c.args.memory.now) c.args.process (KvUnset c.in-KvUnset.transaction c.in-KvUnset.key) (transaction_tests (transaction_named (present_of c.args.memory.now) c.args.process c.in-KvUnset.transaction)) _ c.in-Err-active.refusal c.requires.up refl (c.in-Err-active.ensures.err))

pub returns-in-Err-viewer : goal.returns-in-Err-viewer
returns-in-Err-viewer c = rw c.in-KvGet.is (refused_first (present_of c.args.memory.now) c.args.process (KvGet c.in-KvGet.view c.in-KvGet.key) (view_tests (present_of c.args.memory.now) c.args.process c.in-KvGet.view) _ c.in-Err-viewer.refusal c.requires.up refl (c.in-Err-viewer.ensures.err))

pub returns-in-Ok-viewer : goal.returns-in-Ok-viewer
returns-in-Ok-viewer c =
    let (passed, is) = c.in-Ok-viewer.ensures.ok in
    let x = present_of c.args.memory.now in
    rw c.in-KvGet.is (
      get_routed x c.args.process c.requires.up c.in-KvGet.view c.in-Ok-viewer.who is passed c.in-KvGet.key,
      active_viewer x c.args.process c.in-KvGet.view c.in-Ok-viewer.who passed is,
      get_takes x c.args.process c.requires.up c.in-KvGet.view c.in-Ok-viewer.who is passed c.in-KvGet.key,
      refl,
    )

pub returns-in-Ok-viewer-2 : goal.returns-in-Ok-viewer-2
returns-in-Ok-viewer-2 c =
    let (passed, is) = c.in-Ok-viewer-2.ensures.ok in
    let x = present_of c.args.memory.now in
    rw c.in-KvList.is (
      list_routed x c.args.process c.requires.up c.in-KvList.view c.in-Ok-viewer-2.who is passed,
      active_viewer x c.args.process c.in-KvList.view c.in-Ok-viewer-2.who passed is,
      list_takes x c.args.process c.requires.up c.in-KvList.view c.in-Ok-viewer-2.who is passed,
      refl,
    )
