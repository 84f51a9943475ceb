use Rattle.std.proofs.Common.{◌≡◌, ℕ, ◌+◌, ◌≤◌, ◌∙◌, cond, length, List, Some, ap, subst, sym}
use Rattle.ktm_course.specs.Moved.{records_files}
use Rattle.ktm_each.specs.Each.{EachOfFiles}
use Rattle.ktm_memory.proofs.offered.Following.{released-each}
use Rattle.ktm_memory.specs.Rules.{Follows}
use Rattle.ktm_memory.specs.Memory.{MemoryState, Shows, TellsWithin, course_then, is_known, present_of}
use Rattle.ktm_memory.specs.contracts.memory.Memory.{the_view}
use Rattle.ktm_memory.specs.declared.memory.Memory.TheInside.{Inside}
use Rattle.ktm_memory.proofs.Carried.{arrived-sent, carried_shows}
use Rattle.ktm_memory.proofs.Showing.{course_in, sent_in, shows_held}
use Rattle.ktm_tm.specs.TmState.{TmState}
use Rattle.ktm_tm.specs.Courses.{IsCourseIn, caller_of}
use Rattle.ktm_trace.specs.Traces.{traces_after}
use Rattle.ktm_trace.specs.declared.recording.Recording.{Recording}
use Rattle.ktm_world.specs.declared.reply.Reply.TheVariants.{Done}
use Rattle.ktm_world.specs.Durable.{next_after_all}
use Rattle.ktm_world.specs.Enlistments.{Sent}
use Rattle.ktm_world.specs.Files.{own_changes}
use Rattle.ktm_world.specs.Outcome.{served}
use Rattle.ktm_world.specs.Present.{Present}
use Rattle.ktm_world.specs.Steps.{basis, events_ahead, run}
use Rattle.ktm_world.specs.TransactionCalls.{arrived, course_of}
use Rattle.ktm_world.specs.Transactions.{change_at, transaction_at}
use Rattle.std.proofs.Common.{fold, map, None, arith}
use Rattle.txf_volume.specs.Commit.{MayCommit}
use Rattle.txf_volume.specs.Held.{FilesHeld, files_of}
use Rattle.ktm_memory.proofs.memory.Memory.carry_out.Goals as goal
use Rattle.ktm_memory.proofs.memory.Memory.carry_out.Goals.{then-records_files, else-records_files}

pub carry_uncounted-requires-clause-there : goal.carry_uncounted-requires-clause-there
carry_uncounted-requires-clause-there c =
    let tm : c.if-records_files.self-inside.tm ≡ c.self.inside.tm =
    elim c.if-records_files.branch [ then-records_files w ↦ ap (λ (s : Inside). s.tm) w.self-inside-is | else-records_files w ↦ ap (λ (s : Inside). s.tm) w.self-inside-is ] in
    ap (λ (n : TmState). transaction_at n.now.items c.args.t.id) tm ∙ ap (λ (m : MemoryState). transaction_at m.tm.now.items c.args.t.id) c.self.view_is ∙ c.requires.may.there

pub carry_uncounted-requires-clause-live : goal.carry_uncounted-requires-clause-live
carry_uncounted-requires-clause-live c = c.requires.may.live

pub carry_uncounted-requires-clause-slots : goal.carry_uncounted-requires-clause-slots
carry_uncounted-requires-clause-slots c = λ d is.
    let m = the_view c.self.inside in
    let tm : c.if-records_files.self-inside.tm ≡ c.self.inside.tm =
    elim c.if-records_files.branch [ then-records_files w ↦ ap (λ (s : Inside). s.tm) w.self-inside-is | else-records_files w ↦ ap (λ (s : Inside). s.tm) w.self-inside-is ] in
    let read = c.recording-recording.ensures (present_of m) (subst (λ n. Shows n (present_of m)) c.self.view_is (shows_held m)) in
    let told = subst (λ n. TellsWithin n (λ x. arrived x (course_then x c.args.t c.args.caller c.args.steps.now) Done)) (sym c.self.view_is) c.requires.told (present_of m) (shows_held m) in
    let sent = sent_in m c.args.t c.args.caller c.args.steps.now c.recording-recording.result.has_files c.recording-recording.result.has_keys d (sym (ap (λ (r : Recording). r.has_files) read)) (sym (ap (λ (r : Recording). r.has_keys) read))
    (subst (λ (n : TmState). IsCourseIn n c.args.t c.args.caller c.recording-recording.result.has_files c.recording-recording.result.has_keys d) tm is) in
    subst (λ (n : TmState). length (run c.args.steps.now d).sent ≤ n.slots) (sym tm)
    (subst (λ (l : List Sent). length l ≤ m.tm.slots) (arrived-sent (present_of m) (course_then (present_of m) c.args.t c.args.caller c.args.steps.now) ∙ sym sent) told)

pub release-requires : goal.release-requires
release-requires c is =
    let m = the_view c.self.inside in
    let files : c.if-records_files.self-inside.files ≡ c.self.inside.files =
    elim c.if-records_files.branch [ then-records_files w ↦ ap (λ (s : Inside). s.files) w.self-inside-is | else-records_files w ↦ ap (λ (s : Inside). s.files) w.self-inside-is ] in
    subst (λ (f : FilesHeld). MayCommit (files_of f) c.args.t.id) (sym files)
    (subst (λ (k : MemoryState). MayCommit (files_of k.files) c.args.t.id) (sym c.self.view_is) (c.requires.may.commits (sym c.commits.ensures ∙ is)))

pub returns-clause-settles : goal.returns-clause-settles
returns-clause-settles c =
    let m = the_view c.self.inside in
    let s = c.if-records_files.self-inside in
    let n = record (the_view s) { tm = c.carry_uncounted.new.tm; trace = c.record.new.self } in
    let same : (k : ℕ) × (s ≡ record c.self.inside { next_node = k }) × (k ≡ cond (records_files c.args.steps.now) (next_after_all c.self.inside.next_node (own_changes (files_of c.self.inside.files).table.own c.args.t.id)) c.self.inside.next_node) =
    elim c.if-records_files.branch [
      | then-records_files w ↦ (w.next_after-self-inside.result, w.self-inside-is, w.next_after-self-inside.ensures.next ∙ sym (ap (λ b. cond b (next_after_all c.self.inside.next_node (own_changes (files_of c.self.inside.files).table.own c.args.t.id)) c.self.inside.next_node) (sym c.records_files.ensures ∙ w.if-records_files.true)))
      | else-records_files w ↦ (c.self.inside.next_node, w.self-inside-is, sym (ap (λ b. cond b (next_after_all c.self.inside.next_node (own_changes (files_of c.self.inside.files).table.own c.args.t.id)) c.self.inside.next_node) (sym c.records_files.ensures ∙ w.if-records_files.false)))
    ] in
    let tm : s.tm ≡ c.self.inside.tm = ap (λ (i : Inside). i.tm) same.1 in
    let course : (x : Present) → Shows m x → IsCourseIn s.tm c.args.t c.args.caller c.recording-recording.result.has_files c.recording-recording.result.has_keys (course_of x c.args.t (caller_of x.transactions.enlistments c.args.caller)) =
    λ x shows.
    let read = c.recording-recording.ensures (present_of m) (subst (λ k. Shows k (present_of m)) c.self.view_is (shows_held m)) in
    subst (λ (k : TmState). IsCourseIn k c.args.t c.args.caller c.recording-recording.result.has_files c.recording-recording.result.has_keys (course_of x c.args.t (caller_of x.transactions.enlistments c.args.caller))) (sym tm)
    (course_in m x c.args.t c.args.caller c.recording-recording.result.has_files c.recording-recording.result.has_keys shows (sym (ap (λ (r : Recording). r.has_files) read)) (sym (ap (λ (r : Recording). r.has_keys) read))) in
    record {
      shows = λ x shows next.
          let old = subst (λ k. Shows k x) (sym c.self.view_is) shows in
          let start = course_of x c.args.t (caller_of x.transactions.enlistments c.args.caller) in
          let then = run c.args.steps.now start in
          carried_shows m n c.release.new.self x c.args.t c.args.caller c.args.steps.now c.commits.result old (subst (λ k. transaction_at k.tm.now.items c.args.t.id ≡ Some c.args.t) (sym c.self.view_is) c.requires.may.there)
          (c.requires.may.leads x shows) next c.commits.ensures
          (record {
            is_up = ap (λ (i : Inside). i.is_up) same.1;
            handles = ap (λ (i : Inside). i.handles) same.1;
            files = ap (λ (i : Inside). i.files) same.1;
            keys = ap (λ (i : Inside). i.keys) same.1;
            next_node = ap (λ (i : Inside). i.next_node) same.1 ∙ same.2;
            boot = c.carry_uncounted.ensures.room.boot ∙ ap (λ (k : TmState). k.boot) tm;
            now = c.carry_uncounted.ensures.now start (course x old) ∙ ap (λ (k : TmState). record k.now { items = change_at k.now.items c.args.t.id (λ u. then.transaction); enlistments = then.enlistments }) tm;
            managers = c.carry_uncounted.ensures.managers start (course x old) ∙ ap (λ (k : TmState). map (served None then.sent) k.managers) tm;
            traces = c.record.ensures.transactions (basis start) (c.recording-recording.ensures x shows) ∙ ap (λ (i : Inside). fold traces_after i.trace (events_ahead c.args.steps.now (basis start))) same.1;
          })
          c.release.ensures;
      slots = λ x shows.
          let old = subst (λ k. Shows k x) (sym c.self.view_is) shows in
          let start = course_of x c.args.t (caller_of x.transactions.enlistments c.args.caller) in
          let then = run c.args.steps.now start in
          let is : c.args.self.now.tm.slots ≡ c.release.new.self.tm.slots + length (arrived x then Done).sent =
          sym (ap (λ k. k.tm.slots) c.self.view_is) ∙ sym (ap (λ (k : TmState). k.slots) tm) ∙ sym (c.carry_uncounted.ensures.slots start (course x old))
          ∙ ap (λ (k : TmState). k.slots + length then.sent) (sym c.release.ensures.rest.tm) ∙ ap (λ (l : List Sent). c.release.new.self.tm.slots + length l) (sym (arrived-sent x then)) in
          omega (arith, is);
    }

pub returns-clause-rules : goal.returns-clause-rules
returns-clause-rules c = λ rule none each.
    let files : c.if-records_files.self-inside.files ≡ c.self.inside.files =
    elim c.if-records_files.branch [ then-records_files w ↦ ap (λ (s : Inside). s.files) w.self-inside-is | else-records_files w ↦ ap (λ (s : Inside). s.files) w.self-inside-is ] in
    let before : EachOfFiles (Follows rule) (files_of c.if-records_files.self-inside.files) =
    subst (λ (f : FilesHeld). EachOfFiles (Follows rule) (files_of f)) (sym files) (subst (λ (k : MemoryState). EachOfFiles (Follows rule) (files_of k.files)) (sym c.self.view_is) each) in
    released-each (Follows rule) none c.args.t.id c.commits.result (is_known c.carry_uncounted.new.tm.now c.args.t.id) (files_of c.if-records_files.self-inside.files) (files_of c.release.new.self.files) before c.release.ensures.files
