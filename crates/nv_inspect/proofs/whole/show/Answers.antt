use Rattle.std.proofs.Common.{◌++◌, ◌∙◌, ◌≡◌, ap}
use Rattle.nv_memory.specs.Image.{Image}
use Rattle.nv_guest.specs.Threads.{Threaded}
use Rattle.nv_threads.specs.Threads.{Proc, count_of}
use Rattle.nv_outside.proofs.Writing.{puts-is, puts-then, puts-failed}
use Rattle.nv_inspect.specs.Shown.{heading_text, threads_text, descriptors_text, dump_text}
use Rattle.nv_inspect.proofs.whole.show.Goals as goal

pub returns-in_err-put_head : goal.returns-in_err-put_head
returns-in_err-put_head g c =
    let v = c.args.version.now in
    let head : heading_text c.standing-told.result.now.seen c.count.result c.standing-told.result.now.fate ≡ heading_text v.at.seen (count_of v.at.process) v.at.fate = (λ i. heading_text (c.standing-told.ensures i).seen ((c.count.ensures ∙ ap count_of c.process-running.ensures) i) (c.standing-told.ensures i).fate) in
    puts-failed (threads_text v.at.process ++ (descriptors_text c.args.files.now.state ++ dump_text v.at.process.guest.memory c.args.dump)) c.from_residual.ensures.0 (puts-is head c.in_err-put_head.ensures)

pub returns-in_err-put_threads : goal.returns-in_err-put_threads
returns-in_err-put_threads g c =
    let v = c.args.version.now in
    let head : heading_text c.standing-told.result.now.seen c.count.result c.standing-told.result.now.fate ≡ heading_text v.at.seen (count_of v.at.process) v.at.fate = (λ i. heading_text (c.standing-told.ensures i).seen ((c.count.ensures ∙ ap count_of c.process-running.ensures) i) (c.standing-told.ensures i).fate) in
    puts-then (puts-is head c.in_ok-put_head.ensures)
    (puts-failed (descriptors_text c.args.files.now.state ++ dump_text v.at.process.guest.memory c.args.dump) c.from_residual-in_err-put_threads.ensures.0 (puts-is (ap threads_text c.process-running.ensures) c.in_err-put_threads.ensures))

pub returns-in_err-put_descriptors : goal.returns-in_err-put_descriptors
returns-in_err-put_descriptors g c =
    let v = c.args.version.now in
    let head : heading_text c.standing-told.result.now.seen c.count.result c.standing-told.result.now.fate ≡ heading_text v.at.seen (count_of v.at.process) v.at.fate = (λ i. heading_text (c.standing-told.ensures i).seen ((c.count.ensures ∙ ap count_of c.process-running.ensures) i) (c.standing-told.ensures i).fate) in
    puts-then (puts-is head c.in_ok-put_head.ensures)
    (puts-then (puts-is (ap threads_text c.process-running.ensures) c.in_ok-put_threads.ensures)
    (puts-failed (dump_text v.at.process.guest.memory c.args.dump) c.from_residual-in_err-put_descriptors.ensures.0 c.in_err-put_descriptors.ensures))

pub returns : goal.returns
returns g c =
    let v = c.args.version.now in
    let head : heading_text c.standing-told.result.now.seen c.count.result c.standing-told.result.now.fate ≡ heading_text v.at.seen (count_of v.at.process) v.at.fate = (λ i. heading_text (c.standing-told.ensures i).seen ((c.count.ensures ∙ ap count_of c.process-running.ensures) i) (c.standing-told.ensures i).fate) in
    let memory = c.memory.ensures ∙ ap (λ (t : Threaded). t.memory) (c.guest.ensures ∙ ap (λ (p : Proc). p.guest) c.process-running.ensures) in
    puts-then (puts-is head c.in_ok-put_head.ensures)
    (puts-then (puts-is (ap threads_text c.process-running.ensures) c.in_ok-put_threads.ensures)
    (puts-then c.in_ok-put_descriptors.ensures
    (puts-is (ap (λ (m : Image). dump_text m c.args.dump) memory) c.put_dump.ensures)))
