use denote.Exit.{no}
use denote.Param.Send.{param_send, arg_send}
use Rattle.std.proofs.Common.{◌≡◌, ◌∙◌, ap, ap₂, inl, inr, List, Option, take}
use Rattle.nv_bpf.specs.declared.op.Op.{Op}
use Rattle.nv_calls.specs.Calls.{Entry}
use Rattle.nv_fs.specs.States.{FileState}
use Rattle.nv_inspect.specs.Shown.{show_text}
use Rattle.nv_outside.proofs.Writing.{puts-is}
use Rattle.nv_replay.specs.Follow.{Follower, follow, fresh, judge_of}
use Rattle.nv_inspect.specs.Points.{events_to}
use Rattle.nv_script.specs.Scripts.{Setup}
use Rattle.nv_script.specs.Views.{setup_of}
use Rattle.nv_threads.specs.Threads.{Proc, threads}
use Rattle.nv_driver.specs.Due.{files_after}
use Rattle.nv_arriving.proofs.Sending.{scripted_send}
use Rattle.nv_driver.proofs.inspecting.show_at.Goals as goal

pub bring-requires-send-K : goal.bring-requires-send-K
bring-requires-send-K g c κs = param_send 0 _ (arg_send _ no _ scripted_send)

pub returns-in_default : goal.returns-in_default
returns-in_default g c = inr c.put_line.ensures

pub returns : goal.returns
returns g c =
    let traced = c.args.traced.now in
    let log = traced.kernel.log in
    let setup = setup_of traced.script in
    let by : Option (List Op) → Follower Proc = λ rules. follow threads (judge_of rules traced.version.index) (events_to c.args.point log) (fresh traced.version.at.process) in
    let at : Follower Proc = by traced.rules in
    let is : c.bring.new.version.at ≡ at = c.bring.ensures.at ∙ ap by c.as_ref.ensures.value in
    let seen : c.standing.result.now.seen ≡ at.seen = ap (λ s. s.seen) c.standing.ensures ∙ ap (λ (a : Follower Proc). a.seen) is in
    let earlier = c.in-Ok.ensures in
    let files = c.files.ensures ∙ ap₂ (λ (s : Setup) (l : List Entry). files_after s l) earlier.setup (earlier.log ∙ ap (λ n. take n log) seen) in
    inl (record {
      put = c.show-put.result;
      ends = c.ended.ensures;
      written = puts-is (ap (λ (a : Follower Proc). show_text a c.files.result.now.state c.args.dump) is ∙ ap (λ (f : FileState). show_text at f c.args.dump) files) c.show-put.ensures;
    })
