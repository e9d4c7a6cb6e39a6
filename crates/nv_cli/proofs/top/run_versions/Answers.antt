use denote.Exit.{no}
use denote.Param.Send.{param_send, arg_send}
use Rattle.std.proofs.Common.{◌++◌, ap, codes, false, inl, inr, ⊎_elim, subst, map, option_map}
use Rattle.nv_calls.specs.Logs.{Start, output_of, connections_of}
use Rattle.nv_arriving.specs.Scripted.{start_from}
use Rattle.nv_driver.specs.Seen.{limits_view}
use Rattle.nv_replay.specs.Follow.{judge_of}
use Rattle.nv_replay.specs.Version.{standing_of}
use Rattle.nv_threads.specs.Threads.{threads}
use Rattle.nv_workers.specs.Ends.{IsAccount}
use Rattle.nv_report.specs.Json.{json_text}
use Rattle.nv_report.specs.Report.{report_text}
use Rattle.nv_sockets.specs.Texts.{connections_text}
use Rattle.nv_driver.specs.Account.{run_status}
use Rattle.nv_driver.specs.Due.{Says}
use Rattle.nv_driver.specs.Ran.{Wrote}
use Rattle.nv_cli.proofs.Running.{run_of}
use Rattle.nv_arriving.proofs.Sending.{scripted_send}
use Rattle.nv_cli.proofs.top.run_versions.Goals as goal

pub run-requires-send-K : goal.run-requires-send-K
run-requires-send-K g c κs within = param_send 1 _ (arg_send _ no _ scripted_send)

pub put_json-requires-send-K : goal.put_json-requires-send-K
put_json-requires-send-K g c κs within = param_send 0 _ (arg_send _ no _ scripted_send)

pub returns-then-json : goal.returns-then-json
returns-then-json g c = λ machines are.
    let log = c.in-Ok.account.kernel.log in
    let lines = map standing_of c.in-Ok.account.versions.items in
    let setup = c.args.kernel.setup in
    let limits = limits_view c.args.limits in
    let rules = option_map (λ f. f.now) c.args.rules in
    let told = subst (λ (start : Start). IsAccount threads (judge_of rules) start limits.calls c.args.hands.now.items c.args.versions.items c.in-Ok.account.versions.items log) (ap start_from c.in-Ok.ensures.start) c.in-Ok.ensures.account in
    let says = subst
    (λ (s : Start). Wrote (json_text (output_of s log) (record { log = log; lines = lines }) ++ codes "\n")
    (run_status lines) (g.S.Sink.told c.args.sink.now) (g.S.Sink.faults c.args.sink.now) c.put_json.result (g.S.Sink.told c.put_json.new.sink) (g.S.Sink.faults c.put_json.new.sink))
    (ap start_from c.in-Ok.ensures.start) c.put_json.ensures in
    ⊎_elim (λ said. inl (record {
      account = record { log = log; lines = lines };
      is_run = run_of false limits setup rules machines c.args.hands.now.items c.args.versions.items c.in-Ok.account.versions.items log c.requires.planned.same told (λ off. c.in-Ok.ensures.stays) are;
      says = rw c.if-json.true said;
    })) inr says

pub returns : goal.returns
returns g c = λ machines are.
    let log = c.in-Ok.account.kernel.log in
    let lines = map standing_of c.in-Ok.account.versions.items in
    let setup = c.args.kernel.setup in
    let limits = limits_view c.args.limits in
    let rules = option_map (λ f. f.now) c.args.rules in
    let told = subst (λ (start : Start). IsAccount threads (judge_of rules) start limits.calls c.args.hands.now.items c.args.versions.items c.in-Ok.account.versions.items log) (ap start_from c.in-Ok.ensures.start) c.in-Ok.ensures.account in
    inl (record {
      account = record { log = log; lines = lines };
      is_run = run_of false limits setup rules machines c.args.hands.now.items c.args.versions.items c.in-Ok.account.versions.items log c.requires.planned.same told (λ off. c.in-Ok.ensures.stays) are;
      says = rw c.if-json.false (subst
          (λ (s : Start). Says (report_text (output_of s log) (record { log = log; lines = lines }) ++ connections_text (connections_of s log))
          (run_status lines) (g.S.Sink.told c.args.sink.now) (g.S.Sink.faults c.args.sink.now) c.put_report.result (g.S.Sink.told c.put_report.new.sink) (g.S.Sink.faults c.put_report.new.sink))
          (ap start_from c.in-Ok.ensures.start) c.put_report.ensures);
    })
