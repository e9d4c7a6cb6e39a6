use denote.Exit.{no}
use denote.Param.Send.{param_send, arg_send}
use Rattle.std.proofs.Common.{◌≡◌, ◌∙◌, ℕ, ◌≤◌, ap, sym, subst, inl, inr, List, map, option_map, false, arith}
use Rattle.std.specs.List.{list_any}
use Rattle.nv_calls.specs.Logs.{Start}
use Rattle.nv_arriving.specs.Scripted.{start_from}
use Rattle.nv_driver.specs.Seen.{limits_view}
use Rattle.nv_replay.specs.Follow.{judge_of}
use Rattle.nv_replay.specs.Lead.{is_memory}
use Rattle.nv_replay.specs.Version.{Running, standing_of}
use Rattle.nv_threads.specs.Threads.{Proc, threads}
use Rattle.nv_workers.specs.Ends.{IsAccount}
use Rattle.nv_cli.proofs.Running.{run_of, log_is_short}
use Rattle.nv_arriving.proofs.Sending.{scripted_send}
use Rattle.nv_cli.proofs.recording.record_versions.Goals as goal

pub run-requires-send-K : goal.run-requires-send-K
run-requires-send-K g c κs within = param_send 1 _ (arg_send _ no _ scripted_send)

pub returns-in_default : goal.returns-in_default
returns-in_default g c = λ machines are. inr c.put_line.ensures

pub returns-then-starved : goal.returns-then-starved
returns-then-starved g c = λ machines are. inr c.put_line-then-starved.ensures

short : (n most : ℕ) → n ≤ most → most ≤ 131072 → n ≤ 131072
short n most p q = omega arith

pub put_trace-requires : goal.put_trace-requires
put_trace-requires g c = (
  param_send 0 _ (arg_send _ no _ scripted_send),
  short _ c.args.limits.calls
      (log_is_short (option_map (λ f. f.now) c.args.rules) _ c.args.limits.calls c.args.hands.now.items c.args.versions.items c.in-Ok.account.versions.items c.in-Ok.account.kernel.log c.in-Ok.ensures.account)
      c.requires.short,
)

pub returns : goal.returns
returns g c = λ machines are.
    let log = c.in-Ok.account.kernel.log in
    let lines = map standing_of c.in-Ok.account.versions.items in
    let limits = limits_view c.args.limits in
    let rules = option_map (λ f. f.now) c.args.rules in
    let told = subst (λ (start : Start). IsAccount threads (judge_of rules) start limits.calls c.args.hands.now.items c.args.versions.items c.in-Ok.account.versions.items log) (ap start_from c.in-Ok.ensures.start) c.in-Ok.ensures.account in
    let never : list_any (λ line. is_memory line.fate) lines ≡ false =
    ap (λ (versions : List (Running Proc)). list_any (λ line. is_memory line.fate) (map standing_of versions)) (sym c.deref.ensures.value) ∙ sym c.starved.ensures ∙ c.if-starved.false in
    inl (record {
      account = record { log = log; lines = lines };
      is_run = run_of false limits c.args.kernel.setup rules machines c.args.hands.now.items c.args.versions.items c.in-Ok.account.versions.items log c.requires.planned.same told (λ off. c.in-Ok.ensures.stays) are;
      never_starved = never;
      says = c.put_trace.ensures;
    })
