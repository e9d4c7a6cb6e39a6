use denote.Exit.{no}
use denote.Param.Send.{param_send, arg_send}
use Rattle.std.proofs.Common.{◌≡◌, ◌∙◌, ap, sym, subst, inl, inr, refl, List, ℕ, map, false}
use Rattle.std.specs.Prelude.{option_map}
use Rattle.std.specs.List.{list_any}
use Rattle.nv_calls.specs.Logs.{Start, output_of}
use Rattle.nv_gen.specs.Made.{summary}
use Rattle.nv_arriving.specs.Scripted.{start_from}
use Rattle.nv_replay.specs.Follow.{judge_of}
use Rattle.nv_replay.specs.Lead.{is_memory}
use Rattle.nv_replay.specs.Sequence.{Account, cuts_of}
use Rattle.nv_replay.specs.Version.{Running, process_of, standing_of}
use Rattle.nv_script.specs.Scripts.{Setup}
use Rattle.nv_threads.specs.Threads.{Proc, threads}
use Rattle.nv_workers.specs.Ends.{IsAccount}
use Rattle.nv_driver.specs.Seen.{limits_view}
use Rattle.nv_driver.specs.Words.{Limits}
use Rattle.nv_driver.specs.Account.{process_begun}
use Rattle.nv_driver.specs.Due.{Says}
use Rattle.nv_driver.specs.Outcome.{NoMemory, Summed, totals_of}
use Rattle.nv_cli.proofs.Counted.{few_lines}
use Rattle.nv_driver.proofs.Loaded.{made_owes}
use Rattle.nv_cli.proofs.Running.{run_of}
use Rattle.nv_arriving.proofs.Sending.{scripted_send}
use Rattle.nv_cli.proofs.top.sum_up.Goals as goal

pub run-requires-send-K : goal.run-requires-send-K
run-requires-send-K g c κs within = param_send 1 _ (arg_send _ no _ scripted_send)

pub totals-requires-send-K : goal.totals-requires-send-K
totals-requires-send-K g c κs = param_send 0 _ (arg_send _ no _ scripted_send)

pub returns-in_default : goal.returns-in_default
returns-in_default g c = record { outcome = NoMemory; owed = inr refl; says = c.put_line.ensures }

pub returns-then-starved : goal.returns-then-starved
returns-then-starved g c = record { outcome = NoMemory; owed = inr refl; says = c.put_line-then-starved.ensures }

pub totals-requires-after_bounds : goal.totals-requires-after_bounds
totals-requires-after_bounds g c κs =
    few_lines (judge_of (option_map (λ f. f.now) c.as_ref.result)) (start_from c.in-Ok.account.kernel.setup) c.usual-limits.result.calls
    (cuts_of (map standing_of c.in-Ok.account.versions.items)) c.args.made.hands.items c.args.made.versions.items c.in-Ok.account.versions.items c.in-Ok.account.kernel.log
    c.in-Ok.ensures.account.account c.requires.made.few

pub returns-in-Ok-summary : goal.returns-in-Ok-summary
returns-in-Ok-summary g c =
    let n = c.args.number in
    let setup = c.args.made.kernel.setup in
    let log = c.in-Ok.account.kernel.log in
    let lines = map standing_of c.in-Ok.account.versions.items in
    let account : Account = record { log = log; lines = lines } in
    let made = c.requires.made in
    let limits = limits_view c.usual-limits.result in
    let rules = option_map (λ f. f.now) c.as_ref.result in
    let begin : map process_of c.args.made.versions.items ≡ map (process_begun limits setup) made.machines =
    made.processes ∙ ap (λ (x : Limits). map (process_begun x setup) made.machines) (sym c.usual-limits.ensures) in
    let told = subst (λ (start : Start). IsAccount threads (judge_of rules) start limits.calls c.args.made.hands.items c.args.made.versions.items c.in-Ok.account.versions.items log) (ap start_from c.in-Ok.ensures.start) c.in-Ok.ensures.account in
    let run = run_of false limits setup rules made.machines c.args.made.hands.items c.args.made.versions.items c.in-Ok.account.versions.items log c.requires.planned.same told (λ off. c.in-Ok.ensures.stays) begin in
    let never : list_any (λ line. is_memory line.fate) lines ≡ false =
    ap (λ (versions : List (Running Proc)). list_any (λ line. is_memory line.fate) (map standing_of versions)) (sym c.deref.ensures.value) ∙ sym c.starved.ensures ∙ c.if-starved.false in
    let text : c.deref-in-Ok-summary.result.now ≡ summary n (totals_of (output_of (start_from setup) log) account) =
    c.deref-in-Ok-summary.ensures.value ∙ c.in-Ok-summary.ensures ∙ ap (summary n) (c.totals.ensures ∙ ap (λ (s : Setup). totals_of (output_of (start_from s) log) account) c.in-Ok.ensures.start) in
    record {
      outcome = Summed n setup account;
      owed = inl (made_owes n setup c.args.made.rules rules made.machines limits account made.run c.as_ref.ensures.value c.usual-limits.ensures run never);
      says = subst (λ (line : List ℕ). Says line 0 (g.S.Sink.told c.args.sink.now) (g.S.Sink.faults c.args.sink.now) c.put_line-in-Ok-summary.result (g.S.Sink.told c.put_line-in-Ok-summary.new.sink) (g.S.Sink.faults c.put_line-in-Ok-summary.new.sink))
          text c.put_line-in-Ok-summary.ensures;
    }

pub returns : goal.returns
returns g c = record { outcome = NoMemory; owed = inr refl; says = c.put_line-in-Err.ensures }
