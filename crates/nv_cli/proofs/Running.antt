-- A run from what its versions came to beside each other.
use Rattle.std.proofs.Common.{◌≡◌, ◌∙◌, sym, ap, subst, ℕ, ◌≤◌, Bool, false, List, Option, map, length}
use Rattle.nv_bpf.specs.declared.op.Op.{Op}
use Rattle.nv_calls.specs.Calls.{Entry}
use Rattle.nv_calls.specs.Logs.{Start}
use Rattle.nv_driver.specs.Words.{Limits}
use Rattle.nv_arriving.specs.Scripted.{start_from}
use Rattle.nv_machine.specs.Guest.{Machine}
use Rattle.nv_replay.proofs.Agreeing.{sequence_short}
use Rattle.nv_replay.specs.Follow.{judge_of}
use Rattle.nv_replay.specs.LettingGo.{NoneLetGo}
use Rattle.nv_replay.specs.Monitor.{sequence}
use Rattle.nv_replay.specs.Sequence.{Account, cuts_of}
use Rattle.nv_replay.specs.Survivors.{SurvivorsAgree}
use Rattle.nv_replay.specs.Version.{Running, process_of, standing_of}
use Rattle.nv_script.specs.Scripts.{Setup}
use Rattle.nv_threads.proofs.ThreadLaws.{thread_laws}
use Rattle.nv_threads.specs.Threads.{Proc, threads}
use Rattle.nv_workers.specs.Ends.{IsAccount}
use Rattle.nv_driver.specs.Account.{IsRunOf, process_begun}
use Rattle.nv_cli.proofs.Once.{settled_unplanned}

-- the log is at most as long as it may be
pub log_is_short : (rules : Option (List Op)) (start : Start) (most : ℕ) (hands : List ℕ) (olds news : List (Running Proc)) (log : List Entry)
    → IsAccount threads (judge_of rules) start most hands olds news log → length log ≤ most
log_is_short rules start most hands olds news log a =
    subst (λ (z : Account). length z.log ≤ most) (sym a.account) (sequence_short threads (judge_of rules) start most (cuts_of (map standing_of news)) hands (map process_of olds))

-- versions that begin with these machines, and the script's planned lengths
pub run_of : (lets_go : Bool) (limits : Limits) (setup : Setup) (rules : Option (List Op)) (machines : List Machine) (hands : List ℕ) (olds news : List (Running Proc)) (log : List Entry) → hands ≡ setup.hands
    → IsAccount threads (judge_of rules) (start_from setup) limits.calls hands olds news log → (lets_go ≡ false → NoneLetGo (map standing_of news))
    → map process_of olds ≡ map (process_begun limits setup) machines
    → IsRunOf lets_go limits setup rules machines (record { log = log; lines = map standing_of news })
run_of lets_go limits setup rules machines hands olds news log planned a stays are =
    let start = start_from setup in
    let cuts = cuts_of (map standing_of news) in
    let account : Account = record { log = log; lines = map standing_of news } in
    let is : account ≡ sequence threads (judge_of rules) start limits.calls cuts setup.hands (map (process_begun limits setup) machines) =
    a.account ∙ ap (λ (hs : List ℕ). sequence threads (judge_of rules) start limits.calls cuts hs (map process_of olds)) planned
    ∙ ap (λ (ps : List Proc). sequence threads (judge_of rules) start limits.calls cuts setup.hands ps) are in
    record {
      is_account = is;
      settled = a.settled;
      covers = a.covers;
      stays = stays;
      unplanned = settled_unplanned threads (judge_of rules) start limits.calls cuts thread_laws setup.hands (map (process_begun limits setup) machines) account is a.settled;
      survivor = subst (λ (ps : List Proc). SurvivorsAgree threads start limits.calls setup.hands ps (map standing_of news) log) are
          (subst (λ (hs : List ℕ). SurvivorsAgree threads start limits.calls hs (map process_of olds) (map standing_of news) log) planned a.survivor);
    }
