-- A whole run.
use Rattle.std.specs.Prelude.{◌≡◌, ℕ, Bool, false, List, [], Option, map, if◌then◌else◌}
use Rattle.std.specs.List.{list_any}
use Rattle.nv_bpf.specs.declared.op.Op.{Op}
use Rattle.nv_machine.specs.Guest.{Machine}
use Rattle.nv_driver.specs.Words.{Limits}
use Rattle.nv_script.specs.Scripts.{Setup}
use Rattle.nv_arriving.specs.Scripted.{start_from}
use Rattle.nv_threads.specs.Threads.{Proc, threads, started}
use Rattle.nv_replay.specs.declared.standing.Standing.{Standing}
use Rattle.nv_replay.specs.Follow.{is_exited, judge_of}
use Rattle.nv_replay.specs.Lead.{is_memory}
use Rattle.nv_replay.specs.LettingGo.{NoneLetGo}
use Rattle.nv_replay.specs.Sequence.{Account, cuts_of}
use Rattle.nv_replay.specs.Monitor.{sequence}
use Rattle.nv_replay.specs.Account.{AreSettled}
use Rattle.nv_replay.specs.Covers.{AreEnded, Covers}
use Rattle.nv_replay.specs.Survivors.{SurvivorsAgree}

-- a version has as many instructions as the limits say, or as many after each answer, and the calls that the script's form has
abbrev pub process_begun : Limits → Setup → Machine → Proc
process_begun limits setup machine = started machine limits.budget limits.renews setup.polls

-- The account is that of the sequential monitor over what the script says, its planned lengths, this filter and these machines, with at most as many events as the limits say and with the cuts that it tells.
-- Each version has one fate, and each event lies in exactly one of the spans; where no length is planned each version led at most one. One that exited without a rewrite would come to this log alone.
-- Nobody was let go where followers may not be.
pub record IsRunOf (lets_go : Bool) (limits : Limits) (setup : Setup) (rules : Option (List Op)) (machines : List Machine) (account : Account) : Type 0 where
  pub is_account : account ≡ sequence threads (judge_of rules) (start_from setup) limits.calls (cuts_of account.lines) setup.hands (map (process_begun limits setup) machines)
  pub settled : AreEnded account.lines
  pub covers : Covers account.lines account.log
  pub stays : lets_go ≡ false → NoneLetGo account.lines
  pub unplanned : setup.hands ≡ [] → AreSettled account.lines
  pub survivor : SurvivorsAgree threads (start_from setup) limits.calls setup.hands (map (process_begun limits setup) machines) account.lines account.log

-- 0 where a version exited; else 7 where one wanted memory; else 1
abbrev pub run_status : List Standing → ℕ
run_status lines = if list_any (λ line. is_exited line.fate) lines then 0
    else (if list_any (λ line. is_memory line.fate) lines then 7 else 1)
