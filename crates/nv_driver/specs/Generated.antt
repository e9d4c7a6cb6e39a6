-- What the run of a number begins with.
use Rattle.std.specs.Prelude.{◌≡◌, ◌≤◌, ℕ, List, [], Option, Some, Ok, length, map}
use Rattle.nv_bpf.specs.declared.op.Op.{Op}
use Rattle.nv_bpf.specs.Texts.{filter_of}
use Rattle.nv_calls.specs.Calls.{Entry}
use Rattle.nv_elf.specs.Elf.{Accepted}
use Rattle.nv_gen.specs.Made.{script, rules}
use Rattle.nv_gen.specs.Programs.{programs}
use Rattle.nv_machine.specs.Guest.{Machine}
use Rattle.nv_driver.specs.Words.{usual}
use Rattle.nv_script.specs.Scripts.{Setup, script_of}
use Rattle.nv_threads.specs.Threads.{Proc, threads}
use Rattle.nv_replay.specs.Version.{Running, process_of}
use Rattle.nv_replay.specs.Account.{AreFresh}
use Rattle.nv_driver.specs.Account.{process_begun}
use Rattle.nv_driver.specs.Prepared.{Loads, of_elf}

-- Its script and its rules are read as files are, and its programs are loaded as those of files are, with the limits that a run usually has.
pub record IsMadeRun (n : ℕ) (setup : Setup) (filter : Option (List Op)) (machines : List Machine) : Type 0 where
  pub script_is : script_of script ≡ Ok setup
  pub ops : List Op
  pub rules_are : filter_of 4096 rules ≡ Ok ops
  pub filter_is : filter ≡ Some ops
  pub machines_are : map (of_elf usual setup) (map Accepted (programs n)) ≡ map Loads machines

-- a kernel, a filter and versions that are ready for the run of the number
pub record IsGenerated (n : ℕ) (log : List Entry) (setup : Setup) (filter : Option (List Op)) (versions : List (Running Proc)) : Type 0 where
  pub empty : log ≡ []
  pub machines : List Machine
  pub processes : map process_of versions ≡ map (process_begun usual setup) machines
  pub run : IsMadeRun n setup filter machines
  pub fresh : AreFresh threads 0 versions
  pub few : length versions ≤ 8
