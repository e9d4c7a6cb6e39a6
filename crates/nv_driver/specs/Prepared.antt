-- What the files of a run come to.
use Rattle.std.specs.Prelude.{ℕ, ◌+◌, List, [], ◌∷◌, Option, None, Some, Result, Ok, Err}
use Rattle.nv_bpf.specs.declared.op.Op.{Op}
use Rattle.nv_bpf.specs.declared.op.FilterFault.{FilterFault}
use Rattle.nv_bpf.specs.Texts.{filter_of}
use Rattle.nv_elf.specs.Elf.{ElfOf, elf_of}
use Rattle.nv_elf.specs.Elf as elf
use Rattle.nv_machine.specs.Guest.{Machine}
use Rattle.nv_guest.specs.declared.outcome.GuestFault.TheVariants.{NoRoom, Arguments}
use Rattle.nv_guest.specs.Load.{Loaded, loaded}
use Rattle.nv_guest.specs.Load as load
use Rattle.nv_driver.specs.Words.{Limits}
use Rattle.nv_script.specs.Scripts.{Setup, script_of}
use Rattle.nv_script.specs.declared.fault.ScriptFault.{ScriptFault}
use Rattle.nv_driver.specs.Found.{Found, Whole, TooLong, Unread, Finds}
use Rattle.nv_driver.specs.declared.refusal.Place.{Place}
use Rattle.nv_driver.specs.declared.refusal.Place.TheVariants.{Script, Rules, Version}
use Rattle.nv_driver.specs.declared.refusal.Cause.{Cause}
use Rattle.nv_driver.specs.declared.refusal.Cause.TheVariants.{Long, Elf, Guest, Filter}
use Rattle.nv_driver.specs.declared.refusal.Cause.TheVariants as cause

-- the machine that a version file loads, or why it is refused
pub data VersionOf : Type 0 where
  Faulty : Cause → VersionOf
  Loads : Machine → VersionOf

abbrev pub of_loaded : Loaded → VersionOf
of_loaded (load.NoRoomFor n) = Faulty (Guest (NoRoom n))
of_loaded load.NoRoomForArguments = Faulty (Guest Arguments)
of_loaded (load.Ready machine) = Loads machine

abbrev pub of_elf : Limits → Setup → ElfOf → VersionOf
of_elf limits setup (elf.Refused fault) = Faulty (Elf fault)
of_elf limits setup (elf.Accepted image) = of_loaded (loaded image setup.arguments limits.memory)

-- what a version file comes to; a guest has as many bytes as the limits say, and after its name the script's arguments
unfoldable pub version_from : Limits → Setup → List ℕ → VersionOf
version_from limits setup bytes = of_elf limits setup (elf_of bytes)

-- The first file in reading order that can't be read or is refused; or else what the script says, the filter that judges followers,
-- if there is one, and the machines of the versions.
pub data Prepared : Type 0 where
  Unreadable : Place → Prepared
  Refused : Place → Cause → Prepared
  Ready : Setup → Option (List Op) → List Machine → Prepared

-- a file that is found whole is checked before the next is read
abbrev pub read_at : Place → Found → (List ℕ → Prepared) → Prepared
read_at place (Whole bytes) check = check bytes
read_at place TooLong check = Refused place Long
read_at place Unread check = Unreadable place

-- with the machine of the version before, which stands first
abbrev pub with_first_machine : Machine → Prepared → Prepared
with_first_machine machine (Unreadable place) = Unreadable place
with_first_machine machine (Refused place cause) = Refused place cause
with_first_machine machine (Ready setup rules rest) = Ready setup rules (machine ∷ rest)

abbrev pub version_then : ℕ → Prepared → VersionOf → Prepared
version_then i rest (Faulty cause) = Refused (Version i) cause
version_then i rest (Loads machine) = with_first_machine machine rest

-- the versions from number i on
abbrev pub versions_from : Limits → Setup → ℕ → List Found → Prepared
versions_from limits setup i [] = Ready setup None []
versions_from limits setup i (found ∷ finds) =
    read_at (Version i) found (λ bytes. version_then i (versions_from limits setup (i + 1) finds) (version_from limits setup bytes))

-- a run with this filter
abbrev pub judged_by : List Op → Prepared → Prepared
judged_by ops (Unreadable place) = Unreadable place
judged_by ops (Refused place cause) = Refused place cause
judged_by ops (Ready setup rules machines) = Ready setup (Some ops) machines

abbrev pub rules_then : Prepared → Result (List Op) FilterFault → Prepared
rules_then rest (Ok ops) = judged_by ops rest
rules_then rest (Err fault) = Refused Rules (Filter fault)

-- rules that are named are read before the versions
abbrev pub after_rules : Option Found → Prepared → Prepared
after_rules None rest = rest
after_rules (Some found) rest = read_at Rules found (λ bytes. rules_then rest (filter_of 4096 bytes))

-- the rest after what the script says
abbrev pub after_script : (Setup → Prepared) → Result Setup ScriptFault → Prepared
after_script rest (Ok setup) = rest setup
after_script rest (Err fault) = Refused Script (cause.Script fault)

-- what the files come to, by what is found of each
abbrev pub prepared : Limits → Finds → Prepared
prepared limits finds =
    read_at Script finds.script (λ bytes. after_script (λ setup. after_rules finds.rules (versions_from limits setup 0 finds.versions)) (script_of bytes))
