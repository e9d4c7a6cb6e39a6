-- How long the files may be that are read after a script.
use Rattle.std.proofs.Common.{◌≤◌, ◌+◌, ℕ, List, [], ◌∷◌, Option, None, Some, Result, Ok, Err, arith}
use Rattle.nv_bpf.specs.declared.op.Op.{Op}
use Rattle.nv_bpf.specs.declared.op.FilterFault.{FilterFault}
use Rattle.nv_bpf.specs.Texts.{filter_of}
use Rattle.nv_machine.specs.Guest.{Machine}
use Rattle.nv_driver.specs.Words.{Limits}
use Rattle.nv_script.specs.Scripts.{Setup}
use Rattle.nv_driver.specs.Found.{Found, Whole, TooLong, Unread, TookMore}
use Rattle.nv_driver.specs.Prepared.{Prepared, Unreadable, Refused, Ready, VersionOf, Faulty, Loads, read_at, with_first_machine, version_then, versions_from, version_from, judged_by, rules_then, after_rules}
use Rattle.nv_driver.specs.declared.refusal.Place.TheVariants.{Script, Version}

-- more was taken since an earlier count as well
pub took_before : (limit t0 t t' : ℕ) → t0 ≤ t → TookMore limit t t' → TookMore limit t0 t'
took_before limit t0 t t' before took = omega arith

-- it isn't the script that is refused
abbrev pub IsAfterScript : Prepared → Type 0
IsAfterScript (Unreadable place) = Unit {0}
IsAfterScript (Refused Script cause) = ⊥
IsAfterScript (Refused place cause) = Unit {0}
IsAfterScript (Ready setup rules machines) = Unit {0}

with_machine : (machine : Machine) (rest : Prepared) → IsAfterScript rest → IsAfterScript (with_first_machine machine rest)
with_machine machine (Unreadable place) h = tt
with_machine machine (Refused place cause) h = h
with_machine machine (Ready setup rules machines) h = tt

version_after : (i : ℕ) (rest : Prepared) (version : VersionOf) → IsAfterScript rest → IsAfterScript (version_then i rest version)
version_after i rest (Faulty cause) h = tt
version_after i rest (Loads machine) h = with_machine machine rest h

found_after : (i : ℕ) (found : Found) (check : List ℕ → Prepared) → ((bytes : List ℕ) → IsAfterScript (check bytes)) → IsAfterScript (read_at (Version i) found check)
found_after i (Whole bytes) check h = h bytes
found_after i TooLong check h = tt
found_after i Unread check h = tt

pub versions_after : (limits : Limits) (setup : Setup) (i : ℕ) (finds : List Found) → IsAfterScript (versions_from limits setup i finds)
versions_after limits setup i [] = tt
versions_after limits setup i (found ∷ finds) =
    found_after i found (λ bytes. version_then i (versions_from limits setup (i + 1) finds) (version_from limits setup bytes))
    (λ bytes. version_after i (versions_from limits setup (i + 1) finds) (version_from limits setup bytes) (versions_after limits setup (i + 1) finds))

judged_after : (ops : List Op) (rest : Prepared) → IsAfterScript rest → IsAfterScript (judged_by ops rest)
judged_after ops (Unreadable place) h = tt
judged_after ops (Refused place cause) h = h
judged_after ops (Ready setup rules machines) h = tt

filter_after : (rest : Prepared) (filter : Result (List Op) FilterFault) → IsAfterScript rest → IsAfterScript (rules_then rest filter)
filter_after rest (Ok ops) h = judged_after ops rest h
filter_after rest (Err fault) h = tt

pub rules_after : (found : Option Found) (rest : Prepared) → IsAfterScript rest → IsAfterScript (after_rules found rest)
rules_after None rest h = h
rules_after (Some (Whole bytes)) rest h = filter_after rest (filter_of 4096 bytes) h
rules_after (Some TooLong) rest h = tt
rules_after (Some Unread) rest h = tt
