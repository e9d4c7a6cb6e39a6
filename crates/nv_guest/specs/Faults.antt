-- The texts of refusals.
use Rattle.std.specs.Prelude.{ℕ, List, ◌++◌, codes}
use Rattle.std.specs.Fmt.{decimal}
use Rattle.nv_guest.specs.declared.outcome.GuestFault.{GuestFault}
use Rattle.nv_guest.specs.declared.outcome.GuestFault.TheVariants.{NoRoom, Arguments, Memory}

abbrev pub guest_text : GuestFault → List ℕ
guest_text (NoRoom i) = codes "no room " ++ decimal i
guest_text Arguments = codes "arguments"
guest_text Memory = codes "memory"
