-- What a command makes of its file, and why it makes nothing.
use Rattle.std.specs.Prelude.{◌≡◌, ◌≢◌, ℕ, List, Result, Err}
use Rattle.nv_outside.specs.Counts.{Rose}
use Rattle.nv_outside.specs.Told.{Told, MayFail}
use Rattle.nv_driver.specs.Found.{Found, Agrees, TookLong}
use Rattle.nv_driver.specs.Made.{made_of}
use Rattle.nv_driver.specs.declared.asked.Tool.{Tool}
use Rattle.nv_driver.specs.declared.refusal.Cause.{Cause}
use Rattle.nv_driver.specs.declared.refusal.Cause.TheVariants.{Long}
use Rattle.nv_driver.specs.declared.tools.Unmade.{Unmade}
use Rattle.nv_driver.specs.declared.tools.Unmade.TheVariants.{Memory, Unreadable, Refused}

-- memory is wanted, or what is made of the bytes is this refusal
abbrev pub IsReasonFor : Unmade → Result (List ℕ) Cause → Type 0
IsReasonFor Memory made = Unit {0}
IsReasonFor Unreadable made = ⊥
IsReasonFor (Refused cause) made = (made ≡ Err cause) × (cause ≢ Long)

-- something is found that agrees with what is told, and this is made of it
pub record IsMadeOf (tool : Tool) (told : Told) (made : Result (List ℕ) Unmade) : Type 0 where
  pub found : Found
  pub agrees : Agrees told found
  pub is : made_of tool found ≡ made

-- memory is wanted; or the count of faults rose, and the content isn't told; or the file is refused
abbrev pub IsUnmade : Unmade → Tool → Told → ℕ → ℕ → ℕ → ℕ → Type 0
IsUnmade Memory tool told before now taken later = now ≡ before
IsUnmade Unreadable tool told before now taken later = Rose before now × MayFail told
IsUnmade (Refused cause) tool told before now taken later = IsMadeOf tool told (Err (Refused cause)) × (now ≡ before) × (cause ≡ Long → TookLong taken later)
