-- What a command makes of its file, and why it makes nothing, by cases.
use Rattle.std.proofs.Common.{◌≡◌, sym, ap, subst, ℕ, List, Vec, Result, Ok, Err}
use Rattle.std.specs.Prelude.{IfOk, IfErr}
use Rattle.std.specs.Global.{Global}
use Rattle.nv_outside.specs.Counts.{Rose}
use Rattle.nv_outside.specs.Told.{Told, MayFail}
use Rattle.nv_outside.specs.Files.{GotTold, KeepsFaults}
use Rattle.nv_outside.specs.declared.files.Got.{Got}
use Rattle.nv_outside.specs.declared.files.Got.TheVariants.{Bytes}
use Rattle.nv_driver.specs.Found.{Whole, IsReadOf, TookLong}
use Rattle.nv_driver.specs.Made.{used, unless_refused}
use Rattle.nv_driver.specs.inner.Unmade.{IsMadeOf, IsUnmade, IsReasonFor}
use Rattle.nv_driver.specs.declared.asked.Tool.{Tool}
use Rattle.nv_driver.specs.declared.refusal.Cause.{Cause}
use Rattle.nv_driver.specs.declared.refusal.Cause.TheVariants.{Long}
use Rattle.nv_driver.specs.declared.tools.Unmade.{Unmade}
use Rattle.nv_driver.specs.declared.tools.Unmade.TheVariants.{Memory, Unreadable, Refused}

module _ (unmade : Unmade) (tool : Tool) (told : Told) (before now taken later : ℕ) (h : IsUnmade unmade tool told before now taken later) where
  pub memory_kept : unmade ≡ Memory → now ≡ before
  memory_kept e = subst (λ (u : Unmade). IsUnmade u tool told before now taken later) e h

  pub unreadable_by : unmade ≡ Unreadable → Rose before now × MayFail told
  unreadable_by e = subst (λ (u : Unmade). IsUnmade u tool told before now taken later) e h

  pub refused_by : (cause : Cause) → unmade ≡ Refused cause → IsMadeOf tool told (Err (Refused cause)) × (now ≡ before) × (cause ≡ Long → TookLong taken later)
  refused_by cause e = subst (λ (u : Unmade). IsUnmade u tool told before now taken later) e h

-- the bytes that a read gave
pub read_of : (got : Got) (bytes : Vec ℕ Global) (seen : List ℕ) (told : Told) → got ≡ Bytes bytes → seen ≡ bytes.items → GotTold got told 4194304 → IsReadOf seen told
read_of got bytes seen told is same a =
    let b = subst (λ (x : Got). GotTold x told 4194304) is a in
    subst (λ (x : List ℕ). IsReadOf x told) (sym same) (record { short = b.0; there = b.2; same = b.1 })

-- no read failed
pub kept_of : (got : Got) (bytes : Vec ℕ Global) (before now : ℕ) → got ≡ Bytes bytes → KeepsFaults (Ok got) before now → now ≡ before
kept_of got bytes before now is h = subst (λ (x : Got). KeepsFaults (Ok x) before now) is h

pub making : (result : Result (Vec ℕ Global) Unmade) (tool : Tool) (told : Told) (bytes : List ℕ) → IsReadOf bytes told → IfOk result (λ text. used tool bytes ≡ Ok text.items)
    → IfOk result (λ text. IsMadeOf tool told (Ok text.items))
making (Ok text) tool told bytes read h = record { found = Whole bytes; agrees = read; is = ap unless_refused h }
making (Err unmade) tool told bytes read h = tt

pub unmaking : (result : Result (Vec ℕ Global) Unmade) (tool : Tool) (told : Told) (bytes : List ℕ) (before now taken later : ℕ) → IsReadOf bytes told → now ≡ before
    → IfErr result (λ unmade. IsReasonFor unmade (used tool bytes)) → IfErr result (λ unmade. IsUnmade unmade tool told before now taken later)
unmaking (Ok text) tool told bytes before now taken later read kept h = tt
unmaking (Err Memory) tool told bytes before now taken later read kept h = kept
unmaking (Err Unreadable) tool told bytes before now taken later read kept h = absurd h
unmaking (Err (Refused cause)) tool told bytes before now taken later read kept h =
    (record { found = Whole bytes; agrees = read; is = ap unless_refused h.0 }, kept, λ e. absurd (h.1 e))
