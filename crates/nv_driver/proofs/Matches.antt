-- What `clap` matches, from what it says of its answer.
use Rattle.std.proofs.Common.{◌≡◌, ◌⊎◌, inl, inr, ap, ◌∙◌, sym, List, [], ◌∷◌, None, Some, true, refl}
use Rattle.clap.specs.Kinds.{Kinds, IsAmong}
use Rattle.clap.specs.Walk.{Row, Text}
use Rattle.clap.specs.Simple.{App, is_simple, matches_of}
use Rattle.clap.specs.Faults.{fault_of, is_simple_and_free, is_free_app}
use Rattle.clap.specs.Simple.{built}
use Rattle.clap.proofs.WalkLemmas.{both}
use Rattle.clap.specs.declared.error.kind.ErrorKind.{ErrorKind}
use Rattle.clap.specs.declared.error.kind.ErrorKind.TheVariants.{OutOfMemory}
use Rattle.nv_driver.specs.Faults.{line_fault}
use Rattle.nv_driver.specs.Words.{rows_of_line, unless_faulty}
use Rattle.nv_driver.specs.declared.asked.LineFault.{LineFault}
use Rattle.nv_driver.specs.declared.asked.LineFault.TheVariants.{Usage, Memory}

pub simple : (app : App) → is_simple_and_free app ≡ true → is_simple app ≡ true
simple app h = (both (is_simple app) (is_free_app (built app)) h).0

-- the command that is built is simple where the one that is meant is
pub simple_too : (held app : App) → held ≡ app → is_simple_and_free app ≡ true → is_simple_and_free held ≡ true
simple_too held app e h = ap is_simple_and_free e ∙ h

pub taken : (held app : App) → held ≡ app → (words : List Text) (rows : List Row) → fault_of held words ≡ [] → rows ≡ matches_of held words → rows_of_line app words ≡ Some rows
unfolding rows_of_line
taken held app e words rows free is = rw (← e, free) (ap Some (sym is))

among : (kinds : Kinds) (kind : ErrorKind) (rows : List Row) → IsAmong kind kinds → unless_faulty kinds rows ≡ None
among [] kind rows h = absurd h
among (k ∷ ks) kind rows h = refl

pub refused : (held app : App) → held ≡ app → (words : List Text) (kind : ErrorKind) (fault : LineFault) → fault ≡ line_fault kind
    → (kind ≡ OutOfMemory) ⊎ IsAmong kind (fault_of held words) → fault ≡ Usage → rows_of_line app words ≡ None
unfolding rows_of_line
refused held app e words kind fault is (inl memory) usage = let m : line_fault kind ≡ Memory = ap line_fault memory in cc
refused held app e words kind fault is (inr h) usage = rw (← e) (among (fault_of held words) kind (matches_of held words) h)
