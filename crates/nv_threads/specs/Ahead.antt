-- A process that goes on before it is known whose call is wanted next.
use Rattle.std.specs.Prelude.{◌≡◌, Bool, true, false, None, Some}
use Rattle.std.specs.List.{list_any}
use Rattle.nv_threads.specs.Threads.{Proc, asks, threads}
use Rattle.nv_threads.specs.Going.{Goes}
use Rattle.nv_threads.specs.declared.turns.Want.{Want}
use Rattle.nv_threads.specs.declared.turns.Ahead.{Ahead}
use Rattle.nv_threads.specs.declared.turns.Ahead.TheVariants as ahead

-- a thread lives, and none waits for the answer to a call: so long makes no difference whose call is wanted
pub record IsUnasked (p : Proc) : Type 0 where
  pub none : list_any asks p.tasks ≡ false
  pub on : threads.ended p ≡ None

-- q is p, or comes to what p comes to, whosever call is wanted, or is where p comes to that
abbrev pub HasGone : Proc → Ahead → Proc → Type 0
HasGone p ahead.Stays q = q ≡ p
HasGone p ahead.Goes q = IsUnasked p × ((w : Want) → Goes w p None q)
HasGone p (ahead.Comes came) q = IsUnasked p × ((w : Want) → Goes w p (Some came) q)

-- a process as its callers know it, and whether it may go on further than they know
pub record Known : Type 0 where
  pub process : Proc
  pub eager : Bool

pub record MayGo (p : Proc) (eager : Bool) (a : Ahead) (q : Proc) : Type 0 where
  pub gone : HasGone p a q
  pub stays : eager ≡ false → a ≡ ahead.Stays

-- one that may go on before it is known whose call is wanted
pub record MayGoAhead (k : Known) : Type 0 where
  pub eager : k.eager ≡ true
  pub unasked : IsUnasked k.process
