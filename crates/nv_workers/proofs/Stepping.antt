-- What a turn comes to, by seat.
use Rattle.std.proofs.Common.{◌≡◌, inl, ℕ, Bool, false, List, Option}
use Rattle.nv_calls.specs.declared.kernel.SyscallKernel.{Ghosts}
use Rattle.nv_room.specs.declared.room.Room.{Room}
use Rattle.nv_room.specs.declared.room.Reader.{Reader}
use Rattle.nv_room.specs.declared.room.Lead.{Lead}
use Rattle.nv_room.specs.Seats.{view, lead_view}
use Rattle.nv_threads.specs.Threads.{Proc}
use Rattle.nv_replay.specs.Follow.{Judge}
use Rattle.nv_replay.specs.Sequence.{is_going}
use Rattle.nv_replay.specs.Version.{Running}
use Rattle.nv_workers.specs.declared.follows.Next.{Next}
use Rattle.nv_workers.specs.declared.follows.Next.TheVariants.{Moved, Ahead, Waits, Leads, Hands, Leaves, Left}
use Rattle.nv_workers.specs.declared.worker.Seat.{Seat}
use Rattle.nv_workers.specs.declared.worker.Seat.TheVariants.{Reading, Leading, Gone, Moving}
use Rattle.nv_workers.specs.Follows.{AfterTurn, HasGrown, IsIdle}
use Rattle.nv_workers.specs.inner.Leads.{AfterLead, HasPublished, IsLate}
use Rattle.nv_workers.specs.Worker.{WorksAt, IsGone, TookLead}
use Rattle.nv_workers.specs.inner.Stepping.{IsReadingSeat, AfterStep, StepTells}
use Rattle.nv_workers.proofs.Reading.{has_ended, follows_fate}
use Rattle.nv_workers.proofs.Serving.{leads_fate}

module _ (judges : ℕ → Judge) {K : Type 0} {G : Ghosts K} (room : Room K) (most : ℕ) (p : Proc) (v : Running Proc) where
  pub after_read : (r : Reader K G) (held : Bool) (buf : List ℕ) (next : Next) → AfterTurn judges room most p v r held buf next
      → AfterStep judges room p v most buf (Reading r held) next
  after_read r held buf Moved a = (a, λ g. g)
  after_read r held buf Ahead a = (a, λ g. g)
  after_read r held buf Waits a = (a, λ g. g)
  after_read r held buf Leads a = a
  after_read r held buf Hands a = absurd a
  after_read r held buf Leaves a = a
  after_read r held buf Left a = absurd a

  pub tells_read : (old : Running Proc) (r r2 : Reader K G) (held held2 : Bool) (buf : List ℕ) (next : Next) → AfterTurn judges room most p v r2 held2 buf next
      → HasGrown (view r) (view r2) old v next → IsIdle (view r) (view r2) next → StepTells room next old v (Reading r held) (Reading r2 held2)
  tells_read old r r2 held held2 buf Moved a grown idle = (grown, follows_fate a)
  tells_read old r r2 held held2 buf Ahead a grown idle = (idle, follows_fate a)
  tells_read old r r2 held held2 buf Waits a grown idle = (idle, follows_fate a)
  tells_read old r r2 held held2 buf Leads a grown idle = tt
  tells_read old r r2 held held2 buf Hands a grown idle = absurd a
  tells_read old r r2 held held2 buf Leaves a grown idle = has_ended a.1
  tells_read old r r2 held held2 buf Left a grown idle = absurd a

  pub tells_lead : (old : Running Proc) (l l2 : Lead K G) (asked asked2 : Option ℕ) (next : Next) → AfterLead judges room most p v l2 asked2 next
      → HasPublished (lead_view l) (lead_view l2) next → IsLate room l l2 next → StepTells room next old v (Leading l asked) (Leading l2 asked2)
  tells_lead old l l2 asked asked2 Moved a published late = (inl published, leads_fate a)
  tells_lead old l l2 asked asked2 Ahead a published late = absurd a
  tells_lead old l l2 asked asked2 Waits a published late = (late, leads_fate a)
  tells_lead old l l2 asked asked2 Leads a published late = absurd a
  tells_lead old l l2 asked asked2 Hands a published late = (published, leads_fate a.0)
  tells_lead old l l2 asked asked2 Leaves a published late = has_ended a.2
  tells_lead old l l2 asked asked2 Left a published late = absurd a

  pub gone_ended : (buf : List ℕ) (s : Seat K G) → WorksAt judges room most p v buf s → IsGone s → is_going v.at.fate ≡ false
  gone_ended buf (Reading r held) w g = absurd g
  gone_ended buf (Leading l asked) w g = absurd g
  gone_ended buf (Gone l) w g = has_ended w.1
  gone_ended buf Moving w g = absurd g

module _ {K : Type 0} {G : Ghosts K} where
  pub took_from : (s s2 t : Seat K G) → IsReadingSeat s → TookLead s2 t → TookLead s t
  took_from (Reading r held) (Reading r2 held2) (Leading l asked) a b = tt
  took_from (Reading r held) (Reading r2 held2) (Reading r3 held3) a b = absurd b
  took_from (Reading r held) (Reading r2 held2) (Gone l) a b = absurd b
  took_from (Reading r held) (Reading r2 held2) Moving a b = absurd b
  took_from (Reading r held) (Leading l asked) t a b = absurd b
  took_from (Reading r held) (Gone l) t a b = absurd b
  took_from (Reading r held) Moving t a b = absurd b
  took_from (Leading l asked) s2 t a b = absurd a
  took_from (Gone l) s2 t a b = absurd a
  took_from Moving s2 t a b = absurd a

  pub took_stays : (s t : Seat K G) → TookLead s t → ¬ IsGone t
  took_stays (Reading r held) (Leading l asked) a g = g
  took_stays (Reading r held) (Reading r2 held2) a g = g
  took_stays (Reading r held) (Gone l) a g = a
  took_stays (Reading r held) Moving a g = g
  took_stays (Leading l asked) t a g = a
  took_stays (Gone l) t a g = a
  took_stays Moving t a g = a
