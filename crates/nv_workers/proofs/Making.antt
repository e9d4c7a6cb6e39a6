-- Workers as they are made.
use Rattle.std.proofs.Common.{◌≡◌, refl, ℕ, ◌+◌, ◌-◌, ◌*◌, ◌≤◌, List, length, false, None, arith}
use Rattle.nv_calls.specs.Limits.{MOST_EVENTS}
use Rattle.nv_calls.specs.declared.kernel.SyscallKernel.{Ghosts}
use Rattle.nv_room.specs.declared.room.Reader.{Reader}
use Rattle.nv_room.specs.declared.room.Lead.{Lead}
use Rattle.nv_room.specs.Seats.{version_of_reader, view, lead_view}
use Rattle.nv_threads.specs.Threads.{Proc, threads}
use Rattle.nv_replay.specs.Version.{Running, IsFresh}
use Rattle.nv_replay.specs.Rewrites.{MOST_REWRITES}
use Rattle.nv_replay.specs.Account.{with_span}
use Rattle.nv_workers.specs.declared.worker.Seat.TheVariants.{Reading, Leading}
use Rattle.nv_workers.specs.Staffing.{LeadsAnew, ReadsAnew}
use Rattle.nv_workers.specs.Measure.{MOST_AHEAD, MOST_TURNS}
use Rattle.nv_workers.proofs.Moving.{fresh_leads, fresh_follows}

-- of numbers alone: events seen, rewrites and the seat's part
few_at : (s r l : ℕ) → l ≤ 2 → 2 * (MOST_EVENTS - s) + (MOST_REWRITES - r) + MOST_AHEAD + l ≤ MOST_TURNS
few_at s r l few = omega arith

module _ {K : Type 0} {G : Ghosts K} where
  pub leads_anew : (v new : Running Proc) (l : Lead K G) (buf : List ℕ) → IsFresh threads 0 v → new ≡ with_span v v.at.seen
      → LeadsAnew v l (record { version = new; seat = Leading l None; buf = buf; spare = MOST_AHEAD })
  leads_anew v new l buf f k = λ room m. record {
    fresh = f;
    version = m.fresh.version;
    works = λ judges most. fresh_leads judges room most v l new f m.fresh m.log k;
    few = few_at (length (lead_view l).seen) new.at.rewrites 1 (omega arith);
  }

  pub reads_anew : (v : Running Proc) (r : Reader K G) (buf : List ℕ) → IsFresh threads (version_of_reader r) v
      → ReadsAnew v r (record { version = v; seat = Reading r false; buf = buf; spare = MOST_AHEAD })
  reads_anew v r buf f = λ room m. record {
    fresh = f;
    version = refl;
    works = λ judges most. fresh_follows judges room most v (version_of_reader r) r buf f m;
    few = few_at (length (view r).seen) v.at.rewrites 2 (omega arith);
  }
