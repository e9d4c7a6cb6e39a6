-- In how many turns a version may still go on while it waits.
use Rattle.std.specs.Prelude.{◌≡◌, ◌<◌, ℕ}
use Rattle.nv_threads.specs.Ahead.{MayGoAhead}
use Rattle.nv_threads.specs.Threads.{Proc}
use Rattle.nv_replay.specs.Version.{Running, known_of}
use Rattle.nv_workers.specs.declared.follows.Next.{Next}
use Rattle.nv_workers.specs.declared.follows.Next.TheVariants.{Moved, Ahead, Waits, Leads, Hands, Leaves, Left}

abbrev pub HasSpared : ℕ → ℕ → Next → Type 0
HasSpared old new Moved = new ≡ old
HasSpared old new Ahead = new < old
HasSpared old new Waits = new ≡ old
HasSpared old new Leads = new ≡ old
HasSpared old new Hands = new ≡ old
HasSpared old new Leaves = new ≡ old
HasSpared old new Left = new ≡ old

abbrev pub MayBeAhead : Next → Running Proc → Type 0
MayBeAhead Moved v = Unit {0}
MayBeAhead Ahead v = MayGoAhead (known_of v)
MayBeAhead Waits v = Unit {0}
MayBeAhead Leads v = Unit {0}
MayBeAhead Hands v = Unit {0}
MayBeAhead Leaves v = Unit {0}
MayBeAhead Left v = Unit {0}
