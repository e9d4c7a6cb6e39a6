-- What callers see of a version's fields.
use Rattle.nv_threads.specs.Threads.{Proc}
use Rattle.nv_replay.specs.declared.version.Version.TheInside.{Inside}
use Rattle.nv_replay.specs.Version.{Running}

abbrev pub running_of : Inside → Running Proc
running_of v = record {
  index = v.index;
  at = record {
    process = v.process.process;
    seen = v.standing.seen;
    rewrites = v.standing.rewrites;
    fate = v.standing.fate;
  };
  led = v.standing.led;
  leading = v.leading;
  asked = v.asked;
  eager = v.process.eager;
}
