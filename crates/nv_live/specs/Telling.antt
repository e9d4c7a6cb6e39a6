-- What an outside tells of itself as plain data.
use Rattle.std.specs.Prelude.{ℕ, Bool, List, Option}
use Rattle.std.specs.Coded.{Coded, codes}
use Rattle.nv_script.specs.Order.{Came}
use Rattle.nv_outside.specs.Sink.{Put}
use Rattle.nv_live.specs.declared.incoming.Stopped.{Stopped}
use Rattle.nv_live.specs.Source.{Moment}

-- of one that tells nothing
pub nothing_code : Coded (Unit {0})
nothing_code = hlevel codes

-- Of a live run: whether its streams have lines of clients; what each read gave, how things stood at each, what is held of it, what has come by whole lines, whether a line `hand` is among them that waits, and why no more is read;
-- the lengths at which leaders hand over, of its script and of such lines;
-- what was said and what was noted, each with whether all of it was written; and how often each of the three has failed.
pub record Told : Type 0 where
  pub clients : Bool
  pub read : Option (List (List ℕ))
  pub unread : ℕ
  pub moments : Option (List Moment)
  pub held : List ℕ
  pub line : List ℕ
  pub order : Came
  pub taken : ℕ
  pub asked : Bool
  pub stopped : Option Stopped
  pub hands : List ℕ
  pub said : Option (List ℕ)
  pub unsaid : ℕ
  pub saying : Put
  pub noted : Option (List ℕ)
  pub unnoted : ℕ
  pub noting : Put

pub told_code : Coded Told
told_code = hlevel codes
