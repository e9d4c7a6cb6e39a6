-- The code's values as the definitions see them.
use Rattle.std.specs.Prelude.{ℕ, map, vec_capacity}
use Rattle.std.specs.Global.{Vec}
use Rattle.nv_calls.specs.Logs.{Written}
use Rattle.nv_script.specs.Scripts.{Incoming}
use Rattle.nv_sockets.specs.declared.connection.Connection.{Connection}
use Rattle.nv_sockets.specs.declared.sockets.Sockets.TheInside.{Inside}
use Rattle.nv_sockets.specs.Sockets.{Link, Net}
use Rattle.nv_sockets.specs.Inboxes.{inbox_in, promised_in}
use Rattle.nv_sockets.specs.Reserved.{Held, Buffered}

abbrev pub link_of : Connection → Link
link_of c = record { port = c.port; inbox = inbox_in c.inbox; output = c.output.items }

abbrev pub capacity_of : Connection → ℕ
capacity_of c = c.output.most

abbrev pub gone_of : Connection → ℕ
gone_of c = c.output.gone

-- what memory was taken for; nothing where it is closed
abbrev pub promised_of : Connection → ℕ
promised_of c = promised_in c.inbox

abbrev pub written_of : Connection → Written
written_of c = record { port = c.port; bytes = c.output.items }

-- a connection of a script, as lists
abbrev pub incoming_of : ℕ × Vec ℕ → Incoming
incoming_of c = (c.0, c.1.items)

abbrev pub net_of : Inside → Net
net_of s = record { sockets = s.sockets.items; waiting = s.waiting.items; links = map link_of s.connections.items; limit = s.limit }

abbrev pub held_of : Inside → Held
held_of s = record { there = s.connections.numbers; gone = map gone_of s.connections.items }

abbrev pub buffered_of : Inside → Buffered
buffered_of s = record {
  net = net_of s;
  held = held_of s;
  buffers = map capacity_of s.connections.items;
  promised = map promised_of s.connections.items;
  places = s.connections.most;
  waits = vec_capacity s.waiting;
}
