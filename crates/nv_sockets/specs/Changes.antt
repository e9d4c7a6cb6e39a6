-- One connection of those that are there, and another in its place.
use Rattle.std.specs.Prelude.{◌≡◌, ℕ, ◌<◌, length, slice_index, slice_set}
use Rattle.nv_sockets.specs.declared.connection.Connection.{Connection}
use Rattle.nv_sockets.specs.Sockets.{link_at, with_link}
use Rattle.nv_sockets.specs.Reserved.{Buffered}
use Rattle.nv_sockets.specs.Views.{link_of, gone_of, capacity_of, promised_of}

-- the connection of this number is at this place of those that are there
pub record IsAt (w : Buffered) (p i : ℕ) : Type 0 where
  pub place : p < length w.held.there
  pub number : slice_index w.held.there p ≡ i
  pub link : i < length w.net.links
  pub gone : i < length w.held.gone
  pub buffer : i < length w.buffers
  pub promise : i < length w.promised

-- it is this one
pub record IsLink (w : Buffered) (i : ℕ) (c : Connection) : Type 0 where
  pub link : link_of c ≡ link_at w.net i
  pub gone : gone_of c ≡ slice_index w.held.gone i
  pub buffer : capacity_of c ≡ slice_index w.buffers i
  pub promise : promised_of c ≡ slice_index w.promised i

-- this one is in its place
abbrev pub changed_at : Buffered → ℕ → Connection → Buffered
changed_at w i c = record w {
  net = with_link w.net i (link_of c);
  held = record w.held { gone = slice_set w.held.gone i (gone_of c) };
  buffers = slice_set w.buffers i (capacity_of c);
  promised = slice_set w.promised i (promised_of c);
}
