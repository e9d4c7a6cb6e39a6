-- What is said of what a call did, and how it is let go.
use Rattle.std.specs.Prelude.{ℕ, List, [], ◌∷◌, take, length, slice_set}
use Rattle.nv_script.specs.Doings as doings
use Rattle.nv_script.specs.Doings.{Said}
use Rattle.nv_sockets.specs.declared.did.Did.{Did}
use Rattle.nv_sockets.specs.declared.did.Did.TheVariants.{Nothing, Accepted, Sent, Closed, Printed}
use Rattle.nv_sockets.specs.Reserved.{Buffered}
use Rattle.nv_sockets.specs.Sockets.{link_output}
use Rattle.nv_arriving.specs.Doings.{of_bytes}

-- what is said of a call that handed in these bytes
abbrev pub said_of : Did → List ℕ → List Said
said_of Nothing bytes = []
said_of (Accepted i) bytes = doings.Accepted i ∷ []
said_of (Sent i n) bytes = of_bytes (doings.Sent i) (take n bytes)
said_of (Closed i) bytes = doings.Closed i ∷ []
said_of (Printed n) bytes = of_bytes doings.Printed (take n bytes)

-- how much of what was written to each connection was let go, once that is which a call sent or closed
abbrev pub settled : Buffered → Did → List ℕ
settled w Nothing = w.held.gone
settled w (Accepted i) = w.held.gone
settled w (Sent i n) = slice_set w.held.gone i (length (link_output w.net i))
settled w (Closed i) = slice_set w.held.gone i (length (link_output w.net i))
settled w (Printed n) = w.held.gone
