-- The part of a report that says what was written to each connection.
use Rattle.std.specs.Prelude.{ℕ, ◌+◌, ◌==◌, List, [], ◌∷◌, ◌++◌, length, codes, if◌then◌else◌}
use Rattle.std.specs.Fmt.{decimal}
use Rattle.std.specs.List.{concat}
use Rattle.nv_calls.specs.Logs.{Written}

-- how many connections there are
abbrev pub connection_count_text : ℕ → List ℕ
connection_count_text connections = concat (codes "connections " ∷ decimal connections ∷ codes "\n" ∷ [])

-- its number and its port, how many bytes were written to it, and these bytes
abbrev pub connection_text : ℕ → Written → List ℕ
connection_text i w =
    concat (codes "connection " ∷ decimal i ∷ codes " " ∷ decimal w.port ∷ codes " " ∷ decimal (length w.bytes) ∷ codes "\n" ∷ w.bytes ∷ codes "\n" ∷ [])

-- from a number on
abbrev pub connection_texts : ℕ → List Written → List ℕ
connection_texts i [] = []
connection_texts i (w ∷ ws) = connection_text i w ++ connection_texts (i + 1) ws

-- nothing, where there is no connection
abbrev pub connections_text : List Written → List ℕ
connections_text connections = if length connections == 0 then [] else (connection_count_text (length connections) ++ connection_texts 0 connections)
