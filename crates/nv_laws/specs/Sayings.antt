-- The bytes of what a run says, for each connection, and those that a report has.
use Rattle.std.specs.Prelude.{ℕ, ◌==◌, List, [], slice_index_or, if◌then◌else◌}
use Rattle.std.specs.List.{flat_map}
use Rattle.nv_calls.specs.Logs.{Written}
use Rattle.nv_script.specs.Doings.{Said, Accepted, Sent, Closed, Printed}

-- the bytes of this for connection j
abbrev pub sent_bytes : ℕ → Said → List ℕ
sent_bytes j (Sent i bytes) = if i == j then bytes else []
sent_bytes j (Accepted i) = []
sent_bytes j (Closed i) = []
sent_bytes j (Printed bytes) = []

abbrev pub sent_text : ℕ → List Said → List ℕ
sent_text j said = flat_map (sent_bytes j) said

-- what was written to connection j; nothing where there is none
abbrev pub written_at : List Written → ℕ → List ℕ
written_at connections j = (slice_index_or connections j record { port = 0; bytes = [] }).bytes
