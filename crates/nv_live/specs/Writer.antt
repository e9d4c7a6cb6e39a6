-- A sink, as what was written into it.
use Rattle.std.specs.Prelude.{ℕ, List, ◌++◌, Option}
use Rattle.nv_outside.specs.Sink.{Put, Puts}
use Rattle.nv_live.specs.declared.writer.Writer.{Writer}

abbrev pub sink_in : {S : Type 0} → Writer S → S
sink_in writer = writer.sink

-- whether all was written, or a write has failed
abbrev pub put_of : {S : Type 0} → Writer S → Put
put_of writer = writer.put

-- between these two the text was written, or a prefix of it up to the write that failed; the first two tell what a sink has and how often it failed
abbrev pub Written : {S : Type 0} → (S → Option (List ℕ)) → (S → ℕ) → Writer S → Writer S → List ℕ → Type 0
Written told faults first later text = Puts (told first.sink) (faults first.sink) text later.put (told later.sink) (faults later.sink)

-- whatever was written before, this text is written then
abbrev pub WritesOn : {S : Type 0} → (S → Option (List ℕ)) → (S → ℕ) → Writer S → Writer S → List ℕ → Type 0
WritesOn told faults old new text = (first : Writer _) (earlier : List ℕ) → Written told faults first old earlier → Written told faults first new (earlier ++ text)
