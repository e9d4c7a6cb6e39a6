-- The transcript: the lines of what came, and of where the leader gave up the lead at an operator's word.
use Rattle.std.specs.Prelude.{ℕ, List, [], ◌++◌, codes}
use Rattle.std.specs.List.{flat_map}
use Rattle.nv_script.specs.Arrivals.{Arrival}
use Rattle.nv_script.specs.Doings.{Doing, Takes, Says, Hands, takings, handings}
use Rattle.nv_script.specs.Writing.{line_text}
use Rattle.nv_live.specs.declared.transcript.Transcript.{Transcript}
use Rattle.nv_live.specs.declared.writer.Writer.{Writer}
use Rattle.nv_script.specs.HandLines.{hand_line}
use Rattle.nv_script.specs.Scripts.{Setup}

-- the lines of arrivals, one after another
abbrev pub lines_of : List Arrival → List ℕ
lines_of arrivals = flat_map (λ arrival. line_text arrival ++ codes "\n") arrivals

-- the line of a hand-over at this length of the log, with its newline
abbrev pub hand_text : ℕ → List ℕ
hand_text length = hand_line length ++ codes "\n"

-- what the transcript has of a thing that was done
abbrev pub note_of : Doing → List ℕ
note_of (Takes arrival) = line_text arrival ++ codes "\n"
note_of (Says said) = []
note_of (Hands length) = hand_text length

-- what it has of all that was done, in order
abbrev pub notes_on : List Doing → List ℕ
notes_on done = flat_map note_of done

-- what the script says with these notes behind it
abbrev pub continued_with : List Doing → Setup → Setup
continued_with done setup = record setup { arrivals = setup.arrivals ++ takings done; hands = setup.hands ++ handings done }

-- what its lines are written by
abbrev pub writer_in : {T : Type 0} → Transcript T → Writer T
writer_in transcript = transcript.writer

-- the line that is ready
abbrev pub text_in : {T : Type 0} → Transcript T → List ℕ
text_in transcript = transcript.text.items
