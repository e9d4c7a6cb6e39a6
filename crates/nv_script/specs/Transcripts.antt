-- The text of a script, and of what came after it.
use Rattle.std.specs.Prelude.{◌≡◌, ℕ, Bool, not, ◌&&◌, List, ◌++◌, Ok, codes}
use Rattle.nv_bytes.specs.Fields.{first_word}
use Rattle.std.specs.List.{flat_map}
use Rattle.nv_script.specs.Arrivals.{Arrival}
use Rattle.nv_script.specs.Reading.{is_word as is_arrival_word}
use Rattle.nv_script.specs.Writing.{line_text}
use Rattle.nv_script.specs.Entry.{is_passed_over}
use Rattle.nv_script.specs.Scripts.{Setup, script_of}

-- the lines of arrivals, each with its newline
abbrev pub lines_of : List Arrival → List ℕ
lines_of arrivals = flat_map (λ a. line_text a ++ codes "\n") arrivals

-- what more comes
abbrev pub continued_by : List Arrival → Setup → Setup
continued_by arrivals setup = record setup { arrivals = setup.arrivals ++ arrivals }

-- a script of the fifth form that says this, and whose last line has its newline
pub record IsTranscript (text : List ℕ) (setup : Setup) : Type 0 where
  -- what stands after the first line
  pub body : List ℕ
  pub begins : text ≡ codes "varan-script 5\n" ++ body
  -- what stands before the last newline
  pub front : List ℕ
  pub ends : text ≡ front ++ codes "\n"
  pub says : script_of text ≡ Ok setup

-- a line that begins with a word of an arrival's
abbrev pub says_what_comes : List ℕ → Bool
says_what_comes line = not (is_passed_over line) && is_arrival_word (first_word line)
