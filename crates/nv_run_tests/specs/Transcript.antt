-- A transcript of what was done outside, as text: what was taken behind a <, and what was said behind a >.
use Rattle.std.specs.Prelude.{◌≡◌, ◌+◌, ◌%◌, ℕ, false, List, [], ◌∷◌, ◌++◌}
use Rattle.nv_script.specs.Arrivals.{Arrival, Input, InputEnd, ClientsEnd, Connect, Data, End, Time}
use Rattle.nv_script.specs.Doings.{Said, Accepted, Sent, Closed, Printed, Doing, Takes, Says, Hands}
use Rattle.nv_run_tests.specs.declared.transcript.Transcript.{Transcript}

-- the last digit of a client's number
abbrev pub digit_of : ℕ → ℕ
digit_of i = 48 + i % 10

-- <bytes, <., <-, <+, <0:bytes, <0. and <@
abbrev pub taken_text : Arrival → List ℕ
taken_text (Input bytes) = 60 ∷ bytes
taken_text InputEnd = 60 ∷ 46 ∷ []
taken_text ClientsEnd = 60 ∷ 45 ∷ []
taken_text (Connect port) = 60 ∷ 43 ∷ []
taken_text (Data i bytes) = 60 ∷ digit_of i ∷ 58 ∷ bytes
taken_text (End i) = 60 ∷ digit_of i ∷ 46 ∷ []
taken_text (Time seconds nanos) = 60 ∷ 64 ∷ []

-- >+0, >0:bytes, >-0 and >bytes
abbrev pub said_text : Said → List ℕ
said_text (Accepted i) = 62 ∷ 43 ∷ digit_of i ∷ []
said_text (Sent i bytes) = 62 ∷ digit_of i ∷ 58 ∷ bytes
said_text (Closed i) = 62 ∷ 45 ∷ digit_of i ∷ []
said_text (Printed bytes) = 62 ∷ bytes

abbrev pub text_of : List Doing → List ℕ
text_of [] = []
text_of (Takes a ∷ xs) = taken_text a ++ text_of xs
text_of (Says s ∷ xs) = said_text s ++ text_of xs
text_of (Hands n ∷ xs) = text_of xs

-- where no memory was wanted, just this was written from one to the other
abbrev pub Wrote : Transcript → Transcript → List Doing → Type 0
Wrote first now done = now.lost ≡ false → now.text.items ≡ first.text.items ++ text_of done
