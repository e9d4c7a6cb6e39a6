-- What comes as lines.
use Rattle.std.specs.Prelude.{◌≡◌, ◌≤◌, ◌<◌, ◌+◌, ◌==◌, ◌||◌, ◌⊎◌, not, nat_le, bytes_eq, ℕ, Bool, true, false, List, [], ◌∷◌, ◌++◌, Option, Some, None, Result, Ok, Err, length, map, filter, codes, count_by, if◌then◌else◌}
use Rattle.std.specs.List.{concat, flat_map, list_all, list_any}
use Rattle.nv_bytes.specs.Lines.{line_number}
use Rattle.nv_script.specs.Arrivals.{Arrival, is_arrival}
use Rattle.nv_script.specs.declared.arrival.ArrivalCause.{ArrivalCause}
use Rattle.nv_script.specs.declared.arrival.ArrivalCause.TheVariants.{Long}
use Rattle.nv_script.specs.Order.{Came, most_clients, nothing_came, admitted, after}
use Rattle.nv_script.specs.Reading.{arrival_of}
use Rattle.nv_live.specs.declared.source.Read.{Read}
use Rattle.nv_live.specs.declared.source.Read.TheVariants.{Count, Failed}
use Rattle.nv_live.specs.declared.incoming.Stopped.{Stopped}
use Rattle.nv_live.specs.declared.incoming.Stopped.TheVariants.{Ended, Unreadable, Unwritten, Refused, CutOff}
use Rattle.nv_live.specs.declared.buffer.Buffer.{Buffer}
use Rattle.nv_live.specs.declared.coming_lines.ComingLines.{ComingLines}
use Rattle.nv_live.specs.Buffer.{held_in}
use Rattle.nv_live.specs.Source.{Gave, Moment, Asked}
use Rattle.nv_live.specs.Taking.{faults_by_stop}

-- ---- the lines and what they say

abbrev pub is_plain : ℕ → Bool
is_plain b = not (b == 10)

-- an empty line or one that begins with `#`
abbrev pub is_comment : List ℕ → Bool
is_comment [] = true
is_comment (b ∷ bs) = b == 35

-- an operator's word: the leader is to give up the lead
abbrev pub is_hand : List ℕ → Bool
is_hand line = bytes_eq line (codes "hand")

-- it says nothing of what comes
abbrev pub is_passed : List ℕ → Bool
is_passed line = is_comment line || is_hand line

abbrev pub says : List ℕ → Bool
says line = not (is_passed line)

-- each with its newline, one after another
abbrev pub text_of : List (List ℕ) → List ℕ
text_of lines = flat_map (λ line. line ++ codes "\n") lines

-- the lines that say something say just these arrivals, in order
abbrev pub Say : List (List ℕ) → List Arrival → Type 0
Say lines arrivals = map arrival_of (filter says lines) ≡ map Ok arrivals

-- why nothing more comes after a read, where so many lines were taken and so many bytes of the next are held: a last line without its newline is cut off
abbrev pub stop_by_end : Read → ℕ → ℕ → Option Stopped
stop_by_end (Count count) taken held = if count == 0 then (if held == 0 then Some Ended else Some (CutOff (line_number taken))) else None
stop_by_end Failed taken held = Some Unreadable

-- ---- why nothing more comes

-- a line's newline stands at the beginning of what is held
abbrev pub IsWhole : List ℕ → Type 0
IsWhole held = (rest : List ℕ) × (held ≡ 10 ∷ rest)

-- a line that has 4,096 bytes before its newline, or that comes after as many lines as can be counted
abbrev pub is_beyond : List ℕ → ℕ → Bool
is_beyond line taken = nat_le 4096 (length line) || (taken == 18446744073709551615)

abbrev pub cause_next : Result Came ArrivalCause → Option ArrivalCause
cause_next (Ok came) = None
cause_next (Err c) = Some c

-- the first cause of those that a line has by itself, or else why its arrival may not come next
abbrev pub cause_by : Result Arrival ArrivalCause → Came → Option ArrivalCause
cause_by (Err c) came = Some c
cause_by (Ok a) came = cause_next (admitted a came)

-- this line, the next one, is refused for this: it is beyond those limits, or it is whole, says something of what comes, and has this first cause
abbrev pub IsRefused : List ℕ → List ℕ → Came → ℕ → ArrivalCause → Type 0
IsRefused line held came taken c =
    ((is_beyond line taken ≡ true) × (c ≡ Long)) ⊎ (IsWhole held × (is_passed line ≡ false) × (cause_by (arrival_of line) came ≡ Some c))

-- A line that is refused or cut off is the one after those that were taken; one that is cut off has begun. Behind that, and after a read that failed, nothing is held. No write stops what is read here.
abbrev pub StopsAt : Option Stopped → List ℕ → List ℕ → Came → ℕ → Type 0
StopsAt (Some (Refused n c)) line held came taken = (n ≡ line_number taken) × IsRefused line held came taken c
StopsAt (Some (CutOff n)) line held came taken = (n ≡ line_number taken) × (0 < length line) × (held ≡ [])
StopsAt (Some Unwritten) line held came taken = ⊥
StopsAt (Some Ended) line held came taken = Unit {0}
StopsAt (Some Unreadable) line held came taken = held ≡ []
StopsAt None line held came taken = Unit {0}

-- ---- what has come

-- The bytes of the reads, joined, are the lines so far and then what is held; these lines say the arrivals, each of which may come after those before it.
-- The leader handed over so often for lines `hand`, at most once for each, and was asked for it since or wasn't.
pub record Come (before now : Option (List (List ℕ))) (faults later_faults : ℕ) (stopped : Option Stopped) (line held : List ℕ) (came : Came) (taken : ℕ) (asked : Bool) (handed : ℕ) (arrivals : List Arrival) : Type 0 where
  pub reads : List (List ℕ)
  pub lines : List (List ℕ)
  pub gave : Gave before reads now
  pub joined : concat reads ≡ text_of lines ++ (line ++ held)
  pub plain : list_all (λ l. list_all is_plain l) (lines ++ line ∷ []) ≡ true
  pub said : Say lines arrivals
  pub limits : list_all is_arrival arrivals ≡ true
  pub orderly : after arrivals (nothing_came (most_clients true)) ≡ Ok came
  pub numbered : taken ≡ length lines
  -- those before it last handed over, and those since
  pub earlier : List (List ℕ)
  pub since : List (List ℕ)
  pub parted : lines ≡ earlier ++ since
  pub words : handed ≤ count_by is_hand earlier
  pub asks : asked ≡ list_any is_hand since
  pub counted : later_faults ≡ faults_by_stop stopped faults
  pub stops : StopsAt stopped line held came taken
  -- at the end the last read gave nothing, and nothing is held
  pub ended : stopped ≡ Some Ended → ((earlier : List (List ℕ)) × (reads ≡ earlier ++ [] ∷ [])) × (line ++ held ≡ [])

abbrev pub source_from : {I : Type 0} → ComingLines I → I
source_from coming = coming.source

abbrev pub buffer_from : {I : Type 0} → ComingLines I → Buffer
buffer_from coming = coming.buffer

abbrev pub held_from : {I : Type 0} → ComingLines I → List ℕ
held_from coming = held_in coming.buffer

abbrev pub line_from : {I : Type 0} → ComingLines I → List ℕ
line_from coming = coming.line.items

abbrev pub order_from : {I : Type 0} → ComingLines I → Came
order_from coming = coming.order

abbrev pub taken_from : {I : Type 0} → ComingLines I → ℕ
taken_from coming = coming.taken

abbrev pub asked_from : {I : Type 0} → ComingLines I → Bool
asked_from coming = coming.asked

abbrev pub stop_from : {I : Type 0} → ComingLines I → Option Stopped
stop_from coming = coming.stopped

-- between these two these arrivals have come, and the leader handed over so often; the first two tell what a source gave and how often it failed
abbrev pub HasCome : {I : Type 0} → (I → Option (List (List ℕ))) → (I → ℕ) → ComingLines I → ComingLines I → List Arrival → ℕ → Type 0
HasCome took faults first later arrivals handed =
    Come (took first.source) (took later.source) (faults first.source) (faults later.source) later.stopped later.line.items (held_in later.buffer) later.order later.taken later.asked handed arrivals

-- whatever arrivals had come before, these have come then
abbrev pub ComesOn : {I : Type 0} → (I → Option (List (List ℕ))) → (I → ℕ) → ComingLines I → ComingLines I → (List Arrival → List Arrival) → Type 0
ComesOn took faults old new then_come = (first : ComingLines _) (arrivals : List Arrival) (handed : ℕ)
    → HasCome took faults first old arrivals handed → HasCome took faults first new (then_come arrivals) handed

-- whatever had come before, the leader has handed over once more then
abbrev pub HandsOn : {I : Type 0} → (I → Option (List (List ℕ))) → (I → ℕ) → ComingLines I → ComingLines I → Type 0
HandsOn took faults old new = (first : ComingLines _) (arrivals : List Arrival) (handed : ℕ)
    → HasCome took faults first old arrivals handed → HasCome took faults first new arrivals (handed + 1)

-- the source was asked for more at most at this moment, and only where nothing was held behind the line that comes and something could come
abbrev pub AskedOnce : {I : Type 0} → (I → Option (List Moment)) → ComingLines I → ComingLines I → Moment → Type 0
AskedOnce moments old new moment = Asked (moments old.source) (moments new.source) (λ m. (m ≡ moment) × (held_in old.buffer ≡ []) × (old.stopped ≡ None))

-- The source was asked for more only where no arrival had come since, nothing was held behind the line that comes, and something could come; the last tells how things stood then.
abbrev pub AskedOn : {I : Type 0} → (I → Option (List (List ℕ))) → (I → ℕ) → (I → Option (List Moment)) → ComingLines I → ComingLines I → (I → Moment) → Type 0
AskedOn took faults moments old new stood = Asked (moments old.source) (moments new.source)
    (λ m. (mid : ComingLines _) × ComesOn took faults old mid (λ arrivals. arrivals) × (held_in mid.buffer ≡ []) × (mid.stopped ≡ None) × (m ≡ stood mid.source))
