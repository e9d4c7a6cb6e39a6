-- What the room and the workers tell once all versions have ended.
use Rattle.std.specs.Prelude.{◌≡◌, ℕ, ◌+◌, ◌<◌, ◌≤◌, ◌⊎◌, Bool, true, false, List, [], ◌∷◌, ◌++◌, map, length, take, Option, Some, None, slice_get}
use mathlib.Core.Option.{some}
use lib.ListN.{get_elem?}
use Rattle.nv_calls.specs.Calls.{Entry}
use Rattle.nv_calls.specs.Logs.{Start}
use Rattle.nv_room.specs.declared.view.Span.{Span}
use Rattle.nv_room.specs.Planned.{asked_in}
use Rattle.nv_room.specs.Spans.{Tiles, Rising, of_version, IsLastStation, Opened}
use Rattle.nv_threads.specs.Behaviours.{Behaviour}
use Rattle.nv_replay.specs.declared.fate.Fate.{Fate}
use Rattle.nv_replay.specs.declared.fate.Fate.TheVariants.{LetGo}
use Rattle.nv_replay.specs.Settling.{stage}
use Rattle.nv_replay.specs.Follow.{Follower, Judge, fresh, IsInStep}
use Rattle.nv_replay.specs.Lead.{Leader, is_cut, cut_of}
use Rattle.nv_replay.specs.Tracks.{track_next, track}
use Rattle.nv_calls.specs.Hands.{has}
use Rattle.nv_replay.specs.Hands.{count_above, next_or_hand, lead_to_hand}
use Rattle.nv_replay.specs.Sequence.{is_going, cuts_of}
use Rattle.nv_replay.specs.Monitor.{sequence}
use Rattle.nv_replay.specs.Spans.{EndBy}
use Rattle.nv_replay.specs.Covers.{AreEnded, Covers}
use Rattle.nv_replay.specs.Survivors.{SurvivorsAgree}
use Rattle.nv_replay.specs.Version.{Running, leader_of, standing_of, process_of}

-- a state after any number of steps
pub record IsStage {S : Type 0} (step : S → S) (s t : S) : Type 0 where
  pub steps : ℕ
  pub is : stage step steps s ≡ t

-- a cut at which a leader with this end and so long a log can have come so far
pub record IsCutOf (c : Option ℕ) (f : Option Fate) (n : ℕ) : Type 0 where
  pub below : (k : ℕ) → k < n → is_cut c k ≡ false
  pub end : is_going f ≡ false → c ≡ cut_of f n

abbrev pub ends_of : Span → ℕ × ℕ
ends_of x = (x.from, x.to)

-- each of these spans ended with a hand-over
abbrev pub AreHandedOn : List Span → Type 0
AreHandedOn [] = Unit {0}
AreHandedOn (x ∷ xs) = (x.handed ≡ true) × AreHandedOn xs

-- what a Left tells: its station, its seen list, the words read of a further event, the spans that its version led
pub record Leaving : Type 0 where
  pub station : ℕ
  pub seen : List Entry
  pub words : List ℕ
  pub spans : List Span

-- no spelling begins with another's
pub record IsSpelling (fits : Entry → Type 0) (spell : Entry → List ℕ) : Type 0 where
  pub some : (e : Entry) → 0 < length (spell e)
  pub own : (d e : Entry) (more : List ℕ) → fits d → fits e → spell e ≡ spell d ++ more → d ≡ e

abbrev pub spelt : (Entry → List ℕ) → Option Entry → List ℕ
spelt spell None = []
spelt spell (Some e) = spell e

-- finish, of the kernel's history h and the Left of each of so many versions
pub record IsFinished (spell : Entry → List ℕ) (h : List Entry) (versions : ℕ) (left : ℕ → Leaving) : Type 0 where
  pub prefix : (k : ℕ) → k < versions → (rest : List Entry) × (h ≡ (left k).seen ++ rest)
  pub words : (k : ℕ) → k < versions → (more : List ℕ) × (spelt spell (slice_get h (length (left k).seen)) ≡ (left k).words ++ more)
  -- all spans, and the version of each station
  pub spans : List Span
  pub seating : List ℕ
  pub tile : Tiles 0 spans (length h)
  pub rise : Rising 0 spans
  pub made : (j : ℕ) (x : Span) → get_elem? spans j ≡ some x → get_elem? seating x.station ≡ some x.version
  pub first : (k : ℕ) → k < versions → get_elem? seating k ≡ some k
  pub opened : Opened versions seating spans
  pub led : (k : ℕ) → k < versions → (left k).spans ≡ of_version k spans
  pub last : (k : ℕ) → k < versions → IsLastStation seating k (left k).station
  pub before : (k : ℕ) → k < versions → (j : ℕ) (x : Span) → get_elem? spans j ≡ some x → (left k).station < x.station
      → (length (left k).seen ≤ x.from) × (0 < length (left k).words → length (left k).seen < x.from)

module _ {P : Type 0} (g : Behaviour P) (judges : ℕ → Judge) where
  -- version i, fresh with the process p, over this log, of which it led these parts
  abbrev pub version_tracked : ℕ → P → List (ℕ × ℕ) → List Entry → Follower P
  version_tracked i p led log = track g (judges i) led log (fresh p)

  -- it takes the lead of this log, in step with the whole of it
  pub record TakesLead (i : ℕ) (p : P) (led : List (ℕ × ℕ)) (log : List Entry) : Type 0 where
    pub on : (version_tracked i p led log).fate ≡ None
    pub seen : (version_tracked i p led log).seen ≡ length log
    pub in_step : IsInStep g log (version_tracked i p led log)

  -- version i where it takes the lead of this log
  abbrev pub leader_begun : ℕ → P → List (ℕ × ℕ) → List Entry → Leader P
  leader_begun i p led log = record { process = (version_tracked i p led log).process; log = log; fate = None }

module _ {P : Type 0} (g : Behaviour P) (judges : ℕ → Judge) (replies : Start) (most : ℕ) (hands : List ℕ) where
  -- after the parts that it led before, it led the log from one length to another, and there it gave up the lead
  pub record HandedOver (i : ℕ) (p : P) (led : List (ℕ × ℕ)) (from to : ℕ) (log : List Entry) : Type 0 where
    pub within : to ≤ length log
    pub grew : from < to
    pub planned : has hands to ≡ true
    pub takes : TakesLead g judges i p led (take from log)
    pub process : P
    pub lead : (c : Option ℕ) → IsCutOf c None to
        → lead_to_hand g replies most c hands from (leader_begun g judges i p led (take from log)) ≡ record { process = process; log = take to log; fate = None }

  -- so it led each of these parts
  abbrev pub AreHanded : ℕ → P → List (ℕ × ℕ) → List Entry → Type 0
  AreHanded i p led log = (prefix back : List (ℕ × ℕ)) (from to : ℕ) → led ≡ prefix ++ (from, to) ∷ back → HandedOver i p prefix from to log

-- between these lengths, and at neither of them, none was asked for
abbrev pub Gap : List ℕ → ℕ → ℕ → Type 0
Gap asked from to = (n : ℕ) → from < n → n < to → has asked n ≡ false

-- with the lengths that were asked for beside the planned ones, the lead is given up just where these parts end
abbrev pub AreGivenUp : List ℕ → List ℕ → List (ℕ × ℕ) → Type 0
AreGivenUp planned asked led = (prefix back : List (ℕ × ℕ)) (from to : ℕ) → led ≡ prefix ++ (from, to) ∷ back → from < to → Gap asked from to × (has (planned ++ asked) to ≡ true)

-- where leaders don't hand over on demand, none of these spans' hand-overs was asked for
abbrev pub AsPlanned : Bool → List ℕ → List Span → Type 0
AsPlanned on_demand planned xs = on_demand ≡ false → asked_in planned xs ≡ []

-- Leaders may hand over where no length is planned, too. What a worker keeps holds with whatever lengths were asked for beside the planned ones, as long as
-- its own parts are given up where they end.
module _ {P : Type 0} (g : Behaviour P) (judges : ℕ → Judge) (replies : Start) (most : ℕ) (planned : List ℕ) where
  -- so it led each of these parts
  abbrev pub AreHandedBy : ℕ → P → List (ℕ × ℕ) → List Entry → Type 0
  AreHandedBy i p led log = (asked : List ℕ) → AreGivenUp planned asked led → AreHanded g judges replies most (planned ++ asked) i p led log

  -- a version that has led from number `from` on, after the parts that it led before, with its seat's seen list: a worker keeps this
  -- while it leads, at each turn's end
  pub record HasLedFrom (i : ℕ) (p : P) (v : Running P) (led : List (ℕ × ℕ)) (from : ℕ) (log : List Entry) : Type 0 where
    pub index : v.index ≡ i
    pub handed : AreHandedBy i p led log
    pub past : EndBy from led
    pub few : length led + count_above planned from ≤ 8
    pub within : from ≤ length log
    pub takes : TakesLead g judges i p led (take from log)
    -- with none asked for since it took the lead; one that has its fate gave it up at no length
    pub stage : (asked : List ℕ) → Gap asked from (length log) → (is_going v.at.fate ≡ false → from < length log → has asked (length log) ≡ false) → (c : Option ℕ) → IsCutOf c v.at.fate (length log)
        → IsStage (next_or_hand g replies most c (planned ++ asked) from) (leader_begun g judges i p led (take from log)) (leader_of v log)
    pub rewrites : v.at.rewrites ≡ (version_tracked g judges i p led (take from log)).rewrites
    pub seen : v.at.seen ≡ length log
    pub span : v.led ≡ led ++ (from, length log) ∷ []
    pub leading : v.leading ≡ true
    pub in_step : IsInStep g log v.at

module _ {P : Type 0} (g : Behaviour P) (judges : ℕ → Judge) (replies : Start) (most : ℕ) (planned : List ℕ) (fits : Entry → Type 0) (spell : Entry → List ℕ) where
  -- a follower that was dropped at an event all of whose words its seat has read
  pub record IsDroppedAt (i : ℕ) (p : P) (v : Running P) (l : Leaving) : Type 0 where
    pub event : Entry
    pub fit : fits event
    pub words : l.words ≡ spell event
    pub stage : IsStage (track_next g (judges i) v.led (l.seen ++ event ∷ [])) (fresh p) v.at

  -- a follower that was let go at an event all of whose words its seat has read, and on which it decided nothing
  pub record IsLetGoAt (i : ℕ) (p : P) (v : Running P) (l : Leaving) : Type 0 where
    pub event : Entry
    pub fit : fits event
    pub words : l.words ≡ spell event
    pub before : Follower P
    pub on : before.fate ≡ None
    pub seen : before.seen ≡ length l.seen
    pub stage : IsStage (track_next g (judges i) v.led l.seen) (fresh p) before
    pub left : v.at ≡ record before { fate = Some LetGo }

  -- it ended as a follower
  pub record HasFollowed (i : ℕ) (p : P) (v : Running P) (l : Leaving) : Type 0 where
    pub idle : v.leading ≡ false
    pub handed_on : AreHandedOn l.spans
    pub handed : AreHandedBy g judges replies most planned i p v.led l.seen
    pub stage : IsStage (track_next g (judges i) v.led l.seen) (fresh p) v.at ⊎ (IsDroppedAt i p v l ⊎ IsLetGoAt i p v l)

  -- it ended as the leader
  pub record LeftWith (i : ℕ) (p : P) (v : Running P) (l : Leaving) : Type 0 where
    pub prefix : List Span
    pub last : Span
    pub spans : l.spans ≡ prefix ++ last ∷ []
    pub handed_on : AreHandedOn prefix
    pub kept : last.handed ≡ false
    pub station : last.station ≡ l.station
    pub led : HasLedFrom g judges replies most planned i p v (map ends_of prefix) last.from l.seen

  -- run_all, of version i, fresh with the process p before and v after, and its Left
  pub record HasRunAll (i : ℕ) (p : P) (v : Running P) (l : Leaving) : Type 0 where
    pub ended : is_going v.at.fate ≡ false
    pub count : v.at.seen ≡ length l.seen
    pub spans : v.led ≡ map ends_of l.spans
    pub told : HasFollowed i p v l ⊎ LeftWith i p v l

module _ {P : Type 0} (g : Behaviour P) (judges : ℕ → Judge) (start : Start) (most : ℕ) (hands : List ℕ) where
  -- the account of versions that ran beside each other: the log and the standings are those of the monitor that runs one at a time
  pub record IsAccount (olds news : List (Running P)) (log : List Entry) : Type 0 where
    pub account : record { log = log; lines = map standing_of news } ≡ sequence g judges start most (cuts_of (map standing_of news)) hands (map process_of olds)
    pub settled : AreEnded (map standing_of news)
    pub covers : Covers (map standing_of news) log
    pub survivor : SurvivorsAgree g start most hands (map process_of olds) (map standing_of news) log
