-- The operator's comments on a live run: lines of its transcript that begin with `#`, so that its script passes them over.
use Rattle.std.specs.Prelude.{ℕ, ◌+◌, ◌-◌, ◌/◌, Bool, true, false, ◌==◌, List, [], ◌∷◌, ◌++◌, Option, None, Some, option_map, if◌then◌else◌, codes}
use Rattle.std.specs.Fmt.{decimal}
use Rattle.std.specs.List.{concat, list_any}
use Rattle.nv_calls.specs.Calls.{Entry, entry}
use Rattle.nv_script.specs.Texts.{cause_word}
use Rattle.nv_script.specs.Entry.{cause_of}
use Rattle.nv_replay.specs.declared.fate.Fate.{Fate}
use Rattle.nv_replay.specs.declared.standing.Standing.{Standing}
use Rattle.nv_report.specs.Events.{event_text}
use Rattle.nv_report.specs.Versions.{fate_text}
use Rattle.nv_driver.specs.declared.ending.Ending.{Ending}
use Rattle.nv_driver.specs.declared.ending.Ending.TheVariants.{Finished, Unread, Refused, CutOff, Unsaid, Untold}
use Rattle.nv_driver.specs.declared.comments.Comment.{Comment}
use Rattle.nv_driver.specs.declared.comments.Comment.TheVariants as comment
use Rattle.nv_driver.specs.declared.commented.Commented.{Commented}
use Rattle.nv_driver.specs.declared.commented.Commented.TheVariants.{Nothing, Ends, Events}

pub data Note : Type 0 where
  -- a version ended so, after so many events
  Ended : ℕ → Fate → ℕ → Note
  -- a follower is let go, so many events behind the leader
  LetGo : ℕ → ℕ → Note
  -- a version leads from the event with this stamp on
  Leads : ℕ → ℕ → Note
  -- a rule decided for a follower, so often by now, and at this event
  Rewrites : ℕ → ℕ → Entry → Note
  -- so many calls are made, and at most so many will be
  Made : ℕ → ℕ → Note
  -- an event was served
  Served : Entry → Note
  -- the run ended, and so did its streams
  Stopped : Ending → Note

abbrev pub comment_view : Comment → Note
comment_view (comment.Ended version fate seen) = Ended version fate seen
comment_view (comment.LetGo version behind) = LetGo version behind
comment_view (comment.Leads version stamp) = Leads version stamp
comment_view (comment.Rewrites version rewrites event) = Rewrites version rewrites (entry event.now)
comment_view (comment.Made calls most) = Made calls most
comment_view (comment.Served event) = Served (entry event.now)
comment_view (comment.Stopped ending) = Stopped ending

-- the line of clients that ended the input, and why
abbrev pub input_text : ℕ → List ℕ → List ℕ
input_text line why = concat (codes "# varan: input standard input: line " ∷ decimal line ∷ codes " " ∷ why ∷ codes "\n" ∷ [])

-- why a stream failed; nothing where none did, and of the transcript nothing can be written
abbrev pub ending_text : Ending → List ℕ
ending_text Finished = []
ending_text Unread = codes "# varan: read standard input\n"
ending_text (Refused line cause) = input_text line (cause_word (cause_of cause))
ending_text (CutOff line) = input_text line (codes "cut")
ending_text Unsaid = codes "# varan: write standard output\n"
ending_text Untold = []

abbrev pub version_text : ℕ → List ℕ → List ℕ
version_text version said = concat (codes "# version " ∷ decimal version ∷ said ∷ [])

abbrev pub count_text : ℕ → List ℕ
count_text count = concat (codes ", after " ∷ decimal count ∷ codes " events\n" ∷ [])

-- the line of a comment
abbrev pub comment_text : Note → List ℕ
comment_text (Ended version fate seen) = version_text version (codes " ended: ") ++ (fate_text fate ++ count_text seen)
comment_text (LetGo version behind) = concat (codes "# version " ∷ decimal version ∷ codes " is let go: it is " ∷ decimal behind ∷ codes " events behind\n" ∷ [])
comment_text (Leads version stamp) = concat (codes "# version " ∷ decimal version ∷ codes " leads from event " ∷ decimal stamp ∷ codes "\n" ∷ [])
comment_text (Rewrites version rewrites event) = concat (codes "# version " ∷ decimal version ∷ codes " rewrites " ∷ decimal rewrites ∷ codes " at " ∷ []) ++ event_text event
comment_text (Made calls most) = concat (codes "# " ∷ decimal calls ∷ codes " of " ∷ decimal most ∷ codes " calls are made\n" ∷ [])
comment_text (Served event) = codes "# " ++ event_text event
comment_text (Stopped ending) = ending_text ending

-- which decisions of a rule are commented on, where not each is: a rule may decide at each event of a run that lasts
abbrev pub told_rewrites : List ℕ
told_rewrites = 1 ∷ 10 ∷ 100 ∷ 1000 ∷ 10000 ∷ 100000 ∷ 1000000 ∷ 10000000 ∷ 100000000 ∷ 1000000000 ∷ []

abbrev pub tells_rewrite : Commented → ℕ → Bool
tells_rewrite Nothing rewrites = false
tells_rewrite (Ends most) rewrites = list_any (λ told. told == rewrites) told_rewrites
tells_rewrite (Events most) rewrites = true

-- the note on a rule's decision for a version, if there is one
abbrev pub rewrite_note : Commented → ℕ → Entry → ℕ → Option Note
rewrite_note commented version event rewrites = if tells_rewrite commented rewrites then Some (Rewrites version rewrites event) else None

-- nine tenths of the most calls
abbrev pub nine_tenths : ℕ → ℕ
nine_tenths most = most - most / 10

-- the note that nine tenths of the calls are made, after the event that is the last of them
abbrev pub made_at : ℕ → ℕ → Option Note
made_at most stamp = if stamp + 1 == nine_tenths most then Some (Made (nine_tenths most) most) else None

abbrev pub made_note : Commented → ℕ → Option Note
made_note Nothing stamp = None
made_note (Ends most) stamp = made_at most stamp
made_note (Events most) stamp = made_at most stamp

-- the note on an event that was served
abbrev pub event_note : Commented → Entry → Option Note
event_note Nothing event = None
event_note (Ends most) event = None
event_note (Events most) event = Some (Served event)

-- the note that a version leads
abbrev pub lead_note : Commented → ℕ → ℕ → Option Note
lead_note Nothing version stamp = None
lead_note commented version stamp = Some (Leads version stamp)

-- the note on the end of a version, if it has ended
abbrev pub end_note : Commented → ℕ → Standing → Option Note
end_note Nothing version standing = None
end_note commented version standing = option_map (λ fate. Ended version fate standing.seen) standing.fate
