-- What a command finds where it reads its files.
use Rattle.std.specs.Prelude.{◌≡◌, ◌≢◌, ◌≤◌, ◌+◌, ◌-◌, ◌^◌, ℕ, List, [], ◌∷◌, Bool, true, if◌then◌else◌, Option, None, Some, option_map, min, nat_lt, length, map}
use Rattle.nv_outside.specs.Told.{Told, Untold, Missing, Content, Fallible, told_content, MayFail}
use Rattle.nv_driver.specs.Words.{ScriptFile, Plan}

-- the most bytes of a file
abbrev pub FILE_LIMIT : ℕ
FILE_LIMIT = 4194304

-- the most bytes of a trace
abbrev pub TRACE_LIMIT : ℕ
TRACE_LIMIT = 67108864

-- the most bytes of a transcript
abbrev pub TRANSCRIPT_LIMIT : ℕ
TRANSCRIPT_LIMIT = 1073741824

-- the most bytes of the file that says what a run begins with
unfoldable pub script_limit : ScriptFile → ℕ
script_limit script = if script.transcript then TRANSCRIPT_LIMIT else FILE_LIMIT

-- a file has more bytes than it may have
abbrev pub is_longer : ℕ → List ℕ → Bool
is_longer limit bytes = nat_lt limit (length bytes)

-- more bytes than a file may have were taken, or the count stands at its last value
abbrev pub TookMore : ℕ → ℕ → ℕ → Type 0
TookMore limit before now = min (before + limit + 1) (2 ^ 64 - 1) ≤ now

abbrev pub TookLong : ℕ → ℕ → Type 0
TookLong before now = TookMore FILE_LIMIT before now

-- All bytes of a file, that it has more than a file may have, or that it can't be read. Something is found at each place, told or not:
-- so a source that tells a part of the files pins what it can, and the first refused one is sought over what is found.
pub data Found : Type 0 where
  Whole : List ℕ → Found
  TooLong : Found
  Unread : Found

-- These are all bytes of the file, no more than it may have. A content that is told is these bytes, and a missing file has none.
pub record IsReadWithin (limit : ℕ) (bytes : List ℕ) (told : Told) : Type 0 where
  pub short : length bytes ≤ limit
  pub there : told ≢ Missing
  pub same : (content : List ℕ) → told_content told ≡ Some content → bytes ≡ content

abbrev pub IsReadOf : List ℕ → Told → Type 0
IsReadOf bytes told = IsReadWithin FILE_LIMIT bytes told

-- the file is too long, as a content that is told shows; a missing file isn't
pub record IsLongerThan (limit : ℕ) (told : Told) : Type 0 where
  pub there : told ≢ Missing
  pub same : (content : List ℕ) → told_content told ≡ Some content → is_longer limit content ≡ true

-- What may be found of a file with this limit, by what the source tells. A file whose content is told can be read, unless it is told that a read may fail.
abbrev pub AgreesWithin : ℕ → Told → Found → Type 0
AgreesWithin limit told (Whole bytes) = IsReadWithin limit bytes told
AgreesWithin limit told TooLong = IsLongerThan limit told
AgreesWithin limit told Unread = MayFail told

abbrev pub Agrees : Told → Found → Type 0
Agrees told found = AgreesWithin FILE_LIMIT told found

-- the same of the file that says what a run begins with
abbrev pub ScriptAgrees : (List ℕ → Told) → ScriptFile → Found → Type 0
ScriptAgrees holds script found = AgreesWithin (script_limit script) (holds script.name) found

abbrev pub AllAgree : (List ℕ → Told) → List (List ℕ) → List Found → Type 0
AllAgree holds [] [] = Unit {0}
AllAgree holds [] (found ∷ finds) = ⊥
AllAgree holds (name ∷ names) [] = ⊥
AllAgree holds (name ∷ names) (found ∷ finds) = Agrees (holds name) found × AllAgree holds names finds

-- the same of a file that may not be named
abbrev pub AgreesIf : (List ℕ → Told) → Option (List ℕ) → Option Found → Type 0
AgreesIf holds None None = Unit {0}
AgreesIf holds None (Some found) = ⊥
AgreesIf holds (Some name) None = ⊥
AgreesIf holds (Some name) (Some found) = Agrees (holds name) found

-- what is found of a run's files, one a place; nothing in the place of rules that aren't named
pub record Finds : Type 0 where
  pub script : Found
  pub rules : Option Found
  pub versions : List Found

-- what is found agrees with what the source tells
pub record AreFound (plan : Plan) (holds : List ℕ → Told) (finds : Finds) : Type 0 where
  pub script : ScriptAgrees holds plan.script finds.script
  pub rules : AgreesIf holds plan.rules finds.rules
  pub versions : AllAgree holds plan.versions finds.versions

-- what is found of a content with this limit
abbrev pub found_whole : ℕ → List ℕ → Found
found_whole limit bytes = if is_longer limit bytes then TooLong else Whole bytes

-- what is found of a file that is told and has this limit, where no read of it fails; nothing of the others
abbrev pub found_within : ℕ → Told → Found
found_within limit Untold = Unread
found_within limit Missing = Unread
found_within limit (Content bytes) = found_whole limit bytes
found_within limit (Fallible bytes) = found_whole limit bytes

abbrev pub found_of : Told → Found
found_of told = found_within FILE_LIMIT told

abbrev pub script_found : (List ℕ → Told) → ScriptFile → Found
script_found holds script = found_within (script_limit script) (holds script.name)

abbrev pub finds_of : (List ℕ → Told) → Plan → Finds
finds_of holds plan = record { script = script_found holds plan.script; rules = option_map (λ name. found_of (holds name)) plan.rules; versions = map (λ name. found_of (holds name)) plan.versions }
