-- The JSON form of a report (RFC 8259): one object with no space, the keys of each object in byte order.
use Rattle.std.specs.Prelude.{ℕ, ℤ, List, [], ◌∷◌, ◌++◌, map, codes, Option, None, Some}
use Rattle.std.specs.Int.{w32, to_be_bytes}
use Rattle.hex.specs.Hex.{encode_lower}
use Rattle.serde_json.specs.Data.{Data, number, unsigned, string, array, object, Members, no_members, member}
use Rattle.serde_json.specs.Find.{of_integer}
use Rattle.serde_json.specs.View.{items_of}
use Rattle.serde_json.specs.Written.{compact_text}
use Rattle.nv_calls.specs.Calls.{Entry}
use Rattle.nv_replay.specs.declared.fate.Fate.{Fate}
use Rattle.nv_replay.specs.declared.fate.Fate.TheVariants.{Exited, Fault, Refused, Memory, LetGo}
use Rattle.nv_replay.specs.declared.standing.Standing.{Standing}
use Rattle.nv_replay.specs.Sequence.{Account}
use Rattle.nv_report.specs.Versions.{kind_text}

abbrev pub natural : ℕ → Data
natural n = number (unsigned n)

abbrev pub integer : ℤ → Data
integer z = number (of_integer z)

-- the values of these, in order
abbrev pub list_value : {X : Type 0} → (X → Data) → List X → Data
list_value value_of xs = array (items_of (map value_of xs))

-- bytes as hexadecimal digits, in lower case
abbrev pub hex_value : List ℕ → Data
hex_value bytes = string (encode_lower bytes)

-- 32 bits as eight hexadecimal digits
abbrev pub word_json : ℕ → Data
word_json word = hex_value (to_be_bytes w32 word)

-- the bytes of a call and of its reply
abbrev pub payload_value : List ℕ → List ℕ → Data
payload_value call reply = string (encode_lower call ++ encode_lower reply)

abbrev pub event_value : Entry → Data
event_value e =
    object (member (codes "args") (list_value natural e.call.args)
    (member (codes "nr") (natural e.call.nr)
    (member (codes "payload") (payload_value e.call.payload e.reply.payload)
    (member (codes "ret") (integer e.reply.ret)
    (member (codes "stamp") (natural e.stamp)
    (member (codes "tid") (natural e.call.tid) no_members))))))

-- from the first event to below the last
abbrev pub span_value : ℕ × ℕ → Data
span_value span = list_value natural (span.0 ∷ span.1 ∷ [])

-- the parts of the log that a version led; the list is empty where it never led
abbrev pub led_value : Standing → Data
led_value s = list_value span_value s.led

-- what there is to tell of a version with this end
abbrev pub version_members : Option Fate → Standing → Members
version_members None s =
    member (codes "led") (led_value s) (member (codes "rewrites") (natural s.rewrites) (member (codes "seen") (natural s.seen) no_members))
version_members (Some (Exited code)) s =
    member (codes "code") (natural code)
    (member (codes "fate") (string (codes "exited"))
    (member (codes "led") (led_value s)
    (member (codes "rewrites") (natural s.rewrites)
    (member (codes "seen") (natural s.seen) no_members))))
version_members (Some (Fault kind tid pc)) s =
    member (codes "fate") (string (codes "fault"))
    (member (codes "kind") (string (kind_text kind))
    (member (codes "led") (led_value s)
    (member (codes "pc") (word_json pc)
    (member (codes "rewrites") (natural s.rewrites)
    (member (codes "seen") (natural s.seen)
    (member (codes "tid") (natural tid) no_members))))))
version_members (Some (Refused tid nr stamp verdict)) s =
    member (codes "fate") (string (codes "refused"))
    (member (codes "led") (led_value s)
    (member (codes "nr") (natural nr)
    (member (codes "rewrites") (natural s.rewrites)
    (member (codes "seen") (natural s.seen)
    (member (codes "stamp") (natural stamp)
    (member (codes "tid") (natural tid)
    (member (codes "verdict") (word_json verdict) no_members)))))))
version_members (Some Memory) s =
    member (codes "fate") (string (codes "memory"))
    (member (codes "led") (led_value s)
    (member (codes "rewrites") (natural s.rewrites)
    (member (codes "seen") (natural s.seen) no_members)))
version_members (Some LetGo) s =
    member (codes "fate") (string (codes "left"))
    (member (codes "led") (led_value s)
    (member (codes "rewrites") (natural s.rewrites)
    (member (codes "seen") (natural s.seen) no_members)))

abbrev pub version_value : Standing → Data
version_value s = object (version_members s.fate s)

abbrev pub report_object : Data → Data → Data → Data
report_object fates log output =
    object (member (codes "fates") fates (member (codes "log") log (member (codes "output") output no_members)))

unfoldable pub report_value : List ℕ → Account → Data
report_value output a = report_object (list_value version_value a.lines) (list_value event_value a.log) (hex_value output)

unfoldable pub json_text : List ℕ → Account → List ℕ
json_text output a = compact_text (report_value output a)
