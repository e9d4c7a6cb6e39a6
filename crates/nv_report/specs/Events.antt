-- The lines of a log.
use Rattle.std.specs.Prelude.{ℕ, ℤ, List, [], ◌∷◌, ◌++◌, if◌then◌else◌, ◌==◌, ◌&&◌, length, codes}
use Rattle.std.specs.Fmt.{signed_decimal}
use Rattle.std.specs.List.{flat_map, concat}
use Rattle.nv_calls.specs.Calls.{Entry}
use Rattle.nv_bytes.specs.Numbers.{hex_of}
use Rattle.nv_report.specs.Numbers.{number_text}

-- the bytes of a call and of its reply, after a space where there are any
abbrev pub payload_text : List ℕ → List ℕ → List ℕ
payload_text call reply = if length call == 0 && length reply == 0 then [] else codes " " ++ (hex_of call ++ hex_of reply)

-- stamp, thread, number and arguments
abbrev pub call_text : Entry → List ℕ
call_text e = flat_map number_text (e.stamp ∷ e.call.tid ∷ e.call.nr ∷ []) ++ flat_map number_text e.call.args

abbrev pub result_text : ℤ → List ℕ
result_text ret = concat (codes "= " ∷ signed_decimal ret ∷ codes " :" ∷ [])

-- the line of an event
abbrev pub event_text : Entry → List ℕ
event_text e = call_text e ++ (result_text e.reply.ret ++ (payload_text e.call.payload e.reply.payload ++ codes "\n"))
