-- The JSON form has no fractions, so its text is the one that is stated of it.
use Rattle.std.proofs.Common.{◌≡◌, refl, ap, ℕ, ℤ, pos, negsuc, List, [], ◌∷◌, Bool, true, false, map, Option, None, Some}
use Rattle.std.specs.Prelude.{◌||◌}
use Rattle.serde_json.specs.Data.{Data}
use Rattle.serde_json.specs.View.{items_of}
use Rattle.serde_json.specs.Written.{compact_text, has_float, items_have_float, members_have_float}
use Rattle.nv_calls.specs.Calls.{Entry}
use Rattle.nv_replay.specs.declared.fate.Fate.{Fate}
use Rattle.nv_replay.specs.declared.fate.Fate.TheVariants.{Exited, Fault, Refused, Memory, LetGo}
use Rattle.nv_replay.specs.declared.standing.Standing.{Standing}
use Rattle.nv_replay.specs.Sequence.{Account}
use Rattle.nv_report.specs.Json.{natural, integer, led_value, event_value, span_value, version_members, version_value, report_value, json_text}

both_false : (a b : Bool) → a ≡ false → b ≡ false → (a || b) ≡ false
both_false true b e h = e
both_false false b e h = h

in_list : {X : Type 0} (value_of : X → Data) → ((x : X) → has_float (value_of x) ≡ false) → (xs : List X) → items_have_float (items_of (map value_of xs)) ≡ false
in_list value_of each [] = refl
in_list value_of each (x ∷ xs) = both_false (has_float (value_of x)) _ (each x) (in_list value_of each xs)

in_integer : (z : ℤ) → has_float (integer z) ≡ false
in_integer (pos n) = refl
in_integer (negsuc n) = refl

in_event : (e : Entry) → has_float (event_value e) ≡ false
in_event e =
    both_false (items_have_float (items_of (map natural e.call.args))) _ (in_list natural (λ n. refl) e.call.args)
    (both_false (has_float (integer e.reply.ret)) false (in_integer e.reply.ret) refl)

in_led : (s : Standing) → has_float (led_value s) ≡ false
in_led s = in_list span_value (λ span. refl) s.led

in_members : (fate : Option Fate) (s : Standing) → members_have_float (version_members fate s) ≡ false
in_members None s = both_false (has_float (led_value s)) false (in_led s) refl
in_members (Some (Exited code)) s = both_false (has_float (led_value s)) false (in_led s) refl
in_members (Some (Fault kind tid pc)) s = both_false (has_float (led_value s)) false (in_led s) refl
in_members (Some (Refused tid nr stamp verdict)) s = both_false (has_float (led_value s)) false (in_led s) refl
in_members (Some Memory) s = both_false (has_float (led_value s)) false (in_led s) refl
in_members (Some LetGo) s = both_false (has_float (led_value s)) false (in_led s) refl

pub in_report : (output : List ℕ) (a : Account) → has_float (report_value output a) ≡ false
unfolding report_value
in_report output a =
    both_false (items_have_float (items_of (map version_value a.lines))) _ (in_list version_value (λ s. in_members s.fate s) a.lines)
    (both_false (items_have_float (items_of (map event_value a.log))) false (in_list event_value in_event a.log) refl)

pub text_is : (d : Data) (output : List ℕ) (a : Account) → d ≡ report_value output a → compact_text d ≡ json_text output a
unfolding json_text
text_is d output a is = ap compact_text is
