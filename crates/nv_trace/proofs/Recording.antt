-- Logs that can be recorded.
use Rattle.std.proofs.Common.{◌≡◌, ℕ, zero, suc, ◌+◌, ◌<◌, ◌≤◌, List, [], ◌∷◌, ◌++◌, length, map, get_or, Some, refl, sym, ap, ◌∙◌, arith}
use Rattle.std.specs.Prelude.{slice_get}
use Rattle.std.specs.List.{flat_map}
use Rattle.nv_calls.specs.declared.calls.Event.{Event}
use Rattle.nv_calls.specs.Calls.{Entry, entry}
use Rattle.nv_calls.specs.Logs.{InRange, IsLawful}
use Rattle.nv_trace.specs.Limits.{MOST_TRACED}
use Rattle.nv_trace.specs.Trace.{event_bytes, AreRecordable, IsRecordable}
use Rattle.nv_trace.specs.Checks.{AreStamped}

pub range_at : (log : List Event) (place i : ℕ) (d : Event) → AreRecordable place (map entry log) → i < length log → InRange (entry (get_or log i d))
range_at [] place i d each less = absurd (omega arith)
range_at (e ∷ es) place zero d each less = each.1
range_at (e ∷ es) place (suc i) d each less = range_at es (place + 1) i d each.2 (omega arith)

pub bytes_of_events : (log : List Event) → flat_map (λ (e : Event). event_bytes (entry e)) log ≡ flat_map event_bytes (map entry log)
bytes_of_events [] = refl
bytes_of_events (e ∷ es) = ap (λ t. event_bytes (entry e) ++ t) (bytes_of_events es)

stamped_from : (log : List Entry) (place i : ℕ) (e : Entry) → AreRecordable place log → slice_get log i ≡ Some e → e.stamp ≡ place + i
stamped_from [] place i e each at = cc
stamped_from (x ∷ log) place zero e each at = let same : x ≡ e = some_is x e at in sym (ap (λ (y : Entry). y.stamp) same) ∙ each.0 ∙ none place
  where
    some_is : (x y : Entry) → Some x ≡ Some y → x ≡ y
    some_is x y h = cc

    none : (n : ℕ) → n ≡ n + 0
    none n = omega arith
stamped_from (x ∷ log) place (suc i) e each at = let rest = stamped_from log (place + 1) i e each.2 at in omega arith

-- each event of a log that can be recorded has its place as its stamp
pub recordable_stamped : (log : List Entry) → IsRecordable log → AreStamped log
recordable_stamped log ok i e at = let h = stamped_from log 0 i e ok.each at in omega arith

recordable_from : (log : List Entry) (place : ℕ) → ((i : ℕ) (e : Entry) → slice_get log i ≡ Some e → (e.stamp ≡ place + i) × InRange e) → AreRecordable place log
recordable_from [] place h = tt
recordable_from (x ∷ log) place h =
    let first = h 0 x refl in
    (first.0 ∙ none place, first.1, recordable_from log (place + 1) (λ i e at. let rest = h (suc i) e at in (rest.0 ∙ on place i, rest.1)))
  where
    none : (n : ℕ) → n + 0 ≡ n
    none n = omega arith

    on : (n i : ℕ) → n + suc i ≡ (n + 1) + i
    on n i = omega arith

-- the log of a kernel can be recorded where it isn't longer than a trace's
pub lawful_recordable : (log : List Entry) → length log ≤ MOST_TRACED → IsLawful log → IsRecordable log
lawful_recordable log few ok = record {
  few = few;
  each = recordable_from log 0 (λ i e at. let m = ok i e at in (m.stamp ∙ none i, m.range));
}
  where
    none : (n : ℕ) → n ≡ 0 + n
    none n = omega arith
