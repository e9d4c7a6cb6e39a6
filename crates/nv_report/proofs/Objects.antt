-- The object of a report, from its members.
use Rattle.std.proofs.Common.{◌≡◌, refl, ap, ap₂, ◌∙◌, ℕ, List, [], ◌∷◌, map}
use Rattle.serde_json.specs.Data.{Data, item, array}
use Rattle.serde_json.specs.View.{items_of}
use Rattle.nv_calls.specs.Calls.{Entry, entry}
use Rattle.nv_calls.specs.declared.calls.Event.{Event}
use Rattle.nv_threads.specs.Threads.{Proc}
use Rattle.nv_replay.specs.Version.{Running, standing_of}
use Rattle.nv_report.specs.Json.{list_value, hex_value, event_value, version_value, report_object, report_value}

items-map : {X Y : Type 0} (value_of : Y → Data) (f : X → Y) (xs : List X) → items_of (map (λ x. value_of (f x)) xs) ≡ items_of (map value_of (map f xs))
items-map value_of f [] = refl
items-map value_of f (x ∷ xs) = ap (item (value_of (f x))) (items-map value_of f xs)

list-map : {X Y : Type 0} (value_of : Y → Data) (f : X → Y) (xs : List X) → list_value (λ x. value_of (f x)) xs ≡ list_value value_of (map f xs)
list-map value_of f xs = ap array (items-map value_of f xs)

module _ (fates log output : Data) (held versions : List (Running Proc)) (events : List Event) (entries : List Entry) (shown bytes : List ℕ) where
  pub report_is : fates ≡ list_value (λ (version : Running Proc). version_value (standing_of version)) held → held ≡ versions
      → log ≡ list_value (λ (event : Event). event_value (entry event)) events → map entry events ≡ entries
      → output ≡ hex_value shown → shown ≡ bytes
      → report_object fates log output ≡ report_value bytes (record { log = entries; lines = map standing_of versions })
  unfolding report_value
  report_is f h l e o s =
      let first : fates ≡ list_value version_value (map standing_of versions) =
      f ∙ list-map version_value standing_of held ∙ ap (λ (vs : List (Running Proc)). list_value version_value (map standing_of vs)) h in
      let second : log ≡ list_value event_value entries = l ∙ list-map event_value entry events ∙ ap (list_value event_value) e in
      let third : output ≡ hex_value bytes = o ∙ ap hex_value s in
      ap₂ (λ (x y : Data). report_object x y output) first second
      ∙ ap (report_object (list_value version_value (map standing_of versions)) (list_value event_value entries)) third
