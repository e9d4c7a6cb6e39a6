-- The lanes follow the events.
use Rattle.std.proofs.Common.{◌≡◌, ℕ, ◌-◌, ◌*◌, ◌<◌, Bool, cond, List, [], ◌∷◌, ◌++◌, length, get_or, sym, refl, ap, ◌∙◌, arith, length-append}
use Rattle.std.specs.Prelude.{◌==◌, sum}
use Rattle.std.specs.Int.{w32, cast_signed}
use mathlib.Core.Logic.{dite}
use native.Mathlib.Decide.{ℕ_discrete}
use Rattle.std.proofs.lemmas.Bool.{eq-eqb, ne_eqb}
use Rattle.std.proofs.lemmas.List.{get_or_push, get_or_append_left, map-append, length-map}
use Rattle.nv_words.specs.Spelling.{low, high}
use Rattle.nv_words.specs.Read.{event_of}
use Rattle.nv_room.specs.Lanes.{Taken, noted_by, noted, taken_after}
use Rattle.nv_room.proofs.LaneLaws.{taken_push, noted_all}
use Rattle.nv_pool.specs.declared.pool.Pool.{Pool}
use Rattle.nv_pool.specs.Pool.{Holds, count_of}
use Rattle.nv_room.specs.Logs.{Log, entries, lanes_after}
use Rattle.nv_room.specs.Placement.{payload_size, sizes}
use Rattle.nv_room.proofs.LogLaws.{entries_push, entries_length}

-- the word at a place, kept when it comes
pub kept_at : (old wanted i word : ℕ) (words : List ℕ) → i ≡ length words → (wanted < length words → old ≡ get_or words wanted 0) → wanted < length (words ++ word ∷ []) → cond (i == wanted) word old ≡ get_or (words ++ word ∷ []) wanted 0
kept_at old wanted i word words is kept within = let n = length-append words (word ∷ []) in dite (ℕ_discrete i wanted)
    (λ e. ap (λ (b : Bool). cond b word old) (eq-eqb i wanted e) ∙ sym (get_or_push words word 0 wanted (sym is ∙ e)))
    (λ ne. let less : wanted < length words = omega arith in ap (λ (b : Bool). cond b word old) (ne_eqb i wanted ne) ∙ kept less ∙ sym (get_or_append_left words (word ∷ []) 0 wanted less))

noted_event : (s : Taken) (words : List ℕ) → noted s (event_of words) ≡ noted_by s (low (get_or words 0 0)) (high (get_or words 0 0)) (cast_signed w32 (low (get_or words 5 0)))
unfolding event_of
noted_event s words = refl

pub lanes_passed : (lanes : Taken) (first sixth : ℕ) (seen : Log) (words : List ℕ) → lanes ≡ lanes_after seen → first ≡ get_or words 0 0 → sixth ≡ get_or words 5 0
    → noted_by lanes (low first) (high first) (cast_signed w32 (low sixth)) ≡ lanes_after (seen ++ words ∷ [])
lanes_passed lanes first sixth seen words is a b = (λ k. noted_by (is k) (low (a k)) (high (a k)) (cast_signed w32 (low (b k)))) ∙ sym (noted_event (lanes_after seen) words) ∙ sym
    (taken_push (entries seen) (event_of words)) ∙ ap taken_after (sym (entries_push seen words))

-- as many events as were seen
pub lanes_count : (lanes : Taken) (seen : Log) → lanes ≡ lanes_after seen → sum lanes.counts ≡ length seen
lanes_count lanes seen is = ap (λ (s : Taken). sum s.counts) is ∙ noted_all (entries seen) ∙ entries_length seen

pub pool_count : (pool : Pool) (seen : Log) → Holds pool (sizes seen) → count_of pool ≡ length seen
pool_count pool seen h = h.count ∙ length-map seen payload_size

-- the event's size is the last
pub sizes_push : (seen : Log) (words : List ℕ) (n : ℕ) → n ≡ length words → sizes seen ++ 8 * (n - 6) ∷ [] ≡ sizes (seen ++ words ∷ [])
sizes_push seen words n is = ap (λ (z : ℕ). sizes seen ++ 8 * (z - 6) ∷ []) is ∙ sym (map-append payload_size seen (words ∷ []))
