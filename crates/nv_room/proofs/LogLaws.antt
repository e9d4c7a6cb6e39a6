-- The lanes of a log of spelt events that grows.
use Rattle.std.proofs.Common.{◌≡◌, ℕ, suc, ◌+◌, ◌%◌, ◌<◌, ◌≢◌, List, [], ◌∷◌, ◌++◌, map, length, take, get_or, length-append, refl, sym, ap, ◌∙◌, arith}
use Rattle.std.proofs.lemmas.List.{map-append, length-map, take-map}
use Rattle.nv_calls.specs.Calls.{Entry}
use mathlib.Core.Option.{some}
use lib.ListN.{get_elem?}
use Rattle.nv_calls.specs.Logs.{InRange}
use Rattle.nv_words.specs.Spelling.{spell}
use Rattle.nv_words.proofs.SpellLaws.{event_of_spell}
use Rattle.nv_words.specs.Read.{event_of}
use Rattle.nv_room.specs.Lanes.{Holders, start, lanes_of, lane_at, earlier_at, lane_in, events_in}
use Rattle.nv_room.proofs.LaneLaws.{holders_after, holders_of_taken, counts_are, lane_after_below, lanes_take, lane_at_below, lane_at_stays, earlier_at_stays, lane_at_last, earlier_at_last, lanes_apart}
use Rattle.nv_room.specs.Logs.{Log, entries, lanes_after, lane, earlier}

pub entries_push : (log : Log) (e : List ℕ) → entries (log ++ e ∷ []) ≡ entries log ++ event_of e ∷ []
entries_push log e = map-append event_of log (e ∷ [])

pub entries_length : (log : Log) → length (entries log) ≡ length log
entries_length log = length-map log event_of

-- of an event after a log, and of those before it
pub lane_last : (log : Log) (e : List ℕ) → lane (log ++ e ∷ []) (length log) ≡ lane_in (holders_after (entries log)) (event_of e).call.tid
lane_last log e = (λ k. lane_at (entries_push log e k) (sym (entries_length log) k)) ∙ lane_at_last (entries log) (event_of e)

pub earlier_last : (log : Log) (e : List ℕ) → earlier (log ++ e ∷ []) (length log) ≡ events_in (lane_in (holders_after (entries log)) (event_of e).call.tid) (lanes_of (entries log))
earlier_last log e = (λ k. earlier_at (entries_push log e k) (sym (entries_length log) k)) ∙ earlier_at_last (entries log) (event_of e)

pub lane_stays : (log more : Log) (i : ℕ) → i < length log → lane (log ++ more) i ≡ lane log i
lane_stays log more i h = ap (λ (z : List Entry). lane_at z i) (map-append event_of log more) ∙ lane_at_stays (entries log) (entries more) i (let n = entries_length log in omega arith)

pub earlier_stays : (log more : Log) (i : ℕ) → i < length log → earlier (log ++ more) i ≡ earlier log i
earlier_stays log more i h = ap (λ (z : List Entry). earlier_at z i) (map-append event_of log more) ∙ earlier_at_stays (entries log) (entries more) i (let n = entries_length log in omega arith)

tid_begun : (e f : List ℕ) → 0 < length e → (event_of (e ++ f)).call.tid ≡ (event_of e).call.tid
unfolding event_of
tid_begun [] f pos = absurd (omega arith)
tid_begun (x ∷ xs) f pos = refl

-- of an event that stands after the log, the first word alone tells its lane
pub lane_begun : (log : Log) (e f : List ℕ) → 0 < length e → lane (log ++ (e ++ f) ∷ []) (length log) ≡ lane (log ++ e ∷ []) (length log)
lane_begun log e f pos = lane_last log (e ++ f) ∙ ap (lane_in (holders_after (entries log))) (tid_begun e f pos) ∙ sym (lane_last log e)

pub earlier_begun : (log : Log) (e f : List ℕ) → 0 < length e → earlier (log ++ (e ++ f) ∷ []) (length log) ≡ earlier (log ++ e ∷ []) (length log)
earlier_begun log e f pos = earlier_last log (e ++ f) ∙ ap (λ (t : ℕ). events_in (lane_in (holders_after (entries log)) t) (lanes_of (entries log))) (tid_begun e f pos) ∙ sym (earlier_last log e)

pub lane_below_8 : (log : Log) (i : ℕ) → lane log i < 8
lane_below_8 log i = lane_at_below (entries log) i

-- two events of the window that stand in one lane, the later of them after the log
pub lane_places_apart : (log : Log) (e : List ℕ) (c i : ℕ) → i < length log → length log < i + c → lane (log ++ e ∷ []) i ≡ lane (log ++ e ∷ []) (length log) → earlier (log ++ e ∷ []) i % c ≢ earlier (log ++ e ∷ []) (length log) % c
lane_places_apart log e c i lt near = lanes_apart (entries (log ++ e ∷ [])) c i (length log) lt near (let n = entries_length (log ++ e ∷ []) in let m = length-append log (e ∷ []) in omega arith)

-- what the code goes by: an event after the log stands in the lane of its thread,
pub lane_is_taken : (log : Log) (e : List ℕ) → lane (log ++ e ∷ []) (length log) ≡ lane_in (lanes_after log).holders (event_of e).call.tid
lane_is_taken log e = lane_last log e ∙ ap (λ (hs : Holders). lane_in hs (event_of e).call.tid) (sym (holders_of_taken start (entries log)))

-- after as many events as are counted there
pub earlier_is_count : (log : Log) (e : List ℕ) → earlier (log ++ e ∷ []) (length log) ≡ get_or (lanes_after log).counts (lane (log ++ e ∷ []) (length log)) 0
earlier_is_count log e =
    let tid : ℕ = (event_of e).call.tid in
    earlier_last log e ∙ sym (counts_are (entries log) (lane_in (holders_after (entries log)) tid) (lane_after_below (entries log) tid)) ∙ ap (λ (l : ℕ). get_or (lanes_after log).counts l 0) (sym (lane_last log e))

-- and so did the event i when the events before it were seen
pub earlier_was_count : (log : Log) (i : ℕ) → earlier log i ≡ get_or (lanes_after (take i log)).counts (lane log i) 0
earlier_was_count log i =
    let l : ℕ = lane log i in
    let before : lanes_of (entries (take i log)) ≡ take i (lanes_of (entries log)) = ap lanes_of (sym (take-map event_of i log)) ∙ lanes_take (entries log) i in
    sym (counts_are (entries (take i log)) l (lane_at_below (entries log) i) ∙ ap (events_in l) before)

-- the events of spelt events are those
pub entries_spelt : (events : List Entry) → ((i : ℕ) (e : Entry) → get_elem? events i ≡ some e → InRange e) → entries (map spell events) ≡ events
entries_spelt [] h = refl
entries_spelt (e ∷ es) h = λ k. event_of_spell e (h 0 e refl) k ∷ entries_spelt es (λ i f g. h (suc i) f g) k
