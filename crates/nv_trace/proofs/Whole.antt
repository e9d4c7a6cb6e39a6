-- A trace is read back as its log, and what is read has these bytes as its trace.
use Rattle.std.proofs.Common.{◌≡◌, ℕ, zero, suc, ◌+◌, ◌<◌, ◌≤◌, Bool, true, false, not, ◌==◌, nat_lt, nat_le, List, [], ◌∷◌, ◌++◌, length, take, drop, get_or, Option, Some, None, cond, refl, sym, ap, ◌∙◌, arith, append_assoc, append-nil, length-append}
use Rattle.std.specs.Prelude.{codes}
use Rattle.std.specs.Option.{option_or}
use Rattle.std.specs.List.{flat_map}
use Rattle.std.specs.Str.{bytes_eq}
use Rattle.std.proofs.lemmas.List.{drop_at, take-append-drop}
use Rattle.std.proofs.lemmas.Bool.{and_parts}
use Rattle.std.proofs.lemmas.Bool.Decides.{nat_tests}
use Rattle.std.proofs.lemmas.Slice.Eq.{bytes_eq-Decides}
use Rattle.nv_bytes.proofs.FieldLaws.{field_at-append}
use Rattle.nv_calls.specs.Calls.{Entry}
use Rattle.nv_trace.specs.declared.fault.TraceFault.{TraceFault}
use Rattle.nv_trace.specs.declared.fault.TraceFault.TheVariants.{Extra}
use Rattle.nv_trace.specs.Trace.{number_bytes, event_bytes, head_bytes, trace_of, AreRecordable, IsRecordable, IsTrace, IsRead, IsPrefixFree}
use Rattle.nv_trace.specs.Held.{count_in, size_in, entries_in, log_in}
use Rattle.nv_trace.specs.Faults.{has_head, head_fault, event_fault, events_fault, trace_fault, IsFirstFault}
use Rattle.nv_trace.proofs.Numbers.{field-numbers, numbers-words, below_drop, take_sum}
use Rattle.nv_trace.proofs.Back.{entry_back, event_behind, event_faultless, is_there, event_whole, entry_in_range}

-- the fault of what stands behind the last event
abbrev behind : List ℕ → Option TraceFault
behind rest = cond (length rest == 0) None (Some Extra)

-- Written and read

events_back : (log : List Entry) (place : ℕ) (rest : List ℕ) → AreRecordable place log → events_fault (length log) place (flat_map event_bytes log ++ rest) ≡ behind rest
events_back [] place rest each = refl
events_back (e ∷ es) place rest each =
    let more : List ℕ = flat_map event_bytes es ++ rest in
    ap (events_fault (length (e ∷ es)) place) (append_assoc (event_bytes e) (flat_map event_bytes es) rest)
    ∙ (λ i. option_or (event_faultless e more each.1 place i) (events_fault (length es) (place + 1) (event_behind e more each.1 i)))
    ∙ events_back es (place + 1) rest each.2

entries_back : (log : List Entry) (place : ℕ) (rest : List ℕ) → AreRecordable place log → entries_in (length log) place (flat_map event_bytes log ++ rest) ≡ log
entries_back [] place rest each = refl
entries_back (e ∷ es) place rest each =
    let more : List ℕ = flat_map event_bytes es ++ rest in
    ap (entries_in (length (e ∷ es)) place) (append_assoc (event_bytes e) (flat_map event_bytes es) rest)
    ∙ (λ i. entry_back e more each.1 place each.0 i ∷ entries_in (length es) (place + 1) (event_behind e more each.1 i))
    ∙ ap (λ t. e ∷ t) (entries_back es (place + 1) rest each.2)

length-head : (count : ℕ) → length (head_bytes count) ≡ 12
unfolding head_bytes number_bytes
length-head count = refl

count_back : (count : ℕ) (rest : List ℕ) → count < 4294967296 → count_in (head_bytes count ++ rest) ≡ count
unfolding head_bytes
count_back count rest fits = field_at-append 4 (codes "VARANTR1") (number_bytes (count ∷ []) ++ rest) 0 ∙ field-numbers (count ∷ []) rest 0 (omega arith) fits

magic_back : (count : ℕ) (rest : List ℕ) → bytes_eq (codes "VARANTR1") (take 8 (head_bytes count ++ rest)) ≡ true
unfolding head_bytes
magic_back count rest = refl

behind_head : (count : ℕ) (rest : List ℕ) → drop 12 (head_bytes count ++ rest) ≡ rest
behind_head count rest = drop_at (head_bytes count) rest 12 (length-head count)

head_back : (count : ℕ) (rest : List ℕ) → count ≤ 131072 → head_fault (head_bytes count ++ rest) ≡ None
unfolding head_fault
head_back count rest few =
    let long = length-append (head_bytes count) rest in
    let head = length-head count in
    let is = count_back count rest (omega arith) in
    let enough : nat_le 12 (length (head_bytes count ++ rest)) ≡ true = grind (arith, nat_tests) in
    let most : nat_lt 131072 (count_in (head_bytes count ++ rest)) ≡ false = grind (arith, nat_tests) in
    rw (enough, magic_back count rest, most) refl

module _ (log : List Entry) (rest : List ℕ) (ok : IsRecordable log) where
  abbrev whole : List ℕ
  whole = trace_of log ++ rest

  abbrev events : List ℕ
  events = flat_map event_bytes log ++ rest

  parted : whole ≡ head_bytes (length log) ++ events
  unfolding trace_of
  parted = append_assoc (head_bytes (length log)) (flat_map event_bytes log) rest

  count_is : count_in whole ≡ length log
  count_is = let few = ok.few in ap count_in parted ∙ count_back (length log) events (omega arith)

  behind_is : drop 12 whole ≡ events
  behind_is = ap (drop 12) parted ∙ behind_head (length log) events

  pub trace_back : trace_fault whole ≡ behind rest
  unfolding trace_fault
  trace_back =
      let head : head_fault whole ≡ None = ap head_fault parted ∙ head_back (length log) events ok.few in
      (λ i. option_or (head i) (events_fault (count_is i) 0 (behind_is i))) ∙ events_back log 0 rest ok.each

  pub log_back : log_in whole ≡ log
  unfolding log_in
  log_back = (λ i. entries_in (count_is i) 0 (behind_is i)) ∙ entries_back log 0 rest ok.each

-- a trace has no fault, and its events are those of the log
pub trace_faultless : (log : List Entry) (bytes : List ℕ) → IsTrace log bytes → trace_fault bytes ≡ None
trace_faultless log bytes is = ap trace_fault (is.same ∙ sym (append-nil (trace_of log))) ∙ trace_back log [] is.recordable

pub trace_log : (log : List Entry) (bytes : List ℕ) → IsTrace log bytes → log_in bytes ≡ log
trace_log log bytes is = ap log_in (is.same ∙ sym (append-nil (trace_of log))) ∙ log_back log [] is.recordable

none_behind : (rest : List ℕ) → behind rest ≡ None → rest ≡ []
none_behind [] h = refl
none_behind (x ∷ rest) h = let past : (length (x ∷ rest) == 0) ≡ false = grind (arith, nat_tests) in let bad : Some Extra ≡ None = sym (ap (λ b. cond b None (Some Extra)) past) ∙ h in cc

pub prefix_free : IsPrefixFree
prefix_free log other rest ok also h =
    let all : trace_of other ++ [] ≡ trace_of log ++ rest = append-nil (trace_of other) ∙ h in (
      none_behind rest (sym (trace_back log rest ok) ∙ ap trace_fault (sym all) ∙ trace_back other [] also),
      sym (log_back other [] also) ∙ ap log_in all ∙ log_back log rest ok,
    )

-- Read and written

or_none : {A : Type 0} (a b : Option A) → option_or a b ≡ None → (a ≡ None) × (b ≡ None)
or_none None b h = (refl, h)
or_none (Some a) b h = cc

test_out : (b : Bool) (fault : TraceFault) (o : Option TraceFault) → cond b (Some fault) o ≡ None → (b ≡ false) × (o ≡ None)
test_out true fault o h = cc
test_out false fault o h = (refl, h)

true_of : (b : Bool) → not b ≡ false → b ≡ true
true_of true h = refl
true_of false h = cc

pub record IsHead (bytes : List ℕ) : Type 0 where
  pub long : 12 ≤ length bytes
  pub magic : codes "VARANTR1" ≡ take 8 bytes
  pub few : count_in bytes ≤ 131072

head_by : (bytes : List ℕ) → nat_le 12 (length bytes) ≡ true → codes "VARANTR1" ≡ take 8 bytes → nat_lt 131072 (count_in bytes) ≡ false → IsHead bytes
head_by bytes enough magic most = record { long = grind (arith, nat_tests); magic = magic; few = grind (arith, nat_tests) }

is_head : (bytes : List ℕ) → head_fault bytes ≡ None → IsHead bytes
unfolding head_fault
is_head bytes h =
    let first = test_out _ _ _ h in
    let second = test_out _ _ _ first.1 in
    let both = and_parts (nat_le 12 (length bytes)) _ (true_of (has_head bytes) first.0) in
    head_by bytes both.0 ((bytes_eq-Decides (codes "VARANTR1") (take 8 bytes)).0 both.1) second.0

pub record AreWhole (count place : ℕ) (bytes : List ℕ) : Type 0 where
  pub same : flat_map event_bytes (entries_in count place bytes) ≡ bytes
  pub each : AreRecordable place (entries_in count place bytes)
  pub many : length (entries_in count place bytes) ≡ count

entries_whole : (count place : ℕ) (bytes : List ℕ) → ((i : ℕ) → get_or bytes i 0 < 256) → place + count ≤ 131072 → events_fault count place bytes ≡ None → AreWhole count place bytes
entries_whole zero place bytes below few h = record { same = sym (none_behind bytes h); each = tt; many = refl }
entries_whole (suc count) place bytes below few h =
    let both = or_none (event_fault place bytes) _ h in
    let there = is_there place bytes both.0 in
    let more = entries_whole count (place + 1) (drop (size_in bytes) bytes) (below_drop (size_in bytes) bytes below) (omega arith) both.1 in
    let many = more.many in
    record {
      same = (λ i. event_whole bytes below there place i ++ more.same i) ∙ take-append-drop (size_in bytes) bytes;
      each = (refl, entry_in_range bytes below there place (omega arith), more.each);
      many = omega arith;
    }

head_whole : (bytes : List ℕ) → ((i : ℕ) → get_or bytes i 0 < 256) → IsHead bytes → head_bytes (count_in bytes) ≡ take 12 bytes
unfolding head_bytes
head_whole bytes below is =
    let long = is.long in
    let magic = is.magic in
    let count : number_bytes (count_in bytes ∷ []) ≡ take 4 (drop 8 bytes) = numbers-words 1 8 bytes (omega arith) below in
    (λ i. magic i ++ count i) ∙ sym (take_sum 8 4 bytes)

pub log_whole : (bytes : List ℕ) → ((i : ℕ) → get_or bytes i 0 < 256) → trace_fault bytes ≡ None → IsTrace (log_in bytes) bytes
unfolding trace_fault log_in trace_of
log_whole bytes below h =
    let both = or_none (head_fault bytes) _ h in
    let head = is_head bytes both.0 in
    let few = head.few in
    let events = entries_whole (count_in bytes) 0 (drop 12 bytes) (below_drop 12 bytes below) (omega arith) both.1 in
    let many = events.many in
    record {
      recordable = record { few = omega arith; each = events.each };
      same = sym ((λ i. head_bytes (many i) ++ events.same i) ∙ ap (λ t. t ++ drop 12 bytes) (head_whole bytes below head) ∙ take-append-drop 12 bytes);
    }

-- What the reader answers

pub read_is : (log : List Entry) (bytes : List ℕ) → ((i : ℕ) → get_or bytes i 0 < 256) → trace_fault bytes ≡ None → log ≡ log_in bytes → IsRead log bytes
read_is log bytes below h is = record {
  trace = log_trace;
  alone = λ other trace. sym (trace_log other bytes trace) ∙ sym is;
}
  where
    log_trace : IsTrace log bytes
    log_trace = let w = log_whole bytes below h in record { recordable = rw is (w.recordable); same = w.same ∙ ap trace_of (sym is) }

pub refused_is : (bytes : List ℕ) (fault : TraceFault) → trace_fault bytes ≡ Some fault → IsFirstFault bytes fault
refused_is bytes fault h = record { first = h; no_trace = λ log trace. let bad : Some fault ≡ None = sym h ∙ trace_faultless log bytes trace in cc }

head_refused : (bytes : List ℕ) (fault : TraceFault) → head_fault bytes ≡ Some fault → trace_fault bytes ≡ Some fault
unfolding trace_fault
head_refused bytes fault h = ap (λ o. option_or o (events_fault (count_in bytes) 0 (drop 12 bytes))) h

-- what the head refuses
pub refused_head : (bytes : List ℕ) (fault : TraceFault) → head_fault bytes ≡ Some fault → IsFirstFault bytes fault
refused_head bytes fault h = refused_is bytes fault (head_refused bytes fault h)

-- what the events behind the head come to
pub trace_by_events : (bytes : List ℕ) (o : Option TraceFault) → head_fault bytes ≡ None → events_fault (count_in bytes) 0 (drop 12 bytes) ≡ o → trace_fault bytes ≡ o
unfolding trace_fault
trace_by_events bytes o head h = ap (λ p. option_or p (events_fault (count_in bytes) 0 (drop 12 bytes))) head ∙ h

pub log_by_events : (bytes : List ℕ) (log : List Entry) → log ≡ entries_in (count_in bytes) 0 (drop 12 bytes) → log ≡ log_in bytes
unfolding log_in
log_by_events bytes log h = h
