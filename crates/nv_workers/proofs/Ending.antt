-- From what the room's end and the workers promise to the account.
use Rattle.std.proofs.Common.{◌≡◌, ◌∙◌, sym, ap, subst, refl, ℕ, zero, suc, ◌<◌, ◌≤◌, List, [], ◌∷◌, ◌++◌, map, length, take, drop, Some, arith, take-append-drop}
use Rattle.std.specs.Prelude.{Bool, false, slice_get}
use mathlib.Core.Option.{some, some-injective, some-ne-none}
use lib.ListN.{get_elem?}
use Rattle.nv_calls.specs.Calls.{Entry}
use Rattle.nv_calls.specs.Logs.{InRange, IsLawful, IsLegal, Start}
use Rattle.nv_calls.proofs.LearningLaws.{legal_take}
use Rattle.nv_words.specs.Spelling.{spell}
use Rattle.nv_words.proofs.SpellLaws.{spell_alone, spell_length}
use Rattle.nv_room.specs.Planned.{asked_in}
use Rattle.nv_room.specs.declared.view.View.{View}
use Rattle.nv_room.specs.declared.view.Span.{Span}
use Rattle.nv_room.specs.Placement.{Log}
use Rattle.nv_room.specs.Spans.{Tiles, Rising, of_version, Before, IsLastStation, Opened}
use Rattle.nv_room.specs.Room.{AreOfNext}
use Rattle.nv_threads.specs.Threads.{Proc, threads}
use Rattle.nv_threads.proofs.ThreadLaws.{thread_laws}
use Rattle.nv_replay.specs.Follow.{Judge}
use Rattle.nv_replay.specs.Version.{Running}
use Rattle.nv_replay.specs.Account.{AreFresh}
use Rattle.nv_replay.proofs.Survivor.{lawful_prefix}
use Rattle.nv_replay.proofs.Numbers.{some_at}
use Rattle.nv_workers.specs.Ends.{Leaving, spelt, IsSpelling, IsFinished, HasRunAll, IsAccount}
use Rattle.nv_workers.specs.Working.{leaving_of, HasEnded}
use Rattle.nv_workers.proofs.Spelt.{same_spelt, long_as}
use Rattle.nv_workers.proofs.Spanned.{place_below, who_is, who_below}
use Rattle.nv_workers.proofs.Asked.{unasked}
use Rattle.nv_workers.proofs.Told.{accounts}

-- what the seat of version k tells, in terms of the whole history
pub record IsTold {T : Type 0} (history : Log) (spans : List Span) (seating : List ℕ) (k : ℕ) (w : View T) : Type 0 where
  pub seen : w.seen ≡ take (length w.seen) history
  pub read : AreOfNext history w.seen w.read
  pub led : w.spans ≡ of_version k spans
  pub last : IsLastStation seating k w.station
  pub before : Before spans w.station w.seen w.read

-- the spans of so many versions tile the history in order of station, and this holds of the lengths that were asked for
pub record AreTold {T : Type 0} (planned : List ℕ) (asks : List ℕ → Type 0) (history : Log) (versions : ℕ) (w : ℕ → View T) : Type 0 where
  pub spans : List Span
  pub seating : List ℕ
  pub tile : Tiles 0 spans (length history)
  pub rise : Rising 0 spans
  pub made : (j : ℕ) (x : Span) → get_elem? spans j ≡ some x → get_elem? seating x.station ≡ some x.version
  pub first : (k : ℕ) → k < versions → get_elem? seating k ≡ some k
  pub opened : Opened versions seating spans
  pub asked : asks (asked_in planned spans)
  pub each : (k : ℕ) → k < versions → IsTold history spans seating k (w k)

-- Words

prefix_by : (xs ys : List ℕ) → ((i x : ℕ) → get_elem? xs i ≡ some x → get_elem? ys i ≡ some x) → (more : List ℕ) × (ys ≡ xs ++ more)
prefix_by [] ys h = (ys, refl)
prefix_by (x ∷ xs) [] h = absurd (some-ne-none x (sym (h 0 x refl)))
prefix_by (x ∷ xs) (y ∷ ys) h =
    let e : y ≡ x = some-injective y x (h 0 x refl) in
    let r = prefix_by xs ys (λ i z q. h (suc i) z q) in
    (r.0, λ i. e i ∷ r.1 i)

slice_below : {A : Type 0} (xs : List A) (k : ℕ) (x : A) → slice_get xs k ≡ Some x → k < length xs
slice_below [] k x h = cc
slice_below (y ∷ xs) zero x h = omega arith
slice_below (y ∷ xs) (suc k) x h = let l = slice_below xs k x h in omega arith

spelt_at : (h : List Entry) (n : ℕ) (e : List ℕ) → get_elem? (map spell h) n ≡ some e → spelt spell (slice_get h n) ≡ e
spelt_at [] n e q = absurd (some-ne-none e (sym q))
spelt_at (x ∷ h) zero e q = some-injective (spell x) e q
spelt_at (x ∷ h) (suc n) e q = spelt_at h n e q

words_by : (h : List Entry) (seen : Log) (read : List ℕ) → AreOfNext (map spell h) seen read → (more : List ℕ) × (spelt spell (slice_get h (length seen)) ≡ read ++ more)
words_by h seen [] r = (spelt spell (slice_get h (length seen)), refl)
words_by h seen (x ∷ xs) r =
    let a = r 0 x refl in
    let s : spelt spell (slice_get h (length seen)) ≡ a.0 = spelt_at h (length seen) a.0 a.1 in
    let all : (i y : ℕ) → get_elem? (x ∷ xs) i ≡ some y → get_elem? a.0 i ≡ some y = λ i y q.
    let b = r i y q in
    let same : b.0 ≡ a.0 = some-injective b.0 a.0 (sym b.1 ∙ a.1) in
    subst (λ (z : List ℕ). get_elem? z i ≡ some y) same b.2 in
    let f = prefix_by (x ∷ xs) a.0 all in
    (f.0, s ∙ f.1)

take_spelt : (n : ℕ) (h : List Entry) → map spell (take n h) ≡ take n (map spell h)
take_spelt zero h = refl
take_spelt (suc n) [] = refl
take_spelt (suc n) (e ∷ h) = ap (λ z. spell e ∷ z) (take_spelt n h)

prefix_all : (xs more : List ℕ) (i x : ℕ) → get_elem? xs i ≡ some x → get_elem? (xs ++ more) i ≡ some x
prefix_all [] more i x h = absurd (some-ne-none x (sym h))
prefix_all (y ∷ xs) more zero x h = h
prefix_all (y ∷ xs) more (suc i) x h = prefix_all xs more i x h

pub spelling : IsSpelling InRange spell
spelling = record {
  some = λ e. (let l = spell_length e in omega arith);
  own = λ d e more rd re q. spell_alone d e rd re (λ i x h. subst (λ (z : List ℕ). get_elem? z i ≡ some x) (sym q) (prefix_all (spell d) more i x h));
}

-- The end

module _ (judges : ℕ → Judge) {T : Type 0} (start : Start) (most : ℕ) (hands : List ℕ) (on_demand : Bool) (h : List Entry) (n : ℕ) (w : ℕ → View T) (law : IsLawful h) (asks : List ℕ → Type 0) (told : AreTold hands asks (map spell h) n w) where
  -- the events that the seat of version k has seen
  abbrev seen_by : ℕ → List Entry
  seen_by k = take (length (w k).seen) h

  abbrev left : ℕ → Leaving
  left k = leaving_of (seen_by k) (w k)

  spelt_by : (k : ℕ) → k < n → map spell (seen_by k) ≡ (w k).seen
  spelt_by k l = take_spelt (length (w k).seen) h ∙ sym (told.each k l).seen

  long_by : (k : ℕ) → k < n → length (seen_by k) ≡ length (w k).seen
  long_by k l = sym (long_as (seen_by k)) ∙ ap (λ (x : Log). length x) (spelt_by k l)

  before_by : (k : ℕ) → k < n → (j : ℕ) (x : Span) → get_elem? told.spans j ≡ some x → (left k).station < x.station
      → (length (left k).seen ≤ x.from) × (0 < length (left k).words → length (left k).seen < x.from)
  before_by k l j x q later =
      let t = (told.each k l).before j x q later in
      let long = long_by k l in (
        (let t0 = t.0 in omega arith),
        λ z. let t1 = t.1 z in omega arith,
      )

  -- of so many versions
  abbrev finished : (m : ℕ) → m ≡ n → IsFinished spell h m left
  finished m all = record {
    prefix = λ k l. (drop (length (w k).seen) h, sym (take-append-drop (length (w k).seen) h));
    words = λ k l.
        let near : k < n = omega arith in
        let r = words_by h (w k).seen (w k).read (told.each k near).read in
        (r.0, ap (λ (i : ℕ). spelt spell (slice_get h i)) (long_by k near) ∙ r.1);
    spans = told.spans;
    seating = told.seating;
    tile = subst (λ (i : ℕ). Tiles 0 told.spans i) (long_as h) told.tile;
    rise = told.rise;
    made = told.made;
    first = λ k l. told.first k (omega arith);
    opened = subst (λ (i : ℕ). Opened i told.seating told.spans) (sym all) told.opened;
    led = λ k l. let near : k < n = omega arith in (told.each k near).led;
    last = λ k l. let near : k < n = omega arith in (told.each k near).last;
    before = λ k l. before_by k (omega arith);
  }

  lawful_by : (k : ℕ) → IsLawful (seen_by k)
  lawful_by k = lawful_prefix (seen_by k) (drop (length (w k).seen) h) (subst IsLawful (sym (take-append-drop (length (w k).seen) h)) law)

  done_by : IsLegal start h → (k : ℕ) (p : Proc) (v : Running Proc) → k < n → HasEnded judges most hands on_demand k p v (w k) → HasRunAll threads judges start most hands InRange spell k p v (left k)
  done_by legal k p v l e =
      let same : e.log ≡ seen_by k = same_spelt e.log (seen_by k) e.lawful (lawful_by k) (e.spelt ∙ sym (spelt_by k l)) in
      subst (λ (x : List Entry). HasRunAll threads judges start most hands InRange spell k p v (leaving_of x (w k))) same (e.done start (subst (IsLegal start) (sym same) (legal_take start h (length (w k).seen) legal)))

  -- the version of each span is one of them
  who_led : (j : ℕ) (x : Span) → get_elem? told.spans j ≡ some x → x.version < n
  who_led j x q =
      let made = told.made j x q in
      let near = who_below told.seating n told.spans told.first told.opened x.station (place_below told.seating x.station x.version made) in
      let is = who_is told.seating x.station x.version made in
      omega (arith, near, is)

  -- all versions have ended, and the room has told of them
  pub ending : (olds news : List (Running Proc)) → AreFresh threads 0 olds → length news ≡ length olds → length news ≡ n → IsLegal start h
      → ((k : ℕ) (old new : Running Proc) → slice_get olds k ≡ Some old → slice_get news k ≡ Some new → HasEnded judges most hands on_demand k old.at.process new (w k))
      → (asked : List ℕ) × (on_demand ≡ false → asked ≡ []) × IsAccount threads judges start most (hands ++ asked) olds news h × asks asked
  ending olds news fresh long all legal e = (
    asked_in hands told.spans,
    (λ off. unasked hands told.spans (λ j x q.
        let near = who_led j x q in
        let old = some_at olds x.version (omega arith) in
        let new = some_at news x.version (omega arith) in
        ap (asked_in hands) (sym (told.each x.version near).led) ∙ (e x.version old.0 new.0 old.1 new.1).as_planned off)),
    accounts threads thread_laws judges start most hands InRange spell spelling olds news h left (finished (length news) all) long
        (λ k x q. (law k x q).range)
        (λ k old new a b. done_by legal k old.at.process new (let m = slice_below news k new b in omega arith) (e k old new a b)) fresh law legal,
    told.asked,
  )
