-- the reader that a leader becomes stands where Track, with its new span, brings it.
use Rattle.std.proofs.Common.{◌≡◌, ◌∙◌, sym, ap, subst, refl, ℕ, zero, suc, ◌<◌, ◌≤◌, true, false, Bool, List, [], ◌∷◌, ◌++◌, length, Option, Some, None, arith, append-nil}
use Rattle.std.specs.Prelude.{slice_get, nat_le, ◌||◌}
use Rattle.std.proofs.lemmas.Bool.Decides.{nat_tests}
use Rattle.nv_calls.specs.Calls.{Entry}
use Rattle.nv_calls.specs.Logs.{Start}
use Rattle.nv_threads.specs.Behaviours.{Behaviour}
use Rattle.nv_replay.specs.declared.fate.Fate.{Fate}
use Rattle.nv_replay.specs.Settling.{stage}
use Rattle.nv_replay.specs.Follow.{Follower, Judge, fresh}
use Rattle.nv_replay.specs.Lead.{Leader, next_call}
use Rattle.nv_replay.proofs.Settled.{Reaches, reach_here, reach_first, stage_zero, stage_one}
use Rattle.nv_replay.proofs.Extending.{reach_all, stage_grows}
use Rattle.nv_replay.proofs.Falling.{within}
use Rattle.nv_replay.specs.Tracks.{is_in, is_led, tracked, track_on, track_next, retraced_by}
use Rattle.nv_replay.proofs.Retracing.{beside, hands_back}
use Rattle.nv_replay.proofs.Tracking.{track_extended}

not_in : (a b n : ℕ) → n < a → is_in (a, b) n ≡ false
not_in a b n l = let k : nat_le a n ≡ false = grind (arith, nat_tests) in rw k refl

or_false : (x : Bool) → x ≡ false → (x || false) ≡ false
or_false x h = rw h refl

led_below : (spans : List (ℕ × ℕ)) (a b n : ℕ) → n < a → is_led (spans ++ (a, b) ∷ []) n ≡ is_led spans n
led_below [] a b n l = or_false (is_in (a, b) n) (not_in a b n l)
led_below (s ∷ spans) a b n l = ap (λ (y : Bool). is_in s n || y) (led_below spans a b n l)

is_in_own : (a b n : ℕ) → a ≤ n → n < b → is_in (a, b) n ≡ true
is_in_own a b n l m = let k : nat_le a n ≡ true = grind (arith, nat_tests) in let j : nat_le b n ≡ false = grind (arith, nat_tests) in rw (k, j) refl

or_true : (x y : Bool) → y ≡ true → (x || y) ≡ true
or_true true y h = refl
or_true false y h = h

or_left : (x : Bool) → x ≡ true → (x || false) ≡ true
or_left x h = rw h refl

led_own : (spans : List (ℕ × ℕ)) (a b n : ℕ) → a ≤ n → n < b → is_led (spans ++ (a, b) ∷ []) n ≡ true
led_own [] a b n l m = or_left (is_in (a, b) n) (is_in_own a b n l m)
led_own (s ∷ spans) a b n l m = or_true (is_in s n) (is_led (spans ++ (a, b) ∷ []) n) (led_own spans a b n l m)

module _ {P : Type 0} (g : Behaviour P) (judge : Judge) (spans : List (ℕ × ℕ)) (a b : ℕ) (log : List Entry) (short : length log ≤ a) where
  abbrev before : Follower P → Follower P
  before = track_next g judge spans log

  abbrev after : Follower P → Follower P
  after = track_next g judge (spans ++ (a, b) ∷ []) log

  on_spans : (s : Follower P) (o : Option Entry) (f : Option Fate) → slice_get log s.seen ≡ o → track_on g judge (spans ++ (a, b) ∷ []) s o f ≡ track_on g judge spans s o f
  unfolding retraced_by
  on_spans s o (Some f) h = refl
  on_spans s None None h = refl
  on_spans s (Some e) None h = ap (tracked g judge spans e s) (led_below spans a b s.seen (let w = within log s.seen e h in omega arith))

  next_spans : (s : Follower P) → after s ≡ before s
  unfolding track_next
  next_spans s = on_spans s (slice_get log s.seen) s.fate refl

  -- a later span changes nothing before it
  pub later_span : (n : ℕ) (s t : Follower P) → stage before n s ≡ t → Reaches after s t
  later_span zero s t h = subst (λ (x : Follower P). Reaches after s x) (sym (stage_zero before s) ∙ h) (reach_here after s)
  later_span (suc n) s t h =
      let rest = later_span n (before s) t (sym (stage_one before n s) ∙ h) in
      reach_first after s t (subst (λ (x : Follower P). Reaches after x t) (sym (next_spans s)) rest)

module _ {P : Type 0} (g : Behaviour P) (judge : Judge) (replies : Start) (most : ℕ) (cut : Option ℕ) where
  -- what the worker needs at `hand`
  pub hands_over : (spans : List (ℕ × ℕ)) (log : List Entry) (p : P) (s : Follower P) (n : ℕ) (m : Leader P)
      → Reaches (track_next g judge spans log) (fresh p) s → s.seen ≡ length log → s.fate ≡ None
      → stage (next_call g replies most cut) n (record { process = s.process; log = log; fate = None }) ≡ m → m.fate ≡ None
      → Reaches (track_next g judge (spans ++ (length log, length m.log) ∷ []) m.log) (fresh p) (beside s.rewrites m)
  hands_over spans log p s n m r l f h k =
      let sp : List (ℕ × ℕ) = spans ++ (length log, length m.log) ∷ [] in
      let l0 : Leader P = record { process = s.process; log = log; fate = None } in
      let more = stage_grows g replies most cut n l0 in
      let grew : m.log ≡ log ++ more.0 = sym (ap (λ (y : Leader P). y.log) h) ∙ more.1 in
      let a = later_span g judge spans (length log) (length m.log) log (omega arith) r.steps (fresh p) s r.is in
      let b = track_extended g judge sp log more.0 a.steps (fresh p) s a.is in
      let c : Reaches (track_next g judge sp m.log) (fresh p) s = subst (λ (y : List Entry). Reaches (track_next g judge sp y) (fresh p) s) (sym grew) b in
      let d = hands_back g judge replies most cut sp m.log n s l0 m [] h k refl l f (sym (append-nil m.log)) (λ j x y. led_own spans (length log) (length m.log) j x y) in
      reach_all (track_next g judge sp m.log) (fresh p) s (beside s.rewrites m) c d
