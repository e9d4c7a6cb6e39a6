-- A version over a log, decision by decision.
use Rattle.std.proofs.Common.{◌≡◌, ◌≢◌, ◌∙◌, sym, ap, subst, refl, ℕ, zero, suc, ◌+◌, ◌<◌, ◌≤◌, ◌⊎◌, inl, inr, List, [], ◌∷◌, map, get_or, length, Option, Some, None, arith}
use Rattle.std.specs.Prelude.{slice_get, false}
use Rattle.std.specs.Option.{is_some}
use Rattle.std.proofs.lemmas.Option.{slice_get_past}
use Rattle.nv_calls.specs.Calls.{Entry, entry}
use Rattle.nv_calls.specs.declared.calls.Event.{Event}
use Rattle.nv_calls.specs.Logs.{IsLawful}
use Rattle.nv_threads.specs.Behaviours.{Behaviour, IsProcess}
use Rattle.nv_replay.specs.declared.fate.Fate.{Fate}
use Rattle.nv_replay.specs.Follow.{Follower, Judge, decided, follow_next, on_next, follow, IsInStep}
use Rattle.nv_replay.specs.Version.{Running}
use Rattle.nv_replay.proofs.Settled.{Reaches, reach_here, reach_on, reached}
use Rattle.nv_replay.proofs.Falling.{size, follow_falls}
use Rattle.nv_replay.proofs.Stepping.{decided_in_step}

pub record Goes {P : Type 0} (g : Behaviour P) (judge : Judge) (log : List Entry) (start now : Running P) : Type 0 where
  pub reach : Reaches (follow_next g judge log) start.at now.at
  pub rest : now ≡ record start { at = now.at }
  pub in_step : IsInStep g log now.at

module _ {P : Type 0} (g : Behaviour P) (laws : IsProcess g) (judge : Judge) (log : List Entry) where
  pub goes_here : (start : Running P) → IsInStep g log start.at → Goes g judge log start start
  goes_here start i = record { reach = reach_here (follow_next g judge log) start.at; rest = refl; in_step = i }

  pub next_is : (e : Entry) (s : Follower P) → slice_get log s.seen ≡ Some e → s.fate ≡ None → follow_next g judge log s ≡ decided g judge e s
  unfolding follow_next
  next_is e s h n = rw (h, n) refl

  pub goes_on : (start now new : Running P) (e : Entry) → IsLawful log → slice_get log now.at.seen ≡ Some e → now.at.fate ≡ None
      → Goes g judge log start now → new ≡ record now { at = decided g judge e now.at } → Goes g judge log start new
  goes_on start now new e law h n o k =
      let r : Reaches (follow_next g judge log) start.at (decided g judge e now.at) = subst (λ x. Reaches (follow_next g judge log) start.at x)
      (next_is e now.at h n) (reach_on (follow_next g judge log) start.at now.at o.reach) in
      let at : new.at ≡ decided g judge e now.at = ap (λ (x : Running P). x.at) k in
      let q : record now { at = decided g judge e now.at } ≡ record start { at = decided g judge e now.at } = ap
      (λ (x : Running P). record x { at = decided g judge e now.at }) o.rest in
      let P' : Running P → Type 0 = λ x. Goes g judge log start x in
      subst P' (sym k) (record { reach = r; rest = q; in_step = decided_in_step g laws judge log e now.at law h o.in_step n })

  rests_by : (s : Follower P) (o : Option Entry) (f : Option Fate) → (o ≡ None) ⊎ (f ≢ None) → on_next g judge log s o f ≡ s
  rests_by s o (Some f) h = refl
  rests_by s None None h = refl
  rests_by s (Some e) None (inl h) = cc
  rests_by s (Some e) None (inr h) = absurd (h refl)

  pub rests : (s : Follower P) → (length log ≤ s.seen) ⊎ (s.fate ≢ None) → follow_next g judge log s ≡ s
  unfolding follow_next
  rests s (inl h) = rests_by s (slice_get log s.seen) s.fate (inl (slice_get_past log s.seen h))
  rests s (inr h) = rests_by s (slice_get log s.seen) s.fate (inr h)

  pub bound : (s : Follower P) (f : Option Fate) → f ≡ s.fate → size g (length log) s ≤ length log + g.calls_left s.process + 1
  unfolding size
  bound s None h = rw (← h) (omega arith)
  bound s (Some f) h = rw (← h) (omega arith)

  -- what rests and was reached is the whole
  pub follow_is : (s t : Follower P) → Reaches (follow_next g judge log) s t → follow_next g judge log t ≡ t → t ≡ follow g judge log s
  unfolding follow size
  follow_is s t r h = sym (reached (follow_next g judge log) (size g (length log)) (follow_falls g laws judge log)
      (length log + g.calls_left s.process + 1) s (bound s s.fate refl) r.steps t r.is h)

  pub whole : (start now : Running P) → Goes g judge log start now → (length log ≤ now.at.seen) ⊎ (now.at.fate ≢ None)
      → now ≡ record start { at = follow g judge log start.at }
  whole start now o h = o.rest ∙ ap (λ (x : Follower P). record start { at = x }) (follow_is start.at now.at o.reach (rests now.at h))

pub get_map : (xs : List Event) (i : ℕ) (d : Event) → i < length xs → d ≡ get_or xs i d → slice_get (map entry xs) i ≡ Some (entry d)
get_map [] i d h e = absurd (omega arith)
get_map (x ∷ xs) zero d h e = ap (λ y. Some (entry y)) (sym e)
get_map (x ∷ xs) (suc i) d h e = get_map xs i d (omega arith) e

pub length_map : (xs : List Event) → length (map entry xs) ≡ length xs
length_map [] = refl
length_map (x ∷ xs) = ap suc (length_map xs)

pub none_from : (o f : Option Fate) → is_some o ≡ false → o ≡ f → f ≡ None
none_from None f h e = sym e
none_from (Some x) f h e = cc
