-- The turns of a run come to rest.
use Rattle.std.proofs.Common.{◌≡◌, sym, ap, refl, inl, inr, arith, length-append}
use Rattle.std.specs.Prelude.{ℕ, suc, ◌+◌, ◌<◌, ◌≤◌, ◌⊎◌, Bool, true, false, List, [], ◌∷◌, length, Option, Some, None, slice_get}
use Rattle.nv_calls.specs.Calls.{Entry}
use Rattle.nv_calls.specs.Logs.{Start}
use Rattle.nv_threads.specs.Behaviours.{Behaviour}
use Rattle.nv_replay.specs.declared.fate.Fate.{Fate}
use Rattle.nv_replay.specs.Follow.{Follower, Judge}
use Rattle.nv_replay.specs.Lead.{Leader}
use Rattle.nv_replay.proofs.Settled.{Reaches, reached, Falls}
use Rattle.nv_replay.specs.Hands.{count_above, is_handed}
use Rattle.nv_replay.specs.Monitor.{Part, Run, begun, after_lead, tracked_by, leads_on, turn_by, turn_of, turn_in, turn, account_of, sequence}
use Rattle.nv_replay.proofs.Numbers.{above_later, above_less, above_all, handed_at, numbers_length}
use Rattle.nv_replay.proofs.Stretches.{hand_grows}

-- versions that may lead, and planned lengths that are still to come
abbrev pub turns_left : {P : Type 0} → List ℕ → Run P → ℕ
turns_left hands m = length m.order + count_above hands (length m.log)

module _ {P : Type 0} (g : Behaviour P) (judges : ℕ → Judge) (start : Start) (most : ℕ) (cuts : ℕ → Option ℕ) (hands : List ℕ) where
  abbrev leads : List Entry → ℕ → Follower P → Leader P
  leads log i f = leads_on g judges start most cuts hands log i f

  abbrev tracks : List Entry → ℕ → Part P → Follower P
  tracks log i v = tracked_by g judges start most cuts hands log i v

  pub after_falls : (m : Run P) (i : ℕ) (order : List ℕ) (v : Part P) (f : Follower P) (l : Leader P) (b : Bool) → is_handed hands (length m.log) l ≡ b
      → length m.log ≤ length l.log → turns_left hands (after_lead m i order v f l b) < suc (length order) + count_above hands (length m.log)
  after_falls m i order v f l true h k =
      let d = handed_at hands (length m.log) l h in
      omega (arith, length-append order (i ∷ []), above_less hands (length m.log) (length l.log) d.grew d.planned)
  after_falls m i order v f l false h k = omega (arith, above_later hands (length m.log) (length l.log) k)

  pub grows : (log : List Entry) (i : ℕ) (f : Follower P) → length log ≤ length (leads log i f).log
  grows log i f =
      let m = hand_grows g start most (cuts i) hands (length log) (record { process = f.process; log = log; fate = None }) in
      omega (arith, ap length m.1, length-append log m.0)

  by_falls : (m : Run P) (i : ℕ) (order : List ℕ) (v : Part P) (f : Follower P) (o : Option Fate)
      → turns_left hands (turn_by g judges start most cuts hands m i order v f o) < suc (length order) + count_above hands (length m.log)
  by_falls m i order v f (Some x) = omega arith
  by_falls m i order v f None = after_falls m i order v f (leads m.log i f) (is_handed hands (length m.log) (leads m.log i f)) refl (grows m.log i f)

  of_falls : (m : Run P) (i : ℕ) (order : List ℕ) (o : Option (Part P))
      → turns_left hands (turn_of g judges start most cuts hands m i order o) < suc (length order) + count_above hands (length m.log)
  of_falls m i order None = omega arith
  of_falls m i order (Some v) = by_falls m i order v (tracks m.log i v) (tracks m.log i v).fate

  in_falls : (m : Run P) (over : Bool) (order : List ℕ) → m.order ≡ order
      → (turn_in g judges start most cuts hands m over order ≡ m) ⊎ (turns_left hands (turn_in g judges start most cuts hands m over order) < turns_left hands m)
  in_falls m true order h = inl refl
  in_falls m false [] h = inl refl
  in_falls m false (i ∷ order) h = inr (rw h (of_falls m i order (slice_get m.parts i)))

  pub turn_falls : Falls (turn g judges start most cuts hands) (turns_left hands)
  unfolding turn
  turn_falls = record { each = λ m. in_falls m m.over m.order refl }

  -- the five cases of a turn
  over_in : (m : Run P) (order : List ℕ) (b : Bool) → b ≡ true → turn_in g judges start most cuts hands m b order ≡ m
  over_in m order true h = refl
  over_in m order false h = cc

  pub over_rests : (m : Run P) → m.over ≡ true → turn g judges start most cuts hands m ≡ m
  unfolding turn
  over_rests m h = over_in m m.order m.over h

  empty_in : (m : Run P) (order : List ℕ) (b : Bool) → order ≡ [] → turn_in g judges start most cuts hands m b order ≡ m
  empty_in m [] true h = refl
  empty_in m [] false h = refl
  empty_in m (i ∷ order) b h = cc

  pub empty_rests : (m : Run P) → m.order ≡ [] → turn g judges start most cuts hands m ≡ m
  unfolding turn
  empty_rests m h = empty_in m m.order m.over h

  pub dropped : (m : Run P) (i : ℕ) (order : List ℕ) (v : Part P) (x : Fate) → m.over ≡ false → m.order ≡ i ∷ order → slice_get m.parts i ≡ Some v
      → (tracks m.log i v).fate ≡ Some x → turn g judges start most cuts hands m ≡ record m { order = order }
  unfolding turn
  dropped m i order v x a b c d = rw (a, b, c, d) refl

  pub led : (m : Run P) (i : ℕ) (order : List ℕ) (v : Part P) → m.over ≡ false → m.order ≡ i ∷ order → slice_get m.parts i ≡ Some v
      → (tracks m.log i v).fate ≡ None
      → turn g judges start most cuts hands m ≡ after_lead m i order v (tracks m.log i v) (leads m.log i (tracks m.log i v)) (is_handed hands (length m.log) (leads m.log i (tracks m.log i v)))
  unfolding turn
  led m i order v a b c d = rw (a, b, c, d) refl

  pub few_at_first : (ps : List P) → turns_left hands (begun ps) ≤ length ps + length hands
  few_at_first ps = omega (arith, numbers_length 0 ps, above_all hands 0)

  -- what rests and was reached is the run
  pub sequence_is : (ps : List P) (m : Run P) → Reaches (turn g judges start most cuts hands) (begun ps) m → turn g judges start most cuts hands m ≡ m
      → account_of g judges start most cuts hands m ≡ sequence g judges start most cuts hands ps
  unfolding sequence
  sequence_is ps m r h = ap (λ (x : Run P). account_of g judges start most cuts hands x)
      (sym (reached (turn g judges start most cuts hands) (turns_left hands) turn_falls (length ps + length hands) (begun ps) (few_at_first ps) r.steps m r.is h))
