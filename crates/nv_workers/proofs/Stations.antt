-- What the room and the workers tell once all versions have ended, by station: each station is a version's place in the order.
use Rattle.std.specs.Prelude.{◌≡◌, ℕ, zero, suc, ◌+◌, ◌<◌, ◌≤◌, ◌⊎◌, true, false, List, [], ◌∷◌, ◌++◌, length, take, Option, Some, None, slice_get}
use Rattle.nv_calls.specs.Calls.{Entry}
use Rattle.nv_calls.specs.Logs.{Start, live_after}
use Rattle.nv_threads.specs.Behaviours.{Behaviour}
use Rattle.nv_replay.specs.Follow.{Follower, Judge, IsInStep, is_exited}
use Rattle.nv_replay.specs.Lead.{Leader}
use Rattle.nv_replay.specs.Hands.{is_handed}
use Rattle.nv_replay.specs.Sequence.{is_going}
use Rattle.nv_replay.specs.Monitor.{Part, Run, after_lead, tracked_by, leads_on}

-- one station's spans lead from x to y
abbrev pub SpanFrom : List (ℕ × ℕ) → ℕ → ℕ → Type 0
SpanFrom [] x y = y ≡ x
SpanFrom (span ∷ []) x y = (span.0 ≡ x) × (span.1 ≡ y)
SpanFrom (span ∷ more ∷ spans) x y = ⊥

-- the spans of n stations, from number k on, tile what lies from x to y
abbrev pub Tile : (ℕ → List (ℕ × ℕ)) → ℕ → ℕ → ℕ → ℕ → Type 0
Tile spans k zero x y = x ≡ y
Tile spans k (suc n) x y = (z : ℕ) × SpanFrom (spans k) x z × Tile spans (k + 1) n z y

module _ {P : Type 0} (g : Behaviour P) (judges : ℕ → Judge) (start : Start) (most : ℕ) (cuts : ℕ → Option ℕ) (hands : List ℕ)
    (h : List Entry) (spans : ℕ → List (ℕ × ℕ)) (total : ℕ) where
  -- station k's seat ended as a reader: its version, which led these parts before, has its fate within the events that the seat
  -- read, and no station above began to lead before those
  pub record WentBy (k i : ℕ) (v : Part P) : Type 0 where
    pub read : List Entry
    pub rest : List Entry
    pub prefix : h ≡ read ++ rest
    pub none : spans k ≡ []
    pub below : (j a b : ℕ) → k < j → j < total → spans j ≡ (a, b) ∷ [] → length read ≤ a
    pub at : Follower P
    -- it comes to that however the log goes on
    pub is : (more : List Entry) → tracked_by g judges start most cuts hands (read ++ more) i v ≡ at
    pub ended : is_going at.fate ≡ false

  -- station k's seat led: where it took the lead, its version was in step with the whole log
  pub record LedBy (k i : ℕ) (v : Part P) : Type 0 where
    pub from : ℕ
    pub log : List Entry
    pub rest : List Entry
    pub prefix : h ≡ log ++ rest
    pub span : spans k ≡ (from, length log) ∷ []
    pub within : from ≤ length log
    pub on : (tracked_by g judges start most cuts hands (take from log) i v).fate ≡ None
    pub seen : (tracked_by g judges start most cuts hands (take from log) i v).seen ≡ from
    pub in_step : IsInStep g (take from log) (tracked_by g judges start most cuts hands (take from log) i v)
    pub end : Leader P
    pub lead : leads_on g judges start most cuts hands (take from log) i (tracked_by g judges start most cuts hands (take from log) i v) ≡ end
    pub end_log : end.log ≡ log
    pub exited : is_exited end.fate ≡ true → live_after log ≡ []

  -- a run after station k's seat has led
  abbrev pub after_station : Run P → (k i : ℕ) → List ℕ → (v : Part P) → LedBy k i v → Run P
  after_station m k i order v x =
      after_lead m i order v (tracked_by g judges start most cuts hands m.log i v) x.end (is_handed hands (length m.log) x.end)

  -- the stations from number k on, with the order in which their versions stand: a station that hands over opens the next one that
  -- no version has, for the same version
  abbrev pub AreSeats : ℕ → ℕ → Run P → Run P → Type 0
  AreSeats zero k m last = (m.order ≡ []) × (m ≡ last)
  AreSeats (suc n) k m last = (i : ℕ) × (order : List ℕ) × (v : Part P) × (m.order ≡ i ∷ order) × (slice_get m.parts i ≡ Some v)
      × ((WentBy k i v × AreSeats n (k + 1) (record m { order = order }) last)
      ⊎ ((x : LedBy k i v) × AreSeats n (k + 1) (after_station m k i order v x) last))
