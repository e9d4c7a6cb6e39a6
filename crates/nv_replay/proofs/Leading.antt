-- A leader's next call, by what the guest came to.
use Rattle.std.proofs.Common.{◌≡◌, ◌∙◌, sym, ap, subst, refl, ℕ, Bool, true, false, List, [], ◌∷◌, ◌++◌, length, Option, Some, None, cond}
use Rattle.std.specs.Prelude.{nat_le}
use Rattle.nv_threads.specs.Behaviours.{Behaviour, IsProcess}
use Rattle.nv_threads.specs.declared.turns.Want.TheVariants.{Any}
use Rattle.nv_threads.specs.declared.turns.Came.{Came}
use Rattle.nv_threads.specs.declared.turns.Came.TheVariants.{Asked, Fault}
use Rattle.nv_machine.specs.declared.outcome.FaultKind.{FaultKind}
use Rattle.nv_machine.specs.declared.outcome.FaultKind.TheVariants.{Calls}
use Rattle.nv_replay.specs.declared.fate.Fate.TheVariants.{Fault as Faulted, Memory}
use Rattle.nv_calls.specs.Calls.{Entry}
use Rattle.nv_calls.specs.Logs.{Start, served}
use Rattle.nv_replay.specs.Follow.{is_exited}
use Rattle.nv_replay.specs.Lead.{is_cut, is_memory, logged, next_call}
use Rattle.nv_replay.specs.Version.{Running, asking_by, asking_next, became_event, leader_of}

module _ {P : Type 0} (g : Behaviour P) (most : ℕ) (r : Running P) where
  -- it asks the call of this thread
  abbrev pub asks : ℕ → Running P
  asks t = record r { at = record r.at { process = g.after r.at.process Any }; asked = Some t }

  -- as many events as there may be stand before the call, so that it ends there
  abbrev ends : ℕ → Running P
  ends t = record r { at = record r.at { process = g.after r.at.process Any; fate = Some (Faulted Calls t (g.pc (g.after r.at.process Any) t)) } }

  pub record AskedFor (n : Running P) (t : ℕ) : Type 0 where
    pub came : g.came r.at.process Any ≡ Asked t
    pub few : nat_le most r.at.seen ≡ false
    pub new : n ≡ asks t

  asked_if : (n : Running P) (t u : ℕ) (b : Bool) → nat_le most r.at.seen ≡ b → g.came r.at.process Any ≡ Asked u → r.asked ≡ None
      → n ≡ cond b (ends u) (asks u) → n.asked ≡ Some t → AskedFor n t
  asked_if n t u true m c a h k = cc
  asked_if n t u false m c a h k =
      let e : u ≡ t = cc in
      record {
        came = c ∙ ap Asked e;
        few = m;
        new = h ∙ ap asks e;
      }

  asked_by : (n : Running P) (t : ℕ) (came : Came) → g.came r.at.process Any ≡ came → r.asked ≡ None
      → n ≡ asking_by g most r (g.after r.at.process Any) came → n.asked ≡ Some t → AskedFor n t
  unfolding asking_by
  asked_by n t (Fault kind tid pc) c a h k = cc
  asked_by n t (Asked u) c a h k = asked_if n t u (nat_le most r.at.seen) refl c a h k

  pub asking_fault : (k : FaultKind) (t pc : ℕ) → g.came r.at.process Any ≡ Fault k t pc
      → asking_next g most r ≡ record r { at = record r.at { process = g.after r.at.process Any; fate = Some (Faulted k t pc) } }
  unfolding asking_next asking_by
  asking_fault k t pc h = rw h refl

  pub asking_asked : (t : ℕ) → g.came r.at.process Any ≡ Asked t
      → asking_next g most r ≡ asking_by g most (record r { at = record r.at { process = g.after r.at.process Any } })
      (g.after r.at.process Any) (Asked t)
  unfolding asking_next asking_by
  asking_asked t h = rw h refl

  -- it came to none, and has ended by a fault
  pub record EndedBy (n : Running P) : Type 0 where
    pub rest : n ≡ record r { at = record r.at { process = n.at.process; fate = n.at.fate } }
    pub fault : is_memory n.at.fate ≡ false
    pub ended : n.at.fate ≡ None → ⊥
    pub dead : is_exited n.at.fate ≡ false

  ended_at : (n m : Running P) → n ≡ m → m ≡ record r { at = record r.at { process = m.at.process; fate = m.at.fate } }
      → is_memory m.at.fate ≡ false → (m.at.fate ≡ None → ⊥) → is_exited m.at.fate ≡ false → EndedBy n
  ended_at n m e a b d x = subst EndedBy (sym e) (record { rest = a; fault = b; ended = d; dead = x })

  ended_if : (n : Running P) (u : ℕ) (b : Bool) → r.asked ≡ None
      → n ≡ cond b (ends u) (asks u) → n.asked ≡ None → EndedBy n
  ended_if n u true a h k = ended_at n _ h refl refl (λ z. cc) refl
  ended_if n u false a h k = let z : n.asked ≡ Some u = ap (λ (y : Running P). y.asked) h in cc

  ended_by : (n : Running P) (came : Came) → r.asked ≡ None → n ≡ asking_by g most r (g.after r.at.process Any) came → n.asked ≡ None → EndedBy n
  unfolding asking_by
  ended_by n (Fault kind tid pc) a h k = ended_at n _ h refl refl (λ z. cc) refl
  ended_by n (Asked u) a h k = ended_if n u (nat_le most r.at.seen) a h k

  pub ending_cases : (n : Running P) → r.asked ≡ None → n ≡ asking_next g most r → n.asked ≡ None → EndedBy n
  unfolding asking_next
  ending_cases n a h k = ended_by n (g.came r.at.process Any) a h k

  -- it came to a call
  pub asking_cases : (n : Running P) (t : ℕ) → r.asked ≡ None → n ≡ asking_next g most r → n.asked ≡ Some t → AskedFor n t
  unfolding asking_next
  asking_cases n t a h k = asked_by n t (g.came r.at.process Any) refl a h k

-- the step of Lead that each end of a turn is
module _ {P : Type 0} (g : Behaviour P) (replies : Start) (most : ℕ) (c : Option ℕ) (r : Running P) (log : List Entry) where
  pub led_if : (t : ℕ) (b d : Bool) → nat_le most (length log) ≡ b → is_cut c (length log) ≡ d → g.came r.at.process Any ≡ Asked t → r.at.fate ≡ None
      → next_call g replies most c (leader_of r log) ≡ cond b
      (record { process = g.after r.at.process Any; log = log; fate = Some (Faulted Calls t (g.pc (g.after r.at.process Any) t)) })
      (cond d (record { process = g.after r.at.process Any; log = log; fate = Some Memory })
      (logged g replies most c (leader_of r log) (g.answered (g.after r.at.process Any) t
      (served replies log (g.call (g.after r.at.process Any) t)).reply) (served replies log (g.call (g.after r.at.process Any) t))))
  unfolding next_call
  led_if t b d m k h f = rw (f, h, m, k) refl

  dropped_by : (n : Running P) (came : Came) (b : Bool) → nat_le most r.at.seen ≡ b → r.at.seen ≡ length log
      → g.came r.at.process Any ≡ came → r.asked ≡ None → r.at.fate ≡ None → n ≡ asking_by g most r (g.after r.at.process Any) came
      → n.asked ≡ None → leader_of n log ≡ next_call g replies most c (leader_of r log)
  unfolding asking_by next_call
  dropped_by n (Fault kind tid pc) b m s h a f k x = rw (f, h) (ap (λ (y : Running P). leader_of y log) k)
  dropped_by n (Asked t) true m s h a f k x = let k' = rw m at k in rw (f, h, ← s, m) (ap (λ (y : Running P). leader_of y log) k')
  dropped_by n (Asked t) false m s h a f k x = let k' = rw m at k in let z : n.asked ≡ Some t = ap (λ (y : Running P). y.asked) k' in cc

  -- it ended before a call was served
  pub lead_dropped : (n : Running P) → r.at.seen ≡ length log → r.asked ≡ None → r.at.fate ≡ None → n ≡ asking_next g most r
      → n.asked ≡ None → leader_of n log ≡ next_call g replies most c (leader_of r log)
  unfolding asking_next
  lead_dropped n s a f k x = dropped_by n (g.came r.at.process Any) (nat_le most r.at.seen) refl s refl a f k x

  -- memory was refused
  pub lead_refused : (n : Running P) (t : ℕ) → r.at.seen ≡ length log → r.at.fate ≡ None → AskedFor g most r n t
      → is_cut c (length log) ≡ true → record { process = n.at.process; log = log; fate = Some Memory } ≡ next_call g replies most c (leader_of r log)
  lead_refused n t s f a k =
      let m : nat_le most (length log) ≡ false = rw (← s) a.few in
      rw (led_if t false true m k a.came f) (ap (λ (y : Running P). record { process = y.at.process; log = log; fate = Some Memory }) a.new)

  -- the call was served
  pub lead_served : (n : Running P) (t : ℕ) → IsProcess g → r.at.seen ≡ length log → r.at.fate ≡ None → AskedFor g most r n t
      → is_cut c (length log) ≡ false → leader_of (became_event g (served replies log (g.call n.at.process t)) n)
      (log ++ served replies log (g.call n.at.process t) ∷ []) ≡ next_call g replies most c (leader_of r log)
  lead_served n t laws s f a k =
      let m : nat_le most (length log) ≡ false = rw (← s) a.few in
      let own : (g.call (g.after r.at.process Any) t).tid ≡ t = laws.own (g.after r.at.process Any) t in
      rw (led_if t false false m k a.came f, a.new) (rw own refl)
