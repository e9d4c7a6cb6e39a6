-- The cuts at which a leader can have come so far, and where it comes to in the end.
use Rattle.std.proofs.Common.{◌≡◌, ◌∙◌, sym, ap, refl, ℕ, ◌+◌, ◌<◌, ◌≤◌, Bool, true, false, Option, Some, None, arith}
use Rattle.std.proofs.lemmas.Bool.Decides.{nat_tests}
use Rattle.nv_calls.specs.Logs.{Start}
use Rattle.nv_threads.specs.Behaviours.{Behaviour, IsProcess}
use Rattle.nv_replay.specs.declared.fate.Fate.{Fate}
use Rattle.nv_replay.specs.declared.fate.Fate.TheVariants.{Exited, Fault, Refused, Memory, LetGo}
use Rattle.nv_replay.specs.Lead.{Leader, is_cut, is_memory, cut_of, next_call, unless_ended, lead}
use Rattle.nv_replay.specs.Sequence.{is_going}
use Rattle.nv_replay.proofs.Settled.{Reaches, reached}
use Rattle.nv_replay.proofs.Falling.{lead_size, lead_falls}
use Rattle.nv_replay.specs.Turns.{Suits}

none_before : (n : ℕ) → (k : ℕ) → k < n → is_cut (Some n) k ≡ false
none_before n k h = grind (arith, nat_tests)

cut_below : (f : Option Fate) (n : ℕ) → (k : ℕ) → k < n → is_cut (cut_of f n) k ≡ false
cut_below None n k h = refl
cut_below (Some (Exited s)) n k h = refl
cut_below (Some (Fault a b c)) n k h = refl
cut_below (Some (Refused a b c d)) n k h = refl
cut_below (Some Memory) n k h = none_before n k h
cut_below (Some LetGo) n k h = refl

cut_here : (f : Option Fate) (n : ℕ) → is_cut (cut_of f n) n ≡ is_memory f
cut_here None n = refl
cut_here (Some (Exited s)) n = refl
cut_here (Some (Fault a b c)) n = refl
cut_here (Some (Refused a b c d)) n = refl
cut_here (Some Memory) n = grind (arith, nat_tests)
cut_here (Some LetGo) n = refl

cut_elsewhere : (f : Option Fate) (n m : ℕ) → is_memory f ≡ false → is_cut (cut_of f m) n ≡ false
cut_elsewhere None n m h = refl
cut_elsewhere (Some (Exited s)) n m h = refl
cut_elsewhere (Some (Fault a b c)) n m h = refl
cut_elsewhere (Some (Refused a b c d)) n m h = refl
cut_elsewhere (Some Memory) n m h = cc
cut_elsewhere (Some LetGo) n m h = refl

pub suits_end : (f : Option Fate) (n : ℕ) → Suits (cut_of f n) f n
suits_end f n = record { below = cut_below f n; end = λ h. refl }

module _ {P : Type 0} (g : Behaviour P) (laws : IsProcess g) (replies : Start) (most : ℕ) where
  ended_now : (c : Option ℕ) (f f' : Option Fate) (n n' : ℕ) (b : Bool) → is_memory f' ≡ b → f ≡ None → (is_memory f' ≡ true → n' ≡ n)
      → c ≡ cut_of f' n' → Suits c f n × (is_cut c n ≡ is_memory f')
  ended_now c f f' n n' true m e same k =
      let q : n' ≡ n = same m in
      let k' : c ≡ cut_of f' n = k ∙ ap (cut_of f') q in
      (record { below = λ j h. rw k' (cut_below f' n j h); end = λ h. let z = rw e at h in cc }, rw k' (cut_here f' n))
  ended_now c f f' n n' false m e same k =
      (record { below = λ j h. rw k (cut_elsewhere f' j n' m); end = λ h. let z = rw e at h in cc }, rw (k, m) (cut_elsewhere f' n n' m))

  pub suits_now : (c : Option ℕ) (f f' : Option Fate) (n n' : ℕ) → f ≡ None → (f' ≡ None → n' ≡ n + 1) → (is_memory f' ≡ true → n' ≡ n)
      → Suits c f' n' → Suits c f n × (is_cut c n ≡ is_memory f')
  suits_now c f None n n' e grew same s =
      let m : n' ≡ n + 1 = grew refl in
      (record { below = λ k h. s.below k (omega arith); end = λ h. let z = rw e at h in cc }, s.below n (omega arith))
  suits_now c f (Some x) n n' e grew same s = ended_now c f (Some x) n n' (is_memory (Some x)) refl e same (s.end refl)

  rests_by : (c : Option ℕ) (s : Leader P) (f : Option Fate) → is_going f ≡ false → unless_ended g replies most c s f ≡ s
  rests_by c s None h = cc
  rests_by c s (Some f) h = refl

  bound : (s : Leader P) (f : Option Fate) → f ≡ s.fate → lead_size g s ≤ g.calls_left s.process + 1
  unfolding lead_size
  bound s None h = rw (← h) (omega arith)
  bound s (Some f) h = rw (← h) (omega arith)

  pub lead_is : (c : Option ℕ) (s t : Leader P) → Reaches (next_call g replies most c) s t → is_going t.fate ≡ false → t ≡ lead g replies most c s
  unfolding lead next_call
  lead_is c s t r h = sym (reached (next_call g replies most c) (lead_size g) (lead_falls g laws replies most c)
      (g.calls_left s.process + 1) s (bound s s.fate refl) r.steps t r.is (rests_by c t t.fate h))
