-- A version that isn't let go comes to what it would come to without a cut.
use Rattle.std.proofs.Common.{◌≡◌, ◌∙◌, sym, ap, refl, ℕ, zero, suc, ◌<◌, ◌≤◌, Bool, true, false, List, [], ◌∷◌, ◌++◌, length, take, drop, Option, Some, None, arith, take-append-drop, append_assoc, length-append}
use Rattle.std.specs.Prelude.{nat_lt, slice_get}
use Rattle.std.proofs.lemmas.Bool.Decides.{nat_tests}
use Rattle.std.proofs.lemmas.List.{take_all}
use Rattle.nv_calls.specs.Calls.{Entry}
use Rattle.nv_threads.specs.Behaviours.{Behaviour, IsProcess}
use Rattle.nv_replay.specs.declared.fate.Fate.{Fate}
use Rattle.nv_replay.specs.declared.fate.Fate.TheVariants.{LetGo}
use Rattle.nv_replay.specs.Follow.{Follower, Judge, fresh, is_exited}
use Rattle.nv_replay.specs.LettingGo.{front, left_behind, let_go}
use Rattle.nv_replay.specs.Tracks.{track, track_on, track_next}
use Rattle.nv_replay.proofs.Tracking.{track_ended, track_reached, track_is}
use Rattle.nv_replay.proofs.Settled.{Reaches}
use Rattle.nv_replay.specs.Sequence.{is_going}

module _ {P : Type 0} where
  on_before : (f : Follower P) (b : Bool) (o : Option Fate) → f.fate ≡ o → (left_behind f b o).fate ≡ None → b ≡ false
  on_before f true None e h = cc
  on_before f true (Some x) e h = cc
  on_before f false o e h = refl

  -- a log that its cut isn't below is followed whole
  pub uncut : (c : Option ℕ) (log : List Entry) (F : List Entry → Follower P) → ((n : ℕ) → c ≡ Some n → length log ≤ n) → let_go c log (F (front c log)) ≡ F log
  uncut None log F h = refl
  uncut (Some n) log F h =
      let l : length log ≤ n = h n refl in
      let b : nat_lt n (length log) ≡ false = grind (arith, nat_tests) in
      ap (λ (x : Bool). left_behind (F (take n log)) x (F (take n log)).fate) b ∙ ap F (take_all n log l)

  -- who goes on has followed it whole
  pub goes_on : (c : Option ℕ) (log : List Entry) (F : List Entry → Follower P) → (let_go c log (F (front c log))).fate ≡ None → let_go c log (F (front c log)) ≡ F log
  goes_on None log F h = refl
  goes_on (Some n) log F h =
      let f : Follower P = F (take n log) in
      let b : nat_lt n (length log) ≡ false = on_before f (nat_lt n (length log)) f.fate refl h in
      let l : length log ≤ n = grind (arith, nat_tests) in
      ap (λ (x : Bool). left_behind f x f.fate) b ∙ ap F (take_all n log l)

  -- at its cut, with an event more to follow, it is let go
  pub is_left : (n : ℕ) (log : List Entry) (f : Follower P) → n < length log → f.fate ≡ None → let_go (Some n) log f ≡ record f { fate = Some LetGo }
  is_left n log f l h =
      let b : nat_lt n (length log) ≡ true = grind (arith, nat_tests) in
      (λ j. left_behind f (b j) (h j))

module _ {P : Type 0} (g : Behaviour P) (laws : IsProcess g) (judge : Judge) (spans : List (ℕ × ℕ)) (p : P) where
  abbrev comes : List Entry → Follower P
  comes log = track g judge spans log (fresh p)

  exited_by : (n : ℕ) (log : List Entry) (b : Bool) (o : Option Fate) → nat_lt n (length log) ≡ b → (comes (take n log)).fate ≡ o → is_exited (left_behind (comes (take n log)) b o).fate ≡ true
      → left_behind (comes (take n log)) b o ≡ comes log
  exited_by n log true None m e h = cc
  exited_by n log true (Some x) m e h =
      track_ended g laws judge spans p (comes (take n log)) (take n log) (drop n log) (track_reached g laws judge spans (take n log) (fresh p)) (rw e refl)
      ∙ ap comes (take-append-drop n log)
  exited_by n log false o m e h = let l : length log ≤ n = grind (arith, nat_tests) in ap comes (take_all n log l)

  -- who exited did so before its cut
  pub exited_whole : (c : Option ℕ) (log : List Entry) → is_exited (let_go c log (comes (front c log))).fate ≡ true → let_go c log (comes (front c log)) ≡ comes log
  exited_whole None log h = refl
  exited_whole (Some n) log h = exited_by n log (nat_lt n (length log)) (comes (take n log)).fate refl refl h

  -- who ended within a part of the log, at no cut, came there over the whole log
  pub ended_is : (c : Option ℕ) (read more : List Entry) (at : Follower P) → c ≡ None → Reaches (track_next g judge spans read) (fresh p) at → is_going at.fate ≡ false
      → let_go c (read ++ more) (comes (front c (read ++ more))) ≡ at
  ended_is c read more at none r e = ap (λ (x : Option ℕ). let_go x (read ++ more) (comes (front x (read ++ more)))) none ∙ sym (track_ended g laws judge spans p at read more r e)

  past : (log : List Entry) (n : ℕ) → length log ≤ n → slice_get log n ≡ None
  past [] n h = refl
  past (e ∷ log) zero h = absurd (omega arith)
  past (e ∷ log) (suc n) h = past log n (omega arith)

  rests_by : (s : Follower P) (o : Option Entry) (f : Option Fate) → o ≡ None → track_on g judge spans s o f ≡ s
  rests_by s o (Some f) h = refl
  rests_by s None None h = refl
  rests_by s (Some e) None h = cc

  rests_at : (log : List Entry) (s : Follower P) → s.seen ≡ length log → track_next g judge spans log s ≡ s
  unfolding track_next
  rests_at log s h = rests_by s (slice_get log s.seen) s.fate (past log s.seen (omega arith))

  -- who was still going after so many events is let go at the next one, however the log goes on
  pub let_go_is : (seen : List Entry) (e : Entry) (more : List Entry) (at : Follower P) → Reaches (track_next g judge spans seen) (fresh p) at → at.fate ≡ None → at.seen ≡ length seen
      → let_go (Some (length seen)) ((seen ++ e ∷ []) ++ more) (comes (front (Some (length seen)) ((seen ++ e ∷ []) ++ more))) ≡ record at { fate = Some LetGo }
  let_go_is seen e more at r on n =
      let log : List Entry = (seen ++ e ∷ []) ++ more in
      let all : log ≡ seen ++ (e ∷ more) = append_assoc seen (e ∷ []) more in
      let cut : take (length seen) log ≡ seen = ap (take (length seen)) all ∙ take_own seen (e ∷ more) in
      let is : comes (take (length seen) log) ≡ at = ap comes cut ∙ sym (track_is g laws judge spans seen (fresh p) at r (rests_at seen at n)) in
      let long : length seen < length log = omega (arith, ap length all, length-append seen (e ∷ more)) in
      is_left (length seen) log (comes (take (length seen) log)) long (ap (λ (x : Follower P). x.fate) is ∙ on) ∙ ap (λ (x : Follower P). record x { fate = Some LetGo }) is where
        take_own : (xs ys : List Entry) → take (length xs) (xs ++ ys) ≡ xs
        take_own [] ys = refl
        take_own (x ∷ xs) ys = ap (λ (l : List Entry). x ∷ l) (take_own xs ys)
