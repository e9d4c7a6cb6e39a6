-- Events without a fault are those that a kernel comes to.
use Rattle.std.proofs.Common.{◌≡◌, ℕ, zero, suc, Bool, true, false, not, ◌==◌, ◌&&◌, ◌||◌, List, [], ◌∷◌, ◌++◌, length, take, Option, Some, None, cond, ⊎_elim, refl, sym, ap, subst, ◌∙◌, arith, append_assoc, append-nil}
use Rattle.std.specs.Prelude.{slice_get, Contains}
use Rattle.std.specs.Option.{option_or}
use Rattle.std.specs.Ordering.{int_eq}
use Rattle.std.specs.Str.{bytes_eq}
use Rattle.std.proofs.lemmas.Bool.{and_parts, or_cases}
use Rattle.std.proofs.lemmas.Bool.Decides.{nat_tests, Decides-int_eq}
use Rattle.std.proofs.lemmas.Slice.Eq.{bytes_eq-Decides}
use Rattle.std.proofs.lemmas.Option.{slice_get_within}
use Rattle.nv_calls.specs.Calls.{Response, Entry}
use Rattle.nv_calls.specs.Logs.{Start, served, calls_of, live_after, IsLegal}
use Rattle.nv_calls.specs.Shapes.{is_shaped, IsShaped}
use Rattle.nv_calls.proofs.LogLaws.{at_more, take_left, take_whole, legal_none, legal_more}
use Rattle.nv_trace.specs.declared.fault.CheckFault.{CheckFault}
use Rattle.nv_trace.specs.Checks.{AreStamped, AreSoundEvents, is_live, is_reply, entry_fault, faults_after, check_fault}

or_none : {A : Type 0} (a b : Option A) → option_or a b ≡ None → (a ≡ None) × (b ≡ None)
or_none None b h = (refl, h)
or_none (Some a) b h = cc

test_out : (b : Bool) (fault : CheckFault) (o : Option CheckFault) → cond b (Some fault) o ≡ None → (b ≡ false) × (o ≡ None)
test_out true fault o h = cc
test_out false fault o h = (refl, h)

true_of : (b : Bool) → not b ≡ false → b ≡ true
true_of true h = refl
true_of false h = cc

-- ---- tests and facts

pub lives_is : (live : List ℕ) (t : ℕ) → is_live live t ≡ true → Contains live t
lives_is [] t h = cc
lives_is (x ∷ live) t h = ⊎_elim
    (λ (e : (x == t) ≡ true). let same : x ≡ t = grind (arith, nat_tests) in (0, omega arith, same))
    (λ (e : is_live live t ≡ true). let more = lives_is live t e in (suc more.0, omega (arith, more.1), more.2))
    (or_cases (x == t) (is_live live t) h)

or_right : (a b : Bool) → b ≡ true → (a || b) ≡ true
or_right true b h = refl
or_right false b h = h

live_is : (live : List ℕ) (t : ℕ) → Contains live t → is_live live t ≡ true
live_is [] t (k, less, at) = absurd (omega arith)
live_is (x ∷ live) t (zero, less, at) = let same : (x == t) ≡ true = grind (arith, nat_tests) in ap (λ b. b || is_live live t) same
live_is (x ∷ live) t (suc k, less, at) = or_right (x == t) (is_live live t) (live_is live t (k, omega arith, at))

pub reply_is : (r s : Response) → is_reply r s ≡ true → r ≡ s
reply_is r s h =
    let both = and_parts (int_eq r.ret s.ret) (bytes_eq r.payload s.payload) h in
    let ret : r.ret ≡ s.ret = (Decides-int_eq r.ret s.ret).0 both.0 in
    let payload : r.payload ≡ s.payload = (bytes_eq-Decides r.payload s.payload).0 both.1 in
    λ i. record { ret = ret i; payload = payload i }

pub reply_same : (r : Response) → is_reply r r ≡ true
reply_same r = (λ i. (Decides-int_eq r.ret r.ret).1 refl i && (bytes_eq-Decides r.payload r.payload).1 refl i)

-- an event may come after a log
pub record MayCome (start : Start) (log : List Entry) (e : Entry) : Type 0 where
  pub shaped : IsShaped e.call
  pub lives : Contains (live_after log) e.call.tid
  pub legal : e ≡ served start log e.call

module _ (start : Start) (log : List Entry) (e : Entry) where
  served_is : e.stamp ≡ length log → start.replies (calls_of log) e.call ≡ e.reply → e ≡ served start log e.call
  served_is stamp reply = λ i. record { stamp = stamp i; call = e.call; reply = sym reply i }

  pub may_come : e.stamp ≡ length log → entry_fault start log e ≡ None → MayCome start log e
  unfolding entry_fault
  may_come stamp h =
      let first = test_out _ _ _ h in
      let second = test_out _ _ _ first.1 in
      let third = test_out _ _ _ second.1 in
      let fourth = test_out _ _ _ third.1 in
      record {
        shaped = true_of (is_shaped e.call) second.0;
        lives = lives_is (live_after log) e.call.tid (true_of (is_live (live_after log) e.call.tid) third.0);
        legal = served_is stamp (reply_is (start.replies (calls_of log) e.call) e.reply (true_of (is_reply (start.replies (calls_of log) e.call) e.reply) fourth.0));
      }

  some_live : (live : List ℕ) (t : ℕ) → Contains live t → (length live == 0) ≡ false
  some_live live t (k, less, at) = grind (arith, nat_tests)

  pub comes_faultless : MayCome start log e → entry_fault start log e ≡ None
  unfolding entry_fault
  comes_faultless m =
      let reply : start.replies (calls_of log) e.call ≡ e.reply = ap (λ (f : Entry). f.reply) (sym m.legal) in
      let same : is_reply (start.replies (calls_of log) e.call) e.reply ≡ true = ap (λ r. is_reply r e.reply) reply ∙ reply_same e.reply in
      rw (some_live (live_after log) e.call.tid m.lives, m.shaped, live_is (live_after log) e.call.tid m.lives, same) refl

-- ---- lists of events

pub here : (log es : List Entry) (e : Entry) → slice_get (log ++ e ∷ es) (length log) ≡ Some e
here [] es e = refl
here (x ∷ log) es e = here log es e

module _ (start : Start) where
  pub faults_append : (log xs ys : List Entry) → faults_after start log (xs ++ ys) ≡ option_or (faults_after start log xs) (faults_after start (log ++ xs) ys)
  faults_append log [] ys = ap (λ l. faults_after start l ys) (sym (append-nil log))
  faults_append log (x ∷ xs) ys =
      ap (option_or (entry_fault start log x)) (faults_append (log ++ x ∷ []) xs ys ∙ ap (λ l. option_or (faults_after start (log ++ x ∷ []) xs) (faults_after start l ys)) (append_assoc log (x ∷ []) xs))
      ∙ assoc (entry_fault start log x) _ _
    where
      assoc : {A : Type 0} (a b c : Option A) → option_or a (option_or b c) ≡ option_or (option_or a b) c
      assoc None b c = refl
      assoc (Some a) b c = refl

  pub sound_none : AreSoundEvents start []
  sound_none = record { legal = legal_none start; shaped = λ i e h. cc; live = λ i e h. cc }

  pub sound_more : (log : List Entry) (e : Entry) → AreSoundEvents start log → MayCome start log e → AreSoundEvents start (log ++ e ∷ [])
  sound_more log e ok m = record {
    legal = subst (λ (x : Entry). IsLegal start (log ++ x ∷ [])) (sym m.legal) (legal_more start log e.call ok.legal);
    shaped = λ i x h. ⊎_elim (λ (q : slice_get log i ≡ Some x). ok.shaped i x q) (λ (q : (i ≡ length log) × (e ≡ x)). subst (λ (y : Entry). IsShaped y.call) q.1 m.shaped) (at_more log e x i h);
    live = λ i x h. ⊎_elim
        (λ (q : slice_get log i ≡ Some x).
        let within = slice_get_within log i x q in
        subst (λ (z : List Entry). Contains (live_after z) x.call.tid) (sym (take_left log (e ∷ []) i (omega arith))) (ok.live i x q))
        (λ (q : (i ≡ length log) × (e ≡ x)).
        subst (λ (y : Entry). Contains (live_after (take i (log ++ e ∷ []))) y.call.tid) q.1
        (subst (λ (k : ℕ). Contains (live_after (take k (log ++ e ∷ []))) e.call.tid) (sym q.0)
        (subst (λ (z : List Entry). Contains (live_after z) e.call.tid) (sym (take_whole log (e ∷ []))) m.lives)))
        (at_more log e x i h);
  }

  sound_after : (es log : List Entry) → AreStamped (log ++ es) → AreSoundEvents start log → faults_after start log es ≡ None → AreSoundEvents start (log ++ es)
  sound_after [] log stamps ok h = subst (AreSoundEvents start) (sym (append-nil log)) ok
  sound_after (e ∷ es) log stamps ok h =
      let both = or_none (entry_fault start log e) _ h in
      let m = may_come start log e (stamps (length log) e (here log es e)) both.0 in
      let assoc : (log ++ e ∷ []) ++ es ≡ log ++ (e ∷ es) = append_assoc log (e ∷ []) es in
      subst (AreSoundEvents start) assoc (sound_after es (log ++ e ∷ []) (subst AreStamped (sym assoc) stamps) (sound_more log e ok m) both.1)

  -- events without a fault are sound
  pub sound_is : (events : List Entry) → AreStamped events → check_fault start events ≡ None → AreSoundEvents start events
  unfolding check_fault
  sound_is events stamps h = sound_after events [] stamps sound_none h

  come : (log es : List Entry) (e : Entry) → AreSoundEvents start (log ++ e ∷ es) → MayCome start log e
  come log es e ok =
      let at = here log es e in
      let before : take (length log) (log ++ e ∷ es) ≡ log = take_whole log (e ∷ es) in
      record {
        shaped = ok.shaped (length log) e at;
        lives = subst (λ (z : List Entry). Contains (live_after z) e.call.tid) before (ok.live (length log) e at);
        legal = subst (λ (z : List Entry). e ≡ served start z e.call) before (ok.legal (length log) e at);
      }

  faultless_after : (es log : List Entry) → AreSoundEvents start (log ++ es) → faults_after start log es ≡ None
  faultless_after [] log ok = refl
  faultless_after (e ∷ es) log ok =
      let assoc : (log ++ e ∷ []) ++ es ≡ log ++ (e ∷ es) = append_assoc log (e ∷ []) es in
      ap (λ o. option_or o (faults_after start (log ++ e ∷ []) es)) (comes_faultless start log e (come log es e ok))
      ∙ faultless_after es (log ++ e ∷ []) (subst (AreSoundEvents start) (sym assoc) ok)

  -- sound events have no fault
  pub faultless_is : (events : List Entry) → AreSoundEvents start events → check_fault start events ≡ None
  unfolding check_fault
  faultless_is events ok = faultless_after events [] ok

  pub unsound_is : (events : List Entry) (fault : CheckFault) → check_fault start events ≡ Some fault → AreSoundEvents start events → ⊥
  unsound_is events fault h ok = let none = faultless_is events ok in let bad : Some fault ≡ None = sym h ∙ none in cc
