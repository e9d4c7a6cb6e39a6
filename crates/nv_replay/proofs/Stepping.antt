-- A decision keeps a follower in step with a lawful log.
use Rattle.std.proofs.Common.{◌≡◌, ◌∙◌, sym, ap, subst, refl, ℕ, zero, suc, ◌+◌, ◌⊎◌, inl, inr, Bool, true, false, List, [], ◌∷◌, take, Option, Some, None, cond, arith}
use Rattle.std.specs.Prelude.{slice_get, option_map, Contains, ℤ, pos, ◌||◌, ◌&&◌, not, ◌==◌, nat_le, ◌-ℤ◌}
use Rattle.std.proofs.lemmas.Bool.Decides.{nat_tests}
use Rattle.nv_calls.specs.Calls.{Request, Response, Entry, is_same}
use Rattle.nv_calls.specs.Logs.{IsLawful, IsNew, live_next, live_from, live_after, child_of, made}
use Rattle.nv_calls.proofs.SameLaws.{same_is}
use Rattle.nv_threads.specs.Behaviours.{Behaviour, IsProcess, event_answered}
use Rattle.nv_threads.specs.declared.turns.Want.TheVariants.{Only}
use Rattle.nv_threads.specs.declared.turns.Came.{Came}
use Rattle.nv_threads.specs.declared.turns.Came.TheVariants.{Asked, Fault}
use Rattle.nv_replay.specs.declared.fate.Fate.{Fate}
use Rattle.nv_replay.specs.declared.fate.Fate.TheVariants.{Exited}
use Rattle.nv_rules.specs.declared.outcome.Verdict.{Verdict}
use Rattle.nv_rules.specs.declared.outcome.Verdict.TheVariants.{Allow, Errno, Skip, Take, Refuse}
use Rattle.nv_rules.specs.Verdicts.{verdict_of}
use Rattle.nv_calls.specs.Numbers.{syscall_of, is_of_threads}
use Rattle.nv_replay.specs.Permits.{Permit, Give, Pass, Consume, No, permit, given, took}
use Rattle.nv_replay.specs.Taking.{is_alike, fits, result_by, taken}
use Rattle.nv_calls.specs.Constants.{constant_of}
use Rattle.nv_replay.specs.Follow.{Follower, Judge, decided, met, judged, consumed, permit_by, refusal_by, IsInStep, is_exited}
use Rattle.nv_replay.proofs.Falling.{within}

-- calls that move no thread
pub made_none : (nr : ℕ) (ret : ℤ) → (nr == 220) ≡ false → made nr ret ≡ None
made_none nr (pos n) h = rw h refl
made_none nr ret h = refl

or_false : (a b c : Bool) → (a || b || c) ≡ false → (a ≡ false) × (b ≡ false) × (c ≡ false)
or_false true true c h = cc
or_false true false true h = cc
or_false true false false h = cc
or_false false true true h = cc
or_false false true false h = cc
or_false false false true h = cc
or_false false false false h = (refl, refl, refl)

pub quiet_child : (e : Entry) → is_of_threads e.call.nr ≡ false → child_of e ≡ None
quiet_child e h = made_none e.call.nr e.reply.ret (or_false _ _ _ h).0

pub quiet_live : (live : List ℕ) (e : Entry) → is_of_threads e.call.nr ≡ false → live_next live e ≡ live
quiet_live live e h =
    let p = or_false (e.call.nr == 220) (e.call.nr == 93) (e.call.nr == 94) h in
    let a : (e.call.nr == 94) ≡ false = p.2 in
    let b : (e.call.nr == 93) ≡ false = p.1 in
    let k : child_of e ≡ None = quiet_child e h in
    rw (a, b, k) refl

-- what the rules answer or pass moves no thread
pass_quiet : (c : Request) (e : Entry) (v : Verdict) → permit c e v ≡ Pass → is_of_threads e.call.nr ≡ false
pass_quiet c e Allow h = elim (constant_of c) as (λ o. given o ≡ Pass → is_of_threads e.call.nr ≡ false) [ None ↦ λ k. cc | Some x ↦ λ k. cc ] h
pass_quiet c e (Errno k) h = elim (nat_le k 4095 && not (is_of_threads c.nr)) as
    (λ b. cond b (Give (record { ret = pos 0 -ℤ pos k; payload = [] })) No ≡ Pass
    → is_of_threads e.call.nr ≡ false) [ true ↦ λ q. cc | false ↦ λ q. cc ] h
pass_quiet c e Skip h = elim (is_of_threads e.call.nr) as (λ b. cond b No Pass ≡ Pass → b ≡ false) [ true ↦ λ q. cc | false ↦ λ q. refl ] h
pass_quiet c e Take h = elim (taken c e) as (λ o. took e o ≡ Pass → is_of_threads e.call.nr ≡ false) [ None ↦ λ k. cc | Some x ↦ λ k. cc ] h
pass_quiet c e (Refuse v) h = cc

or_true : (a b c : Bool) → (a || b || c) ≡ true → (a ≡ true) ⊎ ((b ≡ true) ⊎ (c ≡ true))
or_true true b c h = inl refl
or_true false true c h = inr (inl refl)
or_true false false c h = inr (inr h)

is_number : (n m : ℕ) → (n == m) ≡ true → n ≡ m
is_number n m h = grind (arith, nat_tests)

-- clone, exit and exit_group have no constant reply
no_constant : (c : Request) → (c.nr ≡ 220) ⊎ ((c.nr ≡ 93) ⊎ (c.nr ≡ 94)) → constant_of c ≡ None
unfolding constant_of syscall_of
no_constant c (inl h) = rw h refl
no_constant c (inr (inl h)) = rw h refl
no_constant c (inr (inr h)) = rw h refl

threads_constant : (c : Request) → is_of_threads c.nr ≡ true → constant_of c ≡ None
threads_constant c h = elim (or_true _ _ _ h) [
  | inl a ↦ no_constant c (inl (is_number _ _ a))
  | inr q ↦ elim q [ inl a ↦ no_constant c (inr (inl (is_number _ _ a))) | inr a ↦ no_constant c (inr (inr (is_number _ _ a))) ]
]

constant_quiet : (c : Request) (b : Bool) (r : Response) → is_of_threads c.nr ≡ b → given (constant_of c) ≡ Give r → is_of_threads c.nr ≡ false
constant_quiet c true r e h = let z : No ≡ Give r = sym (ap given (threads_constant c e)) ∙ h in cc
constant_quiet c false r e h = e

-- a reply that a rule gives makes no thread
pub quiet_new : (live : List ℕ) (nr : ℕ) (ret : ℤ) → is_of_threads nr ≡ false → IsNew live (made nr ret)
quiet_new live nr ret h = let k : made nr ret ≡ None = made_none nr ret (or_false _ _ _ h).0 in rw k tt

pub constant_new : (live : List ℕ) (c : Request) (r : Response) (ret : ℤ) → constant_of c ≡ Some r → IsNew live (made c.nr ret)
constant_new live c r ret h = quiet_new live c.nr ret (constant_quiet c (is_of_threads c.nr) r refl (ap given h))

errno_quiet : (a b : Bool) (x : Response) (r : Response) → cond (a && not b) (Give x) No ≡ Give r → b ≡ false
errno_quiet a false x r h = refl
errno_quiet true true x r h = cc
errno_quiet false true x r h = cc

give_quiet : (c : Request) (e : Entry) (v : Verdict) (r : Response) → permit c e v ≡ Give r → is_of_threads c.nr ≡ false
give_quiet c e Allow r h = constant_quiet c (is_of_threads c.nr) r refl h
give_quiet c e (Errno k) r h = errno_quiet (nat_le k 4095) (is_of_threads c.nr) (record { ret = pos 0 -ℤ pos k; payload = [] }) r h
give_quiet c e Skip r h = elim (is_of_threads e.call.nr) as (λ b. cond b No Pass ≡ Give r
    → is_of_threads c.nr ≡ false) [ true ↦ λ q. cc | false ↦ λ q. cc ] h
give_quiet c e Take r h = elim (taken c e) as (λ o. took e o ≡ Give r → is_of_threads c.nr ≡ false) [ None ↦ λ k. cc | Some x ↦ λ k. cc ] h
give_quiet c e (Refuse v) r h = cc

-- a call that takes an event moves no thread, and has its number
pub record IsQuiet (c : Request) (e : Entry) : Type 0 where
  pub call : is_of_threads c.nr ≡ false
  pub event : is_of_threads e.call.nr ≡ false

alike_quiet : (c : Request) (e : Entry) (a b d f : Bool) → (a && b && d && not f) ≡ true → (c.nr == e.call.nr) ≡ b → is_of_threads c.nr ≡ f → IsQuiet c e
alike_quiet c e true true true false h k q =
    let n : c.nr ≡ e.call.nr = is_number c.nr e.call.nr k in
    record { call = q; event = sym (ap is_of_threads n) ∙ q }
alike_quiet c e true true true true h k q = cc
alike_quiet c e true true false f h k q = cc
alike_quiet c e true false d f h k q = cc
alike_quiet c e false b d f h k q = cc

taken_if : (c : Request) (e : Entry) (ret : ℤ) (a b : Bool) (o : Option ℤ) → cond (a && b) o None ≡ Some ret → a ≡ true
taken_if c e ret true b o h = refl
taken_if c e ret false b o h = cc

pub taken_quiet : (c : Request) (e : Entry) (ret : ℤ) → taken c e ≡ Some ret → IsQuiet c e
unfolding taken
taken_quiet c e ret h =
    let a : is_alike c e.call ≡ true = taken_if c e ret (is_alike c e.call) (fits (syscall_of c.nr) c e) (result_by (syscall_of c.nr) c e) h in
    alike_quiet c e _ _ _ _ a refl refl

took_quiet : (c : Request) (e : Entry) (r : Response) (o : Option ℤ) → taken c e ≡ o → took e o ≡ Consume r → IsQuiet c e
took_quiet c e r None k h = cc
took_quiet c e r (Some ret) k h = taken_quiet c e ret k

consume_quiet : (c : Request) (e : Entry) (v : Verdict) (r : Response) → permit c e v ≡ Consume r → IsQuiet c e
consume_quiet c e Allow r h = elim (constant_of c) as (λ o. given o ≡ Consume r → IsQuiet c e) [ None ↦ λ k. cc | Some x ↦ λ k. cc ] h
consume_quiet c e (Errno k) r h = elim (nat_le k 4095 && not (is_of_threads c.nr)) as
    (λ b. cond b (Give (record { ret = pos 0 -ℤ pos k; payload = [] })) No ≡ Consume r → IsQuiet c e) [ true ↦ λ q. cc | false ↦ λ q. cc ] h
consume_quiet c e Skip r h = elim (is_of_threads e.call.nr) as (λ b. cond b No Pass ≡ Consume r → IsQuiet c e) [ true ↦ λ q. cc | false ↦ λ q. cc ] h
consume_quiet c e Take r h = took_quiet c e r (taken c e) refl h
consume_quiet c e (Refuse v) r h = cc

-- one more event of a log
pub live_more : (live : List ℕ) (log : List Entry) (i : ℕ) (e : Entry) → slice_get log i ≡ Some e
    → live_from live (take (i + 1) log) ≡ live_next (live_from live (take i log)) e
live_more live [] i e h = cc
live_more live (d ∷ log) zero e h = let k : d ≡ e = cc in rw k refl
live_more live (d ∷ log) (suc i) e h = let k : suc i + 1 ≡ suc (i + 1) = omega arith in rw k (live_more (live_next live d) log i e h)

pub exited_some : (o : Option ℕ) → is_exited (option_map Exited o) ≡ true → (s : ℕ) × (o ≡ Some s)
exited_some None h = cc
exited_some (Some s) h = (s, refl)

pub none_back : (o : Option ℕ) → option_map Exited o ≡ None → o ≡ None
none_back None h = refl
none_back (Some s) h = cc

module _ {P : Type 0} (g : Behaviour P) (laws : IsProcess g) (judge : Judge) where
  -- with the same live threads it goes on
  pub still_on : (p q : P) (o : Option ℕ) → g.ended q ≡ o → g.live q ≡ g.live p → g.ended p ≡ None → g.ended q ≡ None
  still_on p q None h l e = h
  still_on p q (Some s) h l e = absurd (laws.ended p (sym l ∙ laws.lives q s h) e)

  answer_live : (p : P) (t n : ℕ) (r : Response) → g.pending p t ≡ true → Contains (g.live p) t → is_of_threads (g.call p t).nr ≡ false
      → g.live (g.answered p t r) ≡ g.live p
  answer_live p t n r h k q =
      laws.live_answer p t n r h ∙ quiet_live (g.live p) (event_answered g p t r n) q

  pub same_live : (p : P) (t : ℕ) (e : Entry) → g.pending p t ≡ true → Contains (g.live p) t → g.call p t ≡ e.call
      → g.live (g.answered p t e.reply) ≡ live_next (g.live p) e
  same_live p t e h k c =
      let ev : event_answered g p t e.reply e.stamp ≡ e = λ i. record { stamp = e.stamp; call = c i; reply = e.reply } in
      laws.live_answer p t e.stamp e.reply h ∙ ap (live_next (g.live p)) ev

  judged_by : (log : List Entry) (e : Entry) (s : Follower P) (p : P) (t : ℕ) (f : Fate) (o : Permit) → slice_get log s.seen ≡ Some e
      → IsInStep g log s → s.fate ≡ None → g.live p ≡ g.live s.process → g.pending p t ≡ true → Contains (g.live p) t
      → (o ≡ Pass → is_of_threads e.call.nr ≡ false) → ((r : Response) → o ≡ Give r → is_of_threads (g.call p t).nr ≡ false)
      → ((r : Response) → o ≡ Consume r → IsQuiet (g.call p t) e) → is_exited (Some f) ≡ false → IsInStep g log (judged g s p t f o)
  unfolding judged
  judged_by log e s p t f (Give r) h i n l q c a b d x =
      let k = laws.given_live p t r ∙ (answer_live p t 0 r q c (b r refl) ∙ l) in record {
        within = i.within;
        live = λ m. k ∙ i.live n;
        on = λ m. still_on s.process (g.given p t r) (g.ended (g.given p t r)) refl k (i.on n);
        exited = λ m. let z = rw n at m in cc;
      }
  judged_by log e s p t f Pass h i n l q c a b d x = record {
    within = omega (arith, within log s.seen e h);
    live = λ m. l ∙ (i.live n ∙ (sym (quiet_live (live_after (take s.seen log)) e (a refl)) ∙ sym (live_more (100 ∷ []) log s.seen e h)));
    on = λ m. still_on s.process p (g.ended p) refl l (i.on n);
    exited = λ m. let z = rw n at m in cc;
  }
  judged_by log e s p t f (Consume r) h i n l q c a b d x =
      let k = answer_live p t 0 r q c (d r refl).call ∙ l in record {
        within = omega (arith, within log s.seen e h);
        live = λ m. k ∙ (i.live n ∙ (sym (quiet_live (live_after (take s.seen log)) e (d r refl).event) ∙ sym (live_more (100 ∷ []) log s.seen e h)));
        on = λ m. still_on s.process (g.answered p t r) (g.ended (g.answered p t r)) refl k (i.on n);
        exited = λ m. let z = rw n at m in cc;
      }
  judged_by log e s p t f No h i n l q c a b d x = record {
    within = i.within;
    live = λ m. cc;
    on = λ m. cc;
    exited = λ m. let z : false ≡ true = sym x ∙ m in cc;
  }

  judged_in_step : (log : List Entry) (e : Entry) (s : Follower P) (p : P) (t : ℕ) (f : Fate) (v : Verdict) → slice_get log s.seen ≡ Some e
      → IsInStep g log s → s.fate ≡ None → g.live p ≡ g.live s.process → g.pending p t ≡ true → Contains (g.live p) t
      → is_exited (Some f) ≡ false → IsInStep g log (judged g s p t f (permit (g.call p t) e v))
  judged_in_step log e s p t f v h i n l q c x = judged_by log e s p t f (permit (g.call p t) e v) h i n l q c (pass_quiet (g.call p t) e v)
      (give_quiet (g.call p t) e v) (consume_quiet (g.call p t) e v) x

  pub consumed_in_step : (log : List Entry) (e : Entry) (s : Follower P) (p : P) (t : ℕ) → slice_get log s.seen ≡ Some e → IsInStep g log s
      → s.fate ≡ None → g.live p ≡ g.live s.process → g.pending p t ≡ true → Contains (g.live p) t → g.call p t ≡ e.call
      → IsInStep g log (consumed g s (g.answered p t e.reply))
  consumed_in_step log e s p t h i n l q c k = record {
    within = omega (arith, within log s.seen e h);
    live = λ u. same_live p t e q c k ∙ (ap (λ x. live_next x e) (l ∙ i.live n) ∙ sym (live_more (100 ∷ []) log s.seen e h));
    on = λ u. none_back (g.ended (g.answered p t e.reply)) u;
    exited = λ u. let x = exited_some (g.ended (g.answered p t e.reply)) u in sym
        (same_live p t e q c k ∙ (ap (λ x. live_next x e) (l ∙ i.live n) ∙ sym (live_more (100 ∷ []) log s.seen e h))) ∙ laws.lives
        (g.answered p t e.reply) x.0 x.1;
  }

  either_in_step : (log : List Entry) (e : Entry) (s : Follower P) (p : P) (u : ℕ) (b : Bool) → is_same (g.call p u) e.call ≡ b
      → slice_get log s.seen ≡ Some e → IsInStep g log s → s.fate ≡ None → g.live p ≡ g.live s.process → g.pending p u ≡ true
      → Contains (g.live p) u → IsInStep g log
      (cond b (consumed g s (g.answered p u e.reply)) (judged g s p u (refusal_by judge e (g.call p u)) (permit_by judge e (g.call p u))))
  either_in_step log e s p u true b h i n l q c = consumed_in_step log e s p u h i n l q c (same_is (g.call p u) e.call b)
  either_in_step log e s p u false b h i n l q c = judged_in_step log e s p u (refusal_by judge e (g.call p u))
      (verdict_of (judge (g.call p u) e)) h i n l q c refl

  met_in_step : (log : List Entry) (e : Entry) (s : Follower P) (came : Came) → came ≡ g.came s.process (Only e.call.tid)
      → slice_get log s.seen ≡ Some e → IsInStep g log s → s.fate ≡ None → Contains (g.live s.process) e.call.tid
      → IsInStep g log (met g judge e s (g.after s.process (Only e.call.tid)) came)
  unfolding met
  met_in_step log e s (Fault kind tid pc) k h i n here = record { within = i.within; live = λ m. cc; on = λ m. cc; exited = λ m. cc }
  met_in_step log e s (Asked u) k h i n here =
      let p : P = g.after s.process (Only e.call.tid) in
      let l : g.live p ≡ g.live s.process = laws.live_after s.process (Only e.call.tid) in
      let q : g.pending p u ≡ true = laws.asked s.process (Only e.call.tid) u (sym k) in
      let ue : u ≡ e.call.tid = laws.only s.process e.call.tid u here (sym k) in
      let c : Contains (g.live p) u = rw (l, ue) here in
      either_in_step log e s p u (is_same (g.call p u) e.call) refl h i n l q c

  pub decided_in_step : (log : List Entry) (e : Entry) (s : Follower P) → IsLawful log → slice_get log s.seen ≡ Some e → IsInStep g log s
      → s.fate ≡ None → IsInStep g log (decided g judge e s)
  unfolding decided
  decided_in_step log e s law h i n =
      let may = law s.seen e h in
      let here : Contains (g.live s.process) e.call.tid = subst (λ (x : List ℕ). Contains x e.call.tid) (sym (i.live n)) may.lives in
      met_in_step log e s (g.came s.process (Only e.call.tid)) refl h i n here
