-- A leader's turns together.
use Rattle.std.proofs.Common.{◌≡◌, ◌∙◌, sym, ap, subst, refl, ℕ, ◌+◌, ◌<◌, ◌≤◌, Bool, true, false, List, length, Option, Some, None, arith, length-append}
use Rattle.std.specs.Prelude.{nat_le, not, ◌&&◌}
use Rattle.std.proofs.lemmas.Bool.Decides.{nat_tests}
use Rattle.nv_calls.specs.Calls.{Entry}
use Rattle.nv_calls.specs.Logs.{Start}
use Rattle.nv_threads.specs.Behaviours.{Behaviour, IsProcess}
use Rattle.nv_replay.specs.declared.fate.Fate.{Fate}
use Rattle.nv_replay.specs.Follow.{IsInStep}
use Rattle.nv_replay.specs.Lead.{Leader, cut_of}
use Rattle.nv_replay.specs.Sequence.{is_going}
use Rattle.nv_replay.specs.Version.{Running, IsLiveLeader, leader_of}
use Rattle.nv_replay.proofs.Settled.{Reaches, reach_here, reach_on}
use Rattle.nv_replay.proofs.Falling.{lead_size, next_call_falls}
use Rattle.nv_calls.specs.Hands.{has}
use Rattle.nv_replay.specs.Hands.{stays, is_handed, next_or_hand}
use Rattle.nv_replay.proofs.Extending.{next_grows}
use Rattle.nv_replay.specs.Turns.{Suits, LedOn, TookTurn}
use Rattle.nv_replay.proofs.Wholly.{suits_end, suits_now}
use Rattle.nv_sequence.specs.Passing.{HasLed}
use Rattle.nv_replay.proofs.Stretches.{hand_is, next_unless, handed_rests, ended_rests}
use Rattle.nv_replay.proofs.Numbers.{ended_not_handed}

and_no : (b : Bool) → (b && false) ≡ false
and_no true = refl
and_no false = refl

module _ {P : Type 0} (g : Behaviour P) (laws : IsProcess g) (replies : Start) (most : ℕ) (hands : List ℕ) where
  pub record LedSo (start now : Running P) (first log : List Entry) (on : Bool) : Type 0 where
    pub goes : on ≡ true → (now.at.fate ≡ None) × (is_handed hands (length first) (leader_of now log) ≡ false)
    pub stops : on ≡ false → is_handed hands (length first) (leader_of now log) ≡ is_going now.at.fate
    pub longer : length first ≤ length log
    pub reach : (c : Option ℕ) → Suits c now.at.fate (length log) → Reaches (next_or_hand g replies most c hands (length first)) (leader_of start first) (leader_of now log)
    pub led : LedOn g start now first log

  not_here : (l : Leader P) → is_handed hands (length l.log) l ≡ false
  not_here l =
      let k : nat_le (length l.log) (length l.log) ≡ true = grind (arith, nat_tests) in
      rw k (and_no (is_going l.fate))

  pub led_here : (start : Running P) (first : List Entry) → IsLiveLeader start → start.at.seen ≡ length first
      → IsInStep g first start.at → LedSo start start first first true
  led_here start first d s i = record {
    goes = λ h. (d.on, not_here (leader_of start first));
    stops = λ h. cc;
    longer = omega arith;
    reach = λ c h. reach_here (next_or_hand g replies most c hands (length first)) (leader_of start first);
    led = record { index = refl; rewrites = refl; seen = s; span = λ prefix from q. q; leading = refl; in_step = i; asked = λ z. d.none_asked };
  }

  -- the log of a step is no shorter
  turn_longer : (now new : Running P) (log new_log : List Entry) → now.at.fate ≡ None → TookTurn g replies most now new log new_log → length log ≤ length new_log
  turn_longer now new log new_log n t =
      let c : Option ℕ = cut_of new.at.fate (length new_log) in
      let a = suits_now g laws replies most c now.at.fate new.at.fate (length log) (length new_log) n t.grew t.same (suits_end new.at.fate (length new_log)) in
      let m = next_grows g replies most c (leader_of now log) in
      omega (arith, ap (λ (x : Leader P). length x.log) (t.step c a.1), ap length m.1, length-append log m.0)

  -- whether it goes on, after one more call
  record GoesOn (new : Running P) (first new_log : List Entry) (on : Bool) : Type 0 where
    goes : on ≡ true → (new.at.fate ≡ None) × (is_handed hands (length first) (leader_of new new_log) ≡ false)
    stops : on ≡ false → is_handed hands (length first) (leader_of new new_log) ≡ is_going new.at.fate

  goes_by : (new : Running P) (first new_log : List Entry) (on : Bool) (f : Option Fate) (b : Bool) → new.at.fate ≡ f → has hands (length new_log) ≡ b
      → (new.at.fate ≡ None → length first < length new_log) → on ≡ stays (is_going new.at.fate) hands (length new_log) → GoesOn new first new_log on
  goes_by new first new_log on (Some x) b e h l o =
      let off : on ≡ false = o ∙ ap (λ (y : Option Fate). stays (is_going y) hands (length new_log)) e in record {
        goes = λ z. let k : false ≡ true = sym off ∙ z in cc;
        stops = λ z. ended_not_handed hands (length first) (leader_of new new_log) (ap is_going e) ∙ sym (ap is_going e);
      }
  goes_by new first new_log on None true e h l o =
      let lt = l e in
      let k : nat_le (length new_log) (length first) ≡ false = grind (arith, nat_tests) in record {
        goes = λ z. let y = rw (e, h) at o in let q : false ≡ true = sym y ∙ z in cc;
        stops = λ z. rw (e, k, h) refl;
      }
  goes_by new first new_log on None false e h l o = record {
    goes = λ z. (e, rw (e, h) (and_no (not (nat_le (length new_log) (length first)))));
    stops = λ z. let y = rw (e, h) at o in let q : true ≡ false = sym y ∙ z in cc;
  }

  longer_by : (f : Option Fate) (a b c : ℕ) → a ≤ b → (f ≡ None → c ≡ b + 1) → (is_going f ≡ false → b ≤ c) → a ≤ c
  longer_by None a b c l h k = let e = h refl in omega arith
  longer_by (Some x) a b c l h k = let e = k refl in omega arith

  pub led_on : (start now new : Running P) (first log new_log : List Entry) (on : Bool) → LedSo start now first log true
      → TookTurn g replies most now new log new_log → on ≡ stays (is_going new.at.fate) hands new.at.seen → LedSo start new first new_log on
  led_on start now new first log new_log on s t o =
      let n = (s.goes refl).0 in
      let w : on ≡ stays (is_going new.at.fate) hands (length new_log) = o ∙ ap (stays (is_going new.at.fate) hands) t.on.seen in
      let go = goes_by new first new_log on new.at.fate (has hands (length new_log)) refl refl (λ z. let k = t.grew z in let l = s.longer in omega arith) w in record {
        goes = go.goes;
        stops = go.stops;
        longer = longer_by new.at.fate (length first) (length log) (length new_log) s.longer t.grew (λ z. turn_longer now new log new_log n t);
        reach = λ c h.
            let a = suits_now g laws replies most c now.at.fate new.at.fate (length log) (length new_log) n t.grew t.same h in
            let e : next_or_hand g replies most c hands (length first) (leader_of now log) ≡ leader_of new new_log = next_unless g replies most c hands (length first)
            (leader_of now log) (s.goes refl).1 ∙ sym (t.step c a.1) in
            subst (λ (x : Leader P). Reaches (next_or_hand g replies most c hands (length first)) (leader_of start first) x) e
            (reach_on (next_or_hand g replies most c hands (length first)) (leader_of start first) (leader_of now log) (s.reach c a.0));
        led = record {
          index = t.on.index ∙ s.led.index;
          rewrites = t.on.rewrites ∙ s.led.rewrites;
          seen = t.on.seen;
          span = λ prefix from q. t.on.span prefix from (s.led.span prefix from q);
          leading = t.on.leading ∙ s.led.leading;
          in_step = t.on.in_step;
          asked = t.on.asked;
        };
      }

  -- a version that leads on is a live leader
  pub live_leader : (start now : Running P) (first log : List Entry) → LedSo start now first log true → IsLiveLeader start → IsLiveLeader now
  live_leader start now first log s d =
      let on = (s.goes refl).0 in
      record { on = on; leading = s.led.leading ∙ d.leading; none_asked = s.led.asked on }

  rests_if : (c : Option ℕ) (first : List Entry) (l : Leader P) (b : Bool) → is_going l.fate ≡ b → is_handed hands (length first) l ≡ b
      → next_or_hand g replies most c hands (length first) l ≡ l
  rests_if c first l true h k = handed_rests g replies most c hands (length first) l k
  rests_if c first l false h k = ended_rests g replies most c hands (length first) l h

  pub led_whole : (start now : Running P) (first log : List Entry) → LedSo start now first log false → HasLed g replies most hands start now first log
  led_whole start now first log s = record {
    whole = λ c h. hand_is g replies most c hands (length first) laws (leader_of start first) (leader_of now log) (s.reach c h)
        (rests_if c first (leader_of now log) (is_going now.at.fate) refl (s.stops refl));
    on = s.led;
    handed = s.stops refl;
  }

  pub turn_falls : (start now new : Running P) (first log new_log : List Entry) → LedSo start now first log true
      → TookTurn g replies most now new log new_log → lead_size g (leader_of new new_log) < lead_size g (leader_of now log)
  turn_falls start now new first log new_log s t =
      let n = (s.goes refl).0 in
      let a = suits_now g laws replies most (cut_of new.at.fate (length new_log)) now.at.fate new.at.fate (length log) (length new_log) n t.grew t.same
      (suits_end new.at.fate (length new_log)) in
      rw (t.step (cut_of new.at.fate (length new_log)) a.1)
      (next_call_falls g laws replies most (cut_of new.at.fate (length new_log)) (leader_of now log) n)
