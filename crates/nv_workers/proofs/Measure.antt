-- What a turn leaves of those that may still get on.
use Rattle.std.proofs.Common.{◌≡◌, ◌<◌, ◌≤◌, ◌⊎◌, refl, ap, ⊎_elim, ℕ, ◌+◌, ◌-◌, ◌*◌, List, ◌++◌, map, length, arith, length-append}
use Rattle.std.proofs.lemmas.List.{length-map}
use Rattle.nv_calls.specs.Calls.{Entry}
use Rattle.nv_calls.specs.Limits.{MOST_EVENTS}
use Rattle.nv_calls.specs.Logs.{IsLawful}
use Rattle.nv_calls.proofs.LogLaws.{lawful_few}
use Rattle.nv_words.specs.Spelling.{spell}
use Rattle.nv_calls.specs.declared.kernel.SyscallKernel.{Ghosts}
use Rattle.nv_threads.specs.Threads.{Proc}
use Rattle.nv_room.specs.declared.room.Room.{Room}
use Rattle.nv_replay.specs.Follow.{Judge}
use Rattle.nv_replay.specs.Version.{Running}
use Rattle.nv_replay.specs.Rewrites.{MOST_REWRITES}
use Rattle.nv_workers.specs.declared.worker.Seat.{Seat}
use Rattle.nv_workers.specs.declared.worker.Seat.TheVariants.{Reading, Leading, Gone, Moving}
use Rattle.nv_workers.specs.Turns.{held_list}
use Rattle.nv_workers.specs.Growing.{OneMoreAtMost}
use Rattle.nv_workers.specs.Worker.{WorksAt, IsGone, TookLead, seen_by}
use Rattle.nv_workers.specs.Measure.{seat_left}
use Rattle.nv_workers.specs.inner.Stepping.{CanHand, CanLeave}

-- what was seen of a log is no longer than it
few_seen : (log : List Entry) (rest : List Entry) (seen : List (List ℕ)) → map spell log ≡ seen → IsLawful (log ++ rest) → length seen ≤ MOST_EVENTS
few_seen log rest seen is law =
    let few = lawful_few (log ++ rest) law in
    let all = length-append log rest in
    let long = length-map log spell in
    let same = ap length is in
    omega arith

few_all : (log : List Entry) (seen : List (List ℕ)) → map spell log ≡ seen → IsLawful log → length seen ≤ MOST_EVENTS
few_all log seen is law =
    let few = lawful_few log law in
    let long = length-map log spell in
    let same = ap length is in
    omega arith

module _ (judges : ℕ → Judge) {K : Type 0} {G : Ghosts K} (room : Room K) (most : ℕ) (p : Proc) (v : Running Proc) (buf : List ℕ) where
  -- a worker's seat has seen no more events than a log may have
  pub works_few : (s : Seat K G) → WorksAt judges room most p v buf s → seen_by s ≤ MOST_EVENTS
  works_few (Reading r held) w = few_seen w.log (held_list w.next) _ w.spelt w.lawful
  works_few (Leading l asked) w = few_all _ _ w.spelt w.lawful
  works_few (Gone l) w = few_all w.1.log _ w.1.spelt w.1.lawful
  works_few Moving w = absurd w

  -- a seat with nothing left is gone
  pub zero_gone : (s : Seat K G) → WorksAt judges room most p v buf s → seat_left s ≡ 0 → IsGone s
  zero_gone (Reading r held) w e = absurd (omega arith)
  zero_gone (Leading l asked) w e = absurd (omega arith)
  zero_gone (Gone l) w e = tt
  zero_gone Moving w e = absurd w

  pub hands_lead : (s : Seat K G) → CanHand judges room p v most s → seat_left s ≡ 1
  hands_lead (Reading r held) h = absurd h
  hands_lead (Leading l asked) h = refl
  hands_lead (Gone l) h = absurd h
  hands_lead Moving h = absurd h

  pub leaves_some : (s : Seat K G) → CanLeave judges room p v most s → 0 < seat_left s
  leaves_some (Reading r held) h = omega arith
  leaves_some (Leading l asked) h = omega arith
  leaves_some (Gone l) h = absurd h
  leaves_some Moving h = absurd h

module _ {K : Type 0} {G : Ghosts K} where
  pub at_most_two : (s : Seat K G) → seat_left s ≤ 2
  at_most_two (Reading r held) = omega arith
  at_most_two (Leading l asked) = omega arith
  at_most_two (Gone l) = omega arith
  at_most_two Moving = omega arith

  pub took_one : (s t : Seat K G) → TookLead s t → seat_left t < seat_left s
  took_one (Reading r held) (Reading r2 held2) k = absurd k
  took_one (Reading r held) (Leading l asked) k = omega arith
  took_one (Reading r held) (Gone l) k = absurd k
  took_one (Reading r held) Moving k = absurd k
  took_one (Leading l asked) t k = absurd k
  took_one (Gone l) t k = absurd k
  took_one Moving t k = absurd k

  pub gone_none : (s : Seat K G) → IsGone s → seat_left s ≡ 0
  gone_none (Reading r held) k = absurd k
  gone_none (Leading l asked) k = absurd k
  gone_none (Gone l) k = refl
  gone_none Moving k = absurd k

-- of numbers alone: events seen, rewrites, turns ahead and the seat's part, before and after
module _ (s s2 r r2 a a2 l l2 : ℕ) (one : OneMoreAtMost s s2) (rises : r ≤ r2) (few : s2 ≤ MOST_EVENTS) where
  pub moved_falls : (s < s2) ⊎ (r < r2) → r2 ≤ MOST_REWRITES → a2 ≡ a → l2 ≡ l
      → 2 * (MOST_EVENTS - s2) + (MOST_REWRITES - r2) + a2 + l2 < 2 * (MOST_EVENTS - s) + (MOST_REWRITES - r) + a + l
  moved_falls grew most same seat = let up = one.0 in ⊎_elim (λ (e : s < s2). omega arith) (λ (e : r < r2). omega arith) grew

  pub ahead_falls : a2 < a → l2 ≡ l → 2 * (MOST_EVENTS - s2) + (MOST_REWRITES - r2) + a2 + l2 < 2 * (MOST_EVENTS - s) + (MOST_REWRITES - r) + a + l
  ahead_falls less seat = let up = one.0 in omega arith

  pub seat_falls : a2 ≡ a → l2 < l → 2 * (MOST_EVENTS - s2) + (MOST_REWRITES - r2) + a2 + l2 < 2 * (MOST_EVENTS - s) + (MOST_REWRITES - r) + a + l
  seat_falls same less = let up = one.0 in omega arith

  pub hands_falls : s < s2 → a2 ≡ a → l2 ≤ l + 1 → 2 * (MOST_EVENTS - s2) + (MOST_REWRITES - r2) + a2 + l2 < 2 * (MOST_EVENTS - s) + (MOST_REWRITES - r) + a + l
  hands_falls grew same seat = omega arith

  pub stays_level : a2 ≤ a → l2 ≤ l → 2 * (MOST_EVENTS - s2) + (MOST_REWRITES - r2) + a2 + l2 ≤ 2 * (MOST_EVENTS - s) + (MOST_REWRITES - r) + a + l
  stays_level less seat = let up = one.0 in omega arith
