-- A room's workers, one more at a time.
use Rattle.std.proofs.Common.{◌≡◌, ◌∙◌, sym, ap, subst, refl, ℕ, zero, suc, ◌+◌, List, [], ◌∷◌, ◌++◌, length, Option, Some, None, arith, length-append}
use Rattle.std.specs.Option.{MatchOption}
use mathlib.Core.Option.{some}
use lib.ListN.{get_elem?}
use Rattle.nv_calls.specs.declared.kernel.SyscallKernel.{Ghosts}
use Rattle.nv_room.specs.declared.room.Room.{Room}
use Rattle.nv_room.specs.declared.room.Reader.{Reader}
use Rattle.nv_room.specs.declared.room.Lead.{Lead}
use Rattle.nv_room.specs.Seats.{IsFreshReader, version_of_reader, FreshReaders, IsFreshLead, kernel_of}
use Rattle.nv_threads.specs.Threads.{Proc, threads}
use Rattle.nv_replay.specs.Version.{Running, IsFresh}
use Rattle.nv_replay.specs.Account.{AreFresh}
use Rattle.nv_workers.specs.declared.worker.Worker.{Worker}
use Rattle.nv_workers.specs.Staffing.{IsNewWorker, AreNew, AreAsMade, AreNewSeats, LeadsAnew, ReadsAnew, StaffsAnew, IsNewReader}

fresh_prefix : (i : ℕ) (vs : List (Running Proc)) (v : Running Proc) → AreFresh threads i (vs ++ v ∷ []) → AreFresh threads i vs
fresh_prefix i [] v f = tt
fresh_prefix i (u ∷ vs) v f = (f.0, fresh_prefix (i + 1) vs v f.1)

fresh_last : (i : ℕ) (vs : List (Running Proc)) (v : Running Proc) → AreFresh threads i (vs ++ v ∷ []) → IsFresh threads (i + length vs) v
fresh_last i [] v f = let z : i ≡ i + 0 = omega arith in subst (λ (j : ℕ). IsFresh threads j v) z f.0
fresh_last i (u ∷ vs) v f = let z : i + 1 + length vs ≡ i + suc (length vs) = omega arith in subst (λ (j : ℕ). IsFresh threads j v) z (fresh_last (i + 1) vs v f.1)

pub versions_prefix : (vs all : List (Running Proc)) (v : Running Proc) → all ≡ vs ++ v ∷ [] → AreFresh threads 0 all → AreFresh threads 0 vs
versions_prefix vs all v e f = fresh_prefix 0 vs v (subst (λ (x : List (Running Proc)). AreFresh threads 0 x) e f)

pub version_last : (vs all : List (Running Proc)) (v : Running Proc) (k : ℕ) → all ≡ vs ++ v ∷ [] → length vs ≡ k → AreFresh threads 0 all → IsFresh threads k v
version_last vs all v k e h f =
    let z : 0 + length vs ≡ k = omega arith in
    subst (λ (j : ℕ). IsFresh threads j v) z (fresh_last 0 vs v (subst (λ (x : List (Running Proc)). AreFresh threads 0 x) e f))

pub prefix_length : (vs all : List (Running Proc)) (v : Running Proc) (n : ℕ) → all ≡ vs ++ v ∷ [] → length all ≡ n + 1 → length vs ≡ n
prefix_length vs all v n e h = omega (arith, length-append vs (v ∷ []), ap (λ (x : List (Running Proc)). length x) e, h)

pub none_is : {R : Type 0} (o : Option R) (A : Type 0) (B : R → Type 0) → MatchOption o A B → ((r : R) → o ≡ Some r → ⊥) → A
none_is None A B h n = h
none_is (Some r) A B h n = absurd (n r refl)

module _ {K : Type 0} {G : Ghosts K} where
  at_prefix : (rs : List (Reader K G)) (r q : Reader K G) (k : ℕ) → get_elem? rs k ≡ some q → get_elem? (rs ++ r ∷ []) k ≡ some q
  at_prefix [] r q k e = cc
  at_prefix (p ∷ rs) r q zero e = e
  at_prefix (p ∷ rs) r q (suc k) e = at_prefix rs r q k e

  at_last : (rs : List (Reader K G)) (r : Reader K G) → get_elem? (rs ++ r ∷ []) (length rs) ≡ some r
  at_last [] r = refl
  at_last (p ∷ rs) r = at_last rs r

  new_more : (room : Room K) (i : ℕ) (fs : List (Running Proc)) (ws : List (Worker K G)) (f : Running Proc) (w : Worker K G) → AreNew room i fs ws → IsNewWorker room (i + length fs) f w
      → AreNew room i (fs ++ f ∷ []) (ws ++ w ∷ [])
  new_more room i [] [] f w n m = let z : i + 0 ≡ i = omega arith in (subst (λ (j : ℕ). IsNewWorker room j f w) z m, tt)
  new_more room i [] (u ∷ ws) f w n m = absurd n
  new_more room i (e ∷ fs) [] f w n m = absurd n
  new_more room i (e ∷ fs) (u ∷ ws) f w n m =
      let z : i + suc (length fs) ≡ i + 1 + length fs = omega arith in
      (n.0, new_more room (i + 1) fs ws f w n.1 (subst (λ (j : ℕ). IsNewWorker room j f w) z m))

  prefix_made : (room : Room K) (rs : List (Reader K G)) (r : Reader K G) (l : Lead K G) → AreAsMade room (rs ++ r ∷ []) l → AreAsMade room rs l
  prefix_made room rs r l a = record { readers = λ k q e. a.readers k q (at_prefix rs r q k e); lead = a.lead }

  last_made : (room : Room K) (rs : List (Reader K G)) (r : Reader K G) (l : Lead K G) → AreAsMade room (rs ++ r ∷ []) l → IsFreshReader room (length rs + 1) r
  last_made room rs r l a = a.readers (length rs) r (at_last rs r)

  -- the seats of all but the last version
  pub prefix_seats : (rs all : List (Reader K G)) (r : Reader K G) (l : Lead K G) → all ≡ rs ++ r ∷ [] → AreNewSeats all l → AreNewSeats rs l
  prefix_seats rs all r l e s = (s.0, prefix_made s.0 rs r l (subst (λ (x : List (Reader K G)). AreAsMade s.0 x l) e s.1))

  own_version : (room : Room K) (k : ℕ) (r : Reader K G) → IsFreshReader room k r → IsFreshReader room (version_of_reader r) r
  own_version room k r f = subst (λ (j : ℕ). IsFreshReader room j r) (sym f.2) f

  pub reader_seat : (rs all : List (Reader K G)) (r : Reader K G) (l : Lead K G) → all ≡ rs ++ r ∷ [] → AreNewSeats all l → IsNewReader r
  reader_seat rs all r l e s = (s.0, own_version s.0 (length rs + 1) r (last_made s.0 rs r l (subst (λ (x : List (Reader K G)). AreAsMade s.0 x l) e s.1)))

  -- the reader's version is the last one
  pub reader_version : (rs all : List (Reader K G)) (r : Reader K G) (l : Lead K G) → all ≡ rs ++ r ∷ [] → AreNewSeats all l → version_of_reader r ≡ length rs + 1
  reader_version rs all r l e s = (last_made s.0 rs r l (subst (λ (x : List (Reader K G)). AreAsMade s.0 x l) e s.1)).2

  -- the first worker
  pub staffs_one : (vs all : List (Running Proc)) (v : Running Proc) (l : Lead K G) (w : Worker K G) (rs : List (Reader K G)) → all ≡ vs ++ v ∷ [] → length vs ≡ 0
      → LeadsAnew v l w → StaffsAnew all rs l (w ∷ [])
  staffs_one [] all v l w rs e h n = λ room a. subst (λ (x : List (Running Proc)). AreNew room 0 x (w ∷ [])) (sym e) (n room a.lead, tt)
  staffs_one (u ∷ vs) all v l w rs e h n = absurd (omega arith)

  seats_length : (rs all : List (Reader K G)) (r : Reader K G) → all ≡ rs ++ r ∷ [] → length all ≡ length rs + 1
  seats_length rs all r e = omega (arith, length-append rs (r ∷ []), ap (λ (x : List (Reader K G)). length x) e)

  pub prefix_readers : (vs all : List (Running Proc)) (v : Running Proc) (rs seats : List (Reader K G)) (r : Reader K G) → all ≡ vs ++ v ∷ [] → seats ≡ rs ++ r ∷ []
      → length all ≡ length seats + 1 → length vs ≡ length rs + 1
  prefix_readers vs all v rs seats r e d h = prefix_length vs all v (length seats) e h ∙ seats_length rs seats r d

  -- the last version is that of the last reader
  pub fresh_reader : (vs all : List (Running Proc)) (v : Running Proc) (rs seats : List (Reader K G)) (r : Reader K G) (l : Lead K G) → all ≡ vs ++ v ∷ []
      → seats ≡ rs ++ r ∷ [] → length all ≡ length seats + 1 → AreNewSeats seats l → AreFresh threads 0 all → IsFresh threads (version_of_reader r) v
  fresh_reader vs all v rs seats r l e d h s f =
      version_last vs all v (version_of_reader r) e (prefix_readers vs all v rs seats r e d h ∙ sym (reader_version rs seats r l d s)) f

  -- one worker more
  pub staffs_more : (vs all : List (Running Proc)) (v : Running Proc) (rs seats : List (Reader K G)) (r : Reader K G) (l : Lead K G) (ws : List (Worker K G)) (w : Worker K G)
      → all ≡ vs ++ v ∷ [] → seats ≡ rs ++ r ∷ [] → length vs ≡ length rs + 1 → StaffsAnew vs rs l ws → ReadsAnew v r w → StaffsAnew all seats l (ws ++ w ∷ [])
  staffs_more vs all v rs seats r l ws w e d h s n = λ room a.
      let b : AreAsMade room (rs ++ r ∷ []) l = subst (λ (x : List (Reader K G)). AreAsMade room x l) d a in
      let q : IsFreshReader room (length rs + 1) r = last_made room rs r l b in
      let at = q.2 in
      let z : version_of_reader r ≡ 0 + length vs = omega arith in
      let one : IsNewWorker room (0 + length vs) v w = subst (λ (j : ℕ). IsNewWorker room j v w) z (n room (own_version room (length rs + 1) r q)) in
      subst (λ (x : List (Running Proc)). AreNew room 0 x (ws ++ w ∷ [])) (sym e) (new_more room 0 vs ws v w (s room (prefix_made room rs r l b)) one)

  -- what the making of a room gives
  pub as_made : (room : Room K) (rs : List (Reader K G)) (l : Lead K G) → FreshReaders room rs → IsFreshLead room l → G.log (kernel_of l) ≡ [] → AreAsMade room rs l
  as_made room rs l r f log = record { readers = r; lead = record { fresh = f; log = log } }
