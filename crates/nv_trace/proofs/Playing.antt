-- A kernel that serves events one after another.
use Rattle.std.proofs.Common.{◌≡◌, ℕ, zero, suc, ◌+◌, ◌<◌, ◌≤◌, Bool, true, false, ◌==◌, List, [], ◌∷◌, ◌++◌, length, take, drop, map, Some, None, option_map, cond, ⊎_elim, refl, sym, ap, subst, ◌∙◌, arith, get_or}
use Rattle.std.specs.Prelude.{slice_get, is_some, ◌⊎◌}
use Rattle.std.specs.Option.{option_or}
use Rattle.std.proofs.lemmas.List.{length-take-le, take_all}
use Rattle.std.proofs.lemmas.Option.{slice_get_within, slice_get_read, slice_get-map}
use Rattle.nv_calls.specs.declared.calls.Event.{Event}
use Rattle.nv_calls.specs.Calls.{Response, Entry, entry}
use Rattle.nv_calls.specs.Logs.{Start, served, calls_of, live_after, ended_after, last_status, IsLawful, IsNew, child_of}
use Rattle.nv_calls.specs.Shapes.{is_shaped}
use Rattle.nv_calls.proofs.LogLaws.{take_whole}
use Rattle.nv_trace.specs.declared.fault.CheckFault.{CheckFault}
use Rattle.nv_trace.specs.declared.fault.CheckFault.TheVariants.{Ended, Shape, Thread, Reply, Memory}
use Rattle.nv_trace.specs.Checks.{AreStamped, AreSoundEvents, is_live, is_reply, entry_fault, faults_after, check_fault, served_before, left_at, StopsAtFault, StopsFor}
use Rattle.nv_trace.proofs.Sound.{faults_append, here, reply_is, sound_is, unsound_is}

ended_is : (b : Bool) (n : ℕ) → is_some (cond b (Some n) None) ≡ b
ended_is true n = refl
ended_is false n = refl

-- whether the process has ended
pub over_is : (log : List Entry) → is_some (ended_after log) ≡ (length (live_after log) == 0)
over_is log = ended_is (length (live_after log) == 0) (last_status log)

-- ---- one event after a log

module _ (start : Start) (log : List Entry) (e : Entry) where
  abbrev reply : Response
  reply = start.replies (calls_of log) e.call

  pub fault_ended : is_some (ended_after log) ≡ true → entry_fault start log e ≡ Some (Ended (length log))
  unfolding entry_fault
  fault_ended h = let over = sym (over_is log) ∙ h in rw over refl

  pub fault_shape : is_some (ended_after log) ≡ false → is_shaped e.call ≡ false → entry_fault start log e ≡ Some (Shape (length log))
  unfolding entry_fault
  fault_shape h shape = let over = sym (over_is log) ∙ h in rw (over, shape) refl

  pub fault_thread : is_some (ended_after log) ≡ false → is_shaped e.call ≡ true → is_live (live_after log) e.call.tid ≡ false → entry_fault start log e ≡ Some (Thread (length log))
  unfolding entry_fault
  fault_thread h shape live = let over = sym (over_is log) ∙ h in rw (over, shape, live) refl

  pub fault_reply : is_some (ended_after log) ≡ false → is_shaped e.call ≡ true → is_live (live_after log) e.call.tid ≡ true → is_reply reply e.reply ≡ false
      → entry_fault start log e ≡ Some (Reply (length log))
  unfolding entry_fault
  fault_reply h shape live other = let over = sym (over_is log) ∙ h in rw (over, shape, live, other) refl

  pub fault_none : is_some (ended_after log) ≡ false → is_shaped e.call ≡ true → is_live (live_after log) e.call.tid ≡ true → is_reply reply e.reply ≡ true → entry_fault start log e ≡ None
  unfolding entry_fault
  fault_none h shape live same = let over = sym (over_is log) ∙ h in rw (over, shape, live, same) refl

  -- a thread that the event makes is new
  pub new_child : IsLawful (log ++ e ∷ []) → IsNew (live_after log) (child_of e)
  new_child ok =
      let m = ok (length log) e (here log [] e) in
      subst (λ (z : List Entry). IsNew (live_after z) (child_of e)) (take_whole log (e ∷ [])) m.new

-- ---- what a kernel has served

module _ (start now : Start) (log before later : List Entry) (e : Entry) (l : before ≡ log) (s : now ≡ start) (one : later ≡ before ++ served now before e.call ∷ []) where
  pub later_is : later ≡ log ++ served start log e.call ∷ []
  later_is = one ∙ (λ i. l i ++ served (s i) (l i) e.call ∷ [])

  -- the event came, where its reply is the kernel's
  pub came : e.stamp ≡ length log → is_reply (start.replies (calls_of log) e.call) e.reply ≡ true → later ≡ log ++ e ∷ []
  came stamp same =
      let reply : start.replies (calls_of log) e.call ≡ e.reply = reply_is (start.replies (calls_of log) e.call) e.reply same in
      later_is ∙ (λ i. log ++ record { stamp = sym stamp i; call = e.call; reply = reply i } ∷ [])

-- ---- the events of a list

pub item_at : (events : List Event) (i : ℕ) (x : Event) → i < length events → x ≡ get_or events i x → slice_get (map entry events) i ≡ Some (entry x)
item_at events i x less is = slice_get-map entry events i ∙ ap (option_map entry) (slice_get_read events (length events) i x refl less is)

split : (xs : List Entry) (i : ℕ) (x : Entry) → slice_get xs i ≡ Some x → xs ≡ take i xs ++ (x ∷ drop (i + 1) xs)
split [] i x h = cc
split (y ∷ xs) zero x h = let same : y ≡ x = some_is y x h in ap (λ z. z ∷ xs) same
  where
    some_is : (a b : Entry) → Some a ≡ Some b → a ≡ b
    some_is a b e = cc
split (y ∷ xs) (suc i) x h = let e : suc (i + 1) ≡ suc i + 1 = omega arith in ap (λ t. y ∷ t) (split xs i x h) ∙ ap (λ n. y ∷ (take i xs ++ (x ∷ drop n (y ∷ xs)))) e

pub take_next : (xs : List Entry) (i : ℕ) (x : Entry) → slice_get xs i ≡ Some x → take (i + 1) xs ≡ take i xs ++ x ∷ []
take_next [] i x h = cc
take_next (y ∷ xs) zero x h = let same : y ≡ x = some_is y x h in ap (λ z. z ∷ []) same
  where
    some_is : (a b : Entry) → Some a ≡ Some b → a ≡ b
    some_is a b e = cc
take_next (y ∷ xs) (suc i) x h = let e : suc i + 1 ≡ suc (i + 1) = omega arith in ap (λ n. take n (y ∷ xs)) e ∙ ap (λ t. y ∷ t) (take_next xs i x h)

one_there : (xs : List Entry) (i : ℕ) (x : Entry) → slice_get xs i ≡ Some x → take 1 (drop i xs) ≡ x ∷ []
one_there [] i x h = cc
one_there (y ∷ xs) zero x h = let same : y ≡ x = some_is y x h in ap (λ z. z ∷ []) same
  where
    some_is : (a b : Entry) → Some a ≡ Some b → a ≡ b
    some_is a b e = cc
one_there (y ∷ xs) (suc i) x h = one_there xs i x h

length_before : (xs : List Entry) (i : ℕ) (x : Entry) → slice_get xs i ≡ Some x → length (take i xs) ≡ i
length_before xs i x h = let within = slice_get_within xs i x h in length-take-le i xs (omega arith)

pub data IsAt (n : ℕ) : CheckFault → Type 0 where
  at_end : IsAt n (Ended n)
  at_shape : IsAt n (Shape n)
  at_thread : IsAt n (Thread n)
  at_reply : IsAt n (Reply n)

placed_by : (n : ℕ) (a b c d : Bool) (fault : CheckFault) → cond a (Some (Ended n)) (cond b (Some (Shape n)) (cond c (Some (Thread n)) (cond d (Some (Reply n)) None))) ≡ Some fault → IsAt n fault
placed_by n true b c d fault h = let e : Ended n ≡ fault = cc in subst (IsAt n) e at_end
placed_by n false true c d fault h = let e : Shape n ≡ fault = cc in subst (IsAt n) e at_shape
placed_by n false false true d fault h = let e : Thread n ≡ fault = cc in subst (IsAt n) e at_thread
placed_by n false false false true fault h = let e : Reply n ≡ fault = cc in subst (IsAt n) e at_reply
placed_by n false false false false fault h = cc

pub placed : (start : Start) (log : List Entry) (e : Entry) (fault : CheckFault) → entry_fault start log e ≡ Some fault → IsAt (length log) fault
unfolding entry_fault
placed start log e fault h = placed_by (length log) _ _ _ _ fault h

module _ (start : Start) (events : List Entry) (i : ℕ) (e : Entry) (at : slice_get events i ≡ Some e) where
  left_here : (fault : CheckFault) → IsAt i fault → left_at start (take i events) e fault ≡ served_before start events fault
  left_here fault at_end = refl
  left_here fault at_shape = refl
  left_here fault at_thread = refl
  left_here fault at_reply = ap (λ t. take i events ++ map (λ f. served start (take i events) f.call) t) (sym (one_there events i e at))

  -- what was served at the fault of this event
  pub left_is : (fault : CheckFault) → entry_fault start (take i events) e ≡ Some fault → left_at start (take i events) e fault ≡ served_before start events fault
  left_is fault h = left_here fault (subst (λ n. IsAt n fault) (length_before events i e at) (placed start (take i events) e fault h))

  -- the first fault is this event's
  pub first_fault : (fault : CheckFault) → check_fault start (take i events) ≡ None → entry_fault start (take i events) e ≡ Some fault → check_fault start events ≡ Some fault
  unfolding check_fault
  first_fault fault none h =
      ap (faults_after start []) (split events i e at) ∙ faults_append start [] (take i events) (e ∷ drop (i + 1) events)
      ∙ (λ k. option_or (none k) (option_or (h k) (faults_after start (take i events ++ e ∷ []) (drop (i + 1) events))))

  -- one event more without a fault
  pub one_more : check_fault start (take i events) ≡ None → entry_fault start (take i events) e ≡ None → check_fault start (take (i + 1) events) ≡ None
  unfolding check_fault
  one_more none h =
      ap (faults_after start []) (take_next events i e at) ∙ faults_append start [] (take i events) (e ∷ [])
      ∙ (λ k. option_or (none k) (option_or (h k) None))

-- a kernel has served the first events of a list, none of which has a fault; these threads live
pub record HasPlayed (start : Start) (events : List Entry) (i : ℕ) (now : Start) (log : List Entry) (live : List ℕ) : Type 0 where
  pub start_is : now ≡ start
  pub log_is : log ≡ take i events
  pub live_is : live ≡ live_after log
  pub faultless : check_fault start log ≡ None

pub played_none : (start : Start) (events log : List Entry) (live : List ℕ) → log ≡ [] → live ≡ live_after [] → HasPlayed start events 0 start log live
unfolding check_fault
played_none start events log live none is = record {
  start_is = refl;
  log_is = none;
  live_is = is ∙ ap live_after (sym none);
  faultless = ap (faults_after start []) none;
}

pub length_played : (events log : List Entry) (i : ℕ) → log ≡ take i events → i < length events → length log ≡ i
length_played events log i is less = ap length is ∙ length-take-le i events (omega arith)

module _ (start : Start) (events : List Entry) (i : ℕ) (e : Entry) (at : slice_get events i ≡ Some e) (log : List Entry) (is : log ≡ take i events) (none : check_fault start log ≡ None) where
  stopped : (fault : CheckFault) (later : List Entry) → entry_fault start log e ≡ Some fault → later ≡ left_at start log e fault → StopsAtFault start events fault later
  stopped fault later h left =
      let here : entry_fault start (take i events) e ≡ Some fault = subst (λ (z : List Entry). entry_fault start z e ≡ Some fault) is h in
      let clear : check_fault start (take i events) ≡ None = subst (λ (z : List Entry). check_fault start z ≡ None) is none in
      let first = first_fault start events i e at fault clear here in
      record {
        first = first;
        unsound = unsound_is start events fault first;
        left = left ∙ ap (λ (z : List Entry). left_at start z e fault) is ∙ left_is start events i e at fault here;
      }

  -- the event stops the kernel
  pub stops_for : (fault : CheckFault) (later : List Entry) → (fault ≡ Memory) ⊎ (entry_fault start log e ≡ Some fault) → later ≡ left_at start log e fault → StopsFor start events fault later
  stops_for (Ended n) later which left = ⊎_elim (λ (m : Ended n ≡ Memory). cc) (λ (h : entry_fault start log e ≡ Some (Ended n)). stopped (Ended n) later h left) which
  stops_for (Shape n) later which left = ⊎_elim (λ (m : Shape n ≡ Memory). cc) (λ (h : entry_fault start log e ≡ Some (Shape n)). stopped (Shape n) later h left) which
  stops_for (Thread n) later which left = ⊎_elim (λ (m : Thread n ≡ Memory). cc) (λ (h : entry_fault start log e ≡ Some (Thread n)). stopped (Thread n) later h left) which
  stops_for (Reply n) later which left = ⊎_elim (λ (m : Reply n ≡ Memory). cc) (λ (h : entry_fault start log e ≡ Some (Reply n)). stopped (Reply n) later h left) which
  stops_for Memory later which left = record { place = i; left = left ∙ is; faultless = subst (λ (z : List Entry). check_fault start z ≡ None) (sym left) none }

  -- the kernel has served the event too
  pub played_more : (now : Start) (later : List Entry) (live : List ℕ) → now ≡ start → later ≡ log ++ e ∷ [] → live ≡ live_after later → entry_fault start log e ≡ None
      → HasPlayed start events (i + 1) now later live
  played_more now later live same one lives h =
      let here : entry_fault start (take i events) e ≡ None = subst (λ (z : List Entry). entry_fault start z e ≡ None) is h in
      let clear : check_fault start (take i events) ≡ None = subst (λ (z : List Entry). check_fault start z ≡ None) is none in
      let all : later ≡ take (i + 1) events = one ∙ ap (λ (z : List Entry). z ++ e ∷ []) is ∙ sym (take_next events i e at) in
      record {
        start_is = same;
        log_is = all;
        live_is = lives;
        faultless = subst (λ (z : List Entry). check_fault start z ≡ None) (sym all) (one_more start events i e at clear here);
      }

-- all events were served
module _ (start : Start) (events : List Entry) (i : ℕ) (now : Start) (log : List Entry) (live : List ℕ) (p : HasPlayed start events i now log live) (past : length events ≤ i) where
  pub all_served : log ≡ events
  all_served = p.log_is ∙ take_all i events past

  pub all_sound : AreStamped events → AreSoundEvents start events
  all_sound stamped = sound_is start events stamped (subst (λ (z : List Entry). check_fault start z ≡ None) all_served p.faultless)
