-- A run over its versions: each turn in code is a turn of the definition.
use Rattle.std.proofs.Common.{◌≡◌, ◌∙◌, sym, ap, subst, refl, ℕ, ◌<◌, ◌≤◌, ◌⊎◌, inl, inr, Bool, true, false, List, [], ◌∷◌, ◌++◌, length, take, set, Option, Some, None, arith, append-nil, length-append}
use Rattle.std.specs.Prelude.{slice_get, not, ◌==◌, nat_lt}
use Rattle.std.proofs.lemmas.Bool.Decides.{nat_tests}
use Rattle.std.proofs.lemmas.Option.{same_Some}
use Rattle.nv_calls.specs.Calls.{Entry}
use Rattle.nv_calls.specs.Logs.{Start, live_after}
use Rattle.nv_threads.specs.Behaviours.{Behaviour, IsProcess}
use Rattle.nv_replay.specs.declared.fate.Fate.{Fate}
use Rattle.nv_replay.specs.declared.fate.Fate.TheVariants as fates
use Rattle.nv_replay.specs.Follow.{Follower, Judge, follow, IsInStep, is_exited}
use Rattle.nv_replay.specs.Lead.{Leader, is_cut, cut_of}
use Rattle.nv_calls.specs.Hands.{has}
use Rattle.nv_replay.specs.Hands.{is_handed}
use Rattle.nv_replay.specs.Sequence.{is_going}
use Rattle.nv_replay.specs.Monitor.{Run, begun, led_line, after_lead, with_span, tracked_by, leads_on, turn}
use Rattle.nv_replay.specs.Version.{Running, leader_of, standing_of}
use Rattle.nv_replay.proofs.Settled.{Reaches, reach_on}
use Rattle.nv_replay.specs.Turns.{Suits}
use Rattle.nv_sequence.specs.Passing.{HasLed, followed, given_up, turned_of}
use Rattle.nv_sequence.specs.inner.Passing.{order_of, turn_goes_on}
use Rattle.nv_replay.specs.Account as accounts
use Rattle.nv_replay.proofs.Numbers.{length_set, set_cases, set_same, get_set, get_other, IsDistinct, has_here, has_after, has_other, has_last, has_prefix, has_either, distinct_last, eq_self, eq_same}
use Rattle.nv_replay.proofs.Rotating.{dropped}
use Rattle.nv_sequence.proofs.Rounds.{told_by, part_of, parts_of, run_of, parts_at, parts_set, Stands, stands_on, has_led, tracks_whole, no_cut, passed, ended_leader, handed_over}
use Rattle.nv_sequence.proofs.Rounds as rounds
use Rattle.nv_replay.proofs.Fates.{off_some, none_on}
use Rattle.nv_sequence.proofs.Taking.{fated_follow}
use Rattle.nv_replay.proofs.Tracking.{follow_more}
use Rattle.nv_replay.proofs.Turning.{take_all}

-- each version has come to where its cut allows
abbrev pub AreSo : {P : Type 0} → (ℕ → Option ℕ) → List (Running P) → Type 0
AreSo {P} cuts vs = (k : ℕ) (v : Running P) → slice_get vs k ≡ Some v → Suits (cuts k) v.at.fate v.at.seen

pub suits_by : {P : Type 0} (c : Option ℕ) (v w : Follower P) (o : Option Fate) → v.fate ≡ o → Suits c w.fate w.seen → v.seen ≤ w.seen → ((v.fate ≡ None → ⊥) → w ≡ v)
    → Suits c v.fate v.seen
suits_by c v w None e s l k = record { below = λ j h. s.below j (omega arith); end = λ z. absurd (off_some v.fate z e) }
suits_by {P} c v w (Some x) e s l k = subst (λ (y : Follower P). Suits c y.fate y.seen) (k (λ z. let q : None ≡ Some x = sym z ∙ e in cc)) s

so_by : {P : Type 0} (cuts : ℕ → Option ℕ) (vs : List (Running P)) (i : ℕ) (v w : Running P) → slice_get vs i ≡ Some v → AreSo cuts (set vs i w)
    → Suits (cuts i) v.at.fate v.at.seen → (k : ℕ) (x : Running P) (b : Bool) → (i == k) ≡ b → slice_get vs k ≡ Some x → Suits (cuts k) x.at.fate x.at.seen
so_by {P} cuts vs i v w h a s k x true e q =
    let ik : i ≡ k = eq_same i k e in
    let vx : v ≡ x = same_Some v x (sym h ∙ (ap (slice_get vs) ik ∙ q)) in
    subst (λ (y : Running P). Suits (cuts k) y.at.fate y.at.seen) vx (subst (λ (j : ℕ). Suits (cuts j) v.at.fate v.at.seen) ik s)
so_by cuts vs i v w h a s k x false e q = a k x (get_other vs i w k e ∙ q)

pub order_off : (f : Option Fate) (order : List ℕ) (i : ℕ) → is_going f ≡ false → order_of order i (turned_of f) ≡ order
order_off None order i h = cc
order_off (Some (fates.Exited s)) order i h = refl
order_off (Some (fates.Fault a b c)) order i h = refl
order_off (Some (fates.Refused a b c d)) order i h = refl
order_off (Some fates.Memory) order i h = refl
order_off (Some fates.LetGo) order i h = refl

pub goes_off : (f : Option Fate) → turn_goes_on (turned_of f) ≡ not (is_exited f)
goes_off None = refl
goes_off (Some (fates.Exited s)) = refl
goes_off (Some (fates.Fault a b c)) = refl
goes_off (Some (fates.Refused a b c d)) = refl
goes_off (Some fates.Memory) = refl
goes_off (Some fates.LetGo) = refl

-- a cut that isn't below a length
beyond : (c : Option ℕ) (m n : ℕ) → ((k : ℕ) → k < m → is_cut c k ≡ false) → c ≡ Some n → m ≤ n
beyond c m n h e = by_order (nat_lt n m) refl where
  by_order : (b : Bool) → nat_lt n m ≡ b → m ≤ n
  by_order true q =
      let l : n < m = grind (arith, nat_tests) in
      let z : true ≡ false = sym (eq_self n) ∙ (ap (λ (x : Option ℕ). is_cut x n) (sym e) ∙ h n l) in cc
  by_order false q = grind (arith, nat_tests)

pub never : (c : Option ℕ) (m n : ℕ) → c ≡ None → c ≡ Some n → m ≤ n
never c m n h e = let z : None ≡ Some n = sym h ∙ e in cc

module _ {P : Type 0} (g : Behaviour P) (laws : IsProcess g) (judges : ℕ → Judge) (start : Start) (most : ℕ) (hands : List ℕ) (ps : List P) where
  -- a run has come so far
  pub record Goes (vs : List (Running P)) (order : List ℕ) (log : List Entry) (over : Bool) : Type 0 where
    pub each : (k : ℕ) (p : P) (v : Running P) → slice_get ps k ≡ Some p → slice_get vs k ≡ Some v → Stands g hands (judges k) k p v log
    pub same : length vs ≡ length ps
    pub waits : (k : ℕ) (v : Running P) → slice_get vs k ≡ Some v → has order k ≡ true → v.leading ≡ false
    pub waiting : (k : ℕ) (v : Running P) → slice_get vs k ≡ Some v → v.at.fate ≡ None → has order k ≡ true
    pub known : (k : ℕ) → has order k ≡ true → k < length vs
    pub distinct : IsDistinct order
    pub short : length order ≤ 8
    pub dead : over ≡ true → live_after log ≡ []
    pub reach : (cuts : ℕ → Option ℕ) → AreSo cuts vs → Reaches (turn g judges start most cuts hands) (begun ps) (run_of ps vs order log over)

  -- the version of this number, which was the order's first, has become w
  changed : (vs : List (Running P)) (i : ℕ) (order new_order : List ℕ) (log new_log more : List Entry) (over : Bool) (v w : Running P) (p : P)
      → Goes vs (i ∷ order) log false → slice_get vs i ≡ Some v → slice_get ps i ≡ Some p → new_log ≡ log ++ more → Stands g hands (judges i) i p w new_log
      → ((k : ℕ) → has new_order k ≡ true → (has order k ≡ true) ⊎ ((i ≡ k) × (w.leading ≡ false)))
      → ((k : ℕ) → has order k ≡ true → has new_order k ≡ true) → (w.at.fate ≡ None → has new_order i ≡ true)
      → IsDistinct new_order → length new_order ≤ 8 → (over ≡ true → live_after new_log ≡ [])
      → ((cuts : ℕ → Option ℕ) → AreSo cuts (set vs i w) → AreSo cuts vs × (turn g judges start most cuts hands (run_of ps vs (i ∷ order) log false) ≡ run_of ps (set vs i w) new_order new_log over))
      → Goes (set vs i w) new_order new_log over
  changed vs i order new_order log new_log more over v w p a h hp l s in_new kept own d few dead step = record {
    each = λ k q x j m. elim (set_cases vs i w k x m) [
      | inl (e, y) ↦
          let pq : p ≡ q = same_Some p q (sym hp ∙ (ap (slice_get ps) e ∙ j)) in
          let S : ℕ → P → Running P → Type 0 = λ n z u. Stands g hands (judges n) n z u new_log in
          subst (λ (u : Running P). S k q u) y (subst (λ (z : P). S k z w) pq (subst (λ (n : ℕ). S n p w) e s))
      | inr (e, y) ↦ subst (λ (z : List Entry). Stands g hands (judges k) k q x z) (sym l) (stands_on g hands (judges k) k q x log more (a.each k q x j y))
    ];
    same = length_set vs i w ∙ a.same;
    waits = λ k x m n. elim (set_cases vs i w k x m) [
      | inl (e, y) ↦ elim (in_new k n) [
        | inl o ↦ (let z : true ≡ false = sym o ∙ (ap (has order) (sym e) ∙ a.distinct.0) in cc)
        | inr (q, o) ↦ ap (λ (u : Running P). u.leading) (sym y) ∙ o
      ]
      | inr (e, y) ↦ elim (in_new k n) [
        | inl o ↦ a.waits k x y (has_after i k order o)
        | inr (q, o) ↦ (let z : true ≡ false = sym (eq_self i) ∙ (ap (λ (j : ℕ). i == j) q ∙ e) in cc)
      ]
    ];
    waiting = λ k x m n. elim (set_cases vs i w k x m) [
      | inl (e, y) ↦ subst (λ (j : ℕ). has new_order j ≡ true) e (own (ap (λ (u : Running P). u.at.fate) y ∙ n))
      | inr (e, y) ↦ kept k (has_other i k order (a.waiting k x y n) e)
    ];
    known = λ k n. elim (in_new k n) [
      | inl o ↦ (let z = a.known k (has_after i k order o) in omega (arith, length_set vs i w))
      | inr (q, o) ↦ (let z = a.known i (has_here i order) in omega (arith, length_set vs i w, q))
    ];
    distinct = d;
    short = few;
    dead = dead;
    reach = λ cuts so.
        let t = step cuts so in
        subst (λ (m : Run P). Reaches (turn g judges start most cuts hands) (begun ps) m) t.1
        (reach_on (turn g judges start most cuts hands) (begun ps) (run_of ps vs (i ∷ order) log false) (a.reach cuts t.0));
  }

  -- where a run has come to after a turn
  pub record After (vs : List (Running P)) (order : List ℕ) (log : List Entry) (on : Bool) : Type 0 where
    pub over : Bool
    pub goes : Goes vs order log over
    pub stays : on ≡ true → over ≡ false
    pub stops : on ≡ false → (over ≡ true) ⊎ (order ≡ [])

  pub passed_by : (vs : List (Running P)) (i : ℕ) (order : List ℕ) (log new_log : List Entry) (v w : Running P) (p : P) (x : Fate)
      → Goes vs (i ∷ order) log false → slice_get vs i ≡ Some v → slice_get ps i ≡ Some p
      → (follow g (judges v.index) log v.at).fate ≡ Some x → w ≡ followed g judges log v → new_log ≡ log → IsInStep g log w.at → Goes (set vs i w) order new_log false
  passed_by vs i order log new_log v w p x a h hp fx e l st =
      let s = a.each i p v hp h in
      let idle = a.waits i v h (has_here i order) in
      let f : Follower P = follow g (judges i) log v.at in
      let we : w ≡ record v { at = f } = e ∙ ap (λ (n : ℕ). record v { at = follow g (judges n) log v.at }) s.index in
      let fx' : f.fate ≡ Some x = ap (λ (n : ℕ). (follow g (judges n) log v.at).fate) (sym s.index) ∙ fx in
      let wf : w.at.fate ≡ Some x = ap (λ (y : Running P). y.at.fate) we ∙ fx' in
      let pw : part_of p w ≡ part_of p v = ap (part_of p) we ∙ rw idle refl in
      changed vs i order order log new_log [] false v w p a h hp (l ∙ sym (append-nil log)) (passed g laws (judges i) start most hands i p v w log new_log s idle we l st)
      (λ k n. inl n) (λ k n. n) (λ n. let z : Some x ≡ None = sym wf ∙ n in cc) a.distinct.1 (let q = a.short in omega arith) (λ z. cc)
      (λ cuts so.
      let own = so i w (get_set vs i v w h) in
      let none : cuts i ≡ None = own.end (ap is_going wf) ∙ (ap (λ (y : Running P). cut_of y.at.fate y.at.seen) we
      ∙ no_cut g laws (judges i) start most hands i p v w log new_log s idle f.seen) in
      let t : tracked_by g judges start most cuts hands log i (part_of p v) ≡ f =
      tracks_whole g laws (judges i) start most hands i p v w log new_log s idle (cuts i) (λ n e. never (cuts i) (length log) n none e) in (
        λ k y q. so_by cuts vs i v w h so
            (suits_by (cuts i) v.at w.at v.at.fate refl own
            (subst (λ (u : Running P). v.at.seen ≤ u.at.seen) (sym we) (follow_more g laws (judges i) log v.at))
            (λ z. ap (λ (u : Running P). u.at) we ∙ fated_follow g laws (judges i) log v.at z)) k y (i == k) refl q,
        dropped g judges start most cuts hands (run_of ps vs (i ∷ order) log false) i order (part_of p v) x refl refl (parts_at ps vs i p v hp h)
            (ap (λ (y : Follower P). y.fate) t ∙ fx')
            ∙ (λ j. record {
              log = sym l j;
              over = false;
              order = order;
              parts = (sym (set_same (parts_of ps vs) i (part_of p v) (parts_at ps vs i p v hp h))
                  ∙ (ap (set (parts_of ps vs) i) (sym pw) ∙ sym (parts_set ps vs i p w hp))) j;
            }),
      ))

  -- the turn of the definition, where the version has led
  after_is : (vs : List (Running P)) (i : ℕ) (order : List ℕ) (log new_log : List Entry) (v e : Running P) (p : P) (b : Bool) (rewrites : ℕ) → is_going e.at.fate ≡ b
      → slice_get ps i ≡ Some p → e.led ≡ v.led ++ (length log, length new_log) ∷ [] → e.at.seen ≡ length new_log → (f : Follower P) → e.at.rewrites ≡ f.rewrites → v.leading ≡ false
      → after_lead (run_of ps vs (i ∷ order) log false) i order (part_of p v) f (leader_of e new_log) b
      ≡ run_of ps (set vs i (given_up e)) (order_of order i (turned_of e.at.fate)) new_log (is_exited e.at.fate)
  after_is vs i order log new_log v e p true rewrites h hp l n f r idle =
      let o : e.at.fate ≡ None = none_on e.at.fate h in
      let part : record (with_span (part_of p v) (length log) (length new_log)) { told = None } ≡ part_of p (given_up e) = (λ j. record { process = p; led = sym l j; told = None })
      ∙ ap (λ (x : Bool). record { process = p; led = e.led; told = told_by (given_up e) (not x) }) (sym h) in
      (λ j. record {
        log = new_log;
        over = ap is_exited (sym o) j;
        order = ap (λ (x : Option Fate). order_of order i (turned_of x)) (sym o) j;
        parts = (ap (set (parts_of ps vs) i) part ∙ sym (parts_set ps vs i p (given_up e) hp)) j;
      })
  after_is vs i order log new_log v e p false rewrites h hp l n f r idle =
      let line : led_line (part_of p v) f (length log) (leader_of e new_log) ≡ standing_of (given_up e) = λ j. record
      { fate = e.at.fate; seen = sym n j; led = sym l j; rewrites = sym r j } in
      let part : record (with_span (part_of p v) (length log) (length new_log)) { told = Some (led_line (part_of p v) f (length log) (leader_of e new_log)) } ≡ part_of p (given_up e) =
      (λ j. record { process = p; led = sym l j; told = Some (line j) }) ∙ ap (λ (x : Bool). record { process = p; led = e.led; told = told_by (given_up e) (not x) }) (sym h) in
      (λ j. record {
        log = new_log;
        over = is_exited e.at.fate;
        order = sym (order_off e.at.fate order i h) j;
        parts = (ap (set (parts_of ps vs) i) part ∙ sym (parts_set ps vs i p (given_up e) hp)) j;
      })

  led_order : (order : List ℕ) (i : ℕ) (f : Option Fate) (b : Bool) → is_going f ≡ b → (k : ℕ) → has (order_of order i (turned_of f)) k ≡ true
      → (has order k ≡ true) ⊎ ((i ≡ k) × (not b ≡ false))
  led_order order i f true h k n = elim (has_either order i k (subst (λ (x : Option Fate). has (order_of order i (turned_of x)) k ≡ true) (none_on f h) n)) [
    | inl o ↦ inl o
    | inr e ↦ inr (e, refl)
  ]
  led_order order i f false h k n = inl (subst (λ (x : List ℕ). has x k ≡ true) (order_off f order i h) n)

  led_kept : (order : List ℕ) (i : ℕ) (f : Option Fate) (b : Bool) → is_going f ≡ b → (k : ℕ) → has order k ≡ true → has (order_of order i (turned_of f)) k ≡ true
  led_kept order i f true h k n = subst (λ (x : Option Fate). has (order_of order i (turned_of x)) k ≡ true) (sym (none_on f h)) (has_prefix order i k n)
  led_kept order i f false h k n = subst (λ (x : List ℕ). has x k ≡ true) (sym (order_off f order i h)) n

  led_own : (order : List ℕ) (i : ℕ) (f : Option Fate) → f ≡ None → has (order_of order i (turned_of f)) i ≡ true
  led_own order i f h = subst (λ (x : Option Fate). has (order_of order i (turned_of x)) i ≡ true) (sym h) (has_last order i)

  led_distinct : (order : List ℕ) (i : ℕ) (f : Option Fate) (b : Bool) → is_going f ≡ b → IsDistinct order → has order i ≡ false → IsDistinct (order_of order i (turned_of f))
  led_distinct order i f true h d n = subst (λ (x : Option Fate). IsDistinct (order_of order i (turned_of x))) (sym (none_on f h)) (distinct_last order i d n)
  led_distinct order i f false h d n = subst IsDistinct (sym (order_off f order i h)) d

  led_short : (order : List ℕ) (i : ℕ) (f : Option Fate) (b : Bool) → is_going f ≡ b → length order < 8 → length (order_of order i (turned_of f)) ≤ 8
  led_short order i f true h l = subst (λ (x : Option Fate). length (order_of order i (turned_of x)) ≤ 8) (sym (none_on f h)) (omega (arith, length-append order (i ∷ [])))
  led_short order i f false h l = subst (λ (x : List ℕ). length x ≤ 8) (sym (order_off f order i h)) (omega arith)

  stands_by : (i : ℕ) (p : P) (v e : Running P) (log new_log : List Entry) (b : Bool) → is_going e.at.fate ≡ b
      → (s : Stands g hands (judges i) i p v log) → v.leading ≡ false → (follow g (judges i) log v.at).fate ≡ None
      → HasLed g start most hands (accounts.with_span (record v { at = follow g (judges i) log v.at }) (length log)) e log new_log → Stands g hands (judges i) i p (given_up e) new_log
  stands_by i p v e log new_log true h s idle n d =
      handed_over g laws (judges i) start most hands i p v e log new_log s idle e n (has_led g laws (judges i) start most hands i p v e log new_log s idle e n d) d (none_on e.at.fate h)
  stands_by i p v e log new_log false h s idle n d =
      ended_leader g laws (judges i) start most hands i p v e log new_log s idle e (has_led g laws (judges i) start most hands i p v e log new_log s idle e n d) d h

  pub led_by : (vs : List (Running P)) (i : ℕ) (order : List ℕ) (log new_log : List Entry) (v e : Running P) (p : P)
      → Goes vs (i ∷ order) log false → slice_get vs i ≡ Some v → slice_get ps i ≡ Some p
      → (follow g (judges i) log v.at).fate ≡ None
      → HasLed g start most hands (accounts.with_span (record v { at = follow g (judges i) log v.at }) (length log)) e log new_log
      → Goes (set vs i (given_up e)) (order_of order i (turned_of e.at.fate)) new_log (is_exited e.at.fate)
  led_by vs i order log new_log v e p a h hp n d =
      let s = a.each i p v hp h in
      let idle = a.waits i v h (has_here i order) in
      let f : Follower P = follow g (judges i) log v.at in
      let ld = has_led g laws (judges i) start most hands i p v e log new_log s idle e n d in
      let m : Run P = run_of ps vs (i ∷ order) log false in
      let more_seen : v.at.seen ≤ e.at.seen = omega (arith, follow_more g laws (judges i) log v.at, ld.seen, d.on.seen, ap length ld.longer, length-append log ld.more) in
      let on_before : (v.at.fate ≡ None → ⊥) → e.at ≡ v.at = λ z. absurd (z (ap (λ (x : Follower P). x.fate) (sym (fated_follow g laws (judges i) log v.at z)) ∙ n)) in
      changed vs i order (order_of order i (turned_of e.at.fate)) log new_log ld.more (is_exited e.at.fate) v (given_up e) p a h hp ld.longer
      (stands_by i p v e log new_log (is_going e.at.fate) refl s idle n d)
      (λ k x. led_order order i e.at.fate (is_going e.at.fate) refl k x)
      (λ k x. led_kept order i e.at.fate (is_going e.at.fate) refl k x) (λ x. led_own order i e.at.fate x)
      (led_distinct order i e.at.fate (is_going e.at.fate) refl a.distinct.1 a.distinct.0) (led_short order i e.at.fate (is_going e.at.fate) refl (let q = a.short in omega arith))
      (λ z. ap live_after (sym (take_all new_log) ∙ ap (λ (x : ℕ). take x new_log) (sym d.on.seen)) ∙ d.on.in_step.exited z)
      (λ cuts so.
      let own = so i (given_up e) (get_set vs i v (given_up e) h) in
      let own' : Suits (cuts i) e.at.fate (length new_log) = subst (λ (x : ℕ). Suits (cuts i) e.at.fate x) d.on.seen own in
      let lw : leads_on g judges start most cuts hands log i f ≡ leader_of e new_log = sym (ld.whole (cuts i) own') in
      let shorter : length log ≤ length new_log = omega (arith, ap length ld.longer, length-append log ld.more) in
      let t : tracked_by g judges start most cuts hands log i (part_of p v) ≡ f =
      tracks_whole g laws (judges i) start most hands i p v e log new_log s idle (cuts i)
      (λ c q. beyond (cuts i) (length log) c (λ k l. own'.below k (omega arith)) q) in
      let T = rounds.turn_led g judges start most cuts hands ps vs i order log p v h hp f t n in (
        λ k y q. so_by cuts vs i v (given_up e) h so (suits_by (cuts i) v.at e.at v.at.fate refl own more_seen on_before) k y (i == k) refl q,
        T ∙ (ap (λ (l : Leader P). after_lead m i order (part_of p v) f l (is_handed hands (length log) l)) lw
            ∙ (ap (λ (b : Bool). after_lead m i order (part_of p v) f (leader_of e new_log) b) d.handed
            ∙ after_is vs i order log new_log v e p (is_going e.at.fate) 0 refl hp ld.led d.on.seen f ld.rewrites idle)),
      ))
