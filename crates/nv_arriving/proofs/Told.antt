-- What an outside tells of what was done, at the beginning, where more is heard and where a call is served.
use Rattle.std.proofs.Common.{◌≡◌, ◌≤◌, ◌+◌, ◌∙◌, sym, ap, subst, refl, ℕ, Bool, true, false, nat_le, List, [], ◌∷◌, ◌++◌, take, length, length-append, map, append-nil, arith}
use Rattle.std.proofs.lemmas.Bool.{and_parts, and_from}
use Rattle.std.proofs.lemmas.Bool.Decides.{nat_tests}
use Rattle.nv_calls.specs.Answer.{state_after}
use Rattle.nv_calls.specs.Calls.{Entry}
use Rattle.nv_calls.specs.Hands.{with_hand}
use Rattle.nv_calls.specs.Logs.{calls_of}
use Rattle.nv_script.specs.Scripts.{Setup}
use Rattle.nv_script.specs.Arrivals.{Arrival}
use Rattle.nv_script.specs.Doings.{Said, Doing, Takes, Says, Hands, takings, sayings, handings, handing}
use Rattle.nv_arriving.specs.Arriving.{Stage, taken, ready_for, answer_next, serve_next, first_stage, Satisfied}
use Rattle.nv_arriving.specs.Doings.{said, doings_of, doings}
use Rattle.nv_arriving.specs.Kernel.{after, Grew}
use Rattle.nv_arriving.specs.Telling.{Adds, taken_before, are_at_most, IsTold, Tells, HasHanded}
use Rattle.nv_live.proofs.Doing.{handings-append}
use Rattle.nv_arriving.proofs.Doings.{doings_front, doings_more, takings_both, takings_all, takings_none, doings_taken}

-- ---- what was said

pub sayings_both : (xs ys : List Doing) → sayings (xs ++ ys) ≡ sayings xs ++ sayings ys
sayings_both [] ys = refl
sayings_both (Takes a ∷ xs) ys = sayings_both xs ys
sayings_both (Says s ∷ xs) ys = ap (λ (z : List Said). s ∷ z) (sayings_both xs ys)
sayings_both (Hands n ∷ xs) ys = sayings_both xs ys

pub sayings_all : (xs : List Said) → sayings (map Says xs) ≡ xs
sayings_all [] = refl
sayings_all (s ∷ xs) = ap (λ (z : List Said). s ∷ z) (sayings_all xs)

pub sayings_none : (xs : List Arrival) → sayings (map Takes xs) ≡ []
sayings_none [] = refl
sayings_none (a ∷ xs) = sayings_none xs

-- an answer whether it hands over is neither
module _ (n : ℕ) where
  takings_handing : (b : Bool) → takings (handing b n) ≡ []
  takings_handing true = refl
  takings_handing false = refl

  sayings_handing : (b : Bool) → sayings (handing b n) ≡ []
  sayings_handing true = refl
  sayings_handing false = refl

  before_handing : (k : ℕ) (b : Bool) → taken_before k (handing b n) ≡ []
  before_handing k true = refl
  before_handing k false = refl

-- ---- at which lengths leaders gave up the lead

handings_takes : (xs : List Arrival) → handings (map Takes xs) ≡ []
handings_takes [] = refl
handings_takes (a ∷ xs) = handings_takes xs

handings_says : (xs : List Said) → handings (map Says xs) ≡ []
handings_says [] = refl
handings_says (s ∷ xs) = handings_says xs

-- where none does so
handings_still : (done more : List Doing) → handings more ≡ [] → handings (done ++ more) ≡ handings done
handings_still done more none = handings-append done more ∙ ap (λ (z : List ℕ). handings done ++ z) none ∙ append-nil (handings done)

handings_asked : (answer : Bool) (n : ℕ) (done : List Doing) → handings (done ++ handing answer n) ≡ with_hand answer n (handings done)
handings_asked true n done = handings-append done (Hands n ∷ [])
handings_asked false n done = ap handings (append-nil done)

-- ---- how many were taken before each was said

before_both : (n : ℕ) (xs ys : List Doing) → taken_before n (xs ++ ys) ≡ taken_before n xs ++ taken_before (n + length (takings xs)) ys
before_both n [] ys = let same : n ≡ n + 0 = omega arith in ap (λ k. taken_before k ys) same
before_both n (Takes a ∷ xs) ys =
    let same : n + 1 + length (takings xs) ≡ n + length (a ∷ takings xs) = omega arith in
    before_both (n + 1) xs ys ∙ ap (λ k. taken_before (n + 1) xs ++ taken_before k ys) same
before_both n (Says s ∷ xs) ys = ap (λ (z : List ℕ). n ∷ z) (before_both n xs ys)
before_both n (Hands m ∷ xs) ys = before_both n xs ys

before_takes : (n : ℕ) (xs : List Arrival) → taken_before n (map Takes xs) ≡ []
before_takes n [] = refl
before_takes n (a ∷ xs) = before_takes (n + 1) xs

before_says : (n : ℕ) (xs : List Said) → taken_before n (map Says xs) ≡ map (λ _. n) xs
before_says n [] = refl
before_says n (s ∷ xs) = ap (λ (z : List ℕ). n ∷ z) (before_says n xs)

at_most_both : (a b c d : List ℕ) → are_at_most a b ≡ true → are_at_most c d ≡ true → are_at_most (a ++ c) (b ++ d) ≡ true
at_most_both [] [] c d p q = q
at_most_both [] (n ∷ ns) c d p q = cc
at_most_both (m ∷ ms) [] c d p q = cc
at_most_both (m ∷ ms) (n ∷ ns) c d p q =
    let parts = and_parts (nat_le m n) (are_at_most ms ns) p in
    and_from (nat_le m n) (are_at_most (ms ++ c) (ns ++ d)) parts.0 (at_most_both ms ns c d parts.1 q)

at_most_all : (m n : ℕ) (xs : List Said) → nat_le m n ≡ true → are_at_most (map (λ _. m) xs) (map (λ _. n) xs) ≡ true
at_most_all m n [] le = refl
at_most_all m n (s ∷ xs) le = and_from (nat_le m n) (are_at_most (map (λ _. m) xs) (map (λ _. n) xs)) le (at_most_all m n xs le)

-- ---- where more is heard

module _ (setup : Setup) (before now : List Arrival) (log : List Entry) where
  abbrev more : List Arrival
  more = after before now

  doings_heard : (over : Bool) → (over ≡ false → Satisfied (first_stage setup before) (calls_of log)) → (over ≡ true → now ≡ before) → Grew before now
      → doings setup now log ≡ doings setup before log
  doings_heard true h same g = ap (λ z. doings setup z log) (same refl)
  doings_heard false h same g = ap (λ z. doings setup z log) g ∙ doings_more setup before more log (h refl)

module _ {O : Type 0} (did : O → O → List Doing → Type 0) (begun : O) (setup : Setup) where
  is_first : did begun begun [] → IsTold did begun begun setup [] [] []
  unfolding doings
  is_first h = record { is = h; took = refl; said = refl; no_sooner = refl }

  pub told_first : Tells did begun begun setup [] []
  told_first h = ([], is_first h)

  pub handed_first : HasHanded did begun begun setup [] [] []
  handed_first h = ([], is_first h, refl)

  module _ (old new : O) (before now : List Arrival) (log log' : List Entry) (over : Bool) (e : log' ≡ log)
      (h : over ≡ false → Satisfied (first_stage setup before) (calls_of log)) (same : over ≡ true → now ≡ before) (g : Grew before now)
      (adds : Adds did old new (map Takes (after before now))) where
    heard : (done : List Doing) → IsTold did begun old setup before log done → IsTold did begun new setup now log' (done ++ map Takes (after before now))
    heard done was =
        let more : List Arrival = after before now in
        let d = doings_heard setup before now log over h same g in
        let is : IsTold did begun new setup now log (done ++ map Takes more) = record {
          is = adds begun done was.is;
          took = takings_both done (map Takes more) ∙ ((λ i. was.took i ++ takings_all more i) ∙ sym g);
          said = sayings_both done (map Takes more) ∙ (ap (λ (z : List Said). sayings done ++ z) (sayings_none more) ∙ (append-nil (sayings done) ∙ (was.said ∙ ap sayings (sym d))));
          no_sooner =
              let counts : taken_before 0 (done ++ map Takes more) ≡ taken_before 0 done =
              before_both 0 done (map Takes more) ∙ ap (λ (z : List ℕ). taken_before 0 done ++ z) (before_takes (0 + length (takings done)) more) ∙ append-nil (taken_before 0 done) in
              ap (λ (z : List Doing). are_at_most (taken_before 0 z) (taken_before 0 (done ++ map Takes more))) d ∙ ap (λ (z : List ℕ). are_at_most (taken_before 0 (doings setup before log)) z) counts ∙ was.no_sooner;
        } in
        subst (λ (z : List Entry). IsTold did begun new setup now z (done ++ map Takes more)) (sym e) is

    pub told_heard : Tells did begun old setup before log → Tells did begun new setup now log'
    told_heard t first = let told = t first in (told.0 ++ map Takes (after before now), heard told.0 told.1)

    pub handed_heard : (lengths : List ℕ) → HasHanded did begun old setup before log lengths → HasHanded did begun new setup now log' lengths
    handed_heard lengths t first =
        let told = t first in
        let more : List Doing = map Takes (after before now) in
        (told.0 ++ more, heard told.0 told.1, handings_still told.0 more (handings_takes (after before now)) ∙ told.2)

-- ---- where a call is served

module _ {O : Type 0} (did : O → O → List Doing → Type 0) (begun : O) (setup : Setup) (came : List Arrival) (log : List Entry) (e : Entry) where
  abbrev stage : Stage
  stage = state_after serve_next (first_stage setup came) (calls_of log)

  abbrev says : List Said
  says = said (ready_for stage e.call).state e.call (answer_next stage e.call).ret (answer_next stage e.call).state.state

  doings_last : doings setup came (log ++ e ∷ []) ≡ doings setup came log ++ doings_of stage e.call
  doings_last = doings_front setup came log (e ∷ []) ∙ ap (λ (z : List Doing). doings setup came log ++ z) (append-nil (doings_of stage e.call))

  sayings_last : sayings (doings_of stage e.call) ≡ says
  sayings_last = sayings_both (map Takes (take (taken stage e.call) stage.rest)) (map Says says) ∙ (λ i. sayings_none (take (taken stage e.call) stage.rest) i ++ sayings_all says i)

  -- what the log's calls take in, this one's as well, is no more than has come
  taken_last : length (takings (doings setup came log)) + length (take (taken stage e.call) stage.rest) ≤ length came
  taken_last =
      let all = ap length (doings_taken setup came (log ++ e ∷ [])) in
      let front : List Arrival = take (taken stage e.call) stage.rest in
      let last : takings (doings setup came (log ++ e ∷ [])) ≡ takings (doings setup came log) ++ front =
      ap takings doings_last ∙ takings_both (doings setup came log) (doings_of stage e.call) ∙ ap (λ (z : List Arrival). takings (doings setup came log) ++ z)
      (takings_both (map Takes front) (map Says says) ∙ (λ i. takings_all front i ++ takings_none says i) ∙ append-nil front) in
      let rest : List Arrival = (state_after serve_next (first_stage setup came) (calls_of (log ++ e ∷ []))).rest in
      let whole : length (takings (doings setup came log) ++ front) + length rest ≡ length came =
      sym (length-append (takings (doings setup came log) ++ front) rest) ∙ ap (λ (z : List Arrival). length (z ++ rest)) (sym last) ∙ all in
      omega (arith, whole, length-append (takings (doings setup came log)) front)

  -- what this call says comes behind what it takes in
  no_sooner_last : (done : List Doing) → takings done ≡ came → are_at_most (taken_before 0 (doings setup came log)) (taken_before 0 done) ≡ true
      → are_at_most (taken_before 0 (doings setup came (log ++ e ∷ []))) (taken_before 0 (done ++ map Says says)) ≡ true
  no_sooner_last done took is =
      let front : List Arrival = take (taken stage e.call) stage.rest in
      let was : ℕ = 0 + length (takings (doings setup came log)) in
      let m : ℕ = was + length (takings (map Takes front)) in
      let n : ℕ = 0 + length (takings done) in
      let below : m ≤ n = omega (arith, taken_last, ap length took, ap length (takings_all front)) in
      let le : nat_le m n ≡ true = grind (arith, nat_tests) in
      let old : taken_before 0 (doings setup came (log ++ e ∷ [])) ≡ taken_before 0 (doings setup came log) ++ map (λ _. m) says =
      ap (taken_before 0) doings_last ∙ before_both 0 (doings setup came log) (doings_of stage e.call) ∙ ap (λ (z : List ℕ). taken_before 0 (doings setup came log) ++ z)
      (before_both was (map Takes front) (map Says says) ∙ (λ i. before_takes was front i ++ before_says m says i)) in
      let new : taken_before 0 (done ++ map Says says) ≡ taken_before 0 done ++ map (λ _. n) says =
      before_both 0 done (map Says says) ∙ ap (λ (z : List ℕ). taken_before 0 done ++ z) (before_says n says) in
      (λ i. are_at_most (old i) (new i)) ∙ at_most_both (taken_before 0 (doings setup came log)) (taken_before 0 done) (map (λ _. m) says) (map (λ _. n) says) is (at_most_all m n says le)

  module _ (old new : O) (log' : List Entry) (h : log' ≡ log ++ e ∷ []) (adds : Adds did old new (map Says says)) where
    after_call : (done : List Doing) → IsTold did begun old setup came log done → IsTold did begun new setup came log' (done ++ map Says says)
    after_call done was =
        let is : IsTold did begun new setup came (log ++ e ∷ []) (done ++ map Says says) = record {
          is = adds begun done was.is;
          took = takings_both done (map Says says) ∙ (ap (λ (z : List Arrival). takings done ++ z) (takings_none says) ∙ (append-nil (takings done) ∙ was.took));
          said = sayings_both done (map Says says) ∙ ((λ i. was.said i ++ sayings_all says i)
              ∙ (ap (λ (z : List Said). sayings (doings setup came log) ++ z) (sym sayings_last)
              ∙ (sym (sayings_both (doings setup came log) (doings_of stage e.call)) ∙ ap sayings (sym doings_last))));
          no_sooner = no_sooner_last done was.took was.no_sooner;
        } in
        subst (λ (z : List Entry). IsTold did begun new setup came z (done ++ map Says says)) (sym h) is

    pub told_served : Tells did begun old setup came log → Tells did begun new setup came log'
    told_served t first = let told = t first in (told.0 ++ map Says says, after_call told.0 told.1)

    pub handed_served : (lengths : List ℕ) → HasHanded did begun old setup came log lengths → HasHanded did begun new setup came log' lengths
    handed_served lengths t first = let told = t first in (told.0 ++ map Says says, after_call told.0 told.1, handings_still told.0 (map Says says) (handings_says says) ∙ told.2)

-- ---- where it is asked whether the leader hands over

module _ {O : Type 0} (did : O → O → List Doing → Type 0) (begun : O) (setup : Setup) (came : List Arrival) (log : List Entry)
    (old new : O) (answer : Bool) (n : ℕ) (adds : Adds did old new (handing answer n)) where
  asked : (done : List Doing) → IsTold did begun old setup came log done → IsTold did begun new setup came log (done ++ handing answer n)
  asked done was =
      let more : List Doing = handing answer n in
      record {
        is = adds begun done was.is;
        took = takings_both done more ∙ (ap (λ (z : List Arrival). takings done ++ z) (takings_handing n answer) ∙ (append-nil (takings done) ∙ was.took));
        said = sayings_both done more ∙ (ap (λ (z : List Said). sayings done ++ z) (sayings_handing n answer) ∙ (append-nil (sayings done) ∙ was.said));
        no_sooner =
            let counts : taken_before 0 (done ++ more) ≡ taken_before 0 done =
            before_both 0 done more ∙ ap (λ (z : List ℕ). taken_before 0 done ++ z) (before_handing n (0 + length (takings done)) answer) ∙ append-nil (taken_before 0 done) in
            ap (λ (z : List ℕ). are_at_most (taken_before 0 (doings setup came log)) z) counts ∙ was.no_sooner;
      }

  pub told_asked : Tells did begun old setup came log → Tells did begun new setup came log
  told_asked t first = let told = t first in (told.0 ++ handing answer n, asked told.0 told.1)

  pub handed_asked : (lengths : List ℕ) → HasHanded did begun old setup came log lengths → HasHanded did begun new setup came log (with_hand answer n lengths)
  handed_asked lengths t first = let told = t first in (told.0 ++ handing answer n, asked told.0 told.1, handings_asked answer n told.0 ∙ ap (with_hand answer n) told.2)
