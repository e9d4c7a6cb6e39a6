-- An account has a line for each version.
use Rattle.std.proofs.Common.{◌≡◌, ◌∙◌, ap, refl, ℕ, zero, suc, ◌+◌, ◌≤◌, Bool, true, false, List, [], ◌∷◌, Option, None, Some, length, map, arith}
use Rattle.std.specs.Prelude.{slice_get}
use Rattle.std.proofs.lemmas.List.{length-map, length-set}
use Rattle.nv_calls.specs.Calls.{Entry}
use Rattle.nv_calls.specs.Logs.{Start}
use Rattle.nv_threads.specs.Behaviours.{Behaviour}
use Rattle.nv_threads.specs.Threads.{Proc, threads}
use Rattle.nv_replay.specs.declared.fate.Fate.{Fate}
use Rattle.nv_replay.specs.Settling.{stage}
use Rattle.nv_replay.specs.Follow.{Follower, Judge}
use Rattle.nv_replay.specs.Lead.{Leader}
use Rattle.nv_replay.specs.Sequence.{Account}
use Rattle.nv_replay.specs.Hands.{is_handed}
use Rattle.nv_replay.specs.Monitor.{Part, Run, part, begun, after_lead, tracked_by, leads_on, turn_by, turn_of, turn_in, turn, lines_of, sequence}
use Rattle.nv_replay.specs.Version.{Running, process_of, standing_of}

module _ {P : Type 0} (g : Behaviour P) (judges : ℕ → Judge) (start : Start) (most : ℕ) (cuts : ℕ → Option ℕ) (hands : List ℕ) where
  after_parts : (m : Run P) (i : ℕ) (order : List ℕ) (v : Part P) (f : Follower P) (l : Leader P) (b : Bool) → length (after_lead m i order v f l b).parts ≡ length m.parts
  after_parts m i order v f l true = length-set m.parts i _
  after_parts m i order v f l false = length-set m.parts i _

  by_parts : (m : Run P) (i : ℕ) (order : List ℕ) (v : Part P) (f : Follower P) (o : Option Fate) → length (turn_by g judges start most cuts hands m i order v f o).parts ≡ length m.parts
  by_parts m i order v f (Some x) = refl
  by_parts m i order v f None = after_parts m i order v f (leads_on g judges start most cuts hands m.log i f) (is_handed hands (length m.log) (leads_on g judges start most cuts hands m.log i f))

  of_parts : (m : Run P) (i : ℕ) (order : List ℕ) (o : Option (Part P)) → length (turn_of g judges start most cuts hands m i order o).parts ≡ length m.parts
  of_parts m i order None = refl
  of_parts m i order (Some v) = by_parts m i order v (tracked_by g judges start most cuts hands m.log i v) (tracked_by g judges start most cuts hands m.log i v).fate

  in_parts : (m : Run P) (over : Bool) (order : List ℕ) → length (turn_in g judges start most cuts hands m over order).parts ≡ length m.parts
  in_parts m true order = refl
  in_parts m false [] = refl
  in_parts m false (i ∷ order) = of_parts m i order (slice_get m.parts i)

  turn_parts : (m : Run P) → length (turn g judges start most cuts hands m).parts ≡ length m.parts
  unfolding turn
  turn_parts m = in_parts m m.over m.order

  stage_parts : (n : ℕ) (m : Run P) → length (stage (turn g judges start most cuts hands) n m).parts ≡ length m.parts
  unfolding stage
  stage_parts zero m = refl
  stage_parts (suc n) m = stage_parts n (turn g judges start most cuts hands m) ∙ turn_parts m

  lines_count : (log : List Entry) (i : ℕ) (vs : List (Part P)) → length (lines_of g judges start most cuts hands log i vs) ≡ length vs
  lines_count log i [] = refl
  lines_count log i (v ∷ vs) = ap suc (lines_count log (i + 1) vs)

  pub length-lines : (ps : List P) → length (sequence g judges start most cuts hands ps).lines ≡ length ps
  unfolding sequence
  length-lines ps = lines_count _ 0 _ ∙ stage_parts (length ps + length hands) (begun ps) ∙ length-map ps part

pub few_lines : (judges : ℕ → Judge) (start : Start) (most : ℕ) (cuts : ℕ → Option ℕ) (hands : List ℕ) (olds news : List (Running Proc)) (log : List Entry)
    → record { log = log; lines = map standing_of news } ≡ sequence threads judges start most cuts hands (map process_of olds) → length olds ≤ 8 → length news ≤ 8
few_lines judges start most cuts hands olds news log e few =
    let lines : length (map standing_of news) ≡ length (map process_of olds) = ap (λ (a : Account). length a.lines) e ∙ length-lines threads judges start most cuts hands (map process_of olds) in
    omega (arith, length-map news standing_of, length-map olds process_of)
