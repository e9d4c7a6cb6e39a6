-- What a line asks for, from what its parts are.
use Rattle.std.proofs.Common.{◌≡◌, ◌<◌, ◌≤◌, ◌-◌, refl, sym, ap, ap₂, ◌∙◌, subst, arith, ℕ, List, [], ◌∷◌, length, take, drop, Option, None, Some, option_and_then, false, string_bytes, String, Global, Result, Ok, Err}
use Rattle.std.specs.Prelude.{option_map, IfErr, IsSome, slice_index_or}
use Rattle.std.specs.Result.{IsErrAnd}
use Rattle.std.proofs.Math.Seq.{take-length}
use Rattle.clap.specs.Walk.{Row, Text}
use Rattle.clap.specs.Simple.{App}
use Rattle.nv_driver.specs.Simple.{run_app, serve_app, record_app, replay_app, inspect_app, rules_app, asm_app, gen_app, help_app}
use Rattle.nv_driver.specs.Tables.{app_named, asked_of}
use Rattle.nv_driver.specs.Words.{NamesRun, NamesServe, NamesRules, NamesAsm, NamesGen, NamesRecord, NamesReplay, NamesInspect, NamesHelp, Runs, Serves, Uses, Generates, Records, Replays, Inspects, Helps, plan_of, report_plan_of, service_of, rules_job_of, asm_job_of, number_in, trail_of, look_of, topic_of, run_line, serve_line, rules_line, asm_line, gen_line, record_line, replay_line, inspect_line, help_line, Limits, ring_of, memory_of, Allowance, allowance_of, calls_asked, threads_asked, limits_of, Name, Command as Line, rows_of_line, texts, asked_by, name_spelt, command_name, command_of}
use Rattle.nv_driver.specs.Seen.{WordsRefused}
use Rattle.nv_driver.specs.declared.asked.LineFault.{LineFault}
use Rattle.nv_driver.specs.declared.asked.LineFault.TheVariants.{Usage, Memory}

module _ (defaults : Limits) (rows : List Row) where
  pub no_ring : None ≡ ring_of defaults rows → None ≡ limits_of defaults rows
  unfolding limits_of
  no_ring h = rw (← h) refl

  module _ (ring : ℕ) (r : Some ring ≡ ring_of defaults rows) where
    pub no_memory : None ≡ memory_of defaults rows → None ≡ limits_of defaults rows
    unfolding limits_of
    no_memory h = rw (← r, ← h) refl

    module _ (memory : ℕ) (m : Some memory ≡ memory_of defaults rows) where
      pub no_allowance : None ≡ allowance_of defaults rows → None ≡ limits_of defaults rows
      unfolding limits_of
      no_allowance h = rw (← r, ← m, ← h) refl

      module _ (allowance : Allowance) (b : Some allowance ≡ allowance_of defaults rows) where
        pub no_calls : None ≡ calls_asked defaults rows → None ≡ limits_of defaults rows
        unfolding limits_of
        no_calls h = rw (← r, ← m, ← b, ← h) refl

        module _ (calls : ℕ) (c : Some calls ≡ calls_asked defaults rows) where
          pub no_threads : None ≡ threads_asked defaults rows → None ≡ limits_of defaults rows
          unfolding limits_of
          no_threads h = rw (← r, ← m, ← b, ← c, ← h) refl

          pub all_limits : (threads : ℕ) → Some threads ≡ threads_asked defaults rows
              → Some (record { ring = ring; memory = memory; budget = allowance.budget; renews = allowance.renews; calls = calls; threads = threads }) ≡ limits_of defaults rows
          unfolding limits_of
          all_limits threads h = rw (← r, ← m, ← b, ← c, ← h) refl

map_then : {X Y Z : Type 0} (f : Y → Z) (g : X → Option Y) (x : Option X) → option_map f (option_and_then g x) ≡ option_and_then (λ x. option_map f (g x)) x
map_then f g None = refl
map_then f g (Some x) = refl

asked_is : (words : List Text) (name : Name) → asked_by words name ≡ option_and_then (asked_of name) (rows_of_line (app_named name) words)
unfolding run_line serve_line rules_line asm_line gen_line record_line replay_line inspect_line help_line
asked_is words NamesRun = map_then Runs report_plan_of (rows_of_line run_app words)
asked_is words NamesServe = map_then Serves service_of (rows_of_line serve_app words)
asked_is words NamesRules = map_then Uses rules_job_of (rows_of_line rules_app words)
asked_is words NamesAsm = map_then Uses asm_job_of (rows_of_line asm_app words)
asked_is words NamesGen = map_then Generates number_in (rows_of_line gen_app words)
asked_is words NamesRecord = map_then Records (plan_of false) (rows_of_line record_app words)
asked_is words NamesReplay = map_then Replays trail_of (rows_of_line replay_app words)
asked_is words NamesInspect = map_then Inspects look_of (rows_of_line inspect_app words)
asked_is words NamesHelp = map_then Helps topic_of (rows_of_line help_app words)

-- what a line asks for, from what `clap` matches of it
module _ (words : List Text) (name : Name) (app : App) (e : app ≡ app_named name) where
  asked_as : (rows : Option (List Row)) → rows_of_line app words ≡ rows → asked_by words name ≡ option_and_then (asked_of name) rows
  asked_as rows h = asked_is words name ∙ ap (option_and_then (asked_of name)) (ap (λ (a : App). rows_of_line a words) (sym e) ∙ h)

  pub line_is : (rows : List Row) → rows_of_line app words ≡ Some rows → asked_by words name ≡ asked_of name rows
  line_is rows h = asked_as (Some rows) h

  pub no_line : rows_of_line app words ≡ None → asked_by words name ≡ None
  no_line h = asked_as None h

-- what holds of each error that `?` may hand on
pub error_by : {T E : Type 0} (r : Result T E) (P Q : E → Type 0) → ((e : E) → P e → Q e) → IsErrAnd r P → IfErr r Q
error_by (Ok x) P Q f h = tt
error_by (Err e) P Q f h = f e h

pub short : (words : List (String Global)) → length words < 2 → command_of (texts words) ≡ None
unfolding command_of
short [] h = refl
short (w ∷ []) h = refl
short (w ∷ v ∷ ws) h = absurd (omega arith)

module _ (word : String Global) (name : List ℕ) (is : name ≡ string_bytes word) where
  pub name_at : (words : List (String Global)) → 2 ≤ length words → word ≡ slice_index_or words 1 word → command_name (texts words) ≡ name_spelt name
  name_at [] le at = absurd (omega arith)
  name_at (p ∷ []) le at = absurd (omega arith)
  name_at (p ∷ w ∷ ws) le at = ap name_spelt (sym (is ∙ ap string_bytes at))

  pub named_is : (words : List (String Global)) → 2 ≤ length words → word ≡ slice_index_or words 1 word
      → command_of (texts words) ≡ option_and_then (asked_by (texts (take (length words - 1) (drop 1 words)))) (name_spelt name)
  unfolding command_of
  named_is [] le at = absurd (omega arith)
  named_is (p ∷ []) le at = absurd (omega arith)
  named_is (p ∷ w ∷ ws) le at =
      let n : length (p ∷ w ∷ ws) - 1 ≡ length (w ∷ ws) = omega arith in
      let rest : take (length (p ∷ w ∷ ws) - 1) (w ∷ ws) ≡ w ∷ ws = ap (λ k. take k (w ∷ ws)) n ∙ take-length (w ∷ ws) in
      ap₂ (λ (ts : List (String Global)) (t : List ℕ). option_and_then (asked_by (texts ts)) (name_spelt t)) (sym rest) (sym (is ∙ ap string_bytes at))

pub faulty : {T : Type 0} (r : Result T LineFault) (words : List Text) (name : Option Name) (asked : Option Line) → command_of words ≡ asked → command_name words ≡ name
    → IfErr r (λ fault. fault ≡ Usage → asked ≡ None) → IfErr r (λ fault. fault ≡ Memory → IsSome name) → IfErr r (λ fault. WordsRefused fault words)
faulty (Ok x) words name asked is named refused memory = tt
faulty (Err Usage) words name asked is named refused memory = is ∙ refused refl
faulty (Err Memory) words name asked is named refused memory = subst (λ (n : Option Name). IsSome n) (sym named) (memory refl)
