-- The numbers of made runs.
use Rattle.std.proofs.Common.{◌≡◌, ℕ, ◌≤◌, List, Option, Some, None, refl, option_and_then, Bool, true, false, cond, arith}
use Rattle.std.specs.Prelude.{◌&&◌, nat_le, if◌then◌else◌, option_map, codes}
use Rattle.std.proofs.lemmas.Bool.Decides.{nat_tests}
use Rattle.clap.specs.Walk.{Row, Text, first_of}
use Rattle.nv_bytes.specs.Numbers.{number_of}
use Rattle.nv_driver.specs.Simple.{gen_app}
use Rattle.nv_driver.specs.Words.{Name, NamesRun, NamesServe, NamesRules, NamesAsm, NamesGen, NamesRecord, NamesReplay, NamesInspect, NamesHelp, Plan, Service, Job, Trail, Look, Runs, Serves, Uses, Generates, Records, Replays, Inspects, Helps, number_between, number_in, rows_of_line, run_line, serve_line, rules_line, asm_line, gen_line, record_line, replay_line, inspect_line, help_line, asked_by, after_program, command_of, command_name}

kept_within : (k n : ℕ) (b : Bool) → (b ≡ true → k ≤ 999999) → cond b (Some k) None ≡ Some n → n ≤ 999999
kept_within k n true within h = let e : k ≡ n = cc in let le : k ≤ 999999 = within refl in omega arith
kept_within k n false within h = cc

six_digits : (k : ℕ) → (nat_le 0 k && nat_le k 999999) ≡ true → k ≤ 999999
six_digits k h = grind (arith, nat_tests)

read_within : (number : Option ℕ) (n : ℕ) → option_and_then (λ (x : ℕ). if nat_le 0 x && nat_le x 999999 then Some x else None) number ≡ Some n → n ≤ 999999
read_within None n h = cc
read_within (Some k) n h = kept_within k n (nat_le 0 k && nat_le k 999999) (six_digits k) h

text_within : (text : Option Text) (n : ℕ) → option_and_then (number_between 0 999999) text ≡ Some n → n ≤ 999999
text_within None n h = cc
text_within (Some t) n h = read_within (number_of t) n h

rows_within : (rows : Option (List Row)) (n : ℕ) → option_and_then number_in rows ≡ Some n → n ≤ 999999
unfolding number_in
rows_within None n h = cc
rows_within (Some rows) n h = text_within (first_of (codes "number") rows) n h

line_within : (words : List Text) (n : ℕ) → gen_line words ≡ Some n → n ≤ 999999
unfolding gen_line
line_within words n h = rows_within (rows_of_line gen_app words) n h

runs_none : (plan : Option Plan) (n : ℕ) → option_map Runs plan ≡ Some (Generates n) → ⊥
runs_none None n h = cc
runs_none (Some plan) n h = cc

serves_none : (service : Option Service) (n : ℕ) → option_map Serves service ≡ Some (Generates n) → ⊥
serves_none None n h = cc
serves_none (Some service) n h = cc

uses_none : (job : Option Job) (n : ℕ) → option_map Uses job ≡ Some (Generates n) → ⊥
uses_none None n h = cc
uses_none (Some job) n h = cc

records_none : (plan : Option Plan) (n : ℕ) → option_map Records plan ≡ Some (Generates n) → ⊥
records_none None n h = cc
records_none (Some plan) n h = cc

replays_none : (trail : Option Trail) (n : ℕ) → option_map Replays trail ≡ Some (Generates n) → ⊥
replays_none None n h = cc
replays_none (Some trail) n h = cc

inspects_none : (look : Option Look) (n : ℕ) → option_map Inspects look ≡ Some (Generates n) → ⊥
inspects_none None n h = cc
inspects_none (Some look) n h = cc

helps_none : (topic : Option (Option Name)) (n : ℕ) → option_map Helps topic ≡ Some (Generates n) → ⊥
helps_none None n h = cc
helps_none (Some topic) n h = cc

same_number : (number : Option ℕ) (n : ℕ) → option_map Generates number ≡ Some (Generates n) → number ≡ Some n
same_number None n h = cc
same_number (Some k) n h = cc

named_within : (words : List Text) (name : Option Name) (n : ℕ) → option_and_then (asked_by words) name ≡ Some (Generates n) → n ≤ 999999
named_within words None n h = cc
named_within words (Some NamesRun) n h = absurd (runs_none (run_line words) n h)
named_within words (Some NamesServe) n h = absurd (serves_none (serve_line words) n h)
named_within words (Some NamesRules) n h = absurd (uses_none (rules_line words) n h)
named_within words (Some NamesAsm) n h = absurd (uses_none (asm_line words) n h)
named_within words (Some NamesGen) n h = line_within words n (same_number (gen_line words) n h)
named_within words (Some NamesRecord) n h = absurd (records_none (record_line words) n h)
named_within words (Some NamesReplay) n h = absurd (replays_none (replay_line words) n h)
named_within words (Some NamesInspect) n h = absurd (inspects_none (inspect_line words) n h)
named_within words (Some NamesHelp) n h = absurd (helps_none (help_line words) n h)

-- a number that is asked for has at most six digits
pub generated_within : (words : List Text) (n : ℕ) → command_of words ≡ Some (Generates n) → n ≤ 999999
unfolding command_of
generated_within words n h = named_within (after_program words) (command_name words) n h
