-- The text of a script and the line of one more planned length are the script with this length.
use Rattle.std.proofs.Common.{◌≡◌, ℕ, ◌+◌, ◌^◌, ◌<◌, true, false, List, [], ◌∷◌, ◌++◌, Result, Ok, Err, codes, nat_lt, length, refl, sym, ap, ◌∙◌, arith, lit<, append_assoc}
use Rattle.std.specs.List.{All}
use Rattle.std.proofs.lemmas.Bool.Decides.{nat_tests}
use Rattle.nv_bytes.specs.Lines.{lines}
use Rattle.nv_bytes.specs.Names.{defined}
use Rattle.nv_bytes.specs.Numbers.{number_of, decimal_of}
use Rattle.nv_bytes.proofs.Laws.{lines-line}
use Rattle.nv_script.specs.Reading.{words}
use Rattle.nv_script.proofs.Digits.{decimal-lacks, number_of-decimal}
use Rattle.std.proofs.lemmas.List.Elements.{All-append}
use Rattle.nv_script.proofs.Texts.{Lacks, plain}
use Rattle.nv_script.specs.declared.form.Form.TheVariants.{Fifth}
use Rattle.nv_script.specs.declared.fault.ScriptFault.{ScriptFault}
use Rattle.nv_script.specs.Entry.{Hand, is_hand, hand_with, entry_kinds, kind_of, entry_of}
use Rattle.nv_script.specs.Scripts.{Setup, Draft, blank, has_hand, with_result, with_script_line, onward, drafted, finished, finished_result, script_of_lines, script_of}
use Rattle.nv_script.specs.Transcripts.{IsTranscript}
use Rattle.nv_script.specs.HandLines.{hand_line, can_plan, planned_too}
use Rattle.nv_script.proofs.Plans.{CanPlan, can_plan-parts}
use Rattle.nv_script.proofs.Transcripts.{first-line, in-form, lines-ended, drafted-append}

-- ---- the line

of-hand : (rest : List ℕ) → entry_of Fifth (codes "hand " ++ rest) ≡ hand_with (number_of rest)
unfolding entry_of kind_of entry_kinds words defined
of-hand rest = refl

small : (n : ℕ) → is_hand n ≡ true → n < 2 ^ 32
small n h = grind (arith, nat_tests)

line-lacks : (n : ℕ) → is_hand n ≡ true → All (Lacks 10) (hand_line n)
line-lacks n h = All-append (Lacks 10) (codes "hand ") (decimal_of n) (plain (codes "hand ") refl) (decimal-lacks 10 n (lit< tt) (small n h))

entry-hand : (n : ℕ) → is_hand n ≡ true → entry_of Fifth (hand_line n) ≡ Ok (Hand n)
entry-hand n h = of-hand (decimal_of n) ∙ ap hand_with (number_of-decimal n (small n h)) ∙ rw h refl

one_line : (n : ℕ) → is_hand n ≡ true → lines (hand_line n ++ 10 ∷ []) ≡ hand_line n ∷ []
unfolding lines
one_line n h = lines-line (hand_line n) [] (line-lacks n h)

-- the draft with one length more
abbrev with_length : ℕ → Draft → Draft
with_length n d = record d { hands = d.hands ++ n ∷ [] }

line-plans : (n : ℕ) (d : Draft) → is_hand n ≡ true → has_hand n d.hands ≡ false → nat_lt (length d.hands) 8 ≡ true → with_script_line Fifth (hand_line n) d ≡ Ok (with_length n d)
unfolding with_script_line
line-plans n d h new few = ap (λ r. with_result r d) (entry-hand n h) ∙ rw (new, few) refl

line-drafted : (m n : ℕ) (d : Draft) → is_hand n ≡ true → has_hand n d.hands ≡ false → nat_lt (length d.hands) 8 ≡ true → drafted Fifth m (hand_line n ∷ []) d ≡ Ok (with_length n d)
unfolding drafted
line-drafted m n d h new few = ap (λ r. onward m r (λ next. drafted Fifth (m + 1) [] next)) (line-plans n d h new few)

-- ---- the whole text

drafted-more : (body : List (List ℕ)) (n : ℕ) (s : Setup) (r : Result Draft ScriptFault) → drafted Fifth 1 body (blank Fifth) ≡ r → finished_result Fifth r ≡ Ok s → CanPlan n s.hands
    → finished_result Fifth (drafted Fifth 1 (body ++ hand_line n ∷ []) (blank Fifth)) ≡ Ok (planned_too n s)
drafted-more body n s (Err fault) is h can = cc
drafted-more body n s (Ok d) is h can =
    let same : finished Fifth d ≡ s = cc in
    let own : d.hands ≡ s.hands = ap (λ (t : Setup). t.hands) same in
    ap (finished_result Fifth) (drafted-append Fifth 1 body (hand_line n ∷ []) (blank Fifth) d is
    ∙ line-drafted (1 + length body) n d can.within (ap (has_hand n) own ∙ can.new) (ap (λ (hands : List ℕ). nat_lt (length hands) 8) own ∙ can.few))
    ∙ ap (λ (t : Setup). Ok (planned_too n t)) same

says : (text : List ℕ) (s : Setup) (n : ℕ) → IsTranscript text s → CanPlan n s.hands → script_of (text ++ (hand_line n ++ 10 ∷ [])) ≡ Ok (planned_too n s)
unfolding script_of
says text s n tells can =
    let told : lines text ≡ codes "varan-script 5" ∷ lines tells.body = ap lines tells.begins ∙ first-line tells.body in
    let all : lines (text ++ (hand_line n ++ 10 ∷ [])) ≡ codes "varan-script 5" ∷ (lines tells.body ++ hand_line n ∷ []) =
    lines-ended text tells.front (hand_line n ++ 10 ∷ []) tells.ends ∙ ap (λ ls. ls ++ lines (hand_line n ++ 10 ∷ [])) told
    ∙ ap (λ ls. codes "varan-script 5" ∷ (lines tells.body ++ ls)) (one_line n can.within) in
    let before : finished_result Fifth (drafted Fifth 1 (lines tells.body) (blank Fifth)) ≡ Ok s = sym (ap script_of_lines told ∙ in-form (lines tells.body)) ∙ tells.says in
    ap script_of_lines all ∙ in-form (lines tells.body ++ hand_line n ∷ [])
    ∙ drafted-more (lines tells.body) n s (drafted Fifth 1 (lines tells.body) (blank Fifth)) refl before can

pub planned : (text : List ℕ) (s : Setup) (n : ℕ) → IsTranscript text s → can_plan n s.hands ≡ true → IsTranscript (text ++ (hand_line n ++ codes "\n")) (planned_too n s)
planned text s n tells can = record {
  body = tells.body ++ (hand_line n ++ codes "\n");
  begins = ap (λ t. t ++ (hand_line n ++ codes "\n")) tells.begins ∙ append_assoc (codes "varan-script 5\n") tells.body (hand_line n ++ codes "\n");
  front = text ++ hand_line n;
  ends = sym (append_assoc text (hand_line n) (codes "\n"));
  says = says text s n tells (can_plan-parts n s.hands can);
}
