-- The text of a filter is read back as that filter.
use Rattle.std.proofs.Common.{◌≡◌, ℕ, ◌+◌, ◌<◌, ◌≤◌, ◌^◌, ◌==◌, false, List, [], ◌∷◌, ◌++◌, Some, None, Ok, length, map, flat_map, refl, ap, ◌∙◌, arith, append_assoc, lit<}
use Rattle.std.specs.List.{All}
use Rattle.std.proofs.lemmas.Bool.Decides.{nat_tests}
use Rattle.std.proofs.lemmas.List.Elements.{All-cons, All-append, All-head, All-tail}
use Rattle.std.proofs.lemmas.List.Splits.{slice_split_at, slice_split_none}
use Rattle.nv_bytes.specs.Fields.{fields}
use Rattle.nv_bytes.specs.Lines.{lines}
use Rattle.nv_bytes.specs.Numbers.{decimal_of}
use Rattle.nv_bpf.specs.declared.op.Op.{Op}
use Rattle.nv_bpf.specs.Verified.{list_fault, ops_or}
use Rattle.nv_bpf.proofs.FilterLaws.{list_fault-none}
use Rattle.nv_bpf.specs.Texts.{op_of_fields, op_of, ops_of, put_first, with_line, line_count, ops_after, ops_of_lines, ops_of_text, filter_with, filter_of, op_text, ops_text, FitsFields}
use Rattle.nv_bytes.proofs.Laws.{lines-line}
use Rattle.nv_bpf.proofs.Digits.{decimal-lacks, number_of-decimal, field-decimal}

-- the line of an instruction, without its newline
abbrev op_line : Op → List ℕ
op_line op = decimal_of op.code ++ 32 ∷ (decimal_of op.jt ++ 32 ∷ (decimal_of op.jf ++ 32 ∷ decimal_of op.k))

op_text-line : (op : Op) (rest : List ℕ) → op_text op ++ rest ≡ op_line op ++ 10 ∷ rest
op_text-line op rest = simp append_assoc

abbrev Lacks : ℕ → ℕ → Type 0
Lacks byte c = (c == byte) ≡ false

op_line-lacks : (op : Op) → FitsFields op → All (Lacks 10) (op_line op)
op_line-lacks op fits =
    let code = decimal-lacks 10 op.code (lit< tt) (omega (arith, fits.code)) in
    let jt = decimal-lacks 10 op.jt (lit< tt) (omega (arith, fits.jt)) in
    let jf = decimal-lacks 10 op.jf (lit< tt) (omega (arith, fits.jf)) in
    let k = decimal-lacks 10 op.k (lit< tt) fits.k in
    All-append (Lacks 10) _ _ code
    (All-cons (Lacks 10) 32 _ refl (All-append (Lacks 10) _ _ jt (All-cons (Lacks 10) 32 _ refl (All-append (Lacks 10) _ _ jf (All-cons (Lacks 10) 32 _ refl k)))))

lines-ops : (ops : List Op) → All FitsFields ops → lines (flat_map op_text ops) ≡ map op_line ops
unfolding lines
lines-ops [] h = refl
lines-ops (op ∷ ops) h =
    ap lines (op_text-line op (flat_map op_text ops)) ∙ lines-line (op_line op) (flat_map op_text ops) (op_line-lacks op (All-head FitsFields op ops h))
    ∙ ap (λ ls. op_line op ∷ ls) (lines-ops ops (All-tail FitsFields op ops h))

-- the first field of a line
fields-field : (n : ℕ) (rest : List ℕ) → n < 2 ^ 32 → fields (decimal_of n ++ 32 ∷ rest) ≡ decimal_of n ∷ fields rest
unfolding fields
fields-field n rest small = slice_split_at (λ b. b == 32) (decimal_of n) 32 rest (decimal-lacks 32 n (lit< tt) small) refl

fields-last : (n : ℕ) → n < 2 ^ 32 → fields (decimal_of n) ≡ decimal_of n ∷ []
unfolding fields
fields-last n small = slice_split_none (λ b. b == 32) (decimal_of n) (decimal-lacks 32 n (lit< tt) small)

fields-line : (op : Op) → FitsFields op → fields (op_line op) ≡ decimal_of op.code ∷ decimal_of op.jt ∷ decimal_of op.jf ∷ decimal_of op.k ∷ []
fields-line op fits =
    fields-field op.code _ (omega (arith, fits.code)) ∙ ap (λ fs. decimal_of op.code ∷ fs) (fields-field op.jt _ (omega (arith, fits.jt)))
    ∙ ap (λ fs. decimal_of op.code ∷ decimal_of op.jt ∷ fs) (fields-field op.jf _ (omega (arith, fits.jf)))
    ∙ ap (λ fs. decimal_of op.code ∷ decimal_of op.jt ∷ decimal_of op.jf ∷ fs) (fields-last op.k fits.k)

op_of-line : (op : Op) → FitsFields op → op_of (op_line op) ≡ Some op
unfolding op_of
op_of-line op fits =
    let code = field-decimal 65535 op.code (omega (arith, fits.code)) (omega (arith, fits.code)) in
    let jt = field-decimal 255 op.jt (omega (arith, fits.jt)) (omega (arith, fits.jt)) in
    let jf = field-decimal 255 op.jf (omega (arith, fits.jf)) (omega (arith, fits.jf)) in
    let k = number_of-decimal op.k fits.k in
    ap op_of_fields (fields-line op fits) ∙ rw (code, jt, jf, k) refl

ops_of-lines : (n : ℕ) (ops : List Op) → All FitsFields ops → ops_of n (length ops) (map op_line ops) ≡ Ok ops
unfolding ops_of
ops_of-lines n [] h = refl
ops_of-lines n (op ∷ ops) h =
    ap (λ o. with_line n o (ops_of (n + 1) (length ops) (map op_line ops))) (op_of-line op (All-head FitsFields op ops h))
    ∙ ap (put_first op) (ops_of-lines (n + 1) ops (All-tail FitsFields op ops h))

count_of-length : (most n : ℕ) → 0 < n → n ≤ most → line_count most (Some n) ≡ Ok n
count_of-length most n some few = grind (arith, nat_tests)

lines-text : (ops : List Op) → length ops < 2 ^ 32 → All FitsFields ops → lines (ops_text ops) ≡ decimal_of (length ops) ∷ map op_line ops
unfolding ops_text
lines-text ops small h =
    ap lines (append_assoc (decimal_of (length ops)) (10 ∷ []) (flat_map op_text ops))
    ∙ lines-line (decimal_of (length ops)) (flat_map op_text ops) (decimal-lacks 10 (length ops) (lit< tt) small)
    ∙ ap (λ ls. decimal_of (length ops) ∷ ls) (lines-ops ops h)

ops_of_text-text : (most : ℕ) (ops : List Op) → 0 < length ops → length ops ≤ most → most < 2 ^ 32 → All FitsFields ops → ops_of_text most (ops_text ops) ≡ Ok ops
unfolding ops_of_text
ops_of_text-text most ops some few small h =
    ap (ops_of_lines most) (lines-text ops (omega arith) h)
    ∙ ap (λ r. ops_after (line_count most r) (map op_line ops)) (number_of-decimal (length ops) (omega arith))
    ∙ ap (λ r. ops_after r (map op_line ops)) (count_of-length most (length ops) some few)
    ∙ ops_of-lines 2 ops h

pub filter_of-text : (most : ℕ) (ops : List Op) → list_fault most ops ≡ None → most < 2 ^ 32 → All FitsFields ops → filter_of most (ops_text ops) ≡ Ok ops
unfolding filter_of
filter_of-text most ops sound small h =
    let facts = list_fault-none most ops sound in
    ap (filter_with most) (ops_of_text-text most ops facts.some facts.few small h) ∙ ap (λ f. ops_or f ops) sound
