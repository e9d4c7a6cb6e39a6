-- Instructions read from the fields of lines, and from lines.
use Rattle.std.proofs.Common.{◌≡◌, ℕ, zero, suc, ◌+◌, ◌-◌, ◌<◌, List, [], ◌∷◌, ◌++◌, Option, Some, None, Result, Ok, Err, length, refl, sym, ap, ◌∙◌, arith, MatchOption, Bor, append_assoc}
use Rattle.std.proofs.lemmas.Option.{same_Some}
use Rattle.nv_bpf.specs.declared.op.Op.{Op}
use Rattle.nv_bpf.specs.declared.op.FilterFault.{FilterFault}
use Rattle.nv_bpf.specs.declared.op.FilterFault.TheVariants as fault
use Rattle.nv_bytes.specs.Fields.{fields}
use Rattle.nv_bytes.specs.Lines.{lines}
use Rattle.nv_bpf.specs.Texts.{op_of_fields, op_of, ops_of, put_first, with_line, line_count, ops_after, ops_of_lines, ops_of_text}
use Rattle.nv_bytes.specs.Numbers.{number_of}
use Rattle.nv_bytes.proofs.Laws.{fields-some}

abbrev pub Split : List ℕ → Bor (List ℕ) × Option (Bor (List ℕ)) → Type 0
Split line r = MatchOption r.1 (fields line ≡ r.0.now ∷ []) (λ rest. fields line ≡ r.0.now ∷ fields rest.now)

-- the last field of a line, or the first one with those after it
pub last_field : (line : List ℕ) (r : Bor (List ℕ) × Option (Bor (List ℕ))) → Split line r → r.1 ≡ None → fields line ≡ r.0.now ∷ []
last_field line (field, None) h e = h
last_field line (field, Some rest) h e = cc

pub more_fields : (line : List ℕ) (r : Bor (List ℕ) × Option (Bor (List ℕ))) (rest : Bor (List ℕ)) → Split line r → r.1 ≡ Some rest → fields line ≡ r.0.now ∷ fields rest.now
more_fields line (field, None) rest h e = cc
more_fields line (field, Some after) rest h e = h ∙ ap (λ (b : Bor (List ℕ)). field.now ∷ fields b.now) (same_Some after rest e)

pub op_of-one : (line a : List ℕ) → fields line ≡ a ∷ [] → op_of line ≡ None
unfolding op_of
op_of-one line a e = ap op_of_fields e

pub op_of-two : (line a l b : List ℕ) → fields line ≡ a ∷ fields l → fields l ≡ b ∷ [] → op_of line ≡ None
unfolding op_of
op_of-two line a l b e f = ap op_of_fields (e ∙ ap (λ fs. a ∷ fs) f)

pub op_of-three : (line a l b m d : List ℕ) → fields line ≡ a ∷ fields l → fields l ≡ b ∷ fields m → fields m ≡ d ∷ [] → op_of line ≡ None
unfolding op_of
op_of-three line a l b m d e f g = ap op_of_fields (e ∙ ap (λ fs. a ∷ fs) f ∙ ap (λ fs. a ∷ b ∷ fs) g)

pub op_of-four : (line a l b m d n k : List ℕ) → fields line ≡ a ∷ fields l → fields l ≡ b ∷ fields m → fields m ≡ d ∷ fields n → fields n ≡ k ∷ []
    → op_of line ≡ op_of_fields (a ∷ b ∷ d ∷ k ∷ [])
unfolding op_of
op_of-four line a l b m d n k e f g h = ap op_of_fields (e ∙ ap (λ fs. a ∷ fs) f ∙ ap (λ fs. a ∷ b ∷ fs) g ∙ ap (λ fs. a ∷ b ∷ d ∷ fs) h)

too_many : (a b d k : List ℕ) (fs : List (List ℕ)) → 0 < length fs → op_of_fields (a ∷ b ∷ d ∷ k ∷ fs) ≡ None
too_many a b d k [] h = absurd (omega (arith, h))
too_many a b d k (f ∷ fs) h = refl

pub op_of-five : (line a l b m d n k rest : List ℕ) → fields line ≡ a ∷ fields l → fields l ≡ b ∷ fields m → fields m ≡ d ∷ fields n → fields n ≡ k ∷ fields rest → op_of line ≡ None
unfolding op_of
op_of-five line a l b m d n k rest e f g h =
    ap op_of_fields (e ∙ ap (λ fs. a ∷ fs) f ∙ ap (λ fs. a ∷ b ∷ fs) g ∙ ap (λ fs. a ∷ b ∷ d ∷ fs) h) ∙ too_many a b d k (fields rest) (fields-some rest)

-- what was read, with what follows
abbrev pub with_prefix : List Op → Result (List Op) FilterFault → Result (List Op) FilterFault
with_prefix prefix (Ok ops) = Ok (prefix ++ ops)
with_prefix prefix (Err f) = Err f

pub with_prefix-put_first : (prefix : List Op) (op : Op) (later : Result (List Op) FilterFault) → with_prefix prefix (put_first op later) ≡ with_prefix (prefix ++ op ∷ []) later
with_prefix-put_first prefix op (Ok ops) = ap Ok (sym (append_assoc prefix (op ∷ []) ops))
with_prefix-put_first prefix op (Err f) = refl

pub with_prefix-none : (r : Result (List Op) FilterFault) → with_prefix [] r ≡ r
with_prefix-none (Ok ops) = refl
with_prefix-none (Err f) = refl

-- the count says that a line follows, and there is none
pub ops_of-missing : (n m : ℕ) (left : List (List ℕ)) → 0 < m → left ≡ [] → ops_of n m left ≡ Err fault.Count
unfolding ops_of
ops_of-missing n zero left h e = absurd (omega (arith, h))
ops_of-missing n (suc m) left h e = ap (ops_of n (suc m)) e

-- the next line
pub ops_of-line : (n m : ℕ) (left : List (List ℕ)) (line : List ℕ) (rest : List (List ℕ)) → 0 < m → left ≡ line ∷ rest → ops_of n m left ≡ with_line n (op_of line) (ops_of (n + 1) (m - 1) rest)
unfolding ops_of
ops_of-line n zero left line rest h e = absurd (omega (arith, h))
ops_of-line n (suc m) left line rest h e =
    let one_less : suc m - 1 ≡ m = omega arith in
    ap (ops_of n (suc m)) e ∙ ap (λ k. with_line n (op_of line) (ops_of (n + 1) k rest)) (sym one_less)

pub ops_of-end : (n : ℕ) (left : List (List ℕ)) → left ≡ [] → ops_of n 0 left ≡ Ok []
unfolding ops_of
ops_of-end n left e = ap (ops_of n 0) e

pub ops_of-more : (n : ℕ) (left : List (List ℕ)) (line : List ℕ) (rest : List (List ℕ)) → left ≡ line ∷ rest → ops_of n 0 left ≡ Err fault.Count
unfolding ops_of
ops_of-more n left line rest e = ap (ops_of n 0) e

pub ops_of_text-none : (most : ℕ) (text : List ℕ) → lines text ≡ [] → ops_of_text most text ≡ Err (fault.Line 1)
unfolding ops_of_text
ops_of_text-none most text e = ap (ops_of_lines most) e

pub ops_of_text-count : (most : ℕ) (text line : List ℕ) (rest : List (List ℕ)) (r : Result ℕ FilterFault) → lines text ≡ line ∷ rest → r ≡ line_count most (number_of line)
    → ops_of_text most text ≡ ops_after r rest
unfolding ops_of_text
ops_of_text-count most text line rest r e f = ap (ops_of_lines most) e ∙ ap (λ s. ops_after s rest) (sym f)
