-- Instructions gathered from lines.
use Rattle.std.proofs.Common.{◌≡◌, ℕ, ◌+◌, List, [], ◌∷◌, ◌++◌, Option, Some, None, Result, Ok, Err, refl, sym, ap, ◌∙◌, append_assoc, append-nil, option_to_list}
use Rattle.nv_bpf.specs.declared.op.Op.{Op}
use Rattle.nv_bytes.specs.Lines.{LinesLeft, IsNextLine}
use Rattle.nv_bpf_asm.specs.declared.fault.RuleFault.{RuleFault}
use Rattle.nv_bpf_asm.specs.declared.fault.RuleCause.{RuleCause}
use Rattle.nv_bpf_asm.specs.Assembled.{Find, op_of_line, op_of_parts, ops_of, put_first, with_line, line_parts, count}

abbrev pub with_prefix : List Op → Result (List Op) RuleFault → Result (List Op) RuleFault
with_prefix prefix (Ok ops) = Ok (prefix ++ ops)
with_prefix prefix (Err f) = Err f

pub with_prefix-put_first : (prefix : List Op) (op : Op) (later : Result (List Op) RuleFault) → with_prefix prefix (put_first op later) ≡ with_prefix (prefix ++ op ∷ []) later
with_prefix-put_first prefix op (Ok ops) = ap Ok (sym (append_assoc prefix (op ∷ []) ops))
with_prefix-put_first prefix op (Err f) = refl

pub with_prefix-none : (r : Result (List Op) RuleFault) → with_prefix [] r ≡ r
with_prefix-none (Ok ops) = refl
with_prefix-none (Err f) = refl

pub ops_of-line : (find : Find) (s t : LinesLeft) (n place : ℕ) (line : List ℕ) (r : Result (Option Op) RuleCause) → IsNextLine s n line t
    → r ≡ op_of_parts find n place (line_parts line) → ops_of find s.before place s.left ≡ with_line n r (ops_of find t.before (place + count line) t.left)
unfolding ops_of op_of_line
ops_of-line find s t n place line r next f =
    ap (λ m. ops_of find m place s.left) (sym next.counted) ∙ ap (ops_of find n place) next.first
    ∙ ap (λ x. with_line n x (ops_of find (n + 1) (place + count line) t.left)) (sym f)
    ∙ ap (λ m. with_line n r (ops_of find (m + 1) (place + count line) t.left)) next.counted
    ∙ ap (λ m. with_line n r (ops_of find m (place + count line) t.left)) (sym next.further)

pub ops_of-none : (find : Find) (n place : ℕ) (left : List (List ℕ)) → left ≡ [] → ops_of find n place left ≡ Ok []
unfolding ops_of
ops_of-none find n place left e = ap (ops_of find n place) e

pub with_prefix-line : (prefix : List Op) (n : ℕ) (op : Option Op) (later : Result (List Op) RuleFault) → with_prefix prefix (with_line n (Ok op) later) ≡ with_prefix (prefix ++ option_to_list op) later
with_prefix-line prefix n (Some op) later = with_prefix-put_first prefix op later
with_prefix-line prefix n None later = ap (λ ops. with_prefix ops later) (sym (append-nil prefix))

-- the instructions by a label's first definition, whatever finds it
pub ops_of-same : (find known : Find) (lines : List (List ℕ)) → ((name : List ℕ) → find name ≡ known name) → ops_of find 0 0 lines ≡ ops_of known 0 0 lines
ops_of-same find known lines h = let same : find ≡ known = (λ i name. h name i) in ap (λ f. ops_of f 0 0 lines) same
