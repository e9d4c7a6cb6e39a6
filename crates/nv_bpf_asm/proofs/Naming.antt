-- What a label is first defined as, over the labels before and the rest.
use Rattle.std.proofs.Common.{◌≡◌, ℕ, ◌+◌, ◌≤◌, Bool, true, false, List, [], ◌∷◌, Option, Some, None, if◌then◌else◌, bytes_eq, refl, sym, ap, ◌∙◌, lit≤}
use Rattle.std.specs.Option.{option_or}
use Rattle.nv_bytes.specs.Lines.{LinesLeft, IsNextLine}
use Rattle.nv_bytes.specs.Names.{defined, defining, knowing}
use Rattle.nv_bpf_asm.specs.declared.label.Label.{Label}
use Rattle.nv_bpf_asm.specs.Assembled.{labels, line_parts, count, word_count}

-- a name's definition among those before, else among the rest
abbrev pub found : List (List ℕ × Label) → List (List ℕ × Label) → List ℕ → Option Label
found before rest name = option_or (defined before name) (defined rest name)

or_known : (o p : Option Label) (b : Bool) (d : Label) → option_or o (if b then Some d else p) ≡ option_or (option_or o (if b then Some d else None)) p
or_known (Some x) p b d = refl
or_known None p true d = refl
or_known None p false d = refl

-- a further name is known, and no longer among the rest
pub found-defined : (before now rest : List (List ℕ × Label)) (label name : List ℕ) (d : Label)
    → ((other : List ℕ) → defined now other ≡ knowing before label d other) → found before (defining (Some label) d rest) name ≡ found now rest name
unfolding defined
found-defined before now rest label name d h =
    or_known (defined before name) (defined rest name) (bytes_eq name label) d ∙ ap (λ o. option_or o (defined rest name)) (sym (h name))

-- the labels from the next line on
pub labels-line : (s t : LinesLeft) (n place : ℕ) (line : List ℕ) → IsNextLine s n line t
    → labels s.before place s.left ≡ defining (line_parts line).label (record { line = n; place = place }) (labels t.before (place + count line) t.left)
unfolding labels
labels-line s t n place line next =
    ap (λ m. labels m place s.left) (sym next.counted) ∙ ap (labels n place) next.first
    ∙ ap (λ m. defining (line_parts line).label (record { line = n; place = place }) (labels (m + 1) (place + count line) t.left)) next.counted
    ∙ ap (λ m. defining (line_parts line).label (record { line = n; place = place }) (labels m (place + count line) t.left)) (sym next.further)

pub labels-none : (n place : ℕ) (left : List (List ℕ)) → left ≡ [] → labels n place left ≡ []
unfolding labels
labels-none n place left e = ap (labels n place) e

pub word_count-le : (word : List ℕ) → word_count word ≤ 1
word_count-le [] = lit≤ tt
word_count-le (b ∷ bs) = lit≤ tt

or_none : (o : Option Label) → option_or o None ≡ o
or_none None = refl
or_none (Some x) = refl

pub found-none : (before rest : List (List ℕ × Label)) (name : List ℕ) → before ≡ [] → found before rest name ≡ defined rest name
unfolding defined
found-none before rest name e = ap (λ ls. found ls rest name) e

pub found-all : (before rest : List (List ℕ × Label)) (name : List ℕ) → rest ≡ [] → found before rest name ≡ defined before name
unfolding defined
found-all before rest name e = ap (λ ls. found before ls name) e ∙ or_none (defined before name)
