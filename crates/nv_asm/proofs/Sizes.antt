-- How many bytes a line can have at most.
use Rattle.std.proofs.Common.{◌≡◌, ℕ, ◌+◌, ◌≤◌, Bool, true, false, if◌then◌else◌, List, [], ◌∷◌, length, map, take, Option, Some, None, option_map, IfSome, Result, Ok, Err, IfOk, Bor, ap, refl, arith, length-drop, length-take}
use Rattle.std.specs.List.{slice_split, onto_first}
use Rattle.nv_bytes.specs.Lines.{is_comma, is_name_byte, trim, operands, operands_of, prefix, rest_after, line_with, after_name, parted, line_of}
use Rattle.nv_asm.specs.declared.strings.Mark.{Mark}
use Rattle.nv_asm.specs.declared.strings.Mark.TheVariants.{Stands, Escapes, Ends, Wrong}
use Rattle.nv_asm.specs.declared.strings.Where.TheVariants.{Outside}
use Rattle.nv_asm.specs.Strings.{quoted, string, mark, at_end, comment_place}
use Rattle.nv_asm.specs.declared.code.Statement.{Statement}
use Rattle.nv_asm.specs.Places.{line_parts, size}
use Rattle.nv_asm.specs.inner.Views.{view, operand_texts}

abbrev pub Shorter : ℕ → Option (List ℕ) → Type 0
Shorter most o = IfSome o (λ bs. length bs ≤ most)

end-shorter : (bs : List ℕ) (most : ℕ) → Shorter most (at_end bs)
end-shorter [] most = omega arith
end-shorter (b ∷ bs) most = tt

more-shorter : (c most : ℕ) (o : Option (List ℕ)) → Shorter most o → Shorter (most + 1) (option_map (λ cs. c ∷ cs) o)
more-shorter c most None h = tt
more-shorter c most (Some cs) h = omega arith

looser : (most : ℕ) (o : Option (List ℕ)) → Shorter most o → Shorter (most + 1) o
looser most None h = tt
looser most (Some cs) h = omega arith

longer : (bs : List ℕ) (b : ℕ) (o : Option (List ℕ)) → Shorter (length bs + 1) o → Shorter (length (b ∷ bs)) o
longer bs b None h = tt
longer bs b (Some cs) h = omega arith

quoted-shorter : (x : Bool) (bs : List ℕ) → Shorter (length bs) (quoted x bs)
unfolding quoted
quoted-shorter x [] = tt
quoted-shorter x (b ∷ bs) = longer bs b _ (step (mark x b) (quoted-shorter false bs) (quoted-shorter true bs)) where
  step : (m : Mark) → Shorter (length bs) (quoted false bs) → Shorter (length bs) (quoted true bs)
      → Shorter (length bs + 1) (elim m [ Stands c ↦ option_map (λ cs. c ∷ cs) (quoted false bs) | Escapes ↦ quoted true bs | Ends ↦ at_end bs | Wrong ↦ None ])
  step (Stands c) plain escaped = more-shorter c (length bs) (quoted false bs) plain
  step Escapes plain escaped = looser (length bs) (quoted true bs) escaped
  step Ends plain escaped = end-shorter bs (length bs + 1)
  step Wrong plain escaped = tt

pub string-shorter : (bs : List ℕ) → Shorter (length bs) (string bs)
string-shorter [] = tt
string-shorter (b ∷ bs) = longer bs b _ (step _) where
  step : (x : Bool) → Shorter (length bs + 1) (if x then quoted false bs else None)
  step true = looser (length bs) (quoted false bs) (quoted-shorter false bs)
  step false = tt

onto-le : (b n : ℕ) (ls : List (List ℕ)) → length ls ≤ n + 1 → length (onto_first b ls) ≤ n + 2
onto-le b n [] h = omega arith
onto-le b n (l ∷ ls) h = omega arith

split-le : (bs : List ℕ) → length (slice_split is_comma bs) ≤ length bs + 1
split-le [] = omega arith
split-le (b ∷ bs) = step (is_comma b) (split-le bs) where
  step : (x : Bool) → length (slice_split is_comma bs) ≤ length bs + 1 → length (if x then [] ∷ slice_split is_comma bs else onto_first b (slice_split is_comma bs)) ≤ length (b ∷ bs) + 1
  step true h = omega arith
  step false h = omega (arith, onto-le b (length bs) (slice_split is_comma bs) h)

trim-le : (bs : List ℕ) → length (trim bs) ≤ length bs
unfolding trim
trim-le bs = omega (arith, length-take {A = ℕ}, length-drop {A = ℕ})

length-trimmed : (xs : List (List ℕ)) → length (map trim xs) ≡ length xs
length-trimmed [] = refl
length-trimmed (x ∷ xs) = omega (arith, length-trimmed xs)

operands_of-le : (bs : List ℕ) → length (operands_of bs) ≤ length bs + 1
operands_of-le [] = omega arith
operands_of-le (b ∷ bs) = omega (arith, length-trimmed (slice_split is_comma (b ∷ bs)), split-le (b ∷ bs))

pub operands-le : (rest : List ℕ) → length (operands rest) ≤ length rest + 1
unfolding operands
operands-le rest = omega (arith, operands_of-le (trim rest), trim-le rest)

-- ---- the parts of a line

line_with-le : (l : Option (List ℕ)) (text : List ℕ) → length (line_with l text).rest ≤ length text
line_with-le l text = omega (arith, length-drop {A = ℕ})

after_name-le : (text name rest : List ℕ) → length rest ≤ length text → length (after_name text name rest).rest ≤ length text
after_name-le text name [] h = line_with-le None text
after_name-le text name (b ∷ bs) h = step _ where
  step : (x : Bool) → length (if x then line_with (Some name) (trim bs) else line_with None text).rest ≤ length text
  step true = omega (arith, line_with-le (Some name) (trim bs), trim-le bs)
  step false = line_with-le None text

line_of-le : (text : List ℕ) → length (line_of text).rest ≤ length text
unfolding line_of parted
line_of-le text = let t = trim text in let cut = after_name-le t (prefix is_name_byte t) (rest_after is_name_byte t) (omega (arith, length-drop {A = ℕ})) in omega (arith, cut, trim-le text)

pub line_parts-le : (line : List ℕ) → length (line_parts line).rest ≤ length line
unfolding line_parts
line_parts-le line = omega (arith, line_of-le (take (comment_place Outside line) line), length-take (comment_place Outside line) line)

-- ---- the code's statements

pub widen-some : (o : Option Statement) (a b : ℕ) → a ≤ b → IfSome o (λ s. size (view s) ≤ a) → IfSome o (λ s. size (view s) ≤ b)
widen-some None a b le h = tt
widen-some (Some s) a b le h = omega arith

pub widen-ok : {E : Type 0} (r : Result (Option Statement) E) (a b : ℕ) → a ≤ b → IfOk r (λ o. IfSome o (λ s. size (view s) ≤ a)) → IfOk r (λ o. IfSome o (λ s. size (view s) ≤ b))
widen-ok (Ok o) a b le h = widen-some o a b le h
widen-ok (Err e) a b le h = tt

length-texts : (xs : List (Bor (List ℕ))) → length (operand_texts xs) ≡ length xs
length-texts [] = refl
length-texts (x ∷ xs) = omega (arith, length-texts xs)

pub operands-few : (xs : List (Bor (List ℕ))) (rest : List ℕ) → operand_texts xs ≡ operands rest → length xs ≤ length rest + 1
operands-few xs rest e = omega (arith, length-texts xs, ap length e, operands-le rest)
