-- Lines, words and operands of a text.
use denote.Ref.{Bor}
use Rattle.std.specs.Prelude.{◌≡◌, ◌<◌, MatchOption, ℕ, Bool, false, not, ◌&&◌, ◌||◌, List, [], ◌∷◌, Option, Some, None, if◌then◌else◌, ◌==◌, nat_le, ◌+◌, ◌-◌, ◌^◌, min, length, take, drop, map}
use Rattle.std.specs.List.{list_all, onto_first, slice_split, prefix_len, suffix_len}

abbrev pub is_newline : ℕ → Bool
is_newline b = b == 10

-- the lines of a text, whose last newline may be missing
unfoldable pub lines : List ℕ → List (List ℕ)
lines [] = []
lines (b ∷ bs) = if is_newline b then [] ∷ lines bs else onto_first b (lines bs)

-- the lines that are left of a text, and how many are before them
pub record LinesLeft : Type 0 where
  pub before : ℕ
  pub left : List (List ℕ)

-- the next line is given, with how many are before it, and the others stay; a further line's count fits as well
pub record IsNextLine (s : LinesLeft) (before : ℕ) (line : List ℕ) (t : LinesLeft) : Type 0 where
  pub first : s.left ≡ line ∷ t.left
  pub counted : before ≡ s.before
  pub further : t.before ≡ s.before + 1
  pub fits : t.before < 2 ^ 64

-- a call gives the next line, or nothing once none is left
abbrev pub GivesLine : LinesLeft → Option (ℕ × Bor (List ℕ)) → LinesLeft → Type 0
GivesLine s given t = MatchOption given ((s.left ≡ []) × (t.left ≡ [])) (λ line. IsNextLine s line.0 line.1.now t)

-- the number of a line that so many are before; one past 32 bits is reported as the last of these
abbrev pub line_number : ℕ → ℕ
line_number n = min (n + 1) (2 ^ 32 - 1)

-- a space or a tab
abbrev pub is_blank : ℕ → Bool
is_blank b = (b == 32) || (b == 9)

abbrev pub is_not_blank : ℕ → Bool
is_not_blank b = not (is_blank b)

abbrev pub trim_start : List ℕ → List ℕ
trim_start text = drop (prefix_len is_blank text) text

abbrev pub trim_end : List ℕ → List ℕ
trim_end text = take (length text - suffix_len is_blank text) text

-- the text without its blanks at both ends
unfoldable pub trim : List ℕ → List ℕ
trim text = trim_end (trim_start text)

abbrev pub is_comma : ℕ → Bool
is_comma b = b == 44

abbrev pub operands_of : List ℕ → List (List ℕ)
operands_of [] = []
operands_of (b ∷ bs) = map trim (slice_split is_comma (b ∷ bs))

-- the operands of a statement, which commas separate
unfoldable pub operands : List ℕ → List (List ℕ)
operands rest = operands_of (trim rest)

abbrev pub is_letter : ℕ → Bool
is_letter b = (nat_le 65 b && nat_le b 90) || ((nat_le 97 b && nat_le b 122) || (b == 95))

abbrev pub is_digit : ℕ → Bool
is_digit b = nat_le 48 b && nat_le b 57

abbrev pub is_name_byte : ℕ → Bool
is_name_byte b = is_letter b || is_digit b

abbrev pub begins_name : List ℕ → Bool
begins_name [] = false
begins_name (b ∷ bs) = is_letter b

-- letters, digits and `_`, not beginning with a digit
unfoldable pub is_name : List ℕ → Bool
is_name text = begins_name text && list_all is_name_byte text

-- a line without its comment: its label, its first word and the rest
pub record Parts : Type 0 where
  pub label : Option (List ℕ)
  pub word : List ℕ
  pub rest : List ℕ

-- the bytes before the first that doesn't pass, and the rest from that on
abbrev pub prefix : (ℕ → Bool) → List ℕ → List ℕ
prefix p text = take (prefix_len p text) text

abbrev pub rest_after : (ℕ → Bool) → List ℕ → List ℕ
rest_after p text = drop (prefix_len p text) text

abbrev pub line_with : Option (List ℕ) → List ℕ → Parts
line_with label text = record { label = label; word = prefix is_not_blank text; rest = trim_start (rest_after is_not_blank text) }

-- a text that begins with a name, which a colon follows or not
abbrev pub after_name : List ℕ → List ℕ → List ℕ → Parts
after_name text name [] = line_with None text
after_name text name (b ∷ bs) = if is_name name && (b == 58) then line_with (Some name) (trim bs) else line_with None text

unfoldable pub parted : List ℕ → Parts
parted text = after_name text (prefix is_name_byte text) (rest_after is_name_byte text)

unfoldable pub line_of : List ℕ → Parts
line_of text = parted (trim text)
