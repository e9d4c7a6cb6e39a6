-- How payloads lie in chunks of 64 words.
use Rattle.std.specs.Prelude.{ℕ, ◌+◌, ◌/◌, ◌%◌, ◌≤◌, List, take, drop, sum_by, slice_index}

-- eight bytes a word
abbrev pub words_for : ℕ → ℕ
words_for bytes = (bytes + 7) / 8

abbrev pub chunks_for : ℕ → ℕ
chunks_for words = (words + 63) / 64

-- the chunks of a payload of so many bytes
abbrev pub chunks_of : ℕ → ℕ
chunks_of bytes = chunks_for (words_for bytes)

-- of payloads by their bytes: the chunks of all, of those before the i-th, and of those from the i-th on
abbrev pub chunks_in : List ℕ → ℕ
chunks_in sizes = sum_by chunks_of sizes

abbrev pub chunks_of_first : List ℕ → ℕ → ℕ
chunks_of_first sizes i = chunks_in (take i sizes)

abbrev pub chunks_of_rest : List ℕ → ℕ → ℕ
chunks_of_rest sizes i = chunks_in (drop i sizes)

-- the first of the i-th payload's chunks, of so many in all
abbrev pub first_chunk : ℕ → List ℕ → ℕ → ℕ
first_chunk chunks sizes i = chunks_of_first sizes i % chunks

abbrev pub AllUpTo : ℕ → List ℕ → Type 0
AllUpTo most xs = (i : ℕ) → slice_index xs i ≤ most
