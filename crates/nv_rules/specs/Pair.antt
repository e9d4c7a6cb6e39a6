-- The data that a filter reads: a follower's call, the leader's event, the version, and how many bytes each call hands in, as words.
-- Each call is laid out as Linux gives it to a filter (struct seccomp_data, seccomp(2)), in words of 32 bits, the lower half first.
use Rattle.std.specs.Prelude.{ℕ, List, [], ◌∷◌, ◌++◌, ◌-◌, ◌^◌, length, min}
use Rattle.nv_calls.specs.Calls.{Request, Entry}

abbrev pub argument_words : List ℕ → List ℕ
argument_words [] = []
argument_words (a ∷ as_left) = a ∷ 0 ∷ argument_words as_left

-- the number, the architecture (32-bit RISC-V, little-endian), the instruction pointer, which is always 0, and the arguments
abbrev pub call_words : ℕ → List ℕ → List ℕ
call_words nr args = nr ∷ 0x400000f3 ∷ 0 ∷ 0 ∷ argument_words args

-- how many bytes there are, as a word; no call hands in more than 4,096
abbrev pub count_word : List ℕ → ℕ
count_word payload = min (length payload) (2 ^ 32 - 1)

-- no filter reads the word before the counts, which is at 132, the length that `ld len` gives
unfoldable pub pair_words : Request → Entry → ℕ → List ℕ
pair_words c e version = call_words c.nr c.args ++ (call_words e.call.nr e.call.args ++ version ∷ 0 ∷ count_word c.payload ∷ count_word e.call.payload ∷ [])
