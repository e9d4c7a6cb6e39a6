-- The code of a list of calls, a call at a time.
use Rattle.std.proofs.Common.{◌≡◌, ℕ, ◌+◌, List, [], ◌∷◌, ◌++◌, map, refl, ap, sym, ◌∙◌, append_assoc, append-nil, add-one, Vec, Global}
use Rattle.std.specs.List.{flat_map}
use Rattle.std.proofs.lemmas.Grind.{flat_map-append}
use Rattle.std.proofs.lemmas.List.{map-append}
use Rattle.nv_elf.specs.Elf.{Accepted, elf_of}
use Rattle.nv_gen.specs.Measures.{file_read_as}
use Rattle.nv_gen.specs.Made.{Numbers, Call, calls_to, calls_at, course, courses_to}
use Rattle.nv_gen.specs.Programs.{insns_of, code_of, calls_code, insn_bytes, program, programs_to}

pub calls_to-next : (p : Numbers) (version writes : ℕ) → calls_to p version (writes + 1) ≡ calls_to p version writes ++ calls_at p version (writes + 1)
unfolding calls_to
calls_to-next p version writes = ap (λ k. calls_to p version k) (add-one writes)

pub calls_code-append : (xs ys : List Call) → calls_code (xs ++ ys) ≡ calls_code xs ++ calls_code ys
calls_code-append xs ys = ap code_of (flat_map-append insns_of xs ys) ∙ flat_map-append insn_bytes (flat_map insns_of xs) (flat_map insns_of ys)

pub calls_code-none : (code : List ℕ) (p : Numbers) (version : ℕ) → code ≡ code ++ calls_code (calls_to p version 0)
unfolding calls_to
calls_code-none code p version = sym (append-nil code)

-- the code of one more write
pub calls_code-next : (code before after : List ℕ) (p : Numbers) (version writes : ℕ) → before ≡ code ++ calls_code (calls_to p version writes)
    → after ≡ before ++ calls_code (calls_at p version (writes + 1)) → after ≡ code ++ calls_code (calls_to p version (writes + 1))
calls_code-next code before after p version writes was added =
    let more : calls_code (calls_to p version (writes + 1)) ≡ calls_code (calls_to p version writes) ++ calls_code (calls_at p version (writes + 1)) =
    ap calls_code (calls_to-next p version writes) ∙ calls_code-append (calls_to p version writes) (calls_at p version (writes + 1)) in
    added ∙ ap (λ b. b ++ calls_code (calls_at p version (writes + 1))) was
    ∙ append_assoc code (calls_code (calls_to p version writes)) (calls_code (calls_at p version (writes + 1))) ∙ ap (λ m. code ++ m) (sym more)

-- the programs of one more version
programs_to-next : (k : Numbers) (count : ℕ) → programs_to k (count + 1) ≡ programs_to k count ++ program k (course k count) ∷ []
unfolding courses_to
programs_to-next k count = ap (λ n. programs_to k n) (add-one count) ∙ map-append (program k) (courses_to k count) (course k count ∷ [])

pub accepted-next : (k : Numbers) (count : ℕ) → map Accepted (programs_to k (count + 1)) ≡ map Accepted (programs_to k count) ++ Accepted (program k (course k count)) ∷ []
accepted-next k count = ap (map Accepted) (programs_to-next k count) ∙ map-append Accepted (programs_to k count) (program k (course k count) ∷ [])

pub accepted-none : (k : Numbers) → map Accepted (programs_to k 0) ≡ []
unfolding courses_to
accepted-none k = refl

pub versions-next : (k : Numbers) (count : ℕ) (files after : List (Vec ℕ Global)) (file : Vec ℕ Global) → map file_read_as files ≡ map Accepted (programs_to k count)
    → elf_of file.items ≡ Accepted (program k (course k count)) → after ≡ files ++ file ∷ [] → map file_read_as after ≡ map Accepted (programs_to k (count + 1))
versions-next k count files after file made read more =
    ap (map file_read_as) more ∙ map-append file_read_as files (file ∷ []) ∙ ap (λ m. m ++ file_read_as file ∷ []) made
    ∙ ap (λ r. map Accepted (programs_to k count) ++ r ∷ []) read ∙ sym (accepted-next k count)
