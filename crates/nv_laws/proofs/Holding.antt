-- Which numbers are in use, and what a new one changes.
use Rattle.std.proofs.Common.{◌≡◌, ◌∙◌, sym, ap, subst, refl, ℕ, ◌+◌, ◌≤◌, ◌<◌, Bool, true, false, ◌||◌, ◌==◌, List, [], length, Option, Some, None, is_some, option_map, inl, inr, arith}
use Rattle.std.specs.Prelude.{slice_get}
use Rattle.std.proofs.lemmas.Bool.{or_cases, eqb-true, eq-eqb}
use Rattle.std.proofs.lemmas.List.{get_or-set_same, get_or-set_other}
use Rattle.nv_fs.specs.declared.open_file.OpenFile.{OpenFile}
use Rattle.nv_fs.specs.declared.open_file.Target.{Target}
use Rattle.nv_fs.specs.declared.open_file.Target.TheVariants.{Input, Console, File, Reader, Writer}
use Rattle.nv_fs.specs.States.{FileState, Inode, open_of, numbered, opens_to, is_target, is_numbered, is_shared, is_kept, is_pipe, has_open, file_at, free_open, install, with_at}
use Rattle.nv_fs.specs.Opened.{free_file}
use Rattle.nv_fs.specs.Ends.{free_pipe}
use Rattle.nv_laws.specs.Tables.{number_at, StandsIn, AreSoundTables}
use Rattle.nv_laws.specs.Calls.{TakesNew}
use Rattle.nv_laws.proofs.Lookups.{some_is, past_end, with_other, with_same, passes_at, passes, least_is_near, least_is_free}

-- what isn't true is false
pub unless : (b : Bool) → (b ≡ true → ⊥) → b ≡ false
unless true h = absurd (h refl)
unless false h = refl

pub number_is : (number : ℕ) (o : Option ℕ) → is_numbered number o ≡ true → o ≡ Some number
number_is number None h = cc
number_is number (Some j) h = ap Some (eqb-true j number h)

pub is_the_number : (number : ℕ) (o : Option ℕ) → o ≡ Some number → is_numbered number o ≡ true
is_the_number number o e = subst (λ (q : Option ℕ). is_numbered number q ≡ true) (sym e) (eq-eqb number number refl)

-- a number is in use where a descriptor has it
pub shared_at : (s : FileState) (number : ℕ) → is_shared s number ≡ true → (d : ℕ) × (number_at s d ≡ Some number)
unfolding is_shared
shared_at s number h = let r = passes_at (is_numbered number) s.descriptors h in (r.0, number_is number _ r.1)

pub shared_by : (s : FileState) (number d : ℕ) → number_at s d ≡ Some number → is_shared s number ≡ true
unfolding is_shared
shared_by s number d e = passes (is_numbered number) s.descriptors d refl (is_the_number number _ e)

pub open_at : (s : FileState) (t : Target) → has_open s t ≡ true → (d : ℕ) × (opens_to t (open_of s d) ≡ true)
unfolding has_open open_of
open_at s t h = passes_at (λ d. opens_to t (numbered s.opens d)) s.descriptors h

pub open_by : (s : FileState) (t : Target) (d : ℕ) → opens_to t (open_of s d) ≡ true → has_open s t ≡ true
unfolding has_open open_of
open_by s t d h = passes (λ d. opens_to t (numbered s.opens d)) s.descriptors d refl h

-- an open file that is found is the one of the number
pub numbered_is : (opens : List OpenFile) (m : Option ℕ) (o : ℕ × OpenFile) → numbered opens m ≡ Some o → (m ≡ Some o.0) × (slice_get opens o.0 ≡ Some o.1)
numbered_is opens None o e = cc
numbered_is opens (Some j) o e = by (slice_get opens j) refl e
  where
    by : (q : Option OpenFile) → slice_get opens j ≡ q → option_map (λ x. (j, x)) q ≡ Some o → (Some j ≡ Some o.0) × (slice_get opens o.0 ≡ Some o.1)
    by None h e = cc
    by (Some x) h e =
        let is = some_is (j, x) o e in
        (ap (λ (p : ℕ × OpenFile). Some p.0) is, subst (λ (p : ℕ × OpenFile). slice_get opens p.0 ≡ Some p.1) is h)

pub open_is : (s : FileState) (fd : ℕ) (o : ℕ × OpenFile) → open_of s fd ≡ Some o → (number_at s fd ≡ Some o.0) × (slice_get s.opens o.0 ≡ Some o.1)
unfolding open_of
open_is s fd o e = numbered_is s.opens (number_at s fd) o e

pub open_from : (s : FileState) (fd number : ℕ) (o : OpenFile) → number_at s fd ≡ Some number → slice_get s.opens number ≡ Some o → open_of s fd ≡ Some (number, o)
unfolding open_of
open_from s fd number o e h = ap (numbered s.opens) e ∙ ap (option_map (λ x. (number, x))) h

same_place : (n i j : ℕ) → (i == j) ≡ true → j < n → i < n
same_place n i j h l = omega (arith, eqb-true i j h)

-- both are of the same, so both stand in the tables
stands_too : (files pipes : ℕ) (a b : Target) → is_target a b ≡ true → StandsIn files pipes b → StandsIn files pipes a
stands_too files pipes Input b h k = tt
stands_too files pipes Console b h k = tt
stands_too files pipes (File i) (File j) h k = same_place files i j h k
stands_too files pipes (Reader i) (Reader j) h k = same_place pipes i j h k
stands_too files pipes (Writer i) (Writer j) h k = same_place pipes i j h k
stands_too files pipes (File i) Input h k = cc
stands_too files pipes (File i) Console h k = cc
stands_too files pipes (File i) (Reader j) h k = cc
stands_too files pipes (File i) (Writer j) h k = cc
stands_too files pipes (Reader i) Input h k = cc
stands_too files pipes (Reader i) Console h k = cc
stands_too files pipes (Reader i) (File j) h k = cc
stands_too files pipes (Reader i) (Writer j) h k = cc
stands_too files pipes (Writer i) Input h k = cc
stands_too files pipes (Writer i) Console h k = cc
stands_too files pipes (Writer i) (File j) h k = cc
stands_too files pipes (Writer i) (Reader j) h k = cc

pub stands : (s : FileState) (fd : ℕ) (o : ℕ × OpenFile) → AreSoundTables s → open_of s fd ≡ Some o → StandsIn (length s.files) (length s.pipes) o.1.target
stands s fd o h e = h.opens o.0 o.1 (open_is s fd o e).1

-- what is open stands in the tables
pub open_stands : (s : FileState) (t : Target) → AreSoundTables s → has_open s t ≡ true → StandsIn (length s.files) (length s.pipes) t
open_stands s t h k = let r = open_at s t k in by r.0 (open_of s r.0) refl r.1
  where
    by : (d : ℕ) (o : Option (ℕ × OpenFile)) → open_of s d ≡ o → opens_to t o ≡ true → StandsIn (length s.files) (length s.pipes) t
    by d None e q = cc
    by d (Some o) e q = stands_too (length s.files) (length s.pipes) t o.1.target q (stands s d o h e)

-- the numbers just after the tables, and so the least free ones, are in no use
pub open_is_free : (s : FileState) → AreSoundTables s → is_shared s (free_open s) ≡ false
unfolding free_open
open_is_free s h = least_is_free (is_shared s) (length s.opens) 0 (unless _ used)
  where
    used : is_shared s (0 + length s.opens) ≡ true → ⊥
    used q = let r = shared_at s (0 + length s.opens) q in omega (arith, h.descriptors r.0 _ r.1)

pub free_open_near : (s : FileState) → free_open s ≤ length s.opens
unfolding free_open
free_open_near s = omega (arith, least_is_near (is_shared s) (length s.opens) 0)

pub file_is_free : (s : FileState) → AreSoundTables s → is_kept s (free_file s) ≡ false
unfolding free_file is_kept
file_is_free s h = least_is_free (is_kept s) (length s.files) 0 (unless _ used)
  where
    used : (is_some (file_at s (0 + length s.files)).name || has_open s (File (0 + length s.files))) ≡ true → ⊥
    used q = elim (or_cases _ _ q) [
      | inl named ↦ (let none = ap (λ (f : Inode). is_some f.name) (past_end s.files (0 + length s.files) (record { name = None; bytes = [] }) (omega arith)) in let clash : true ≡ false = sym named ∙ none in cc)
      | inr held ↦ omega (arith, open_stands s (File (0 + length s.files)) h held)
    ]

pub free_file_near : (s : FileState) → free_file s ≤ length s.files
unfolding free_file
free_file_near s = omega (arith, least_is_near (is_kept s) (length s.files) 0)

pub pipe_is_free : (s : FileState) → AreSoundTables s → is_pipe s (free_pipe s) ≡ false
unfolding free_pipe is_pipe
pipe_is_free s h = least_is_free (is_pipe s) (length s.pipes) 0 (unless _ used)
  where
    used : (has_open s (Reader (0 + length s.pipes)) || has_open s (Writer (0 + length s.pipes))) ≡ true → ⊥
    used q = elim (or_cases _ _ q) [
      | inl held ↦ omega (arith, open_stands s (Reader (0 + length s.pipes)) h held)
      | inr held ↦ omega (arith, open_stands s (Writer (0 + length s.pipes)) h held)
    ]

pub free_pipe_near : (s : FileState) → free_pipe s ≤ length s.pipes
unfolding free_pipe
free_pipe_near s = omega (arith, least_is_near (is_pipe s) (length s.pipes) 0)

-- a number of an open file that isn't the new one finds what it found
found_still : (opens : List OpenFile) (n : ℕ) (o : OpenFile) (m : Option ℕ) → n ≤ length opens → (m ≡ Some n → ⊥) → numbered (with_at opens n o) m ≡ numbered opens m
found_still opens n o None h q = refl
found_still opens n o (Some j) h q = ap (option_map (λ x. (j, x))) (with_other opens n o h j (λ e. q (ap Some e)))

-- a free descriptor takes a new open file
pub takes_new : (s : FileState) (fd : ℕ) (o : OpenFile) → AreSoundTables s → fd < length s.descriptors → number_at s fd ≡ None → TakesNew s (install s fd o) fd
unfolding install open_of
takes_new s fd o h l free = record {
  free = free;
  number = free_open s;
  has = get_or-set_same s.descriptors fd (Some (free_open s)) None l;
  unused = open_is_free s h;
  others = λ d n.
      ap (numbered (with_at s.opens (free_open s) o)) (get_or-set_other s.descriptors fd d (Some (free_open s)) None n)
      ∙ found_still s.opens (free_open s) o (number_at s d) (free_open_near s) (λ e. let used = shared_by s (free_open s) d e in let clash : true ≡ false = sym used ∙ open_is_free s h in cc);
}

-- and that is the open file
pub is_installed : (s : FileState) (fd : ℕ) (o : OpenFile) → fd < length s.descriptors → open_of (install s fd o) fd ≡ Some (free_open s, o)
unfolding install open_of
is_installed s fd o l =
    ap (numbered (with_at s.opens (free_open s) o)) (get_or-set_same s.descriptors fd (Some (free_open s)) None l)
    ∙ ap (option_map (λ x. (free_open s, x))) (with_same s.opens (free_open s) o (free_open_near s))
