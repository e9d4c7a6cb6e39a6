-- What is in use once a descriptor has another open file, or none.
use Rattle.std.proofs.Common.{◌≡◌, ◌≢◌, ◌∙◌, sym, ap, subst, refl, ℕ, Bool, true, false, cond, not, ◌||◌, ◌==◌, nat_lt, get_or, set, Option, Some, None, is_some, ◌⊎◌, inl, inr, ⊎_elim}
use Rattle.std.specs.Prelude.{IsTrue}
use Rattle.std.proofs.lemmas.Bool.{or_cases, or_left, or_right, cases_eq, eq-eqb}
use Rattle.std.proofs.lemmas.List.{get_or-set_other}
use Rattle.nv_fs.specs.declared.open_file.OpenFile.{OpenFile}
use Rattle.nv_fs.specs.declared.open_file.Target.{Target}
use Rattle.nv_fs.specs.declared.open_file.Target.TheVariants.{File, Reader, Writer}
use Rattle.nv_calls.specs.Answer.{Answer, only}
use Rattle.nv_calls.specs.Errors.{EBADF, EINVAL}
use Rattle.nv_fs.specs.States.{FileState, open_of, numbered, opens_to, is_kept, is_pipe, has_open, file_at}
use Rattle.nv_fs.specs.Closes.{close_of, close_open, dup3_of, dup_onto, shared_at, with_descriptor}
use Rattle.nv_laws.specs.Tables.{number_at, HeldBeside, OpenBeside}
use Rattle.nv_laws.specs.Calls.{ChangesNothing, OthersKeep, LetsGo}
use Rattle.nv_laws.proofs.Lookups.{put_or_not}
use Rattle.nv_laws.proofs.Holding.{shared_at as found_shared, shared_by, open_at, open_by, open_is}
use Rattle.nv_fs.proofs.Cases.{by_test}

-- the same open file is found by the same number
found_by : (s : FileState) (t : Target) (d number : ℕ) → number_at s d ≡ Some number → opens_to t (numbered s.opens (Some number)) ≡ true → opens_to t (open_of s d) ≡ true
unfolding open_of
found_by s t d number e h = ap (λ (m : Option ℕ). opens_to t (numbered s.opens m)) e ∙ h

-- a descriptor has another number from now on, where that one is some other descriptor's too
module _ (s : FileState) (fd : ℕ) (x : Option ℕ) (beside : (number : ℕ) → get_or (set s.descriptors fd x) fd None ≡ Some number → HeldBeside s fd number) where
  others : OthersKeep s (with_descriptor s fd x) fd
  unfolding open_of
  others d other = ap (numbered s.opens) (get_or-set_other s.descriptors fd d x None other)

  held : (d number : ℕ) → get_or (set s.descriptors fd x) d None ≡ Some number → HeldBeside s fd number
  held d number e = elim (cases_eq d fd) [
    | inl is ↦ beside number (ap (λ (k : ℕ). get_or (set s.descriptors fd x) k None) (sym is) ∙ e)
    | inr other ↦ (d, other, sym (get_or-set_other s.descriptors fd d x None other) ∙ e)
  ]

  seen : (t : Target) (m : Option ℕ) → get_or (set s.descriptors fd x) fd None ≡ m → opens_to t (numbered s.opens m) ≡ true → OpenBeside s fd t
  seen t None e h = cc
  seen t (Some number) e h = let r = beside number e in (r.0, r.1, found_by s t r.0 number r.2 h)

  still_open : (t : Target) → has_open (with_descriptor s fd x) t ≡ true → OpenBeside s fd t
  unfolding open_of
  still_open t h =
      let r = open_at (with_descriptor s fd x) t h in elim (cases_eq r.0 fd) [
        | inl is ↦ seen t (get_or (set s.descriptors fd x) fd None) refl (subst (λ (k : ℕ). opens_to t (numbered s.opens (get_or (set s.descriptors fd x) k None)) ≡ true) is r.1)
        | inr other ↦ (r.0, other, ap (opens_to t) (sym (others r.0 other)) ∙ r.1)
      ]

  opened_still : (t : Target) → OpenBeside s fd t → has_open (with_descriptor s fd x) t ≡ true
  opened_still t r = open_by (with_descriptor s fd x) t r.0 (ap (opens_to t) (others r.0 r.1) ∙ r.2)

  file_kept : (i : ℕ) → is_kept (with_descriptor s fd x) i ≡ true → IsTrue (is_some (file_at s i).name) ⊎ OpenBeside s fd (File i)
  unfolding is_kept
  file_kept i h = elim (or_cases _ _ h) [ inl named ↦ inl named | inr held ↦ inr (still_open (File i) held) ]

  kept_file : (i : ℕ) → IsTrue (is_some (file_at s i).name) ⊎ OpenBeside s fd (File i) → is_kept (with_descriptor s fd x) i ≡ true
  unfolding is_kept
  kept_file i h = elim h [ inl named ↦ or_left _ _ named | inr held ↦ or_right _ _ (opened_still (File i) held) ]

  pipe_kept : (k : ℕ) → is_pipe (with_descriptor s fd x) k ≡ true → OpenBeside s fd (Reader k) ⊎ OpenBeside s fd (Writer k)
  unfolding is_pipe
  pipe_kept k h = elim (or_cases _ _ h) [ inl reads ↦ inl (still_open (Reader k) reads) | inr writes ↦ inr (still_open (Writer k) writes) ]

  kept_pipe : (k : ℕ) → OpenBeside s fd (Reader k) ⊎ OpenBeside s fd (Writer k) → is_pipe (with_descriptor s fd x) k ≡ true
  unfolding is_pipe
  kept_pipe k h = elim h [ inl reads ↦ or_left _ _ (opened_still (Reader k) reads) | inr writes ↦ or_right _ _ (opened_still (Writer k) writes) ]

  pub lets_go : LetsGo s (with_descriptor s fd x) fd
  lets_go = record {
    opens = λ number. (
      (λ h. let r = found_shared (with_descriptor s fd x) number h in held r.0 number r.1),
      (λ r. shared_by (with_descriptor s fd x) number r.0 (get_or-set_other s.descriptors fd r.0 x None r.1 ∙ r.2)),
    );
    files = λ i. (file_kept i, kept_file i);
    pipes = λ k. (pipe_kept k, kept_pipe k);
    others = others;
    same_files = refl;
    same_pipes = refl;
  }

pub close_lets_go : (s : FileState) (fd : ℕ) → ChangesNothing s (close_of s fd) ⊎ LetsGo s (close_of s fd).state fd
unfolding close_of
close_lets_go s fd = by (open_of s fd)
  where
    none : get_or (set s.descriptors fd None) fd None ≡ None
    none = ⊎_elim (λ q. q) (λ q. q.0) (put_or_not s.descriptors fd None None)

    by : (o : Option (ℕ × OpenFile)) → ChangesNothing s (close_open s fd o) ⊎ LetsGo s (close_open s fd o).state fd
    by None = inl record { same = refl; error = refl }
    by (Some o) = inr (lets_go s fd None (λ number e. let clash : Some number ≡ None = sym e ∙ none in cc))

onto : (s : FileState) (from to : ℕ) (o : ℕ × OpenFile) → from ≢ to → open_of s from ≡ Some o → LetsGo s (with_descriptor s to (Some o.0)) to
onto s from to o other e = lets_go s to (Some o.0) beside
  where
    beside : (number : ℕ) → get_or (set s.descriptors to (Some o.0)) to None ≡ Some number → HeldBeside s to number
    beside number q = elim (put_or_not s.descriptors to (Some o.0) None) [
      | inl put ↦ (from, other, (open_is s from o e).0 ∙ sym put ∙ q)
      | inr gone ↦ (let clash : Some number ≡ None = sym q ∙ gone.0 in cc)
    ]

-- a call that closes a descriptor, where it isn't refused
abbrev Closed : FileState → ℕ → Answer FileState → Type 0
Closed s fd a = ChangesNothing s a ⊎ LetsGo s a.state fd

onto_another : (s : FileState) (from to : ℕ) → from ≢ to → (o : Option (ℕ × OpenFile)) → open_of s from ≡ o → Closed s to (dup_onto s o to)
onto_another s from to other None e = inl record { same = refl; error = refl }
onto_another s from to other (Some o) e =
    by_test (Closed s to) (nat_lt 63 to) (only s EBADF) (shared_at s to o.0) (inl record { same = refl; error = refl }) (inr (onto s from to o other e))

pub dup3_lets_go : (s : FileState) (from to flags : ℕ) → ChangesNothing s (dup3_of s from to flags) ⊎ LetsGo s (dup3_of s from to flags).state to
unfolding dup3_of
dup3_lets_go s from to flags =
    by_test (Closed s to) (not ((flags == 0) || (flags == 524288))) (only s EINVAL) _ (inl record { same = refl; error = refl }) (by (from == to) refl)
  where
    by : (b : Bool) → (from == to) ≡ b → Closed s to (cond b (only s EINVAL) (dup_onto s (open_of s from) to))
    by true e = inl record { same = refl; error = refl }
    by false e = onto_another s from to (λ is. let clash : true ≡ false = sym (eq-eqb from to is) ∙ e in cc) (open_of s from) refl
