-- What a call on a descriptor leaves as it was.
use Rattle.std.proofs.Common.{◌≡◌, ◌≢◌, ◌∙◌, sym, ap, subst, refl, ℕ, ℤ, true, ◌==◌, List, [], set, Option, Some, None, inl, inr, ⊎_elim}
use Rattle.std.specs.Prelude.{slice_get}
use Rattle.std.proofs.lemmas.Bool.{cases_eq, eq-eqb}
use Rattle.std.proofs.lemmas.List.{get_or-set_other}
use Rattle.nv_fs.specs.declared.open_file.OpenFile.{OpenFile}
use Rattle.nv_fs.specs.declared.open_file.Target.{Target}
use Rattle.nv_fs.specs.declared.open_file.Target.TheVariants.{File, Reader, Writer}
use Rattle.nv_calls.specs.Answer.{Answer, only}
use Rattle.nv_calls.specs.Errors.{EINVAL}
use Rattle.nv_fs.specs.States.{FileState, Inode, open_of, opens_to, is_target, file_at, moved_to}
use Rattle.nv_fs.specs.Names.{Resolved, Refused, Named, resolved, file_of}
use Rattle.nv_fs.specs.Opened.{unlink_at_of, unlink_resolved, unlink_file, unlinked}
use Rattle.nv_fs.specs.Seeks.{seek_of}
use Rattle.nv_fs.specs.Fetched.{read_of, with_pipe}
use Rattle.nv_fs.specs.Stored.{write_of, with_content}
use Rattle.nv_laws.specs.Tables.{number_at}
use Rattle.nv_laws.specs.Calls.{TakesAName, StaysWithin}
use Rattle.nv_laws.proofs.Lookups.{set_other, put_or_not}
use Rattle.nv_laws.proofs.Holding.{open_is}
use Rattle.nv_fs.proofs.Cases.{by_test, seek_cases, read_cases, write_cases}

stays : (s : FileState) (fd : ℕ) → StaysWithin s s fd
stays s fd = record { descriptors = refl; opens = λ n q. refl; files = λ i. inr refl; pipes = λ k. inr (inr refl) }

-- the open file of the descriptor is of this target
is_of : (s : FileState) (fd : ℕ) (o : ℕ × OpenFile) (a b : Target) → open_of s fd ≡ Some o → o.1.target ≡ b → is_target a b ≡ true → opens_to a (open_of s fd) ≡ true
is_of s fd o a b e t h = ap (opens_to a) e ∙ ap (is_target a) t ∙ h

others_stay : (s : FileState) (fd : ℕ) (o : ℕ × OpenFile) (new : OpenFile) → open_of s fd ≡ Some o → (n : ℕ) → number_at s fd ≢ Some n → slice_get (set s.opens o.0 new) n ≡ slice_get s.opens n
others_stay s fd o new e n q = set_other s.opens o.0 n new (λ is. q ((open_is s fd o e).0 ∙ ap Some (sym is)))

moving : (s : FileState) (fd : ℕ) (o : ℕ × OpenFile) (offset : ℕ) → open_of s fd ≡ Some o → StaysWithin s (moved_to s o.0 o.1 offset) fd
moving s fd o offset e = record {
  descriptors = refl;
  opens = others_stay s fd o (record (o.1) { offset = offset }) e;
  files = λ i. inr refl;
  pipes = λ k. inr (inr refl);
}

storing : (s : FileState) (fd : ℕ) (o : ℕ × OpenFile) (i offset : ℕ) (bytes : List ℕ) → open_of s fd ≡ Some o → o.1.target ≡ File i
    → StaysWithin s (moved_to (with_content s i bytes) o.0 o.1 offset) fd
storing s fd o i offset bytes e t =
    let none : Inode = record { name = None; bytes = [] } in
    let new : Inode = record { name = (file_at s i).name; bytes = bytes } in record {
      descriptors = refl;
      opens = others_stay s fd o (record (o.1) { offset = offset }) e;
      files = λ j. elim (cases_eq j i) [
        | inl is ↦ inl (is_of s fd o (File j) (File i) e t (eq-eqb j i is))
        | inr other ↦ inr (get_or-set_other s.files i j new none other)
      ];
      pipes = λ k. inr (inr refl);
    }

draining : (s : FileState) (fd : ℕ) (o : ℕ × OpenFile) (k : ℕ) (bytes : List ℕ) → open_of s fd ≡ Some o → o.1.target ≡ Reader k → StaysWithin s (with_pipe s k bytes) fd
draining s fd o k bytes e t = record {
  descriptors = refl;
  opens = λ n q. refl;
  files = λ i. inr refl;
  pipes = λ j. elim (cases_eq j k) [
    | inl is ↦ inl (is_of s fd o (Reader j) (Reader k) e t (eq-eqb j k is))
    | inr other ↦ inr (inr (get_or-set_other s.pipes k j bytes [] other))
  ];
}

filling : (s : FileState) (fd : ℕ) (o : ℕ × OpenFile) (k : ℕ) (bytes : List ℕ) → open_of s fd ≡ Some o → o.1.target ≡ Writer k → StaysWithin s (with_pipe s k bytes) fd
filling s fd o k bytes e t = record {
  descriptors = refl;
  opens = λ n q. refl;
  files = λ i. inr refl;
  pipes = λ j. elim (cases_eq j k) [
    | inl is ↦ inr (inl (is_of s fd o (Writer j) (Writer k) e t (eq-eqb j k is)))
    | inr other ↦ inr (inr (get_or-set_other s.pipes k j bytes [] other))
  ];
}

pub seek_stays : (s : FileState) (fd high low whence : ℕ) → StaysWithin s (seek_of s fd high low whence).state fd
seek_stays s fd high low whence = seek_cases (λ a. StaysWithin s a fd) s fd (stays s fd) (moving s fd) high low whence

pub read_stays : (s : FileState) (fd count : ℕ) → StaysWithin s (read_of s fd count).state fd
read_stays s fd count =
    read_cases (λ a. StaysWithin s a fd) s fd (stays s fd) (moving s fd)
    (λ n. record { descriptors = refl; opens = λ m q. refl; files = λ i. inr refl; pipes = λ k. inr (inr refl) })
    (draining s fd) count

pub write_stays : (s : FileState) (fd : ℕ) (bytes : List ℕ) → StaysWithin s (write_of s fd bytes).state fd
write_stays s fd bytes =
    write_cases (λ a. StaysWithin s a fd) s fd (stays s fd)
    (λ printed. record { descriptors = refl; opens = λ m q. refl; files = λ i. inr refl; pipes = λ k. inr (inr refl) })
    (storing s fd) (filling s fd) bytes

nothing_taken : (s : FileState) → TakesAName s s
nothing_taken s = record { file = 0; others = λ i other. refl; bytes = λ i. refl; descriptors = refl; opens = refl; pipes = refl }

taken : (s : FileState) (i : ℕ) → TakesAName s (unlinked s i)
taken s i =
    let none : Inode = record { name = None; bytes = [] } in
    let new : Inode = record { name = None; bytes = (file_at s i).bytes } in
    let there : (file_at (unlinked s i) i).bytes ≡ (file_at s i).bytes = ⊎_elim (ap (λ (f : Inode). f.bytes)) (λ q. ap (λ (f : Inode). f.bytes) (q.0 ∙ sym q.1)) (put_or_not s.files i new none) in record {
      file = i;
      others = λ j other. get_or-set_other s.files i j new none other;
      bytes = λ j. elim (cases_eq j i) [
        | inl is ↦ subst (λ (k : ℕ). (file_at (unlinked s i) k).bytes ≡ (file_at s k).bytes) (sym is) there
        | inr other ↦ ap (λ (f : Inode). f.bytes) (get_or-set_other s.files i j new none other)
      ];
      descriptors = refl;
      opens = refl;
      pipes = refl;
    }

pub unlink_takes : (s : FileState) (dir : ℤ) (path : List ℕ) (flags : ℕ) → TakesAName s (unlink_at_of s dir path flags).state
unfolding unlink_at_of
unlink_takes s dir path flags = by (resolved s dir path)
  where
    gone : (file : Option ℕ) → TakesAName s (unlink_file s file).state
    gone None = nothing_taken s
    gone (Some i) = taken s i

    by : (r : Resolved) → TakesAName s (unlink_resolved s r flags).state
    by (Refused error) = nothing_taken s
    by (Named name) = by_test (λ (a : Answer FileState). TakesAName s a.state) (flags == 0) (unlink_file s (file_of s name)) (only s EINVAL) (gone (file_of s name)) (nothing_taken s)
