-- The versions of a made run, from its files.
use Rattle.std.proofs.Common.{◌≡◌, ◌∙◌, sym, ap, ap₂, subst, refl, ℕ, zero, suc, ◌+◌, ◌<◌, ◌≤◌, List, [], ◌∷◌, ◌++◌, length, take, map, false, Option, Some, Vec, Global, get_or, arith}
use Rattle.std.specs.Prelude.{slice_get, slice_index_or, All}
use Rattle.std.specs.List.{list_any}
use Rattle.std.proofs.lemmas.List.{length-map, take_more}
use Rattle.std.proofs.lemmas.Option.{same_Some}
use Rattle.nv_elf.specs.Elf.{Executable, Accepted}
use Rattle.nv_gen.specs.Made.{numbers_of}
use Rattle.nv_gen.specs.Measures.{file_read_as}
use Rattle.nv_gen.specs.Programs.{programs}
use Rattle.nv_gen.specs.Texts.{bare}
use Rattle.nv_gen.specs.Versions.{program_at, FitsTheDefault}
use Rattle.nv_gen.proofs.Listing.{programs_listed, programs_counted}
use Rattle.nv_machine.specs.Guest.{Machine}
use Rattle.nv_bpf.specs.declared.op.Op.{Op}
use Rattle.nv_driver.specs.Words.{Limits, usual}
use Rattle.nv_script.specs.Scripts.{Setup}
use Rattle.nv_threads.specs.Threads.{Proc}
use Rattle.nv_replay.specs.Lead.{is_memory}
use Rattle.nv_replay.specs.Sequence.{Account}
use Rattle.nv_replay.specs.Version.{Running, process_of}
use Rattle.nv_driver.specs.Account.{IsRunOf, process_begun}
use Rattle.nv_driver.specs.Prepared.{VersionOf, Loads, of_elf, of_loaded, version_from}
use Rattle.nv_driver.specs.Generated.{IsMadeRun}
use Rattle.nv_driver.specs.inner.Generated.{Runs, IsFrom, AreFrom}
use Rattle.nv_driver.specs.Outcome.{Summed}
use Rattle.nv_driver.specs.Due.{GenOwes}

-- what versions that are from files have
pub record AreMade (setup : Setup) (files : List (Vec ℕ Global)) (versions : List (Running Proc)) : Type 0 where
  pub machines : List Machine
  pub processes : map process_of versions ≡ map (process_begun usual setup) machines
  pub loads : map (of_elf usual setup) (map file_read_as files) ≡ map Loads machines

reads : (setup : Setup) (file : Vec ℕ Global) → version_from usual setup file.items ≡ of_elf usual setup (file_read_as file)
unfolding version_from
reads setup file = refl

pub all_made : (setup : Setup) (files : List (Vec ℕ Global)) (versions : List (Running Proc)) → AreFrom setup files versions → AreMade setup files versions
all_made setup [] [] all = record { machines = []; processes = refl; loads = refl }
all_made setup [] (version ∷ versions) all = absurd all
all_made setup (file ∷ files) [] all = absurd all
all_made setup (file ∷ files) (version ∷ versions) all =
    let r = all_made setup files versions all.1 in
    let machine : Machine = all.0.runs.machine in
    record {
      machines = machine ∷ r.machines;
      processes = ap₂ (λ (p : Proc) (ps : List Proc). p ∷ ps) all.0.begins r.processes;
      loads = ap₂ (λ (v : VersionOf) (vs : List VersionOf). v ∷ vs) (sym (reads setup file) ∙ all.0.runs.loads) r.loads;
    }

pub length-made : (setup : Setup) (files : List (Vec ℕ Global)) (versions : List (Running Proc)) → AreFrom setup files versions → length versions ≡ length files
length-made setup [] [] all = refl
length-made setup [] (version ∷ versions) all = absurd all
length-made setup (file ∷ files) [] all = absurd all
length-made setup (file ∷ files) (version ∷ versions) all = ap suc (length-made setup files versions all.1)

pub from_more : (setup : Setup) (files : List (Vec ℕ Global)) (versions : List (Running Proc)) (file : Vec ℕ Global) (version : Running Proc) → AreFrom setup files versions → IsFrom setup file.items version
    → AreFrom setup (files ++ file ∷ []) (versions ++ version ∷ [])
from_more setup [] [] file version all h = (h, tt)
from_more setup [] (v ∷ versions) file version all h = absurd all
from_more setup (f ∷ files) [] file version all h = absurd all
from_more setup (f ∷ files) (v ∷ versions) file version all h = (all.0, from_more setup files versions file version all.1 h)

-- the files of a number's programs can be loaded
here : (files : List (Vec ℕ Global)) (images : List Executable) (k : ℕ) (d : Vec ℕ Global) → map file_read_as files ≡ map Accepted images → k < length files
    → (image : Executable) × (slice_get images k ≡ Some image) × (file_read_as (slice_index_or files k d) ≡ Accepted image)
here [] images k d e small = absurd (omega arith)
here (file ∷ files) [] k d e small = cc
here (file ∷ files) (image ∷ images) zero d e small = (image, refl, cc)
here (file ∷ files) (image ∷ images) (suc k) d e small = here files images k d (cc) (omega arith)

pub can_run : (n : ℕ) (files : List (Vec ℕ Global)) → ((version : ℕ) → version < (numbers_of n).versions → FitsTheDefault n version) → map file_read_as files ≡ map Accepted (programs n)
    → All (λ file. Runs bare file.items) files
can_run n files fits e k d small =
    let h = here files (programs n) k d e small in
    let count : length files ≡ (numbers_of n).versions = sym (length-map files file_read_as) ∙ ap length e ∙ length-map (programs n) Accepted ∙ programs_counted n in
    let inside : k < (numbers_of n).versions = omega arith in
    let f = fits k inside in
    let same : h.0 ≡ program_at n k = same_Some h.0 (program_at n k) (sym h.1 ∙ programs_listed n k inside) in
    record {
      machine = f.0;
      loads = reads bare (slice_index_or files k d) ∙ ap (of_elf usual bare) (h.2 ∙ ap Accepted same) ∙ ap of_loaded f.1;
    }

-- a number's run has at most four versions
pub few_made : (n : ℕ) (files : List (Vec ℕ Global)) → map file_read_as files ≡ map Accepted (programs n) → length files ≤ 8
unfolding numbers_of
few_made n files e =
    let count : length files ≡ (numbers_of n).versions = sym (length-map files file_read_as) ∙ ap length e ∙ length-map (programs n) Accepted ∙ programs_counted n in
    omega arith

-- one version more is made
pub made_next : (setup : Setup) (files : List (Vec ℕ Global)) (vs vs' : List (Running Proc)) (k : ℕ) (file : Vec ℕ Global) (v : Running Proc)
    → vs' ≡ vs ++ v ∷ [] → k < length files → file ≡ get_or files k file → AreFrom setup (take k files) vs → IsFrom setup file.items v → AreFrom setup (take (k + 1) files) vs'
made_next setup files vs vs' k file v longer small at all h =
    let next : take (k + 1) files ≡ take k files ++ file ∷ [] = take_more files k file small ∙ ap (λ (f : Vec ℕ Global). take k files ++ f ∷ []) (sym at) in
    subst (λ (fs : List (Vec ℕ Global)). AreFrom setup fs vs') (sym next) (subst (λ (xs : List (Running Proc)). AreFrom setup (take k files ++ file ∷ []) xs) (sym longer) (from_more setup (take k files) vs file v all h))

-- what the run of a number owes, from what it came to
pub made_owes : (n : ℕ) (setup : Setup) (filter rules : Option (List Op)) (machines : List Machine) (limits : Limits) (account : Account) → IsMadeRun n setup filter machines
    → rules ≡ filter → limits ≡ usual → IsRunOf false limits setup rules machines account → list_any (λ line. is_memory line.fate) account.lines ≡ false → GenOwes n (Summed n setup account)
made_owes n setup filter rules machines limits account made r l run never = record {
  setup = setup;
  filter = filter;
  machines = machines;
  made = made;
  account = account;
  is_run = subst (λ (x : Limits). IsRunOf false x setup filter machines account) l (subst (λ (rs : Option (List Op)). IsRunOf false limits setup rs machines account) r run);
  never_starved = never;
  comes = refl;
}
