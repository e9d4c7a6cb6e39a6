-- The account of versions that ended beside each other, from what each tells of its own spans.
use Rattle.std.proofs.Common.{◌≡◌, sym, ap, subst, refl, ℕ, suc, ◌+◌, ◌<◌, ◌≤◌, List, [], ◌∷◌, length, map, Option, None, arith}
use Rattle.nv_calls.specs.Calls.{Entry}
use Rattle.nv_calls.specs.Logs.{Start}
use Rattle.nv_threads.specs.Behaviours.{Behaviour, IsProcess}
use Rattle.nv_replay.specs.Follow.{Judge}
use Rattle.nv_replay.specs.declared.standing.Standing.{Standing}
use Rattle.nv_replay.specs.Monitor.{Run, part, numbers, begun, lines_of, sequence}
use Rattle.nv_workers.proofs.Stations.{Tile}
use Rattle.nv_replay.proofs.Numbers.{map_at}
use Rattle.nv_workers.proofs.Gathering.{gathered}
use Rattle.nv_workers.proofs.Opening.{Opens, Parts, reads, seating}

module _ {P : Type 0} (g : Behaviour P) (laws : IsProcess g) (judges : ℕ → Judge) (start : Start) (most : ℕ) (cuts : ℕ → Option ℕ) (hands : List ℕ)
    (h : List Entry) (spans : ℕ → List (ℕ × ℕ)) (total : ℕ) (who : ℕ → ℕ) (tells : ℕ → ℕ → Option Standing) where
  first_whos : (ps : List P) (k : ℕ) → ((j : ℕ) → k ≤ j → j < k + length ps → who j ≡ j) → numbers k ps ≡ seating g judges start most cuts hands h spans total who tells k (length ps)
  first_whos [] k f = refl
  first_whos (p ∷ ps) k f = λ i. sym (f k (omega arith) (omega arith)) i ∷ first_whos ps (k + 1) (λ j a b. f j (omega arith) (omega arith)) i

  map_length : (ps : List P) → length (map part ps) ≡ length ps
  map_length [] = refl
  map_length (p ∷ ps) = ap suc (map_length ps)

  -- what the versions come to
  pub record Account (ps : List P) : Type 0 where
    pub last : Run P
    pub told : record { log = h; lines = lines_of g judges start most cuts hands h 0 last.parts } ≡ sequence g judges start most cuts hands ps
    pub parts : Parts g judges start most cuts hands h spans total who tells ps last total

  -- the first stations are the versions', in order; each that hands over opens the next; the spans tile the log
  pub workers : (ps : List P) → ((k : ℕ) → k < length ps → who k ≡ k) → ((i : ℕ) → tells 0 i ≡ None) → Opens g judges start most cuts hands h spans total who tells ps total 0 (length ps)
      → Tile spans 0 total 0 (length h) → Account ps
  workers ps first none o t =
      let s : Parts g judges start most cuts hands h spans total who tells ps (begun ps) 0 = record { same = map_length ps; each = λ i p e. (part p, map_at part ps i p e, refl, refl, sym (none i)) } in
      let r = reads g judges start most cuts hands h spans total who tells ps total 0 (length ps) (begun ps) h refl s (first_whos ps 0 (λ j a b. first j (omega arith))) o t in record {
        last = r.last;
        told = gathered g laws judges start most cuts hands h spans total ps r.last r.seats t;
        parts = subst (λ (x : ℕ). Parts g judges start most cuts hands h spans total who tells ps r.last x) (let e : 0 + total ≡ total = omega arith in e) r.parts;
      }
