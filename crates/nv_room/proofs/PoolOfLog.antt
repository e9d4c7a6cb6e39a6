-- What a pool that was told the sizes of a log's events says of its chunks.
use Rattle.std.proofs.Common.{◌≡◌, ℕ, ◌+◌, ◌-◌, ◌%◌, ◌<◌, ◌≤◌, List, [], ◌∷◌, length, take, sym, ap, ◌∙◌, refl, arith}
use Rattle.std.specs.Prelude.{sum_by}
use Rattle.std.proofs.lemmas.List.{take-map, length-map}
use Rattle.std.proofs.lemmas.List.Sums.{sum_by-cons}
use Rattle.nv_pool.specs.Chunks as pool
use Rattle.nv_pool.specs.Chunks.{chunks_of, first_chunk}
use Rattle.nv_pool.proofs.ChunkLaws.{chunks_split}
use Rattle.nv_room.specs.Logs.{Log}
use Rattle.nv_room.specs.Placement.{chunks, chunks_before, chunks_from, pool_chunks, Fits, payload_size, sizes}
use Rattle.nv_room.proofs.PlacementLaws.{before_and_from, before_all}

pub chunks_are : (e : List ℕ) → chunks e ≡ chunks_of (payload_size e)
chunks_are e = let k : ℕ = length e - 6 in omega arith

sum_same : (log : Log) → sum_by chunks log ≡ sum_by chunks_of (sizes log)
sum_same [] = refl
sum_same (e ∷ es) =
    let one = chunks_are e in
    let rest = sum_same es in
    let a = sum_by-cons chunks e es in
    let b = sum_by-cons chunks_of (payload_size e) (sizes es) in
    omega arith

pub before_is : (log : Log) (i : ℕ) → chunks_before log i ≡ pool.chunks_of_first (sizes log) i
unfolding chunks_before
before_is log i = sum_same (take i log) ∙ ap (sum_by chunks_of) (sym (take-map payload_size i log))

pub from_is : (log : Log) (i : ℕ) → chunks_from log i ≡ pool.chunks_of_rest (sizes log) i
from_is log i = let a = before_and_from log i in let b = chunks_split (sizes log) i in let c = before_is log i in let d = sum_same log in let t = before_all log in omega arith

-- the first chunk of the event after the log
pub first_is : (c : ℕ) (log : Log) → first_chunk (pool_chunks c) (sizes log) (length (sizes log)) ≡ chunks_before log (length log) % pool_chunks c
first_is c log = ap (λ (z : ℕ). pool.chunks_of_first (sizes log) z % pool_chunks c) (length-map log payload_size) ∙ ap (λ (z : ℕ). z % pool_chunks c) (sym (before_is log (length log)))

-- of a log that begins with these events
pub before_prefix : (log prefix : Log) (i : ℕ) → take i log ≡ prefix → chunks_before log i ≡ chunks_before prefix (length prefix)
unfolding chunks_before
before_prefix log prefix i is = ap (sum_by chunks) is ∙ sym (before_all prefix)

-- where the largest event fits, each does
pub fits_by_pool : (c : ℕ) (log : Log) (e : List ℕ) (f : ℕ) → length e ≤ 518 → length log < f + c → chunks_from log f + chunks_of 4096 ≤ pool_chunks c → Fits c log e f
fits_by_pool c log e f short window few = record {
  window = window;
  chunks_are_few = let w = few in let k : ℕ = length e - 6 in let small : chunks e ≤ 8 = omega arith in let most : chunks_of 4096 ≡ 8 = refl in omega arith;
}
