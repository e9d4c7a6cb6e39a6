-- The chunks of more payloads.
use Rattle.std.proofs.Common.{◌≡◌, ℕ, ◌+◌, ◌≤◌, List, [], ◌∷◌, ◌++◌, length, ap}
use Rattle.std.proofs.lemmas.List.{take-append-le}
use Rattle.std.proofs.Math.Seq.{take-length}
use Rattle.std.proofs.lemmas.List.Sums.{sum_by_push, sum_by-take-drop}
use Rattle.nv_pool.specs.Chunks.{chunks_of, chunks_in, chunks_of_first, chunks_of_rest}

pub chunks_push : (sizes : List ℕ) (b : ℕ) → chunks_in (sizes ++ b ∷ []) ≡ chunks_in sizes + chunks_of b
chunks_push sizes b = sum_by_push chunks_of sizes b

pub chunks_before_push : (sizes : List ℕ) (b i : ℕ) → i ≤ length sizes → chunks_of_first (sizes ++ b ∷ []) i ≡ chunks_of_first sizes i
chunks_before_push sizes b i h = ap chunks_in (take-append-le i sizes (b ∷ []) h)

pub chunks_before_all : (sizes : List ℕ) → chunks_of_first sizes (length sizes) ≡ chunks_in sizes
chunks_before_all sizes = ap chunks_in (take-length sizes)

pub chunks_split : (sizes : List ℕ) (i : ℕ) → chunks_of_first sizes i + chunks_of_rest sizes i ≡ chunks_in sizes
chunks_split sizes i = sum_by-take-drop chunks_of sizes i
