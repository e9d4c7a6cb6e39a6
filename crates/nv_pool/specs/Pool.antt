-- What a pool keeps of the payloads that were added.
use Rattle.std.specs.Prelude.{◌≡◌, ℕ, ◌+◌, ◌%◌, ◌<◌, ◌≤◌, List, length, slice_index}
use Rattle.nv_pool.specs.declared.pool.Pool.{Pool}
use Rattle.nv_pool.specs.Chunks.{chunks_in, chunks_of_first}

abbrev pub chunks_of_pool : Pool → ℕ
chunks_of_pool p = p.chunks

abbrev pub places_of : Pool → ℕ
places_of p = p.places

abbrev pub count_of : Pool → ℕ
count_of p = p.count

-- payloads of so many bytes were added, in this order
pub record Holds (p : Pool) (sizes : List ℕ) : Type 0 where
  pub count : p.count ≡ length sizes
  pub total : p.total ≡ chunks_in sizes
  pub starts : (i : ℕ) → i < length sizes → length sizes ≤ i + p.places → slice_index p.starts.items (i % p.places) ≡ chunks_of_first sizes i
