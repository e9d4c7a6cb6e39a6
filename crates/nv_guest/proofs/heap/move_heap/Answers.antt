use Rattle.std.proofs.Common.{◌≡◌, ◌∙◌, sym, subst, ℕ, List, length, arith}
use Rattle.nv_memory.specs.declared.region.Region.{Region}
use Rattle.nv_memory.specs.Image.{Image}
use Rattle.nv_guest.specs.inner.Heap.{HasHeap}
use Rattle.nv_guest.proofs.Heaps.{are_moved, start_is_last, heap_moved, moved_is}
use Rattle.nv_guest.proofs.heap.move_heap.Goals as goal

pub resize-requires-clause-ordered : goal.resize-requires-clause-ordered
resize-requires-clause-ordered c =
    let begins = start_is_last c.args.memory.now.regions c.args.heap.now.place c.requires.place in
    let start = c.requires.start in
    omega (arith, begins, start, c.if-address-heap.false)

pub resize-requires-clause-fits : goal.resize-requires-clause-fits
resize-requires-clause-fits c =
    let m = c.args.memory.now in
    let heap = c.args.heap.now in
    let limit = c.requires.limit in
    are_moved (length m.bytes) m.regions heap.place c.args.address heap.start heap.limit c.requires.place c.requires.are c.requires.clear c.requires.start
    (omega (arith, c.if-address-heap-2.false)) (omega (arith, limit))

-- the memory after the call
memory_is : (m : Image) (bytes : List ℕ) (regions : List Region) → m.bytes ≡ bytes → m.regions ≡ regions → m ≡ record { bytes = bytes; regions = regions }
memory_is m bytes regions e f = λ i. record { bytes = e i; regions = f i }

pub returns-clause-memory : goal.returns-clause-memory
returns-clause-memory c =
    memory_is _ _ _ c.resize.ensures.bytes c.resize.ensures.regions
    ∙ moved_is c.args.memory.now c.args.heap.now c.args.address c.requires (omega (arith, c.if-address-heap.false)) (omega (arith, c.if-address-heap-2.false))

pub returns-clause-heap : goal.returns-clause-heap
returns-clause-heap c =
    let heap = c.args.heap.now in
    subst (λ (m : Image). HasHeap m record { place = heap.place; start = heap.start; end = c.args.address; limit = heap.limit })
    (sym (memory_is _ _ _ c.resize.ensures.bytes c.resize.ensures.regions))
    (heap_moved c.args.memory.now heap c.args.address c.requires (omega (arith, c.if-address-heap-2.false)))
