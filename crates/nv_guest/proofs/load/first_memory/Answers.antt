use Rattle.std.proofs.Common.{◌≡◌, ◌-◌, List, All, ap, sym, subst, ◌∙◌, map, length}
use Rattle.std.specs.Prelude.{IsTrue}
use Rattle.std.specs.List.{list_any}
use Rattle.nv_elf.specs.Elf.{segment_range, executable_of}
use Rattle.nv_elf.specs.declared.program.Segment.{Segment}
use Rattle.nv_memory.specs.declared.region.Region.{Region}
use Rattle.nv_memory.specs.Region.{lies_in}
use Rattle.nv_memory.specs.Image.{Image}
use Rattle.nv_guest.specs.Load.{first_beyond, regions_of}
use Rattle.nv_guest.proofs.Placed.{program_is_placed, regions_lie, segments_end_by, segments_lie}
use Rattle.nv_guest.proofs.load.first_memory.Goals as goal

pub all_regions-requires-clause-below : goal.all_regions-requires-clause-below
all_regions-requires-clause-below c =
    segments_end_by c.deref.result.now (c.args.size - 65536) (ap (λ (s : List Segment). first_beyond (map segment_range s) (c.args.size - 65536) 0) c.deref.ensures.value ∙ c.requires.below)

pub make-requires : goal.make-requires
make-requires c =
    rw (c.in_ok-regions.ensures, c.deref.ensures.value)
    (regions_lie (executable_of c.args.program.now) c.args.size c.requires.size (program_is_placed (executable_of c.args.program.now) c.requires.program) c.requires.below)

pub fill_segments-requires : goal.fill_segments-requires
fill_segments-requires c =
    let segments = c.deref-2.result.now in
    let same : c.in_ok-memory.memory.regions ≡ regions_of (map segment_range segments) c.args.size =
    ap (λ (m : Image). m.regions) c.in_ok-memory.ensures ∙ c.in_ok-regions.ensures
    ∙ ap (λ (s : List Segment). regions_of (map segment_range s) c.args.size) (c.deref.ensures.value ∙ sym c.deref-2.ensures.value) in
    let Lie : List Region → Type 0 = λ rs. All (λ s. IsTrue (list_any (lies_in s.address (length s.bytes.items)) rs)) segments in
    subst Lie (sym same) (segments_lie segments c.args.size)
