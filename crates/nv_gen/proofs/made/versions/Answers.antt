use Rattle.std.proofs.Common.{ap, sym, ◌∙◌, map, arith}
use Rattle.std.proofs.lemmas.Grind.{common_steps}
use Rattle.nv_gen.specs.Measures.{file_read_as}
use Rattle.nv_gen.proofs.Appending.{accepted-none, versions-next}
use Rattle.nv_gen.proofs.made.versions.Goals as goal

pub loop-index-init : goal.loop-index-init
loop-index-init c = record { programs = ap (map file_read_as) c.new-files.ensures.items ∙ sym (accepted-none _); short = grind (arith, common_steps) }

pub loop-index-preserved : goal.loop-index-preserved
loop-index-preserved c = record {
  programs = versions-next _ _ _ _ _ c.loop-index.invariant.programs c.in_ok-version.ensures.program c.in_ok-push.ensures.items;
  short = grind (arith, common_steps, c.in_ok-push.ensures.items, c.in_ok-version.ensures.short);
}
