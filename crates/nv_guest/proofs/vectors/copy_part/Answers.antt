use Rattle.std.proofs.Common.{length, sym, ap, ◌∙◌}
use Rattle.nv_guest.proofs.Shaped.{length-bytes_at}
use Rattle.nv_guest.proofs.vectors.copy_part.Goals as goal

pub copy_from_slice-requires : goal.copy_from_slice-requires
copy_from_slice-requires c = c.requires.size ∙ sym (ap length c.in-Ok.ensures.ok ∙ length-bytes_at _ c.args.part.address c.args.part.size)
