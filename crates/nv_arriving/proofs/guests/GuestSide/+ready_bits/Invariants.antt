use Rattle.nv_arriving.proofs.guests.GuestSide.+ready_bits.Given as goal

abbrev pub decreases-ready_bits : goal.decreases-ready_bits
decreases-ready_bits l = l.left
