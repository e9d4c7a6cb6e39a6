use Rattle.nv_arriving.proofs.guests.GuestSide.+look_in_list.Given as goal

abbrev pub decreases-look_in_list : goal.decreases-look_in_list
decreases-look_in_list l = l.left
