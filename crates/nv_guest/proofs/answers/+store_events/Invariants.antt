use Rattle.nv_guest.proofs.answers.+store_events.Given as goal

abbrev pub decreases-store_events : goal.decreases-store_events
decreases-store_events l = l.count
