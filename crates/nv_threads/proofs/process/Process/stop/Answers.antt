use Rattle.std.proofs.Common.{◌≡◌, sym, subst, true}
use Rattle.std.specs.Prelude.{is_some}
use Rattle.nv_threads.specs.Threads.{Proc, state_at}
use Rattle.nv_threads.proofs.Keeping.{turn_lives}
use Rattle.nv_threads.proofs.process.Process.stop.Goals as goal

pub fault-requires : goal.fault-requires
fault-requires c = subst (λ (p : Proc). is_some (state_at p.tasks p.turn) ≡ true) (sym c.leave_ended.ensures) (turn_lives c.args.self.now c.requires)
