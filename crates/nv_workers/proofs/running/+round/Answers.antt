use Rattle.std.proofs.Common.{sym, subst, ◌∷◌}
use Rattle.nv_workers.specs.declared.worker.Turn.{Turn}
use Rattle.nv_workers.specs.inner.Rounds.{AllHadTurns, GoneIf}
use Rattle.nv_workers.proofs.Rotating.{gone_both}
use Rattle.nv_workers.proofs.running.+round.Goals as goal

pub returns-clause-gone : goal.returns-clause-gone
returns-clause-gone g t c =
    subst (λ (x : Turn). GoneIf x (c.turn-own.new.self ∷ c.round-rest.new.workers)) (sym c.both.ensures)
    (gone_both c.turn-own.result c.round-rest.result c.turn-own.new.self c.round-rest.new.workers c.turn-own.ensures.last c.round-rest.ensures.gone)

pub returns-clause-turns : goal.returns-clause-turns
returns-clause-turns g t c =
    let e = c.turn-own.ensures in
    subst (λ vs. AllHadTurns c.args.room.now vs (c.turn-own.new.self ∷ c.round-rest.new.workers)) (sym c.in-Some.ensures.cases.0)
    ((c.turn-own.result, record { tells = e.tells; falls = e.falls; steps = e.steps }), c.round-rest.ensures.turns)
