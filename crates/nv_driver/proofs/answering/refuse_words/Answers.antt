use Rattle.std.proofs.Common.{sym, subst}
use Rattle.nv_driver.specs.declared.asked.LineFault.{LineFault}
use Rattle.nv_driver.specs.Due.{Says}
use Rattle.nv_driver.specs.Outcome.{text_of, outcome_status}
use Rattle.nv_driver.specs.Tasks.{fault_outcome}
use Rattle.nv_driver.proofs.answering.refuse_words.Goals as goal

pub returns-in-Usage : goal.returns-in-Usage
returns-in-Usage g c = subst (λ (f : LineFault). Says (text_of (fault_outcome f)) (outcome_status (fault_outcome f)) (g.S.Sink.told c.args.sink.now) (g.S.Sink.faults c.args.sink.now) c.put_line.result
    (g.S.Sink.told c.put_line.new.sink) (g.S.Sink.faults c.put_line.new.sink)) (sym c.in-Usage.is) c.put_line.ensures

pub returns-in-Memory : goal.returns-in-Memory
returns-in-Memory g c = subst (λ (f : LineFault). Says (text_of (fault_outcome f)) (outcome_status (fault_outcome f)) (g.S.Sink.told c.args.sink.now) (g.S.Sink.faults c.args.sink.now) c.put_line-in-Memory.result
    (g.S.Sink.told c.put_line-in-Memory.new.sink) (g.S.Sink.faults c.put_line-in-Memory.new.sink)) (sym c.in-Memory.is) c.put_line-in-Memory.ensures
