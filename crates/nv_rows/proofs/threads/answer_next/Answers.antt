use Rattle.std.proofs.Common.{◌≡◌, sym, subst, true}
use Rattle.nv_threads.specs.Threads.{Proc, threads}
use Rattle.nv_threads.proofs.ThreadLaws.{threads_asked}
use Rattle.nv_threads.specs.declared.turns.Want.TheVariants.{Any}
use Rattle.nv_rows.proofs.threads.answer_next.Goals as goal

pub pending-call-requires : goal.pending-call-requires
pending-call-requires c = subst (λ (p : Proc). threads.pending p c.in-Asked.tid ≡ true) (sym c.in-Asked.ensures.after) (threads_asked c.args.process.now Any c.in-Asked.tid (sym c.in-Asked.ensures.came))

pub answer-requires-clause-pending : goal.answer-requires-clause-pending
answer-requires-clause-pending c = subst (λ (p : Proc). threads.pending p c.in-Asked.tid ≡ true) (sym c.in-Asked.ensures.after) (threads_asked c.args.process.now Any c.in-Asked.tid (sym c.in-Asked.ensures.came))

pub answer-requires-then-nr-eq-WRITE-clause-pending : goal.answer-requires-then-nr-eq-WRITE-clause-pending
answer-requires-then-nr-eq-WRITE-clause-pending c = subst (λ (p : Proc). threads.pending p c.in-Asked.tid ≡ true) (sym c.in-Asked.ensures.after) (threads_asked c.args.process.now Any c.in-Asked.tid (sym c.in-Asked.ensures.came))

pub answer-requires-2-clause-pending : goal.answer-requires-2-clause-pending
answer-requires-2-clause-pending c = subst (λ (p : Proc). threads.pending p c.in-Asked.tid ≡ true) (sym c.in-Asked.ensures.after) (threads_asked c.args.process.now Any c.in-Asked.tid (sym c.in-Asked.ensures.came))
