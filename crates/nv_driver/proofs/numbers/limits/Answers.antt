use Rattle.nv_driver.proofs.Lines.{no_ring, no_memory, no_allowance, no_calls, no_threads, all_limits}
use Rattle.nv_driver.proofs.numbers.limits.Goals as goal

pub returns-in_err-ring-clause-limits : goal.returns-in_err-ring-clause-limits
returns-in_err-ring-clause-limits c = rw c.from_residual.ensures (no_ring _ _ c.in_err-ring.ensures.number)

pub returns-in_err-memory-clause-limits : goal.returns-in_err-memory-clause-limits
returns-in_err-memory-clause-limits c = rw c.from_residual-in_err-memory.ensures (no_memory _ _ _ c.in_ok-ring.ensures.number c.in_err-memory.ensures.number)

pub returns-in_err-allowance-clause-limits : goal.returns-in_err-allowance-clause-limits
returns-in_err-allowance-clause-limits c =
    rw c.from_residual-in_err-allowance.ensures (no_allowance _ _ _ c.in_ok-ring.ensures.number _ c.in_ok-memory.ensures.number c.in_err-allowance.ensures)

pub returns-in_err-calls-clause-limits : goal.returns-in_err-calls-clause-limits
returns-in_err-calls-clause-limits c =
    rw c.from_residual-in_err-calls.ensures
    (no_calls _ _ _ c.in_ok-ring.ensures.number _ c.in_ok-memory.ensures.number _ c.in_ok-allowance.ensures c.in_err-calls.ensures.number)

pub returns-in_err-threads-clause-limits : goal.returns-in_err-threads-clause-limits
returns-in_err-threads-clause-limits c =
    rw c.from_residual-in_err-threads.ensures
    (no_threads _ _ _ c.in_ok-ring.ensures.number _ c.in_ok-memory.ensures.number _ c.in_ok-allowance.ensures _ c.in_ok-calls.ensures.number c.in_err-threads.ensures.number)

pub returns-clause-limits : goal.returns-clause-limits
returns-clause-limits c = all_limits _ _ _ c.in_ok-ring.ensures.number _ c.in_ok-memory.ensures.number _ c.in_ok-allowance.ensures _ c.in_ok-calls.ensures.number _ c.in_ok-threads.ensures.number
