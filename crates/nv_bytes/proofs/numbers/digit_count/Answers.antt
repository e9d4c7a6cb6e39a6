use Rattle.std.proofs.Common.{arith}
use Rattle.nv_bytes.proofs.Digits.{length-decimal, length-decimal_step, length-decimal_digit}
use Rattle.nv_bytes.proofs.numbers.digit_count.Goals as goal

pub overflow_add-count : goal.overflow_add-count
overflow_add-count c = omega (arith, length-decimal c.args.value (omega arith))

pub loop-rest-preserved : goal.loop-rest-preserved
loop-rest-preserved c = omega (arith, length-decimal_step c.loop-rest.rest (omega arith) (omega arith))

pub returns-clause-count : goal.returns-clause-count
returns-clause-count c = omega (arith, length-decimal_digit c.loop-rest.rest (omega arith))

pub returns-clause-most : goal.returns-clause-most
returns-clause-most c = omega (arith, length-decimal c.args.value (omega arith), length-decimal_digit c.loop-rest.rest (omega arith))
