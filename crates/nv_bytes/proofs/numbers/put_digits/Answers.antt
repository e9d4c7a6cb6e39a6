use Rattle.std.proofs.Common.{arith, length, length-set, ◌-◌, ◌+◌, ◌/◌, ◌%◌, ◌≡◌, ◌∙◌, refl}
use Rattle.std.specs.Fmt.{decimal}
use Rattle.std.proofs.lemmas.List.{append-nil, drop_all}
use Rattle.nv_bytes.proofs.Digits.{length-decimal_pos, length-decimal_step, length-decimal_digit, digit-written, first-written}
use Rattle.nv_bytes.proofs.numbers.put_digits.Goals as goal

pub overflow_sub-place : goal.overflow_sub-place
overflow_sub-place c = omega (arith, length-decimal_pos c.args.value (omega arith))

pub loop-rest-init : goal.loop-rest-init
loop-rest-init c =
    let some = length-decimal_pos c.args.value (omega arith) in
    let past = drop_all (length c.args.out.now - 1 + 1) c.args.out.now (omega arith) in
    record { text = rw (past, append-nil (decimal c.args.value)) refl; room = omega arith; inside = omega arith; all = c.requires }

pub overflow_sub-place-in-loop-rest : goal.overflow_sub-place-in-loop-rest
overflow_sub-place-in-loop-rest c =
    omega (arith, length-decimal_step c.loop-rest.rest (omega arith) (omega arith), length-decimal_pos (c.loop-rest.rest / 10) (omega arith))

pub loop-rest-preserved : goal.loop-rest-preserved
loop-rest-preserved c =
    let l = c.loop-rest in
    let step = length-decimal_step l.rest (omega arith) (omega arith) in
    let some = length-decimal_pos (l.rest / 10) (omega arith) in
    let same : l.place - 1 + 1 ≡ l.place = omega arith in
    let kept = length-set l.out l.place (48 + l.rest % 10) in
    record {
      text = rw same (digit-written c.args.value l.rest l.place l.out l.invariant.text (omega arith) (omega arith) (omega arith));
      room = omega arith;
      inside = omega arith;
      all = kept ∙ l.invariant.all;
    }

pub returns : goal.returns
returns c =
    let l = c.loop-rest in
    let one = length-decimal_digit l.rest (omega arith) in
    let some = length-decimal_pos c.args.value (omega arith) in
    let first : l.place ≡ 0 = omega arith in
    rw first (first-written c.args.value l.rest l.out (rw first at l.invariant.text) (omega arith) (omega arith))
