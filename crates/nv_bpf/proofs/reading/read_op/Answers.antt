use Rattle.std.proofs.Common.{sym, ◌∙◌}
use Rattle.nv_bpf.proofs.OpTexts.{last_field, more_fields, op_of-one, op_of-two, op_of-three, op_of-four, op_of-five}
use Rattle.nv_bpf.proofs.reading.read_op.Goals as goal

pub returns-in_err-rest : goal.returns-in_err-rest
returns-in_err-rest c =
    let first = last_field c.args.line.now c.split_field.result c.split_field.ensures.fields c.in_err-rest.was in
    c.from_residual.ensures ∙ sym (op_of-one c.args.line.now _ first)

pub returns-in_err-rest-2 : goal.returns-in_err-rest-2
returns-in_err-rest-2 c =
    let first = more_fields c.args.line.now c.split_field.result _ c.split_field.ensures.fields c.in_ok-rest.was in
    let second = last_field _ c.split_field-2.result c.split_field-2.ensures.fields c.in_err-rest-2.was in
    c.from_residual-in_err-rest-2.ensures ∙ sym (op_of-two c.args.line.now _ _ _ first second)

pub returns-in_err-rest-3 : goal.returns-in_err-rest-3
returns-in_err-rest-3 c =
    let first = more_fields c.args.line.now c.split_field.result _ c.split_field.ensures.fields c.in_ok-rest.was in
    let second = more_fields _ c.split_field-2.result _ c.split_field-2.ensures.fields c.in_ok-rest-2.was in
    let third = last_field _ c.split_field-3.result c.split_field-3.ensures.fields c.in_err-rest-3.was in
    c.from_residual-in_err-rest-3.ensures ∙ sym (op_of-three c.args.line.now _ _ _ _ _ first second third)

pub returns-in-Some : goal.returns-in-Some
returns-in-Some c =
    let first = more_fields c.args.line.now c.split_field.result _ c.split_field.ensures.fields c.in_ok-rest.was in
    let second = more_fields _ c.split_field-2.result _ c.split_field-2.ensures.fields c.in_ok-rest-2.was in
    let third = more_fields _ c.split_field-3.result _ c.split_field-3.ensures.fields c.in_ok-rest-3.was in
    let fourth = more_fields _ c.split_field-4.result _ c.split_field-4.ensures.fields c.in-Some.is in
    sym (op_of-five c.args.line.now _ _ _ _ _ _ _ _ first second third fourth)

pub returns-in-None : goal.returns-in-None
returns-in-None c =
    let first = more_fields c.args.line.now c.split_field.result _ c.split_field.ensures.fields c.in_ok-rest.was in
    let second = more_fields _ c.split_field-2.result _ c.split_field-2.ensures.fields c.in_ok-rest-2.was in
    let third = more_fields _ c.split_field-3.result _ c.split_field-3.ensures.fields c.in_ok-rest-3.was in
    let fourth = last_field _ c.split_field-4.result c.split_field-4.ensures.fields c.in-None.is in
    c.op_of_texts.ensures ∙ sym (op_of-four c.args.line.now _ _ _ _ _ _ _ first second third fourth)
