use Rattle.std.proofs.Common.{◌≡◌, ◌∙◌, ◌++◌, [], rules, sym, ap, append_assoc, append-nil}
use Rattle.std.specs.Slice.Iter.{chunks_rest}
use Rattle.std.proofs.lemmas.List.{nil_from_length}
use Rattle.std.proofs.lemmas.List.Concat.{flat_map-append}
use Rattle.nv_outside.proofs.Writing.{puts-none, puts-is, puts-then, puts-failed}
use Rattle.nv_bytes.specs.Numbers.{hex_of, hex_pair_of}
use Rattle.nv_report.proofs.numbers.put_hex.Goals as goal

pub loop-part-init : goal.loop-part-init
loop-part-init g c = (search rules, tt, search rules, [], search rules, puts-none _ _)

pub loop-part-preserved : goal.loop-part-preserved
loop-part-preserved g c =
    let part = c.in-Some.part.now in
    let steps = c.in-Some.ensures.steps in
    let so_far = c.loop-part.invariant in
    let done = so_far.3 in (
      search rules,
      tt,
      steps.0 ∙ so_far.2,
      done ++ part,
      append_assoc done part _ ∙ ap (λ t. done ++ t) (sym steps.1.0) ∙ so_far.4,
      puts-is (sym (flat_map-append hex_pair_of done part)) (puts-then so_far.5 (c.in_ok-put_part.ensures)),
    )

pub returns-in_err-put_part : goal.returns-in_err-put_part
returns-in_err-put_part g c =
    let part = c.in-Some.part.now in
    let rest = chunks_rest c.next.new.self in
    let so_far = c.loop-part.invariant in
    let done = so_far.3 in
    let whole : (hex_of done ++ hex_of part) ++ hex_of rest ≡ hex_of c.args.bytes.now =
    ap (λ t. t ++ hex_of rest) (sym (flat_map-append hex_pair_of done part)) ∙ sym (flat_map-append hex_pair_of (done ++ part) rest)
    ∙ ap hex_of (append_assoc done part rest ∙ ap (λ t. done ++ t) (sym c.in-Some.ensures.steps.1.0) ∙ so_far.4) in
    puts-is whole (puts-failed (hex_of rest) c.from_residual.ensures.0 (puts-then so_far.5 (c.in_err-put_part.ensures)))

pub returns : goal.returns
returns g c =
    let so_far = c.loop-part.invariant in
    let none = nil_from_length _ c.in-None.ensures.steps.1.0 in
    puts-is (ap hex_of (sym (append-nil so_far.3) ∙ ap (λ t. so_far.3 ++ t) (sym none) ∙ so_far.4)) so_far.5
