use Rattle.std.proofs.Common.{◌≡◌, ◌+◌, ◌∙◌, sym, length, drop, arith}
use Rattle.nv_guest.specs.Block.{strings}
use Rattle.nv_guest.specs.Load.{texts_of}
use Rattle.nv_guest.proofs.Strings.{size_after, too_large, length-items}
use Rattle.nv_guest.proofs.block.strings_size.Goals as goal

pub returns-then-more-clause-size : goal.returns-then-more-clause-size
returns-then-more-clause-size c =
    let xs = c.args.arguments.now in
    let size : c.len-more.result ≡ length c.text-item.result.items = c.len-more.ensures ∙ sym (length-items c.text-item.result) in
    let all : c.loop-text.size + (c.len-more.result + 1) + length (strings (drop (c.loop-text.text-index + 1) (texts_of xs))) ≡ 0 + length (strings (texts_of xs)) =
    size_after xs c.loop-text.text-index c.text-item.result c.len-more.result 0 c.loop-text.size (omega arith) c.text-item.is size (omega (arith, c.loop-text.invariant.place)) in
    too_large (length (strings (texts_of xs))) (omega (arith, all, c.if-more.true))

pub returns-then-size-gt-STACK-clause-size : goal.returns-then-size-gt-STACK-clause-size
returns-then-size-gt-STACK-clause-size c =
    let xs = c.args.arguments.now in
    let size : c.len-more.result ≡ length c.text-item.result.items = c.len-more.ensures ∙ sym (length-items c.text-item.result) in
    let all : c.loop-text.size + (c.len-more.result + 1) + length (strings (drop (c.loop-text.text-index + 1) (texts_of xs))) ≡ 0 + length (strings (texts_of xs)) =
    size_after xs c.loop-text.text-index c.text-item.result c.len-more.result 0 c.loop-text.size (omega arith) c.text-item.is size (omega (arith, c.loop-text.invariant.place)) in
    too_large (length (strings (texts_of xs))) (omega (arith, all, c.if-size-gt-STACK.true))

pub loop-text-preserved : goal.loop-text-preserved
loop-text-preserved c =
    let xs = c.args.arguments.now in
    let size : c.len-more.result ≡ length c.text-item.result.items = c.len-more.ensures ∙ sym (length-items c.text-item.result) in
    let all : c.loop-text.size + (c.len-more.result + 1) + length (strings (drop (c.loop-text.text-index + 1) (texts_of xs))) ≡ 0 + length (strings (texts_of xs)) =
    size_after xs c.loop-text.text-index c.text-item.result c.len-more.result 0 c.loop-text.size (omega arith) c.text-item.is size (omega (arith, c.loop-text.invariant.place)) in
    record { most = omega (arith, c.if-size-gt-STACK.false); count = omega (arith, c.loop-text.invariant.count); place = omega (arith, all) }
