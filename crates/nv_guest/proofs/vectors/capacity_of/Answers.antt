use Rattle.std.proofs.Common.{◌≡◌, ◌+◌, ◌-◌, ◌==◌, false, Some, option_map, refl, sym, ap, ◌∙◌, arith}
use Rattle.std.proofs.lemmas.Bool.Decides.{nat_tests}
use Rattle.nv_memory.specs.declared.region.Right.TheVariants.{Write}
use Rattle.nv_guest.specs.Vectors.{parts_at, capacity}
use Rattle.nv_guest.proofs.Walks.{parts-full, parts-all, parts-refused, parts-more, capacity-more}
use Rattle.nv_guest.proofs.vectors.capacity_of.Goals as goal

pub returns-then-left-eq0 : goal.returns-then-left-eq0
returns-then-left-eq0 c =
    let l = c.loop-i in
    let all : c.args.most ≡ (c.args.most - l.left) + 0 = omega arith in
    ap Some all ∙ sym (ap (option_map (λ parts. (c.args.most - l.left) + capacity parts)) (ap (λ n. parts_at c.args.memory.now Write (c.args.count - l._i) n l.at) c.if-left-eq0.true ∙ parts-full c.args.memory.now Write (c.args.count - l._i) l.at))
    ∙ l.invariant.capacity

pub returns-in_err-part : goal.returns-in_err-part
returns-in_err-part c =
    let l = c.loop-i in
    let left : (l.left == 0) ≡ false = grind (arith, nat_tests) in
    c.from_residual.ensures
    ∙ sym (ap (option_map (λ parts. (c.args.most - l.left) + capacity parts)) (parts-refused c.args.memory.now Write (c.args.count - l._i) l.left l.at (omega arith) left (sym c.usable_at.ensures.part ∙ c.in_err-part.was)))
    ∙ l.invariant.capacity

pub loop-i-preserved : goal.loop-i-preserved
loop-i-preserved c =
    let l = c.loop-i in
    let part = c.in_ok-part.part in
    let few = c.in_ok-part.ensures.few in
    let more : (l.left == 0) ≡ false = grind (arith, nat_tests) in
    record {
      capacity = sym (ap (option_map (λ parts. (c.args.most - l.left) + capacity parts))
          (parts-more c.args.memory.now Write (c.args.count - l._i) (c.args.count - (l._i + 1)) l.left (l.left - part.size) l.at (l.at + 8) part (omega arith) (omega arith) more (sym c.in_ok-part.ensures.part) refl refl)
          ∙ capacity-more (c.args.most - l.left) (c.args.most - (l.left - part.size)) part (parts_at c.args.memory.now Write (c.args.count - (l._i + 1)) (l.left - part.size) (l.at + 8)) (omega arith))
          ∙ l.invariant.capacity;
      few = omega arith;
      place = omega arith;
    }

pub returns : goal.returns
returns c =
    let l = c.loop-i in
    let all : c.args.most - l.left ≡ (c.args.most - l.left) + 0 = omega arith in
    ap Some all ∙ sym (ap (option_map (λ parts. (c.args.most - l.left) + capacity parts)) (parts-all c.args.memory.now Write (c.args.count - l._i) l.left l.at (omega arith))) ∙ l.invariant.capacity
