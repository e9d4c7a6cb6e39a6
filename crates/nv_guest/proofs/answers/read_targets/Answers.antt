use Rattle.std.proofs.Common.{◌≡◌, ◌+◌, ◌-◌, ◌==◌, ◌++◌, false, take, refl, sym, ap, ◌∙◌, arith, append-nil}
use Rattle.std.proofs.lemmas.Bool.Decides.{nat_tests}
use Rattle.nv_guest.specs.Answers.{targets_at}
use Rattle.nv_guest.proofs.Answering.{targets-full, targets-all, targets-end, targets-more}
use Rattle.nv_guest.proofs.answers.read_targets.Goals as goal

pub returns-then-left-eq0-clause-parts : goal.returns-then-left-eq0-clause-parts
returns-then-left-eq0-clause-parts c =
    let l = c.loop-i in
    let memory = c.args.memory.now in
    sym (append-nil (take l.i l.targets))
    ∙ ap (λ parts. take l.i l.targets ++ parts) (sym (ap (λ n. targets_at memory (c.args.count - l.i) n l.at) c.if-left-eq0.true ∙ targets-full memory (c.args.count - l.i) l.at))
    ∙ l.invariant.parts

pub returns-in_default-clause-parts : goal.returns-in_default-clause-parts
returns-in_default-clause-parts c =
    let l = c.loop-i in
    let memory = c.args.memory.now in
    let left : (l.left == 0) ≡ false = grind (arith, nat_tests) in
    sym (append-nil (take l.i l.targets))
    ∙ ap (λ parts. take l.i l.targets ++ parts) (sym (targets-end memory (c.args.count - l.i) l.left l.at (omega arith) left (sym c.target_at.ensures ∙ c.in_default.is)))
    ∙ l.invariant.parts

pub loop-i-preserved : goal.loop-i-preserved
loop-i-preserved c =
    let l = c.loop-i in
    let part = c.in-Some.part in
    let all = l.auto.targets in
    let left : (l.left == 0) ≡ false = grind (arith, nat_tests) in
    record {
      parts = targets-more c.args.memory.now l.targets l.i (c.args.count - l.i) (c.args.count - (l.i + 1)) l.left (l.left - part.size) l.at (l.at + 8) part
          (omega arith) (omega arith) (omega arith) left (sym c.in-Some.ensures) refl refl
          ∙ l.invariant.parts;
      place = omega arith;
    }

pub returns-clause-parts : goal.returns-clause-parts
returns-clause-parts c =
    let l = c.loop-i in
    let memory = c.args.memory.now in
    let end : c.args.count ≡ l.i = omega arith in
    ap (λ n. take n l.targets) end ∙ sym (append-nil (take l.i l.targets))
    ∙ ap (λ parts. take l.i l.targets ++ parts) (sym (targets-all memory (c.args.count - l.i) l.left l.at (omega arith)))
    ∙ l.invariant.parts
