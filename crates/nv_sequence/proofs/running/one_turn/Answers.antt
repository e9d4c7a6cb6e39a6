use Rattle.std.proofs.Common.{option_map, ◌∙◌, sym, refl, arith}
use Rattle.nv_threads.specs.Threads.{threads}
use Rattle.nv_replay.specs.Follow.{judge_of}
use Rattle.nv_sequence.proofs.Ordering.{first_of, short_order, had_turn}
use Rattle.nv_sequence.proofs.running.one_turn.Goals as goal

pub push-requires : goal.push-requires
push-requires g c =
    let e = first_of c.args.order.now.items c.remove-first.result c.remove-first.new.self.items (sym c.is_empty.ensures ∙ c.if-is_empty.false) c.remove-first.ensures.value c.remove-first.ensures.items in
    let s = short_order threads (g.K.SyscallKernel.log c.args.kernel.now) c.args.versions.now c.args.order.now.items c.remove-first.result c.remove-first.new.self.items e c.requires.ready in
    (omega arith, s)

pub returns-in-Left-clause-turn : goal.returns-in-Left-clause-turn
returns-in-Left-clause-turn g c = λ start legal.
    let e = first_of c.args.order.now.items c.remove-first.result c.remove-first.new.self.items (sym c.is_empty.ensures ∙ c.if-is_empty.false) c.remove-first.ensures.value c.remove-first.ensures.items in
    had_turn threads (judge_of (option_map (λ f. f.now) c.args.rules)) start c.args.most c.args.hands.now c.args.order.now.items c.args.versions.now _ c.remove-first.result c.remove-first.new.self.items _
    (g.K.SyscallKernel.log c.args.kernel.now) (g.K.SyscallKernel.log c.take_turn.new.kernel) _ c.index-versions-first.result c.take_turn.new.version _ e c.requires.ready (c.in-Left.ensures.turn start legal) refl refl refl

pub returns-in-Exited-clause-turn : goal.returns-in-Exited-clause-turn
returns-in-Exited-clause-turn g c = λ start legal.
    let e = first_of c.args.order.now.items c.remove-first.result c.remove-first.new.self.items (sym c.is_empty.ensures ∙ c.if-is_empty.false) c.remove-first.ensures.value c.remove-first.ensures.items in
    had_turn threads (judge_of (option_map (λ f. f.now) c.args.rules)) start c.args.most c.args.hands.now c.args.order.now.items c.args.versions.now _ c.remove-first.result c.remove-first.new.self.items _
    (g.K.SyscallKernel.log c.args.kernel.now) (g.K.SyscallKernel.log c.take_turn.new.kernel) _ c.index-versions-first.result c.take_turn.new.version _ e c.requires.ready (c.in-Exited.ensures.turn start legal) refl refl refl

pub returns-in-GaveUp-clause-turn : goal.returns-in-GaveUp-clause-turn
returns-in-GaveUp-clause-turn g c = λ start legal.
    let e = first_of c.args.order.now.items c.remove-first.result c.remove-first.new.self.items (sym c.is_empty.ensures ∙ c.if-is_empty.false) c.remove-first.ensures.value c.remove-first.ensures.items in
    had_turn threads (judge_of (option_map (λ f. f.now) c.args.rules)) start c.args.most c.args.hands.now c.args.order.now.items c.args.versions.now _ c.remove-first.result c.remove-first.new.self.items _
    (g.K.SyscallKernel.log c.args.kernel.now) (g.K.SyscallKernel.log c.take_turn.new.kernel) _ c.index-versions-first.result c.take_turn.new.version _ e c.requires.ready (c.in-GaveUp.ensures.turn start legal) refl c.push.ensures.items refl
