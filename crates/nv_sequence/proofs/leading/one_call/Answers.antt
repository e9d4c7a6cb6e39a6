use Rattle.std.proofs.Common.{◌≡◌, ◌∙◌, sym, ap, subst, List, [], ◌∷◌, ◌++◌, arith, append-nil}
use Rattle.nv_calls.specs.Calls.{Request, Entry}
use Rattle.nv_calls.specs.Logs.{IsLawful, IsLegal, served}
use Rattle.nv_calls.proofs.LearningLaws.{legal_last}
use Rattle.nv_replay.specs.Version.{became_event}
use Rattle.nv_threads.specs.Threads.{threads}
use Rattle.nv_threads.proofs.ThreadLaws.{thread_laws}
use Rattle.nv_replay.proofs.Turning.{waits, turn_dropped, turn_refused, turn_served}
use Rattle.nv_sequence.proofs.leading.one_call.Goals as goal

pub returns-in-Dropped-clause-turn : goal.returns-in-Dropped-clause-turn
returns-in-Dropped-clause-turn g c = λ start legal.
    turn_dropped threads thread_laws start c.args.most c.args.version.now
    (g.K.SyscallKernel.log c.args.kernel.now) c.lead.new.self c.requires.leading c.requires.seen c.requires.in_step c.lead.ensures.new
    c.in-Dropped.ensures.told.0

pub returns-then-is_err-clause-turn : goal.returns-then-is_err-clause-turn
returns-then-is_err-clause-turn g c = λ start legal.
    rw (c.reserve.ensures.log) (turn_refused threads thread_laws start c.args.most c.args.version.now
    (g.K.SyscallKernel.log c.args.kernel.now) c.lead.new.self c.refuse_memory.new.self c.in-Asked.tid c.requires.leading c.requires.seen
    c.requires.in_step c.lead.ensures.new c.in-Asked.ensures.told.0 c.refuse_memory.ensures)

pub serve_call-requires-clause-lives : goal.serve_call-requires-clause-lives
serve_call-requires-clause-lives g c κs within =
    let w = waits threads thread_laws (g.K.SyscallKernel.known c.args.kernel.now) c.args.most c.args.version.now
    (g.K.SyscallKernel.log c.args.kernel.now) c.lead.new.self c.in-Asked.tid c.requires.leading c.requires.seen c.requires.in_step
    c.lead.ensures.new c.in-Asked.ensures.told.0 in
    w.lives

pub serve_call-requires-clause-live : goal.serve_call-requires-clause-live
serve_call-requires-clause-live g c κs within =
    let w = waits threads thread_laws (g.K.SyscallKernel.known c.args.kernel.now) c.args.most c.args.version.now
    (g.K.SyscallKernel.log c.args.kernel.now) c.lead.new.self c.in-Asked.tid c.requires.leading c.requires.seen c.requires.in_step
    c.lead.ensures.new c.in-Asked.ensures.told.0 in
    rw (c.reserve.ensures.log) w.live

pub serve_call-requires-clause-seen : goal.serve_call-requires-clause-seen
serve_call-requires-clause-seen g c κs within =
    let w = waits threads thread_laws (g.K.SyscallKernel.known c.args.kernel.now) c.args.most c.args.version.now
    (g.K.SyscallKernel.log c.args.kernel.now) c.lead.new.self c.in-Asked.tid c.requires.leading c.requires.seen c.requires.in_step
    c.lead.ensures.new c.in-Asked.ensures.told.0 in
    rw (c.reserve.ensures.log) w.seen

pub serve_call-requires-clause-few : goal.serve_call-requires-clause-few
serve_call-requires-clause-few g c κs within =
    let w = waits threads thread_laws (g.K.SyscallKernel.known c.args.kernel.now) c.args.most c.args.version.now
    (g.K.SyscallKernel.log c.args.kernel.now) c.lead.new.self c.in-Asked.tid c.requires.leading c.requires.seen c.requires.in_step
    c.lead.ensures.new c.in-Asked.ensures.told.0 in
    rw (c.reserve.ensures.log) (omega (arith, w.few, c.requires.most))

pub returns-else-is_err-clause-turn : goal.returns-else-is_err-clause-turn
returns-else-is_err-clause-turn g c = λ start legal.
    let log : List Entry = g.K.SyscallKernel.log c.args.kernel.now in
    let new_log : List Entry = g.K.SyscallKernel.log c.serve_call.new.kernel in
    let call : Request = threads.call c.lead.new.self.at.process c.in-Asked.tid in
    let e : Entry = served (g.K.SyscallKernel.known c.reserve.new.self) log call in
    let past : new_log ≡ log ++ e ∷ [] = rw (c.reserve.ensures.log) at c.serve_call.ensures.log in
    let same : e ≡ served start log call = legal_last start log e (subst (IsLegal start) past legal) in
    let version : c.serve_call.new.version ≡ became_event threads e c.lead.new.self = rw (c.reserve.ensures.log) at c.serve_call.ensures.version in
    turn_served threads thread_laws start c.args.most c.args.version.now log c.lead.new.self c.serve_call.new.version c.in-Asked.tid
    new_log c.requires.leading c.requires.seen c.requires.in_step c.lead.ensures.new
    c.in-Asked.ensures.told.0 (past ∙ ap (λ (x : Entry). log ++ x ∷ []) same) (version ∙ ap (λ (x : Entry). became_event threads x c.lead.new.self) same) c.serve_call.ensures.lawful

pub returns-in-Dropped-clause-grows : goal.returns-in-Dropped-clause-grows
returns-in-Dropped-clause-grows g c = ([], sym (append-nil (g.K.SyscallKernel.log c.args.kernel.now)))

pub returns-then-is_err-clause-grows : goal.returns-then-is_err-clause-grows
returns-then-is_err-clause-grows g c = ([], c.reserve.ensures.log ∙ sym (append-nil (g.K.SyscallKernel.log c.args.kernel.now)))

pub returns-else-is_err-clause-grows : goal.returns-else-is_err-clause-grows
returns-else-is_err-clause-grows g c =
    let log : List Entry = g.K.SyscallKernel.log c.args.kernel.now in
    let past = rw (c.reserve.ensures.log) at c.serve_call.ensures.log in
    (served (g.K.SyscallKernel.known c.reserve.new.self) log (threads.call c.lead.new.self.at.process c.in-Asked.tid) ∷ [], past)

pub returns-then-is_err-clause-lawful : goal.returns-then-is_err-clause-lawful
returns-then-is_err-clause-lawful g c = subst IsLawful (sym c.reserve.ensures.log) c.requires.lawful
