use Rattle.std.proofs.Common.{◌≡◌, ◌∙◌, sym, ap, subst, ℕ, List, [], ◌∷◌, length, Some}
use Rattle.std.specs.Prelude.{Contains}
use Rattle.nv_calls.specs.Calls.{Request, Entry, request}
use Rattle.nv_calls.specs.Logs.{IsLawful, IsNew, child_of, live_after, served}
use Rattle.nv_calls.proofs.LogLaws.{take_whole}
use Rattle.nv_threads.specs.Threads.{threads, Proc}
use Rattle.nv_threads.proofs.ThreadLaws.{threads_own}
use Rattle.nv_replay.specs.declared.standing.Standing.{Standing}
use Rattle.nv_replay.proofs.Turning.{event_is, get_last}
use Rattle.nv_sequence.proofs.leading.serve_call.Goals as goal

pub serve-requires-clause-lives : goal.serve-requires-clause-lives
serve-requires-clause-lives g c =
    let t : c.pending.result.now.tid ≡ c.args.tid = ap (λ (a : Request). a.tid) c.pending.ensures.call ∙ threads_own
    c.args.version.now.at.process c.args.tid in
    let l : Contains (live_after (g.K.SyscallKernel.log c.args.kernel.now)) c.args.tid = subst (λ (x : List ℕ). Contains x c.args.tid)
    c.requires.live c.requires.lives in
    subst (λ (x : ℕ). Contains (live_after (g.K.SyscallKernel.log c.args.kernel.now)) x) (sym t) l

pub answered-requires-clause-asked : goal.answered-requires-clause-asked
answered-requires-clause-asked g c =
    let e = event_is c.history.result.now _ _ _ c.index-history-at.result (c.history.ensures.log ∙ c.serve.ensures.log)
    ((ap (λ (x : Standing). x.seen) c.standing.ensures) ∙ c.requires.seen) c.index-history-at.is in
    let t : c.index-history-at.result.call.tid ≡ c.args.tid = ap (λ (x : Entry). x.call.tid) e ∙
    (ap (λ (a : Request). a.tid) c.pending.ensures.call ∙ threads_own c.args.version.now.at.process c.args.tid) in
    c.requires.asked ∙ ap (λ (x : ℕ). Some x) (sym t)

pub answered-requires-clause-pending : goal.answered-requires-clause-pending
answered-requires-clause-pending g c =
    let e = event_is c.history.result.now _ _ _ c.index-history-at.result (c.history.ensures.log ∙ c.serve.ensures.log)
    ((ap (λ (x : Standing). x.seen) c.standing.ensures) ∙ c.requires.seen) c.index-history-at.is in
    let t : c.index-history-at.result.call.tid ≡ c.args.tid = ap (λ (x : Entry). x.call.tid) e ∙
    (ap (λ (a : Request). a.tid) c.pending.ensures.call ∙ threads_own c.args.version.now.at.process c.args.tid) in
    rw t c.requires.pending

pub answered-requires-clause-same : goal.answered-requires-clause-same
answered-requires-clause-same g c =
    let p : Proc = c.args.version.now.at.process in
    let e = event_is c.history.result.now _ _ _ c.index-history-at.result (c.history.ensures.log ∙ c.serve.ensures.log)
    ((ap (λ (x : Standing). x.seen) c.standing.ensures) ∙ c.requires.seen) c.index-history-at.is in
    let call = ap (λ (x : Entry). x.call) e ∙ c.pending.ensures.call in
    let t : c.index-history-at.result.call.tid ≡ c.args.tid = ap (λ (a : Request). a.tid) call ∙ threads_own p c.args.tid in
    ap (λ (n : ℕ). (threads.call p n).nr) t ∙ ap (λ (a : Request). a.nr) (sym call)

pub answered-requires-clause-new : goal.answered-requires-clause-new
answered-requires-clause-new g c =
    let log : List Entry = g.K.SyscallKernel.log c.args.kernel.now in
    let e = event_is c.history.result.now _ _ _ c.index-history-at.result (c.history.ensures.log ∙ c.serve.ensures.log)
    ((ap (λ (x : Standing). x.seen) c.standing.ensures) ∙ c.requires.seen) c.index-history-at.is in
    let last : Entry = served (g.K.SyscallKernel.known c.args.kernel.now) log (request c.pending.result.now) in
    let may = subst IsLawful c.serve.ensures.log c.history.ensures.lawful (length log) last (get_last log last) in
    let new : IsNew (live_after log) (child_of last) = subst (λ (x : List Entry). IsNew (live_after x) (child_of last)) (take_whole log (last ∷ [])) may.new in
    subst (λ (x : Entry). IsNew (threads.live c.args.version.now.at.process) (child_of x)) (sym e) (subst (λ (x : List ℕ). IsNew x (child_of last)) (sym c.requires.live) new)
