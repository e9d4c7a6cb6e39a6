use Rattle.std.proofs.Common.{sym, subst, drop, get_or}
use denote.Exit.{no}
use denote.Param.Send.{sendable, param_send, param_sync, arg_send, arg_sync}
use Rattle.nv_workers.specs.Terms.{judges_of}
use Rattle.nv_workers.specs.inner.Rounds.{CanAll, WorkedOn}
use Rattle.nv_words.proofs.buf.EventBuf.TheSendSync.{the_send as buf_send}
use Rattle.nv_workers.proofs.worker.Seat.TheSendSync.{the_field_send as seat_send}
use Rattle.nv_workers.proofs.Sending.{version_send}
use Rattle.nv_workers.proofs.Parting.{can_prefix, can_back, on_at, all_at}
use Rattle.nv_workers.proofs.Rotating.{all_here}
use Rattle.nv_workers.proofs.dealing.deal.Goals as goal

pub for_each_chunk_mut-requires-send-T : goal.for_each_chunk_mut-requires-send-T
for_each_chunk_mut-requires-send-T g c κs within = search (sendable, version_send, buf_send, seat_send) depth 20

pub returns-then-is_empty : goal.returns-then-is_empty
returns-then-is_empty g c = all_here (judges_of c.args.terms.now) c.args.room.now c.args.terms.now.most c.args.workers.now

pub for_each_chunk_mut-requires-clause-accepts : goal.for_each_chunk_mut-requires-clause-accepts
for_each_chunk_mut-requires-clause-accepts g c κs within = λ start p chunk. (
  (
    subst (λ ws. CanAll (judges_of c.args.terms.now) c.args.room.now c.args.terms.now.most ws) (sym chunk.value)
        (can_prefix (judges_of c.args.terms.now) c.args.room.now c.args.terms.now.most c.of-stretches.result.first (drop start c.args.workers.now)
        (can_back (judges_of c.args.terms.now) c.args.room.now c.args.terms.now.most start c.args.workers.now c.requires.can)),
    c.requires.terms,
    c.of-stretches.ensures.some.1,
    c.of-stretches.ensures.some.2,
  ),
  (param_send 1 _ (arg_send _ no _ c.type_bounds.send-K), param_sync 0 _ (arg_sync _ no _ c.type_bounds.sync-R), param_sync 2 _ (arg_sync _ no _ c.type_bounds.sync-G)),
)

pub returns : goal.returns
returns g c = all_at (judges_of c.args.terms.now) c.args.room.now c.args.terms.now.most c.args.workers.now c.for_each_chunk_mut.new.s c.for_each_chunk_mut.auto.s
    (λ i d l. let e = (c.for_each_chunk_mut.ensures.by_index i d l).1 in
    let on = on_at (judges_of c.args.terms.now) c.args.room.now c.args.terms.now.most e.argument.now e.after_call.now e.call e.offset d e.offset_in_chunk in
    subst (λ w. WorkedOn (judges_of c.args.terms.now) c.args.room.now c.args.terms.now.most w (get_or c.for_each_chunk_mut.new.s i d)) e.old_element
    (subst (λ w. WorkedOn (judges_of c.args.terms.now) c.args.room.now c.args.terms.now.most (get_or e.argument.now e.offset d) w) e.new_element on))
