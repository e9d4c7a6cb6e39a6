use denote.Exit.{no}
use denote.Param.Send.{param_send, arg_send}
use Rattle.std.proofs.Common.{sym, subst, arith, rules}
use Rattle.std.proofs.lemmas.List.{take_at}
use Rattle.std.specs.Option.{option_copied}
use Rattle.nv_replay.specs.Follow.{judge_of}
use Rattle.nv_workers.specs.inner.Rounds.{CanAll, AllOn, AreGone}
use Rattle.nv_workers.specs.Ran.{AreApart, AllRan}
use Rattle.nv_workers.proofs.Finishing.{can_new, all_ran}
use Rattle.nv_workers.proofs.NewSeats.{as_made}
use Rattle.nv_run_tests.proofs.Sending.{script_kernel_send}
use Rattle.nv_run_tests.proofs.courses.scheduled.Goals as goal

pub make-requires-send-K : goal.make-requires-send-K
make-requires-send-K c κs = param_send 0 _ (arg_send _ no _ script_kernel_send)

pub staff-requires-send-K : goal.staff-requires-send-K
staff-requires-send-K c κs = param_send 0 _ (arg_send _ no _ script_kernel_send)

pub gather-requires-send-K : goal.gather-requires-send-K
gather-requires-send-K c κs = param_send 0 _ (arg_send _ no _ script_kernel_send)

pub end-requires-send-K : goal.end-requires-send-K
end-requires-send-K c κs = param_send 0 _ (arg_send _ no _ script_kernel_send)

pub staff-requires-clause-seats : goal.staff-requires-clause-seats
staff-requires-clause-seats c κs =
    let m = c.in_ok-room.ensures in
    (c.in_ok-room.room, as_made c.in_ok-room.room c.in_ok-room.readers.items c.in_ok-room.lead m.readers.1 m.lead m.log)

pub schedule-requires-clause-can : goal.schedule-requires-clause-can
schedule-requires-clause-can c =
    let m = c.in_ok-room.ensures in
    let judges = judge_of (option_copied c.as_ref.result) in
    subst (λ ws. CanAll judges c.in_ok-room.room 1000 ws) (sym c.deref_mut.ensures.value)
    (can_new judges c.in_ok-room.room 1000 0 c.in-Some-versions.versions.items c.in_ok-workers.workers.items
    (c.in_ok-workers.ensures.new c.in_ok-room.room
    (as_made c.in_ok-room.room c.in_ok-room.readers.items c.in_ok-room.lead m.readers.1 m.lead m.log)))

pub schedule-requires-clause-terms : goal.schedule-requires-clause-terms
schedule-requires-clause-terms c = record { most = omega arith; hands = search rules }

pub gather-requires-clause-gone : goal.gather-requires-clause-gone
gather-requires-clause-gone c κs =
    let same = c.schedule.auto.workers in
    let len = c.deref_mut.ensures.len in
    subst (λ ws. AreGone ws) (sym (take_at c.schedule.new.workers _ c.in_ok-workers.workers.len (omega (arith, same, len)))) c.in-AllLeft.ensures.gone

pub end-requires-after_bounds : goal.end-requires-after_bounds
end-requires-after_bounds c κs =
    let m = c.in_ok-room.ensures in
    let same = c.schedule.auto.workers in
    let len = c.deref_mut.ensures.len in
    let each = c.in_ok-workers.ensures.each in
    let texts = c.in-Some-versions.ensures.each in
    let sizes = m.sizes in
    let judges = judge_of (option_copied c.as_ref.result) in
    let ran = c.in_ok-ran-in-AllLeft.ran in
    let new = c.in_ok-workers.ensures.new c.in_ok-room.room
    (as_made c.in_ok-room.room c.in_ok-room.readers.items c.in_ok-room.lead m.readers.1 m.lead m.log) in
    let on = subst (λ ws. AllOn judges c.in_ok-room.room 1000 ws c.schedule.new.workers) c.deref_mut.ensures.value c.in-AllLeft.ensures.on in
    let apart = subst (λ ws. AreApart ws ran.versions.items ran.left.items)
    (take_at c.schedule.new.workers _ c.in_ok-workers.workers.len (omega (arith, same, len))) c.in_ok-ran-in-AllLeft.ensures.apart in (
      judges,
      1000,
      c.in-Some-versions.versions.items,
      subst (λ room. AllRan judges room 1000 c.in-Some-versions.versions.items ran.versions.items ran.left.items) (sym c.in_ok-ran-in-AllLeft.ensures.room)
          (all_ran judges c.in_ok-room.room 1000 c.in-Some-versions.versions.items c.in_ok-workers.workers.items c.schedule.new.workers ran.versions.items ran.left.items
          new (omega (arith, each, texts, sizes)) on apart),
    )
