use Rattle.std.proofs.Common.{◌≡◌, ◌∙◌, ◌<◌, sym, ap, subst, ℕ, List, [], ◌∷◌, ◌++◌, length, Some, None, false, refl, arith, rules}
use Rattle.std.specs.Prelude.{Contains}
use Rattle.nv_calls.specs.Calls.{Request, Entry, request}
use Rattle.nv_calls.specs.Logs.{IsLawful, IsNew, child_of, live_after, served}
use Rattle.nv_calls.proofs.LearningLaws.{as_told, legal_told}
use Rattle.nv_calls.proofs.LogLaws.{take_whole}
use Rattle.nv_threads.specs.Threads.{Proc, threads}
use Rattle.nv_threads.proofs.ThreadLaws.{threads_own}
use Rattle.nv_words.specs.Spelling.{spell}
use Rattle.nv_replay.specs.Follow.{Judge}
use Rattle.nv_replay.specs.Version.{Running, became_event}
use Rattle.nv_replay.proofs.Turning.{get_last}
use Rattle.nv_room.specs.Kinds.{Stepped}
use Rattle.nv_room.specs.Seats.{kernel_of, lead_view, stations_of}
use Rattle.nv_room.proofs.Askings.{asked_on}
use Rattle.nv_room.proofs.Stepped.{more_steps, no_step}
use Rattle.nv_ring.proofs.Filling.{ready_still}
use Rattle.nv_workers.specs.Publishing.{CanPublish, IsPublished}
use Rattle.nv_workers.specs.Working.{LeadsOn, asked_by}
use Rattle.nv_workers.specs.inner.Leads.{IsNext, gives_up}
use Rattle.nv_workers.proofs.Growing.{none_more, one_more, one_after}
use Rattle.nv_workers.proofs.Serving.{grew_lead, with_asked, come_lead, dropped_lead, placed_lead, reserved_lead, asked_now, waits_lead, refused_lead, spelt_now, seen_now, published_then, asked_next, after_served, published_next, late_next}
use Rattle.nv_workers.proofs.leads.lead_turn.Given.{Over}
use Rattle.nv_workers.proofs.leads.lead_turn.Goals.{After-reserve, After-after_publish}
use Rattle.nv_workers.proofs.leads.lead_turn.Goals as goal

-- ---- no call is asked yet

pub come_to_call-requires-clause-leading : goal.come_to_call-requires-clause-leading
come_to_call-requires-clause-leading g c = λ none.
    let f0 = with_asked c.requires.leads.2 none in
    let s = f0.serves (as_told (g.K.SyscallKernel.log (kernel_of c.args.lead.now))) (legal_told (g.K.SyscallKernel.log (kernel_of c.args.lead.now)) f0.lawful) in
    record { on = s.on; leading = s.led_from.leading; none_asked = s.none_asked }

pub come_to_call-requires-clause-on : goal.come_to_call-requires-clause-on
come_to_call-requires-clause-on g c = λ none.
    let f0 = with_asked c.requires.leads.2 none in
    let s = f0.serves (as_told (g.K.SyscallKernel.log (kernel_of c.args.lead.now))) (legal_told (g.K.SyscallKernel.log (kernel_of c.args.lead.now)) f0.lawful) in
    s.led_from.in_step.on s.on

pub returns-in_default-clause-after : goal.returns-in_default-clause-after
returns-in_default-clause-after g c = λ j p f. (f.of, f.none_due, dropped_lead f c.come_to_call.new.version (c.in_default.ensures.dropped refl), f.asks)

pub returns-in_default-clause-steps : goal.returns-in_default-clause-steps
returns-in_default-clause-steps g c = no_step (stations_of c.args.room.now) (lead_view c.args.lead.now)

-- ---- its event has no place

pub returns-in-Waiting-clause-after : goal.returns-in-Waiting-clause-after
returns-in-Waiting-clause-after g c = λ j p f.
    let e = c.in-Waiting.ensures in
    let came = c.in-Some.ensures.came in
    with_asked (placed_lead (come_lead f c.come_to_call.new.version came.1) c.place.new.lead e.of e.same e.due e.kernel e.seen e.wrote e.spans) (sym came.0)

pub returns-in-Waiting-clause-one : goal.returns-in-Waiting-clause-one
returns-in-Waiting-clause-one g c = none_more _ _ c.in-Waiting.ensures.seen

pub pending-requires : goal.pending-requires
pending-requires g c = (waits_lead (come_lead c.requires.leads.2 c.come_to_call.new.version c.in-Some.ensures.came.1)).pending

-- ---- the kernel is asked

module _ (g : Over) (c : After-reserve g) where
  reserved : (j : ℕ → Judge) (p : Proc) → LeadsOn j c.args.room.now c.args.terms.now.most p c.args.version.now false c.args.lead.now c.args.asked.now
      → LeadsOn j c.args.room.now c.args.terms.now.most p c.come_to_call.new.version false c.reserve.new.self (Some c.in-Some.tid)
  reserved j p f =
      let e = c.in_default-place.ensures in
      let r = c.reserve.ensures in
      reserved_lead (placed_lead (come_lead f c.come_to_call.new.version c.in-Some.ensures.came.1) c.place.new.lead e.of e.same e.due e.kernel e.seen e.wrote e.spans)
      c.reserve.new.self r.same r.view r.due r.log r.start r.handed

  now_leads : LeadsOn c.requires.leads.0 c.args.room.now c.args.terms.now.most c.requires.leads.1 c.come_to_call.new.version false c.reserve.new.self (Some c.in-Some.tid)
  now_leads = reserved c.requires.leads.0 c.requires.leads.1 c.requires.leads.2

pub refuse_memory-requires : goal.refuse_memory-requires
refuse_memory-requires g c = λ none.
    let e : Some c.in-Some.tid ≡ None = sym (asked_now (now_leads g (goal.at.refuse_memory-requires g c).After-reserve)) ∙ none in
    cc

pub returns-then-is_err-clause-after : goal.returns-then-is_err-clause-after
returns-then-is_err-clause-after g c = λ j p f.
    let f2 = reserved g (goal.at.returns-then-is_err-clause-after g c).After-reserve j p f in
    (f2.of, f2.none_due, refused_lead f2 c.refuse_memory.new.self c.refuse_memory.ensures, f2.asks)

pub returns-then-is_err-clause-one : goal.returns-then-is_err-clause-one
returns-then-is_err-clause-one g c = none_more _ _ (ap (λ w. w.seen) c.reserve.ensures.view ∙ c.in_default-place.ensures.seen)

pub returns-then-is_err-clause-rewrites : goal.returns-then-is_err-clause-rewrites
returns-then-is_err-clause-rewrites g c =
    let a = ap (λ (v : Running Proc). v.at.rewrites) c.refuse_memory.ensures in
    let b = c.come_to_call.ensures.rewrites in
    omega arith

pub returns-then-is_err-clause-steps : goal.returns-then-is_err-clause-steps
returns-then-is_err-clause-steps g c =
    subst (λ v. Stepped (stations_of c.args.room.now) (lead_view c.args.lead.now) v) (sym c.reserve.ensures.view) c.place.ensures.steps

-- ---- the call is served, published and answered

module _ (g : Over) (c : After-reserve g) (ready : g.K.SyscallKernel.is_ready (kernel_of c.reserve.new.self) (threads.call c.come_to_call.new.version.at.process c.in-Some.tid)) where
  can : CanPublish c.args.room.now c.come_to_call.new.version c.reserve.new.self c.in-Some.tid
  can =
      let e = c.in_default-place.ensures in
      let r = c.reserve.ensures in
      let f2 = now_leads g c in
      let w = waits_lead f2 in record {
        of = f2.of;
        placed = ready_still c.args.room.now c.place.new.lead c.reserve.new.self (ap (λ w. w.seen) r.view) (ap (λ w. w.floors) r.view) r.same.2 r.same.4 e.placed;
        none_due = f2.none_due;
        none_wrote = f2.none_wrote;
        asked = asked_now f2;
        pending = w.pending;
        lives = w.lives;
        live = w.live;
        seen = w.seen;
        few = omega (arith, w.few, c.requires.terms.most);
        ready = ready;
      }

pub publish-requires-clause-lives : goal.publish-requires-clause-lives
publish-requires-clause-lives g c κs within =
    let w = can g (goal.at.publish-requires-clause-lives g c).After-reserve (search rules) in
    let t : c.pending-2.result.now.tid ≡ c.in-Some.tid = ap (λ (a : Request). a.tid) c.pending-2.ensures.call ∙ threads_own
    c.come_to_call.new.version.at.process c.in-Some.tid in
    let l : Contains (live_after (g.K.SyscallKernel.log (kernel_of c.reserve.new.self))) c.in-Some.tid = subst (λ (x : List ℕ). Contains x c.in-Some.tid)
    w.live w.lives in
    subst (λ (x : ℕ). Contains (live_after (g.K.SyscallKernel.log (kernel_of c.reserve.new.self))) x) (sym t) l

pub answered-requires-clause-asked : goal.answered-requires-clause-asked
answered-requires-clause-asked g c =
    let w = can g (goal.at.answered-requires-clause-asked g c).After-reserve (search rules) in
    let e = c.last-event.ensures.is _ _ (ap g.K.SyscallKernel.log c.kernel.ensures ∙ c.publish.ensures.log) in
    let t : c.last-event.result.now.call.tid ≡ c.in-Some.tid = ap (λ (x : Entry). x.call.tid) e ∙
    (ap (λ (a : Request). a.tid) c.pending-2.ensures.call ∙ threads_own c.come_to_call.new.version.at.process c.in-Some.tid) in
    w.asked ∙ ap (λ (x : ℕ). Some x) (sym t)

pub answered-requires-clause-pending : goal.answered-requires-clause-pending
answered-requires-clause-pending g c =
    let w = can g (goal.at.answered-requires-clause-pending g c).After-reserve (search rules) in
    let e = c.last-event.ensures.is _ _ (ap g.K.SyscallKernel.log c.kernel.ensures ∙ c.publish.ensures.log) in
    let t : c.last-event.result.now.call.tid ≡ c.in-Some.tid = ap (λ (x : Entry). x.call.tid) e ∙
    (ap (λ (a : Request). a.tid) c.pending-2.ensures.call ∙ threads_own c.come_to_call.new.version.at.process c.in-Some.tid) in
    rw t w.pending

pub answered-requires-clause-same : goal.answered-requires-clause-same
answered-requires-clause-same g c =
    let p : Proc = c.come_to_call.new.version.at.process in
    let e = c.last-event.ensures.is _ _ (ap g.K.SyscallKernel.log c.kernel.ensures ∙ c.publish.ensures.log) in
    let call = ap (λ (x : Entry). x.call) e ∙ c.pending-2.ensures.call in
    let t : c.last-event.result.now.call.tid ≡ c.in-Some.tid = ap (λ (a : Request). a.tid) call ∙ threads_own p c.in-Some.tid in
    ap (λ (n : ℕ). (threads.call p n).nr) t ∙ ap (λ (a : Request). a.nr) (sym call)

pub answered-requires-clause-new : goal.answered-requires-clause-new
answered-requires-clause-new g c =
    let w = can g (goal.at.answered-requires-clause-new g c).After-reserve (search rules) in
    let log : List Entry = g.K.SyscallKernel.log (kernel_of c.reserve.new.self) in
    let grows = ap g.K.SyscallKernel.log c.kernel.ensures ∙ c.publish.ensures.log in
    let e = c.last-event.ensures.is _ _ grows in
    let last : Entry = served (g.K.SyscallKernel.known (kernel_of c.reserve.new.self)) log (request c.pending-2.result.now) in
    let may = subst IsLawful grows c.last-event.ensures.lawful (length log) last (get_last log last) in
    let new : IsNew (live_after log) (child_of last) = subst (λ (x : List Entry). IsNew (live_after x) (child_of last)) (take_whole log (last ∷ [])) may.new in
    subst (λ (x : Entry). IsNew (threads.live c.come_to_call.new.version.at.process) (child_of x)) (sym e) (subst (λ (x : List ℕ). IsNew x (child_of last)) (sym w.live) new)

pub answered-requires-clause-below : goal.answered-requires-clause-below
answered-requires-clause-below g c =
    let w = can g (goal.at.answered-requires-clause-below g c).After-reserve (search rules) in
    omega (arith, w.seen, w.few)

pub publish-requires-clause-placed : goal.publish-requires-clause-placed
publish-requires-clause-placed g c κs within =
    (can g (goal.at.publish-requires-clause-placed g c).After-reserve (search rules)).placed

pub publish-requires-clause-few : goal.publish-requires-clause-few
publish-requires-clause-few g c κs within =
    (can g (goal.at.publish-requires-clause-few g c).After-reserve (search rules)).few

pub pending-requires-2 : goal.pending-requires-2
pending-requires-2 g c =
    (waits_lead (now_leads g (goal.at.pending-requires-2 g c).After-reserve)).pending

module _ (g : Over) (c : After-after_publish g) where
  published : IsPublished c.args.room.now c.come_to_call.new.version c.reserve.new.self c.in-Some.tid c.answered.new.self c.publish.new.lead
  published =
      let p = c.publish.ensures in
      let known = g.K.SyscallKernel.known (kernel_of c.reserve.new.self) in
      let log = g.K.SyscallKernel.log (kernel_of c.reserve.new.self) in
      let call = c.pending-2.ensures.call in
      let e = c.last-event.ensures.is _ _ (ap g.K.SyscallKernel.log c.kernel.ensures ∙ p.log) in
      record {
        of = p.of;
        same = p.same;
        due = p.due;
        wrote = p.wrote;
        log = p.log ∙ ap (λ (a : Request). log ++ served known log a ∷ []) call;
        lawful = subst IsLawful (ap g.K.SyscallKernel.log c.kernel.ensures) c.last-event.ensures.lawful;
        seen = p.seen ∙ ap (λ (a : Request). (lead_view c.reserve.new.self).seen ++ spell (served known log a) ∷ []) call;
        spans = p.spans;
        version = c.answered.ensures ∙ ap (λ (x : Entry). became_event threads x c.come_to_call.new.version) (e ∙ ap (served known log) call);
      }

pub next_of-requires-clause-seen : goal.next_of-requires-clause-seen
next_of-requires-clause-seen g c κs within =
    let here = goal.at.next_of-requires-clause-seen g c in
    seen_now (now_leads g here.After-reserve) (published g here.After-after_publish)

pub returns-clause-after : goal.returns-clause-after
returns-clause-after g c = λ j p f.
    let here = goal.at.returns-clause-after g c in
    let f2 = reserved g here.After-reserve j p f in
    let n = c.next_of.ensures in
    let q = published_then c.args.room.now c.come_to_call.new.version c.answered.new.self c.reserve.new.self c.publish.new.lead c.next_of.new.lead c.in-Some.tid
    (published g here.After-after_publish) n.same n.view n.due n.log in
    let next = subst (λ (x : List ℕ). IsNext x c.args.room.now c.answered.new.self c.next_of.new.lead c.next_of.result) (sym c.requires.terms.hands) n.next in
    let asked = asked_on c.args.room.now c.reserve.new.self c.publish.new.lead c.publish.ensures.same c.publish.ensures.start c.publish.ensures.handed f2.asks in
    let handed = subst (λ (x : List ℕ). (lengths : List ℕ) → g.K.SyscallKernel.handed (kernel_of c.publish.new.lead) lengths
    → g.K.SyscallKernel.handed (kernel_of c.next_of.new.lead) (asked_by (gives_up c.next_of.result) x (length (g.K.SyscallKernel.log (kernel_of c.publish.new.lead))) lengths))
    (sym c.requires.terms.hands) n.handed in
    after_served f2 q c.next_of.result next (asked_next c.args.room.now c.come_to_call.new.version c.answered.new.self c.reserve.new.self c.publish.new.lead c.next_of.new.lead c.in-Some.tid
    (published g here.After-after_publish) n.same n.view n.due n.log (gives_up c.next_of.result) (spelt_now f2 q) n.start handed asked)

pub returns-clause-published : goal.returns-clause-published
returns-clause-published g c =
    let r = c.reserve.ensures in
    published_next (lead_view c.args.lead.now) (lead_view c.next_of.new.lead) c.next_of.result
    (subst (λ w. length (lead_view c.args.lead.now).seen < length w.seen) (sym c.next_of.ensures.view)
    (grew_lead c.args.lead.now c.place.new.lead c.reserve.new.self c.publish.new.lead _ c.in_default-place.ensures.seen r.view (published g (goal.at.returns-clause-published g c).After-after_publish).seen))

pub returns-clause-late : goal.returns-clause-late
returns-clause-late g c = late_next c.args.terms.now.hands.now c.args.room.now c.args.lead.now c.next_of.new.lead c.answered.new.self c.next_of.result c.next_of.ensures.next

pub returns-clause-one : goal.returns-clause-one
returns-clause-one g c = one_after _ _ _ (ap (λ w. w.seen) c.reserve.ensures.view ∙ c.in_default-place.ensures.seen)
    (one_more _ _ _ (ap (λ w. w.seen) c.next_of.ensures.view ∙ (published g (goal.at.returns-clause-one g c).After-after_publish).seen))

pub returns-clause-rewrites : goal.returns-clause-rewrites
returns-clause-rewrites g c =
    let a = ap (λ (v : Running Proc). v.at.rewrites) (published g (goal.at.returns-clause-rewrites g c).After-after_publish).version in
    let b = c.come_to_call.ensures.rewrites in
    omega arith

pub returns-clause-steps : goal.returns-clause-steps
returns-clause-steps g c =
    let n : ℕ = stations_of c.args.room.now in
    let old = lead_view c.args.lead.now in
    let mid = lead_view c.place.new.lead in
    let new = lead_view c.publish.new.lead in
    subst (λ w. Stepped n old w) (sym c.next_of.ensures.view)
    (more_steps n old mid new c.place.ensures.steps (subst (λ v. Stepped n v new) c.reserve.ensures.view c.publish.ensures.steps))
