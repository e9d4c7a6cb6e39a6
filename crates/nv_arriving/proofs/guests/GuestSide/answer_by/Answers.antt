use Rattle.std.proofs.Common.{rules, ◌≡◌, ◌∙◌, sym, ap, subst, ℤ, to_z, of_z, w32, option_map}
use Rattle.nv_calls.specs.Answer.{Answer}
use Rattle.nv_calls.specs.Calls.{Request, request}
use Rattle.nv_sockets.specs.declared.did.Did.{Did}
use Rattle.nv_sockets.specs.declared.host.Host.{Host}
use Rattle.nv_sockets.specs.Kernel.{state_of}
use Rattle.nv_sockets.specs.Serving.{State}
use Rattle.nv_arriving.specs.declared.guests.GuestSide.{GuestSide}
use Rattle.nv_arriving.specs.Arriving.{Standing}
use Rattle.nv_arriving.specs.Doings.{said}
use Rattle.nv_arriving.specs.Said.{said_of}
use Rattle.nv_arriving.specs.Views.{standing_of, room_of}
use Rattle.nv_arriving.proofs.LaterLaws.{later_few}
use Rattle.nv_arriving.proofs.Rooms.{kept_by}
use Rattle.nv_arriving.proofs.Saying.{host_says, later_says}
use Rattle.nv_sockets.specs.Reserved.{Buffered}
use Rattle.nv_fs.specs.Reserved.{Disk}
use Rattle.nv_arriving.proofs.guests.GuestSide.answer_by.Goals.{After-answer-outcome}
use Rattle.nv_arriving.proofs.guests.GuestSide.answer_by.Goals as goal

pub returns-in-Some-clause-few : goal.returns-in-Some-clause-few
returns-in-Some-clause-few c =
    let left : ℤ → Answer Standing = λ ret. record { state = standing_of c.answer_later.new.self; ret = ret; payload = c.answer_later.new.out.bytes } in
    later_few (standing_of c.args.self.now) (request c.args.call.now) c.args.until (left c.in-Some.ret)
    (c.answer_later.ensures.answer ∙ ap (option_map left) c.in-Some.is)

pub returns-in-Some-clause-kept : goal.returns-in-Some-clause-kept
returns-in-Some-clause-kept c =
    let sockets = c.answer_later.ensures.sockets in
    kept_by (room_of c.args.self.now) (room_of c.answer_later.new.self) (ap (λ (z : Buffered). z.held) sockets)
    (ap (λ (z : Disk). z.gone) c.answer_later.ensures.files)

pub returns-in-Some-clause-said : goal.returns-in-Some-clause-said
returns-in-Some-clause-said c =
    let call : Request = request c.args.call.now in
    let was : Standing = standing_of c.args.self.now in
    let now : Standing = standing_of c.answer_later.new.self in
    let left : ℤ → Answer Standing = λ ret. record { state = now; ret = ret; payload = c.answer_later.new.out.bytes } in
    let back : to_z w32 (of_z w32 c.in-Some.ret) ≡ c.in-Some.ret = search rules in
    ap (λ (ret : ℤ). said was.state call ret now.state) (c.quiet.ensures.ret ∙ back)
    ∙ (later_says was call c.args.until now c.in-Some.ret c.answer_later.new.out.bytes (c.answer_later.ensures.answer ∙ ap (option_map left) c.in-Some.is)
    (ap (λ (z : Buffered). z.net) c.answer_later.ensures.sockets) (ap (λ (z : Disk). z.state) c.answer_later.ensures.files)
    ∙ ap (λ (d : Did). said_of d call.payload) (sym c.quiet.ensures.did))

module _ (c : After-answer-outcome) where
  served : said (state_of c.args.self.now.host) (request c.args.call.now) c.answer-outcome.result.ret (state_of c.answer-outcome.new.self)
      ≡ said_of c.answer-outcome.result.did c.args.call.now.payload.bytes
  served =
      let now : State = state_of c.answer-outcome.new.self in
      subst (λ (s : GuestSide). said (state_of s.host) (request c.args.call.now) c.answer-outcome.result.ret now
      ≡ said_of c.answer-outcome.result.did c.args.call.now.payload.bytes)
      (c.answer_later.ensures.none c.in_default.is)
      (host_says (state_of c.answer_later.new.self.host) now (request c.args.call.now)
      c.answer-outcome.result.ret c.answer-outcome.new.out.bytes c.answer-outcome.result.did
      c.answer-outcome.ensures.answer c.answer-outcome.ensures.did c.answer-outcome.ensures.below)

pub returns-then-self-clause-said : goal.returns-then-self-clause-said
returns-then-self-clause-said c =
    subst (λ (h : Host). said (state_of c.args.self.now.host) (request c.args.call.now) c.answer-outcome.result.ret (state_of h)
    ≡ said_of c.answer-outcome.result.did c.args.call.now.payload.bytes)
    (sym c.note.ensures.host) (served (goal.at.returns-then-self-clause-said c).After-answer-outcome)

pub returns-else-self-clause-said : goal.returns-else-self-clause-said
returns-else-self-clause-said c = served (goal.at.returns-else-self-clause-said c).After-answer-outcome
