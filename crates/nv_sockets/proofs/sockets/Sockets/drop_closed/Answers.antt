use Rattle.std.proofs.Common.{◌≡◌, ◌∙◌, sym, ap, ℕ, List, ◌<◌, length, subst, false}
use Rattle.std.specs.Prelude.{slice_index, remove}
use Rattle.nv_sockets.specs.Sockets.{is_going, link_output}
use Rattle.nv_sockets.specs.Reserved.{Buffered, is_there}
use Rattle.nv_sockets.specs.Views.{net_of, held_of}
use Rattle.nv_sockets.proofs.There.{removed_gone, removed_same}
use Rattle.nv_sockets.proofs.Keeping.{keeps_drop}
use Rattle.nv_sockets.proofs.Laid.{keeps_same}
use Rattle.nv_sockets.proofs.sockets.Sockets.drop_closed.Goals as goal

pub invariant_of-self : goal.invariant_of-self
invariant_of-self c =
    let back = sym c.self.view_is in
    let i = c.args.i in (
      keeps_same c.self.inside c.let_go.new.self (remove c.self.inside.connections.numbers c.args.p) c.let_go.ensures.items c.let_go.ensures.numbers
          (keeps_drop (net_of c.self.inside) (held_of c.self.inside) c.args.p c.args.i c.self.invariant.0
          (subst (λ (z : Buffered). c.args.p < length z.held.there) back c.requires.at.place)
          (subst (λ (z : Buffered). slice_index z.held.there c.args.p ≡ c.args.i) back c.requires.at.number)
          (subst (λ (z : Buffered). is_going z.net c.args.i ≡ false) back c.requires.closed)
          (subst (λ (z : Buffered). slice_index z.held.gone c.args.i ≡ length (link_output z.net c.args.i)) back c.requires.all)),
      c.self.invariant.1,
    )

pub returns-clause-dropped : goal.returns-clause-dropped
returns-clause-dropped c =
    let back = sym c.self.view_is in
    ap (λ (z : List ℕ). is_there z c.args.i) c.let_go.ensures.numbers
    ∙ removed_gone _ c.self.inside.connections.numbers c.args.p c.args.i c.numbers.ensures.ascending
    (subst (λ (z : Buffered). c.args.p < length z.held.there) back c.requires.at.place)
    (subst (λ (z : Buffered). slice_index z.held.there c.args.p ≡ c.args.i) back c.requires.at.number)

pub returns-clause-rest : goal.returns-clause-rest
returns-clause-rest c = λ j other.
    let back = sym c.self.view_is in
    ap (λ (z : List ℕ). is_there z j) c.let_go.ensures.numbers
    ∙ removed_same c.self.inside.connections.numbers c.args.p c.args.i j
    (subst (λ (z : Buffered). c.args.p < length z.held.there) back c.requires.at.place)
    (subst (λ (z : Buffered). slice_index z.held.there c.args.p ≡ c.args.i) back c.requires.at.number) other
    ∙ ap (λ (z : Buffered). is_there z.held.there j) c.self.view_is
