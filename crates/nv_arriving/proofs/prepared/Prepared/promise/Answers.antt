use Rattle.std.proofs.Common.{◌≡◌, ◌∙◌, ap, sym, subst, ◌+◌, ◌<◌, List, length, set, arith}
use Rattle.std.specs.Prelude.{slice_index}
use Rattle.std.proofs.lemmas.List.{get_or-map, length-map, map-set}
use Rattle.std.proofs.lemmas.Result.{on_ok_weaker}
use Rattle.nv_sockets.specs.Inboxes.{Room}
use Rattle.nv_arriving.specs.Prepared.{IsNew, promised_by}
use Rattle.nv_arriving.proofs.Inboxes.{new_at, new_set}
use Rattle.nv_arriving.proofs.prepared.Prepared.promise.Goals as goal

pub invariant_of-self : goal.invariant_of-self
invariant_of-self c =
    let xs : List Room = c.self.inside.inboxes.items in
    let was : Room = c.index_mut.result.now in
    let inside : c.args.place < length xs = omega (arith, c.requires, ap (λ z. length z) c.self.view_is, length-map xs promised_by) in
    let new : IsNew was = subst IsNew (sym c.index_mut.ensures.value) (new_at xs c.args.place was inside c.self.invariant) in
    new_set xs c.args.place c.promise.new.self c.self.invariant (c.promise.ensures.inbox ∙ new)

pub returns-clause-ok : goal.returns-clause-ok
returns-clause-ok c =
    let xs : List Room = c.self.inside.inboxes.items in
    let was : Room = c.index_mut.result.now in
    let inside : c.args.place < length xs = omega (arith, c.requires, ap (λ z. length z) c.self.view_is, length-map xs promised_by) in
    let here : was.promised ≡ slice_index c.args.self.now c.args.place = ap promised_by c.index_mut.ensures.value ∙ (sym (get_or-map promised_by xs c.args.place was 0 inside) ∙ ap (λ z. slice_index z c.args.place) c.self.view_is) in
    on_ok_weaker c.promise.result
    (λ (h : c.promise.new.self.promised ≡ was.promised + c.args.count). map-set promised_by xs c.args.place c.promise.new.self ∙ (λ j. set (c.self.view_is j) c.args.place ((h ∙ ap (λ n. n + c.args.count) here) j)))
    c.promise.ensures.ok
