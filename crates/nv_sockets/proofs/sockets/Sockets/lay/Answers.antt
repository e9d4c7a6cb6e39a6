use Rattle.std.proofs.Common.{◌≡◌, ◌∙◌, sym, ap, ◌<◌, length, subst}
use Rattle.std.specs.Prelude.{slice_index}
use Rattle.nv_sockets.specs.Reserved.{Buffered}
use Rattle.nv_sockets.proofs.Laid.{Placed, placed, laid, keeps_laid}
use Rattle.nv_sockets.proofs.sockets.Sockets.lay.Goals as goal

module _ (c : goal.After-drop-replace-2) where
  pub at : slice_index c.self.inside.connections.numbers c.args.p ≡ c.args._i
  at = ap (λ (z : Buffered). slice_index z.held.there c.args.p) c.self.view_is ∙ c.requires.number

  pub inside : c.args.p < length c.self.inside.connections.numbers
  inside = subst (λ (z : Buffered). c.args.p < length z.held.there) (sym c.self.view_is) c.requires.place

  pub put : Placed c.self.inside.connections c.replace.new.self c.args._i c.args.one
  put = placed c.self.inside.connections c.replace.new.self c.args.p c.args._i c.args.one c.replace.ensures.items c.replace.ensures.numbers c.replace.ensures.most at

pub invariant_of-self : goal.invariant_of-self
invariant_of-self c = (keeps_laid c.self.inside c.replace.new.self c.args.p c.args._i c.args.one c.self.invariant.0 (put c) (inside c) (at c), c.self.invariant.1)

pub returns : goal.returns
returns c = laid c.self.inside c.args.self.now c.replace.new.self c.args._i c.args.one c.self.view_is (put c)
