use Rattle.std.proofs.Common.{not, sym, ap, ◌∙◌}
use Rattle.nv_live.proofs.Noting.{puts-after_whole, puts-after_failed}
use Rattle.nv_live.proofs.writer.Writer.write.Goals as goal

pub returns-then-is_ok-clause-text : goal.returns-then-is_ok-clause-text
returns-then-is_ok-clause-text g c = λ first earlier so_far. puts-after_whole (sym c.is_ok.ensures.value ∙ c.if-is_ok.true) so_far c.put_all-self.ensures

pub returns-else-is_ok-clause-text : goal.returns-else-is_ok-clause-text
returns-else-is_ok-clause-text g c = λ first earlier so_far. puts-after_failed c.args.text.now (c.is_ok.ensures.negation ∙ ap not c.if-is_ok.false) so_far
