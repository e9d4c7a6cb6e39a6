use Rattle.std.proofs.Common.{◌∙◌}
use Rattle.std.proofs.lemmas.Result.{IfOk-weaker}
use Rattle.nv_driver.proofs.Lines.{short, name_at, named_is, faulty}
use Rattle.nv_driver.proofs.reading.read.Goals as goal

pub returns-then-words-lt2-clause-fault : goal.returns-then-words-lt2-clause-fault
returns-then-words-lt2-clause-fault c = short c.args.words.now c.if-words-lt2.true

pub returns-clause-command : goal.returns-clause-command
returns-clause-command c =
    IfOk-weaker c.read_named.result _ _
    (λ command h. named_is c.index-words-1.result _ c.as_str.ensures.value c.args.words.now c.if-words-lt2.false c.index-words-1.is ∙ h)
    c.read_named.ensures.command

pub returns-clause-fault : goal.returns-clause-fault
returns-clause-fault c =
    faulty c.read_named.result _ _ _
    (named_is c.index-words-1.result _ c.as_str.ensures.value c.args.words.now c.if-words-lt2.false c.index-words-1.is)
    (name_at c.index-words-1.result _ c.as_str.ensures.value c.args.words.now c.if-words-lt2.false c.index-words-1.is)
    c.read_named.ensures.refused c.read_named.ensures.named
