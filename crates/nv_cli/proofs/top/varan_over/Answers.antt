use Rattle.std.proofs.Common.{subst, List, String}
use Rattle.std.specs.Global.{Global}
use Rattle.nv_driver.specs.Words.{texts}
use Rattle.nv_driver.specs.Outcome.{source_of}
use Rattle.nv_driver.specs.Due.{AnswersOver}
use Rattle.nv_cli.specs.Streams.{streams_of, left_of}
use Rattle.nv_driver.proofs.Statuses.{completes-by, rejects-by}
use Rattle.nv_cli.proofs.top.varan_over.Goals as goal

pub returns : goal.returns
returns g c =
    let said = subst (λ (words : List (String Global)). AnswersOver (texts words) (source_of g.F.Files.holds g.F.Files.faults g.F.Files.taken c.args.files.now c.answer.new.files)
    (streams_of g.I.Source.took g.I.Source.faults g.I.Source.moments g.O.Sink.told g.O.Sink.faults g.T.Sink.told g.T.Sink.faults c.args.streams) (g.S.Sink.told c.args.sink.now) (g.S.Sink.faults c.args.sink.now) c.answer.result.0 (g.S.Sink.told c.answer.new.sink) (g.S.Sink.faults c.answer.new.sink)
    (left_of g.I.Source.took g.I.Source.faults g.I.Source.moments g.O.Sink.told g.O.Sink.faults g.T.Sink.told g.T.Sink.faults c.answer.result.1))
    c.deref.ensures.value c.answer.ensures in
    record { answers = said; completes = completes-by said.answers; rejects = rejects-by said.answers }
