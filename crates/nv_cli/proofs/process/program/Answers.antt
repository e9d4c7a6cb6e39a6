use Rattle.std.proofs.Common.{ap, subst, refl, List, String, ℕ}
use Rattle.std.specs.Global.{Global}
use Rattle.nv_outside.specs.Gathering.{with_held}
use Rattle.nv_driver.specs.Due.{AnswersOver}
use Rattle.nv_driver.specs.Outcome.{source_of}
use Rattle.nv_driver.specs.Words.{texts}
use Rattle.nv_driver.specs.declared.ending.Ending.TheVariants.{Finished}
use Rattle.nv_cli.specs.Program.{ProgramAnswers}
use Rattle.nv_cli.specs.Streams.{streams_of, left_of}
use Rattle.nv_cli.proofs.Finished.{fault_answers, words_answer, program_finished, program_completes, program_rejects}
use Rattle.nv_cli.proofs.process.program.Goals as goal

-- there are no words
pub returns-in-Err : goal.returns-in-Err
returns-in-Err g c =
    let source = source_of g.F.Files.holds g.F.Files.faults g.F.Files.taken c.args.files.now c.args.files.now in
    let streams = streams_of g.I.Source.took g.I.Source.faults g.I.Source.moments g.O.Sink.told g.O.Sink.faults g.T.Sink.told g.T.Sink.faults c.args.streams in
    let told = g.S.Sink.told in
    let faults = g.S.Sink.faults in
    let made = c.make-sink.result in
    let gathered = c.refuse_words-status.new.sink in
    let over = fault_answers c.in-Err.fault {source = source} streams c.in-Err.is (refl, refl) c.refuse_words-status.ensures in
    let said = subst (λ (held : List ℕ). ProgramAnswers c.args.words source streams (with_held (told c.args.sink) held) (faults c.args.sink) c.refuse_words-status.result (with_held (told gathered.sink) gathered.held.items) (faults gathered.sink) (streams, Finished))
    c.make-sink.ensures.held
    (subst (λ sink. ProgramAnswers c.args.words source streams (with_held (told sink) made.held.items) (faults sink) c.refuse_words-status.result (with_held (told gathered.sink) gathered.held.items) (faults gathered.sink) (streams, Finished))
    c.make-sink.ensures.sink over) in
    let answers = program_finished said
    (λ six. let kept = c.finish-sink.ensures.failed six in (ap told kept.0, ap faults kept.0, kept.1))
    c.finish-sink.ensures.others in
    record {
      status = c.finish-sink.result.1;
      code_is = refl;
      answers = answers;
      completes = program_completes c.args.words source streams (streams, Finished) _ _ _ _ _ answers;
      rejects = program_rejects c.args.words source streams (streams, Finished) _ _ _ _ _ answers;
    }

pub returns : goal.returns
returns g c =
    let source = source_of g.F.Files.holds g.F.Files.faults g.F.Files.taken c.args.files.now c.answer-status.new.files in
    let streams = streams_of g.I.Source.took g.I.Source.faults g.I.Source.moments g.O.Sink.told g.O.Sink.faults g.T.Sink.told g.T.Sink.faults c.args.streams in
    let left = left_of g.I.Source.took g.I.Source.faults g.I.Source.moments g.O.Sink.told g.O.Sink.faults g.T.Sink.told g.T.Sink.faults c.answer-status.result.1 in
    let told = g.S.Sink.told in
    let faults = g.S.Sink.faults in
    let made = c.make-sink.result in
    let gathered = c.answer-status.new.sink in
    let over = words_answer c.in-Ok.words {source = source} {streams = streams} c.in-Ok.is
    (subst (λ (given : List (String Global)). AnswersOver (texts given) source streams (with_held (told made.sink) made.held.items) (faults made.sink) c.answer-status.result.0 (with_held (told gathered.sink) gathered.held.items) (faults gathered.sink) left)
    c.deref.ensures.value c.answer-status.ensures) in
    let said = subst (λ (held : List ℕ). ProgramAnswers c.args.words source streams (with_held (told c.args.sink) held) (faults c.args.sink) c.answer-status.result.0 (with_held (told gathered.sink) gathered.held.items) (faults gathered.sink) left)
    c.make-sink.ensures.held
    (subst (λ sink. ProgramAnswers c.args.words source streams (with_held (told sink) made.held.items) (faults sink) c.answer-status.result.0 (with_held (told gathered.sink) gathered.held.items) (faults gathered.sink) left)
    c.make-sink.ensures.sink over) in
    let answers = program_finished said
    (λ six. let kept = c.finish-sink-2.ensures.failed six in (ap told kept.0, ap faults kept.0, kept.1))
    c.finish-sink-2.ensures.others in
    record {
      status = c.finish-sink-2.result.1;
      code_is = c.exit_status-code.ensures;
      answers = answers;
      completes = program_completes c.args.words source streams left _ _ _ _ _ answers;
      rejects = program_rejects c.args.words source streams left _ _ _ _ _ answers;
    }
