use Rattle.std.proofs.Common.{◌≡◌, ◌∙◌, inr, refl, ap, sym, subst, ℕ, List, Option, None, Some}
use Rattle.nv_driver.specs.Words.{Command, Service, Runs, Serves, Uses, Generates, Records, Replays, Inspects, Helps, command_of, texts}
use Rattle.nv_driver.specs.Seen.{WordsRefused, command_view}
use Rattle.nv_driver.specs.declared.asked.LineFault.{LineFault}
use Rattle.nv_driver.specs.declared.asked.LineFault.TheVariants as line
use Rattle.nv_driver.specs.declared.asked.Command.{Command as Asked}
use Rattle.nv_driver.specs.Due.{Answers, AnswersOver, IsUntouched, Over, Says}
use Rattle.nv_driver.specs.Live.{Streams}
use Rattle.nv_driver.specs.Outcome.{NoMemory, Source, outcome_status, source_of, text_of}
use Rattle.nv_driver.specs.Tasks.{fault_outcome}
use Rattle.nv_driver.specs.declared.ending.Ending.{Ending}
use Rattle.nv_driver.specs.declared.ending.Ending.TheVariants.{Finished}
use Rattle.nv_driver.proofs.Within.{generated_within}
use Rattle.nv_driver.proofs.Commands.{made_answers, nothing_over, unserved, words_refused}
use Rattle.nv_cli.specs.Streams.{streams_of, left_of}
use Rattle.nv_cli.proofs.top.answer.Goals as goal

-- an answer of another command than a live run's, with the streams as they were
untouched : (words : List (List ℕ)) (source : Source) (streams : Streams) (before : Option (List ℕ)) (faults status told : ℕ) (after : Option (List ℕ)) (later : ℕ) (left : Streams × Ending)
    → ((service : Service) → command_of words ≡ Some (Serves service) → ⊥) → status ≡ told → left ≡ (streams, Finished) → Answers words source before faults told after later
    → AnswersOver words source streams before faults status after later left
untouched words source streams before faults status told after later left other same kept a =
    subst (λ s. AnswersOver words source streams before faults s after later left) (sym same)
    (subst (λ l. AnswersOver words source streams before faults told after later l) (sym kept)
    (record { answers = a; over = nothing_over (command_of words) a.outcome streams other }))

over_memory : (command : Option Command) (streams : Streams) → Over command NoMemory streams (streams, Finished)
over_memory None streams = refl
over_memory (Some (Runs plan)) streams = refl
over_memory (Some (Serves service)) streams = (unserved streams, refl)
over_memory (Some (Uses job)) streams = refl
over_memory (Some (Generates n)) streams = refl
over_memory (Some (Records plan)) streams = refl
over_memory (Some (Replays trail)) streams = refl
over_memory (Some (Inspects look)) streams = refl
over_memory (Some (Helps topic)) streams = refl

-- refused words, with the streams as they were
refused_over : (fault : LineFault) (words : List (List ℕ)) (source : Source) (streams : Streams) → WordsRefused fault words → IsUntouched source
    → (before : Option (List ℕ)) (faults status : ℕ) (after : Option (List ℕ)) (later : ℕ)
    → Says (text_of (fault_outcome fault)) (outcome_status (fault_outcome fault)) before faults status after later → AnswersOver words source streams before faults status after later (streams, Finished)
refused_over line.Usage words source streams refused still before faults status after later says = record {
  answers = words_refused line.Usage words source refused still before faults status after later says;
  over = nothing_over (command_of words) _ streams (λ service asked. let e : Some (Serves service) ≡ None = sym asked ∙ refused in cc);
}
refused_over line.Memory words source streams named still before faults status after later says = record {
  answers = record { outcome = NoMemory; due = inr (refl, named); shown = still.0; unread = λ none. still; says = says };
  over = over_memory (command_of words) streams;
}

-- the same of what a call gives back
refused_left : (fault : LineFault) (words : List (List ℕ)) (source : Source) (streams : Streams) → WordsRefused fault words → IsUntouched source
    → (before : Option (List ℕ)) (faults status told : ℕ) (after : Option (List ℕ)) (later : ℕ) (left : Streams × Ending) → status ≡ told → left ≡ (streams, Finished)
    → Says (text_of (fault_outcome fault)) (outcome_status (fault_outcome fault)) before faults told after later → AnswersOver words source streams before faults status after later left
refused_left fault words source streams refused still before faults status told after later left same kept says =
    subst (λ s. AnswersOver words source streams before faults s after later left) (sym same)
    (subst (λ l. AnswersOver words source streams before faults told after later l) (sym kept)
    (refused_over fault words source streams refused still before faults told after later says))

pub returns-in-Err : goal.returns-in-Err
returns-in-Err g c =
    refused_left c.in-Err.fault (texts c.args.words.now) (source_of g.F.Files.holds g.F.Files.faults g.F.Files.taken c.args.files.now c.args.files.now)
    (streams_of g.I.Source.took g.I.Source.faults g.I.Source.moments g.O.Sink.told g.O.Sink.faults g.T.Sink.told g.T.Sink.faults c.args.streams) c.in-Err.ensures.fault (refl, refl) _ _ _ _ _ _ _
    c.left_alone-in-Err.ensures.0 (ap (left_of g.I.Source.took g.I.Source.faults g.I.Source.moments g.O.Sink.told g.O.Sink.faults g.T.Sink.told g.T.Sink.faults) c.left_alone-in-Err.ensures.1) c.refuse_words.ensures

pub returns-in-Ok-Serve : goal.returns-in-Ok-Serve
returns-in-Ok-Serve g c =
    c.serve.ensures (texts c.args.words.now) (c.in-Ok-Serve.ensures.command ∙ ap (λ (x : Asked). Some (command_view x)) c.in-Ok-Serve.field-0-is)

pub returns-in-Ok-Run : goal.returns-in-Ok-Run
returns-in-Ok-Run g c =
    let asked = c.in-Ok-Run.ensures.command ∙ ap (λ (x : Asked). Some (command_view x)) c.in-Ok-Run.field-0-is in
    untouched (texts c.args.words.now) _ _ _ _ _ _ _ _ _ (λ service e. let f = sym asked ∙ e in cc) c.left_alone.ensures.0
    (ap (left_of g.I.Source.took g.I.Source.faults g.I.Source.moments g.O.Sink.told g.O.Sink.faults g.T.Sink.told g.T.Sink.faults) c.left_alone.ensures.1) (c.do_run.ensures (texts c.args.words.now) asked)

pub do_generate-requires-clause-number : goal.do_generate-requires-clause-number
do_generate-requires-clause-number g c κs within =
    generated_within (texts c.args.words.now) c.in-Ok-Generate.number (c.in-Ok-Generate.ensures.command ∙ ap (λ (x : Asked). Some (command_view x)) c.in-Ok-Generate.field-0-is)

pub returns-in-Ok-Generate : goal.returns-in-Ok-Generate
returns-in-Ok-Generate g c =
    let asked = c.in-Ok-Generate.ensures.command ∙ ap (λ (x : Asked). Some (command_view x)) c.in-Ok-Generate.field-0-is in
    untouched (texts c.args.words.now) (source_of g.F.Files.holds g.F.Files.faults g.F.Files.taken c.args.files.now c.args.files.now) _ _ _ _ _ _ _ _ (λ service e. let f = sym asked ∙ e in cc)
    c.left_alone-in-Ok-Generate.ensures.0 (ap (left_of g.I.Source.took g.I.Source.faults g.I.Source.moments g.O.Sink.told g.O.Sink.faults g.T.Sink.told g.T.Sink.faults) c.left_alone-in-Ok-Generate.ensures.1)
    (made_answers (texts c.args.words.now) (source_of g.F.Files.holds g.F.Files.faults g.F.Files.taken c.args.files.now c.args.files.now) c.in-Ok-Generate.number
    asked refl refl _ _ _ _ _ c.do_generate.ensures)
