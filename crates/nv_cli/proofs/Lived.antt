-- A live run that served is answered.
use Rattle.std.proofs.Common.{◌≡◌, ◌⊎◌, ⊎_elim, ℕ, List, Option, Some}
use Rattle.nv_bpf.specs.declared.op.Op.{Op}
use Rattle.nv_driver.specs.Words.{Service, Serves, command_of}
use Rattle.nv_machine.specs.Guest.{Machine}
use Rattle.nv_script.specs.Scripts.{Setup}
use Rattle.nv_driver.specs.Due.{AnswersOver, Says}
use Rattle.nv_driver.specs.Live.{Streams, Unserved}
use Rattle.nv_driver.specs.Outcome.{NoMemory, Source, text_of}
use Rattle.nv_driver.specs.Prepared.{Ready}
use Rattle.nv_driver.specs.Refusals.{LiveComesTo}
use Rattle.nv_driver.specs.declared.ending.Ending.{Ending}
use Rattle.nv_driver.specs.declared.ending.Ending.TheVariants.{Finished}
use Rattle.nv_driver.proofs.Commands.{over_served, served_answers, starved_answers}
use Rattle.nv_cli.specs.inner.Serving.{Served}

module _ (words : List (List ℕ)) (source : Source) (service : Service) (asked : command_of words ≡ Some (Serves service)) (kept : source.later_faults ≡ source.faults)
    (setup : Setup) (rules : Option (List Op)) (machines : List Machine) (files : LiveComesTo service source.holds (Ready setup rules machines)) (streams : Streams)
    (before : Option (List ℕ)) (faults status : ℕ) (after : Option (List ℕ)) (later : ℕ) (left : Streams × Ending) where
  ran : Served service.limits service.clients setup rules machines streams before faults status after later left → AnswersOver words source streams before faults status after later left
  ran s =
      let a = served_answers words source service asked before faults status after later kept setup rules machines files s.arrivals s.asked s.account s.only s.is_run s.says in
      record { answers = a; over = over_served words source service asked before faults status after later a.outcome streams left s.lived }

  starved : Says (text_of NoMemory) 3 before faults status after later × Unserved streams left.0 × (left.1 ≡ Finished) → AnswersOver words source streams before faults status after later left
  starved s =
      let a = starved_answers words source service asked before faults status after later kept s.0 in
      record { answers = a; over = over_served words source service asked before faults status after later a.outcome streams left (s.1, s.2) }

  pub serve_answers : Served service.limits service.clients setup rules machines streams before faults status after later left
      ⊎ (Says (text_of NoMemory) 3 before faults status after later × Unserved streams left.0 × (left.1 ≡ Finished)) → AnswersOver words source streams before faults status after later left
  serve_answers = ⊎_elim ran starved
