use Rattle.std.proofs.Common.{ap, sym, Some}
use Rattle.nv_driver.specs.Help.{help_of}
use Rattle.nv_driver.specs.Tables.{name_view}
use Rattle.nv_driver.specs.declared.names.Name.{Name}
use Rattle.nv_driver.proofs.help.command_help.Goals as goal

pub returns-in-Run : goal.returns-in-Run
returns-in-Run c = ap (λ (name : Name). help_of (Some (name_view name))) (sym c.in-Run.is)

pub returns-in-Serve : goal.returns-in-Serve
returns-in-Serve c = ap (λ (name : Name). help_of (Some (name_view name))) (sym c.in-Serve.is)

pub returns-in-Record : goal.returns-in-Record
returns-in-Record c = ap (λ (name : Name). help_of (Some (name_view name))) (sym c.in-Record.is)

pub returns-in-Replay : goal.returns-in-Replay
returns-in-Replay c = ap (λ (name : Name). help_of (Some (name_view name))) (sym c.in-Replay.is)

pub returns-in-Inspect : goal.returns-in-Inspect
returns-in-Inspect c = ap (λ (name : Name). help_of (Some (name_view name))) (sym c.in-Inspect.is)
