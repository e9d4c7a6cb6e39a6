use Rattle.std.proofs.Common.{◌∙◌, ap, List, map}
use Rattle.nv_threads.specs.Threads.{Proc}
use Rattle.nv_replay.specs.Version.{Running, standing_of}
use Rattle.nv_driver.specs.Account.{run_status}
use Rattle.nv_driver.specs.Outcome.{ended_with}
use Rattle.nv_cli.proofs.top.put_report.Goals as goal

pub returns : goal.returns
returns g c = record {
  put = c.put_whole-put.result;
  ends = c.ended.ensures ∙ ap (ended_with c.put_whole-put.result) (c.status.ensures ∙ ap (λ (vs : List (Running Proc)). run_status (map standing_of vs)) c.deref.ensures.value);
  written = c.put_whole-put.ensures;
}
