use Rattle.std.proofs.Common.{◌∙◌, ap}
use Rattle.nv_driver.specs.Outcome.{ended_with}
use Rattle.nv_driver.specs.Replayed.{replay_status}
use Rattle.nv_driver.proofs.replaying.put_replay.Goals as goal

pub returns : goal.returns
returns g c = record {
  put = c.put_followed-put.result;
  ends = c.ended.ensures ∙ ap (ended_with c.put_followed-put.result) (c.status.ensures ∙ ap (λ s. replay_status s.fate) c.standing.ensures);
  written = c.put_followed-put.ensures;
}
