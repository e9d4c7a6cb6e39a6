use Rattle.std.proofs.Common.{◌∙◌, ◌++◌, ap, inl, inr, codes, List, ℕ, map}
use Rattle.nv_outside.proofs.Writing.{puts-is}
use Rattle.nv_threads.specs.Threads.{Proc}
use Rattle.nv_replay.specs.Version.{Running, standing_of}
use Rattle.nv_driver.specs.Account.{run_status}
use Rattle.nv_driver.specs.Outcome.{ended_with}
use Rattle.nv_cli.proofs.top.put_json.Goals as goal

pub returns-in-Ok : goal.returns-in-Ok
returns-in-Ok g c = inl (record {
  put = c.put_pieces-put.result;
  ends = c.ended.ensures ∙ ap (ended_with c.put_pieces-put.result) (c.status.ensures ∙ ap (λ (vs : List (Running Proc)). run_status (map standing_of vs)) c.deref-in-Ok.ensures.value);
  written = puts-is (ap (λ (text : List ℕ). text ++ codes "\n") (c.deref.ensures.value ∙ c.in-Ok.ensures)) c.put_pieces-put.ensures;
})

pub returns-in-Err : goal.returns-in-Err
returns-in-Err g c = inr c.put_line.ensures
