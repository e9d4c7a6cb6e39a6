use Rattle.std.proofs.Common.{◌∙◌, ap, subst, sym, List, map}
use Rattle.nv_outside.proofs.Writing.{puts-is}
use Rattle.nv_threads.specs.Threads.{Proc}
use Rattle.nv_replay.specs.Version.{Running, standing_of}
use Rattle.nv_trace.specs.Trace.{IsRecordable, trace_of}
use Rattle.nv_trace.proofs.Recording.{lawful_recordable}
use Rattle.nv_driver.specs.Account.{run_status}
use Rattle.nv_driver.specs.Outcome.{ended_with}
use Rattle.nv_cli.proofs.recording.put_trace.Goals as goal

pub write-put-requires : goal.write-put-requires
write-put-requires g c = subst IsRecordable (sym c.history.ensures.log) (lawful_recordable _ c.requires.short c.history.ensures.lawful)

pub returns : goal.returns
returns g c = record {
  put = c.write-put.result;
  ends = c.ended.ensures ∙ ap (ended_with c.write-put.result) (c.status.ensures ∙ ap (λ (vs : List (Running Proc)). run_status (map standing_of vs)) c.deref.ensures.value);
  written = puts-is (ap trace_of c.history.ensures.log) c.write-put.ensures;
}
