use denote.Exit.{no}
use denote.Param.Send.{param_send, arg_send}
use Rattle.nv_outside.specs.contracts.memory_sink.MemorySink as MemorySink
use Rattle.nv_rows.proofs.Sending.{source_send}
use Rattle.nv_rows.proofs.call.serve_through.Goals as goal

pub varan_over-status-requires-send-I : goal.varan_over-status-requires-send-I
varan_over-status-requires-send-I g c κs within = param_send 4 _ (arg_send _ no _ (source_send MemorySink.the_row MemorySink.the_row))
