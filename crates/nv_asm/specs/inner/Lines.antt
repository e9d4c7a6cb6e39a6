-- The code's lines as the definitions see them.
use Rattle.std.specs.Prelude.{ℕ, List, ◌<◌, ◌^◌, Result, Ok, Err, option_map}
use Rattle.std.specs.Global.{Global}
use Rattle.std.specs.declared.vec.Vec.{Vec}
use Rattle.nv_asm.specs.declared.fault.AsmCause.{AsmCause}
use Rattle.nv_asm.specs.declared.place.Reached.{Reached}
use Rattle.nv_asm.specs.declared.placed.Placed.{Placed}
use Rattle.nv_asm.specs.Places as rule
use Rattle.nv_asm.specs.inner.Views.{result_view}

abbrev pub placed_view : Placed → rule.Placed
placed_view p = record { line = p.line; label = option_map (λ name. name.now) p.label; read = result_view p.read; before = p.before }

-- both sections have fewer than 2^120 bytes
pub record IsSmall (r : Reached) : Type 0 where
  pub text : r.text_len < 2 ^ 120
  pub «data» : r.data_len < 2 ^ 120

abbrev pub laid_view : Result (Vec ℕ Global) AsmCause → Result (List ℕ) AsmCause
laid_view (Ok bytes) = Ok bytes.items
laid_view (Err c) = Err c
