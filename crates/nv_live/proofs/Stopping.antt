-- What has stopped stays so.
use Rattle.std.proofs.Common.{◌≡◌, true, Option, Some, None, Ok, Err, IsErr, is_some, refl}
use Rattle.nv_outside.specs.Sink.{Put}
use Rattle.nv_live.specs.declared.incoming.Stopped.{Stopped}
use Rattle.nv_live.specs.Live.{stop_with}

-- where no failed write is forgotten
pub stays-stopped : (stopped : Option Stopped) (old new : Put) → (IsErr old → IsErr new) → is_some (stop_with stopped old) ≡ true → is_some (stop_with stopped new) ≡ true
stays-stopped (Some stopped) old new failed over = refl
stays-stopped None (Ok _) new failed over = cc
stays-stopped None (Err _) (Ok _) failed over = let whole = failed refl in cc
stays-stopped None (Err _) (Err _) failed over = refl
