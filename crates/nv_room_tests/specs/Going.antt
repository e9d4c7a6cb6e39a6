-- Calls after which their thread lives on.
use Rattle.std.specs.Prelude.{◌≢◌}
use Rattle.nv_calls.specs.Calls.{Request}

-- neither exit nor exit_group
abbrev pub GoesOn : Request → Type 0
GoesOn c = (c.nr ≢ 94) × (c.nr ≢ 93)
