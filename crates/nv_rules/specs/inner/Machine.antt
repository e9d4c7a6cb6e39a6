-- The code's machine as the definitions see it.
use Rattle.std.specs.Prelude.{ℕ, List, ◌<◌, ◌/◌, Option, Some, None}
use Rattle.nv_bpf.specs.declared.op.Op.{Op}
use Rattle.nv_bpf.specs.declared.action.Action.{Action}
use Rattle.nv_bpf.specs.declared.action.Action.TheVariants.{LoadWord, LoadScratch, Store}
use Rattle.nv_bpf.specs.Actions.{action_of}
use Rattle.nv_rules.specs.declared.machine.Registers.{Registers}
use Rattle.nv_rules.specs.declared.machine.Step.{Step}
use Rattle.nv_rules.specs.declared.machine.Step.TheVariants.{Return, Next, Forward}
use Rattle.nv_rules.specs.Values.{FilterState, Effect, Ends, Goes}

-- the registers with the scratch memory
abbrev pub state_of : Registers → List ℕ → FilterState
state_of r scratch = record { accumulator = r.accumulator; index = r.index; scratch = scratch }

abbrev pub effect_of : Step → Registers → List ℕ → Effect
effect_of (Return value) r scratch = Ends value
effect_of Next r scratch = Goes 0 (state_of r scratch)
effect_of (Forward n) r scratch = Goes n (state_of r scratch)

-- the places that an instruction reads or writes are there
abbrev pub IsUsable : Action → ℕ → Type 0
IsUsable LoadWord k = k / 4 < 36
IsUsable (LoadScratch r) k = k < 16
IsUsable (Store r) k = k < 16
IsUsable _ k = Unit {0}

abbrev pub IsKnown : Option Action → ℕ → Type 0
IsKnown None k = ⊥
IsKnown (Some a) k = IsUsable a k

-- the instruction has an action, and its places are there
abbrev pub IsSoundOp : Op → Type 0
IsSoundOp op = IsKnown (action_of op.code) op.k
