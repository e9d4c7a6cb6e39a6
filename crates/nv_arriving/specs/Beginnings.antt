-- How what a kernel is made over is stored.
use Rattle.std.specs.Prelude.{refl}
use Rattle.std.specs.Coded.{Coded, code_by, coded×}
use Rattle.nv_script.specs.Scripts.{Setup}
use Rattle.nv_arriving.specs.Kernel.{Begun}

-- as the pair of its fields
abbrev pub begun_code : {T : Type 0} → Coded Setup → Coded T → Coded (Begun T)
begun_code {T} setup told = code_by (Setup × T) (coded× setup told) (λ b. (b.setup, b.told)) (λ p. record { setup = p.0; told = p.1 }) (λ _. refl)
