-- The planned lengths of a script.
use Rattle.std.proofs.Common.{◌≡◌, true, ap, sym}
use Rattle.nv_script.specs.Scripts.{Setup, is_script}
use Rattle.nv_script.proofs.Sound.{script-keeps, hands-keep}
use Rattle.nv_driver.specs.Refusals.{IsPlanned}

-- a kernel over a script that keeps to the limits
pub planned_by : (kept setup : Setup) → kept ≡ setup → is_script setup ≡ true → IsPlanned kept setup.hands
planned_by kept setup same sound = record {
  same = ap (λ (s : Setup). s.hands) (sym same);
  few = (hands-keep setup.hands (script-keeps setup sound).hands).few;
}
