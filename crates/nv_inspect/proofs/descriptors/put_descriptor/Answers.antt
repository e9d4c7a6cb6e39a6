use Rattle.std.proofs.Common.{◌≡◌, ◌∙◌, ℕ, refl, ap}
use Rattle.nv_outside.proofs.Writing.{puts-is}
use Rattle.nv_fs.specs.declared.telling.Opened.{Opened}
use Rattle.nv_fs.specs.declared.telling.Opened.TheVariants.{Closed, Input, Console, File, PipeRead, PipeWrite}
use Rattle.nv_inspect.specs.Shown.{named_text, descriptor_as}
use Rattle.nv_inspect.proofs.descriptors.put_descriptor.Goals as goal

open_is : (fd : ℕ) (o : Opened) → (o ≡ Closed → ⊥) → named_text fd o ≡ descriptor_as fd o
open_is fd Closed h = absurd (h refl)
open_is fd Input h = refl
open_is fd Console h = refl
open_is fd (File offset size) h = refl
open_is fd PipeRead h = refl
open_is fd PipeWrite h = refl

pub returns-in_default : goal.returns-in_default
returns-in_default g c = puts-is (open_is c.args.fd c.opened.result c.in_default.not-Closed ∙ ap (descriptor_as c.args.fd) c.opened.ensures) c.put_named.ensures
