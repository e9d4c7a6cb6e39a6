use Rattle.std.proofs.Common.{◌≡◌, ◌∙◌, ap, ap₂, sym}
use Rattle.std.proofs.lemmas.Result.{IfOk-weaker}
use Rattle.nv_guest.specs.Guest.{machine_of}
use Rattle.nv_driver.specs.Words.{Limits, usual}
use Rattle.nv_script.specs.Scripts.{Setup}
use Rattle.nv_gen.specs.Texts.{bare}
use Rattle.nv_driver.specs.Account.{process_begun}
use Rattle.nv_driver.specs.Prepared.{Loads, version_from}
use Rattle.nv_driver.proofs.generating.read_version.Goals as goal

pub returns-in-Ok-clause-version : goal.returns-in-Ok-clause-version
returns-in-Ok-clause-version c =
    let machine = machine_of c.in-Ok.guest in
    let loads : version_from usual bare c.args.file.now ≡ Loads machine =
    ap₂ (λ (limits : Limits) (setup : Setup). version_from limits setup c.args.file.now) (sym c.usual-limits.ensures) (sym c.requires.script) ∙ c.in-Ok.ensures.guest in
    IfOk-weaker c.version.result _ _
    (λ version h. record {
      runs = record { machine = machine; loads = loads };
      begins = h ∙ ap₂ (λ (limits : Limits) (setup : Setup). process_begun limits setup machine) c.usual-limits.ensures c.requires.script;
    })
    c.version.ensures.process
