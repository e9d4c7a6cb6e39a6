use Rattle.std.proofs.Common.{◌∙◌, ap}
use Rattle.nv_bytes.specs.Names.{defined}
use Rattle.nv_bytes.proofs.Known.{lookup-named}
use Rattle.nv_bytes.proofs.names.Names.find.Goals as goal

pub returns : goal.returns
returns g c =
    c.copied.ensures ∙ c.get.ensures.value ∙ lookup-named c.self.inside.first.entries c.args.name.now ∙ ap (λ names. defined names c.args.name.now) c.self.view_is
