use Rattle.std.proofs.Common.{◌∙◌, ap, sym, is_some}
use Rattle.nv_bytes.specs.Names.{defined}
use Rattle.nv_bytes.proofs.Known.{lookup-named, known-kept, known-inserted}
use Rattle.nv_bytes.proofs.names.Names.define.Goals as goal

pub returns-then-contains_key-clause-ok : goal.returns-then-contains_key-clause-ok
returns-then-contains_key-clause-ok g c =
    let name = c.args.name.now in
    known-kept c.args.self.now name c.args.definition
    (ap (λ names. is_some (defined names name)) (sym c.self.view_is) ∙ ap is_some (sym (lookup-named c.self.inside.first.entries name)) ∙ sym c.contains_key.ensures ∙ c.if-contains_key.true)

pub returns-clause-ok : goal.returns-clause-ok
returns-clause-ok g c =
    known-inserted c.self.inside.first.entries c.insert.new.self.entries c.args.self.now c.args.name.now c.args.definition c.self.view_is
    (sym c.contains_key.ensures ∙ c.if-contains_key.false) c.in_ok-insert.ensures.updates.0
