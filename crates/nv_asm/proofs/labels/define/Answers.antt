use Rattle.std.proofs.Common.{ℕ, List, Bor, Option, Some, option_map, ap, sym, ◌∙◌}
use Rattle.nv_bytes.specs.Names.{defining}
use Rattle.nv_asm.specs.declared.place.Label.{Label}
use Rattle.nv_asm.specs.declared.place.Place.{Place}
use Rattle.nv_asm.specs.inner.Known.{defined_among}
use Rattle.nv_asm.specs.Places.{place}
use Rattle.nv_asm.specs.inner.Lines.{placed_view}
use Rattle.nv_asm.proofs.Passing.{found-defined}
use Rattle.nv_asm.proofs.labels.define.Goals as goal

abbrev at : ℕ → Place → Label
at n p = record { line = n; place = p }

pub returns-clause-known : goal.returns-clause-known
returns-clause-known c rest name =
    let n = c.args.placed.now.line in
    ap (λ (o : Option (Bor (List ℕ))). defined_among c.args.names.now (defining (option_map (λ name. name.now) o) (at n (place (placed_view c.args.placed.now))) rest) name) c.in-Some.is
    ∙ ap (λ (p : Place). defined_among c.args.names.now (defining (Some c.in-Some.name.now) (at n p) rest) name) (sym c.place.ensures.value)
    ∙ found-defined c.args.names.now c.define.new.self rest c.in-Some.name.now name (at n c.place.result) c.in_ok-define.ensures.ok
