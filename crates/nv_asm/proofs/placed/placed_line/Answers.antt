use Rattle.std.proofs.Common.{length, ap, arith}
use Rattle.nv_bytes.specs.Lines.{Parts}
use Rattle.nv_asm.proofs.Sizes.{line_parts-le}
use Rattle.nv_asm.proofs.placed.placed_line.Goals as goal

pub returns-clause-small : goal.returns-clause-small
returns-clause-small c =
    let rest = ap (λ (p : Parts). length p.rest) c.line_parts-parts.ensures in
    omega (arith, rest, line_parts-le c.args.text.now, c.in_section-read.ensures.small, c.in_ok-statement_of.ensures.small)
