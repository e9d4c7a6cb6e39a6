use Rattle.std.proofs.Common.{◌∙◌, sym, ap, ℕ, List, slice_index}
use Rattle.nv_calls.specs.Calls.{request}
use Rattle.nv_arriving.specs.Views.{standing_of}
use Rattle.nv_arriving.proofs.Looking.{none_byte, none_ready}
use Rattle.nv_arriving.proofs.guests.GuestSide.ready_byte.Goals as goal

pub returns-then-byte-eq0-clause-bits : goal.returns-then-byte-eq0-clause-bits
returns-then-byte-eq0-clause-bits c =
    none_byte (standing_of c.args.self.now) (request c.args.call.now) c.requires.selects c.args.at (ap (λ (l : List ℕ). slice_index l c.args.at) (sym c.as_slice.ensures.bytes) ∙ sym c.byte.ensures ∙ c.if-byte-eq0.true)

pub returns-then-byte-eq0-clause-ones : goal.returns-then-byte-eq0-clause-ones
returns-then-byte-eq0-clause-ones c =
    none_ready (standing_of c.args.self.now) (request c.args.call.now) c.requires.selects c.args.at (ap (λ (l : List ℕ). slice_index l c.args.at) (sym c.as_slice.ensures.bytes) ∙ sym c.byte.ensures ∙ c.if-byte-eq0.true)
