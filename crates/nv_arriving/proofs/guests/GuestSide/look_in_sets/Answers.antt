use Rattle.std.proofs.Common.{◌≡◌, ◌∙◌, ap, ◌++◌, ℕ, [], ◌∷◌, List, length, map, slice_index, sym, zero-add, arith}
use Rattle.std.specs.List.{range_with_len}
use Rattle.std.proofs.lemmas.List.FromFn.{length-map-range_with_len, map-range_with_len_more}
use Rattle.nv_calls.specs.Calls.{request}
use Rattle.nv_calls.proofs.ShapeLaws.{set_bytes-few}
use Rattle.nv_arriving.specs.Polling.{ready_byte}
use Rattle.nv_arriving.specs.Views.{standing_of}
use Rattle.nv_arriving.proofs.Looking.{ready_more}
use Rattle.nv_arriving.proofs.guests.GuestSide.look_in_sets.Goals as goal

pub append-requires : goal.append-requires
append-requires c =
    let long : length c.loop-at.looked.told.items ≡ c.loop-at.at
    = ap length c.loop-at.invariant.0 ∙ length-map-range_with_len (ready_byte (standing_of c.args.self.now) (request c.args.call.now)) 0 c.loop-at.at in
    let few = set_bytes-few (slice_index c.args.call.now.args 0) in
    omega (arith, long, few, c.sets_bytes-at-end.ensures, c.loop-at-test.true)

pub loop-at-preserved : goal.loop-at-preserved
loop-at-preserved c =
    let byte : ℕ → ℕ = ready_byte (standing_of c.args.self.now) (request c.args.call.now) in
    let before : List ℕ = map byte (range_with_len 0 c.loop-at.at) in
    let told = c.append.ensures
    ∙ (ap (λ (z : List ℕ). z ++ c.ready_byte-found.result.bits ∷ []) c.loop-at.invariant.0
    ∙ (ap (λ (b : ℕ). before ++ b ∷ []) c.ready_byte-found.ensures.bits
    ∙ sym (map-range_with_len_more byte 0 c.loop-at.at c.loop-at.at (zero-add c.loop-at.at)))) in
    let more = ready_more (standing_of c.args.self.now) (request c.args.call.now) c.loop-at.at in
    let one = c.ready_byte-found.ensures.ones in
    let few = c.ready_byte-found.ensures.few in
    (told, omega (arith, c.loop-at.invariant.1, one, more), omega (arith, c.loop-at.invariant.2, few))
