use Rattle.std.proofs.Common.{◌≡◌, ◌+◌, ◌-◌, ◌<◌, ◌==◌, ◌++◌, false, Some, length, take, option_map, refl, sym, ap, ◌∙◌, arith, append-nil}
use Rattle.std.proofs.lemmas.Bool.Decides.{nat_tests}
use Rattle.std.proofs.lemmas.Slice.{take-put_mid}
use Rattle.nv_memory.specs.declared.region.Right.TheVariants.{Read}
use Rattle.nv_guest.specs.Vectors.{usable_at, parts_at, joined_parts}
use Rattle.nv_guest.proofs.Shaped.{length-bytes_at}
use Rattle.nv_guest.proofs.Walks.{parts-full, parts-all, parts-refused, parts-more, joined-more}
use Rattle.nv_guest.proofs.vectors.gather.Goals as goal

pub returns-then-filled-out-clause-bytes : goal.returns-then-filled-out-clause-bytes
returns-then-filled-out-clause-bytes c =
    let l = c.loop-i in
    let memory = c.args.memory.now in
    let all = l.auto.out in
    let none : length c.args.out.now - l.filled ≡ 0 = omega arith in
    ap Some (sym (append-nil (take l.filled l.out)))
    ∙ sym (ap (option_map (λ parts. take l.filled l.out ++ joined_parts memory parts)) (ap (λ n. parts_at memory Read (c.args.count - l._i) n l.at) none ∙ parts-full memory Read (c.args.count - l._i) l.at))
    ∙ l.invariant.bytes

pub returns-in_err-part-clause-bytes : goal.returns-in_err-part-clause-bytes
returns-in_err-part-clause-bytes c =
    let l = c.loop-i in
    let memory = c.args.memory.now in
    let all = l.auto.out in
    let some : 0 < length c.args.out.now - l.filled = omega arith in
    let left : (length c.args.out.now - l.filled == 0) ≡ false = grind (arith, nat_tests) in
    rw c.from_residual.ensures
    (sym (ap (option_map (λ parts. take l.filled l.out ++ joined_parts memory parts))
    (parts-refused memory Read (c.args.count - l._i) (length c.args.out.now - l.filled) l.at (omega arith) left (ap (λ n. usable_at memory Read (n - l.filled) l.at) (sym all) ∙ sym c.usable_at.ensures.part ∙ c.in_err-part.was)))
    ∙ l.invariant.bytes)

pub loop-i-preserved : goal.loop-i-preserved
loop-i-preserved c =
    let l = c.loop-i in
    let memory = c.args.memory.now in
    let part = c.in_ok-part.part in
    let few = c.in_ok-part.ensures.few in
    let all = l.auto.out in
    let some : 0 < length c.args.out.now - l.filled = omega arith in
    let left : (length c.args.out.now - l.filled == 0) ≡ false = grind (arith, nat_tests) in
    let size : length c.copy_part.new.out ≡ part.size = ap length c.copy_part.ensures ∙ length-bytes_at memory.bytes part.address part.size in
    record {
      bytes = sym (ap (option_map (λ parts. take l.filled l.out ++ joined_parts memory parts))
          (parts-more memory Read (c.args.count - l._i) (c.args.count - (l._i + 1)) (length c.args.out.now - l.filled) (length c.args.out.now - (l.filled + part.size)) l.at (l.at + 8) part
          (omega arith) (omega arith) left (ap (λ n. usable_at memory Read (n - l.filled) l.at) (sym all) ∙ sym c.in_ok-part.ensures.part) (omega arith) refl)
          ∙ joined-more memory (take l.filled l.out) _ part (parts_at memory Read (c.args.count - (l._i + 1)) (length c.args.out.now - (l.filled + part.size)) (l.at + 8))
          (take-put_mid l.filled _ l.out c.copy_part.new.out (l.filled + part.size) (omega arith) (omega arith) ∙ ap (λ bytes. take l.filled l.out ++ bytes) c.copy_part.ensures))
          ∙ l.invariant.bytes;
      inside = omega arith;
      place = omega arith;
    }

pub returns-clause-bytes : goal.returns-clause-bytes
returns-clause-bytes c =
    let l = c.loop-i in
    let memory = c.args.memory.now in
    ap Some (sym (append-nil (take l.filled l.out)))
    ∙ sym (ap (option_map (λ parts. take l.filled l.out ++ joined_parts memory parts)) (parts-all memory Read (c.args.count - l._i) (length c.args.out.now - l.filled) l.at (omega arith)))
    ∙ l.invariant.bytes
