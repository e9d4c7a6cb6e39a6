-- What a filter's instructions keep to.
use Rattle.std.proofs.Common.{◌≡◌, ℕ, ◌+◌, ◌<◌, ◌≤◌, ◌==◌, nat_lt, Bool, true, false, List, [], ◌∷◌, Option, Some, None, length, drop, get_or, slice_get, refl, sym, ap, ◌∙◌, arith, add-zero, zero-add, zero, suc, if◌then◌else◌}
use Rattle.std.proofs.lemmas.Bool.Decides.{nat_tests}
use Rattle.std.proofs.lemmas.List.{at_drop_more}
use Rattle.std.proofs.lemmas.Option.{same_Some, slice_get_read}
use Rattle.nv_bpf.specs.declared.op.Op.{Op}
use Rattle.nv_bpf.specs.declared.op.FilterFault.{FilterFault}
use Rattle.nv_bpf.specs.declared.op.FilterFault.TheVariants as fault
use Rattle.nv_bpf.specs.Verified.{op_fault, ops_fault, list_fault, or_later_fault, unless, ends_in_return}

pub or_later-none : (a b : Option FilterFault) → or_later_fault a b ≡ None → (a ≡ None) × (b ≡ None)
or_later-none None b h = (refl, h)
or_later-none (Some f) b h = cc

-- the first fault from a place on, at that place and after it
pub ops_fault-drop : (n i : ℕ) (ops : List Op) (op : Op) → i < length ops → ops_fault n i (drop i ops) ≡ or_later_fault (op_fault n i (get_or ops i op)) (ops_fault n (i + 1) (drop (i + 1) ops))
unfolding ops_fault
ops_fault-drop n i ops op h = at_drop_more (λ l. ops_fault n i l) ops i op h

-- each instruction of a list without a fault has none
pub ops_fault-none : (n i j : ℕ) (ops : List Op) (op : Op) → ops_fault n i ops ≡ None → slice_get ops j ≡ Some op → op_fault n (i + j) op ≡ None
unfolding ops_fault
ops_fault-none n i j [] op h e = cc
ops_fault-none n i zero (o ∷ ops) op h e =
    rw add-zero (ap (λ p. op_fault n i p) (sym (same_Some o op e)) ∙ (or_later-none (op_fault n i o) (ops_fault n (i + 1) ops) h).0)
ops_fault-none n i (suc j) (o ∷ ops) op h e =
    let next : i + suc j ≡ i + 1 + j = omega arith in
    rw next (ops_fault-none n (i + 1) j ops op (or_later-none (op_fault n i o) (ops_fault n (i + 1) ops) h).1 e)

-- what a list without a fault keeps to
pub record Sound (most : ℕ) (ops : List Op) : Type 0 where
  pub some : 0 < length ops
  pub few : length ops ≤ most
  pub each_op : ops_fault (length ops) 0 ops ≡ None
  pub end : ends_in_return ops ≡ true

unless-none : (b : Bool) (f : FilterFault) → unless b f ≡ None → b ≡ true
unless-none true f h = refl
unless-none false f h = cc

cases : (n most : ℕ) (zero few : Bool) (each end : Option FilterFault) → n == 0 ≡ zero → nat_lt most n ≡ few
    → (if zero then Some fault.Empty else (if few then Some fault.TooLong else or_later_fault each end)) ≡ None
    → (0 < n) × (n ≤ most) × (each ≡ None) × (end ≡ None)
cases n most true few each end e f h = cc
cases n most false true each end e f h = cc
cases n most false false each end e f h = let parts = or_later-none each end h in (grind (arith, nat_tests), grind (arith, nat_tests), parts.0, parts.1)

pub list_fault-none : (most : ℕ) (ops : List Op) → list_fault most ops ≡ None → Sound most ops
unfolding list_fault
list_fault-none most ops h =
    let parts = cases (length ops) most _ _ (ops_fault (length ops) 0 ops) (unless (ends_in_return ops) fault.NoReturn) refl refl h in
    record { some = parts.0; few = parts.1; each_op = parts.2; end = unless-none _ _ parts.3 }

-- no instruction of a filter has a fault
pub list_fault-op : (most i : ℕ) (ops : List Op) (op : Op) → list_fault most ops ≡ None → slice_get ops i ≡ Some op → op_fault (length ops) i op ≡ None
list_fault-op most i ops op h e = rw zero-add at (ops_fault-none (length ops) 0 i ops op (list_fault-none most ops h).each_op e)

-- the same of an instruction that was read by its place
pub list_fault-read : (most i : ℕ) (ops : List Op) (op : Op) → list_fault most ops ≡ None → i < length ops → op ≡ get_or ops i op → op_fault (length ops) i op ≡ None
list_fault-read most i ops op h lt e = list_fault-op most i ops op h (slice_get_read ops (length ops) i op refl lt e)
