-- A run of a filter goes as its definition says, and stays within it.
use Rattle.std.proofs.Common.{◌≡◌, ℕ, zero, suc, ◌+◌, ◌-◌, ◌<◌, ◌≤◌, ◌⊎◌, inl, inr, Bool, true, false, nat_lt, ◌&&◌, List, [], ◌∷◌, Option, Some, None, length, get_or, drop, refl, sym, ap, ◌∙◌, arith, if◌then◌else◌, option_map, option_and_then}
use Rattle.std.proofs.lemmas.Bool.Decides.{nat_tests}
use Rattle.std.proofs.lemmas.List.{at_drop_more, drop-drop, length-drop, get_or-drop}
use Rattle.std.proofs.lemmas.Bool.{cases_lt}
use Rattle.std.specs.List.{slice_get}
use Rattle.std.proofs.lemmas.Option.{get_or_from_slice_get, slice_get_within, slice_get-get_or, same_Some}
use Rattle.nv_bpf.specs.declared.op.Op.{Op}
use Rattle.nv_bpf.specs.declared.op.FilterFault.{FilterFault}
use Rattle.nv_bpf.specs.declared.action.Action.{Action}
use Rattle.nv_bpf.specs.declared.action.Action.TheVariants.{LoadWord, Load, LoadScratch, LoadLength, Store, Compute, Negate, Jump, Branch, ReturnConstant, ReturnAccumulator, Copy}
use Rattle.nv_bpf.specs.Actions.{action_of}
use Rattle.nv_bpf.specs.Verified.{unless, action_fault, fault_by, op_fault, list_fault, is_return, ends_in_return}
use Rattle.nv_bpf.proofs.FilterLaws.{list_fault-none, list_fault-op}
use Rattle.nv_rules.specs.Values.{FilterState, Effect, Ends, Goes, ends_without, calculated, operand_of, comparison_holds, acted, stepped, gone_on, returned_from}
use Rattle.nv_rules.specs.inner.Machine.{IsUsable, IsKnown, IsSoundOp}

unless-none : (b : Bool) (f : FilterFault) → unless b f ≡ None → b ≡ true
unless-none true f h = refl
unless-none false f h = cc

usable : (a : Action) (n i : ℕ) (op : Op) → action_fault a n i op ≡ None → IsUsable a op.k
usable LoadWord n i op h = let e = unless-none _ _ h in grind (arith, nat_tests)
usable (LoadScratch r) n i op h = let e = unless-none _ _ h in grind (arith, nat_tests)
usable (Store r) n i op h = let e = unless-none _ _ h in grind (arith, nat_tests)
usable (Load r) n i op h = tt
usable (LoadLength r) n i op h = tt
usable (Compute a o) n i op h = tt
usable Negate n i op h = tt
usable Jump n i op h = tt
usable (Branch c o) n i op h = tt
usable ReturnConstant n i op h = tt
usable ReturnAccumulator n i op h = tt
usable (Copy r) n i op h = tt

known : (a : Option Action) (n i : ℕ) (op : Op) → fault_by a n i op ≡ None → IsKnown a op.k
known None n i op h = cc
known (Some a) n i op h = usable a n i op h

-- an instruction without a fault is sound
pub IsSound-op : (n i : ℕ) (op : Op) → op_fault n i op ≡ None → IsSoundOp op
unfolding op_fault
IsSound-op n i op h = known (action_of op.code) n i op h

-- where an instruction goes on: it is no return, and it goes to the next one or to one within
pub record GoesOn (a : Action) (n i m : ℕ) : Type 0 where
  pub no_return : is_return (Some a) ≡ false
  pub within : (m ≡ 0) ⊎ (i + 1 + m < n)

goes-ends_without : (o : Option ℕ) (s t : FilterState) (m : ℕ) → ends_without o s ≡ Goes m t → m ≡ 0
goes-ends_without None s t m h = cc
goes-ends_without (Some v) s t m h = cc

first_of_two : (a b : Bool) → (a && b) ≡ true → (a ≡ true) × (b ≡ true)
first_of_two true b h = (refl, h)
first_of_two false b h = cc

goes-branch : (b : Bool) (jt jf m : ℕ) (s t : FilterState) → Goes (if b then jt else jf) s ≡ Goes m t → (m ≡ jt) ⊎ (m ≡ jf)
goes-branch true jt jf m s t h = inl cc
goes-branch false jt jf m s t h = inr cc

goes : (a : Action) (n i m : ℕ) (op : Op) (pair : List ℕ) (s t : FilterState) → action_fault a n i op ≡ None → acted a op pair s ≡ Goes m t → GoesOn a n i m
goes LoadWord n i m op pair s t h e = record { no_return = refl; within = inl cc }
goes (Load r) n i m op pair s t h e = record { no_return = refl; within = inl cc }
goes (LoadScratch r) n i m op pair s t h e = record { no_return = refl; within = inl cc }
goes (LoadLength r) n i m op pair s t h e = record { no_return = refl; within = inl cc }
goes (Store r) n i m op pair s t h e = record { no_return = refl; within = inl cc }
goes (Compute a o) n i m op pair s t h e = record { no_return = refl; within = inl (goes-ends_without (calculated a s.accumulator (operand_of o op.k s)) s t m e) }
goes Negate n i m op pair s t h e = record { no_return = refl; within = inl cc }
goes Jump n i m op pair s t h e =
    let f = unless-none _ _ h in
    let g : op.k ≡ m = cc in
    record { no_return = refl; within = inr (grind (arith, nat_tests)) }
goes (Branch c o) n i m op pair s t h e =
    let f = first_of_two (nat_lt (i + 1 + op.jt) n) (nat_lt (i + 1 + op.jf) n) (unless-none _ _ h) in
    let yes_lt : i + 1 + op.jt < n = grind (arith, nat_tests) in
    let no_lt : i + 1 + op.jf < n = grind (arith, nat_tests) in
    record {
      no_return = refl;
      within = inr (elim (goes-branch (comparison_holds c s.accumulator (operand_of o op.k s)) op.jt op.jf m s t e) [ inl p ↦ omega arith | inr p ↦ omega arith ]);
    }
goes ReturnConstant n i m op pair s t h e = cc
goes ReturnAccumulator n i m op pair s t h e = cc
goes (Copy r) n i m op pair s t h e = record { no_return = refl; within = inl cc }

stepped_goes : (a : Option Action) (n i m : ℕ) (op : Op) (pair : List ℕ) (s t : FilterState) → fault_by a n i op ≡ None
    → option_map (λ b. acted b op pair s) a ≡ Some (Goes m t) → (is_return a ≡ false) × ((m ≡ 0) ⊎ (i + 1 + m < n))
stepped_goes None n i m op pair s t h e = cc
stepped_goes (Some a) n i m op pair s t h e = let g = goes a n i m op pair s t h (same_Some _ _ e) in (g.no_return, g.within)

last_returns : (ops : List Op) (i : ℕ) (op : Op) → ends_in_return ops ≡ true → slice_get ops i ≡ Some op → is_return (action_of op.code) ≡ false → length ops ≤ i + 1 → ⊥
last_returns ops i op end e no_return h =
    let lt = slice_get_within ops i op e in
    let place : length ops - 1 ≡ i = omega arith in
    let read : slice_get ops (length ops - 1) ≡ Some op = ap (λ j. slice_get ops j) place ∙ e in
    let is_end : is_return (action_of op.code) ≡ true = sym (ap (λ o. is_return (option_and_then (λ p. action_of p.code) o)) read) ∙ end in
    cc

-- an instruction of a filter that goes on goes to one of the filter
pub stepped-within : (most i m : ℕ) (ops : List Op) (op : Op) (pair : List ℕ) (s t : FilterState) → list_fault most ops ≡ None → slice_get ops i ≡ Some op
    → stepped op pair s ≡ Some (Goes m t) → i + (1 + m) < length ops
unfolding op_fault
stepped-within most i m ops op pair s t h e g =
    let lt = slice_get_within ops i op e in
    let step = stepped_goes (action_of op.code) (length ops) i m op pair s t (list_fault-op most i ops op h e) g in
    elim step.1 [
      | inl none ↦ elim (cases_lt (i + 1) (length ops)) [
        | inl within ↦ omega arith
        | inr past ↦ absurd (last_returns ops i op (list_fault-none most ops h).end e step.0 past)
      ]
      | inr within ↦ omega arith
    ]

-- what is past so many instructions begins after them
returned_from-drop : (pair : List ℕ) (n : ℕ) (s : FilterState) (ops : List Op) → returned_from pair n s ops ≡ returned_from pair 0 s (drop n ops)
unfolding returned_from
returned_from-drop pair zero s ops = refl
returned_from-drop pair (suc n) s [] = refl
returned_from-drop pair (suc n) s (op ∷ ops) = returned_from-drop pair n s ops

-- at an instruction, by how it ends
pub returned_from-at : (pair : List ℕ) (i : ℕ) (s : FilterState) (ops : List Op) (op : Op) (o : Effect) → slice_get ops i ≡ Some op → stepped op pair s ≡ Some o
    → returned_from pair 0 s (drop i ops) ≡ gone_on (Some o) (λ n t. returned_from pair n t (drop (i + 1) ops))
unfolding returned_from
returned_from-at pair i s ops op o e g =
    at_drop_more (λ rest. returned_from pair 0 s rest) ops i op (slice_get_within ops i op e)
    ∙ ap (λ p. gone_on (stepped p pair s) (λ n t. returned_from pair n t (drop (i + 1) ops))) (get_or_from_slice_get ops i op op e)
    ∙ ap (λ p. gone_on p (λ n t. returned_from pair n t (drop (i + 1) ops))) g

pub returned_from-ends : (pair : List ℕ) (i v : ℕ) (s : FilterState) (ops : List Op) (op : Op) → slice_get ops i ≡ Some op → stepped op pair s ≡ Some (Ends v)
    → returned_from pair 0 s (drop i ops) ≡ Some v
returned_from-ends pair i v s ops op e g = returned_from-at pair i s ops op (Ends v) e g

pub returned_from-goes : (pair : List ℕ) (i m : ℕ) (s t : FilterState) (ops : List Op) (op : Op) → slice_get ops i ≡ Some op → stepped op pair s ≡ Some (Goes m t)
    → returned_from pair 0 s (drop i ops) ≡ returned_from pair 0 t (drop (i + (1 + m)) ops)
returned_from-goes pair i m s t ops op e g =
    let place : i + 1 + m ≡ i + (1 + m) = omega arith in
    returned_from-at pair i s ops op (Goes m t) e g ∙ returned_from-drop pair m t (drop (i + 1) ops)
    ∙ ap (λ rest. returned_from pair 0 t rest) (drop-drop m (i + 1) ops ∙ ap (λ j. drop j ops) place)

-- the first instruction of what is left of a filter
abbrev pub first : List Op → Op
first ops = get_or ops 0 (record { code = 0; jt = 0; jf = 0; k = 0 })

pub first-read : (ops rest : List Op) (i : ℕ) → rest ≡ drop i ops → 0 < length rest → slice_get ops i ≡ Some (first rest)
first-read ops rest i e some =
    let long : length rest ≡ length ops - i = ap length e ∙ length-drop i ops in
    let place : i + 0 ≡ i = omega arith in
    slice_get-get_or ops i (first []) (omega arith) ∙ ap Some (sym (ap first e ∙ get_or-drop i ops 0 (first []) ∙ ap (λ j. get_or ops j (first [])) place))

-- what is left of a filter, where the instructions before it went past it
pub record Left (ops rest : List Op) (pair : List ℕ) (s : FilterState) (value : Option ℕ) : Type 0 where
  pub some : 0 < length rest
  pub place : (i : ℕ) × (rest ≡ drop i ops)
  pub returns : returned_from pair 0 s rest ≡ value

pub first-sound : (most : ℕ) (ops rest : List Op) (pair : List ℕ) (s : FilterState) (value : Option ℕ) → list_fault most ops ≡ None → Left ops rest pair s value → IsSoundOp (first rest)
first-sound most ops rest pair s value verified left =
    IsSound-op (length ops) left.place.0 (first rest) (list_fault-op most left.place.0 ops (first rest) verified (first-read ops rest left.place.0 left.place.1 left.some))

pub first-ends : (ops rest : List Op) (pair : List ℕ) (v : ℕ) (s : FilterState) (value : Option ℕ) → Left ops rest pair s value → stepped (first rest) pair s ≡ Some (Ends v) → value ≡ Some v
first-ends ops rest pair v s value left step =
    let i = left.place.0 in
    let e = left.place.1 in
    sym left.returns ∙ ap (returned_from pair 0 s) e ∙ returned_from-ends pair i v s ops (first rest) (first-read ops rest i e left.some) step

-- the first instruction goes past fewer than are left after it
pub first-within : (most : ℕ) (ops rest : List Op) (pair : List ℕ) (n : ℕ) (s t : FilterState) (value : Option ℕ) → list_fault most ops ≡ None → Left ops rest pair s value
    → stepped (first rest) pair s ≡ Some (Goes n t) → 1 + n < length rest
first-within most ops rest pair n s t value verified left step =
    let i = left.place.0 in
    let long : length rest ≡ length ops - i = ap length left.place.1 ∙ length-drop i ops in
    let within = stepped-within most i n ops (first rest) pair s t verified (first-read ops rest i left.place.1 left.some) step in
    omega arith

-- the instructions that it goes to are left
pub first-goes : (most : ℕ) (ops rest later : List Op) (pair : List ℕ) (n : ℕ) (s t : FilterState) (value : Option ℕ) → list_fault most ops ≡ None → Left ops rest pair s value
    → stepped (first rest) pair s ≡ Some (Goes n t) → later ≡ drop (1 + n) rest → Left ops later pair t value
first-goes most ops rest later pair n s t value verified left step past =
    let i = left.place.0 in
    let e = left.place.1 in
    let within = first-within most ops rest pair n s t value verified left step in
    let place = past ∙ ap (drop (1 + n)) e ∙ drop-drop (1 + n) i ops in
    let long : length later ≡ length rest - (1 + n) = ap length past ∙ length-drop (1 + n) rest in
    record {
      some = omega arith;
      place = (i + (1 + n), place);
      returns = ap (returned_from pair 0 t) place ∙ sym (returned_from-goes pair i n s t ops (first rest) (first-read ops rest i e left.some) step) ∙ sym (ap (returned_from pair 0 s) e) ∙ left.returns;
    }
