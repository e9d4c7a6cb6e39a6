-- What a guest does leaves the regions of its memory as they are, and as many bytes.
use Rattle.std.proofs.Common.{◌≡◌, ◌∙◌, sym, ap, subst, refl, ℕ, zero, suc, ◌+◌, ◌-◌, ◌^◌, Bool, true, false, cond, ◌&&◌, ◌==◌, nat_lt, List, [], ◌∷◌, length, take, drop, ℤ, Option, Some, None, Result, Ok, Err}
use Rattle.nv_isa.specs.declared.op.Op.{Op}
use Rattle.nv_isa.specs.declared.op.Op.TheVariants.{Sb, Sh, Sw, StoreConditional, AmoSwap, AmoAdd, AmoXor, AmoAnd, AmoOr, AmoMin, AmoMax, AmoMinu, AmoMaxu}
use Rattle.nv_isa.specs.declared.op.Insn.{Insn}
use Rattle.nv_isa.specs.Table.{decoded}
use Rattle.nv_memory.specs.declared.region.Region.{Region}
use Rattle.nv_memory.specs.declared.region.Access.{Access}
use Rattle.nv_memory.specs.declared.region.Width.TheVariants.{Four}
use Rattle.nv_memory.specs.declared.region.Right.TheVariants.{Read, Write, Execute}
use Rattle.nv_memory.specs.Bytes.{put, little_bytes, byte_count}
use Rattle.nv_memory.proofs.BytesLaws.{length_put}
use Rattle.nv_memory.specs.Region.{AreRegions, holds}
use Rattle.nv_memory.specs.Image.{Image, stored, value_at}
use Rattle.nv_machine.specs.declared.outcome.Stepped.TheVariants.{On, Call, Fault}
use Rattle.nv_machine.specs.declared.outcome.FaultKind.TheVariants as kinds
use Rattle.nv_machine.specs.Effects.{sum, combined}
use Rattle.nv_machine.specs.Guest.{Machine, StepResult, fault, stores, is_word_at, is_reserved, store_conditional, word_at, combines, effect, executed, fetched, guest_step, register, immediate_word, width_of}
use Rattle.nv_calls.specs.declared.numbers.Syscall.{Syscall}
use Rattle.nv_calls.specs.declared.numbers.Syscall.TheVariants.{Readv, Pselect6, Ppoll}
use Rattle.nv_calls.specs.Answers.{polled_count}
use Rattle.nv_calls.specs.Numbers.{syscall_of}
use Rattle.nv_guest.specs.declared.heap.Heap.{Heap}
use Rattle.nv_guest.specs.declared.vectors.Part.{Part}
use Rattle.nv_guest.specs.Answers.{with_byte, with_each_byte, scattered, targets_at, with_sets, with_events}
use Rattle.nv_guest.specs.Calls.{call_number, argument, vector_count, out_of, set_size, set_places, stored_at, memory_after, with_answer}
use Rattle.nv_guest.specs.Threads.{Threaded, MachineRan, tids, run, unless_stopped, last_region}
use Rattle.nv_guest.specs.inner.Heap.{HasHeap, IsClear}
use Rattle.nv_guest.specs.Guest.{machine_with}
use Rattle.std.specs.Prelude.{Contains}
use Rattle.nv_machine.specs.Registers.{Registers}

pub record Stays (a b : Image) : Type 0 where
  pub regions : b.regions ≡ a.regions
  pub size : length b.bytes ≡ length a.bytes

pub stays : (a : Image) → Stays a a
stays a = record { regions = refl; size = refl }

then_stays : (a b c : Image) → Stays a b → Stays b c → Stays a c
then_stays a b c p q = record { regions = q.regions ∙ p.regions; size = q.size ∙ p.size }

put_stays : (a : Image) (at : ℕ) (bytes : List ℕ) → Stays a (record a { bytes = put a.bytes at bytes })
put_stays a at bytes = record { regions = refl; size = length_put a.bytes at bytes }

pub heap_stays : (a b : Image) (heap : Heap) → HasHeap a heap → Stays a b → HasHeap b heap
heap_stays a b heap h s = record {
  are = subst (λ (n : ℕ). AreRegions n b.regions) (sym s.size) (subst (λ (rs : List Region). AreRegions (length a.bytes) rs) (sym s.regions) h.are);
  place = ap length s.regions ∙ h.place;
  start = ap (λ (rs : List Region). (last_region rs).start) s.regions ∙ h.start;
  end = ap (λ (rs : List Region). (last_region rs).end) s.regions ∙ h.end;
  limit = ap (λ (n : ℕ). n - 65536) s.size ∙ h.limit;
  clear = subst (IsClear heap.start heap.limit) (sym s.regions) h.clear;
}

-- ---- an answer

cond_stays : (b : Bool) (a x y : Image) → Stays a x → Stays a y → Stays a (cond b x y)
cond_stays true a x y p q = p
cond_stays false a x y p q = q

stored_stays : (a : Image) (at : ℕ) (bytes : List ℕ) → Stays a (stored a at bytes)
stored_stays a at bytes = cond_stays (holds a.regions at (length bytes) Write) a _ _ (put_stays a at bytes) (stays a)

byte_stays : (a : Image) (at b : ℕ) → Stays a (with_byte a at b)
unfolding with_byte
byte_stays a at b = cond_stays (nat_lt at (2 ^ 32)) a _ _ (stored_stays a at (b ∷ [])) (stays a)

bytes_stay : (a : Image) (at : ℕ) (bytes : List ℕ) → Stays a (with_each_byte a at bytes)
unfolding with_each_byte
bytes_stay a at [] = stays a
bytes_stay a at (b ∷ bs) = then_stays a (with_byte a at b) (with_each_byte (with_byte a at b) (at + 1) bs) (byte_stays a at b) (bytes_stay (with_byte a at b) (at + 1) bs)

scattered_stays : (a : Image) (parts : List Part) (bytes : List ℕ) → Stays a (scattered a parts bytes)
unfolding scattered
scattered_stays a [] bytes = stays a
scattered_stays a (p ∷ ps) bytes =
    let b = with_each_byte a p.address (take p.size bytes) in
    then_stays a b (scattered b ps (drop p.size bytes)) (bytes_stay a p.address (take p.size bytes)) (scattered_stays b ps (drop p.size bytes))

at_stays : (a : Image) (part : Option Part) (bytes : List ℕ) → Stays a (stored_at a part bytes)
at_stays a None bytes = stays a
at_stays a (Some p) bytes = bytes_stay a p.address bytes

events_stay : (a : Image) (list count : ℕ) (bytes : List ℕ) → Stays a (with_events a list count bytes)
events_stay a list zero bytes = stays a
events_stay a list (suc count) bytes =
    let b = with_each_byte a (list + 6) (take 2 bytes) in
    then_stays a b (with_events b (list + 8) count (drop 2 bytes)) (bytes_stay a (list + 6) (take 2 bytes)) (events_stay b (list + 8) count (drop 2 bytes))

sets_stay : (a : Image) (n : ℕ) (places bytes : List ℕ) → Stays a (with_sets a n places bytes)
sets_stay a n [] bytes = stays a
sets_stay a n (place ∷ places) bytes =
    let b = cond (place == 0) a (with_each_byte a place (take n bytes)) in
    let first : Stays a b = cond_stays (place == 0) a a _ (stays a) (bytes_stay a place (take n bytes)) in
    then_stays a b (with_sets b n places (drop n bytes)) first (sets_stay b n places (drop n bytes))

after_stays : (k : Syscall) (m : Machine) (bytes : List ℕ) → Stays m.memory (memory_after k m bytes)
after_stays Readv m bytes = scattered_stays m.memory (targets_at m.memory (vector_count m) (length bytes) (argument m 1)) bytes
after_stays Pselect6 m bytes = sets_stay m.memory (set_size m) (set_places m) bytes
after_stays Ppoll m bytes = events_stay m.memory (argument m 0) (polled_count (argument m 1)) bytes
after_stays k m bytes = at_stays m.memory (out_of k m) bytes

pub answered_stays : (m : Machine) (ret : ℤ) (bytes : List ℕ) → Stays m.memory (with_answer m ret bytes).memory
unfolding with_answer
answered_stays m ret bytes = after_stays (syscall_of (call_number m)) m bytes

-- ---- instructions

store_by : (b : Bool) (m x : Machine) → Stays m.memory x.memory → Stays m.memory (cond {A = StepResult} b (On, x) (fault kinds.Store m)).1.memory
store_by true m x h = h
store_by false m x h = stays m.memory

stores_stay : (o : Op) (i : Insn) (m : Machine) → Stays m.memory (stores o i m).1.memory
stores_stay o i m =
    let a = sum (register m.regs i.rs1) (immediate_word i) in
    store_by (holds m.memory.regions a (byte_count (width_of o)) Write) m _ (put_stays m.memory a (little_bytes (byte_count (width_of o)) (register m.regs i.rs2)))

tried_by : (b c : Bool) (m x y : Machine) → Stays m.memory x.memory → Stays m.memory y.memory
    → Stays m.memory (cond {A = StepResult} b (cond {A = StepResult} c (On, x) (On, y)) (fault kinds.Store m)).1.memory
tried_by true true m x y h k = h
tried_by true false m x y h k = k
tried_by false c m x y h k = stays m.memory

conditional_stays : (i : Insn) (m : Machine) → Stays m.memory (store_conditional i m).1.memory
conditional_stays i m =
    let a = register m.regs i.rs1 in
    tried_by (is_word_at m.memory a Write) (is_reserved m.regs.reserved a) m _ _ (put_stays m.memory a (little_bytes 4 (register m.regs i.rs2))) (stays m.memory)

combines_stay : (o : Op) (i : Insn) (m : Machine) → Stays m.memory (combines o i m).1.memory
combines_stay o i m =
    let a = register m.regs i.rs1 in
    store_by (is_word_at m.memory a Write && holds m.memory.regions a 4 Read) m _ (put_stays m.memory a (little_bytes 4 (combined o (word_at m.memory a) (register m.regs i.rs2))))

effect_stays : (o : Op) (i : Insn) (m : Machine) → Stays m.memory (effect o i m).1.memory
effect_stays Sb i m = stores_stay Sb i m
effect_stays Sh i m = stores_stay Sh i m
effect_stays Sw i m = stores_stay Sw i m
effect_stays StoreConditional i m = conditional_stays i m
effect_stays AmoSwap i m = combines_stay AmoSwap i m
effect_stays AmoAdd i m = combines_stay AmoAdd i m
effect_stays AmoXor i m = combines_stay AmoXor i m
effect_stays AmoAnd i m = combines_stay AmoAnd i m
effect_stays AmoOr i m = combines_stay AmoOr i m
effect_stays AmoMin i m = combines_stay AmoMin i m
effect_stays AmoMax i m = combines_stay AmoMax i m
effect_stays AmoMinu i m = combines_stay AmoMinu i m
effect_stays AmoMaxu i m = combines_stay AmoMaxu i m
effect_stays _ i m = stays m.memory

executed_stays : (d : Option Insn) (m : Machine) → Stays m.memory (executed d m).1.memory
executed_stays None m = stays m.memory
executed_stays (Some i) m = effect_stays i.op i m

fetched_stays : (l : Result ℕ Access) (m : Machine) → Stays m.memory (fetched l m).1.memory
fetched_stays (Ok w) m = executed_stays (decoded w) m
fetched_stays (Err e) m = stays m.memory

step_stays : (m : Machine) → Stays m.memory (guest_step m).1.memory
unfolding guest_step
step_stays m = fetched_stays (value_at m.memory m.regs.pc Four Execute) m

unless_stays : (most : ℕ) (m : Machine) (s : StepResult) → Stays m.memory s.1.memory → (Stays s.1.memory (run most s.1).2.memory) → Stays m.memory (unless_stopped (run most) s).2.memory
unless_stays most m (On, x) p q = then_stays m.memory x.memory (run most x).2.memory p q
unless_stays most m (Call, x) p q = p
unless_stays most m (Fault kind, x) p q = p

pub run_stays : (most : ℕ) (m : Machine) → Stays m.memory (run most m).2.memory
unfolding run
run_stays zero m = stays m.memory
run_stays (suc most) m = unless_stays most m (guest_step m) (step_stays m) (run_stays most (guest_step m).1)

-- ---- what the calls of a guest say

pub ran_stays : (most : ℕ) (r : Registers) (a : Image) (x : MachineRan) → run most (machine_with r a) ≡ x → Stays a x.2.memory
ran_stays most r a x h = subst (λ (y : MachineRan). Stays a y.2.memory) h (run_stays most (machine_with r a))

pub gave_stays : (r : Registers) (a : Image) (ret : ℤ) (bytes : List ℕ) (m : Machine) → m ≡ with_answer (machine_with r a) ret bytes → Stays a m.memory
gave_stays r a ret bytes m h = subst (λ (y : Machine). Stays a y.memory) (sym h) (answered_stays (machine_with r a) ret bytes)

pub lives_in : (g h : Threaded) (tid : ℕ) → g ≡ h → Contains (tids h.threads) tid → Contains (tids g.threads) tid
lives_in g h tid e c = subst (λ (x : Threaded). Contains (tids x.threads) tid) (sym e) c
