use Rattle.std.proofs.Common.{◌≡◌, ◌∙◌, sym, ap, ℕ, ◌≤◌, ◌==◌, true, List, take, replicate, Some, refl}
use Rattle.std.proofs.lemmas.List.{take-replicate}
use Rattle.nv_machine.specs.Guest.{Machine}
use Rattle.nv_guest.specs.Guest.{machine_by}
use Rattle.nv_guest.specs.Calls.{argument, set_size, set_in}
use Rattle.nv_guest.proofs.calls.Caller.set.Goals as goal

not-given : (m : Machine) (n size : ℕ) (zeros : List ℕ) → zeros ≡ replicate 128 0 → size ≤ 128 → size ≡ set_size m → argument m n ≡ 0 → Some (take size zeros) ≡ set_in n m
not-given m n size zeros are few is none =
    let taken : take size zeros ≡ replicate (set_size m) 0 = ap (take size) are ∙ take-replicate size 128 0 few ∙ ap (λ k. replicate k 0) is in
    let test : (argument m n == 0) ≡ true = rw none refl in
    rw test (ap (λ bytes. Some bytes) taken)

pub returns-then-place-eq0-clause-is : goal.returns-then-place-eq0-clause-is
returns-then-place-eq0-clause-is c =
    not-given (machine_by c.args.self.now) c.args.n _ c.args.zeros.now c.requires.zeros c.set_size-size.ensures.few c.set_size-size.ensures.size (sym c.argument-place.ensures ∙ c.if-place-eq0.true)
