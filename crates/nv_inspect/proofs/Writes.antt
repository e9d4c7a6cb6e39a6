-- How texts by number are written one after another.
use Rattle.std.proofs.Common.{◌≡◌, ℕ, zero, suc, ◌+◌, ◌-◌, ◌<◌, List, [], ◌++◌, Option, refl, sym, ap, ◌∙◌, arith, append_assoc, append-nil, Ok, Err, IsErr}
use Rattle.nv_outside.specs.Sink.{Put, Puts}
use Rattle.nv_outside.specs.declared.sink.WriteFailed.{WriteFailed}
use Rattle.nv_outside.proofs.Writing.{puts-is, puts-then, puts-failed}
use Rattle.nv_inspect.specs.Firsts.{texts_below}

pub firsts-none : (text : ℕ → List ℕ) → texts_below text 0 ≡ []
unfolding texts_below
firsts-none text = refl

firsts-one : (text : ℕ → List ℕ) (n : ℕ) → texts_below text n ++ text n ≡ texts_below text (n + 1)
unfolding texts_below
firsts-one text n = let e : suc n ≡ n + 1 = omega arith in ap (texts_below text) e

-- those of more numbers begin with those of fewer
further : (text : ℕ → List ℕ) (n k : ℕ) → (rest : List ℕ) × (texts_below text (k + n) ≡ texts_below text n ++ rest)
unfolding texts_below
further text n zero = let e : 0 + n ≡ n = omega arith in ([], ap (texts_below text) e ∙ sym (append-nil (texts_below text n)))
further text n (suc k) =
    let more = further text n k in
    let e : suc k + n ≡ suc (k + n) = omega arith in
    (more.0 ++ text (k + n), ap (texts_below text) e ∙ ap (λ t. t ++ text (k + n)) more.1 ∙ append_assoc (texts_below text n) more.0 (text (k + n)))

module _ (text : ℕ → List ℕ) where
  pub puts-next : {a b c : Option (List ℕ)} {f g h : ℕ} (n : ℕ) → Puts a f (texts_below text n) (Ok tt) b g → Puts b g (text n) (Ok tt) c h → Puts a f (texts_below text (n + 1)) (Ok tt) c h
  puts-next n p q = puts-is (firsts-one text n) (puts-then p q)

  pub puts-short : {a b c : Option (List ℕ)} {f g h : ℕ} {e : WriteFailed} {put : Put} (n m : ℕ) → n < m → IsErr put → Puts a f (texts_below text n) (Ok tt) b g → Puts b g (text n) (Err e) c h → Puts a f (texts_below text m) put c h
  puts-short n m less failed p q =
      let more = further text (n + 1) (m - (n + 1)) in
      let sum : (m - (n + 1)) + (n + 1) ≡ m = omega arith in
      puts-is (ap (λ t. t ++ more.0) (firsts-one text n) ∙ sym more.1 ∙ ap (texts_below text) sum) (puts-failed more.0 failed (puts-then p q))

  pub puts-every : {a b : Option (List ℕ)} {f g : ℕ} (n m : ℕ) → n ≡ m → Puts a f (texts_below text n) (Ok tt) b g → Puts a f (texts_below text m) (Ok tt) b g
  puts-every n m e p = puts-is (ap (texts_below text) e) p
