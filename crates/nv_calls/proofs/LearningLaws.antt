-- A log stays legal where its kernel learns, its fronts are legal, and each lawful log is legal from some start.
use Rattle.std.proofs.Common.{◌≡◌, ◌∙◌, sym, ap, subst, refl, ℕ, zero, suc, ◌<◌, ◌≤◌, List, [], ◌∷◌, ◌++◌, length, take, map, Some, arith}
use Rattle.std.specs.Prelude.{pos, slice_get}
use Rattle.std.proofs.lemmas.Option.{same_Some, slice_get_within}
use Rattle.std.proofs.lemmas.List.{length-map}
use Rattle.nv_calls.specs.Calls.{Entry, Request, Response}
use Rattle.nv_calls.specs.Logs.{IsLawful, IsLegal, Start, served, call_of, calls_of}
use Rattle.nv_calls.specs.Learning.{GoesOn}
use Rattle.nv_calls.proofs.LogLaws.{at_prefix, take_left, take_whole, at_more}

pub goes_on_same : (log : List Entry) (s t : Start) → t ≡ s → GoesOn log s t
goes_on_same log s t same = record {
  events = λ i e h. ap (λ (z : Start). served z (take i log) e.call) same;
  console = λ i. ap (λ (z : Start). z.console (calls_of (take i log))) same;
  connections = λ i. ap (λ (z : Start). z.connections (calls_of (take i log))) same;
}

pub legal_on : (log : List Entry) (s t : Start) → GoesOn log s t → IsLegal s log → IsLegal t log
legal_on log s t on legal i e h = legal i e h ∙ sym (on.events i e h)

pub legal_take : (s : Start) (log : List Entry) (k : ℕ) → IsLegal s log → IsLegal s (take k log)
legal_take s log k legal i e h = let r = at_prefix k log i e h in legal i e r.0 ∙ ap (λ (z : List Entry). served s z e.call) (sym r.1)

pub legal_front : (s : Start) (front back : List Entry) → IsLegal s (front ++ back) → IsLegal s front
legal_front s front back legal = subst (IsLegal s) (take_whole front back) (legal_take s (front ++ back) (length front) legal)

at_end : {A : Type 0} (xs : List A) (x : A) → slice_get (xs ++ x ∷ []) (length xs) ≡ Some x
at_end [] x = refl
at_end (y ∷ xs) x = at_end xs x

-- the last entry is what its call becomes from a start of which the log is legal
pub legal_last : (s : Start) (log : List Entry) (e : Entry) → IsLegal s (log ++ e ∷ []) → e ≡ served s log e.call
legal_last s log e legal = legal (length log) e (at_end log e) ∙ ap (λ (z : List Entry). served s z e.call) (take_whole log (e ∷ []))

abbrev reply_at : List Entry → ℕ → Response
reply_at [] i = record { ret = pos 0; payload = [] }
reply_at (e ∷ es) zero = e.reply
reply_at (e ∷ es) (suc i) = reply_at es i

-- a start that answers each call as this log does
abbrev pub as_told : List Entry → Start
as_told log = record { replies = λ calls c. reply_at log (length calls); console = λ calls. []; connections = λ calls. [] }

reply_is : (log : List Entry) (i : ℕ) (e : Entry) → slice_get log i ≡ Some e → reply_at log i ≡ e.reply
reply_is [] i e h = cc
reply_is (x ∷ xs) zero e h = ap (λ (z : Entry). z.reply) (same_Some x e h)
reply_is (x ∷ xs) (suc i) e h = reply_is xs i e h

length_take : {A : Type 0} (xs : List A) (i : ℕ) → i ≤ length xs → length (take i xs) ≡ i
length_take xs zero h = refl
length_take [] (suc i) h = absurd (omega arith)
length_take (x ∷ xs) (suc i) h = ap suc (length_take xs i (omega arith))

-- a lawful log is legal from some start
pub legal_told : (log : List Entry) → IsLawful log → IsLegal (as_told log) log
legal_told log lawful i e h =
    let within = slice_get_within log i e h in
    let n : length (take i log) ≡ i = length_take log i (omega (arith, within)) in
    let m : length (calls_of (take i log)) ≡ i = length-map (take i log) call_of ∙ n in
    let stamp : e.stamp ≡ length (take i log) = (lawful i e h).stamp ∙ sym n in
    let reply : e.reply ≡ reply_at log (length (calls_of (take i log))) = sym (reply_is log i e h) ∙ ap (reply_at log) (sym m) in
    λ j. record { stamp = stamp j; call = e.call; reply = reply j }
