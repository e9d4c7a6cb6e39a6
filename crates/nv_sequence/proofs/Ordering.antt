-- The turn of the order's first.
use Rattle.std.proofs.Common.{◌≡◌, sym, subst, ℕ, ◌<◌, Bool, false, List, [], ◌∷◌, length, get_or, set}
use Rattle.std.specs.Prelude.{◌==◌, slice_index_or, remove}
use Rattle.std.proofs.lemmas.Option.{slice_get-get_or}
use Rattle.nv_calls.specs.Calls.{Entry}
use Rattle.nv_calls.specs.Logs.{Start}
use Rattle.nv_threads.specs.Behaviours.{Behaviour}
use Rattle.nv_replay.specs.Follow.{Judge, follow}
use Rattle.nv_replay.specs.Version.{Running}
use Rattle.nv_replay.proofs.Falling.{within}
use Rattle.nv_sequence.specs.declared.leading.Turned.{Turned}
use Rattle.nv_sequence.specs.Passing.{TurnDone, followed}
use Rattle.nv_sequence.specs.inner.Passing.{FirstMayHaveTurn, HadTurn, NextTurn, order_of, turn_goes_on}

pub first_of : (items : List ℕ) (first : ℕ) (rest : List ℕ) → (length items == 0) ≡ false → first ≡ slice_index_or items 0 first → rest ≡ remove items 0
    → items ≡ first ∷ rest
first_of [] first rest z h k = cc
first_of (x ∷ xs) first rest z h k = λ j. sym h j ∷ sym k j

pub short_order : {P : Type 0} (g : Behaviour P) (log : List Entry) (vs : List (Running P)) (items : List ℕ) (first : ℕ) (rest : List ℕ)
    → items ≡ first ∷ rest → FirstMayHaveTurn g log vs items → length rest < 8
short_order g log vs items first rest e r = (subst (λ (x : List ℕ). FirstMayHaveTurn g log vs x) e r).0

module _ {P : Type 0} (g : Behaviour P) (judges : ℕ → Judge) (start : Start) (most : ℕ) (hands : List ℕ) where
  had : (old new : List (Running P)) (first : ℕ) (rest new_order : List ℕ) (log new_log : List Entry) (on : Bool) (d w : Running P) (r : Turned)
      → FirstMayHaveTurn g log old (first ∷ rest)
      → TurnDone g start most hands (followed g judges log (get_or old first d)) w log new_log r (follow g (judges (get_or old first d).index) log (get_or old first d).at).fate → new ≡ set old first w
      → new_order ≡ order_of rest first r → on ≡ turn_goes_on r → HadTurn g judges start most hands old new first rest new_order log new_log on
  had old new first rest new_order log new_log on d w r i t p o q =
      let l : first < length old = within old first i.1.0 i.1.1 in record {
        before = get_or old first d;
        after = w;
        result = r;
        at = slice_get-get_or old first d l;
        put = p;
        done = t;
        left = o;
        goes = q;
      }

  pub had_turn : (items : List ℕ) (old new : List (Running P)) (first : ℕ) (rest new_order : List ℕ) (log new_log : List Entry) (on : Bool)
      (d w : Running P) (r : Turned) → items ≡ first ∷ rest → FirstMayHaveTurn g log old items
      → TurnDone g start most hands (followed g judges log (get_or old first d)) w log new_log r (follow g (judges (get_or old first d).index) log (get_or old first d).at).fate → new ≡ set old first w
      → new_order ≡ order_of rest first r → on ≡ turn_goes_on r → NextTurn g judges start most hands old new items new_order log new_log on
  had_turn items old new first rest new_order log new_log on d w r e i t p o q =
      subst (λ (x : List ℕ). NextTurn g judges start most hands old new x new_order log new_log on) (sym e)
      (had old new first rest new_order log new_log on d w r (subst (λ (x : List ℕ). FirstMayHaveTurn g log old x) e i) t p o q)
