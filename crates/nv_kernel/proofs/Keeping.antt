-- A kernel keeps its laws when it serves a call.
use Rattle.std.proofs.Common.{◌≡◌, ◌≢◌, ◌∙◌, sym, ap, subst, refl, ℕ, ◌<◌, List, [], ◌∷◌, ◌++◌, length, Option, Some, None, cond}
use Rattle.std.specs.Prelude.{◌==◌, Contains}
use Rattle.nv_calls.specs.Calls.{Request, Entry}
use Rattle.nv_calls.specs.Logs.{Start, IsLawful, IsLegal, InRange, IsNew, served, child_of, live_after, live_next, last_status, ended_after}
use Rattle.nv_calls.proofs.LogLaws.{lawful_more, legal_more, live_more, status_more}
use Rattle.nv_kernel.specs.Crew.{Crew, IsCrew}
use Rattle.nv_kernel.specs.Ends.{end_next}
use Rattle.nv_kernel.specs.Kernel.{Spare, IsSound}

pub kept_served : (start : Start) (log : List Entry) (c : Request) (len cap len' cap' : ℕ) (spare : Option Spare) (end : Option ℕ) (crew crew' : Crew)
    → IsSound start log len cap spare end crew → Contains (live_after log) c.tid → length log < 500000000 → InRange (served start log c)
    → IsNew crew.live (child_of (served start log c)) → crew'.live ≡ live_next crew.live (served start log c) → IsCrew crew'
    → IsSound start (log ++ served start log c ∷ []) len' cap' None (end_next (length crew'.live == 0) c) crew'
kept_served start log c len cap len' cap' spare end crew crew' k lives few range new next is =
    let e : Entry = served start log c in
    let live : live_after (log ++ e ∷ []) ≡ crew'.live = live_more log e ∙ ap (λ (z : List ℕ). live_next z e) k.live ∙ sym next in
    record {
      legal = legal_more start log c k.legal;
      lawful = lawful_more log e k.lawful record { stamp = refl; few = few; lives = lives; new = subst (λ (z : List ℕ). IsNew z (child_of e)) (sym k.live) new; range = range };
      reserved = λ h. absurd (h refl);
      live = live;
      crew_is = is;
      end_is = ap (λ (z : ℕ). cond (length crew'.live == 0) (Some z) None) (sym (status_more log e)) ∙ ap (λ (z : List ℕ). cond (length z == 0) (Some (last_status (log ++ e ∷ []))) None) (sym live);
    }

pub kept_reserved : (start : Start) (log log' : List Entry) (len cap len' cap' : ℕ) (spare spare' : Option Spare) (end : Option ℕ) (crew crew' : Crew)
    → IsSound start log len cap spare end crew → log' ≡ log → crew' ≡ crew → (spare' ≢ None → len' < cap') → IsSound start log' len' cap' spare' end crew'
kept_reserved start log log' len cap len' cap' spare spare' end crew crew' k h e l = record {
  legal = subst (IsLegal start) (sym h) k.legal;
  lawful = subst IsLawful (sym h) k.lawful;
  reserved = l;
  live = ap live_after h ∙ k.live ∙ ap (λ (z : Crew). z.live) (sym e);
  crew_is = subst IsCrew (sym e) k.crew_is;
  end_is = k.end_is ∙ ap ended_after (sym h);
}

pub kept_none : (start : Start) (log log' : List Entry) (len cap len' cap' : ℕ) (spare : Option Spare) (end : Option ℕ) (crew crew' : Crew)
    → IsSound start log len cap spare end crew → log' ≡ log → crew' ≡ crew → IsSound start log' len' cap' None end crew'
kept_none start log log' len cap len' cap' spare end crew crew' k h e = kept_reserved start log log' len cap len' cap' spare None end crew crew' k h e (λ n. absurd (n refl))

pub map_more : {A B : Type 0} (f : A → B) (xs : List A) (x : A) → Rattle.std.specs.Prelude.map f (xs ++ x ∷ []) ≡ Rattle.std.specs.Prelude.map f xs ++ f x ∷ []
map_more f [] x = refl
map_more f (y ∷ ys) x = ap (λ z. f y ∷ z) (map_more f ys x)
