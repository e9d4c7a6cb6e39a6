-- A kernel's log stays what it has to be when what answers takes memory, and when it answers a call.
use Rattle.std.proofs.Common.{◌≡◌, ◌≢◌, ◌∙◌, sym, ap, subst, refl, ℕ, ◌<◌, List, [], ◌∷◌, ◌++◌, length, Option, Some, None, cond}
use Rattle.std.specs.Prelude.{Bool, ◌==◌, Contains}
use Rattle.nv_calls.specs.Calls.{Request, Entry}
use Rattle.nv_calls.specs.Logs.{Start, IsLawful, IsLegal, InRange, IsNew, served, child_of, live_after, last_status, ended_after}
use Rattle.nv_calls.proofs.LogLaws.{lawful_more, legal_more, status_more}
use Rattle.nv_calls.specs.Learning.{GoesOn}
use Rattle.nv_calls.proofs.LearningLaws.{legal_on}
use Rattle.nv_kernel.specs.Ends.{end_next}
use Rattle.nv_kernel.specs.Kernel.{Spare}
use Rattle.nv_kernel.specs.Logged.{IsLogged}

-- with one more entry
pub logged_more : (start : Start) (log : List Entry) (c : Request) (len cap len' cap' : ℕ) (spare : Option Spare) (end : Option ℕ) (over : Bool)
    → IsLogged start log len cap spare end → Contains (live_after log) c.tid → length log < 500000000 → InRange (served start log c)
    → IsNew (live_after log) (child_of (served start log c)) → over ≡ (length (live_after (log ++ served start log c ∷ [])) == 0)
    → IsLogged start (log ++ served start log c ∷ []) len' cap' None (end_next over c)
logged_more start log c len cap len' cap' spare end over k lives few range new is =
    let e : Entry = served start log c in
    record {
      legal = legal_more start log c k.legal;
      lawful = lawful_more log e k.lawful record { stamp = refl; few = few; lives = lives; new = new; range = range };
      reserved = λ h. absurd (h refl);
      end_is = ap (λ (z : ℕ). cond over (Some z) None) (sym (status_more log e)) ∙ ap (λ (b : Bool). cond b (Some (last_status (log ++ e ∷ []))) None) is;
    }

-- as it learns, with memory for one more event or none
pub logged_on : (start start' : Start) (log log' : List Entry) (len cap len' cap' : ℕ) (spare spare' : Option Spare) (end : Option ℕ)
    → IsLogged start log len cap spare end → log' ≡ log → GoesOn log start start' → (spare' ≢ None → len' < cap') → IsLogged start' log' len' cap' spare' end
logged_on start start' log log' len cap len' cap' spare spare' end k h on l = record {
  legal = subst (IsLegal start') (sym h) (legal_on log start start' on k.legal);
  lawful = subst IsLawful (sym h) k.lawful;
  reserved = l;
  end_is = k.end_is ∙ ap ended_after (sym h);
}
