-- Who is let go, and who isn't.
use Rattle.std.proofs.Common.{◌≡◌, ◌∙◌, sym, ap, refl, ℕ, false, List, [], ◌++◌, length}
use Rattle.nv_calls.specs.Calls.{Entry}
use Rattle.nv_calls.specs.Logs.{Start}
use Rattle.nv_threads.specs.Behaviours.{Behaviour}
use Rattle.nv_replay.specs.Follow.{Judge}
use Rattle.nv_replay.specs.Lead.{Leader, cut_of}
use Rattle.nv_replay.specs.LettingGo.{is_let_go}
use Rattle.nv_replay.specs.Version.{Running}
use Rattle.nv_replay.proofs.Stops.{lead_stays}
use Rattle.nv_replay.proofs.Wholly.{suits_end}
use Rattle.nv_workers.specs.Ends.{HasLedFrom}

-- who has led to its end wasn't let go
pub lead_kept : {P : Type 0} (g : Behaviour P) (judges : ℕ → Judge) (start : Start) (most : ℕ) (planned : List ℕ) {i : ℕ} {p : P} {v : Running P} {led : List (ℕ × ℕ)} {from : ℕ} {log : List Entry}
    → HasLedFrom g judges start most planned i p v led from log → is_let_go v.at.fate ≡ false
lead_kept {P} g judges start most planned {i} {p} {v} {led} {from} {log} h =
    let u = suits_end v.at.fate (length log) in
    let s = h.stage [] (λ n a b. refl) (λ z m. refl) (cut_of v.at.fate (length log)) (record { below = u.below; end = u.end }) in
    ap (λ (x : Leader P). is_let_go x.fate) (sym s.is) ∙ lead_stays g start most (cut_of v.at.fate (length log)) (planned ++ []) from s.steps _ refl
