-- Whether the largest event fits.
use Rattle.std.proofs.Common.{◌≡◌, ◌≢◌, ℕ, ◌+◌, ◌<◌, ◌≤◌, inr, min, List, length, get_or, set, subst, sym, ap, ◌∙◌, arith, get_or-set_other, get_or-set_same}
use mathlib.Core.Logic.{dite}
use native.Mathlib.Decide.{ℕ_discrete, dec_le}
use Rattle.nv_room.proofs.PlacementLaws.{before_and_from, fits_later}
use Rattle.nv_room.proofs.PoolOfLog.{fits_by_pool}
use Rattle.nv_room.specs.Placement.{Log, pool_chunks, chunks_from, Fits}
use Rattle.nv_calls.specs.declared.kernel.SyscallKernel.{Ghosts}
use Rattle.nv_room.specs.declared.room.Room.{Room}
use Rattle.nv_room.specs.declared.room.Lead.{Lead}
use Rattle.nv_room.specs.Seats.{lead_view, station_of_lead, opened_of, NextFits}
use Rattle.nv_ring.specs.Places.{FitsAll, IsFull}

pub all_fit : (c : ℕ) (log : Log) (from kept : ℕ) → kept ≤ from → length log < kept + c → chunks_from log kept + 8 ≤ pool_chunks c → FitsAll c log from
all_fit c log from kept le window few e short = fits_later c log e kept from le (fits_by_pool c log e kept short window few)

pub still_fit : (c : ℕ) (log : Log) (from later : ℕ) → from ≤ later → FitsAll c log from → FitsAll c log later
still_fit c log from later le f e short = fits_later c log e from later le (f e short)

-- with none kept there is room
pub is_full : (c : ℕ) (log : Log) (from kept : ℕ) → kept ≡ min from (length log) → pool_chunks c < chunks_from log kept + 8 → IsFull c log from
is_full c log from kept is more = dite (dec_le from (length log))
    (λ le. let same : kept ≡ from = omega arith in inr (subst (λ (z : ℕ). pool_chunks c < chunks_from log z + 8) same more))
    (λ gt. let same : kept ≡ length log = omega arith in let a = before_and_from log (length log) in let b : pool_chunks c < chunks_from log (length log) + 8 = subst (λ (z : ℕ). pool_chunks c < chunks_from log z + 8) same more in absurd (omega arith))

-- beyond the log everything fits
pub past_fit : (c : ℕ) (log : Log) (from : ℕ) → 0 < c → length log ≤ from → FitsAll c log from
past_fit c log from pos le = all_fit c log from (length log) le (omega arith) (let a = before_and_from log (length log) in omega arith)

-- one station more
pub ready_more : (P : ℕ → Type 0) (own station : ℕ) → ((s : ℕ) → s ≢ own → s < station → P s) → (station ≢ own → P station) → (s : ℕ) → s ≢ own → s < station + 1 → P s
ready_more P own station old new s other below = dite (ℕ_discrete s station) (λ e. subst P (sym e) (new (λ q. other (e ∙ q)))) (λ ne. old s other (omega arith))

pub ready_set : (c : ℕ) (log : Log) (own station x : ℕ) (floors : List ℕ) → ((s : ℕ) → s ≢ own → s < station → FitsAll c log (get_or floors s 0)) → station < length floors → FitsAll c log x
    → (s : ℕ) → s ≢ own → s < station + 1 → FitsAll c log (get_or (set floors station x) s 0)
ready_set c log own station x floors old near new s other below = dite (ℕ_discrete s station)
    (λ e. subst (FitsAll c log) (sym (ap (λ (z : ℕ). get_or (set floors station x) z 0) e ∙ get_or-set_same floors station x 0 near)) new)
    (λ ne. subst (FitsAll c log) (sym (get_or-set_other floors station s x 0 ne)) (old s other (omega arith)))

-- a lead that has seen no event more and whose floors stay is as ready
module _ {K : Type 0} {G : Ghosts K} where
  pub ready_still : (room : Room K) (old new : Lead K G) → (lead_view new).seen ≡ (lead_view old).seen → (lead_view new).floors ≡ (lead_view old).floors → station_of_lead new ≡ station_of_lead old → opened_of new ≡ opened_of old → NextFits room old → NextFits room new
  ready_still room old new seen floors station opened ready s words ne near short =
      subst (λ (fs : List ℕ). Fits room.places (lead_view new).seen words (get_or fs s 0)) (sym floors)
      (subst (λ (z : Log). Fits room.places z words (get_or (lead_view old).floors s 0)) (sym seen) (ready s words (λ e. ne (e ∙ sym station)) (subst (λ (z : ℕ). s < z) opened near) short))
