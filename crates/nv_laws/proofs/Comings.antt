-- What a turn's clauses say of its seat's views.
use Rattle.std.proofs.Common.{◌≡◌, ◌∙◌, ℕ, ◌+◌, ◌<◌, true, length, sym, ap, subst, inl, inr, ⊎_elim, arith}
use Rattle.nv_calls.specs.Limits.{MOST_BYTES}
use Rattle.nv_pool.specs.Chunks.{chunks_of}
use Rattle.nv_calls.specs.declared.kernel.SyscallKernel.{Ghosts}
use Rattle.nv_room.specs.declared.view.View.{View}
use Rattle.nv_room.specs.declared.room.Room.{Room}
use Rattle.nv_room.specs.declared.room.Lead.{Lead}
use Rattle.nv_room.specs.Owner.{is_held, is_free}
use Rattle.nv_room.specs.Placement.{pool_chunks, chunks_from}
use Rattle.nv_room.specs.Seats.{view, lead_view, places_of}
use Rattle.nv_ring.specs.Places.{WaitsFor}
use Rattle.nv_promotion.specs.Lowers.{IsAlive}
use Rattle.nv_laws.specs.Traces.{Waits, LeadWaits, HasToWait}
use Rattle.nv_laws.specs.Runs.{ComesTo}
use Rattle.nv_workers.specs.declared.worker.Seat.{Seat}
use Rattle.nv_workers.specs.declared.worker.Seat.TheVariants.{Reading, Leading, Gone, Moving}
use Rattle.nv_workers.specs.declared.worker.Turn.{Turn}
use Rattle.nv_workers.specs.declared.worker.Turn.TheVariants.{Moved, Ahead, Waiting, Done}
use Rattle.nv_workers.specs.declared.worker.Worker.{Worker}
use Rattle.nv_workers.specs.Follows.{HasWaited}
use Rattle.nv_workers.specs.Measure.{turns_left, Falls}
use Rattle.nv_workers.specs.Worker.{IsGone, HasStayed, TurnTells}
use Rattle.nv_workers.specs.Views.{HasView}

-- a reader that waited
pub has_waited : {T : Type 0} (old new : View T) → HasWaited old new → Waits old new
has_waited old new h = record {
  head_looked = h.head_looked;
  head_last = h.head_last;
  owner_looked = h.owner_looked;
  owner = ⊎_elim (λ (e : is_held new.owner_last ≡ true). inl e)
      (λ (e : (is_free new.owner_last ≡ true) × (new.owner_after < new.cursor_looks) × ((s : ℕ) × IsAlive old new new.station s)).
      let a = e.2.1 in
      let lower = a.lower in
      let last = a.last in
      inr (e.0, omega arith, a.looked, a.count))
      h.owner;
}

module _ {K : Type 0} {G : Ghosts K} (room : Room K) where
  -- a lead that waits for the station s
  pub waits_for : (old new : Lead K G) (s : ℕ) → WaitsFor room old new s → LeadWaits (places_of room) (lead_view old) (lead_view new)
  waits_for old new s w = record {
    looked = w.looked;
    other = λ e. w.other (sym w.last ∙ e ∙ old.station_is);
    is_open = (let last = w.last in let inside = w.is_open in let opened = old.opened_is in omega arith);
    full = ⊎_elim (λ (e : (lead_view new).cursor_last + places_of room ≡ length (lead_view old).seen). inl (omega arith))
        (λ (e : pool_chunks (places_of room) < chunks_from (lead_view old).seen (lead_view new).cursor_last + chunks_of MOST_BYTES). inr e) w.after;
  }

  stays : (s t : Seat K G) (v w : View K) → HasStayed room s t → HasView s v → HasView t w → HasToWait (places_of room) v w v.role
  stays (Reading r held) (Reading r2 held2) v w h at at2 =
      subst (HasToWait (places_of room) v w) (sym (ap (λ (z : View K). z.role) (sym at) ∙ r.role))
      (subst (λ (z : View K). Waits z w) at (subst (λ (z : View K). Waits (view r) z) at2 (has_waited (view r) (view r2) h)))
  stays (Reading r held) (Leading l asked) v w h at at2 = absurd h
  stays (Reading r held) (Gone l) v w h at at2 = absurd h
  stays (Reading r held) Moving v w h at at2 = absurd h
  stays (Leading l asked) (Reading r held) v w h at at2 = absurd h
  stays (Leading l asked) (Leading l2 asked2) v w h at at2 =
      subst (HasToWait (places_of room) v w) (sym (ap (λ (z : View K). z.role) (sym at) ∙ l.role))
      (subst (λ (z : View K). LeadWaits (places_of room) z w) at (subst (λ (z : View K). LeadWaits (places_of room) (lead_view l) z) at2 (waits_for l l2 h.0 h.1)))
  stays (Leading l asked) (Gone l2) v w h at at2 = absurd h
  stays (Leading l asked) Moving v w h at at2 = absurd h
  stays (Gone l) t v w h at at2 = absurd h
  stays Moving t v w h at at2 = absurd h

  -- one that left in an earlier turn
  left_before : (s : Seat K G) (before after : ℕ) (v w : View K) → (¬ IsGone s → after < before) → HasView s v → ComesTo (places_of room) before after v w
  left_before (Reading r held) before after v w falls at = inl (falls (λ e. e))
  left_before (Leading l asked) before after v w falls at = inl (falls (λ e. e))
  left_before (Gone l) before after v w falls at = inr (subst (HasToWait (places_of room) v w) (sym (ap (λ (z : View K). z.role) (sym at) ∙ l.role)) tt)
  left_before Moving before after v w falls at = absurd at

  pub comes : (result : Turn) (old new : Worker K G) (v w : View K) → TurnTells room result old.version new.version old.seat new.seat → Falls result old new → HasView old.seat v → HasView new.seat w
      → ComesTo (places_of room) (turns_left old) (turns_left new) v w
  comes Moved old new v w tells falls at at2 = inl falls
  comes Ahead old new v w tells falls at at2 = inl falls
  comes Waiting old new v w tells falls at at2 = inr (stays old.seat new.seat v w tells.0 at at2)
  comes Done old new v w tells falls at at2 = left_before old.seat (turns_left old) (turns_left new) v w falls.1 at
