-- What polls keep, and that a reader whose lower stations are all marked gone never waits.
use Rattle.std.proofs.Common.{◌≡◌, ℕ, true, false, List, [], ◌∷◌, ◌++◌, ap, sym, ◌∙◌, subst, refl, le_refl, le_trans, arith}
use Rattle.std.specs.Prelude.{Option, Some}
use Rattle.nv_room.specs.Owner.{lower_marked}
use Rattle.nv_room.specs.declared.view.View.{View}
use Rattle.nv_room.specs.Steps.{word_seen, one_on, with_note, with_miss}
use Rattle.nv_lamport.specs.Polls.{Keeps, IsPolled}
use Rattle.nv_lamport.specs.declared.reads.Polled.{Polled}
use Rattle.nv_lamport.specs.declared.reads.Polled.TheVariants.{Event, Waiting, Free, Closed}

module _ {T : Type 0} where
  pub keeps_itself : (v : View T) → Keeps v v
  keeps_itself v = record {
    role = refl;
    station = refl;
    seen = refl;
    floors = refl;
    cursor_looks = refl;
    cursor_of = refl;
    cursor_last = refl;
    spans = refl;
    head_looks = le_refl v.head_looks;
    head_last = le_refl v.head_last;
    owner_looks = le_refl v.owner_looks;
    owner_last = λ _. (refl, refl);
    owner_after = λ _. refl;
  }

  pub keeps_then : (a b c : View T) → Keeps a b → Keeps b c → Keeps a c
  keeps_then a b c k l = record {
    role = l.role ∙ k.role;
    station = l.station ∙ k.station;
    seen = l.seen ∙ k.seen;
    floors = l.floors ∙ k.floors;
    cursor_looks = l.cursor_looks ∙ k.cursor_looks;
    cursor_of = l.cursor_of ∙ k.cursor_of;
    cursor_last = l.cursor_last ∙ k.cursor_last;
    spans = l.spans ∙ k.spans;
    head_looks = le_trans k.head_looks l.head_looks;
    head_last = le_trans k.head_last l.head_last;
    owner_looks = le_trans k.owner_looks l.owner_looks;
    owner_last = λ e.
        let x = k.owner_looks in
        let y = l.owner_looks in
        let first = k.owner_last (omega arith) in
        let second = l.owner_last (omega arith) in
        (second.0 ∙ first.0, second.1 ∙ first.1);
    owner_after = λ e.
        let x = k.owner_looks in
        let y = l.owner_looks in
        l.owner_after (omega arith) ∙ k.owner_after (omega arith);
  }

  -- what is read, noted and missed may change
  keeps_finding : (old mid : View T) (read : List ℕ) (noted : Option ℕ) (missed : List ℕ) → Keeps old mid → Keeps old (record mid { read = read; noted = noted; missed = missed })
  keeps_finding old mid read noted missed k = record {
    role = k.role;
    station = k.station;
    seen = k.seen;
    floors = k.floors;
    cursor_looks = k.cursor_looks;
    cursor_of = k.cursor_of;
    cursor_last = k.cursor_last;
    spans = k.spans;
    head_looks = k.head_looks;
    head_last = k.head_last;
    owner_looks = k.owner_looks;
    owner_last = k.owner_last;
    owner_after = k.owner_after;
  }

  -- a word more is read
  pub keeps_reading : (old mid : View T) (x : ℕ) (new : View T) → new ≡ word_seen mid x → Keeps old mid → Keeps old new
  keeps_reading old mid x new is k = subst (λ (w : View T). Keeps old w) (sym is) (keeps_finding old mid (mid.read ++ x ∷ []) mid.noted mid.missed k)

  -- a lane is probed in vain
  pub keeps_missing : (old mid : View T) (lane : ℕ) (new : View T) → new ≡ with_miss lane mid → Keeps old mid → Keeps old new
  keeps_missing old mid lane new is k = subst (λ (w : View T). Keeps old w) (sym is) (keeps_finding old mid mid.read mid.noted (mid.missed ++ lane ∷ []) k)

  -- a lane is noted
  pub keeps_noting : (old mid : View T) (lane : ℕ) (new : View T) → new ≡ with_note lane mid → Keeps old mid → Keeps old new
  keeps_noting old mid lane new is k = subst (λ (w : View T). Keeps old w) (sym is) (keeps_finding old mid mid.read (Some lane) mid.missed k)

  -- all stations below are marked gone
  abbrev pub IsLowest : View T → Type 0
  IsLowest v = lower_marked v.station v.floors ≡ true

  kept_lowest : (old new : View T) → Keeps old new → IsLowest old → IsLowest new
  kept_lowest old new k low = (λ i. lower_marked (k.station i) (k.floors i)) ∙ low

  -- a poll takes no mark back, and neither does an advance
  pub poll_keeps_lowest : (old new : View T) (words : List ℕ) (p : Polled) → IsPolled old new words p → IsLowest old → IsLowest new
  poll_keeps_lowest old new words Event q low = kept_lowest old new q.kept low
  poll_keeps_lowest old new words Waiting q low = kept_lowest old new q.found.kept low
  poll_keeps_lowest old new words (Free n) q low = kept_lowest old new q.found.kept low
  poll_keeps_lowest old new words (Closed n) q low = kept_lowest old new q.found.kept low

  pub advance_keeps_lowest : (old new : View T) → new ≡ one_on old → IsLowest old → IsLowest new
  advance_keeps_lowest old new is low = ap (λ (w : View T). lower_marked w.station w.floors) is ∙ low

  -- so once all lower stations are marked gone, no poll of this reader answers Waiting
  pub never_waits : (old new : View T) (words : List ℕ) → IsLowest old → ¬ IsPolled old new words Waiting
  never_waits old new words low q = let e : true ≡ false = sym low ∙ q.lower_alive in cc
