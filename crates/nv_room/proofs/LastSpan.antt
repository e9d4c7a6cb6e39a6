-- The span that is led, which is the last, and what it becomes.
use Rattle.std.proofs.Common.{◌≡◌, ◌≢◌, ℕ, List, [], ◌∷◌, ◌++◌, length, sym, refl, ap, ◌∙◌, inl, ⊎_elim}
use mathlib.Core.Option.{some}
use lib.ListN.{get_elem?}
use Rattle.atomic_table.proofs.Lists.{at_longer, at_last}
use Rattle.std.specs.Prelude.{Option}
use Rattle.atomic_table.specs.Table.{State}
use Rattle.nv_calls.specs.Calls.{Entry}
use Rattle.nv_room.specs.declared.view.View.{View}
use Rattle.nv_room.specs.declared.view.Layout.{Layout}
use Rattle.nv_room.specs.declared.view.Span.{Span}
use Rattle.nv_room.specs.Owner.{held, free}
use Rattle.nv_room.specs.Spans.{spans_with}
use Rattle.nv_room.specs.Room.{Moment, Led, Live, Rule}
use Rattle.nv_room.proofs.Lists.{at_end}
use Rattle.nv_room.proofs.Tiling.{last_of, with_more_other, with_more_own}
use Rattle.nv_room.proofs.Stays.{Begun, now}
use Rattle.nv_room.proofs.Seats.{one_who}

pub record Last (m : Moment) : Type 0 where
  pub before : List Span
  pub last : Span
  pub is : m.spans ≡ before ++ last ∷ []
  pub holders : last.station ≡ m.holder

pub last_span : (m : Moment) → Led m → m.phase ≡ held → Last m
last_span m led is = ⊎_elim (λ (e : m.spans ≡ []). absurd (let q : held ≡ free = sym is ∙ led.unled_is_free e in cc))
    (λ (q : (xs : List Span) × (x : Span) × (m.spans ≡ xs ++ x ∷ [])). record { before = q.0; last = q.1; is = q.2; holders = led.last_is_holders q.0 q.1 q.2 })
    (last_of m.spans)

module _ (m : Moment) (l : Last m) where
  pub at_the_last : get_elem? m.spans (length l.before) ≡ some l.last
  at_the_last = ap (λ (z : List Span). get_elem? z (length l.before)) l.is ∙ at_last l.before l.last (length l.before) refl

  at_before : (i : ℕ) (y : Span) → get_elem? l.before i ≡ some y → get_elem? m.spans i ≡ some y
  at_before i y q = ap (λ (z : List Span). get_elem? z i) l.is ∙ at_longer l.before (l.last ∷ []) i y q

  pub begun_last : (x : Span) → x.station ≡ l.last.station → x.from ≡ l.last.from → (i : ℕ) (y : Span) → get_elem? (l.before ++ x ∷ []) i ≡ some y → Begun m y
  begun_last x s f i y e = ⊎_elim
      (λ (q : get_elem? l.before i ≡ some y). inl (i, y, at_before i y q, refl, refl))
      (λ (q : (i ≡ length l.before) × (x ≡ y)). inl (length l.before, l.last, at_the_last, sym s ∙ ap (λ (z : Span). z.station) q.1, sym f ∙ ap (λ (z : Span). z.from) q.1))
      (at_end l.before x y i e)

  pub who_last : (seating : List ℕ) (x : Span) → x.station ≡ l.last.station → x.version ≡ l.last.version → ((i : ℕ) (y : Span) → get_elem? m.spans i ≡ some y → get_elem? seating y.station ≡ some y.version)
      → (i : ℕ) (y : Span) → get_elem? (l.before ++ x ∷ []) i ≡ some y → get_elem? seating y.station ≡ some y.version
  who_last seating x s v is i y e = ⊎_elim
      (λ (q : get_elem? l.before i ≡ some y). is i y (at_before i y q))
      (λ (q : (i ≡ length l.before) × (x ≡ y)). ap (λ (z : Span). get_elem? seating z.station) (sym q.1) ∙ ap (get_elem? seating) s ∙ is (length l.before) l.last at_the_last ∙ ap some (sym v) ∙ ap (λ (z : Span). some z.version) q.1)
      (at_end l.before x y i e)

  module _ (number : Span → ℕ) (x : Span) (is : number x ≡ number l.last) (k : ℕ) where
    pub others_last : number l.last ≢ k → spans_with number k (l.before ++ x ∷ []) ≡ spans_with number k m.spans
    others_last ne = with_more_other number k l.before x (λ e. ne (sym is ∙ e)) ∙ sym (with_more_other number k l.before l.last ne) ∙ ap (spans_with number k) (sym l.is)

    pub own_last : number l.last ≡ k → spans_with number k (l.before ++ x ∷ []) ≡ spans_with number k l.before ++ x ∷ []
    own_last e = with_more_own number k l.before x (is ∙ e)

    pub own_was : number l.last ≡ k → spans_with number k m.spans ≡ spans_with number k l.before ++ l.last ∷ []
    own_was e = ap (spans_with number k) l.is ∙ with_more_own number k l.before l.last e

module _ {K : Type 0} (hist : K → List Entry) (came : K → K → List ℕ → Type 0) (p : Layout K) where
  -- the span that is led is of the lead's version
  pub lead_last : (s : State (Option K) (View K)) (r : Rule hist came p s) (id : ℕ) (v : View K) → get_elem? s.views id ≡ some v → Live v.role → v.station ≡ r.holder → (l : Last (now hist came p s r)) → l.last.version ≡ v.version
  lead_last s r id v at live is l = one_who r.seating l.last.station v.station l.last.version v.version (r.common.turns.who_is (length l.before) l.last (at_the_last (now hist came p s r) l))
      ((r.each_seat id v at).seated live).last.has (let h = l.holders in h ∙ sym is)
