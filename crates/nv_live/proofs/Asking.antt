-- At which moments a source was asked for more.
use Rattle.std.proofs.Common.{◌≡◌, ℕ, List, [], ◌∷◌, ◌++◌, Option, None, sym, ap, subst}
use Rattle.std.proofs.lemmas.List.Elements.{All-nil, All-cons, All-append}
use Rattle.nv_live.specs.declared.coming_lines.ComingLines.{ComingLines}
use Rattle.nv_live.specs.ComingLines.{ComesOn, AskedOnce, AskedOn}
use Rattle.nv_live.specs.Buffer.{held_in}
use Rattle.nv_live.specs.Source.{Moment, Gave, Asked}
use Rattle.nv_live.proofs.Taking.{gave-none, gave-then}

-- at none
pub asked-none : (a b : Option (List Moment)) (stands : Moment → Type 0) → b ≡ a → Asked a b stands
asked-none a b stands same = record { moments = []; gave = subst (λ x. Gave a [] x) (sym same) (gave-none a); each = All-nil stands }

-- at one
pub asked-one : (a b : Option (List Moment)) (m : Moment) (stands : Moment → Type 0) → Gave a (m ∷ []) b → stands m → Asked a b stands
asked-one a b m stands gave here = record { moments = m ∷ []; gave = gave; each = All-cons stands m [] here (All-nil stands) }

-- at these and then at those
pub asked-then : (a b c : Option (List Moment)) (stands : Moment → Type 0) → Asked a b stands → Asked b c stands → Asked a c stands
asked-then a b c stands p q = record {
  moments = p.moments ++ q.moments;
  gave = gave-then a b c p.moments q.moments p.gave q.gave;
  each = All-append stands p.moments q.moments p.each q.each;
}

-- what is said of them by less
pub asked-where : (a b : Option (List Moment)) (stands holds : Moment → Type 0) → ((m : Moment) → stands m → holds m) → Asked a b stands → Asked a b holds
asked-where a b stands holds so p = record { moments = p.moments; gave = p.gave; each = λ k d inside. so _ (p.each k d inside) }

-- ---- a source of lines

module _ {I : Type 0} (took : I → Option (List (List ℕ))) (unread : I → ℕ) (moments : I → Option (List Moment)) (stood : I → Moment) where
  -- it isn't asked
  pub unasked : (old new : ComingLines I) → new.source ≡ old.source → AskedOn took unread moments old new stood
  unasked old new same = asked-none (moments old.source) (moments new.source) _ (ap moments same)

  -- it is asked by one look for more
  pub asked-once : (old new : ComingLines I) → AskedOnce moments old new (stood old.source) → AskedOn took unread moments old new stood
  asked-once old new asked = asked-where (moments old.source) (moments new.source) _ _ (λ m s. (old, (λ first arrivals handed so_far. so_far), s.1, s.2, s.0)) asked

  -- one look after another
  pub asked-on : (old mid new : ComingLines I) → ComesOn took unread old mid (λ arrivals. arrivals) → AskedOn took unread moments old mid stood → AskedOn took unread moments mid new stood → AskedOn took unread moments old new stood
  asked-on old mid new comes asked then =
      asked-then (moments old.source) (moments mid.source) (moments new.source) _ asked
      (asked-where (moments mid.source) (moments new.source) _ _
      (λ m s. (s.0, (λ first arrivals handed so_far. s.1 first arrivals handed (comes first arrivals handed so_far)), s.2, s.3, s.4)) then)

  -- what is taken behind a look asks for nothing
  pub asked-still : (old mid new : ComingLines I) → AskedOn took unread moments old mid stood → new.source ≡ mid.source → AskedOn took unread moments old new stood
  asked-still old mid new asked same =
      subst (λ x. Asked (moments old.source) x (λ m. (at : ComingLines I) × ComesOn took unread old at (λ arrivals. arrivals) × (held_in at.buffer ≡ []) × (at.stopped ≡ None) × (m ≡ stood at.source))) (sym (ap moments same)) asked
