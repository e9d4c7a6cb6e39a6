-- At which lengths spans say that the lead was asked for, where the last one comes, grows or is handed on; and where a kernel has asked for nothing more.
use Rattle.std.proofs.Common.{◌≡◌, ◌∙◌, ap, sym, subst, refl, arith, append-nil}
use Rattle.std.specs.Prelude.{ℕ, ◌<◌, Bool, true, false, not, ◌&&◌, nat_lt, List, [], ◌∷◌, ◌++◌, if◌then◌else◌}
use Rattle.std.proofs.lemmas.Bool.Decides.{nat_tests}
use Rattle.nv_calls.specs.Hands.{has, with_hand}
use Rattle.nv_calls.specs.declared.kernel.SyscallKernel.{Ghosts}
use Rattle.nv_room.specs.declared.view.Span.{Span}
use Rattle.nv_room.specs.declared.room.Room.{Room}
use Rattle.nv_room.specs.declared.room.Lead.{Lead}
use Rattle.nv_room.specs.Planned.{asked_at, asked_in, asked_then}
use Rattle.nv_room.specs.Room.{Became}
use Rattle.nv_room.specs.Seats.{SameLead, AskedSoFar, lead_view, kernel_of, origin}
use Rattle.nv_room.specs.Spans.{Tiles}

pub asked_append : (planned : List ℕ) (xs ys : List Span) → asked_in planned (xs ++ ys) ≡ asked_in planned xs ++ asked_in planned ys
asked_append planned [] ys = refl
asked_append planned (x ∷ xs) ys = step (asked_at planned x) (asked_append planned xs ys) where
  step : (b : Bool) → asked_in planned (xs ++ ys) ≡ asked_in planned xs ++ asked_in planned ys
      → (if b then x.to ∷ asked_in planned (xs ++ ys) else asked_in planned (xs ++ ys)) ≡ (if b then x.to ∷ asked_in planned xs else asked_in planned xs) ++ asked_in planned ys
  step true later = ap (λ (ns : List ℕ). x.to ∷ ns) later
  step false later = later

-- a last span that ended with no hand-over adds none
pub asked_unhanded : (planned : List ℕ) (xs : List Span) (x : Span) → x.handed ≡ false → asked_in planned (xs ++ x ∷ []) ≡ asked_in planned xs
asked_unhanded planned xs x off =
    let none : asked_in planned (x ∷ []) ≡ [] = ap (λ (b : Bool). if b && (nat_lt x.from x.to && not (has planned x.to)) then x.to ∷ [] else []) off in
    asked_append planned xs (x ∷ []) ∙ ap (λ (ns : List ℕ). asked_in planned xs ++ ns) none ∙ append-nil (asked_in planned xs)

added : (b : Bool) (n : ℕ) (ns : List ℕ) → ns ++ (if b then n ∷ [] else []) ≡ with_hand b n ns
added true n ns = refl
added false n ns = append-nil ns

-- one with an event that did adds its end, unless that is planned
pub asked_handed : (planned : List ℕ) (xs : List Span) (x : Span) → x.handed ≡ true → x.from < x.to → asked_in planned (xs ++ x ∷ []) ≡ asked_then planned x.to (asked_in planned xs)
asked_handed planned xs x on event =
    let later : nat_lt x.from x.to ≡ true = grind (arith, nat_tests) in
    let one : asked_in planned (x ∷ []) ≡ (if not (has planned x.to) then x.to ∷ [] else [])
    = ap (λ (b : Bool). if b && (nat_lt x.from x.to && not (has planned x.to)) then x.to ∷ [] else []) on
    ∙ ap (λ (b : Bool). if b && not (has planned x.to) then x.to ∷ [] else []) later in
    asked_append planned xs (x ∷ []) ∙ ap (λ (ns : List ℕ). asked_in planned xs ++ ns) one ∙ added (not (has planned x.to)) x.to (asked_in planned xs)

-- the last span ends where the log does
pub tiles_end : (a n : ℕ) (xs : List Span) (x : Span) → Tiles a (xs ++ x ∷ []) n → x.to ≡ n
tiles_end a n [] x t = t.2
tiles_end a n (y ∷ ys) x t = tiles_end y.to n ys x t.2

-- ---- what a kernel has asked for

pub became_on : {K B : Type 0} (beg : K → B) (handed : K → List ℕ → Type 0) (t k k2 : K) (asked : List ℕ) → beg k2 ≡ beg k → ((lengths : List ℕ) → handed k lengths → handed k2 lengths) → Became beg handed t k asked
    → Became beg handed t k2 asked
became_on beg handed t k k2 asked same on b = (same ∙ b.0, λ before h. on (before ++ asked) (b.1 before h))

-- the same seat's lead, whose kernel has asked for nothing since
pub asked_on : {K : Type 0} {G : Ghosts K} (room : Room K) (l l2 : Lead K G) → SameLead l l2 → G.start (kernel_of l2) ≡ G.start (kernel_of l)
    → ((lengths : List ℕ) → G.handed (kernel_of l) lengths → G.handed (kernel_of l2) lengths) → AskedSoFar room l → AskedSoFar room l2
asked_on {K} {G} room l l2 same start handed a =
    subst (λ (xs : List ℕ). Became G.start G.handed (origin room) (kernel_of l2) xs) (sym same.5) (became_on G.start G.handed (origin room) (kernel_of l) (kernel_of l2) (lead_view l).asked start handed a)
