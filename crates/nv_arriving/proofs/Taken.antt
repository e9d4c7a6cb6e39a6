-- How many arrivals a call takes in, by those that were looked at; and what grows.
use Rattle.std.proofs.Common.{◌≡◌, ◌∙◌, sym, ap, refl, ℕ, zero, suc, ◌+◌, ◌≤◌, Bool, true, false, not, ◌||◌, List, [], ◌∷◌, ◌++◌, length, drop, map, arith, append-nil, append_assoc, length-append}
use Rattle.std.specs.Prelude.{if◌then◌else◌}
use Rattle.nv_kernel.proofs.Keeping.{map_more}
use Rattle.nv_script.specs.Arrivals.{Arrival}
use Rattle.nv_script.specs.Doings.{Takes}
use Rattle.nv_arriving.specs.Arrivals.{any_ends, until}
use Rattle.nv_arriving.specs.Kernel.{after, Grew}
use Rattle.nv_arriving.proofs.Coming.{drop_front}

-- none of the first ends the wait
pub any_none : (w : Arrival → Bool) (xs ys : List Arrival) → any_ends w xs ≡ false → any_ends w (xs ++ ys) ≡ any_ends w ys
any_none w [] ys h = refl
any_none w (a ∷ xs) ys h = by (w a) refl h (any_none w xs ys) where
  by : (b : Bool) → w a ≡ b → (b || any_ends w xs) ≡ false → (any_ends w xs ≡ false → any_ends w (xs ++ ys) ≡ any_ends w ys) → any_ends w (a ∷ (xs ++ ys)) ≡ any_ends w ys
  by true e k next = cc
  by false e k next = ap (λ (b : Bool). b || any_ends w (xs ++ ys)) e ∙ next k

pub any_last : (w : Arrival → Bool) (xs : List Arrival) (a : Arrival) → w a ≡ true → any_ends w (xs ++ a ∷ []) ≡ true
any_last w [] a h = ap (λ (b : Bool). b || false) h
any_last w (x ∷ xs) a h = by (w x) (any_last w xs a h) where
  by : (b : Bool) → any_ends w (xs ++ a ∷ []) ≡ true → (b || any_ends w (xs ++ a ∷ [])) ≡ true
  by true k = refl
  by false k = k

pub until_none : (w : Arrival → Bool) (xs ys : List Arrival) → any_ends w xs ≡ false → until w (xs ++ ys) ≡ length xs + until w ys
until_none w [] ys h = omega arith
until_none w (a ∷ xs) ys h = by (w a) refl h (until_none w xs ys) where
  by : (b : Bool) → w a ≡ b → (b || any_ends w xs) ≡ false → (any_ends w xs ≡ false → until w (xs ++ ys) ≡ length xs + until w ys) → until w (a ∷ (xs ++ ys)) ≡ suc (length xs) + until w ys
  by true e k next = cc
  by false e k next = let n = next k in omega (arith, n, ap (λ (b : Bool). if b then 1 else suc (until w (xs ++ ys))) e)

-- ---- what grows

pub drop_all : {A : Type 0} (xs ys : List A) → drop (length xs) (xs ++ ys) ≡ ys
drop_all [] ys = refl
drop_all (x ∷ xs) ys = drop_all xs ys

pub drop_past : {A : Type 0} (n : ℕ) (xs : List A) → length xs ≤ n → drop n xs ≡ []
drop_past zero [] h = refl
drop_past (suc n) [] h = refl
drop_past zero (x ∷ xs) h = absurd (omega arith)
drop_past (suc n) (x ∷ xs) h = drop_past n xs (omega arith)

pub grew_by : {A : Type 0} (before now more : List A) → now ≡ before ++ more → Grew before now
grew_by before now more h = h ∙ ap (λ z. before ++ z) (sym (ap (drop (length before)) h ∙ drop_all before more))

pub grew_same : {A : Type 0} (before now : List A) → now ≡ before → Grew before now
grew_same before now h = grew_by before now [] (h ∙ sym (append-nil before))

pub grew_more : {A : Type 0} (before now last more : List A) → Grew before now → last ≡ now ++ more → Grew before last
grew_more before now last more h k = grew_by before last (after before now ++ more) (k ∙ (ap (λ z. z ++ more) h ∙ append_assoc before (after before now) more))

pub after_more : {A : Type 0} (before now more : List A) → Grew before now → after before (now ++ more) ≡ after before now ++ more
after_more before now more h = ap (λ z. drop (length before) (z ++ more)) h ∙ (ap (drop (length before)) (append_assoc before (after before now) more) ∙ drop_all before (after before now ++ more))

pub grew_still : {A : Type 0} (before now last : List A) → Grew before now → last ≡ now → Grew before last
grew_still before now last h e = grew_by before last (after before now) (e ∙ h)

-- what was heard, where nothing before it ends the wait
heard_is : (used : ℕ) (before now : List Arrival) → used ≤ length before → Grew before now → drop used now ≡ drop used before ++ after before now
heard_is used before now h g = ap (drop used) g ∙ drop_front used before (after before now) h

pub heard_any : (w : Arrival → Bool) (used : ℕ) (before now : List Arrival) → used ≤ length before → Grew before now → any_ends w (drop used before) ≡ false
    → any_ends w (drop used now) ≡ any_ends w (after before now)
heard_any w used before now h g none = ap (any_ends w) (heard_is used before now h g) ∙ any_none w (drop used before) (after before now) none

pub heard_until : (w : Arrival → Bool) (used : ℕ) (before now : List Arrival) → used ≤ length before → Grew before now → any_ends w (drop used before) ≡ false
    → until w (after before now) ≡ length (after before now) → until w (drop used now) ≡ length (drop used now)
heard_until w used before now h g none all =
    let e = heard_is used before now h g in
    ap (until w) e ∙ (until_none w (drop used before) (after before now) none ∙ (ap (λ (n : ℕ). length (drop used before) + n) all
    ∙ (sym (length-append (drop used before) (after before now)) ∙ ap (λ z. length z) (sym e))))

pub not_is : (b : Bool) → not b ≡ (if b then false else true)
not_is true = refl
not_is false = refl

pub not_back : (b : Bool) → not b ≡ true → b ≡ false
not_back true h = cc
not_back false h = refl

pub is_back : (b : Bool) → not b ≡ false → b ≡ true
is_back true h = refl
is_back false h = cc

pub twice_not : (b c : Bool) → c ≡ not b → b ≡ not c
twice_not true c h = sym (ap not h)
twice_not false c h = sym (ap not h)

-- what was heard, with one more
pub takes_more : (before now : List Arrival) (a : Arrival) → Grew before now → map Takes (after before now) ++ Takes a ∷ [] ≡ map Takes (after before (now ++ a ∷ []))
takes_more before now a h = sym (map_more Takes (after before now) a) ∙ ap (map Takes) (sym (after_more before now (a ∷ []) h))

-- none of what was heard ends the wait but the last
pub until_all_of : (w : Arrival → Bool) (xs : List Arrival) → any_ends w xs ≡ false → until w xs ≡ length xs
until_all_of w xs h = let n = ap (until w) (append-nil xs) in let m = until_none w xs [] h in omega (arith, n, m)

one_by : (w : Arrival → Bool) (a : Arrival) (b : Bool) → w a ≡ b → until w (a ∷ []) ≡ 1
one_by w a true h = ap (λ (z : Bool). if z then 1 else suc (until w [])) h
one_by w a false h = ap (λ (z : Bool). if z then 1 else suc (until w [])) h

pub until_last : (w : Arrival → Bool) (xs : List Arrival) (a : Arrival) → any_ends w xs ≡ false → until w (xs ++ a ∷ []) ≡ length (xs ++ a ∷ [])
until_last w xs a h = until_none w xs (a ∷ []) h ∙ (ap (λ (n : ℕ). length xs + n) (one_by w a (w a) refl) ∙ sym (length-append xs (a ∷ [])))

pub any_none_last : (w : Arrival → Bool) (xs : List Arrival) (a : Arrival) → any_ends w xs ≡ false → w a ≡ false → any_ends w (xs ++ a ∷ []) ≡ false
any_none_last w xs a h k = any_none w xs (a ∷ []) h ∙ ap (λ (b : Bool). b || false) k
