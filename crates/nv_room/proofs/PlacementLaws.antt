-- The laws of where words stand.
use Rattle.std.proofs.Common.{◌≡◌, ℕ, suc, ◌+◌, ◌-◌, ◌*◌, ◌/◌, ◌%◌, ◌<◌, ◌≤◌, ◌≢◌, Bool, cond, List, [], ◌∷◌, ◌++◌, length, take, drop, get_or, mod-lt, mul-le-mul_right, suc-mul, lt_of_not-le, refl, sym, ap, subst, ◌∙◌, arith}
use Rattle.std.specs.Prelude.{sum_by}
use Rattle.std.proofs.lemmas.Nat.{same_from_place}
use Rattle.std.proofs.lemmas.Bool.{lt-ltb, le-ltb}
use Rattle.std.proofs.lemmas.List.{take-append-le}
use Rattle.std.proofs.lemmas.List.Sums.{sum_by-append, sum_by-take-drop, sum_by_more_le}
use Rattle.std.proofs.Math.Seq.{take-add, take-length}
use Rattle.std.proofs.Math.Nat.{add-mul-mod_self_left, mul_assoc, div-add-mod, le_of_lt, le_refl}
use mathlib.Core.Logic.{dite}
use native.Mathlib.Decide.{dec_le}
use mathlib.Core.Option.{some}
use lib.ListN.{get_elem?}
use Rattle.atomic_table.proofs.Lists.{one_turn}
use Rattle.nv_room.proofs.LiveLaws.{at_get}
use Rattle.nv_room.specs.Logs.{Log, lanes_after, lane, earlier}
use Rattle.nv_room.proofs.LogLaws.{lane_below_8, lane_stays, earlier_stays, lane_begun, earlier_begun, lane_places_apart, earlier_is_count, earlier_was_count}
use Rattle.nv_room.specs.Header.{header}
use Rattle.nv_room.specs.Placement.{next_slot, pool_chunks, table_words, chunks, chunks_before, chunks_from, slot, pool_word, spot, word_place, Fits}

-- The slots of the lanes

pub slots_apart : (n c l k j m i w : ℕ) → k < c → i < c → j < 6 → w < 6 → slot n c l k j ≡ slot n c m i w → (l ≡ m) × (k ≡ i) × (j ≡ w)
unfolding slot
slots_apart n c l k j m i w kc ic a b e =
    let x : ℕ = l * c + k in
    let y : ℕ = m * c + i in
    let e' : x * 6 + j + (8 * (n + 2)) ≡ y * 6 + w + (8 * (n + 2)) = e in
    let rows : (x ≡ y) × (j ≡ w) = same_from_place x j y w 6 a b (omega arith) in
    let place : (l ≡ m) × (k ≡ i) = same_from_place l k m i c kc ic rows.0 in
    (place.0, place.1, rows.1)

pub slot_below : (n c l k j : ℕ) → l < 8 → k < c → j < 6 → slot n c l k j < 8 * c * 6 + header n
unfolding slot
slot_below n c l k j lb kc b =
    let row : l * c + c ≤ 8 * c = (let a : suc l * c ≤ 8 * c = mul-le-mul_right c (let q : suc l ≤ 8 = lb in q) in omega (arith, suc-mul l c)) in
    let x : ℕ = l * c + k in
    let y : ℕ = 8 * c in
    let l' : x < y = omega arith in
    let q : x * 6 + j + (8 * (n + 2)) < y * 6 + (8 * (n + 2)) = omega arith in q

slot_late : (n c l k j : ℕ) → header n ≤ slot n c l k j
unfolding slot
slot_late n c l k j = let x : ℕ = l * c + k in let q : 8 * (n + 2) ≤ x * 6 + j + (8 * (n + 2)) = omega arith in q

-- The words of the pool

pub pool_after : (n c first j : ℕ) → 8 * c * 6 + header n ≤ pool_word n c first j
unfolding pool_word
pool_after n c first j = let r : ℕ = (64 * first + (j - 6)) % (64 * pool_chunks c) in let y : ℕ = 8 * c * 6 + header n in let q : y ≤ r + y = omega arith in q

pool_inside : (n c first j : ℕ) → pool_word n c first j < table_words n c
unfolding pool_word table_words
pool_inside n c first j =
    let l = mod-lt (64 * first + (j - 6)) {m = 64 * pool_chunks c} (omega arith) in
    let r : ℕ = (64 * first + (j - 6)) % (64 * pool_chunks c) in
    let l' : r < 64 * pool_chunks c = l in
    let a : ℕ = 8 * c * 6 in
    let p : ℕ = 64 * pool_chunks c in
    let q : r + (a + (8 * (n + 2))) < a + p + (8 * (n + 2)) = omega arith in q

-- the first chunk may be told without the modulus
reduced : (s p x : ℕ) → (64 * (s % p) + x) % (64 * p) ≡ (64 * s + x) % (64 * p)
reduced s p x =
    let r : ℕ = s % p in
    let q : ℕ = s / p in
    let whole : p * q + r ≡ s = div-add-mod s p in
    let m : ℕ = p * q in
    let turn : 64 * p * q ≡ 64 * m = mul_assoc 64 p q in
    let t : ℕ = 64 * p * q in
    let same : 64 * s + x ≡ 64 * r + x + t = omega arith in
    sym (ap (λ (k : ℕ). k % (64 * p)) same ∙ add-mul-mod_self_left (64 * r + x) (64 * p) q)

-- words of one stretch of the pool are apart
pool_apart : (n c s t j w : ℕ) → 64 * s + (j - 6) < 64 * t + (w - 6) → 64 * t + (w - 6) < 64 * s + (j - 6) + 64 * pool_chunks c
    → pool_word n c (s % pool_chunks c) j ≢ pool_word n c (t % pool_chunks c) w
unfolding pool_word
pool_apart n c s t j w lt near e =
    let p : ℕ = pool_chunks c in
    let a : ℕ = (64 * (s % p) + (j - 6)) % (64 * p) in
    let b : ℕ = (64 * (t % p) + (w - 6)) % (64 * p) in
    let y : ℕ = 8 * c * 6 + header n in
    let e' : a + y ≡ b + y = e in
    let same : a ≡ b = omega arith in
    let one : 64 * s + (j - 6) ≡ 64 * t + (w - 6) = one_turn (64 * s + (j - 6)) (64 * t + (w - 6)) (64 * p) (omega arith) near (sym (reduced s p (j - 6)) ∙ same ∙ reduced t p (w - 6)) in
    omega arith

-- Chunks along a log

chunks_hold : (e : List ℕ) (j : ℕ) → 6 ≤ j → j < length e → j - 6 < 64 * chunks e
chunks_hold e j six below = omega arith

pub before_stays : (log more : Log) (i : ℕ) → i ≤ length log → chunks_before (log ++ more) i ≡ chunks_before log i
unfolding chunks_before
before_stays log more i h = ap (sum_by chunks) (take-append-le i log more h)

pub before_grows : (log : Log) (f i : ℕ) → f ≤ i → chunks_before log f ≤ chunks_before log i
unfolding chunks_before
before_grows log f i h =
    let d : ℕ = i - f in
    let at : f + d ≡ i = omega arith in
    let split = ap (λ (k : ℕ). sum_by chunks (take k log)) (sym at) ∙ ap (sum_by chunks) (take-add f d log) ∙ sum_by-append chunks (take f log) (take d (drop f log)) in
    omega arith

pub before_and_from : (log : Log) (i : ℕ) → chunks_before log i + chunks_from log i ≡ chunks_before log (length log)
unfolding chunks_before chunks_from
before_and_from log i = sum_by-take-drop chunks log i ∙ ap (sum_by chunks) (sym (take-length log))

pub before_all : (log : Log) → chunks_before log (length log) ≡ sum_by chunks log
unfolding chunks_before
before_all log = ap (sum_by chunks) (take-length log)

before_next : (log : Log) (i : ℕ) (d : List ℕ) → get_elem? log i ≡ some d → chunks_before log i + chunks d ≤ chunks_before log (length log)
unfolding chunks_before
before_next log i d h =
    let a = at_get log i d d h in
    let m = sum_by_more_le chunks log i d a.0 in
    let g : chunks (get_or log i d) ≡ chunks d = ap chunks a.1 in
    let all : sum_by chunks (take (length log) log) ≡ sum_by chunks log = ap (sum_by chunks) (take-length log) in
    omega arith

-- what fits while more is kept fits while less is
pub fits_later : (c : ℕ) (log : Log) (e : List ℕ) (f g : ℕ) → f ≤ g → Fits c log e f → Fits c log e g
fits_later c log e f g le fits = record {
  window = let w = fits.window in omega arith;
  chunks_are_few = let w = fits.chunks_are_few in let a = before_and_from log f in let b = before_and_from log g in let m = before_grows log f g le in omega arith;
}

-- The places

pub place_early : (n c : ℕ) (log : Log) (i j : ℕ) → j < 6 → word_place n c log i j ≡ slot n c (lane log i) (earlier log i % c) j
unfolding word_place
place_early n c log i j l = ap (λ (b : Bool). cond b (slot n c (lane log i) (earlier log i % c) j) (pool_word n c (chunks_before log i % pool_chunks c) j)) (lt-ltb j 6 l)

pub place_late : (n c : ℕ) (log : Log) (i j : ℕ) → 6 ≤ j → word_place n c log i j ≡ pool_word n c (chunks_before log i % pool_chunks c) j
unfolding word_place
place_late n c log i j l = ap (λ (b : Bool). cond b (slot n c (lane log i) (earlier log i % c) j) (pool_word n c (chunks_before log i % pool_chunks c) j)) (le-ltb j 6 l)

table_holds_places : (n c : ℕ) → 8 * c * 6 + header n ≤ table_words n c
unfolding table_words
table_holds_places n c = let a : ℕ = 8 * c * 6 in let q : a + (8 * (n + 2)) ≤ a + 64 * pool_chunks c + (8 * (n + 2)) = omega arith in q

early_below : (n c : ℕ) (log : Log) (i j : ℕ) → 0 < c → j < 6 → word_place n c log i j < 8 * c * 6 + header n
early_below n c log i j pos l = let e = place_early n c log i j l in let b = slot_below n c (lane log i) (earlier log i % c) j (lane_below_8 log i) (mod-lt (earlier log i) pos) l in omega arith

late_after : (n c : ℕ) (log : Log) (i j : ℕ) → 6 ≤ j → 8 * c * 6 + header n ≤ word_place n c log i j
late_after n c log i j l = let e = place_late n c log i j l in let b = pool_after n c (chunks_before log i % pool_chunks c) j in omega arith

-- it stands in the table
pub place_inside : (n c : ℕ) (log : Log) (i j : ℕ) → 0 < c → word_place n c log i j < table_words n c
place_inside n c log i j pos = dite (dec_le 6 j)
    (λ l. let e = place_late n c log i j l in let b = pool_inside n c (chunks_before log i % pool_chunks c) j in omega arith)
    (λ g. let b = early_below n c log i j pos (lt_of_not-le g) in let t = table_holds_places n c in omega arith)

-- and after the owner, the head and the cursors
pub place_after : (n c : ℕ) (log : Log) (i j k : ℕ) → k < header n → word_place n c log i j ≢ k
place_after n c log i j k l e = dite (dec_le 6 j)
    (λ s. let b = late_after n c log i j s in let a : ℕ = 8 * c * 6 in let b' : a + header n ≤ word_place n c log i j = b in omega arith)
    (λ g. let q = place_early n c log i j (lt_of_not-le g) in let b = slot_late n c (lane log i) (earlier log i % c) j in omega arith)

pub header_inside : (n c k : ℕ) → k < header n → k < table_words n c
header_inside n c k l = let t = table_holds_places n c in let a : ℕ = 8 * c * 6 in let t' : a + header n ≤ table_words n c = t in omega arith

-- a longer log moves no word
pub place_stays : (n c : ℕ) (log more : Log) (i j : ℕ) → i < length log → word_place n c (log ++ more) i j ≡ word_place n c log i j
unfolding word_place
place_stays n c log more i j l = λ k. spot n c (lane_stays log more i l k) (earlier_stays log more i l k % c) (before_stays log more i (le_of_lt l) k % pool_chunks c) j

-- of an event that stands after the log, the first word alone tells where its words stand
pub place_begun : (n c : ℕ) (log : Log) (e f : List ℕ) (j : ℕ) → 0 < length e → word_place n c (log ++ (e ++ f) ∷ []) (length log) j ≡ word_place n c (log ++ e ∷ []) (length log) j
unfolding word_place
place_begun n c log e f j pos =
    let before : chunks_before (log ++ (e ++ f) ∷ []) (length log) ≡ chunks_before (log ++ e ∷ []) (length log) = before_stays log ((e ++ f) ∷ []) (length log) (le_refl (length log)) ∙ sym (before_stays log (e ∷ []) (length log) (le_refl (length log))) in
    λ k. spot n c (lane_begun log e f pos k) (earlier_begun log e f pos k % c) (before k % pool_chunks c) j

early_late : (n c : ℕ) (log log' : Log) (i h j w : ℕ) → 0 < c → j < 6 → 6 ≤ w → word_place n c log i j ≢ word_place n c log' h w
early_late n c log log' i h j w pos a b e = let x = early_below n c log i j pos a in let y = late_after n c log' h w b in let z : ℕ = 8 * c * 6 + header n in let x' : word_place n c log i j < z = x in let y' : z ≤ word_place n c log' h w = y in omega arith

late_less : (n c : ℕ) (log : Log) (i j w : ℕ) → 6 ≤ j → j < w → w < 518 → word_place n c log i j ≢ word_place n c log i w
late_less n c log i j w six lt b e =
    let s : ℕ = chunks_before log i in
    pool_apart n c s s j w (omega arith) (omega arith) (sym (place_late n c log i j six) ∙ e ∙ place_late n c log i w (omega arith))

less_apart : (n c : ℕ) (log : Log) (i j w : ℕ) → 0 < c → j < w → w < 518 → word_place n c log i j ≢ word_place n c log i w
less_apart n c log i j w pos lt b e = dite (dec_le 6 j)
    (λ s. late_less n c log i j w s lt b e)
    (λ g. let early = lt_of_not-le g in dite (dec_le 6 w)
    (λ s. early_late n c log log i i j w pos early s e)
    (λ g'. let q = slots_apart n c (lane log i) (earlier log i % c) j (lane log i) (earlier log i % c) w (mod-lt (earlier log i) pos) (mod-lt (earlier log i) pos) early (lt_of_not-le g') (sym (place_early n c log i j early) ∙ e ∙ place_early n c log i w (lt_of_not-le g')) in let r = q.2 in omega arith))

-- two words of one event
pub words_apart : (n c : ℕ) (log : Log) (i j w : ℕ) → 0 < c → j < 518 → w < 518 → j ≢ w → word_place n c log i j ≢ word_place n c log i w
words_apart n c log i j w pos a b ne e = dite (dec_le (suc j) w)
    (λ l. less_apart n c log i j w pos (let q : suc j ≤ w = l in omega arith) b e)
    (λ g. let l = lt_of_not-le g in less_apart n c log i w j pos (omega arith) a (sym e))

-- words of two events in places
early_apart : (n c : ℕ) (log : Log) (e : List ℕ) (i j w : ℕ) → i < length log → length log < i + c → j < 6 → w < 6 → word_place n c log i j ≢ word_place n c (log ++ e ∷ []) (length log) w
early_apart n c log e i j w lt near a b q =
    let log' : Log = log ++ e ∷ [] in
    let h : ℕ = length log in
    let pos : 0 < c = omega arith in
    let s = slots_apart n c (lane log' i) (earlier log' i % c) j (lane log' h) (earlier log' h % c) w (mod-lt (earlier log' i) pos) (mod-lt (earlier log' h) pos) a b
    (sym (place_early n c log' i j a) ∙ place_stays n c log (e ∷ []) i j lt ∙ q ∙ place_early n c log' h w b) in
    lane_places_apart log e c i lt near s.0 s.1

-- and in chunks
late_apart : (n c : ℕ) (log : Log) (d e : List ℕ) (i j w : ℕ) → get_elem? log i ≡ some d → chunks_from log i + chunks e ≤ pool_chunks c → 6 ≤ j → 6 ≤ w → j < length d → w < length e
    → word_place n c log i j ≢ word_place n c (log ++ e ∷ []) (length log) w
late_apart n c log d e i j w at few a b jl wl q =
    let log' : Log = log ++ e ∷ [] in
    let h : ℕ = length log in
    let s : ℕ = chunks_before log i in
    let t : ℕ = chunks_before log h in
    let first : s + chunks d ≤ t = before_next log i d at in
    let kept : s + chunks_from log i ≡ t = before_and_from log i in
    let x = chunks_hold d j a jl in
    let y = chunks_hold e w b wl in
    pool_apart n c s t j w (omega arith) (omega arith)
    (sym (place_late n c log i j a) ∙ q ∙ place_late n c log' h w b ∙ ap (λ (k : ℕ). pool_word n c (k % pool_chunks c) w) (before_stays log (e ∷ []) h (le_refl h)))

-- words of two events, the later of which stands after the log and fits while the earlier is kept
pub places_apart : (n c : ℕ) (log : Log) (d e : List ℕ) (f i j w : ℕ) → f ≤ i → get_elem? log i ≡ some d → Fits c log e f → j < length d → w < length e → word_place n c log i j ≢ word_place n c (log ++ e ∷ []) (length log) w
places_apart n c log d e f i j w from at fits jl wl q =
    let a = at_get log i d d at in
    let lt : i < length log = a.0 in
    let here = fits_later c log e f i from fits in
    let near = here.window in
    let pos : 0 < c = omega arith in
    dite (dec_le 6 j)
    (λ s. dite (dec_le 6 w)
    (λ t. late_apart n c log d e i j w at here.chunks_are_few s t jl wl q)
    (λ g. early_late n c (log ++ e ∷ []) log (length log) i w j pos (lt_of_not-le g) s (sym q)))
    (λ g. dite (dec_le 6 w)
    (λ t. early_late n c log (log ++ e ∷ []) i (length log) j w pos (lt_of_not-le g) t q)
    (λ g'. early_apart n c log e i j w lt near (lt_of_not-le g) (lt_of_not-le g') q))

-- the places of the lanes alone
pub slot_after : (n c l k j h : ℕ) → h < header n → slot n c l k j ≢ h
slot_after n c l k j h b e = let a = slot_late n c l k j in omega arith

pub slot_inside : (n c l k j : ℕ) → l < 8 → k < c → j < 6 → slot n c l k j < table_words n c
slot_inside n c l k j a b d = let x = slot_below n c l k j a b d in let t = table_holds_places n c in omega arith

-- word 1 of a place is a later word of no event
pub second_apart : (n c l k : ℕ) (log : Log) (i j : ℕ) → l < 8 → k < c → 6 ≤ j → slot n c l k 1 ≢ word_place n c log i j
second_apart n c l k log i j a b six e = let x = slot_below n c l k 1 a b (omega arith) in let y = late_after n c log i j six in let z : ℕ = 8 * c * 6 + header n in let x' : slot n c l k 1 < z = x in let y' : z ≤ word_place n c log i j = y in omega arith

pub place_next : (n c : ℕ) (log : Log) (i j : ℕ) → j < 6 → word_place n c log i j ≡ next_slot n c (lanes_after (take i log)) (lane log i) j
place_next n c log i j l = place_early n c log i j l ∙ ap (λ (k : ℕ). slot n c (lane log i) (k % c) j) (earlier_was_count log i)

pub place_last : (n c : ℕ) (log : Log) (e : List ℕ) (j : ℕ) → j < 6 → word_place n c (log ++ e ∷ []) (length log) j ≡ next_slot n c (lanes_after log) (lane (log ++ e ∷ []) (length log)) j
place_last n c log e j l = place_early n c (log ++ e ∷ []) (length log) j l ∙ ap (λ (k : ℕ). slot n c (lane (log ++ e ∷ []) (length log)) (k % c) j) (earlier_is_count log e)

-- How many words there are

pub table_size : (n c : ℕ) → table_words n c ≡ 8 * c * 6 + 64 * (2 * c + 8) + 8 * (n + 2)
unfolding table_words
table_size n c = refl

pub table_is_small : (n c : ℕ) → n ≤ 16 → c ≤ 1024 → table_words n c ≤ 181000
unfolding table_words
table_is_small n c a b = let q : 8 * c * 6 + 64 * (2 * c + 8) + 8 * (n + 2) ≤ 181000 = omega arith in q

-- a word of an event stands in the table
pub spot_inside : (n c l k first j : ℕ) → l < 8 → k < c → spot n c l k first j < table_words n c
spot_inside n c l k first j a b = dite (dec_le 6 j)
    (λ s. subst (λ (t : Bool). cond t (slot n c l k j) (pool_word n c first j) < table_words n c) (sym (le-ltb j 6 s)) (pool_inside n c first j))
    (λ g. let few = lt_of_not-le g in subst (λ (t : Bool). cond t (slot n c l k j) (pool_word n c first j) < table_words n c) (sym (lt-ltb j 6 few)) (slot_inside n c l k j a b few))

pub place_is_spot : (n c : ℕ) (log : Log) (i j : ℕ) → word_place n c log i j ≡ spot n c (lane log i) (earlier log i % c) (chunks_before log i % pool_chunks c) j
unfolding word_place
place_is_spot n c log i j = refl
