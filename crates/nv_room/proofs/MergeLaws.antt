-- Probing the lanes that live, one by one, finds the next event.
use Rattle.std.proofs.Common.{◌≡◌, ◌≢◌, ℕ, zero, suc, ◌%◌, ◌<◌, ⊎_elim, Bool, true, false, cond, List, [], ◌∷◌, length, take, get_or, sym, ap, subst, ◌∙◌, refl, arith, mod-lt}
use Rattle.std.specs.Prelude.{Option, Some, None, replicate, is_some, unwrap_or, ◌==◌, ◌||◌}
use Rattle.std.proofs.lemmas.Bool.{ne_eqb}
use Rattle.std.proofs.lemmas.List.{get_or-replicate, take-map}
use Rattle.atomic_table.proofs.Lists.{at_map}
use Rattle.nv_calls.specs.Logs.{IsLawful}
use Rattle.nv_words.specs.Read.{event_of}
use Rattle.nv_words.specs.Spelling.{low}
use Rattle.nv_room.specs.Lanes.{Holders, lane_of, lane_in, lives, start, taken_after}
use Rattle.nv_room.proofs.LiveLaws.{lane_lives, there}
use Rattle.nv_room.specs.Logs.{Log, entries, lanes_after, lane, earlier}
use Rattle.nv_room.proofs.LogLaws.{earlier_was_count}
use Rattle.nv_room.specs.Stamps.{Published, Begun, Stamps, IsStamped, found_in_lane, Lives}

-- before any event lane 0 alone lives, and the first event stands there
only_lane_0 : (l : ℕ) → l < 8 → lives start l ≡ true → l ≡ 0
unfolding start
only_lane_0 zero b h = refl
only_lane_0 (suc l) b h = let nobody : Holders = replicate 7 None in let q : get_or nobody l None ≡ None = get_or-replicate 7 l None None (omega arith) in let z : (suc l == 0) ≡ false = ne_eqb (suc l) 0 (λ e. omega arith) in let r : false ≡ true = sym (λ k. z k || is_some (q k)) ∙ h in cc

or_0 : Option ℕ → ℕ
or_0 found_in_lane = unwrap_or found_in_lane 0

lane_0_first : (tid : ℕ) → lane_in start.holders tid ≡ 0
unfolding start lane_of or_0
lane_0_first tid = elim (100 == tid) as (λ (b : Bool). or_0 (cond b (Some 0) None) ≡ 0) [ true ↦ refl | false ↦ refl ]

lane_first : (log : Log) → 0 < length log → lane log 0 ≡ 0
lane_first [] pos = absurd (omega arith)
lane_first (e ∷ es) pos = lane_0_first (event_of e).call.tid

unseen : (seen : Log) → length seen ≡ 0 → seen ≡ []
unseen [] e = refl
unseen (x ∷ xs) e = absurd (omega arith)

-- a living lane whose next place has the reader's count has the next event
pub probe_hits : (c : ℕ) (second : ℕ → ℕ → ℕ) (log : Log) (writing : List ℕ) (seen : Log) (l : ℕ) → 0 < c → Stamps c second log writing → length seen < length log → l < 8 → Lives seen l
    → found_in_lane c second seen l ≡ length seen → l ≡ lane log (length seen)
probe_hits c second log writing seen l pos stamps more below living is =
    ⊎_elim
    (λ (z : found_in_lane c second seen l ≡ 0). let nothing : length seen ≡ 0 = sym is ∙ z in let at_start = subst (λ (s : Log). Lives s l) (unseen seen nothing) living in
    only_lane_0 l below at_start ∙ sym (lane_first log (omega arith)) ∙ ap (lane log) (sym nothing))
    (λ s. ⊎_elim
    (λ (p : Published log l (found_in_lane c second seen l)). sym p.lane_is ∙ ap (lane log) is)
    (λ (b : Begun log writing l (found_in_lane c second seen l)). let h = b.at_head in absurd (omega arith))
    s)
    (stamps l (get_or (lanes_after seen).counts l 0 % c) below (mod-lt (get_or (lanes_after seen).counts l 0) pos))

-- the next event's lane has the reader's count
pub next_found : (c : ℕ) (second : ℕ → ℕ → ℕ) (log seen : Log) → take (length seen) log ≡ seen → IsStamped c second log (length seen) → found_in_lane c second seen (lane log (length seen)) ≡ length seen
next_found c second log seen prefix stands =
    let i : ℕ = length seen in
    let l : ℕ = lane log i in
    let count : earlier log i ≡ get_or (lanes_after seen).counts l 0 = earlier_was_count log i ∙ ap (λ (z : Log). get_or (lanes_after z).counts l 0) prefix in
    ap (λ (k : ℕ). low (second l (k % c))) (sym count) ∙ stands

-- so another lane is no loss
pub probe_misses : (c : ℕ) (second : ℕ → ℕ → ℕ) (log seen : Log) (l : ℕ) → take (length seen) log ≡ seen → IsStamped c second log (length seen) → found_in_lane c second seen l ≢ length seen → l ≢ lane log (length seen)
probe_misses c second log seen l prefix stands other same = other (ap (found_in_lane c second seen) same ∙ next_found c second log seen prefix stands)

-- and that lane lives: where all that live were probed in vain there is no next event
pub next_lives : (log seen : Log) → IsLawful (entries log) → take (length seen) log ≡ seen → length seen < length log → Lives seen (lane log (length seen))
next_lives log seen lawful prefix more =
    let i : ℕ = length seen in
    let e = there log i more in
    let living = lane_lives (entries log) i (event_of e.0) lawful (at_map event_of log i e.0 e.1) in
    let same : taken_after (take i (entries log)) ≡ lanes_after seen = ap taken_after (take-map event_of i log) ∙ ap lanes_after prefix in
    ap (λ s. lives s (lane log i)) (sym same) ∙ living
