-- Where the code finds words: by the lanes that a seat keeps.
use Rattle.std.proofs.Common.{◌≡◌, ℕ, ◌%◌, ◌<◌, Bool, true, false, cond, List, [], ◌∷◌, ◌++◌, length, take, get_or, sym, refl, ap, ◌∙◌, subst, mod-lt, arith}
use Rattle.std.specs.Prelude.{Option, Some, None, IsSome, ◌==◌}
use Rattle.std.proofs.lemmas.Option.{same_Some}
use Rattle.nv_words.specs.Spelling.{low}
use Rattle.nv_words.specs.Read.{event_of}
use Rattle.nv_words.specs.Begins.{Prefix}
use Rattle.nv_room.specs.Lanes.{lane_in}
use Rattle.nv_room.specs.Logs.{lanes_after, lane, earlier}
use Rattle.atomic_table.proofs.Lists.{at_longer}
use Rattle.nv_room.specs.declared.spot.Spot.{Spot}
use Rattle.nv_room.proofs.LogLaws.{lane_is_taken, earlier_was_count}
use Rattle.nv_room.proofs.PoolOfLog.{before_prefix}
use Rattle.nv_room.specs.declared.view.View.{View}
use Rattle.nv_room.specs.Placement.{Log, pool_chunks, chunks_before, slot, spot, word_place, next_slot}
use Rattle.nv_room.specs.Steps.{probed_at, with_note, with_miss}
use Rattle.nv_room.specs.Trails.{IsSpot, NotedAt}
use Rattle.nv_room.proofs.Lists.{prefix_take}
use Rattle.nv_room.proofs.Placement.{place_is_spot}

pub some_of : {A : Type 0} (o : Option A) → IsSome o → (x : A) × (o ≡ Some x)
some_of None h = cc
some_of (Some x) h = (x, refl)

-- what the code that finds a word asks
pub spot_in : (c : ℕ) (seen : Log) (l : ℕ) (s : Spot) → 0 < c → IsSpot c seen l s → (s.lane < 8) × (s.place < c) × (s.first < pool_chunks c)
spot_in c seen l s pos is = (
  let e = is.lane in let b = is.below in omega arith,
  subst (λ (z : ℕ). z < c) (sym is.place) (mod-lt (get_or (lanes_after seen).counts l 0) pos),
  subst (λ (z : ℕ). z < pool_chunks c) (sym is.first) (mod-lt (chunks_before seen (length seen)) (omega arith)),
)

-- the words of the event after the seen list
pub spot_word : (n c : ℕ) (log seen : Log) (l j : ℕ) (s : Spot) → Prefix seen log → l ≡ lane log (length seen) → IsSpot c seen l s → spot n c s.lane s.place s.first j ≡ word_place n c log (length seen) j
spot_word n c log seen l j s pre is at =
    let h : ℕ = length seen in
    let prefix : take h log ≡ seen = prefix_take seen log pre in
    let place : s.place ≡ earlier log h % c =
    at.place ∙ ap (λ (z : ℕ). get_or (lanes_after seen).counts z 0 % c) is ∙ ap (λ (z : Log). get_or (lanes_after z).counts (lane log h) 0 % c) (sym prefix) ∙ ap (λ (z : ℕ). z % c) (sym (earlier_was_count log h)) in
    let first : s.first ≡ chunks_before log h % pool_chunks c = at.first ∙ ap (λ (z : ℕ). z % pool_chunks c) (sym (before_prefix log seen h prefix)) in
    (λ k. spot n c ((at.lane ∙ is) k) (place k) (first k) j) ∙ sym (place_is_spot n c log h j)

-- word 1, which a probe looks at
pub spot_second : (n c : ℕ) (seen : Log) (l : ℕ) (s : Spot) → IsSpot c seen l s → spot n c s.lane s.place s.first 1 ≡ next_slot n c (lanes_after seen) l 1
spot_second n c seen l s at = λ k. slot n c (at.lane k) (at.place k) 1

first_tid : (w : List ℕ) (word : ℕ) → length w ≡ 0 → (event_of (w ++ word ∷ [])).call.tid ≡ low word
unfolding event_of
first_tid [] word e = refl
first_tid (x ∷ xs) word e = absurd (omega arith)

-- the lane of an event of which the first word comes, and of one of which more come
pub lane_first : (log : Log) (w : List ℕ) (word : ℕ) → length w ≡ 0 → lane_in (lanes_after log).holders (low word) ≡ lane (log ++ (w ++ word ∷ []) ∷ []) (length log)
lane_first log w word e = sym (lane_is_taken log (w ++ word ∷ []) ∙ ap (lane_in (lanes_after log).holders) (first_tid w word e))

pub prefix_self : (log : Log) (e : List ℕ) → Prefix log (log ++ e ∷ [])
prefix_self log e i x at = at_longer log (e ∷ []) i x at

module _ {T : Type 0} (l r : ℕ) (v : View T) where
  pub probed_hit : (low r == length v.seen) ≡ true → probed_at l v r ≡ with_note l v
  probed_hit t = ap (λ (b : Bool). cond b (with_note l v) (with_miss l v)) t

  pub probed_miss : (low r == length v.seen) ≡ false → probed_at l v r ≡ with_miss l v
  probed_miss t = ap (λ (b : Bool). cond b (with_note l v) (with_miss l v)) t

  pub noted_after : (seen : ℕ) (at old : Spot) → length v.seen ≡ seen → IsSpot v.places v.seen l at → NotedAt old v → NotedAt (cond (low r == seen) at old) (probed_at l v r)
  noted_after seen at old is found kept = subst (λ (z : ℕ). NotedAt (cond (low r == z) at old) (probed_at l v r)) is
      (elim (low r == length v.seen) as (λ (b : Bool). NotedAt (cond b at old) (cond b (with_note l v) (with_miss l v))) [
        | true ↦ (λ j q. subst (λ (z : ℕ). IsSpot v.places v.seen z at) (same_Some l j q) found)
        | false ↦ kept
      ])

  -- what a probe leaves as it was
  pub probed_same : {A : Type 0} (f : View T → A) → f (with_note l v) ≡ f v → f (with_miss l v) ≡ f v → f (probed_at l v r) ≡ f v
  probed_same f a b = elim (low r == length v.seen) as (λ (t : Bool). f (cond t (with_note l v) (with_miss l v)) ≡ f v) [ true ↦ a | false ↦ b ]
