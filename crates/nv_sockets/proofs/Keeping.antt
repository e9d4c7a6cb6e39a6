-- Each connection that is going is there, and of the others all that was written was let go: as connections come, change and are let go.
use Rattle.std.proofs.Common.{◌≡◌, ◌≢◌, ◌∙◌, sym, ap, refl, ℕ, ◌+◌, ◌<◌, ◌≤◌, Bool, true, false, [], ◌∷◌, ◌++◌, length, None, is_some, ⊎_elim, arith}
use Rattle.std.specs.Prelude.{slice_index, slice_set, remove}
use Rattle.std.proofs.lemmas.Bool.{cases_eq, cases_lt}
use Rattle.std.proofs.lemmas.List.{get_or-set_same, get_or-set_other, get_or_append_left, get_or_past, length_push}
use Rattle.nv_sockets.specs.Sockets.{Link, Net, link_at, is_going, link_output, with_link}
use Rattle.nv_sockets.specs.Reserved.{Held, Keeps, AllThere, is_there}
use Rattle.nv_sockets.proofs.There.{not_both, there_left, there_last, not_left, by_there, there_removed}

abbrev pub no_link : Link
no_link = record { port = 0; inbox = None; output = [] }

pub link_same : (net : Net) (i j : ℕ) (link : Link) → j ≢ i → link_at (with_link net i link) j ≡ link_at net j
link_same net i j link e = get_or-set_other net.links i j link no_link e

pub link_here : (net : Net) (i : ℕ) (link : Link) → i < length net.links → link_at (with_link net i link) i ≡ link
link_here net i link l = get_or-set_same net.links i link no_link l

pub not_going : (net : Net) (held : Held) (i : ℕ) → Keeps net held → is_there held.there i ≡ false → is_going net i ≡ false
not_going net held i k h = by_test (is_going net i) (λ t. not_both (is_there held.there i) (k.going i t) h)
  where
    by_test : (b : Bool) → (b ≡ true → ⊥) → b ≡ false
    by_test true n = absurd (n refl)
    by_test false n = refl

pub keeps_set : (net : Net) (held : Held) (i : ℕ) (link : Link) (g : ℕ) → Keeps net held → is_there held.there i ≡ true → Keeps (with_link net i link) (record held { gone = slice_set held.gone i g })
keeps_set net held i link g k here = record {
  going = λ j h. ⊎_elim
      (λ (e : j ≡ i). ap (is_there held.there) e ∙ here)
      (λ (e : j ≢ i). k.going j (sym (ap (λ (z : Link). is_some z.inbox) (link_same net i j link e)) ∙ h))
      (cases_eq j i);
  gone = λ j h. ⊎_elim
      (λ (e : j ≡ i). absurd (not_both (is_there held.there j) (ap (is_there held.there) e ∙ here) h))
      (λ (e : j ≢ i). get_or-set_other held.gone i j g 0 e ∙ k.gone j h ∙ sym (ap (λ (z : Link). length z.output) (link_same net i j link e)))
      (cases_eq j i);
}

pub keeps_drop : (net : Net) (held : Held) (p i : ℕ) → Keeps net held → p < length held.there → slice_index held.there p ≡ i → is_going net i ≡ false → slice_index held.gone i ≡ length (link_output net i)
    → Keeps net (record held { there = remove held.there p })
keeps_drop net held p i k l is closed all = record { going = going; gone = gone }
  where
    other : (j : ℕ) → j ≢ i → slice_index held.there p ≢ j
    other j e h = e (sym h ∙ is)

    going : (j : ℕ) → is_going net j ≡ true → is_there (remove held.there p) j ≡ true
    going j h = ⊎_elim
        (λ (e : j ≡ i). absurd (not_both (is_going net j) h (ap (is_going net) e ∙ closed)))
        (λ (e : j ≢ i). there_removed held.there p j l (other j e) (k.going j h))
        (cases_eq j i)

    gone : (j : ℕ) → is_there (remove held.there p) j ≡ false → slice_index held.gone j ≡ length (link_output net j)
    gone j h = ⊎_elim
        (λ (e : j ≡ i). ap (slice_index held.gone) e ∙ all ∙ sym (ap (λ (n : ℕ). length (link_output net n)) e))
        (λ (e : j ≢ i). by_there held.there j (slice_index held.gone j ≡ length (link_output net j)) (λ t. absurd (not_both _ (there_removed held.there p j l (other j e) t) h)) (k.gone j))
        (cases_eq j i)

abbrev pub more_links : Net → Link → Net
more_links net link = record net { links = net.links ++ link ∷ [] }

pub keeps_push : (net : Net) (held : Held) (link : Link) → length held.gone ≡ length net.links → Keeps net held
    → Keeps (more_links net link) (record { there = held.there ++ length net.links ∷ []; gone = held.gone ++ 0 ∷ [] })
keeps_push net held link same k = record { going = going; gone = gone }
  where
    n : ℕ
    n = length net.links

    going : (j : ℕ) → is_going (more_links net link) j ≡ true → is_there (held.there ++ length net.links ∷ []) j ≡ true
    going j h = ⊎_elim
        (λ (below : j < length net.links).
        there_left held.there (length net.links) j (k.going j (sym (ap (λ (z : Link). is_some z.inbox) (get_or_append_left net.links (link ∷ []) no_link j below)) ∙ h)))
        (λ (over : length net.links ≤ j). ⊎_elim
        (λ (e : j ≡ length net.links). there_last held.there (length net.links) j (sym e))
        (λ (e : j ≢ length net.links).
        let past : length (net.links ++ link ∷ []) ≤ j = (let long = length_push net.links link in let more = above j (length net.links) over e in omega (arith, long, more)) in
        absurd (not_both (is_going (more_links net link) j) h (ap (λ (z : Link). is_some z.inbox) (get_or_past (net.links ++ link ∷ []) j no_link past))))
        (cases_eq j (length net.links)))
        (cases_lt j (length net.links))
      where
        above : (j m : ℕ) → m ≤ j → j ≢ m → m + 1 ≤ j
        above j m a b = ⊎_elim (λ (e : j < m + 1). absurd (b (omega (arith, a, e)))) (λ (e : m + 1 ≤ j). e) (cases_lt j (m + 1))

    gone : (j : ℕ) → is_there (held.there ++ length net.links ∷ []) j ≡ false → slice_index (held.gone ++ 0 ∷ []) j ≡ length (link_output (more_links net link) j)
    gone j h = ⊎_elim
        (λ (below : j < length net.links).
        get_or_append_left held.gone (0 ∷ []) 0 j (omega (arith, below, same)) ∙ k.gone j (not_left held.there (length net.links) j h)
        ∙ sym (ap (λ (z : Link). length z.output) (get_or_append_left net.links (link ∷ []) no_link j below)))
        (λ (over : length net.links ≤ j). ⊎_elim
        (λ (e : j ≡ length net.links). absurd (not_both (is_there (held.there ++ length net.links ∷ []) j) (there_last held.there (length net.links) j (sym e)) h))
        (λ (e : j ≢ length net.links).
        let more = above j (length net.links) over e in
        let past : length (net.links ++ link ∷ []) ≤ j = (let long = length_push net.links link in omega (arith, long, more)) in
        let past' : length (held.gone ++ 0 ∷ []) ≤ j = (let long = length_push held.gone 0 in omega (arith, long, more, same)) in
        get_or_past (held.gone ++ 0 ∷ []) j 0 past' ∙ sym (ap (λ (z : Link). length z.output) (get_or_past (net.links ++ link ∷ []) j no_link past)))
        (cases_eq j (length net.links)))
        (cases_lt j (length net.links))
      where
        above : (j m : ℕ) → m ≤ j → j ≢ m → m + 1 ≤ j
        above j m a b = ⊎_elim (λ (e : j < m + 1). absurd (b (omega (arith, a, e)))) (λ (e : m + 1 ≤ j). e) (cases_lt j (m + 1))

pub keeps_all : (net : Net) (held : Held) → length held.gone ≡ length net.links → AllThere held.there (length net.links) → Keeps net held
keeps_all net held same all = record {
  going = λ j h. ⊎_elim (λ (below : j < length net.links). all.each j below)
      (λ (over : length net.links ≤ j). absurd (not_both (is_going net j) h (ap (λ (z : Link). is_some z.inbox) (get_or_past net.links j no_link over))))
      (cases_lt j (length net.links));
  gone = λ j h. ⊎_elim (λ (below : j < length net.links). absurd (not_both (is_there held.there j) (all.each j below) h))
      (λ (over : length net.links ≤ j). get_or_past held.gone j 0 (omega (arith, over, same)) ∙ sym (ap (λ (z : Link). length z.output) (get_or_past net.links j no_link over)))
      (cases_lt j (length net.links));
}
