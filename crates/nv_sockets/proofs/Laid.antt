-- Another connection in the place of one that is there, as calls see it.
use Rattle.std.proofs.Common.{◌≡◌, ◌∙◌, sym, ap, subst, refl, ℕ, zero, suc, ◌<◌, List, [], ◌∷◌, ◌++◌, length, map, get_or, set, Option, Some, None}
use Rattle.std.specs.Prelude.{slice_index, slice_get, slice_set, IfNone}
use Rattle.std.specs.Global.{Vec}
use Rattle.std.proofs.lemmas.List.{map-set, set-set, map-append, length-map}
use Rattle.nv_calls.specs.Tables.{Sparse}
use Rattle.nv_sockets.specs.declared.connection.Connection.{Connection}
use Rattle.nv_sockets.specs.declared.sockets.Sockets.TheInside.{Inside}
use Rattle.nv_sockets.specs.Sockets.{Link, Net}
use Rattle.nv_sockets.specs.Reserved.{Held, Buffered, Keeps}
use Rattle.nv_sockets.specs.Views.{link_of, gone_of, capacity_of, promised_of, net_of, held_of, buffered_of}
use Rattle.nv_sockets.specs.Changes.{IsLink, changed_at}
use Rattle.nv_sockets.specs.declared.waiting.Waiting.{Waiting}
use Rattle.nv_sockets.proofs.Keeping.{no_link, keeps_set, keeps_push}
use Rattle.nv_sockets.proofs.There.{there_at}

-- what is known of the table after it
pub record Placed (t u : Sparse Connection) (i : ℕ) (c : Connection) : Type 0 where
  pub items : u.items ≡ slice_set t.items i c
  pub numbers : u.numbers ≡ t.numbers
  pub most : u.most ≡ t.most

pub placed : (t u : Sparse Connection) (p i : ℕ) (c : Connection) → u.items ≡ slice_set t.items (slice_index t.numbers p) c → u.numbers ≡ t.numbers → u.most ≡ t.most → slice_index t.numbers p ≡ i → Placed t u i c
placed t u p i c items numbers most at = record { items = items ∙ ap (λ (n : ℕ). slice_set t.items n c) at; numbers = numbers; most = most }

mapped : {Y : Type 0} (f : Connection → Y) (t u : Sparse Connection) (i : ℕ) (c : Connection) → Placed t u i c → map f u.items ≡ set (map f t.items) i (f c)
mapped f t u i c h = ap (map f) h.items ∙ map-set f t.items i c

abbrev pub with_table : Inside → Sparse Connection → Inside
with_table a u = record a { connections = u }

pub laid : (a : Inside) (w : Buffered) (u : Sparse Connection) (i : ℕ) (c : Connection) → buffered_of a ≡ w → Placed a.connections u i c → buffered_of (with_table a u) ≡ changed_at w i c
laid a w u i c view h =
    let links = mapped link_of a.connections u i c h in
    let gone = mapped gone_of a.connections u i c h in
    let buffers = mapped capacity_of a.connections u i c h in
    let promised = mapped promised_of a.connections u i c h in
    let here : buffered_of (with_table a u) ≡ changed_at (buffered_of a) i c = λ j. record {
      net = record (net_of a) { links = links j };
      held = record { there = h.numbers j; gone = gone j };
      buffers = buffers j;
      promised = promised j;
      places = h.most j;
      waits = (buffered_of a).waits;
    } in
    here ∙ ap (λ (z : Buffered). changed_at z i c) view

pub keeps_laid : (a : Inside) (u : Sparse Connection) (p i : ℕ) (c : Connection) → Keeps (net_of a) (held_of a) → Placed a.connections u i c → p < length a.connections.numbers → slice_index a.connections.numbers p ≡ i
    → Keeps (net_of (with_table a u)) (held_of (with_table a u))
keeps_laid a u p i c k h l at =
    let after = laid a (buffered_of a) u i c refl h in
    subst (λ (z : Buffered). Keeps z.net z.held) (sym after) (keeps_set (net_of a) (held_of a) i (link_of c) (gone_of c) k (there_at a.connections.numbers p i l at))

got : {Y : Type 0} (f : Connection → Y) (xs : List Connection) (k : ℕ) (x : Connection) (d : Y) → slice_get xs k ≡ Some x → f x ≡ get_or (map f xs) k d
got f [] k x d e = absurd (cc)
got f (y ∷ ys) zero x d e = ap f (sym (some y x e))
  where
    some : (y x : Connection) → Some y ≡ Some x → y ≡ x
    some y x e = cc
got f (y ∷ ys) (suc k) x d e = got f ys k x d e

pub lifted : (a : Inside) (w : Buffered) (p i : ℕ) (c : Connection) → buffered_of a ≡ w → slice_index a.connections.numbers p ≡ i → slice_get a.connections.items (slice_index a.connections.numbers p) ≡ Some c → IsLink w i c
lifted a w p i c view at e =
    let xs = a.connections.items in
    let here : slice_get xs i ≡ Some c = ap (λ (n : ℕ). slice_get xs n) (sym at) ∙ e in
    subst (λ (z : Buffered). IsLink z i c) view record {
      link = got link_of xs i c no_link here;
      gone = got gone_of xs i c 0 here;
      buffer = got capacity_of xs i c 0 here;
      promise = got promised_of xs i c 0 here;
    }

pub changed_twice : (w : Buffered) (i : ℕ) (b c : Connection) → changed_at (changed_at w i b) i c ≡ changed_at w i c
changed_twice w i b c = λ j. record w {
  net = record w.net { links = set-set w.net.links i (link_of b) (link_of c) j };
  held = record w.held { gone = set-set w.held.gone i (gone_of b) (gone_of c) j };
  buffers = set-set w.buffers i (capacity_of b) (capacity_of c) j;
  promised = set-set w.promised i (promised_of b) (promised_of c) j;
}

pub if_none : (o : Option ℕ) {P Q : Type 0} → (P → Q) → IfNone o P → IfNone o Q
if_none None f p = f p
if_none (Some x) f p = p

-- the same connections, of which others are there
pub keeps_same : (a : Inside) (u : Sparse Connection) (there : List ℕ) → u.items ≡ a.connections.items → u.numbers ≡ there → Keeps (net_of a) (record (held_of a) { there = there }) → Keeps (net_of (with_table a u)) (held_of (with_table a u))
keeps_same a u there items numbers k =
    let net : net_of a ≡ net_of (with_table a u) = ap (λ (z : List Connection). record (net_of a) { links = map link_of z }) (sym items) in
    let held : record (held_of a) { there = there } ≡ held_of (with_table a u) = λ j. record { there = sym numbers j; gone = map gone_of (sym items j) } in
    subst (λ (h : Held). Keeps (net_of (with_table a u)) h) held (subst (λ (n : Net). Keeps n (record (held_of a) { there = there })) net k)

-- one more, of which nothing is gone
pub keeps_more : (a : Inside) (u : Sparse Connection) (waiting : Vec Waiting) (c : Connection) → Keeps (net_of a) (held_of a) → u.items ≡ a.connections.items ++ c ∷ [] → u.numbers ≡ a.connections.numbers ++ length a.connections.items ∷ []
    → gone_of c ≡ 0 → Keeps (net_of (record a { waiting = waiting; connections = u })) (held_of (record a { waiting = waiting; connections = u }))
keeps_more a u waiting c k items numbers none =
    let xs = a.connections.items in
    let same : length (map gone_of xs) ≡ length (map link_of xs) = length-map xs gone_of ∙ sym (length-map xs link_of) in
    let links : map link_of xs ++ link_of c ∷ [] ≡ map link_of u.items = sym (ap (map link_of) items ∙ map-append link_of xs (c ∷ [])) in
    let gone : map gone_of xs ++ 0 ∷ [] ≡ map gone_of u.items = ap (λ (n : ℕ). map gone_of xs ++ n ∷ []) (sym none) ∙ sym (ap (map gone_of) items ∙ map-append gone_of xs (c ∷ [])) in
    let there : a.connections.numbers ++ length (map link_of xs) ∷ [] ≡ u.numbers = ap (λ (n : ℕ). a.connections.numbers ++ n ∷ []) (length-map xs link_of) ∙ sym numbers in
    let more = keeps_push (net_of a) (held_of a) (link_of c) same k in
    let net : record (net_of a) { links = map link_of xs ++ link_of c ∷ [] } ≡ record (net_of a) { links = map link_of u.items } = ap (λ (z : List Link). record (net_of a) { links = z }) links in
    let held : record { there = a.connections.numbers ++ length (map link_of xs) ∷ []; gone = map gone_of xs ++ 0 ∷ [] } ≡ record { there = u.numbers; gone = map gone_of u.items } = λ j. record { there = there j; gone = gone j } in
    let all : Keeps (record (net_of a) { links = map link_of u.items }) (record { there = u.numbers; gone = map gone_of u.items }) =
    subst (λ (h : Held). Keeps (record (net_of a) { links = map link_of u.items }) h) held
    (subst (λ (n : Net). Keeps n (record { there = a.connections.numbers ++ length (map link_of xs) ∷ []; gone = map gone_of xs ++ 0 ∷ [] })) net more) in
    record { going = all.going; gone = all.gone }
