-- The memory for what comes, as one after another arrives.
use Rattle.std.proofs.Common.{◌≡◌, ◌≢◌, ◌∙◌, sym, ap, subst, refl, ℕ, zero, suc, ◌+◌, ◌-◌, ◌<◌, ◌≤◌, true, false, List, [], ◌∷◌, ◌++◌, length, Some, None, ⊎_elim, arith, length-append}
use Rattle.std.specs.Prelude.{slice_index, slice_index_or, is_some}
use Rattle.std.proofs.lemmas.Bool.{cases_eq, cases_lt}
use Rattle.std.proofs.lemmas.List.{length-set, get_or_append_left, get_or_push}
use Rattle.nv_fs.specs.Reserved.{Disk}
use Rattle.nv_sockets.specs.Sockets.{Inbox, Link, Net, is_going, with_inbox}
use Rattle.nv_sockets.specs.Reserved.{Held, Buffered}
use Rattle.nv_sockets.specs.Coming.{connected, with_data, ended, came_over, HasInput, HasPlaces}
use Rattle.nv_script.specs.Arrivals.{Arrival, Input, InputEnd, ClientsEnd, Connect, Data, End, Time}
use Rattle.nv_arriving.specs.Reserved.{Room, input_bytes, connects, data_of, HasKept, HasRoom, CanTakeIn, IsKept}
use Rattle.nv_arriving.proofs.Sides.{bytes_first}

-- ---- one, and the others

pub data_first : (j : ℕ) (a : Arrival) (xs : List Arrival) → data_of j (a ∷ xs) ≡ data_of j (a ∷ []) + data_of j xs
data_first j (Input bytes) xs = omega arith
data_first j InputEnd xs = omega arith
data_first j ClientsEnd xs = omega arith
data_first j (Connect port) xs = omega arith
data_first j (Data i bytes) xs = omega arith
data_first j (End i) xs = omega arith
data_first j (Time seconds nanos) xs = omega arith

pub data_last : (j : ℕ) (xs : List Arrival) (a : Arrival) → data_of j (xs ++ a ∷ []) ≡ data_of j (a ∷ []) + data_of j xs
data_last j [] a = omega arith
data_last j (x ∷ xs) a = omega (arith, data_first j x (xs ++ a ∷ []), data_first j x xs, data_last j xs a)

pub connects_first : (a : Arrival) (xs : List Arrival) → connects (a ∷ xs) ≡ connects (a ∷ []) + connects xs
connects_first (Input bytes) xs = omega arith
connects_first InputEnd xs = omega arith
connects_first ClientsEnd xs = omega arith
connects_first (Connect port) xs = omega arith
connects_first (Data i bytes) xs = omega arith
connects_first (End i) xs = omega arith
connects_first (Time seconds nanos) xs = omega arith

pub connects_last : (xs : List Arrival) (a : Arrival) → connects (xs ++ a ∷ []) ≡ connects xs + connects (a ∷ [])
connects_last [] a = omega arith
connects_last (x ∷ xs) a = omega (arith, connects_first x (xs ++ a ∷ []), connects_first x xs, connects_last xs a)

-- ---- the memory for some serves for fewer

room_less : (r : Room) (xs ys : List Arrival) → input_bytes ys ≤ input_bytes xs → connects ys ≤ connects xs → ((j : ℕ) → data_of j ys ≤ data_of j xs) → HasRoom r xs → HasRoom r ys
room_less r xs ys bytes clients less h = record {
  input = omega (arith, h.input, bytes);
  clients = record { links = omega (arith, h.clients.links, clients); waiting = omega (arith, h.clients.waiting, clients) };
  data_fits = λ j going. omega (arith, h.data_fits j going, less j);
  kept = record {
    many = omega (arith, h.kept.many, clients);
    each = λ p l. omega (arith, h.kept.each p l, less (length r.buffered.net.links + length r.kept - suc p));
  };
}

pub room_first : (r : Room) (a : Arrival) (xs : List Arrival) → HasRoom r (a ∷ xs) → HasRoom r (a ∷ [])
room_first r a xs h = room_less r (a ∷ xs) (a ∷ []) (omega (arith, bytes_first a xs)) (omega (arith, connects_first a xs)) (λ j. omega (arith, data_first j a xs)) h

pub room_input_end : (r : Room) (xs : List Arrival) → HasRoom r (InputEnd ∷ xs) → HasRoom r xs
room_input_end r xs h = room_less r (InputEnd ∷ xs) xs (omega arith) (omega arith) (λ j. omega arith) h

pub room_clients_end : (r : Room) (xs : List Arrival) → HasRoom r (ClientsEnd ∷ xs) → HasRoom r xs
room_clients_end r xs h = room_less r (ClientsEnd ∷ xs) xs (omega arith) (omega arith) (λ j. omega arith) h

pub room_time : (r : Room) (seconds nanos : ℕ) (xs : List Arrival) → HasRoom r (Time seconds nanos ∷ xs) → HasRoom r xs
room_time r seconds nanos xs h = room_less r (Time seconds nanos ∷ xs) xs (omega arith) (omega arith) (λ j. omega arith) h

pub room_input : (r : Room) (d : Disk) (bytes : List ℕ) (xs : List Arrival) → length d.state.input ≡ length r.disk.state.input + length bytes → r.disk.reserved.input ≤ d.reserved.input
    → HasRoom r (Input bytes ∷ xs) → HasRoom (record r { disk = d }) xs
room_input r d bytes xs longer more h = record {
  input = omega (arith, h.input, longer, more);
  clients = h.clients;
  data_fits = h.data_fits;
  kept = record { many = h.kept.many; each = h.kept.each };
}

-- ---- nothing of what was written is let go

pub kept_by : (a b : Room) → b.buffered.held ≡ a.buffered.held → b.disk.gone ≡ a.disk.gone → IsKept a → IsKept b
kept_by a b held gone h = record {
  connections = record {
    there = ap (λ (z : Held). length z.there) held ∙ (h.connections.there ∙ sym (ap (λ (z : Held). length z.gone) held));
    all = λ i. ap (λ (z : Held). slice_index z.gone i) held ∙ h.connections.all i;
  };
  console = gone ∙ h.console;
}

-- ---- more comes over one of the connections, or its end

module _ (r : Room) (w : Buffered) (i : ℕ) (change : Inbox → Inbox) (promised : List ℕ) (xs : List Arrival) (others : w ≡ record r.buffered { net = with_inbox r.buffered.net i change; promised = promised }) where
  as_many : length w.net.links ≡ length r.buffered.net.links
  as_many = ap (λ (z : Buffered). length z.net.links) others ∙ length-set r.buffered.net.links i _

  room_changed : HasPlaces r.buffered (connects xs) → HasKept r.kept (length r.buffered.net.links) xs → length r.disk.state.input + input_bytes xs ≤ r.disk.reserved.input
      → ((j : ℕ) → HasInput w j (data_of j xs)) → HasRoom (record r { buffered = w }) xs
  room_changed clients kept input fits =
      let waiting : length w.net.waiting ≡ length r.buffered.net.waiting = ap (λ (z : Buffered). length z.net.waiting) others in
      let places : w.places ≡ r.buffered.places = ap (λ (z : Buffered). z.places) others in
      let waits : w.waits ≡ r.buffered.waits = ap (λ (z : Buffered). z.waits) others in
      record {
        input = input;
        clients = record { links = omega (arith, clients.links, as_many, places); waiting = omega (arith, clients.waiting, waiting, waits) };
        data_fits = fits;
        kept = record {
          many = kept.many;
          each = λ p l. subst (λ (n : ℕ). data_of (n + length r.kept - suc p) xs ≤ slice_index r.kept p) (sym as_many) (kept.each p l);
        };
      }

  pub whole_changed : IsKept r → IsKept (record r { buffered = w })
  whole_changed = kept_by r (record r { buffered = w }) (ap (λ (z : Buffered). z.held) others) refl

pub room_data : (r : Room) (w : Buffered) (i : ℕ) (bytes : List ℕ) (xs : List Arrival) → w ≡ record r.buffered { net = with_data r.buffered.net i bytes; promised = w.promised }
    → ((j n : ℕ) → HasInput r.buffered j (came_over i bytes j + n) → HasInput w j n) → HasRoom r (Data i bytes ∷ xs) → HasRoom (record r { buffered = w }) xs
room_data r w i bytes xs others keeps h =
    room_changed r w i (λ inbox. record inbox { unread = inbox.unread ++ bytes }) w.promised xs others h.clients
    (record { many = h.kept.many; each = λ p l. omega (arith, h.kept.each p l) }) h.input (λ j. keeps j (data_of j xs) (h.data_fits j))

pub room_end : (r : Room) (w : Buffered) (i : ℕ) (xs : List Arrival) → w ≡ record r.buffered { net = ended r.buffered.net i }
    → ((j n : ℕ) → HasInput r.buffered j n → HasInput w j n) → HasRoom r (End i ∷ xs) → HasRoom (record r { buffered = w }) xs
room_end r w i xs others keeps h =
    room_changed r w i (λ inbox. record inbox { over = true }) r.buffered.promised xs others h.clients
    (record { many = h.kept.many; each = λ p l. omega (arith, h.kept.each p l) }) h.input (λ j. keeps j (data_of j xs) (h.data_fits j))

-- ---- one more client

going_in : (xs : List Link) (j : ℕ) → is_some (slice_index_or xs j record { port = 0; inbox = None; output = [] }).inbox ≡ true → j < length xs
going_in [] j h = cc
going_in (x ∷ xs) zero h = omega arith
going_in (x ∷ xs) (suc j) h = omega (arith, going_in xs j h)

-- a connection that is going has come
pub going_came : (net : Net) (j : ℕ) → is_going net j ≡ true → j < length net.links
going_came net j h = going_in net.links j h

zero_last : (xs : List ℕ) → ((i : ℕ) → slice_index xs i ≡ 0) → (i : ℕ) → slice_index (xs ++ 0 ∷ []) i ≡ 0
zero_last [] h zero = refl
zero_last [] h (suc i) = refl
zero_last (x ∷ xs) h zero = h zero
zero_last (x ∷ xs) h (suc i) = zero_last xs (λ k. h (suc k)) i

module _ (r : Room) (w : Buffered) (k : ℕ) (kept : List ℕ) (port : ℕ) (net : w.net ≡ connected r.buffered.net port)
    (more : w.held.there ≡ r.buffered.held.there ++ length r.buffered.net.links ∷ []) (none : w.held.gone ≡ r.buffered.held.gone ++ 0 ∷ []) where
  abbrev base : ℕ
  base = length r.buffered.net.links

  links : length w.net.links ≡ base + 1
  links = omega (arith, ap (λ (z : Net). length z.links) net, length-append r.buffered.net.links (record { port = port; inbox = Some record { unread = []; over = false }; output = [] } ∷ []))

  waiting : length w.net.waiting ≡ length r.buffered.net.waiting + 1
  waiting = omega (arith, ap (λ (z : Net). length z.waiting) net, length-append r.buffered.net.waiting (record { port = port; connection = base } ∷ []))

  there : length w.held.there ≡ length r.buffered.held.there + 1
  there = omega (arith, ap (λ (z : List ℕ). length z) more, length-append r.buffered.held.there (base ∷ []))

  pub whole_connect : IsKept r → IsKept (record r { buffered = w; kept = kept })
  whole_connect h = record {
    connections = record {
      there = omega (arith, there, h.connections.there, ap (λ (z : List ℕ). length z) none, length-append r.buffered.held.gone (0 ∷ []));
      all = λ i. ap (λ (z : List ℕ). slice_index z i) none ∙ zero_last r.buffered.held.gone h.connections.all i;
    };
    console = h.console;
  }

  module _ (all : r.kept ≡ kept ++ k ∷ []) (xs : List Arrival) (h : HasRoom r (Connect port ∷ xs)) where
    many : length r.kept ≡ length kept + 1
    many = omega (arith, ap (λ z. length z) all, length-append kept (k ∷ []))

    -- what the client sends fits
    mine : data_of base xs ≤ k
    mine =
        let e = h.kept.each (length kept) (omega (arith, many)) in
        let at : base + length r.kept - suc (length kept) ≡ base = omega (arith, many) in
        let last : slice_index r.kept (length kept) ≡ k = ap (λ z. slice_index z (length kept)) all ∙ get_or_push kept k 0 (length kept) refl in
        omega (arith, ap (λ (n : ℕ). data_of n xs) at, last, e)

    -- and what the next ones send
    next : (p : ℕ) → p < length kept → data_of (length w.net.links + length kept - suc p) xs ≤ slice_index kept p
    next p l =
        let e = h.kept.each p (omega (arith, many, l)) in
        let at : base + length r.kept - suc p ≡ length w.net.links + length kept - suc p = omega (arith, many, links, l) in
        let same : slice_index r.kept p ≡ slice_index kept p = ap (λ z. slice_index z p) all ∙ get_or_append_left kept (k ∷ []) 0 p l in
        omega (arith, ap (λ (n : ℕ). data_of n xs) at, same, e)

    fits : ((j n : ℕ) → j < base → HasInput r.buffered j n → HasInput w j n) → ((n : ℕ) → n ≤ k → HasInput w base n) → (j : ℕ) → HasInput w j (data_of j xs)
    fits keeps own j =
        ⊎_elim
        (λ (e : j ≡ base). subst (λ (m : ℕ). HasInput w m (data_of m xs)) (sym e) (own (data_of base xs) mine))
        (λ (e : j ≢ base). ⊎_elim
        (λ (l : j < base). keeps j (data_of j xs) l (h.data_fits j))
        (λ l going. let came = going_came w.net j going in absurd (e (omega (arith, l, came, links))))
        (cases_lt j base))
        (cases_eq j base)

    pub room_connect : r.buffered.places ≤ w.places → r.buffered.waits ≤ w.waits → ((j n : ℕ) → j < base → HasInput r.buffered j n → HasInput w j n) → ((n : ℕ) → n ≤ k → HasInput w base n)
        → HasRoom (record r { buffered = w; kept = kept }) xs
    room_connect places waits keeps own = record {
      input = h.input;
      clients = record { links = omega (arith, h.clients.links, places, links); waiting = omega (arith, h.clients.waiting, waits, waiting) };
      data_fits = fits keeps own;
      kept = record { many = omega (arith, h.kept.many, many); each = next };
    }

-- ---- nothing, or some

pub can_take : (r : Room) (xs : List Arrival) → HasRoom r xs → CanTakeIn r xs
can_take r [] h = tt
can_take r (x ∷ xs) h = h

pub can_take_none : (r : Room) (xs : List Arrival) → length xs ≡ 0 → CanTakeIn r xs
can_take_none r [] h = tt
can_take_none r (x ∷ xs) h = absurd (omega (arith, h))
