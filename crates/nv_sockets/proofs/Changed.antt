-- What a change of one connection leaves of the sockets, and of the memory that was taken.
use Rattle.std.proofs.Common.{◌≡◌, ◌≢◌, ◌∙◌, sym, ap, subst, refl, ℕ, ◌<◌, ◌≤◌, Bool, true, false, List, [], ◌++◌, length, Option, Some, None, is_some, option_map, ⊎_elim, arith}
use Rattle.std.specs.Prelude.{slice_index, slice_set, if◌then◌else◌}
use Rattle.std.proofs.lemmas.Bool.{cases_eq}
use Rattle.std.proofs.lemmas.List.{get_or-set_same, get_or-set_other, set-get_or}
use Rattle.nv_calls.specs.Known.{Known}
use Rattle.nv_sockets.specs.declared.connection.Connection.{Connection}
use Rattle.nv_sockets.specs.Sockets.{Inbox, Link, Net, link_at, is_going, link_output, unread_in, over_in, with_link, with_inbox, with_output}
use Rattle.nv_sockets.specs.Inboxes.{Room, inbox_in, promised_in}
use Rattle.nv_sockets.specs.Reserved.{Buffered}
use Rattle.nv_sockets.specs.Views.{link_of, gone_of, capacity_of, promised_of}
use Rattle.nv_sockets.specs.Coming.{HasInput, came_over}
use Rattle.nv_sockets.specs.Changes.{IsLink, changed_at}
use Rattle.nv_sockets.proofs.Keeping.{no_link, link_same, link_here}
use Rattle.nv_sockets.proofs.There.{equal}

pub some_mapped : {X Y : Type 0} (f : X → Y) (o : Option X) → is_some (option_map f o) ≡ is_some o
some_mapped f None = refl
some_mapped f (Some x) = refl

none_mapped : (f : Inbox → Inbox) (o : Option Inbox) → is_some o ≡ false → option_map f o ≡ o
none_mapped f None h = refl
none_mapped f (Some x) h = absurd (cc)

none_is : (o : Option Inbox) → is_some o ≡ false → None ≡ o
none_is None h = refl
none_is (Some x) h = absurd (cc)

pub link_kept : (net : Net) (i : ℕ) → with_link net i (link_at net i) ≡ net
link_kept net i = ap (λ (z : List Link). record net { links = z }) (set-get_or net.links i no_link)

abbrev with_room : Net → ℕ → Option Inbox → Net
with_room net i room = with_link net i (record (link_at net i) { inbox = room })

-- nothing comes over a connection that is closed
pub closed_stays : (net : Net) (i : ℕ) (f : Inbox → Inbox) → is_going net i ≡ false → with_inbox net i f ≡ net
closed_stays net i f h = ap (with_room net i) (none_mapped f (link_at net i).inbox h) ∙ link_kept net i

pub closed_again : (net : Net) (i : ℕ) → is_going net i ≡ false → with_link net i (record (link_at net i) { inbox = None }) ≡ net
closed_again net i h = ap (with_room net i) (none_is (link_at net i).inbox h) ∙ link_kept net i

pub unread_none : (net : Net) (i : ℕ) → is_going net i ≡ false → [] ≡ unread_in (link_at net i).inbox
unread_none net i h = ap unread_in (none_is (link_at net i).inbox h)

pub over_none : (net : Net) (i : ℕ) → is_going net i ≡ false → true ≡ over_in (link_at net i).inbox
over_none net i h = ap over_in (none_is (link_at net i).inbox h)

module _ (w : Buffered) (i : ℕ) (c : Connection) (is : IsLink w i c) where
  inbox_is : inbox_in c.inbox ≡ (link_at w.net i).inbox
  inbox_is = ap (λ (z : Link). z.inbox) is.link

  pub output_is : c.output.items ≡ link_output w.net i
  output_is = ap (λ (z : Link). z.output) is.link

  pub unread_is : unread_in (inbox_in c.inbox) ≡ unread_in (link_at w.net i).inbox
  unread_is = ap unread_in inbox_is

  pub over_is : over_in (inbox_in c.inbox) ≡ over_in (link_at w.net i).inbox
  over_is = ap over_in inbox_is

  pub going_is : is_some c.inbox ≡ is_going w.net i
  going_is = sym (some_mapped (λ (r : Room). r.inbox) c.inbox) ∙ ap (λ (z : Option Inbox). is_some z) inbox_is

  gone_kept : slice_set w.held.gone i (gone_of c) ≡ w.held.gone
  gone_kept = ap (λ (n : ℕ). slice_set w.held.gone i n) is.gone ∙ set-get_or w.held.gone i 0

  buffers_kept : slice_set w.buffers i (capacity_of c) ≡ w.buffers
  buffers_kept = ap (λ (n : ℕ). slice_set w.buffers i n) is.buffer ∙ set-get_or w.buffers i 0

  promised_kept : slice_set w.promised i (promised_of c) ≡ w.promised
  promised_kept = ap (λ (n : ℕ). slice_set w.promised i n) is.promise ∙ set-get_or w.promised i 0

  module _ (room : Option Room) where
    abbrev after : Connection
    after = record c { inbox = room }

    -- another inbox
    pub inbox_changed : (f : Inbox → Inbox) → inbox_in room ≡ option_map f (inbox_in c.inbox) → changed_at w i after ≡ record w { net = with_inbox w.net i f; promised = slice_set w.promised i (promised_in room) }
    inbox_changed f e =
        let inbox : inbox_in room ≡ option_map f (link_at w.net i).inbox = e ∙ ap (option_map f) inbox_is in
        λ j. record w {
          net = with_link w.net i (record { port = (is.link j).port; inbox = inbox j; output = (is.link j).output });
          held = record w.held { gone = gone_kept j };
          buffers = buffers_kept j;
          promised = slice_set w.promised i (promised_in room);
        }

    -- and as much memory
    pub inbox_only : (f : Inbox → Inbox) → inbox_in room ≡ option_map f (inbox_in c.inbox) → promised_in room ≡ promised_in c.inbox → changed_at w i after ≡ record w { net = with_inbox w.net i f }
    inbox_only f e p = inbox_changed f e ∙ ap (λ (z : List ℕ). record w { net = with_inbox w.net i f; promised = z }) (ap (λ (n : ℕ). slice_set w.promised i n) p ∙ promised_kept)

    -- other memory alone
    pub memory_changed : inbox_in room ≡ inbox_in c.inbox → changed_at w i after ≡ record w { promised = slice_set w.promised i (promised_in room) }
    memory_changed e =
        let inbox : inbox_in room ≡ (link_at w.net i).inbox = e ∙ inbox_is in
        let link : link_of after ≡ link_at w.net i = λ j. record { port = (is.link j).port; inbox = inbox j; output = (is.link j).output } in
        let net : with_link w.net i (link_of after) ≡ w.net = ap (with_link w.net i) link ∙ link_kept w.net i in
        λ j. record w {
          net = net j;
          held = record w.held { gone = gone_kept j };
          buffers = buffers_kept j;
          promised = slice_set w.promised i (promised_in room);
        }

  -- it is closed
  pub net_closed : (changed_at w i (record c { inbox = None })).net ≡ with_link w.net i (record (link_at w.net i) { inbox = None })
  net_closed = λ j. with_link w.net i (record { port = (is.link j).port; inbox = None; output = (is.link j).output })

  pub held_closed : (changed_at w i (record c { inbox = None })).held ≡ w.held
  held_closed = λ j. record w.held { gone = gone_kept j }

  module _ (output : Known ℕ) where
    -- more was written to it
    pub net_written : (bytes : List ℕ) → output.items ≡ c.output.items ++ bytes → (changed_at w i (record c { output = output })).net ≡ with_output w.net i (link_output w.net i ++ bytes)
    net_written bytes e =
        let items : output.items ≡ link_output w.net i ++ bytes = e ∙ ap (λ (z : List ℕ). z ++ bytes) output_is in
        λ j. with_link w.net i (record { port = (is.link j).port; inbox = (is.link j).inbox; output = items j })

    pub net_kept : output.items ≡ c.output.items → (changed_at w i (record c { output = output })).net ≡ w.net
    net_kept e =
        let items : output.items ≡ link_output w.net i = e ∙ output_is in
        let link : link_of (record c { output = output }) ≡ link_at w.net i = λ j. record { port = (is.link j).port; inbox = (is.link j).inbox; output = items j } in
        ap (with_link w.net i) link ∙ link_kept w.net i

    pub held_kept : output.gone ≡ c.output.gone → (changed_at w i (record c { output = output })).held ≡ w.held
    held_kept e = λ j. record w.held { gone = (ap (λ (n : ℕ). slice_set w.held.gone i n) e ∙ gone_kept) j }

    pub gone_is : output.gone ≡ length c.output.items → slice_set w.held.gone i output.gone ≡ slice_set w.held.gone i (length (link_output w.net i))
    gone_is e = ap (λ (n : ℕ). slice_set w.held.gone i n) (e ∙ ap (λ (z : List ℕ). length z) output_is)

    pub promises_kept : slice_set w.promised i (promised_of (record c { output = output })) ≡ w.promised
    promises_kept = promised_kept

-- what is put in a connection's place may promise what it does
pub own_promised : (v w : Buffered) (net : Net) (q : List ℕ) → v ≡ record w { net = net; promised = q } → v ≡ record w { net = net; promised = v.promised }
own_promised v w net q e = e ∙ (λ j. record w { net = net; promised = sym (ap (λ (z : Buffered). z.promised) e) j })

pub own_memory : (v w : Buffered) (q : List ℕ) → v ≡ record w { promised = q } → v ≡ record w { promised = v.promised }
own_memory v w q e = own_promised v w w.net q e

module _ (w : Buffered) (i : ℕ) (here : i < length w.net.links) (within : i < length w.promised) where
  going_after : (link : Link) (j : ℕ) → is_some link.inbox ≡ is_going w.net i → is_going (with_link w.net i link) j ≡ is_going w.net j
  going_after link j same = ⊎_elim
      (λ (e : j ≡ i). ap (is_going (with_link w.net i link)) e ∙ ap (λ (z : Link). is_some z.inbox) (link_here w.net i link here) ∙ same ∙ sym (ap (is_going w.net) e))
      (λ (e : j ≢ i). ap (λ (z : Link). is_some z.inbox) (link_same w.net i j link e))
      (cases_eq j i)

  -- where the connection's memory becomes q
  pub has_after : (v : Buffered) (f : Inbox → Inbox) (q j n m : ℕ) → v ≡ record w { net = with_inbox w.net i f; promised = slice_set w.promised i q } → (j ≡ i → is_going w.net i ≡ true → m ≤ slice_index w.promised i → n ≤ q) → n ≤ m
      → HasInput w j m → HasInput v j n
  has_after v f q j n m e mine few h = subst (λ (z : Buffered). HasInput z j n) (sym e) (λ g.
      let same = going_after (record (link_at w.net i) { inbox = option_map f (link_at w.net i).inbox }) j (some_mapped f (link_at w.net i).inbox) in
      let was : is_going w.net j ≡ true = sym same ∙ g in
      let had = h was in
      ⊎_elim
      (λ (k : j ≡ i).
      let now : slice_index (slice_set w.promised i q) j ≡ q = ap (slice_index (slice_set w.promised i q)) k ∙ get_or-set_same w.promised i q 0 within in
      let had' : m ≤ slice_index w.promised i = subst (λ (n : ℕ). m ≤ slice_index w.promised n) k had in
      let enough = mine k (sym (ap (is_going w.net) k) ∙ was) had' in
      omega (arith, now, enough))
      (λ (k : j ≢ i). let now = get_or-set_other w.promised i j q 0 k in omega (arith, now, had, few))
      (cases_eq j i))

  pub has_memory : (v : Buffered) (q j n m : ℕ) → v ≡ record w { promised = slice_set w.promised i q } → (j ≡ i → is_going w.net i ≡ true → m ≤ slice_index w.promised i → n ≤ q) → (j ≢ i → n ≤ m) → HasInput w j m → HasInput v j n
  has_memory v q j n m e mine few h = subst (λ (z : Buffered). HasInput z j n) (sym e) (λ g.
      let had = h g in
      ⊎_elim
      (λ (k : j ≡ i).
      let now : slice_index (slice_set w.promised i q) j ≡ q = ap (slice_index (slice_set w.promised i q)) k ∙ get_or-set_same w.promised i q 0 within in
      let had' : m ≤ slice_index w.promised i = subst (λ (n : ℕ). m ≤ slice_index w.promised n) k had in
      let enough = mine k (sym (ap (is_going w.net) k) ∙ g) had' in
      omega (arith, now, enough))
      (λ (k : j ≢ i). let now = get_or-set_other w.promised i j q 0 k in let less = few k in omega (arith, now, had, less))
      (cases_eq j i))

pub nothing_over : (i : ℕ) (bytes : List ℕ) (j : ℕ) → j ≡ i → came_over i bytes j ≡ length bytes
nothing_over i bytes j e = ap (λ (b : Bool). if b then length bytes else 0) (equal i j (sym e))
