-- What calls leave of what was written to connections, and of which sockets are open.
use Rattle.std.proofs.Common.{◌≡◌, ◌∙◌, ap, refl, ℕ, zero, suc, ◌+◌, ◌-◌, ◌<◌, ◌≤◌, Bool, true, false, cond, nat_lt, List, [], ◌∷◌, length, Option, Some, None, is_some, ⊎_elim, arith}
use Rattle.std.specs.Prelude.{slice_index_or, slice_set}
use Rattle.std.proofs.lemmas.Bool.{cases_lt}
use Rattle.std.proofs.lemmas.Bool.Decides.{nat_tests}
use Rattle.std.proofs.lemmas.List.{get_or_past}
use Rattle.nv_fs.proofs.Cases.{by_test}
use Rattle.nv_sockets.specs.declared.socket.Socket.{Socket}
use Rattle.nv_sockets.specs.declared.socket.Socket.TheVariants.{Fresh, Connected}
use Rattle.nv_calls.specs.Answer.{Answer, only}
use Rattle.nv_sockets.specs.Sockets.{Inbox, Link, Net, socket_at, free_place, socket_opened, is_tcp, made_at, socket_of, is_going, close_socket}
use Rattle.nv_sockets.specs.declared.did.Did.TheVariants.{Nothing, Accepted}
use Rattle.nv_sockets.specs.Did.{at_open, accepted, accepted_by}
use Rattle.nv_sockets.proofs.Keeping.{no_link}
use Rattle.nv_sockets.proofs.There.{not_both}

-- ---- connections

-- what isn't read of a link changes
pub came : (xs : List Link) (i j : ℕ) (inbox : Option Inbox)
    → (slice_index_or (slice_set xs i (record (slice_index_or xs i no_link) { inbox = inbox })) j no_link).output ≡ (slice_index_or xs j no_link).output
came [] i j inbox = refl
came (x ∷ xs) zero zero inbox = refl
came (x ∷ xs) zero (suc j) inbox = refl
came (x ∷ xs) (suc i) zero inbox = refl
came (x ∷ xs) (suc i) (suc j) inbox = came xs i j inbox

pub going_inside : (net : Net) (i : ℕ) → is_going net i ≡ true → i < length net.links
going_inside net i g =
    ⊎_elim (λ (below : i < length net.links). below)
    (λ (over : length net.links ≤ i). absurd (not_both (is_going net i) g (ap (λ (z : Link). is_some z.inbox) (get_or_past net.links i no_link over))))
    (cases_lt i (length net.links))

-- ---- sockets

-- an open one has a descriptor from 64 on
pub socket_far : (net : Net) (fd : ℕ) (x : Socket) → socket_at net fd ≡ Some x → 64 ≤ fd
unfolding socket_at
socket_far net fd x h = by (nat_lt fd 64) refl h
  where
    by : (b : Bool) → nat_lt fd 64 ≡ b → cond {A = Option Socket} b None (slice_index_or net.sockets (fd - 64) None) ≡ Some x → 64 ≤ fd
    by true e g = cc
    by false e g = grind (arith, nat_tests)

made_cases : (net : Net) (place : Option ℕ) → (made_at net place).state.links ≡ net.links
made_cases net None = refl
made_cases net (Some place) = refl

pub made_links : (net : Net) (domain kind protocol : ℕ) → (socket_of net domain kind protocol).state.links ≡ net.links
unfolding socket_of
made_links net domain kind protocol = by_test (λ (a : Answer Net). a.state.links ≡ net.links) (is_tcp domain kind protocol) (made_at net (free_place net))
    (only net _) (made_cases net (free_place net)) refl

placed : (xs : List (Option Socket)) (place i : ℕ) (x : Socket) → is_some (slice_index_or xs i None) ≡ true
    → is_some (slice_index_or (slice_set xs place (Some x)) i None) ≡ true
placed [] place i x h = h
placed (y ∷ ys) zero zero x h = refl
placed (y ∷ ys) zero (suc i) x h = h
placed (y ∷ ys) (suc place) zero x h = h
placed (y ∷ ys) (suc place) (suc i) x h = placed ys place i x h

abbrev is_open_in : Net → ℕ → Bool
is_open_in net fd = is_some (socket_at net fd)

opened_stays : (net : Net) (fd place : ℕ) → is_open_in net fd ≡ true → is_open_in (socket_opened net place Fresh).state fd ≡ true
unfolding socket_at
opened_stays net fd place = by (nat_lt fd 64)
  where
    by : (b : Bool) → is_some (cond {A = Option Socket} b None (slice_index_or net.sockets (fd - 64) None)) ≡ true
        → is_some (cond {A = Option Socket} b None (slice_index_or (slice_set net.sockets place (Some Fresh)) (fd - 64) None)) ≡ true
    by true h = h
    by false h = placed net.sockets place (fd - 64) Fresh h

-- an open one is open once another is made
pub stays_open : (net : Net) (fd domain kind protocol : ℕ) → is_some (socket_at net fd) ≡ true
    → is_some (socket_at (socket_of net domain kind protocol).state fd) ≡ true
unfolding socket_of
stays_open net fd domain kind protocol h = by_test (λ (a : Answer Net). is_open_in a.state fd ≡ true) (is_tcp domain kind protocol) (made_at net (free_place net))
    (only net _) (by (free_place net)) h
  where
    by : (place : Option ℕ) → is_open_in (made_at net place).state fd ≡ true
    by None = h
    by (Some place) = opened_stays net fd place h

emptied : (xs : List (Option Socket)) (i : ℕ) → slice_index_or (slice_set xs i None) i None ≡ None
emptied [] i = refl
emptied (x ∷ xs) zero = refl
emptied (x ∷ xs) (suc i) = emptied xs i

-- none is open at a descriptor that was closed
pub closes_open : (net : Net) (fd i : ℕ) → socket_at (close_socket net fd (Connected i)).state fd ≡ None
unfolding socket_at
closes_open net fd i = by (nat_lt fd 64)
  where
    by : (b : Bool) → cond {A = Option Socket} b None (slice_index_or (slice_set net.sockets (fd - 64) None) (fd - 64) None) ≡ None
    by true = refl
    by false = emptied net.sockets (fd - 64)

filled : (xs : List (Option Socket)) (place : ℕ) (x : Socket) → place < length xs → slice_index_or (slice_set xs place (Some x)) place None ≡ Some x
filled [] place x l = absurd (omega (arith, l))
filled (y ∷ ys) zero x l = refl
filled (y ∷ ys) (suc place) x l = filled ys place x (omega (arith, l))

at_place : (net : Net) (place : ℕ) (x : Socket) → place < length net.sockets → socket_at (socket_opened net place x).state (64 + place) ≡ Some x
unfolding socket_at
at_place net place x l =
    let high : nat_lt (64 + place) 64 ≡ false = grind (arith, nat_tests) in
    let there : (64 + place) - 64 ≡ place = omega arith in
    (λ j. cond {A = Option Socket} (high j) None (slice_index_or (slice_set net.sockets place (Some x)) (there j) None)) ∙ filled net.sockets place x l

-- a connection is accepted at its descriptor
pub accepted_here : (net : Net) (place i : ℕ) → place < length net.sockets
    → accepted_by (socket_opened net place (Connected i)).state (socket_opened net place (Connected i)).ret ≡ Accepted i
accepted_here net place i l = ap (at_open Nothing accepted) (at_place net place (Connected i) l)
