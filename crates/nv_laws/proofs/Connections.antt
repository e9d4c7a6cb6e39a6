-- What calls send, joined for each connection, is what was written to it.
use Rattle.std.proofs.Common.{◌≡◌, ◌≢◌, ◌∙◌, sym, ap, subst, refl, ℕ, ℤ, ◌<◌, ◌≤◌, zero, suc, Bool, true, false, cond, not, ◌==◌, nat_le, nat_lt, List, [], ◌∷◌, ◌++◌, length, take, map, Option, Some, None, append_assoc, append-nil, ⊎_elim, arith}
use Rattle.std.specs.Prelude.{slice_index_or, slice_set, option_map, IfSome}
use Rattle.std.proofs.lemmas.Bool.{cases_eq, cases_lt}
use Rattle.std.proofs.lemmas.Bool.Decides.{nat_tests}
use Rattle.std.proofs.lemmas.List.Concat.{flat_map-append}
use Rattle.nv_calls.specs.declared.numbers.Syscall.{Syscall}
use Rattle.nv_calls.specs.declared.numbers.Syscall.TheVariants as call
use Rattle.nv_calls.specs.Answer.{Answer, only, state_after}
use Rattle.nv_calls.specs.Calls.{Request, Entry}
use Rattle.nv_calls.specs.Limits.{MOST_VECTORS}
use Rattle.nv_calls.specs.Logs.{calls_of, connections_of}
use Rattle.nv_calls.specs.Numbers.{syscall_of}
use Rattle.nv_script.specs.Scripts.{Setup, Incoming}
use Rattle.nv_kernel.specs.Serving.{request_arg}
use Rattle.nv_sockets.specs.declared.socket.Socket.{Socket}
use Rattle.nv_sockets.specs.declared.socket.Socket.TheVariants.{Fresh, Bound, Listening, Connected}
use Rattle.nv_sockets.specs.Sockets.{Link, Net, socket_at, on_socket, socket_of, is_size, port_in, is_used, bind_to, bind_socket, bind_of, listen_socket, listen_of, free_place, next_at, accept_next, accept_socket, are_flags, accept_flagged, accept_of, is_going, link_output, read_socket, with_output, write_link, write_socket, close_socket}
use Rattle.nv_sockets.specs.Serving.{State, answered, unless_bad, or_own, serve, link_written, link_from}
use Rattle.nv_script.specs.Arrivals.{Arrival, Input, InputEnd, ClientsEnd, Connect, Data, End, Time}
use Rattle.nv_script.specs.Doings.{Said, Sent, Printed, sayings}
use Rattle.nv_arriving.specs.declared.timing.Until.{Until}
use Rattle.nv_arriving.specs.Arrivals.{in_vain}
use Rattle.nv_arriving.specs.Timing.{until_of}
use Rattle.nv_arriving.specs.Arriving.{Standing, Stage, with_state, wait_of, taken, arrive, arrive_all, later as answered_later, or_own as or_served, serve_by, ready_for, answer_next, serve_next, first_stage, start_of_arrivals}
use Rattle.nv_arriving.specs.Doings.{of_bytes, socket_by, accepted_as, accepted, written, sent, closed, said, doings_of, doings_from, doings}
use Rattle.nv_arriving.specs.Kernel.{after}
use Rattle.nv_sockets.proofs.Keeping.{no_link}
use Rattle.nv_sockets.proofs.Outputs.{came, made_links}
use Rattle.nv_arriving.proofs.LaterLaws.{vain_state, note_state}
use Rattle.nv_arriving.proofs.Told.{sayings_both}
use Rattle.nv_laws.specs.Sayings.{sent_bytes, sent_text, written_at}
use Rattle.nv_fs.proofs.Cases.{by_test}
use Rattle.nv_arriving.proofs.Taken.{drop_all}
use Rattle.nv_arriving.proofs.Saying.{after_same, sent_none}
use Rattle.nv_laws.proofs.Console.{sayings_of}
use Rattle.nv_laws.proofs.LaterCalls.{Still, later_still}

-- ---- the links of a net

-- a link more to which nothing was written
pushed : (xs : List Link) (x : Link) (j : ℕ) → x.output ≡ [] → (slice_index_or (xs ++ x ∷ []) j no_link).output ≡ (slice_index_or xs j no_link).output
pushed [] x zero e = e
pushed [] x (suc j) e = refl
pushed (y ∷ ys) x zero e = refl
pushed (y ∷ ys) x (suc j) e = pushed ys x j e

-- other bytes are written: to this link, where it is one
wrote : (xs : List Link) (i : ℕ) (bytes : List ℕ) → i < length xs → (slice_index_or (slice_set xs i (record (slice_index_or xs i no_link) { output = bytes })) i no_link).output ≡ bytes
wrote [] i bytes h = absurd (omega (arith, h))
wrote (x ∷ xs) zero bytes h = refl
wrote (x ∷ xs) (suc i) bytes h = wrote xs i bytes (omega (arith, h))

wrote-other : (xs : List Link) (i j : ℕ) (bytes : List ℕ) → j ≢ i → (slice_index_or (slice_set xs i (record (slice_index_or xs i no_link) { output = bytes })) j no_link).output ≡ (slice_index_or xs j no_link).output
wrote-other [] i j bytes h = refl
wrote-other (x ∷ xs) zero zero bytes h = absurd (h refl)
wrote-other (x ∷ xs) zero (suc j) bytes h = refl
wrote-other (x ∷ xs) (suc i) zero bytes h = refl
wrote-other (x ∷ xs) (suc i) (suc j) bytes h = wrote-other xs i j bytes (λ e. h (ap suc e))

wrote-none : (xs : List Link) (i j : ℕ) (bytes : List ℕ) → length xs ≤ i → (slice_index_or (slice_set xs i (record (slice_index_or xs i no_link) { output = bytes })) j no_link).output ≡ (slice_index_or xs j no_link).output
wrote-none [] i j bytes h = refl
wrote-none (x ∷ xs) zero j bytes h = absurd (omega (arith, h))
wrote-none (x ∷ xs) (suc i) zero bytes h = refl
wrote-none (x ∷ xs) (suc i) (suc j) bytes h = wrote-none xs i j bytes (omega (arith, h))

-- ---- what is said of it

both : (j : ℕ) (xs ys : List Said) → sent_text j (xs ++ ys) ≡ sent_text j xs ++ sent_text j ys
both j xs ys = flat_map-append (sent_bytes j) xs ys

if-nil : (b : Bool) → ◌≡◌ {A = List ℕ} (cond b [] []) []
if-nil true = refl
if-nil false = refl

of_text : (i j : ℕ) (bytes : List ℕ) → sent_text j (of_bytes (Sent i) bytes) ≡ cond (i == j) bytes []
of_text i j [] = sym (if-nil (i == j))
of_text i j (b ∷ bytes) = append-nil (cond (i == j) (b ∷ bytes) [])

-- from one net to the other just this was written, as it is said of the call's socket
abbrev Sends : Option Socket → Net → Net → Type 0
Sends o net now = (j : ℕ) → link_output now j ≡ link_output net j ++ sent_text j (sent o (after (written net o) (written now o)))

written_same : (o : Option Socket) (net now : Net) → ((j : ℕ) → link_output now j ≡ link_output net j) → written now o ≡ written net o
written_same None net now e = refl
written_same (Some Fresh) net now e = refl
written_same (Some (Bound port)) net now e = refl
written_same (Some (Listening port)) net now e = refl
written_same (Some (Connected i)) net now e = e i

same_outputs : (o : Option Socket) (net now : Net) → ((j : ℕ) → link_output now j ≡ link_output net j) → Sends o net now
same_outputs o net now e j =
    let none : sent o (after (written net o) (written now o)) ≡ [] =
    ap (λ z. sent o (after (written net o) z)) (written_same o net now e) ∙ (ap (sent o) (after_same (written net o)) ∙ sent_none o) in
    e j ∙ (sym (append-nil (link_output net j)) ∙ ap (λ z. link_output net j ++ sent_text j z) (sym none))

same_links : (o : Option Socket) (net now : Net) → now.links ≡ net.links → Sends o net now
same_links o net now e = same_outputs o net now (λ j. ap (λ (links : List Link). (slice_index_or links j no_link).output) e)

-- ---- a write

module _ (net : Net) (i : ℕ) (part : List ℕ) where
  abbrev later : Net
  later = with_output net i (link_output net i ++ part)

  outside : length net.links ≤ i → Sends (Some (Connected i)) net later
  outside h = same_outputs (Some (Connected i)) net later (λ j. wrote-none net.links i j (link_output net i ++ part) h)

  inside : i < length net.links → Sends (Some (Connected i)) net later
  inside h j =
      let now : link_output later i ≡ link_output net i ++ part = wrote net.links i (link_output net i ++ part) h in
      let new : after (link_output net i) (link_output later i) ≡ part = ap (after (link_output net i)) now ∙ drop_all (link_output net i) part in
      let text : sent_text j (of_bytes (Sent i) (after (link_output net i) (link_output later i))) ≡ cond (i == j) part [] =
      ap (λ z. sent_text j (of_bytes (Sent i) z)) new ∙ of_text i j part in
      ⊎_elim
      (λ (e : j ≡ i).
      let yes : (i == j) ≡ true = grind (arith, nat_tests) in
      let own : link_output later j ≡ link_output net j ++ part = subst (λ k. link_output later k ≡ link_output net k ++ part) (sym e) now in
      own ∙ ap (λ z. link_output net j ++ z) (sym (text ∙ ap (λ b. cond b part []) yes)))
      (λ (n : j ≢ i).
      let no : (i == j) ≡ false = grind (arith, nat_tests) in
      wrote-other net.links i j (link_output net i ++ part) n
      ∙ (sym (append-nil (link_output net j)) ∙ ap (λ z. link_output net j ++ z) (sym (text ∙ ap (λ b. cond b part []) no))))
      (cases_eq j i)

  outputs : Sends (Some (Connected i)) net later
  outputs = ⊎_elim inside outside (cases_lt i (length net.links))

abbrev Says : Option Socket → Net → Answer Net → Type 0
Says o net a = Sends o net a.state

link_cases : (net : Net) (i : ℕ) (bytes : List ℕ) → Says (Some (Connected i)) net (write_link net i bytes)
link_cases net i bytes =
    by_test (Says (Some (Connected i)) net) (length bytes == 0) (only net _) _ (same_links (Some (Connected i)) net net refl)
    (by_test (Says (Some (Connected i)) net) (not (is_going net i)) (only net _) _ (same_links (Some (Connected i)) net net refl)
    (by_test (Says (Some (Connected i)) net) (nat_le net.limit (length (link_output net i))) (only net _) _ (same_links (Some (Connected i)) net net refl)
    (outputs net i _)))

-- ---- the calls: all others leave what was written to the links

-- of an answer, where there is one
abbrev Of : Option Socket → Net → Option (Answer Net) → Type 0
Of o net None = Unit {0}
Of o net (Some a) = Sends o net a.state

abbrev Leaves : Net → Answer Net → Type 0
Leaves net a = a.state.links ≡ net.links

to_cases : (net : Net) (fd : ℕ) (port : Option ℕ) → Leaves net (bind_to net fd port)
to_cases net fd None = refl
to_cases net fd (Some port) = by_test (Leaves net) (is_used net port) (only net _) _ refl refl

bind_cases : (net : Net) (fd size : ℕ) (address : List ℕ) (o : Option Socket) → Leaves net (on_socket net fd o (bind_socket net fd size address))
bind_cases net fd size address None = refl
bind_cases net fd size address (Some Fresh) = by_test (Leaves net) (is_size size) (bind_to net fd (port_in address)) (only net _) (to_cases net fd (port_in address)) refl
bind_cases net fd size address (Some (Bound port)) = refl
bind_cases net fd size address (Some (Listening port)) = refl
bind_cases net fd size address (Some (Connected i)) = refl

bind_leaves : (net : Net) (fd size : ℕ) (address : List ℕ) → Leaves net (bind_of net fd size address)
unfolding bind_of
bind_leaves net fd size address = bind_cases net fd size address (socket_at net fd)

listen_cases : (net : Net) (fd : ℕ) (o : Option Socket) → Leaves net (on_socket net fd o (listen_socket net fd))
listen_cases net fd None = refl
listen_cases net fd (Some Fresh) = refl
listen_cases net fd (Some (Bound port)) = refl
listen_cases net fd (Some (Listening port)) = refl
listen_cases net fd (Some (Connected i)) = refl

listen_leaves : (net : Net) (fd : ℕ) → Leaves net (listen_of net fd)
unfolding listen_of
listen_leaves net fd = listen_cases net fd (socket_at net fd)

next_cases : (net : Net) (place next : Option ℕ) → Leaves net (accept_next net place next)
next_cases net None next = refl
next_cases net (Some place) None = refl
next_cases net (Some place) (Some i) = refl

socket_cases : (net : Net) (s : Socket) → Leaves net (accept_socket net s)
socket_cases net Fresh = refl
socket_cases net (Bound port) = refl
socket_cases net (Listening port) = next_cases net (free_place net) (next_at net port)
socket_cases net (Connected i) = refl

accept_cases : (net : Net) (fd flags : ℕ) (o : Option Socket) → Leaves net (on_socket net fd o (accept_flagged net flags))
accept_cases net fd flags None = refl
accept_cases net fd flags (Some s) = by_test (Leaves net) (are_flags flags) (accept_socket net s) (only net _) (socket_cases net s) refl

accept_leaves : (net : Net) (fd flags : ℕ) → Leaves net (accept_of net fd flags)
unfolding accept_of
accept_leaves net fd flags = accept_cases net fd flags (socket_at net fd)

-- a read and a close change what isn't read of a link, and nothing that was written to one
abbrev Keeps : Net → Answer Net → Type 0
Keeps net a = (j : ℕ) → link_output a.state j ≡ link_output net j

read_keeps : (net : Net) (n : ℕ) (s : Socket) → Keeps net (read_socket net n s)
read_keeps net n Fresh j = refl
read_keeps net n (Bound port) j = refl
read_keeps net n (Listening port) j = refl
read_keeps net n (Connected i) j = came net.links i j _

read_cases : (net : Net) (n : ℕ) (o p : Option Socket) → Of o net (option_map (read_socket net n) p)
read_cases net n o None = tt
read_cases net n o (Some s) = same_outputs o net (read_socket net n s).state (read_keeps net n s)

close_keeps : (net : Net) (fd : ℕ) (s : Socket) → Keeps net (close_socket net fd s)
close_keeps net fd Fresh j = refl
close_keeps net fd (Bound port) j = refl
close_keeps net fd (Listening port) j = refl
close_keeps net fd (Connected i) j = came net.links i j None

close_cases : (net : Net) (fd : ℕ) (o p : Option Socket) → Of o net (option_map (close_socket net fd) p)
close_cases net fd o None = tt
close_cases net fd o (Some s) = same_outputs o net (close_socket net fd s).state (close_keeps net fd s)

write_cases : (net : Net) (bytes : List ℕ) (o : Option Socket) → Of o net (option_map (write_socket net bytes) o)
write_cases net bytes None = tt
write_cases net bytes (Some Fresh) = same_links (Some Fresh) net net refl
write_cases net bytes (Some (Bound port)) = same_links (Some (Bound port)) net net refl
write_cases net bytes (Some (Listening port)) = same_links (Some (Listening port)) net net refl
write_cases net bytes (Some (Connected i)) = link_cases net i bytes

abbrev asked_of : Net → Request → Option Socket
asked_of net c = socket_at net (request_arg c 0)

answers : (k : Syscall) (net : Net) (c : Request) → Of (asked_of net c) net (answered k net c)
answers call.Socket net c = same_links (asked_of net c) net (socket_of net (request_arg c 0) (request_arg c 1) (request_arg c 2)).state (made_links net (request_arg c 0) (request_arg c 1) (request_arg c 2))
answers call.Bind net c = same_links (asked_of net c) net (bind_of net (request_arg c 0) (request_arg c 2) c.payload).state (bind_leaves net (request_arg c 0) (request_arg c 2) c.payload)
answers call.Listen net c = same_links (asked_of net c) net (listen_of net (request_arg c 0)).state (listen_leaves net (request_arg c 0))
answers call.Accept net c = same_links (asked_of net c) net (accept_of net (request_arg c 0) 0).state (accept_leaves net (request_arg c 0) 0)
answers call.Accept4 net c = same_links (asked_of net c) net (accept_of net (request_arg c 0) (request_arg c 3)).state (accept_leaves net (request_arg c 0) (request_arg c 3))
answers call.Close net c = close_cases net (request_arg c 0) (asked_of net c) (asked_of net c)
answers call.Read net c = read_cases net _ (asked_of net c) (asked_of net c)
answers call.Readv net c = by_test (Of (asked_of net c) net) (nat_lt MOST_VECTORS (request_arg c 2)) None _ tt (read_cases net _ (asked_of net c) (asked_of net c))
answers call.Write net c = write_cases net c.payload (asked_of net c)
answers call.Writev net c = by_test (Of (asked_of net c) net) (nat_lt MOST_VECTORS (request_arg c 2)) None _ tt (write_cases net c.payload (asked_of net c))
answers _ net c = tt

net_of : (o : Option Socket) (net : Net) (ret : ℤ) (payload : List ℕ) (found : Option (Answer Net)) → Of o net found → Sends o net (or_own net ret payload found).state
net_of o net ret payload None h = same_links o net net refl
net_of o net ret payload (Some a) h = h

sends : (s : State) (c : Request) → Sends (asked_of s.net c) s.net (serve s c).state.net
unfolding serve
sends s c =
    net_of (asked_of s.net c) s.net _ _ (unless_bad s.net c)
    (by_test (Of (asked_of s.net c) s.net) c.bad None (answered (syscall_of c.nr) s.net c) tt (answers (syscall_of c.nr) s.net c))

sends_or : (s : Standing) (c : Request) (o : Option (Answer Standing)) → IfSome o (Still s) → Sends (asked_of s.state.net c) s.state.net (or_served s c o).state.state.net
sends_or s c None h =
    let still = note_state (with_state s (serve s.state c).state) c (serve s.state c).ret in
    subst (λ (t : State). Sends (asked_of s.state.net c) s.state.net t.net) (sym still) (sends s.state c)
sends_or s c (Some r) h = same_links (asked_of s.state.net c) s.state.net r.state.state.net (ap (λ (n : Net). n.links) h.net)

sends_by : (s : Standing) (c : Request) (u : Until) → Sends (asked_of s.state.net c) s.state.net (serve_by s c u).state.state.net
unfolding serve_by
sends_by s c u = sends_or s c (answered_later s c u) (later_still s c u)

-- ---- what arrives

outputs_same : (s : Standing) (a : Arrival) (j : ℕ) → link_output (arrive s a).state.net j ≡ link_output s.state.net j
outputs_same s (Input bytes) j = refl
outputs_same s InputEnd j = refl
outputs_same s ClientsEnd j = refl
outputs_same s (Connect port) j = pushed s.state.net.links _ j refl
outputs_same s (Data i bytes) j = came s.state.net.links i j _
outputs_same s (End i) j = came s.state.net.links i j _
outputs_same s (Time seconds nanos) j = refl

outputs_still : (s : Standing) (xs : List Arrival) (j : ℕ) → link_output (arrive_all s xs).state.net j ≡ link_output s.state.net j
outputs_still s [] j = refl
outputs_still s (x ∷ xs) j = outputs_still (arrive s x) xs j ∙ outputs_same s x j

-- ---- what a call says

accepted_none : (j : ℕ) (o : Option Socket) → sent_text j (accepted_as o) ≡ []
accepted_none j None = refl
accepted_none j (Some Fresh) = refl
accepted_none j (Some (Bound port)) = refl
accepted_none j (Some (Listening port)) = refl
accepted_none j (Some (Connected i)) = refl

accepts_none : (j : ℕ) (k : Syscall) (o : Option Socket) → sent_text j (accepted k o) ≡ []
accepts_none j call.Accept o = accepted_none j o
accepts_none j call.Accept4 o = accepted_none j o
accepts_none j _ o = refl

closed_none : (j : ℕ) (o p : Option Socket) → sent_text j (closed o p) ≡ []
closed_none j (Some (Connected i)) None = refl
closed_none j (Some (Connected i)) (Some p) = refl
closed_none j (Some Fresh) p = refl
closed_none j (Some (Bound port)) p = refl
closed_none j (Some (Listening port)) p = refl
closed_none j None p = refl

printed_none : (j : ℕ) (bytes : List ℕ) → sent_text j (of_bytes Printed bytes) ≡ []
printed_none j [] = refl
printed_none j (b ∷ bytes) = refl

said_text : (j : ℕ) (before : State) (c : Request) (ret : ℤ) (now : State)
    → sent_text j (said before c ret now) ≡ sent_text j (sent (asked_of before.net c) (after (written before.net (asked_of before.net c)) (written now.net (asked_of before.net c))))
said_text j before c ret now =
    let first : List Said = accepted (syscall_of c.nr) (socket_by now.net ret) in
    let second : List Said = sent (asked_of before.net c) (after (written before.net (asked_of before.net c)) (written now.net (asked_of before.net c))) in
    let third : List Said = closed (asked_of before.net c) (asked_of now.net c) in
    let last : List Said = of_bytes Printed (after before.own.files.console now.own.files.console) in
    both j first (second ++ (third ++ last))
    ∙ (ap (λ z. z ++ sent_text j (second ++ (third ++ last))) (accepts_none j (syscall_of c.nr) (socket_by now.net ret))
    ∙ (both j second (third ++ last)
    ∙ (ap (λ z. sent_text j second ++ z) (both j third last ∙ (ap (λ z. z ++ sent_text j last) (closed_none j (asked_of before.net c) (asked_of now.net c)) ∙ printed_none j (after before.own.files.console now.own.files.console)))
    ∙ append-nil (sent_text j second))))

-- ---- a log

abbrev output_at : Stage → ℕ → List ℕ
output_at g j = link_output g.here.state.net j

next_output : (g : Stage) (c : Request) (j : ℕ) → output_at (serve_next g c).state j ≡ output_at g j ++ sent_text j (sayings (doings_of g c))
next_output g c j =
    let net : Net = (ready_for g c).state.net in
    let now : Net = (answer_next g c).state.state.net in
    let text : List ℕ = sent_text j (sent (asked_of net c) (after (written net (asked_of net c)) (written now (asked_of net c)))) in
    let met : Standing = arrive_all g.here (take (taken g c) g.rest) in
    let still : link_output net j ≡ output_at g j = ap (λ (t : State). link_output t.net j) (vain_state (in_vain (wait_of g.here c) g.rest) met) ∙ outputs_still g.here (take (taken g c) g.rest) j in
    sends_by (ready_for g c) c (until_of g.here c) j
    ∙ (ap (λ z. z ++ text) still
    ∙ ap (λ z. output_at g j ++ z) (sym (ap (sent_text j) (sayings_of g c) ∙ said_text j (ready_for g c).state c (answer_next g c).ret (answer_next g c).state.state)))

from_output : (g : Stage) (cs : List Request) (j : ℕ) → output_at (state_after serve_next g cs) j ≡ output_at g j ++ sent_text j (sayings (doings_from g cs))
from_output g [] j = sym (append-nil (output_at g j))
from_output g (c ∷ cs) j =
    from_output (serve_next g c).state cs j
    ∙ (ap (λ z. z ++ sent_text j (sayings (doings_from (serve_next g c).state cs))) (next_output g c j)
    ∙ (append_assoc (output_at g j) (sent_text j (sayings (doings_of g c))) (sent_text j (sayings (doings_from (serve_next g c).state cs)))
    ∙ ap (λ z. output_at g j ++ z) (sym (ap (sent_text j) (sayings_both (doings_of g c) (doings_from (serve_next g c).state cs)) ∙ both j (sayings (doings_of g c)) (sayings (doings_from (serve_next g c).state cs))))))

first_none : (xs : List Incoming) (j : ℕ) → (slice_index_or (map link_from xs) j no_link).output ≡ []
first_none [] j = refl
first_none (x ∷ xs) zero = refl
first_none (x ∷ xs) (suc j) = first_none xs j

written_is : (xs : List Link) (j : ℕ) → written_at (map link_written xs) j ≡ (slice_index_or xs j no_link).output
written_is [] j = refl
written_is (x ∷ xs) zero = refl
written_is (x ∷ xs) (suc j) = written_is xs j

pub connections_are_said : (setup : Setup) (arrivals : List Arrival) (log : List Entry) (j : ℕ) → sent_text j (sayings (doings setup arrivals log)) ≡ written_at (connections_of (start_of_arrivals setup arrivals) log) j
unfolding doings start_of_arrivals
connections_are_said setup arrivals log j =
    let g : Stage = first_stage setup arrivals in
    sym (written_is (state_after serve_next g (calls_of log)).here.state.net.links j
    ∙ (from_output g (calls_of log) j ∙ ap (λ z. z ++ sent_text j (sayings (doings_from g (calls_of log)))) (first_none setup.connections j)))
