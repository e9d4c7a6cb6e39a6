-- What a call says, by what it finds and leaves, is what it did: no other call changes what it doesn't say.
use Rattle.std.proofs.Common.{◌≡◌, ◌∙◌, sym, ap, subst, refl, ℕ, ℤ, pos, negsuc, ◌-◌, ◌≤◌, Bool, true, false, cond, not, ◌&&◌, ◌==◌, min, nat_le, nat_lt, List, [], ◌++◌, length, take, Option, Some, None, is_some, option_map, append-nil, arith}
use Rattle.std.specs.Prelude.{IfSome, if◌then◌else◌, slice_index_or}
use Rattle.std.proofs.lemmas.List.{length-take, take_min}
use Rattle.nv_calls.specs.declared.numbers.Syscall.{Syscall}
use Rattle.nv_calls.specs.declared.numbers.Syscall.TheVariants as call
use Rattle.nv_calls.specs.Answer.{Answer, only}
use Rattle.nv_calls.specs.Calls.{Request}
use Rattle.nv_calls.specs.Errors.{EAGAIN, EFAULT, ENOSPC, EPIPE}
use Rattle.nv_calls.specs.Limits.{MOST_VECTORS}
use Rattle.nv_calls.specs.Numbers.{syscall_of}
use Rattle.nv_fs.specs.States.{FileState}
use Rattle.nv_fs.specs.Stored.{MOST_WRITTEN}
use Rattle.nv_fs.specs.Told.{prints as prints_at}
use Rattle.nv_fs.proofs.Cases.{by_test}
use Rattle.nv_kernel.specs.Serving as kernel
use Rattle.nv_kernel.specs.Serving.{request_arg}
use Rattle.nv_script.specs.Doings.{Said, Sent, Printed}
use Rattle.nv_sockets.specs.declared.did.Did.{Did}
use Rattle.nv_sockets.specs.declared.did.Did.TheVariants as done
use Rattle.nv_sockets.specs.declared.socket.Socket.{Socket}
use Rattle.nv_sockets.specs.declared.socket.Socket.TheVariants.{Fresh, Bound, Listening, Connected}
use Rattle.nv_sockets.specs.Sockets.{Link, Net, socket_at, on_socket, socket_of, bind_socket, bind_of, listen_socket, listen_of, accept_socket, are_flags, accept_flagged, accept_of, link_at, is_going, link_output, read_socket, with_output, write_link, write_socket, close_socket}
use Rattle.nv_sockets.specs.Serving.{State, answered, or_own, serve}
use Rattle.nv_sockets.specs.Did.{by_result, at_open, accepted as accepted_did, accepted_by, closed as closed_did, sent as sent_did, printed, own_did, did_beside, did}
use Rattle.nv_sockets.proofs.Printing.{printed_bytes, own_prints, bad_quiet}
use Rattle.nv_sockets.proofs.Keeping.{no_link, link_here}
use Rattle.nv_sockets.proofs.Outputs.{came, going_inside, socket_far, made_links, stays_open, closes_open}
use Rattle.nv_arriving.specs.declared.timing.Until.{Until}
use Rattle.nv_arriving.specs.Arriving.{Standing, reached_by, would_wait, later_as, later}
use Rattle.nv_arriving.specs.Doings.{of_bytes, socket_by, accepted_as, accepted, written, sent, closed, said}
use Rattle.nv_arriving.specs.Kernel.{after}
use Rattle.nv_arriving.specs.Said.{said_of}
use Rattle.nv_arriving.proofs.Taken.{drop_all, drop_past}

-- ---- what is said of each part

-- what gained nothing
pub after_same : {A : Type 0} (xs : List A) → after xs xs ≡ []
after_same xs = drop_past (length xs) xs (omega arith)

none_accepted : (k : Syscall) → accepted k None ≡ []
none_accepted call.Accept = refl
none_accepted call.Accept4 = refl
none_accepted _ = refl

-- a socket whose connection gained nothing
pub sent_none : (o : Option Socket) → sent o [] ≡ []
sent_none None = refl
sent_none (Some Fresh) = refl
sent_none (Some (Bound port)) = refl
sent_none (Some (Listening port)) = refl
sent_none (Some (Connected i)) = refl

closed_none : (o : Option Socket) → closed o o ≡ []
closed_none None = refl
closed_none (Some Fresh) = refl
closed_none (Some (Bound port)) = refl
closed_none (Some (Listening port)) = refl
closed_none (Some (Connected i)) = refl

accepted_at : (o : Option Socket) (bytes : List ℕ) → accepted_as o ≡ said_of (at_open done.Nothing accepted_did o) bytes
accepted_at None bytes = refl
accepted_at (Some Fresh) bytes = refl
accepted_at (Some (Bound port)) bytes = refl
accepted_at (Some (Listening port)) bytes = refl
accepted_at (Some (Connected i)) bytes = refl

accepts : (now : Net) (ret : ℤ) (bytes : List ℕ) → accepted_as (socket_by now ret) ≡ said_of (accepted_by now ret) bytes
accepts now (pos fd) bytes = accepted_at (socket_at now fd) bytes
accepts now (negsuc n) bytes = refl

result_said : (console : Bool) (ret : ℤ) (bytes : List ℕ)
    → of_bytes Printed (printed_bytes (by_result (printed console) ret) bytes) ≡ said_of (by_result (printed console) ret) bytes
result_said true (pos n) bytes = refl
result_said false (pos n) bytes = refl
result_said console (negsuc n) bytes = refl

own_said : (k : Syscall) (console : Bool) (ret : ℤ) (bytes : List ℕ)
    → of_bytes Printed (printed_bytes (own_did k console ret) bytes) ≡ said_of (own_did k console ret) bytes
own_said call.Write console ret bytes = result_said console ret bytes
own_said call.Writev console ret bytes = result_said console ret bytes
own_said _ console ret bytes = refl

-- nothing is printed at a descriptor that isn't the console's
other_quiet : (ret : ℤ) → by_result (printed false) ret ≡ done.Nothing
other_quiet (pos n) = refl
other_quiet (negsuc n) = refl

-- ---- what a call leaves of the sockets

links_alone : (net : Net) (fd : ℕ) (links : List Link) → socket_at (record net { links = links }) fd ≡ socket_at net fd
unfolding socket_at
links_alone net fd links = refl

module _ (net : Net) (fd : ℕ) where
  -- what is said once these sockets are left, but for what was accepted and with this behind it
  abbrev Rest : Option Socket → Net → List Said → List Said
  Rest o now more = sent o (after (written net o) (written now o)) ++ (closed o (socket_at now fd) ++ more)

  same : (o : Option Socket) (more : List Said) → socket_at net fd ≡ o → Rest o net more ≡ more
  same o more e =
      let nothing : sent o (after (written net o) (written net o)) ≡ [] = ap (sent o) (after_same (written net o)) ∙ sent_none o in
      let stays : closed o (socket_at net fd) ≡ [] = ap (closed o) e ∙ closed_none o in
      λ i. nothing i ++ (stays i ++ more)

  -- of a connection's socket that stays, where nothing was written to the connection
  stays : (i : ℕ) (now : Net) (more : List Said) → link_output now i ≡ link_output net i → closed (Some (Connected i)) (socket_at now fd) ≡ []
      → Rest (Some (Connected i)) now more ≡ more
  stays i now more same opens =
      let nothing : of_bytes (Sent i) (after (link_output net i) (link_output now i)) ≡ [] = ap (λ z. of_bytes (Sent i) (after (link_output net i) z)) same
      ∙ ap (of_bytes (Sent i)) (after_same (link_output net i)) in
      λ j. nothing j ++ (opens j ++ more)

  socket_rest : (o : Option Socket) (domain kind protocol : ℕ) (more : List Said) → socket_at net fd ≡ o
      → Rest o (socket_of net domain kind protocol).state more ≡ more
  socket_rest None domain kind protocol more e = refl
  socket_rest (Some Fresh) domain kind protocol more e = refl
  socket_rest (Some (Bound port)) domain kind protocol more e = refl
  socket_rest (Some (Listening port)) domain kind protocol more e = refl
  socket_rest (Some (Connected i)) domain kind protocol more e =
      stays i (socket_of net domain kind protocol).state more
      (ap (λ (links : List Link). (slice_index_or links i no_link).output) (made_links net domain kind protocol))
      (opens (socket_at (socket_of net domain kind protocol).state fd) (stays_open net fd domain kind protocol (ap (λ (o : Option Socket). is_some o) e)))
    where
      opens : (p : Option Socket) → is_some p ≡ true → closed (Some (Connected i)) p ≡ []
      opens None h = cc
      opens (Some p) h = refl

  bind_rest : (o : Option Socket) (size : ℕ) (address : List ℕ) (more : List Said) → socket_at net fd ≡ o
      → Rest o (on_socket net fd o (bind_socket net fd size address)).state more ≡ more
  bind_rest None size address more e = refl
  bind_rest (Some Fresh) size address more e = refl
  bind_rest (Some (Bound port)) size address more e = refl
  bind_rest (Some (Listening port)) size address more e = refl
  bind_rest (Some (Connected i)) size address more e = same (Some (Connected i)) more e

  listen_rest : (o : Option Socket) (more : List Said) → socket_at net fd ≡ o → Rest o (on_socket net fd o (listen_socket net fd)).state more ≡ more
  listen_rest None more e = refl
  listen_rest (Some Fresh) more e = refl
  listen_rest (Some (Bound port)) more e = refl
  listen_rest (Some (Listening port)) more e = refl
  listen_rest (Some (Connected i)) more e = same (Some (Connected i)) more e

  accept_rest : (o : Option Socket) (flags : ℕ) (more : List Said) → socket_at net fd ≡ o
      → Rest o (on_socket net fd o (accept_flagged net flags)).state more ≡ more
  accept_rest None flags more e = refl
  accept_rest (Some Fresh) flags more e = refl
  accept_rest (Some (Bound port)) flags more e = refl
  accept_rest (Some (Listening port)) flags more e = refl
  accept_rest (Some (Connected i)) flags more e =
      by_test (λ (a : Answer Net). Rest (Some (Connected i)) a.state more ≡ more) (are_flags flags) (accept_socket net (Connected i)) (only net _)
      (same (Some (Connected i)) more e) (same (Some (Connected i)) more e)

  module _ (ret : ℤ) (payload : List ℕ) where
    read_rest : (o : Option Socket) (n : ℕ) (more : List Said) → socket_at net fd ≡ o
        → Rest o (or_own net ret payload (option_map (read_socket net n) o)).state more ≡ more
    read_rest None n more e = refl
    read_rest (Some Fresh) n more e = refl
    read_rest (Some (Bound port)) n more e = refl
    read_rest (Some (Listening port)) n more e = refl
    read_rest (Some (Connected i)) n more e = stays i (read_socket net n (Connected i)).state more (came net.links i i _)
        (ap (closed (Some (Connected i))) (links_alone net fd _ ∙ e))

    -- of a close, what is said of the connection that it closes
    close_rest : (o : Option Socket) (bytes : List ℕ) → socket_at net fd ≡ o
        → Rest o (or_own net ret payload (option_map (close_socket net fd) o)).state [] ≡ said_of (at_open done.Nothing closed_did o) bytes
    close_rest None bytes e = refl
    close_rest (Some Fresh) bytes e = refl
    close_rest (Some (Bound port)) bytes e = refl
    close_rest (Some (Listening port)) bytes e = refl
    close_rest (Some (Connected i)) bytes e =
        let now : Net = (close_socket net fd (Connected i)).state in
        let nothing : of_bytes (Sent i) (after (link_output net i) (link_output now i)) ≡ [] =
        ap (λ z. of_bytes (Sent i) (after (link_output net i) z)) (came net.links i i None) ∙ ap (of_bytes (Sent i)) (after_same (link_output net i)) in
        λ j. nothing j ++ (closed (Some (Connected i)) (closes_open net fd i j) ++ [])

    -- of a write, what it sent or printed; nothing is printed by one to an open socket
    module _ (bytes : List ℕ) (own : Did) (quiet : (s : Socket) → socket_at net fd ≡ Some s → own ≡ done.Nothing) where
      abbrev Writes : Option Socket → Answer Net → Type 0
      Writes o a = Rest o a.state (said_of own bytes) ≡ said_of (at_open own (sent_did a.ret) o) bytes

      refused : (s : Socket) (a : Answer Net) → socket_at net fd ≡ Some s → a.state ≡ net → said_of (sent_did a.ret s) bytes ≡ [] → Writes (Some s) a
      refused s a e n r =
          ap (λ (z : Net). Rest (Some s) z (said_of own bytes)) n ∙ same (Some s) (said_of own bytes) e ∙ ap (λ (d : Did). said_of d bytes) (quiet s e) ∙ sym r

      module _ (i : ℕ) (e : socket_at net fd ≡ Some (Connected i)) where
        abbrev most : ℕ
        most = min MOST_WRITTEN (net.limit - length (link_output net i))

        abbrev part : List ℕ
        part = take most bytes

        abbrev gaining : Answer Net
        gaining = record { state = with_output net i (link_output net i ++ part); ret = pos (length part); payload = [] }

        gained : is_going net i ≡ true → Writes (Some (Connected i)) gaining
        gained g =
            let here : link_at gaining.state i ≡ record (link_at net i) { output = link_output net i ++ part } = link_here net i _ (going_inside net i g) in
            let new : after (link_output net i) (link_output gaining.state i) ≡ take (length part) bytes =
            ap (λ (z : Link). after (link_output net i) z.output) here
            ∙ (drop_all (link_output net i) part ∙ sym (ap (λ k. take k bytes) (length-take most bytes) ∙ take_min most bytes)) in
            let stays : closed (Some (Connected i)) (socket_at gaining.state fd) ≡ [] = ap (closed (Some (Connected i))) (links_alone net fd _ ∙ e) in
            let shows : said_of own bytes ≡ [] = ap (λ (d : Did). said_of d bytes) (quiet (Connected i) e) in
            (λ j. of_bytes (Sent i) (new j) ++ (stays j ++ shows j)) ∙ append-nil (of_bytes (Sent i) (take (length part) bytes))

        fits : (b : Bool) → is_going net i ≡ true → Writes (Some (Connected i)) (cond b (only net ENOSPC) gaining)
        fits true g = refused (Connected i) (only net ENOSPC) e refl refl
        fits false g = gained g

        goes : (b : Bool) → is_going net i ≡ b
            → Writes (Some (Connected i)) (cond (not b) (only net EPIPE) (cond (nat_le net.limit (length (link_output net i))) (only net ENOSPC) gaining))
        goes true g = fits (nat_le net.limit (length (link_output net i))) g
        goes false g = refused (Connected i) (only net EPIPE) e refl refl

        link_writes : Writes (Some (Connected i)) (write_link net i bytes)
        link_writes = by_test (Writes (Some (Connected i))) (length bytes == 0) (only net (pos 0)) _ (refused (Connected i) (only net (pos 0)) e refl refl)
            (goes (is_going net i) refl)

      write_rest : (o : Option Socket) → socket_at net fd ≡ o → Writes o (or_own net ret payload (option_map (write_socket net bytes) o))
      write_rest None e = refl
      write_rest (Some Fresh) e = refused Fresh (only net EPIPE) e refl refl
      write_rest (Some (Bound port)) e = refused (Bound port) (only net EPIPE) e refl refl
      write_rest (Some (Listening port)) e = refused (Listening port) (only net EPIPE) e refl refl
      write_rest (Some (Connected i)) e = link_writes i e

-- ---- what is said of a call

module _ (net : Net) (c : Request) (console : Bool) (ret : ℤ) (payload : List ℕ) (below : 64 ≤ request_arg c 0 → console ≡ false) where
  abbrev fd : ℕ
  fd = request_arg c 0

  abbrev own_by : Syscall → Did
  own_by k = own_did k console ret

  abbrev Says : Syscall → Answer Net → Type 0
  Says k a = accepted k (socket_by a.state a.ret) ++ Rest net fd (socket_at net fd) a.state (said_of (own_by k) c.payload)
      ≡ said_of (did_beside k net c (own_by k) a.ret a.state) c.payload

  quiet : (s : Socket) → socket_at net fd ≡ Some s → by_result (printed console) ret ≡ done.Nothing
  quiet s e = ap (λ (b : Bool). by_result (printed b) ret) (below (socket_far net fd s e)) ∙ other_quiet ret

  accept_says : (flags : ℕ)
      → accepted_as (socket_by (accept_of net fd flags).state (accept_of net fd flags).ret) ++ Rest net fd (socket_at net fd) (accept_of net fd flags).state []
      ≡ said_of (accepted_by (accept_of net fd flags).state (accept_of net fd flags).ret) c.payload
  unfolding accept_of
  accept_says flags =
      let now : Answer Net = on_socket net fd (socket_at net fd) (accept_flagged net flags) in
      (λ j. accepts now.state now.ret c.payload j ++ accept_rest net fd (socket_at net fd) flags [] refl j)
      ∙ append-nil (said_of (accepted_by now.state now.ret) c.payload)

  bind_says : (size : ℕ) (address : List ℕ) → Rest net fd (socket_at net fd) (bind_of net fd size address).state [] ≡ []
  unfolding bind_of
  bind_says size address = bind_rest net fd (socket_at net fd) size address [] refl

  listen_says : Rest net fd (socket_at net fd) (listen_of net fd).state [] ≡ []
  unfolding listen_of
  listen_says = listen_rest net fd (socket_at net fd) [] refl

  abbrev own : Did
  own = by_result (printed console) ret

  write_says : Rest net fd (socket_at net fd) (or_own net ret payload (option_map (write_socket net c.payload) (socket_at net fd))).state (said_of own c.payload)
      ≡ said_of (at_open own (sent_did (or_own net ret payload (option_map (write_socket net c.payload) (socket_at net fd))).ret) (socket_at net fd)) c.payload
  write_says = write_rest net fd ret payload c.payload own quiet (socket_at net fd) refl

  abbrev written_by : Bool → Answer Net
  written_by many = or_own net ret payload (cond many None (option_map (write_socket net c.payload) (socket_at net fd)))

  writev_says : (many : Bool) → Rest net fd (socket_at net fd) (written_by many).state (said_of own c.payload)
      ≡ said_of (cond many own (at_open own (sent_did (written_by many).ret) (socket_at net fd))) c.payload
  writev_says true = same net fd (socket_at net fd) (said_of own c.payload) refl
  writev_says false = write_says

  readv_says : (b : Bool) (n : ℕ)
      → Rest net fd (socket_at net fd) (or_own net ret payload (cond b None (option_map (read_socket net n) (socket_at net fd)))).state [] ≡ []
  readv_says true n = same net fd (socket_at net fd) [] refl
  readv_says false n = read_rest net fd ret payload (socket_at net fd) n [] refl

  says_as : (k : Syscall) → Says k (or_own net ret payload (answered k net c))
  says_as call.Socket = socket_rest net fd (socket_at net fd) _ _ _ [] refl
  says_as call.Bind = bind_says _ _
  says_as call.Listen = listen_says
  says_as call.Accept = accept_says _
  says_as call.Accept4 = accept_says _
  says_as call.Close = close_rest net fd ret payload (socket_at net fd) c.payload refl
  says_as call.Read = read_rest net fd ret payload (socket_at net fd) _ [] refl
  says_as call.Readv = readv_says (nat_lt MOST_VECTORS (request_arg c 2)) _
  says_as call.Write = write_says
  says_as call.Writev = writev_says (nat_lt MOST_VECTORS (request_arg c 2))
  says_as _ = same net fd (socket_at net fd) [] refl

module _ (s : State) (c : Request) (below : 64 ≤ request_arg c 0 → prints_at s.own.files (request_arg c 0) ≡ false) where
  abbrev k : Syscall
  k = syscall_of c.nr

  abbrev console : Bool
  console = prints_at s.own.files (request_arg c 0)

  abbrev r : Answer kernel.State
  r = kernel.serve s.own c

  -- what is printed, as it is told
  prints : c.bad ≡ false → of_bytes Printed (after s.own.files.console r.state.files.console) ≡ said_of (own_did k console r.ret) c.payload
  prints good =
      ap (λ z. of_bytes Printed (after s.own.files.console z)) (own_prints s.own c good)
      ∙ (ap (of_bytes Printed) (drop_all s.own.files.console (printed_bytes (own_did k console r.ret) c.payload)) ∙ own_said k console r.ret c.payload)

  good_says : c.bad ≡ false → said s c (serve s c).ret (serve s c).state ≡ said_of (did s c (serve s c).ret (serve s c).state.net) c.payload
  unfolding serve
  good_says good =
      let a : Bool → Answer Net = λ b. or_own s.net r.ret r.payload (cond b None (answered k s.net c)) in
      let shows : List Said = of_bytes Printed (after s.own.files.console r.state.files.console) in
      (λ j. accepted k (socket_by (a (good j)).state (a (good j)).ret)
      ++ Rest s.net (request_arg c 0) (socket_at s.net (request_arg c 0)) (a (good j)).state (prints good j))
      ∙ (says_as s.net c console r.ret r.payload below k
      ∙ (λ j. said_of (cond (sym good j) done.Nothing (did_beside k s.net c (own_did k console r.ret) (a (sym good j)).ret (a (sym good j)).state)) c.payload))

  bad_says : c.bad ≡ true → said s c (serve s c).ret (serve s c).state ≡ said_of (did s c (serve s c).ret (serve s c).state.net) c.payload
  unfolding serve kernel.serve
  bad_says bad =
      let found : Option (Answer Net) = None in
      let none : of_bytes Printed (after s.own.files.console r.state.files.console) ≡ [] =
      ap (λ z. of_bytes Printed (after s.own.files.console z)) (bad_quiet s.own c bad) ∙ ap (of_bytes Printed) (after_same s.own.files.console) in
      let ret : Bool → ℤ = λ b. (cond b (only s.own EFAULT) (kernel.answered k s.own c)).ret in
      let a : Bool → Answer Net = λ b. or_own s.net (ret b) r.payload (cond b None (answered k s.net c)) in
      (λ j. accepted k (socket_by (a (bad j)).state (a (bad j)).ret) ++ Rest s.net (request_arg c 0) (socket_at s.net (request_arg c 0)) (a (bad j)).state (none j))
      ∙ ((λ j. none_accepted k j ++ same s.net (request_arg c 0) (socket_at s.net (request_arg c 0)) [] refl j)
      ∙ (λ j. said_of (cond (sym bad j) done.Nothing (did_beside k s.net c (own_did k console r.ret) (serve s c).ret (serve s c).state.net)) c.payload))

  -- what the definition says is said is what the call did
  pub says_did : said s c (serve s c).ret (serve s c).state ≡ said_of (did s c (serve s c).ret (serve s c).state.net) c.payload
  says_did = by c.bad refl
    where
      by : (b : Bool) → c.bad ≡ b → said s c (serve s c).ret (serve s c).state ≡ said_of (did s c (serve s c).ret (serve s c).state.net) c.payload
      by true e = bad_says e
      by false e = good_says e

-- so of a call that was served so
pub host_says : (s now : State) (c : Request) (ret : ℤ) (payload : List ℕ) (d : Did) → serve s c ≡ record { state = now; ret = ret; payload = payload }
    → d ≡ did s c ret now.net → (64 ≤ request_arg c 0 → prints_at s.own.files (request_arg c 0) ≡ false) → said s c ret now ≡ said_of d c.payload
host_says s now c ret payload d is e below =
    subst (λ (r : Answer State). said s c r.ret r.state ≡ said_of (did s c r.ret r.state.net) c.payload) is (says_did s c below)
    ∙ ap (λ (d : Did). said_of d c.payload) (sym e)

-- ---- a later call says nothing

abbrev NoneAccepted : Syscall → Answer Standing → Type 0
NoneAccepted k r = accepted k (socket_by r.state.state.net r.ret) ≡ []

whatever : (o : Option (Answer Standing)) (P : Answer Standing → Type 0) → ((r : Answer Standing) → P r) → IfSome o P
whatever None P h = tt
whatever (Some r) P h = h r

refused_waits : (k : Syscall) (s : Standing) (b : Bool) → IfSome (if b then Some (reached_by (EAGAIN, s)) else None) (NoneAccepted k)
refused_waits k s true = none_accepted k
refused_waits k s false = tt

as_accepts : (k : Syscall) (s : Standing) (c : Request) (u : Until) → IfSome (later_as k s c u) (NoneAccepted k)
as_accepts call.Accept s c u = refused_waits call.Accept s (would_wait call.Accept s c)
as_accepts call.Accept4 s c u = refused_waits call.Accept4 s (would_wait call.Accept4 s c)
as_accepts k s c u = whatever (later_as k s c u) (NoneAccepted k) (λ r. refl)

later_accepts : (b : Bool) (k : Syscall) (s : Standing) (c : Request) (u : Until) → IfSome (if b then later_as k s c u else None) (NoneAccepted k)
later_accepts true k s c u = as_accepts k s c u
later_accepts false k s c u = tt

pub later_says : (s : Standing) (c : Request) (u : Until) (now : Standing) (ret : ℤ) (payload : List ℕ)
    → later s c u ≡ Some (record { state = now; ret = ret; payload = payload })
    → now.state.net ≡ s.state.net → now.state.own.files ≡ s.state.own.files → said s.state c ret now.state ≡ []
unfolding later
later_says s c u now ret payload is net files =
    let o : Option Socket = socket_at s.state.net (request_arg c 0) in
    let first : accepted (syscall_of c.nr) (socket_by now.state.net ret) ≡ [] =
    subst (λ (o : Option (Answer Standing)). IfSome o (NoneAccepted (syscall_of c.nr))) is (later_accepts (s.polls && not c.bad) (syscall_of c.nr) s c u) in
    let none : of_bytes Printed (after s.state.own.files.console now.state.own.files.console) ≡ [] =
    ap (λ (f : FileState). of_bytes Printed (after s.state.own.files.console f.console)) files ∙ ap (of_bytes Printed) (after_same s.state.own.files.console) in
    (λ j. first j ++ Rest s.state.net (request_arg c 0) o (net j) (none j)) ∙ same s.state.net (request_arg c 0) o [] refl
