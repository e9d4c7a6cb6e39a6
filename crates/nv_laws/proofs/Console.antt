-- What calls print, joined, is what stands on the console.
use Rattle.std.proofs.Common.{◌≡◌, ◌∙◌, sym, ap, subst, refl, ℕ, ℤ, Bool, true, false, List, [], ◌∷◌, ◌++◌, take, map, Option, Some, None, append_assoc, append-nil}
use Rattle.std.specs.Prelude.{IfSome}
use Rattle.std.proofs.lemmas.List.Concat.{flat_map-append}
use Rattle.nv_calls.specs.declared.numbers.Syscall.{Syscall}
use Rattle.nv_calls.specs.declared.numbers.Syscall.TheVariants as call
use Rattle.nv_calls.specs.Answer.{Answer, state_after}
use Rattle.nv_calls.specs.Calls.{Request, Entry}
use Rattle.nv_calls.specs.Logs.{calls_of, output_of}
use Rattle.nv_calls.specs.Numbers.{syscall_of}
use Rattle.nv_fs.specs.States.{FileState}
use Rattle.nv_script.specs.Scripts.{Setup}
use Rattle.nv_kernel.specs.Serving as kernel
use Rattle.nv_kernel.specs.Serving.{request_arg}
use Rattle.nv_sockets.specs.declared.socket.Socket.{Socket}
use Rattle.nv_sockets.specs.declared.socket.Socket.TheVariants as socket
use Rattle.nv_sockets.specs.Sockets.{socket_at}
use Rattle.nv_sockets.specs.Serving.{State, serve}
use Rattle.nv_script.specs.Arrivals.{Arrival, Input, InputEnd, ClientsEnd, Connect, Data, End, Time}
use Rattle.nv_script.specs.Doings.{Said, Sent, Printed, Takes, Says, sayings}
use Rattle.nv_arriving.specs.declared.timing.Until.{Until}
use Rattle.nv_arriving.specs.Arrivals.{in_vain}
use Rattle.nv_arriving.specs.Timing.{until_of}
use Rattle.nv_arriving.specs.Arriving.{Standing, Stage, with_state, wait_of, taken, arrive, arrive_all, later, or_own, serve_by, ready_for, answer_next, serve_next, first_stage, start_of_arrivals}
use Rattle.nv_arriving.specs.Doings.{of_bytes, socket_by, accepted_as, accepted, written, sent, closed, said, doings_of, doings_from, doings}
use Rattle.nv_arriving.specs.Kernel.{after}
use Rattle.nv_sockets.proofs.Printing.{own_prints, bad_quiet}
use Rattle.nv_arriving.proofs.LaterLaws.{vain_state, note_state}
use Rattle.nv_arriving.proofs.Taken.{drop_all}
use Rattle.nv_arriving.proofs.Saying.{after_same}
use Rattle.nv_arriving.proofs.Told.{sayings_both, sayings_all, sayings_none}
use Rattle.nv_live.specs.Live.{plain_bytes, plain_text}
use Rattle.nv_laws.proofs.LaterCalls.{Still, later_still}

-- ---- more stands behind what was there

-- what was there is a front of what is
abbrev pub Grows : List ℕ → List ℕ → Type 0
Grows before now = now ≡ before ++ after before now

pub grows-same : (xs : List ℕ) → Grows xs xs
grows-same xs = sym (append-nil xs) ∙ ap (λ z. xs ++ z) (sym (after_same xs))

pub grows-more : (xs ys : List ℕ) → Grows xs (xs ++ ys)
grows-more xs ys = ap (λ z. xs ++ z) (sym (drop_all xs ys))

grows_by : (xs ys zs : List ℕ) → zs ≡ xs ++ ys → Grows xs zs
grows_by xs ys zs e = subst (Grows xs) (sym e) (grows-more xs ys)

-- ---- any call

pub prints : (s : State) (c : Request) → Grows s.own.files.console (serve s c).state.own.files.console
unfolding serve
prints s c = by c.bad refl
  where
    by : (b : Bool) → c.bad ≡ b → Grows s.own.files.console (kernel.serve s.own c).state.files.console
    by true e = subst (Grows s.own.files.console) (sym (bad_quiet s.own c e)) (grows-same s.own.files.console)
    by false e = grows_by s.own.files.console _ _ (own_prints s.own c e)

prints_or : (s : Standing) (c : Request) (o : Option (Answer Standing)) → IfSome o (Still s) → Grows s.state.own.files.console (or_own s c o).state.state.own.files.console
prints_or s c None h =
    let still = note_state (with_state s (serve s.state c).state) c (serve s.state c).ret in
    subst (λ (t : State). Grows s.state.own.files.console t.own.files.console) (sym still) (prints s.state c)
prints_or s c (Some r) h = subst (λ (f : FileState). Grows s.state.own.files.console f.console) (sym h.files) (grows-same s.state.own.files.console)

prints_by : (s : Standing) (c : Request) (u : Until) → Grows s.state.own.files.console (serve_by s c u).state.state.own.files.console
unfolding serve_by
prints_by s c u = prints_or s c (later s c u) (later_still s c u)

-- ---- what arrives

console_same : (s : Standing) (a : Arrival) → (arrive s a).state.own.files.console ≡ s.state.own.files.console
console_same s (Input bytes) = refl
console_same s InputEnd = refl
console_same s ClientsEnd = refl
console_same s (Connect port) = refl
console_same s (Data i bytes) = refl
console_same s (End i) = refl
console_same s (Time seconds nanos) = refl

console_still : (s : Standing) (xs : List Arrival) → (arrive_all s xs).state.own.files.console ≡ s.state.own.files.console
console_still s [] = refl
console_still s (x ∷ xs) = console_still (arrive s x) xs ∙ console_same s x

-- ---- what a call says of it

pub plain-both : (xs ys : List Said) → plain_text (xs ++ ys) ≡ plain_text xs ++ plain_text ys
plain-both xs ys = flat_map-append plain_bytes xs ys

accepted_plain : (o : Option Socket) → plain_text (accepted_as o) ≡ []
accepted_plain None = refl
accepted_plain (Some socket.Fresh) = refl
accepted_plain (Some (socket.Bound port)) = refl
accepted_plain (Some (socket.Listening port)) = refl
accepted_plain (Some (socket.Connected i)) = refl

accepts_plain : (k : Syscall) (o : Option Socket) → plain_text (accepted k o) ≡ []
accepts_plain call.Accept o = accepted_plain o
accepts_plain call.Accept4 o = accepted_plain o
accepts_plain _ o = refl

bytes_plain : (i : ℕ) (bytes : List ℕ) → plain_text (of_bytes (Sent i) bytes) ≡ []
bytes_plain i [] = refl
bytes_plain i (b ∷ bytes) = refl

sent_plain : (o : Option Socket) (bytes : List ℕ) → plain_text (sent o bytes) ≡ []
sent_plain None bytes = refl
sent_plain (Some socket.Fresh) bytes = refl
sent_plain (Some (socket.Bound port)) bytes = refl
sent_plain (Some (socket.Listening port)) bytes = refl
sent_plain (Some (socket.Connected i)) bytes = bytes_plain i bytes

closed_plain : (o p : Option Socket) → plain_text (closed o p) ≡ []
closed_plain (Some (socket.Connected i)) None = refl
closed_plain (Some (socket.Connected i)) (Some p) = refl
closed_plain (Some socket.Fresh) p = refl
closed_plain (Some (socket.Bound port)) p = refl
closed_plain (Some (socket.Listening port)) p = refl
closed_plain None p = refl

printed_plain : (bytes : List ℕ) → plain_text (of_bytes Printed bytes) ≡ bytes
printed_plain [] = refl
printed_plain (b ∷ bytes) = append-nil (b ∷ bytes)

said_plain : (before : State) (c : Request) (ret : ℤ) (now : State) → plain_text (said before c ret now) ≡ after before.own.files.console now.own.files.console
said_plain before c ret now =
    let open_socket : Option Socket = socket_at before.net (request_arg c 0) in
    let first : List Said = accepted (syscall_of c.nr) (socket_by now.net ret) in
    let second : List Said = sent open_socket (after (written before.net open_socket) (written now.net open_socket)) in
    let third : List Said = closed open_socket (socket_at now.net (request_arg c 0)) in
    let last : List Said = of_bytes Printed (after before.own.files.console now.own.files.console) in
    plain-both first (second ++ (third ++ last))
    ∙ (ap (λ z. z ++ plain_text (second ++ (third ++ last))) (accepts_plain (syscall_of c.nr) (socket_by now.net ret))
    ∙ (plain-both second (third ++ last)
    ∙ (ap (λ z. z ++ plain_text (third ++ last)) (sent_plain open_socket (after (written before.net open_socket) (written now.net open_socket)))
    ∙ (plain-both third last
    ∙ (ap (λ z. z ++ plain_text last) (closed_plain open_socket (socket_at now.net (request_arg c 0)))
    ∙ printed_plain (after before.own.files.console now.own.files.console))))))

pub sayings_of : (g : Stage) (c : Request) → sayings (doings_of g c) ≡ said (ready_for g c).state c (answer_next g c).ret (answer_next g c).state.state
sayings_of g c =
    let front : List Arrival = take (taken g c) g.rest in
    let says : List Said = said (ready_for g c).state c (answer_next g c).ret (answer_next g c).state.state in
    sayings_both (map Takes front) (map Says says) ∙ (λ i. sayings_none front i ++ sayings_all says i)

-- ---- a log

abbrev console_at : Stage → List ℕ
console_at g = g.here.state.own.files.console

next_console : (g : Stage) (c : Request) → console_at (serve_next g c).state ≡ console_at g ++ plain_text (sayings (doings_of g c))
next_console g c =
    let before : List ℕ = (ready_for g c).state.own.files.console in
    let met : Standing = arrive_all g.here (take (taken g c) g.rest) in
    let still : before ≡ console_at g = ap (λ (t : State). t.own.files.console) (vain_state (in_vain (wait_of g.here c) g.rest) met) ∙ console_still g.here (take (taken g c) g.rest) in
    prints_by (ready_for g c) c (until_of g.here c)
    ∙ (ap (λ z. z ++ after before (console_at (serve_next g c).state)) still
    ∙ ap (λ z. console_at g ++ z) (sym (ap plain_text (sayings_of g c) ∙ said_plain (ready_for g c).state c (answer_next g c).ret (answer_next g c).state.state)))

from_console : (g : Stage) (cs : List Request) → console_at (state_after serve_next g cs) ≡ console_at g ++ plain_text (sayings (doings_from g cs))
from_console g [] = sym (append-nil (console_at g))
from_console g (c ∷ cs) =
    from_console (serve_next g c).state cs
    ∙ (ap (λ z. z ++ plain_text (sayings (doings_from (serve_next g c).state cs))) (next_console g c)
    ∙ (append_assoc (console_at g) (plain_text (sayings (doings_of g c))) (plain_text (sayings (doings_from (serve_next g c).state cs)))
    ∙ ap (λ z. console_at g ++ z) (sym (ap plain_text (sayings_both (doings_of g c) (doings_from (serve_next g c).state cs)) ∙ plain-both (sayings (doings_of g c)) (sayings (doings_from (serve_next g c).state cs))))))

pub console_is_said : (setup : Setup) (arrivals : List Arrival) (log : List Entry) → plain_text (sayings (doings setup arrivals log)) ≡ output_of (start_of_arrivals setup arrivals) log
unfolding doings start_of_arrivals
console_is_said setup arrivals log = sym (from_console (first_stage setup arrivals) (calls_of log))
