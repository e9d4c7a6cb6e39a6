-- From call to call: the state and the reply after calls, and how they stand to the kernel without sockets.
use Rattle.std.proofs.Common.{◌≡◌, ◌∙◌, ap, refl, ◌≤◌, List, [], ◌∷◌, length, arith}
use Rattle.std.proofs.lemmas.List.{length-map}
use Rattle.nv_calls.specs.Answer.{Answer, reply_of, state_after}
use Rattle.nv_calls.specs.Calls.{Request, Entry}
use Rattle.nv_calls.specs.Logs.{calls_of, call_of, output_of}
use Rattle.nv_script.specs.Scripts.{Setup}
use Rattle.nv_kernel.specs.Serving as kernel
use Rattle.nv_kernel.proofs.Crews.{few_clones_after}
use Rattle.nv_kernel.proofs.Going as was
use Rattle.nv_sockets.specs.Serving.{State, unless_bad, or_own, beside, joined, serve, first_state, start_of_script}
use Rattle.nv_sockets.specs.Sockets.{Net}

-- a call by the answer of the kernel without sockets and what takes its place
pub serve_is : (s : State) (c : Request) (r : Answer kernel.State) (a : Answer Net) → kernel.serve s.own c ≡ r → or_own s.net r.ret r.payload (unless_bad s.net c) ≡ a → serve s c ≡ beside r.state a
unfolding serve
serve_is s c r a p q = ap (λ (z : Answer kernel.State). joined s.net z (unless_bad s.net c)) p ∙ ap (beside r.state) q

pub own_next : (s : State) (c : Request) → (serve s c).state.own ≡ (kernel.serve s.own c).state
unfolding serve
own_next s c = refl

pub own_after : (s : State) (cs : List Request) → (state_after serve s cs).own ≡ state_after kernel.serve s.own cs
own_after s [] = refl
own_after s (c ∷ cs) = own_after (serve s c).state cs ∙ ap (λ (z : kernel.State). state_after kernel.serve z cs) (own_next s c)

pub log_count : (setup : Setup) (log : List Entry) → (state_after serve (first_state setup) (calls_of log)).own.served ≡ length log
log_count setup log = ap (λ (z : kernel.State). z.served) (own_after (first_state setup) (calls_of log)) ∙ was.log_count setup log ∙ length-map log call_of

-- no more clones succeeded than calls were served
pub log_clones : (setup : Setup) (log : List Entry) → (state_after serve (first_state setup) (calls_of log)).own.crew.clones ≤ length log
log_clones setup log =
    let e = ap (λ (z : kernel.State). z.crew.clones) (own_after (first_state setup) (calls_of log)) in
    let h = few_clones_after (kernel.first_state setup) (calls_of log) in
    omega (arith, e, h, length-map log call_of)

-- the reply to a call and the console, by the state after the calls before
pub reply_is : (setup : Setup) (log : List Entry) (c : Request) → (start_of_script setup).replies (calls_of log) c ≡ reply_of (serve (state_after serve (first_state setup) (calls_of log)) c)
unfolding start_of_script
reply_is setup log c = refl

pub output_is : (setup : Setup) (log : List Entry) → output_of (start_of_script setup) log ≡ (state_after serve (first_state setup) (calls_of log)).own.files.console
unfolding start_of_script
output_is setup log = refl
