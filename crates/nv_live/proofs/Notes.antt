-- The text of a script, and behind it the notes of what was done, are the script with what came and with where the leader gave up the lead.
use Rattle.std.proofs.Common.{◌≡◌, ℕ, true, List, [], ◌∷◌, ◌++◌, Result, Ok, Err, codes, append-nil, append_assoc, refl, sym, ap, subst, ◌∙◌}
use Rattle.std.specs.List.{All, list_all}
use Rattle.std.specs.Result.{is_ok}
use Rattle.std.proofs.lemmas.Bool.{and_parts, and_from}
use Rattle.std.proofs.lemmas.List.Elements.{All-nil, All-cons, All-head, All-tail}
use Rattle.nv_script.specs.declared.arrival.ArrivalCause.{ArrivalCause}
use Rattle.nv_script.specs.Arrivals.{Arrival, is_arrival, BringsBytes}
use Rattle.nv_script.specs.Doings.{Doing, Takes, Says, Hands, takings, handings}
use Rattle.nv_script.specs.Order.{Came, most_clients, nothing_came, onward, after, are_orderly}
use Rattle.nv_script.specs.Writing.{line_text}
use Rattle.nv_script.proofs.Orderly.{after-append}
use Rattle.nv_script.specs.HandLines.{planned_too}
use Rattle.nv_script.specs.Scripts.{Setup, are_hands}
use Rattle.nv_script.specs.Transcripts.{IsTranscript, continued_by}
use Rattle.nv_script.proofs.Transcripts.{transcript}
use Rattle.nv_script.proofs.HandLines.{planned}
use Rattle.nv_script.proofs.Plans.{can_plan-next}
use Rattle.nv_live.specs.Transcript.{hand_text, notes_on, continued_with}

-- what comes first may come
orderly-front : (xs ys : List Arrival) → are_orderly (most_clients true) (xs ++ ys) ≡ true → are_orderly (most_clients true) xs ≡ true
orderly-front xs ys h = step (after xs (nothing_came (most_clients true))) (ap is_ok (sym (after-append xs ys (nothing_came (most_clients true)))) ∙ h) where
  step : (r : Result Came ArrivalCause) → is_ok (onward r (λ c. after ys c)) ≡ true → is_ok r ≡ true
  step (Ok came) h = refl
  step (Err c) h = h

-- one more arrival or length, and then those that follow it
with_arrival : (a : Arrival) (done : List Doing) (s : Setup) → continued_with done (continued_by (a ∷ []) s) ≡ continued_with (Takes a ∷ done) s
with_arrival a done s = ap (λ (arrivals : List Arrival). record s { arrivals = arrivals; hands = s.hands ++ handings done }) (append_assoc s.arrivals (a ∷ []) (takings done))

with_length : (n : ℕ) (done : List Doing) (s : Setup) → continued_with done (planned_too n s) ≡ continued_with (Hands n ∷ done) s
with_length n done s = ap (λ (hands : List ℕ). record s { arrivals = s.arrivals ++ takings done; hands = hands }) (append_assoc s.hands (n ∷ []) (handings done))

none_done : (s : Setup) → s ≡ continued_with [] s
none_done s = λ i. record s { arrivals = sym (append-nil s.arrivals) i; hands = sym (append-nil s.hands) i }

pub noted : (done : List Doing) (text : List ℕ) (s : Setup) → IsTranscript text s → list_all is_arrival (takings done) ≡ true → All BringsBytes (takings done)
    → are_orderly (most_clients true) (s.arrivals ++ takings done) ≡ true → are_hands (s.hands ++ handings done) ≡ true → IsTranscript (text ++ notes_on done) (continued_with done s)
noted [] text s tells sound bytes orderly planned = subst (IsTranscript (text ++ [])) (none_done s) (subst (λ t. IsTranscript t s) (sym (append-nil text)) tells)
noted (Says said ∷ done) text s tells sound bytes orderly are = noted done text s tells sound bytes orderly are
noted (Takes a ∷ done) text s tells sound bytes orderly are =
    let parts = and_parts (is_arrival a) (list_all is_arrival (takings done)) sound in
    let line : List ℕ = line_text a ++ codes "\n" in
    let all : are_orderly (most_clients true) ((s.arrivals ++ a ∷ []) ++ takings done) ≡ true = ap (are_orderly (most_clients true)) (append_assoc s.arrivals (a ∷ []) (takings done)) ∙ orderly in
    let next : IsTranscript (text ++ line) (continued_by (a ∷ []) s) =
    subst (λ t. IsTranscript (text ++ t) (continued_by (a ∷ []) s)) (append-nil line)
    (transcript text s (a ∷ []) tells (and_from (is_arrival a) true parts.0 refl) (All-cons BringsBytes a [] (All-head BringsBytes a (takings done) bytes) (All-nil BringsBytes)) (orderly-front (s.arrivals ++ a ∷ []) (takings done) all)) in
    subst (IsTranscript (text ++ (line ++ notes_on done))) (with_arrival a done s)
    (subst (λ t. IsTranscript t (continued_with done (continued_by (a ∷ []) s))) (append_assoc text line (notes_on done))
    (noted done (text ++ line) (continued_by (a ∷ []) s) next parts.1 (All-tail BringsBytes a (takings done) bytes) all are))
noted (Hands n ∷ done) text s tells sound bytes orderly are =
    let next : IsTranscript (text ++ hand_text n) (planned_too n s) = planned text s n tells (can_plan-next s.hands n (handings done) are) in
    subst (IsTranscript (text ++ (hand_text n ++ notes_on done))) (with_length n done s)
    (subst (λ t. IsTranscript t (continued_with done (planned_too n s))) (append_assoc text (hand_text n) (notes_on done))
    (noted done (text ++ hand_text n) (planned_too n s) next sound bytes orderly (ap are_hands (append_assoc s.hands (n ∷ []) (handings done)) ∙ are)))
