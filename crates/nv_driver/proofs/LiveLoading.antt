-- What the files of a live run come to.
use Rattle.std.proofs.Common.{◌≡◌, ◌∙◌, sym, ap, subst, refl, ℕ, ◌≤◌, Bool, true, false, ◌==◌, ◌-◌, if◌then◌else◌, List, [], ◌∷◌, ◌++◌, codes, length, get_or, map, Option, None, Some, option_map, Result, Ok, Err, append_assoc, arith}
use Rattle.std.proofs.lemmas.Bool.Decides.{nat_tests}
use Rattle.nv_outside.specs.Told.{Told}
use Rattle.nv_script.specs.Arrivals.{Arrival}
use Rattle.nv_driver.specs.Words.{Service}
use Rattle.nv_script.specs.Scripts.{Setup, script_of}
use Rattle.nv_script.specs.Transcripts.{IsTranscript}
use Rattle.nv_script.specs.declared.fault.ScriptFault.{ScriptFault}
use Rattle.nv_driver.specs.Found.{Whole, TooLong, Unread, IsReadOf, FILE_LIMIT, found_of}
use Rattle.nv_driver.specs.Prepared.{Prepared, Unreadable, Refused, after_rules, versions_from}
use Rattle.nv_driver.specs.Live.{AgreesOrBare, bare_text, after_first_line, whole_lines, transcript_head, unless_comes, without_arrivals, as_begun, live_script, after_live_script}
use Rattle.nv_driver.specs.Refusals.{LiveComesTo, Stops, RefusesLive}
use Rattle.nv_driver.specs.inner.Refusals.{live_parts, ReadRefused, RestComes, RestRefused, IsScriptRefusal, IsLiveScript, IsLiveScriptRefusal, LiveScriptStops}
use Rattle.nv_driver.specs.declared.refusal.Refusal.{Refusal}
use Rattle.nv_driver.specs.declared.refusal.Refusal.TheVariants as refusal
use Rattle.nv_driver.specs.declared.refusal.Place.TheVariants.{Script}
use Rattle.nv_driver.specs.declared.refusal.Cause.{Cause}
use Rattle.nv_driver.specs.declared.refusal.Cause.TheVariants as causes
use Rattle.nv_driver.proofs.Loading.{all_told, rules_told, stops_more}

-- after an accepted script the rest decides
pub live_script_accepted : (holds : List ℕ → Told) (service : Service) (bytes : List ℕ) (setup : Setup) (whole : Prepared) → AgreesOrBare holds service.script (Whole bytes)
    → live_script bytes ≡ Ok setup → RestComes setup holds (live_parts service) whole → LiveComesTo service holds whole
live_script_accepted holds service bytes setup whole r ok v = record {
  finds = record { script = Whole bytes; rules = v.rules; versions = v.versions };
  agree = record { script = r; rules = v.rules_agree; versions = v.versions_agree };
  is = ap (after_live_script (λ (s : Setup). after_rules v.rules (versions_from service.limits s 0 v.versions))) ok ∙ v.is;
}

-- what is found of the script decides
pub live_script_stops : (holds : List ℕ → Told) (service : Service) (whole : Prepared) → LiveScriptStops holds service.script whole → LiveComesTo service holds whole
live_script_stops holds service whole s = record {
  finds = record { script = s.found; rules = option_map (λ name. found_of (holds name)) service.rules; versions = map (λ name. found_of (holds name)) service.versions };
  agree = record { script = s.agrees; rules = rules_told holds service.rules; versions = all_told holds service.versions };
  is = s.is (λ bytes. after_live_script (λ s. after_rules (option_map (λ name. found_of (holds name)) service.rules) (versions_from service.limits s 0 (map (λ name. found_of (holds name)) service.versions))) (live_script bytes));
}

-- a script that is named can't be read
pub script_stops_unread : (refusal : Refusal) (holds : List ℕ → Told) (named : Option (List ℕ)) (name : List ℕ) (f f' t t' : ℕ) → named ≡ Some name
    → ReadRefused refusal Script FILE_LIMIT (holds name) f f' t t' → Stops (LiveScriptStops holds named) refusal f f' t t'
script_stops_unread why holds named name f f' t t' e h = subst (λ (n : Option (List ℕ)). Stops (LiveScriptStops holds n) why f f' t t') (sym e) (by why h)
  where
    by : (r : Refusal) → ReadRefused r Script FILE_LIMIT (holds name) f f' t t' → Stops (LiveScriptStops holds (Some name)) r f f' t t'
    by refusal.Memory h = h
    by (refusal.Unreadable place) h = (record { found = Unread; agrees = h.2; is = λ check. ap Unreadable (sym h.0) }, h.1)
    by (refusal.Input place cause) h =
        (record { found = TooLong; agrees = h.4; is = λ check. ap (λ p. Refused p causes.Long) (sym h.0) ∙ ap (Refused place) (sym h.1) }, h.2, λ e. h.3)

-- a script that is named is read
pub script_found : (holds : List ℕ → Told) (named : Option (List ℕ)) (name bytes : List ℕ) → named ≡ Some name → IsReadOf bytes (holds name) → AgreesOrBare holds named (Whole bytes)
script_found holds named name bytes e r = subst (λ (n : Option (List ℕ)). AgreesOrBare holds n (Whole bytes)) (sym e) r

-- a script that isn't named says nothing
pub script_bare : (holds : List ℕ → Told) (named : Option (List ℕ)) (bytes : List ℕ) → named ≡ None → bytes ≡ bare_text → AgreesOrBare holds named (Whole bytes)
script_bare holds named bytes e is = subst (λ (n : Option (List ℕ)). AgreesOrBare holds n (Whole bytes)) (sym e) (ap Whole is)

-- a script can't be read
pub live_unread : (refusal : Refusal) (holds : List ℕ → Told) (service : Service) (f f' t t' : ℕ) → Stops (LiveScriptStops holds service.script) refusal f f' t t' → RefusesLive refusal holds service f f' t t'
live_unread refusal holds service f f' t t' h =
    stops_more (LiveScriptStops holds service.script) (LiveComesTo service holds) refusal f f f' t t t' (λ place. live_script_stops holds service (Unreadable place))
    (λ place cause. live_script_stops holds service (Refused place cause)) refl (omega arith) h

-- a script is refused
pub live_script_refuses : (refusal : Refusal) (holds : List ℕ → Told) (service : Service) (bytes : List ℕ) (f0 f t0 t : ℕ) → AgreesOrBare holds service.script (Whole bytes)
    → f ≡ f0 → IsLiveScriptRefusal refusal bytes → RefusesLive refusal holds service f0 f t0 t
live_script_refuses refusal.Memory holds service bytes f0 f t0 t r kept h = kept
live_script_refuses (refusal.Unreadable place) holds service bytes f0 f t0 t r kept h = absurd h
live_script_refuses (refusal.Input place cause) holds service bytes f0 f t0 t r kept h = (
  record {
    finds = record { script = Whole bytes; rules = option_map (λ name. found_of (holds name)) service.rules; versions = map (λ name. found_of (holds name)) service.versions };
    agree = record { script = r; rules = rules_told holds service.rules; versions = all_told holds service.versions };
    is = ap (after_live_script (λ (s : Setup). after_rules (option_map (λ name. found_of (holds name)) service.rules) (versions_from service.limits s 0 (map (λ name. found_of (holds name)) service.versions)))) h.2
        ∙ ap (λ p. Refused p cause) (sym h.0);
  },
  kept,
  λ e. absurd (h.1 e),
)

-- after an accepted script the refusal of the rest is that of the live run
pub live_refused : (refusal : Refusal) (holds : List ℕ → Told) (service : Service) (bytes : List ℕ) (setup : Setup) (f0 f f' t0 t t' : ℕ) → AgreesOrBare holds service.script (Whole bytes)
    → live_script bytes ≡ Ok setup → f ≡ f0 → t0 ≤ t → RestRefused refusal setup holds (live_parts service) f f' t t' → RefusesLive refusal holds service f0 f' t0 t'
live_refused refusal holds service bytes setup f0 f f' t0 t t' r ok fs ts h =
    stops_more (RestComes setup holds (live_parts service)) (LiveComesTo service holds) refusal f0 f f' t0 t t' (λ place. live_script_accepted holds service bytes setup (Unreadable place) r ok)
    (λ place cause. live_script_accepted holds service bytes setup (Refused place cause) r ok) fs ts h

-- ---- what a live run's script says

pub live_faulty : (bytes : List ℕ) (fault : ScriptFault) → script_of bytes ≡ Err fault → live_script bytes ≡ Err (causes.Script fault)
unfolding live_script
live_faulty bytes fault is = ap (λ (r : Result Setup ScriptFault). as_begun r (script_of (transcript_head bytes))) is

pub live_begun : (bytes : List ℕ) (setup : Setup) → script_of bytes ≡ Ok setup → live_script bytes ≡ without_arrivals (script_of (transcript_head bytes))
unfolding live_script
live_begun bytes setup is = ap (λ (r : Result Setup ScriptFault). as_begun r (script_of (transcript_head bytes))) is

-- the reason for which bytes are refused
pub script_reason : (refusal : Refusal) (bytes : List ℕ) → IsScriptRefusal refusal bytes → IsLiveScriptRefusal refusal bytes
script_reason refusal.Memory bytes h = tt
script_reason (refusal.Unreadable place) bytes h = absurd h
script_reason (refusal.Input place cause) bytes h = (
  h.0,
  λ e. let other : causes.Script h.1 ≡ causes.Long = sym h.2 ∙ e in cc,
  live_faulty bytes h.1 h.3 ∙ ap (λ (c : Cause). Err c) (sym h.2),
)

-- so is its transcript's head
pub head_reason : (refusal : Refusal) (bytes head : List ℕ) (setup : Setup) → script_of bytes ≡ Ok setup → head ≡ transcript_head bytes → IsScriptRefusal refusal head → IsLiveScriptRefusal refusal bytes
head_reason refusal.Memory bytes head setup ok same h = tt
head_reason (refusal.Unreadable place) bytes head setup ok same h = absurd h
head_reason (refusal.Input place cause) bytes head setup ok same h = (
  h.0,
  λ e. let other : causes.Script h.1 ≡ causes.Long = sym h.2 ∙ e in cc,
  live_begun bytes setup ok ∙ ap (λ t. without_arrivals (script_of t)) (sym same) ∙ ap without_arrivals h.3 ∙ ap (λ (c : Cause). Err c) (sym h.2),
)

-- nothing comes in it, or it is refused for what comes
pub comes_reason : (setup : Setup) → (setup.arrivals ≡ [] → ⊥) → unless_comes setup setup.arrivals ≡ Err causes.Comes
comes_reason setup some = by setup.arrivals refl
  where
    by : (arrivals : List Arrival) → setup.arrivals ≡ arrivals → unless_comes setup arrivals ≡ Err causes.Comes
    by [] e = absurd (some e)
    by (arrival ∷ arrivals) e = refl

pub live_comes : (bytes head : List ℕ) (setup begun : Setup) → script_of bytes ≡ Ok setup → head ≡ transcript_head bytes → script_of head ≡ Ok begun → (begun.arrivals ≡ [] → ⊥) → live_script bytes ≡ Err causes.Comes
live_comes bytes head setup begun ok same is some =
    live_begun bytes setup ok ∙ ap (λ t. without_arrivals (script_of t)) (sym same) ∙ ap without_arrivals is ∙ comes_reason begun some

-- a text whose last line has its newline
record IsEnded (text : List ℕ) : Type 0 where
  front : List ℕ
  is : text ≡ front ++ 10 ∷ []

ended_by : (b : ℕ) (text : List ℕ) → (get_or (b ∷ text) (length text) 10 == 10) ≡ true → IsEnded (b ∷ text)
ended_by b [] h = let is : b ≡ 10 = grind (arith, nat_tests) in record { front = []; is = ap (λ n. n ∷ []) is }
ended_by b (c ∷ text) h = let e = ended_by c text h in record { front = b ∷ e.front; is = ap (λ t. b ∷ t) e.is }

-- lines of which the last has its newline, after a line that has it
ended_after : (line text : List ℕ) → IsEnded (line ++ 10 ∷ whole_lines text)
ended_after line [] = record { front = line; is = refl }
ended_after line (b ∷ text) = by (get_or (b ∷ text) (length (b ∷ text) - 1) 10 == 10) refl
  where
    same : length (b ∷ text) - 1 ≡ length text
    same = omega arith

    by : (last : Bool) → (get_or (b ∷ text) (length (b ∷ text) - 1) 10 == 10) ≡ last → IsEnded (line ++ 10 ∷ (if last then b ∷ text else (b ∷ text) ++ 10 ∷ []))
    by true e =
        let whole = ended_by b text (subst (λ (n : ℕ). (get_or (b ∷ text) n 10 == 10) ≡ true) same e) in
        record { front = line ++ 10 ∷ whole.front; is = ap (λ t. line ++ 10 ∷ t) whole.is ∙ sym (append_assoc line (10 ∷ whole.front) (10 ∷ [])) }
    by false e = record { front = line ++ 10 ∷ b ∷ text; is = sym (append_assoc line (10 ∷ b ∷ text) (10 ∷ [])) }

-- the head is a transcript as it stands
head_reads : (bytes head : List ℕ) (begun : Setup) → head ≡ transcript_head bytes → script_of head ≡ Ok begun → IsTranscript head begun
unfolding transcript_head
head_reads bytes head begun same is =
    let whole = ended_after (codes "varan-script 5") (after_first_line bytes) in
    record { body = whole_lines (after_first_line bytes); begins = same; front = whole.front; ends = same ∙ whole.is; says = is }

pub live_is : (bytes head : List ℕ) (setup begun : Setup) → script_of bytes ≡ Ok setup → head ≡ transcript_head bytes → script_of head ≡ Ok begun → begun.arrivals ≡ [] → IsLiveScript head begun bytes
live_is bytes head setup begun ok same is none = record {
  live = live_begun bytes setup ok ∙ ap (λ t. without_arrivals (script_of t)) (sym same) ∙ ap without_arrivals is ∙ ap (unless_comes begun) none;
  begins = head_reads bytes head begun same is;
  none = none;
}
