-- What stands on a sink once what was held back from it is written.
use Rattle.std.proofs.Common.{◌≡◌, ◌∙◌, ap, sym, subst, refl, ℕ, List, [], ◌++◌, append-nil, append_assoc, Option, None, Some, Ok, Err, Vec, String, arith, IsOk, IsErr}
use Rattle.std.specs.Prelude.{IfOk}
use Rattle.std.specs.Global.{Global}
use Rattle.nv_outside.specs.Counts.{Rose}
use Rattle.nv_outside.specs.Told.{Grows}
use Rattle.nv_outside.specs.Sink.{Put, faults_by}
use Rattle.nv_outside.specs.Gathering.{with_held}
use Rattle.nv_driver.specs.Words.{texts}
use Rattle.nv_driver.specs.declared.asked.LineFault.{LineFault}
use Rattle.nv_driver.specs.declared.asked.LineFault.TheVariants as line
use Rattle.nv_driver.specs.Due.{AnswersOver, Says, Completes, Rejects, IsUntouched, Shows}
use Rattle.nv_driver.specs.Live.{Streams}
use Rattle.nv_driver.specs.declared.ending.Ending.{Ending}
use Rattle.nv_driver.specs.declared.ending.Ending.TheVariants.{Finished}
use Rattle.nv_driver.specs.Outcome.{Source, outcome_status, text_of, ended_with}
use Rattle.nv_driver.specs.Tasks.{fault_outcome}
use Rattle.nv_driver.proofs.Statuses.{completes-of, rejects-of, never_six}
use Rattle.nv_cli.specs.Program.{Given, Begins, EndsWith, ProgramAnswers}

-- ---- one text

-- a prefix of the text that was added
begins_by : (a c : Option (List ℕ)) (text written rest : List ℕ) → text ≡ written ++ rest → Grows a written c → Begins a text c
begins_by a None text written rest is grown = tt
begins_by None (Some c) text written rest is grown = absurd grown
begins_by (Some a) (Some c) text written rest is grown =
    (rest, ap (λ t. a ++ t) is ∙ sym (append_assoc a written rest) ∙ ap (λ t. t ++ rest) (sym grown))

pub says_ends : {text : List ℕ} {text_status : ℕ} {a c : Option (List ℕ)} {f status g : ℕ} → Says text text_status a f status c g → EndsWith text text_status a f status c g
says_ends {text = text} {a = a} {c = c} says = record {
  put = says.put;
  ends = says.ends;
  counted = says.written.counted;
  whole = says.written.whole;
  begun = λ failed. let end = says.written.prefix failed in begins_by a c text end.0 end.1 end.2 end.3;
}

-- what is held back is left out
begins_before : (a c : Option (List ℕ)) (text held : List ℕ) → Begins (with_held a []) text (with_held c held) → Begins a text c
begins_before a None text held b = tt
begins_before None (Some c) text held b = absurd b
begins_before (Some a) (Some c) text held b =
    (held ++ b.0, ap (λ t. t ++ text) (sym (append-nil a)) ∙ b.1 ∙ append_assoc c held b.0)

-- what was held back is written
grows_after : (a c d : Option (List ℕ)) (text held : List ℕ) → Grows (with_held a []) text (with_held c held) → Grows c held d → Grows a text d
grows_after a c None text held first last = tt
grows_after a None (Some d) text held first last = absurd last
grows_after None (Some c) (Some d) text held first last = absurd first
grows_after (Some a) (Some c) (Some d) text held first last = last ∙ first ∙ ap (λ t. t ++ text) (append-nil a)

-- a part of it is
begins_after : (a c d : Option (List ℕ)) (text held written rest : List ℕ) → Grows (with_held a []) text (with_held c held) → held ≡ written ++ rest → Grows c written d → Begins a text d
begins_after a c None text held written rest first is last = tt
begins_after a None (Some d) text held written rest first is last = absurd last
begins_after None (Some c) (Some d) text held written rest first is last = absurd first
begins_after (Some a) (Some c) (Some d) text held written rest first is last = (
  rest,
  ap (λ t. t ++ text) (sym (append-nil a)) ∙ sym first ∙ ap (λ t. c ++ t) is ∙ sym (append_assoc c written rest) ∙ ap (λ t. t ++ rest) (sym last),
)

module _ {text : List ℕ} {text_status : ℕ} {a c d : Option (List ℕ)} {held : List ℕ} {f g h status last_status : ℕ} (never : text_status ≡ 6 → ⊥)
    (given_up : status ≡ 6 → (d ≡ c) × (h ≡ g) × (last_status ≡ 6)) (put_held : (status ≡ 6 → ⊥) → Says held status c g last_status d h) where
  finished_by : (put : Put) → status ≡ ended_with put text_status → g ≡ faults_by put f → (IsOk put → Grows (with_held a []) text (with_held c held))
      → (IsErr put → Begins (with_held a []) text (with_held c held)) → EndsWith text text_status a f last_status d h
  finished_by (Err failure) ends counted whole begun =
      let up = given_up ends in
      record {
        put = Err failure;
        ends = up.2;
        counted = up.1 ∙ counted;
        whole = λ e. cc;
        begun = λ e. subst (λ (t : Option (List ℕ)). Begins a text t) (sym up.0) (begins_before a c text held (begun refl));
      }
  finished_by (Ok _) ends counted whole begun =
      let last = put_held (λ six. never (sym ends ∙ six)) in
      record {
        put = last.put;
        ends = last.ends ∙ ap (ended_with last.put) ends;
        counted = last.written.counted ∙ ap (faults_by last.put) counted;
        whole = λ e. grows_after a c d text held (whole refl) (last.written.whole e);
        begun = λ e. let end = last.written.prefix e in begins_after a c d text held end.0 end.1 (whole refl) end.2 end.3;
      }

  finished : EndsWith text text_status (with_held a []) f status (with_held c held) g → EndsWith text text_status a f last_status d h
  finished e = finished_by e.put e.ends e.counted e.whole e.begun

-- ---- the program

module _ {words : Given} {source : Source} {streams : Streams} {left : Streams × Ending} {a c d : Option (List ℕ)} {held : List ℕ} {f g h status last_status : ℕ} where
  -- the monitor's answer, and then what is held back
  pub program_finished : ProgramAnswers words source streams (with_held a []) f status (with_held c held) g left
      → (status ≡ 6 → (d ≡ c) × (h ≡ g) × (last_status ≡ 6)) → ((status ≡ 6 → ⊥) → Says held status c g last_status d h) → ProgramAnswers words source streams a f last_status d h left
  program_finished p given_up put_held = record {
    outcome = p.outcome;
    due = p.due;
    shown = p.shown;
    unread = p.unread;
    ends = finished (never_six p.outcome) given_up put_held p.ends;
    over = p.over;
  }

-- the monitor answers the words
pub words_answer : {words : Given} (given : Vec (String Global) Global) {source : Source} {streams : Streams} {left : Streams × Ending} {a c : Option (List ℕ)} {f status g : ℕ} → words ≡ Ok given
    → AnswersOver (texts given.items) source streams a f status c g left → ProgramAnswers words source streams a f status c g left
words_answer {words = words} given {source = source} {streams = streams} {left = left} {a = a} {c = c} {f = f} {status = status} {g = g} is over =
    let said = over.answers in
    subst (λ (w : Given). ProgramAnswers w source streams a f status c g left) (sym is) (record {
      outcome = said.outcome;
      due = said.due;
      shown = said.shown;
      unread = said.unread;
      ends = says_ends said.says;
      over = over.over;
    })

fault_shown : (fault : LineFault) (source : Source) → IsUntouched source → Shows (fault_outcome fault) source
fault_shown line.Usage source still = still.0
fault_shown line.Memory source still = still.0

-- there are no words
pub fault_answers : {words : Given} (fault : LineFault) {source : Source} (streams : Streams) {a c : Option (List ℕ)} {f status g : ℕ} → words ≡ Err fault → IsUntouched source
    → Says (text_of (fault_outcome fault)) (outcome_status (fault_outcome fault)) a f status c g → ProgramAnswers words source streams a f status c g (streams, Finished)
fault_answers {words = words} fault {source = source} streams {a = a} {c = c} {f = f} {status = status} {g = g} is still says =
    subst (λ (w : Given). ProgramAnswers w source streams a f status c g (streams, Finished)) (sym is) (record {
      outcome = fault_outcome fault;
      due = refl;
      shown = fault_shown fault source still;
      unread = λ refused. still;
      ends = says_ends says;
      over = refl;
    })

-- where it failed the count of faults rose
counted_rose : (put : Put) (f g : ℕ) → g ≡ faults_by put f → IsErr put → Rose f g
counted_rose (Ok _) f g counted failed = cc
counted_rose (Err _) f g counted failed = omega (arith, counted)

ends_rose : {text : List ℕ} {text_status : ℕ} {a c : Option (List ℕ)} {f status g : ℕ} (e : EndsWith text text_status a f status c g) → IsErr e.put → Rose f g
ends_rose {f = f} {g = g} e failed = counted_rose e.put f g e.counted failed

pub program_completes : (words : Given) (source : Source) (streams : Streams) (left : Streams × Ending) (a c : Option (List ℕ)) (f status g : ℕ) → ProgramAnswers words source streams a f status c g left
    → IfOk words (λ given. Completes (texts given.items) source f status g)
program_completes (Ok given) source streams left a c f status g p = completes-of (texts given.items) source status p.outcome p.due p.shown p.ends.put p.ends.ends f g (ends_rose p.ends)
program_completes (Err fault) source streams left a c f status g p = tt

pub program_rejects : (words : Given) (source : Source) (streams : Streams) (left : Streams × Ending) (a c : Option (List ℕ)) (f status g : ℕ) → ProgramAnswers words source streams a f status c g left
    → IfOk words (λ given. Rejects (texts given.items) source status)
program_rejects (Ok given) source streams left a c f status g p = rejects-of (texts given.items) source status p.outcome p.due p.shown p.ends.put p.ends.ends
program_rejects (Err fault) source streams left a c f status g p = tt
