use Rattle.std.proofs.Common.{arith, sym, ap, subst, ◌∙◌, ◌≡◌, ◌<◌, ◌+◌, ◌++◌, ◌∷◌, [], ℕ, List, length, length-append}
use Rattle.std.specs.Prelude.{IsSome}
use Rattle.nv_words.specs.Begins.{BeginsEvent}
use Rattle.nv_words.specs.Spelling.{IsWhole}
use Rattle.nv_room.specs.Steps.{SpellLawful}
use Rattle.nv_room.specs.Kinds.{reads}
use Rattle.nv_room.specs.Seats.{stations_of, view}
use Rattle.nv_room.proofs.Stepped.{one_step, more_steps}
use Rattle.nv_lamport.proofs.Reading.{begins_short}
use Rattle.nv_lamport.proofs.Keeping.{keeps_reading}
use Rattle.nv_lamport.proofs.reads.read_event.Goals as goal

pub loop-i-preserved : goal.loop-i-preserved
loop-i-preserved g c = let i = c.loop-i.invariant in let e = c.read_word-word.ensures in let v = e.view in let now = c.in-More.ensures.words in
    let read : (view c.read_word-word.new.reader).read ≡ c.put.new.self = ap (λ w. w.read) v ∙ ap (λ (z : List ℕ). z ++ c.read_word-word.result ∷ []) i.read ∙ sym now in
    let at : c.loop-i.i + 1 ≡ length c.put.new.self = (let a = ap length now in let b = length-append c.loop-i.buf (c.read_word-word.result ∷ []) in let d = i.at in omega arith) in
    record {
      same = (e.same.0 ∙ i.same.0, e.same.1 ∙ i.same.1, e.same.2 ∙ i.same.2, e.same.3 ∙ i.same.3);
      of = e.of;
      kept = keeps_reading _ _ c.read_word-word.result _ v i.kept;
      steps = (let n : ℕ = stations_of c.args.room.now in more_steps n (view c.args.reader.now) (view c.loop-i.reader) (view c.read_word-word.new.reader) i.steps (one_step n (view c.loop-i.reader) (view c.read_word-word.new.reader) (reads c.read_word-word.result) v));
      ahead = subst (λ w. length w.seen < w.head_last) (sym v) i.ahead;
      noted = subst (λ w. IsSome w.noted) (sym v) i.noted;
      read = read;
      at = at;
      part = c.in-More.ensures.whole;
      short = (let s = begins_short c.put.new.self (subst BeginsEvent read e.begins) c.in-More.ensures.whole in omega arith);
    }

pub returns-in-Whole-clause-read : goal.returns-in-Whole-clause-read
returns-in-Whole-clause-read g c = let i = c.loop-i.invariant in let e = c.read_word-word.ensures in let v = e.view in let now = c.in-Whole.ensures.words in
    let read : (view c.read_word-word.new.reader).read ≡ c.put.new.self = ap (λ w. w.read) v ∙ ap (λ (z : List ℕ). z ++ c.read_word-word.result ∷ []) i.read ∙ sym now in
    let same = ap (λ w. w.seen) v in
    record {
      kept = keeps_reading _ _ c.read_word-word.result _ v i.kept;
      published = subst (λ w. length w.seen < w.head_last) (sym v) i.ahead;
      read = read;
      whole = c.in-Whole.ensures.whole;
      lawful = subst (λ (z : List (List ℕ)). SpellLawful (z ++ c.put.new.self ∷ [])) (sym same) (subst (λ (z : List ℕ). SpellLawful ((view c.loop-i.reader).seen ++ z ∷ [])) read (e.lawful (subst IsWhole (sym read) c.in-Whole.ensures.whole)));
    }

pub returns-in-Whole-clause-steps : goal.returns-in-Whole-clause-steps
returns-in-Whole-clause-steps g c = let n : ℕ = stations_of c.args.room.now in
    more_steps n (view c.args.reader.now) (view c.loop-i.reader) (view c.read_word-word.new.reader) c.loop-i.invariant.steps
    (one_step n (view c.loop-i.reader) (view c.read_word-word.new.reader) (reads c.read_word-word.result) c.read_word-word.ensures.view)
