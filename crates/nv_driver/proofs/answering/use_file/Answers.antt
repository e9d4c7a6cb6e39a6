use Rattle.std.proofs.Common.{ap, sym, refl}
use Rattle.nv_outside.proofs.Writing.{puts-is}
use Rattle.nv_driver.specs.Found.{Unread}
use Rattle.nv_driver.specs.Outcome.{Source, Made, NoMemory, NotRead, source_of}
use Rattle.nv_driver.specs.Due.{made_outcome}
use Rattle.nv_driver.specs.Words.{Job, Uses}
use Rattle.nv_driver.proofs.Commands.{is_due, memory_due, unasked, job_refused}
use Rattle.nv_driver.proofs.Making.{unreadable_by, memory_kept, refused_by}
use Rattle.nv_driver.proofs.answering.use_file.Goals as goal

pub returns-in-Ok : goal.returns-in-Ok
returns-in-Ok g c = λ words asked.
    let holds = g.F.Files.holds c.args.files.now in
    let job : Job = record { tool = c.args.tool; file = c.args.file.now } in
    let made = c.in-Ok.ensures.text in
    record {
      outcome = Made c.in-Ok.text.items;
      due = is_due words holds (Uses job) (Made c.in-Ok.text.items) asked (record { found = made.found; agrees = made.agrees; comes = sym (ap (made_outcome job) made.is) });
      shown = c.in-Ok.ensures.faults;
      unread = λ none. absurd (unasked words (Uses job) asked none);
      says = record {
        put = c.put_line.ensures.put;
        ends = c.put_line.ensures.ends;
        written = puts-is c.deref.ensures.value c.put_line.ensures.written;
      };
    }

pub returns-in-Err-Unreadable : goal.returns-in-Err-Unreadable
returns-in-Err-Unreadable g c = λ words asked.
    let holds = g.F.Files.holds c.args.files.now in
    let job : Job = record { tool = c.args.tool; file = c.args.file.now } in
    let why = unreadable_by _ _ _ _ _ _ _ c.in-Err-Unreadable.ensures.unmade c.in-Err-Unreadable.field-0-is in
    record {
      outcome = NotRead c.args.file.now;
      due = is_due words holds (Uses job) (NotRead c.args.file.now) asked (record { found = Unread; agrees = why.1; comes = refl });
      shown = why.0;
      unread = λ none. absurd (unasked words (Uses job) asked none);
      says = c.put_unread.ensures;
    }

pub returns-in-Err-Refused : goal.returns-in-Err-Refused
returns-in-Err-Refused g c = λ words asked.
    let source : Source = source_of g.F.Files.holds g.F.Files.faults g.F.Files.taken c.args.files.now c.make.new.files in
    let job : Job = record { tool = c.args.tool; file = c.args.file.now } in
    let why = refused_by _ _ _ _ _ _ _ c.in-Err-Refused.ensures.unmade c.in-Err-Refused.cause c.in-Err-Refused.field-0-is in
    job_refused words source job c.in-Err-Refused.cause asked (record { found = why.0.found; agrees = why.0.agrees; comes = sym (ap (made_outcome job) why.0.is) }) why.1 why.2
    _ _ _ _ _ c.put_input.ensures

pub returns-in-Err-Memory : goal.returns-in-Err-Memory
returns-in-Err-Memory g c = λ words asked. record {
  outcome = NoMemory;
  due = memory_due words (g.F.Files.holds c.args.files.now) (Uses _) asked;
  shown = memory_kept _ _ _ _ _ _ _ c.in-Err-Memory.ensures.unmade c.in-Err-Memory.field-0-is;
  unread = λ none. absurd (unasked words (Uses _) asked none);
  says = c.put_line-in-Err-Memory.ensures;
}
