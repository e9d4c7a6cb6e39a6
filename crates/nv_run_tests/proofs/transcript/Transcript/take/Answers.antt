use Rattle.std.proofs.Common.{append-nil}
use Rattle.nv_script.specs.Doings.{Takes}
use Rattle.nv_script.specs.ArrivalViews.{view as arrival_of}
use Rattle.nv_run_tests.specs.Transcript.{taken_text}
use Rattle.nv_run_tests.proofs.Texts.{text_more}
use Rattle.nv_run_tests.proofs.transcript.Transcript.take.Goals as goal

pub returns : goal.returns
returns c = λ first done h o.
    text_more first.text.items c.args.self.now.text.items c.put_taken.new.self.text.items (taken_text (arrival_of c.args.arrival.now)) done (Takes (arrival_of c.args.arrival.now))
    (append-nil (taken_text (arrival_of c.args.arrival.now))) (c.put_taken.ensures.text o) (h (c.put_taken.ensures.kept o))
