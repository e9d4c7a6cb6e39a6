use Rattle.std.proofs.Common.{append-nil}
use Rattle.nv_script.specs.Doings.{Says}
use Rattle.nv_script.specs.ArrivalViews.{said_view}
use Rattle.nv_run_tests.specs.Transcript.{said_text}
use Rattle.nv_run_tests.proofs.Texts.{text_more}
use Rattle.nv_run_tests.proofs.transcript.Transcript.say.Goals as goal

pub returns : goal.returns
returns c = λ first done h o.
    text_more first.text.items c.args.self.now.text.items c.put_said.new.self.text.items (said_text (said_view c.args.said.now)) done (Says (said_view c.args.said.now))
    (append-nil (said_text (said_view c.args.said.now))) (c.put_said.ensures.text o) (h (c.put_said.ensures.kept o))
