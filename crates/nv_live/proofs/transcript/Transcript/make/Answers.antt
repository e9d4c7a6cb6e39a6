use Rattle.std.proofs.Common.{[], subst}
use Rattle.nv_outside.specs.Sink.{Puts}
use Rattle.nv_outside.proofs.Writing.{puts-nothing}
use Rattle.nv_live.specs.Writer.{Written}
use Rattle.nv_live.proofs.transcript.Transcript.make.Goals as goal

pub returns : goal.returns
returns g c =
    let told = g.T.Sink.told in
    let faults = g.T.Sink.faults in
    let made = c.make-writer.result in
    let begun : Written told faults made made [] = puts-nothing (told made.sink) (faults made.sink) c.make-writer.ensures.put in
    subst (λ s. Puts (told s) (faults s) c.args.head.now c.write.new.self.put (told c.write.new.self.sink) (faults c.write.new.self.sink)) c.make-writer.ensures.sink
    (c.write.ensures.text made [] begun)
