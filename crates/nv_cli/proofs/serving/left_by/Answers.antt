use Rattle.std.proofs.Common.{◌≡◌, ◌∙◌, ap}
use Rattle.nv_live.specs.Run.{output_of, notes_of, stop_of_run}
use Rattle.nv_live.specs.Writer.{sink_in, put_of}
use Rattle.nv_driver.specs.Live.{ending_of}
use Rattle.nv_cli.proofs.Served.{stops_alike}
use Rattle.nv_cli.proofs.serving.left_by.Goals as goal

pub returns : goal.returns
returns g c =
    let shown = c.show_held.ensures in
    let stopped : c.stopped.result ≡ stop_of_run c.args.live = c.stopped.ensures ∙ stops_alike c.show_held.new.self c.args.live shown.stopped shown.output in
    let said : c.said.result ≡ put_of (output_of c.args.live) = c.said.ensures ∙ ap put_of shown.output in
    record {
      input = c.finish.ensures.input ∙ shown.input;
      output = c.finish.ensures.output ∙ ap sink_in shown.output;
      notes = notes_of c.show_held.new.self;
      shows = shown.shown;
      transcript = c.finish.ensures.transcript;
      ends = c.how_ended-ending.ensures ∙ ap (λ s. ending_of s c.said.result c.told.result) stopped ∙ ap (λ p. ending_of (stop_of_run c.args.live) p c.told.result) said
          ∙ ap (λ p. ending_of (stop_of_run c.args.live) (put_of (output_of c.args.live)) p) c.told.ensures;
    }
