-- A kernel over a script that lists all that comes.
use Rattle.std.proofs.Common.{◌≡◌, ◌∙◌, ap, refl, false, List, [], map}
use Rattle.nv_calls.specs.Calls.{Entry}
use Rattle.nv_calls.specs.Logs.{connections_of}
use Rattle.nv_script.specs.Scripts.{Setup}
use Rattle.nv_sockets.specs.Serving.{link_written, start_of_script}
use Rattle.nv_arriving.specs.Arriving.{start_of_arrivals}
use Rattle.nv_arriving.specs.Scripted.{start_from, stage_from}
use Rattle.nv_arriving.proofs.Coming.{same_start}

pub same_unlisted : (setup : Setup) → setup.polls ≡ false → setup.arrivals ≡ [] → start_from setup ≡ start_of_script setup
same_unlisted setup plain none = ap (start_of_arrivals setup) none ∙ same_start setup plain

pub connections_from : (setup : Setup) (log : List Entry) → connections_of (start_from setup) log ≡ map link_written (stage_from setup log).here.state.net.links
unfolding start_of_arrivals
connections_from setup log = refl
