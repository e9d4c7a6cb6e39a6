use Rattle.std.proofs.Common.{◌≡◌, false, map}
use Rattle.nv_script.specs.Doings.{Takes}
use Rattle.nv_script.specs.ArrivalViews.{view as arrival_of}
use Rattle.nv_calls.specs.Calls.{request}
use Rattle.nv_arriving.specs.Arrivals.{ends, any_ends}
use Rattle.nv_arriving.specs.Views.{standing_of}
use Rattle.nv_arriving.specs.Kernel.{Grew, after}
use Rattle.nv_arriving.specs.Telling.{Adds}
use Rattle.nv_arriving.proofs.arrivals.hear.Given as goal

abbrev pub invariant-loop : goal.invariant-loop
invariant-loop g l = record {
  grew : Grew (map arrival_of l.fn.came.items) (map arrival_of l.came.items);
  did : Adds g.O.Outside.did l.fn.outside l.outside (map Takes (after (map arrival_of l.fn.came.items) (map arrival_of l.came.items)));
  gone : l.came.gone ≡ l.fn.came.gone;
  none : any_ends (ends (standing_of l.side) (request l.call) l.want) (after (map arrival_of l.fn.came.items) (map arrival_of l.came.items)) ≡ false;
}
