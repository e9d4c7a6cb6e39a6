-- A point of a trace, as the words say it.
use Rattle.nv_driver.specs.Words.{Point, AtStamp, AtCall, AtCount}
use Rattle.nv_inspect.specs.declared.points.TracePoint.{TracePoint}
use Rattle.nv_inspect.specs.declared.points.TracePoint.TheVariants.{Stamp, Call, Count}

abbrev pub trace_point : Point → TracePoint
trace_point (AtStamp stamp) = Stamp stamp
trace_point (AtCall number) = Call number
trace_point (AtCount count) = Count count
