-- How the sources of a plan stopped.
use Rattle.std.specs.Prelude.{Bool, true, false}
use Rattle.cedr_worker.specs.declared.source.SourceEnd.{SourceEnd}
use Rattle.cedr_worker.specs.declared.stop.SourceStop.{SourceStop}
use Rattle.cedr_worker.specs.declared.stop.SourceStop.TheVariants as stop

-- how a source stopped
abbrev pub stop_in : {S : Type 0} → SourceEnd S → SourceStop
stop_in end = end.stop

-- a read was refused
abbrev pub is_unread : SourceStop → Bool
is_unread stop.Closed = false
is_unread (stop.Refused line fault) = false
is_unread stop.ReadFault = true
is_unread stop.OutOfMemory = false

-- memory was lacking
abbrev pub is_short : SourceStop → Bool
is_short stop.Closed = false
is_short (stop.Refused line fault) = false
is_short stop.ReadFault = false
is_short stop.OutOfMemory = true
