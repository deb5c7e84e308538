-- How the states of these operators are read.
use Rattle.std.specs.Prelude.{ℕ}
use Rattle.change_laws.specs.Times.{IsWhile}
use Rattle.cedr_table.specs.Readings.{Reading, row_wise_reading}
use Rattle.op_life.specs.declared.window.Window.{Window}
use Rattle.op_life.specs.declared.shift.Shift.{Shift}
use Rattle.op_life.specs.declared.hop.Hop.{Hop}
use Rattle.op_life.specs.declared.starts.Starts.{Starts}
use Rattle.op_life.specs.declared.ends.Ends.{Ends}
use Rattle.op_life.specs.Lifetimes.{with_life, windowed, shifted, shifted_mark, hopped, hopped_mark, started, ended}

abbrev pub window_reading : Reading Window
window_reading = row_wise_reading (λ op. IsWhile op.width) (λ op. with_life (windowed op.width)) (λ op mark. mark)

abbrev pub shift_reading : Reading Shift
shift_reading = row_wise_reading (λ op. IsWhile op.by) (λ op. with_life (shifted op.by)) (λ op. shifted_mark op.by)

abbrev pub hop_reading : Reading Hop
hop_reading = row_wise_reading (λ op. IsWhile op.every × IsWhile op.width) (λ op. with_life (hopped op.every op.width)) (λ op. hopped_mark op.every)

abbrev pub starts_reading : Reading Starts
starts_reading = row_wise_reading (λ op. Unit {0}) (λ op. with_life started) (λ op mark. mark)

abbrev pub ends_reading : Reading Ends
ends_reading = row_wise_reading (λ op. Unit {0}) (λ op. with_life ended) (λ op mark. mark)
