-- How the states of a node's operator are read.
use Rattle.std.specs.Prelude.{[]}
use Rattle.cedr_table.specs.declared.either.Either.{Either}
use Rattle.cedr_table.specs.Readings.{Reading, either_reading}
use Rattle.op_row.specs.declared.select.Select.{Select}
use Rattle.op_row.specs.declared.project.Project.{Project}
use Rattle.op_row.specs.declared.union.Union.{Union}
use Rattle.op_life.specs.declared.window.Window.{Window}
use Rattle.op_life.specs.declared.shift.Shift.{Shift}
use Rattle.op_life.specs.declared.hop.Hop.{Hop}
use Rattle.op_life.specs.declared.starts.Starts.{Starts}
use Rattle.op_life.specs.declared.ends.Ends.{Ends}
use Rattle.op_join.specs.declared.join.Join.{Join}
use Rattle.op_except.specs.declared.except.Except.{Except}
use Rattle.op_group.specs.declared.group.Group.{Group}
use Rattle.pat_seq.specs.declared.sequence.Sequence.{Sequence}
use Rattle.pat_unless.specs.declared.unless.Unless.{Unless}
use Rattle.pat_atleast.specs.declared.at_least.AtLeast.{AtLeast}
use Rattle.op_row.specs.Readings.{select_reading, project_reading, union_reading}
use Rattle.op_life.specs.Readings.{window_reading, shift_reading, hop_reading, starts_reading, ends_reading}
use Rattle.op_join.specs.Readings.{join_reading}
use Rattle.op_except.specs.Readings.{except_reading}
use Rattle.op_group.specs.Readings.{group_reading}
use Rattle.pat_seq.specs.Readings.{sequence_reading}
use Rattle.pat_unless.specs.Readings.{unless_reading}
use Rattle.pat_atleast.specs.Readings.{at_least_reading}
use Rattle.op_node.specs.declared.output.Output.{Output}
use Rattle.op_node.specs.Outputs.{handed_on, StandsForOne}

-- an output hands on what comes, and holds nothing
abbrev pub output_reading : Reading Output
output_reading = record { meaning = λ op. handed_on; stands = λ op. StandsForOne; held = λ op. [] }

-- the operator of a node, of any kind, as the program has it
abbrev pub NodeOperator : Type 0
NodeOperator = Either
    (Either (Either Select Project) (Either (Either Window Shift) (Either Hop (Either Starts Ends))))
    (Either (Either (Either Union Join) (Either Sequence Unless)) (Either (Either AtLeast Except) (Either Group Output)))

-- the operator of any kind is read as that of its own
abbrev pub node_reading : Reading NodeOperator
node_reading =
    either_reading
    (either_reading (either_reading select_reading project_reading) (either_reading (either_reading window_reading shift_reading) (either_reading hop_reading (either_reading starts_reading ends_reading))))
    (either_reading (either_reading (either_reading union_reading join_reading) (either_reading sequence_reading unless_reading)) (either_reading (either_reading at_least_reading except_reading) (either_reading group_reading output_reading)))
