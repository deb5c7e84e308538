-- How the states of these operators are read.
use Rattle.std.specs.Prelude.{[]}
use Rattle.cedr_table.specs.Readings.{Reading, row_wise_reading}
use Rattle.op_row.specs.declared.select.Select.{Select}
use Rattle.op_row.specs.declared.project.Project.{Project}
use Rattle.op_row.specs.declared.union.Union.{Union}
use Rattle.op_row.specs.Rows.{selected, projected}
use Rattle.op_row.specs.Unions.{union_of, StandsOnPorts}

abbrev pub select_reading : Reading Select
select_reading = row_wise_reading (λ op. Unit {0}) (λ op. selected op.tests) (λ op mark. mark)

abbrev pub project_reading : Reading Project
project_reading = row_wise_reading (λ op. Unit {0}) (λ op. projected op.keep) (λ op mark. mark)

abbrev pub union_reading : Reading Union
union_reading = record { meaning = λ op. union_of op.ports; stands = λ op. StandsOnPorts op.ports; held = λ op. [] }
