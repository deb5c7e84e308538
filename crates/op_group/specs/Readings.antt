-- How the states of a grouping are read.
use Rattle.cedr_table.specs.Readings.{Reading}
use Rattle.op_group.specs.declared.group.Group.{Group}
use Rattle.op_group.specs.Groups.{grouping_with, group_of}
use Rattle.op_group.specs.State.{StandsForGroups}
use Rattle.op_group.specs.Held.{group_held}

abbrev pub group_reading : Reading Group
group_reading = record {
  meaning = λ op. group_of (grouping_with op.keys op.count op.totalled);
  stands = λ op. StandsForGroups (grouping_with op.keys op.count op.totalled) op.groups.entries op.points op.bags;
  held = λ op. group_held op.groups.entries op.bags.all.entries;
}
