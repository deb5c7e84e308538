use Rattle.op_group.specs.Groups.{grouping_by}
use Rattle.op_group.proofs.Standing.{new_stands}
use Rattle.op_group.proofs.group.Group.new.Goals as goal

pub returns-clause-stands : goal.returns-clause-stands
returns-clause-stands c = new_stands (grouping_by c.args.keys c.args.count c.args.sums c.args.least c.args.greatest) c.new.result.entries (record { all = c.new-2.result; due = c.new-3.result }) c.new-4.result c.new.ensures.empty c.new-2.ensures.empty c.new-3.ensures.empty c.new-4.ensures.all c.new-4.ensures.passed
