use Rattle.std.proofs.Common.{◌∙◌}
use Rattle.op_group.proofs.Searches.{found_where_there}
use Rattle.op_group.proofs.answer.has.Goals as goal

pub returns : goal.returns
returns c = c.is_ok.ensures.value ∙ found_where_there c.args.rows.now c.args.row.now c.binary_search.result c.requires c.binary_search.ensures.bound c.binary_search.ensures.position
