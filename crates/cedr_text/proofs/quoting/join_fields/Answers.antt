use Rattle.cedr_text.proofs.JoinLemmas.{parts_are}
use Rattle.cedr_text.proofs.quoting.join_fields.Goals as goal

pub returns : goal.returns
returns c = parts_are c.args.line.now c.in_ok-join.field-0.items _ c.requires.no_return c.in_ok-row.ensures c.in_ok-join.ensures
