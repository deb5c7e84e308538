use Rattle.std.proofs.lemmas.Result.{on_ok_weaker}
use Rattle.filed_rows.specs.Filed.{under}
use Rattle.filed_rows.proofs.EndLemmas.{added_use}
use Rattle.filed_rows.proofs.filed.note_row.Goals as goal

pub returns-in-Add-clause-in_use : goal.returns-in-Add-clause-in_use
returns-in-Add-clause-in_use c = on_ok_weaker c.add_under.result
    (λ came. added_use c.add_under.new.by_tag.entries c.args.tag c.in-Add.row (under c.args.by_tag.now.entries c.args.tag) came)
    c.add_under.ensures.here
