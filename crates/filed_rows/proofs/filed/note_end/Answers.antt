use Rattle.std.proofs.lemmas.Result.{on_ok_weaker}
use Rattle.filed_rows.proofs.EndLemmas.{put_added, put_cut}
use Rattle.filed_rows.proofs.filed.note_end.Goals as goal

pub returns-in-Add-clause-there : goal.returns-in-Add-clause-there
returns-in-Add-clause-there c = on_ok_weaker c.push_end.result (λ there r put before. put_added c.args.change.now c.in-Add.row r c.args.tag c.push_end.new.ends c.in-Add.is there put before) c.push_end.ensures.there

pub returns-then-row-end-clause-there : goal.returns-then-row-end-clause-there
returns-then-row-end-clause-there c = on_ok_weaker c.push_end-then-row-end.result
    (λ there r put before. put_cut c.args.change.now c.in-Cut.row r c.in-Cut.end c.args.tag c.push_end-then-row-end.new.ends c.in-Cut.is c.if-row-end.true there put before)
    c.push_end-then-row-end.ensures.there
