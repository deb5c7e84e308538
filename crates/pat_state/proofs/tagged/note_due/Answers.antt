use Rattle.std.proofs.lemmas.Result.{on_ok_weaker}
use Rattle.cedr_base.specs.declared.row.Row.{Row}
use Rattle.pat_state.proofs.DueLemmas.{added_there, others_stay}
use Rattle.pat_state.proofs.tagged.note_due.Goals as goal

pub returns-in_ok-payload-in-Add-clause-there : goal.returns-in_ok-payload-in-Add-clause-there
returns-in_ok-payload-in-Add-clause-there c = on_ok_weaker c.push.result
    (λ came row has. added_there c.args.tag c.args.change.now c.in-Add.row row c.in_ok-payload-in-Add.payload c.args.due.now c.push.new.self c.in-Add.is c.in_ok-payload-in-Add.ensures came has)
    c.push.ensures.ok

pub returns-in_ok-payload-in-Add-clause-others : goal.returns-in_ok-payload-in-Add-clause-others
returns-in_ok-payload-in-Add-clause-others c =
    let came : Row = record { end = c.args.tag; begin = c.in-Add.row.begin; payload = c.in_ok-payload-in-Add.payload } in
    others_stay c.push.result came c.args.due.now c.push.new.self c.push.ensures.ok c.push.ensures.err
