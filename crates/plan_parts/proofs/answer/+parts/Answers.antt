use Rattle.std.proofs.Common.{arith}
use Rattle.std.proofs.lemmas.Result.{IfOk-at_ok}
use Rattle.cedr_plan.specs.Places.{output_place}
use Rattle.plan_parts.specs.Answers.{AnswersParts}
use Rattle.plan_parts.proofs.AnswerLemmas.{both_shares}
use Rattle.plan_parts.proofs.answer.+parts.Goals as goal

pub returns : goal.returns
returns g t c = λ histories whole are remembers.
    let nodes = c.args.plan.now.nodes.items in
    let lists = c.args.lists.now in
    let columns = c.args.columns.now in
    let one = IfOk-at_ok (λ v. AnswersParts nodes lists columns _ v.items) c.in_ok-rows.was c.join-one.ensures.first histories whole are remembers in
    let other = IfOk-at_ok (λ v. AnswersParts nodes lists columns _ v.items) c.in_ok-others.was c.join-one.ensures.second histories whole are remembers in
    both_shares columns histories nodes (output_place nodes) c.args.first.count c.args.first.part _ _ c.args.number _ _ _ _ (omega arith) one other c.in_ok-append.ensures.items c.in_ok-sort_rows.ensures.ok
