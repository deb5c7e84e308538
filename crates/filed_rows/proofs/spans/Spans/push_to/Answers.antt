use Rattle.std.proofs.lemmas.Result.{on_ok_weaker}
use Rattle.filed_rows.proofs.SpanLemmas.{both_pushed}
use Rattle.filed_rows.proofs.spans.Spans.push_to.Goals as goal

pub returns : goal.returns
returns c = on_ok_weaker c.push_rows-2.result
    (λ more. both_pushed c.args.rows.now.items c.push_rows.new.rows.items c.push_rows-2.new.rows.items c.self.inside.ending c.self.inside.unended c.args.self.now c.in_ok-push_rows.ensures more c.self.view_is) c.push_rows-2.ensures
