use Rattle.cedr_align.specs.Aligner.{must_wait}
use Rattle.cedr_align.proofs.SettledLemmas.{all_settled}
use Rattle.cedr_align.proofs.aligner.Aligner.settle.Goals as goal

pub returns-clause-settled : goal.returns-clause-settled
returns-clause-settled c =
    let me = c.args.self.now in
    let forgot = c.forget.ensures in
    let passed = c.in_ok-pass_rows.ensures in
    all_settled (must_wait me) me.held c.release.new.released.items _ c.forget.new.self c.pass_rows.new.self c.args.before c.guarantee.result c.args.out.now.items c.pass_rows.new.out.items c.push_mark.new.out.items
    c.in_ok-release.ensures.released c.in_ok-release.ensures.kept forgot.passed forgot.held forgot.same passed.passed passed.held passed.same passed.out c.guarantee.ensures c.in_ok-push_mark.ensures.out
