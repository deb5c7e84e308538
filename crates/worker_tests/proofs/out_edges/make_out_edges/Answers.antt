use Rattle.std.proofs.Common.{◌≡◌, [], List, subst, refl, rules}
use Rattle.cedr_base.specs.declared.change.Message.{Message}
use Rattle.worker_outlets.specs.Outlets.{AllStaged}
use Rattle.worker_outlets.proofs.FanLemmas.{totals_stay}
use Rattle.worker_tests.proofs.TwoMarks.{two_marks, two_marks_legal}
use Rattle.worker_tests.proofs.out_edges.make_out_edges.Goals as goal

pub commit-requires : goal.commit-requires
commit-requires c =
    let nothing = c.in_ok-outlets.ensures.nothing in
    let piece : c.in_ok-piece.piece.items ≡ two_marks = search rules in
    let staged = subst (λ (l : List Message). AllStaged l c.stage_all.new.self) piece (c.in_ok-stage_all.ensures.ok nothing.1) in
    ([], two_marks, totals_stay [] _ _ c.in_ok-stage_all.ensures.totals nothing.0, staged, two_marks_legal)

pub close-requires : goal.close-requires
close-requires c =
    let nothing = c.in_ok-outlets.ensures.nothing in
    let piece : c.in_ok-piece.piece.items ≡ two_marks = search rules in
    let staged = subst (λ (l : List Message). AllStaged l c.stage_all.new.self) piece (c.in_ok-stage_all.ensures.ok nothing.1) in
    (two_marks, (c.commit.ensures.given [] two_marks (totals_stay [] _ _ c.in_ok-stage_all.ensures.totals nothing.0) staged).0, refl)
