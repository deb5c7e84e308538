use Rattle.cedr_script.specs.Cutters.{begun_of}
use Rattle.cedr_script.proofs.CutLemmas.{left_end, left_none}
use Rattle.cedr_script.proofs.cutter.LineCutter.leave_out.Goals as goal

pub returns-in-Some-clause-left : goal.returns-in-Some-clause-left
returns-in-Some-clause-left c = λ more.
    let self = c.args.self.now in
    left_end (begun_of self) c.args.piece.now c.in-Some.end more c.if-not-self.false (self.left c.if-not-self.false) c.in-Some.ensures

pub returns-in-None-clause-left : goal.returns-in-None-clause-left
returns-in-None-clause-left c = λ more. left_none (begun_of c.args.self.now) c.args.piece.now more c.if-not-self.false c.in-None.ensures
