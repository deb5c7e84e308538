use Rattle.cedr_script.specs.Cutters.{begun_of}
use Rattle.cedr_script.proofs.CutLemmas.{cuts_ended, cuts_on}
use Rattle.cedr_script.proofs.cutter.LineCutter.take_line.Goals as goal

pub returns-in_ok-step-in-Some : goal.returns-in_ok-step-in-Some
returns-in_ok-step-in-Some c =
    let self = c.args.self.now in
    let ends = c.in_ok-step-in-Some.ensures in
    cuts_ended c.in_ok-step-in-Some.step (begun_of self) (begun_of c.end_line.new.self) c.args.piece.now c.in-Some.end c.end_line.new.line.items c.requires self.none c.in-Some.ensures ends.answered ends.new

pub returns-in_ok-step-in-None : goal.returns-in_ok-step-in-None
returns-in_ok-step-in-None c =
    let self = c.args.self.now in
    cuts_on c.in_ok-step-in-None.step (begun_of self) (begun_of c.go_on.new.self) c.args.piece.now c.args.line.now.items c.requires self.none c.in-None.ensures c.in_ok-step-in-None.ensures
