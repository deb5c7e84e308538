use Rattle.std.proofs.Common.{Some, sym, subst}
use Rattle.std.proofs.lemmas.Result.{on_ok_weaker}
use Rattle.cedr_script.specs.Cutting.{step_answers}
use Rattle.cedr_script.specs.declared.cutter.CutStep.{CutStep}
use Rattle.cedr_text.specs.declared.fault.LineFault.TheVariants.{LineTooLong}
use Rattle.plan_follow.specs.Followers.{FollowerAt}
use Rattle.plan_follow.specs.Sifted.{sifted, line_left_out, with_answer}
use Rattle.plan_follow.proofs.PlayerLemmas.{fault_kept}
use Rattle.plan_follow.proofs.follower.Follower.take_step.Goals as goal

pub returns-in-TooLong : goal.returns-in-TooLong
returns-in-TooLong c = on_ok_weaker c.take_up.result (λ takes s start gone at.
    let nodes = c.args.nodes.now in
    subst (λ (step : CutStep). FollowerAt nodes c.args.name.now c.take_up.new.self (sifted nodes c.args.shapes.now s (step_answers step c.args.line.now)) start gone) (sym c.in-TooLong.is)
    (takes nodes s (line_left_out s LineTooLong) start gone (record { given = at.given; ahead = fault_kept nodes c.args.self.now.player s at.given LineTooLong at.holds; gathered = at.gathered })))
    c.take_up.ensures

pub returns-in_ok-fault-in-Line : goal.returns-in_ok-fault-in-Line
returns-in_ok-fault-in-Line c = on_ok_weaker c.take_up-in-Line.result (λ takes s start gone at.
    let nodes = c.args.nodes.now in
    let g = at.gathered in
    subst (λ (step : CutStep). FollowerAt nodes c.args.name.now c.take_up-in-Line.new.self (sifted nodes c.args.shapes.now s (step_answers step c.args.line.now)) start gone) (sym c.in-Line.is)
    (takes nodes s (with_answer nodes c.args.shapes.now s (Some c.args.line.now)) start gone (record {
      given = at.given;
      ahead = c.in_ok-fault-in-Line.ensures s at.given at.holds;
      gathered = record { grew = g.grew; more = g.more; all = g.all; taken = g.taken; number = g.number; faulty = g.faulty; text = g.text; said = g.said };
    })))
    c.take_up-in-Line.ensures
