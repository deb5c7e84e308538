use Rattle.std.proofs.Common.{Option, Result, sym, subst}
use Rattle.std.proofs.lemmas.Result.{err_from_is_err_and}
use Rattle.cedr_guard.specs.declared.refusal.Refusal.{Refusal}
use Rattle.cedr_io.specs.declared.fault.OutsideFault.{OutsideFault}
use Rattle.plan_live.specs.Plays.{PlaysAfter}
use Rattle.plan_live.specs.Scripts.{no_lines}
use Rattle.plan_live.proofs.ScriptLemmas.{plays_none}
use Rattle.plan_live.proofs.script.play.Goals as goal

pub returns-in_err-player-clause-played : goal.returns-in_err-player-clause-played
returns-in_err-player-clause-played g c =
    let nodes = c.args.plan.now.nodes.items in
    let before = no_lines nodes in
    let old = g.K.Sink.written c.args.out.now in
    let q = err_from_is_err_and c.from_residual.result c.from_residual.ensures.1 in
    subst (λ (r : Result (Option Refusal) OutsideFault). PlaysAfter r nodes before c.args.script.now old old) (sym q.1) (plays_none nodes before c.args.script.now old q.0)
