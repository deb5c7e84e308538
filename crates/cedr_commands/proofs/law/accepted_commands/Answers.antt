use Rattle.std.proofs.Common.{ap, sym, ◌∙◌, length, arith}
use Rattle.cedr_commands.proofs.AcceptedLemmas.{none_faulty}
use Rattle.plan_live.proofs.ShapeLemmas.{played_alike}
use Rattle.plan_live.specs.Scripts.{Played, no_lines}
use Rattle.cedr_commands.proofs.law.accepted_commands.Goals as goal

pub returns-clause-sources : goal.returns-clause-sources
returns-clause-sources c = λ told nodes lists histories said accepted refused.
    let none = none_faulty told nodes lists refused.left histories refused.faults 0 accepted refused.given in
    absurd (omega (arith, refused.some, ap length none))

pub returns-clause-script : goal.returns-clause-script
returns-clause-script c = λ nodes name script text other said played refused.
    let shapes = played.shapes in
    let theirs = refused.played in
    let same = ap (λ (p : Played). p.fault) (played_alike nodes shapes theirs.shapes played.types theirs.types (no_lines nodes) script) in
    absurd (let x = played.fault_is ∙ (same ∙ sym theirs.fault_is) in cc)
