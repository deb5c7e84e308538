use Rattle.std.proofs.Common.{refl}
use Rattle.plan_serial.proofs.SourceLemmas.{known_answer}
use Rattle.plan_serial.proofs.sources.read_source.Goals as goal

pub returns-clause-answer : goal.returns-clause-answer
returns-clause-answer g c = known_answer c.read_by_line.result c.in_ok-shape.shape c.args.types.now _ _ refl c.in_ok-shape.ensures c.read_by_line.ensures.answer
