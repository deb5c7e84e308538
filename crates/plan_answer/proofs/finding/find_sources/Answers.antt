use Rattle.plan_answer.proofs.FindLemmas.{found_count, counted_back}
use Rattle.plan_answer.proofs.finding.find_sources.Goals as goal

pub returns-in-Ok-clause-count : goal.returns-in-Ok-clause-count
returns-in-Ok-clause-count g c = found_count g.F.Source.Source.rest (g.F.Files.content c.args.files.now) c.args.nodes.now c.find_each.new.sources.items c.in-Ok.ensures.found

pub returns-in-Err-clause-counted : goal.returns-in-Err-clause-counted
returns-in-Err-clause-counted g c =
    counted_back (Unit {0}) (Unit {0}) g.F.Source.Source.faults c.in-Err.fault (g.F.Files.faults c.args.files.now) (g.F.Files.faults c.find_each.new.files) (g.F.Files.faults c.give_back_each.new.files) c.find_each.new.sources.items
    c.requires c.in-Err.ensures.fresh c.in-Err.ensures.counted c.give_back_each.ensures.counted
