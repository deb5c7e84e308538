use Rattle.std.proofs.Common.{◌-◌}
use Rattle.plan_parts.specs.Feeds.{IsFedFirst}
use Rattle.plan_parts.specs.Parts.{keys_of}
use Rattle.plan_parts.proofs.feeding.feed_whole.Given as goal

abbrev pub invariant-loop-from : goal.invariant-loop-from
invariant-loop-from l = IsFedFirst l.nodes l.net (keys_of l.share) l.columns l.lists l.from

abbrev pub decreases-loop-from : goal.decreases-loop-from
decreases-loop-from l = l.longest - l.from
