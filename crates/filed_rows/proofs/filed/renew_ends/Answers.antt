use Rattle.filed_rows.proofs.RenewLemmas.{tags_to_come, tag_noted, tags_noted}
use Rattle.filed_rows.proofs.filed.renew_ends.Goals as goal

pub loop-tag-init : goal.loop-tag-init
loop-tag-init c = tags_to_come c.args.by_tag.now.entries c.into_iter-tag-iterator.result c.clear.new.self c.into_iter-tag-iterator.ensures.into_iter_gives.0

pub loop-tag-preserved : goal.loop-tag-preserved
loop-tag-preserved c =
    tag_noted c.args.by_tag.now.entries c.loop-tag.tag-iterator c.next.new.self c.in-Some.tag.now c.in-Some.rows.now c.loop-tag.ends c.push_ends.new.ends c.in-Some.ensures.steps c.in_ok-push_ends.ensures.there c.in_ok-push_ends.ensures.others
    c.loop-tag.invariant

pub returns : goal.returns
returns c = tags_noted c.args.by_tag.now.entries c.loop-tag.tag-iterator c.loop-tag.ends c.in-None.ensures.steps.0 c.loop-tag.invariant c.requires
