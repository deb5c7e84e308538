use Rattle.std.proofs.Common.{◌++◌, ◌∷◌, []}
use Rattle.cedr_base.specs.declared.change.Change.TheVariants.{Add}
use Rattle.cedr_expr.specs.Tags.{right_tag}
use Rattle.filed_rows.proofs.NoteLemmas.{files_after, none_filed, pushed_moves}
use Rattle.filed_rows.proofs.refile.refiled.Goals as goal

pub loop-row-init : goal.loop-row-init
loop-row-init c = record {
  files = none_filed (right_tag c.args.width c.args.tests.now) c.new-filed.result.by_tag.entries c.new-filed.ensures.none;
  ends = c.new-filed.ensures.ends;
  ordered = c.new-filed.ensures.ordered;
}

pub loop-row-preserved : goal.loop-row-preserved
loop-row-preserved c = record {
  files = files_after (right_tag c.args.width c.args.tests.now) (Add c.in-Some.row) c.tag-tag.result c.loop-row.filed.by_tag.entries c.note.new.self.by_tag.entries c.loop-row.yielded (c.loop-row.yielded ++ c.in-Some.row ∷ [])
      c.tag-tag.ensures c.loop-row.invariant.files c.in_ok-note.ensures.here c.in_ok-note.ensures.others (pushed_moves c.loop-row.yielded c.in-Some.row);
  ends = c.in_ok-note.ensures.ends;
  ordered = c.in_ok-note.ensures.ordered;
}
