use Rattle.filed_rows.proofs.EndLemmas.{ends_noted}
use Rattle.filed_rows.proofs.filed.Filed.note.Goals as goal

pub limit_ends-requires : goal.limit_ends-requires
limit_ends-requires c =
    ends_noted c.args.change c.args.tag c.args.self.now.by_tag.entries c.note_row.new.by_tag.entries c.args.self.now.ends c.note_end.new.ends c.requires.ends c.in_ok-note_row.ensures.here c.in_ok-note_row.ensures.others c.in_ok-note_row.ensures.apart c.in_ok-note_row.ensures.in_use
    c.in_ok-note_end.ensures.there c.in_ok-note_end.ensures.others
