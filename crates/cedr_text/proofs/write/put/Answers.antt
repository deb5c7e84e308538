use Rattle.std.proofs.Common.{◌++◌, ap, ◌∙◌}
use Rattle.csv.specs.Writing.{next_sep, fields_written}
use Rattle.cedr_text.specs.RowWriters.{row_setup, text_of}
use Rattle.cedr_text.proofs.Quotes.{field_is_text}
use Rattle.cedr_text.proofs.write.put.Goals as goal

pub returns-clause-text : goal.returns-clause-text
returns-clause-text c =
    let writer = c.args.writer.now in
    let wrote = rw c.requires at c.in-Ok.ensures.text in
    wrote (λ e. cc e) ∙ ap (λ text. text_of writer ++ (next_sep row_setup (fields_written writer) ++ text)) (field_is_text c.args.text.now)
