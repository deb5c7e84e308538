use Rattle.std.proofs.Common.{◌≡◌, ◌<◌, ◌≤◌, List, ℕ, length, false, Result, ap, sym, ◌∙◌}
use Rattle.cedr_text.specs.declared.event_line.EventLine.{EventLine}
use Rattle.cedr_text.specs.declared.event_line.Shape.TheVariants.{AnyText}
use Rattle.cedr_text.specs.declared.fault.LineFault.{LineFault}
use Rattle.cedr_text.specs.declared.lines.TheConstants.{LINE_LIMIT}
use Rattle.cedr_base.specs.Bytes.{comma}
use Rattle.cedr_text.specs.Parts.{parts_of}
use Rattle.cedr_text.specs.Quoting.{has_quote}
use Rattle.cedr_text.specs.Reading.{breaks_form, event_of, event_from, as_some, reading}
use Rattle.cedr_text.proofs.LineLemmas.{some_left}
use Rattle.cedr_text.proofs.QuotingLemmas.{bare_fields}
use Rattle.cedr_text.proofs.ReadingLemmas.{reading_whole}
use Rattle.cedr_text.proofs.read.read_text_line.Goals as goal

-- a plain line says what the fields between its commas say
plain_reading : (line : List ℕ) (read : Result EventLine LineFault) → 0 < length line → (length line ≤ LINE_LIMIT) × (has_quote line ≡ false) × (breaks_form line ≡ false) → read ≡ event_of AnyText (parts_of comma line)
    → reading AnyText line ≡ as_some read
plain_reading line read some plain is =
    reading_whole AnyText line plain.0 some plain.2 ∙ ap (λ fields. as_some (event_from AnyText fields)) (bare_fields line plain.1) ∙ ap as_some (sym is)

pub returns-in-Ok : goal.returns-in-Ok
returns-in-Ok c = plain_reading c.args.line.now _ (some_left (length c.args.line.now) (sym c.if-is_empty.ensures)) (c.is_plain.ensures c.if-is_plain.true) c.in-Ok.ensures

pub returns-in-Err : goal.returns-in-Err
returns-in-Err c = plain_reading c.args.line.now _ (some_left (length c.args.line.now) (sym c.if-is_empty.ensures)) (c.is_plain.ensures c.if-is_plain.true) c.in-Err.ensures
