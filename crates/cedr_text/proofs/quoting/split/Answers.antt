use Rattle.std.proofs.Common.{◌∙◌, inr}
use Rattle.cedr_text.proofs.SplitLemmas.{CanSplit, read_fields}
use Rattle.cedr_text.proofs.quoting.split.Goals as goal

pub returns-in-Ok : goal.returns-in-Ok
returns-in-Ok c =
    let made = c.from_reader-reader.ensures in
    let named = c.has_headers.ensures in
    let trim = rw named at made.trim ∙ c.new.ensures.trim in
    let config = rw named at made.config ∙ c.new.ensures.config in
    let read = c.in-Ok.ensures.reads trim (inr (inr (rw named at made.has_headers, made.headers))) in
    let line : CanSplit c.args.line.now = record { some = c.requires.some; no_return = c.requires.no_return; no_feed = c.requires.no_feed; no_mark = c.requires.no_mark; in_rule = c.requires.in_rule } in
    read_fields c.args.line.now line _ _ _ _ _ _ _ config made.state made.source read.0
