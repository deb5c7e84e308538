use Rattle.std.proofs.Common.{◌<◌, ◌≤◌, length, take, subst, arith}
use Rattle.std.specs.Io.KnownBytes.{Consumes}
use Rattle.std.proofs.lemmas.List.{length-take}
use Rattle.cedr_worker.specs.declared.reading.TheConstants.{BLOCK}
use Rattle.cedr_worker.proofs.ReadingLemmas.{read_failed, end_met, end_came, block_read, block_came, block_lost}
use Rattle.cedr_worker.proofs.reading.read_block.Goals as goal

pub returns-in_default-clause-took : goal.returns-in_default-clause-took
returns-in_default-clause-took g c = λ shape bytes given reads within.
    read_failed c.args.lines.now _ _ _ _ shape bytes given reads c.requires.goes_on c.in_default.ensures.bytes c.in_default.ensures.counted

pub returns-then-count-eq0-clause-took : goal.returns-then-count-eq0-clause-took
returns-then-count-eq0-clause-took g c = λ shape bytes given reads within.
    let bytes_read = c.in-Ok.ensures.bytes in
    end_met c.args.lines.now c.finish.new.self _ _ _ _ _ shape bytes given c.new.ensures.items (c.finish.ensures.reads shape bytes given reads) (c.finish.ensures.finished shape bytes given reads within)
    (subst (λ n. Consumes (g.S.Source.rest c.args.source.now) (g.S.Source.rest c.read.new.self) (take n c.read.new.buf)) c.if-count-eq0.true bytes_read.0)
    (bytes_read.1 c.if-count-eq0.true (omega (arith, c.read.auto.buf, c.requires.room))) c.in-Ok.ensures.counted

pub returns-then-count-eq0-clause-came : goal.returns-then-count-eq0-clause-came
returns-then-count-eq0-clause-came g c = λ shape bytes given reads within.
    end_came c.args.lines.now c.finish.new.self _ _ c.requires.goes_on (c.finish.ensures.finished shape bytes given reads within)

pub returns-in-Ok-feed-clause-took : goal.returns-in-Ok-feed-clause-took
returns-in-Ok-feed-clause-took g c = λ shape bytes given reads within.
    let few : length (take c.in-Ok.count c.read.new.buf) ≤ BLOCK = omega (arith, length-take c.in-Ok.count c.read.new.buf, c.read.auto.buf, c.requires.room) in
    block_read c.args.lines.now c.feed.new.self _ _ _ _ _ shape bytes (take c.in-Ok.count c.read.new.buf) given c.new-in-Ok-feed.ensures.items (c.in-Ok-feed.ensures.reads shape bytes given reads) c.feed.ensures.goes_on within few c.in-Ok.ensures.bytes.0 c.in-Ok.ensures.counted

pub returns-in-Ok-feed-clause-came : goal.returns-in-Ok-feed-clause-came
returns-in-Ok-feed-clause-came g c = λ shape bytes given reads within.
    let piece = take c.in-Ok.count c.read.new.buf in
    let some : 0 < length piece = omega (arith, length-take c.in-Ok.count c.read.new.buf, c.in-Ok.ensures.within, c.if-count-eq0.false) in
    let few : length piece ≤ BLOCK = omega (arith, length-take c.in-Ok.count c.read.new.buf, c.read.auto.buf, c.requires.room) in
    block_came c.args.lines.now c.feed.new.self _ _ shape bytes piece given reads (c.in-Ok-feed.ensures.reads shape bytes given reads) within some few c.in-Ok.ensures.bytes.0

pub returns-in-Err-clause-took : goal.returns-in-Err-clause-took
returns-in-Err-clause-took g c = λ shape bytes given reads within.
    let few : length (take c.in-Ok.count c.read.new.buf) ≤ BLOCK = omega (arith, length-take c.in-Ok.count c.read.new.buf, c.read.auto.buf, c.requires.room) in
    block_lost c.args.lines.now c.feed.new.self _ _ _ _ shape bytes (take c.in-Ok.count c.read.new.buf) given reads c.requires.goes_on c.feed.ensures.goes_on within few c.in-Ok.ensures.bytes.0 c.in-Ok.ensures.counted
