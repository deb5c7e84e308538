use Rattle.std.proofs.Common.{◌<◌, ◌++◌, Result, Err, length, take, sym, ap, ◌∙◌, subst, arith}
use Rattle.std.proofs.KnownBytes.{Consumes-trans}
use Rattle.std.proofs.lemmas.List.{length-append, length-take}
use Rattle.std.proofs.lemmas.Result.{err_from_is_err_and}
use Rattle.cedr_source.specs.declared.fault.Unread.{Unread}
use Rattle.cedr_source.specs.declared.read.Reading.{Reading}
use Rattle.cedr_source.specs.Whole.{ReadBlocks, CountsSource}
use Rattle.cedr_source.proofs.WholeLemmas.{less_room, not_closed, refused_block, none_failed}
use Rattle.cedr_source.proofs.read.read_blocks.Goals as goal

pub loop-reading-smaller : goal.loop-reading-smaller
loop-reading-smaller g c =
    let inv = c.loop-reading.invariant in
    let count = c.in_ok-count.count in
    let part = take count c.read.new.buf in
    let took = c.in_ok-take_block.ensures.took c.args.shape inv.bytes inv.reads in
    let some : 0 < length part = omega (arith, length-take count c.read.new.buf, c.in_ok-count.ensures.within, c.if-count-eq0.false) in
    less_room c.loop-reading.reading.lines c.take_block.new.self.lines c.args.shape inv.bytes part _ _ inv.reads.reads took.0.reads some (not_closed c.take_block.new.self c.args.shape (inv.bytes ++ part) c.take_block.ensures.goes_on took)

pub loop-reading-preserved : goal.loop-reading-preserved
loop-reading-preserved g c =
    let inv = c.loop-reading.invariant in
    let part = take c.in_ok-count.count c.read.new.buf in
    let took = c.in_ok-take_block.ensures.took c.args.shape inv.bytes inv.reads in
    record {
      bytes = inv.bytes ++ part;
      took = Consumes-trans _ _ _ inv.bytes part inv.took c.in_ok-count.ensures.bytes.0;
      within = not_closed c.take_block.new.self c.args.shape (inv.bytes ++ part) c.take_block.ensures.goes_on took;
      reads = took.0;
      unended = c.take_block.ensures.goes_on;
      counted = c.in_ok-count.ensures.counted ∙ inv.counted;
    }

pub returns-in_err-take_block-clause-read : goal.returns-in_err-take_block-clause-read
returns-in_err-take_block-clause-read g c =
    let inv = c.loop-reading.invariant in
    let count = c.in_ok-count.count in
    let part = take count c.read.new.buf in
    let fault = c.in_err-take_block.field-0.0 in
    let took = c.in_err-take_block.ensures.took c.args.shape inv.bytes inv.reads in
    let p = err_from_is_err_and c.from_residual-in_err-take_block.result c.from_residual-in_err-take_block.ensures.1 in
    subst (λ (answer : Result Reading Unread). ReadBlocks answer c.args.shape (g.S.Source.rest c.args.source.now) (g.S.Source.rest c.read.new.self)) (sym (p.1 ∙ ap (λ f. Err f) p.2))
    (record {
      bytes = inv.bytes ++ part;
      took = Consumes-trans _ _ _ inv.bytes part inv.took c.in_ok-count.ensures.bytes.0;
      few = omega (arith, inv.within, length-append inv.bytes part, length-take count c.read.new.buf, c.in_ok-count.ensures.within);
      whole = tt;
      read = refused_block fault c.take_block.new.self c.args.shape (inv.bytes ++ part) c.take_block.ensures.goes_on took;
    })

pub returns-in_err-take_block-clause-counted : goal.returns-in_err-take_block-clause-counted
returns-in_err-take_block-clause-counted g c =
    let inv = c.loop-reading.invariant in
    let part = take c.in_ok-count.count c.read.new.buf in
    let fault = c.in_err-take_block.field-0.0 in
    let took = c.in_err-take_block.ensures.took c.args.shape inv.bytes inv.reads in
    let p = err_from_is_err_and c.from_residual-in_err-take_block.result c.from_residual-in_err-take_block.ensures.1 in
    subst (λ (answer : Result Reading Unread). CountsSource answer (g.S.Source.faults c.args.source.now) (g.S.Source.faults c.read.new.self)) (sym (p.1 ∙ ap (λ f. Err f) p.2))
    (none_failed Reading fault c.take_block.new.self c.args.shape (inv.bytes ++ part) _ _ took (c.in_ok-count.ensures.counted ∙ inv.counted))
