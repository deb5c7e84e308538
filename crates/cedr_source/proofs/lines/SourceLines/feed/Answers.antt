use Rattle.std.proofs.Common.{arith, ap, refl, sym, ◌∙◌, ◌<◌, ◌≤◌, ◌++◌, take, cond, length, true, false}
use Rattle.std.proofs.lemmas.Bool.{lt-ltb, le-ltb}
use Rattle.cedr_text.specs.Lines.{Fed}
use Rattle.cedr_source.proofs.ReadsLemmas.{more_read}
use Rattle.cedr_source.proofs.ByLineLemmas.{more_by_line}
use Rattle.cedr_source.proofs.lines.SourceLines.feed.Goals as goal

pub returns-then-count-piece-clause-reads : goal.returns-then-count-piece-clause-reads
returns-then-count-piece-clause-reads c = λ shape bytes given reads.
    let room = c.args.self.now.room in
    let less : room < length c.args.piece.now = omega (arith, c.min-count.ensures, c.if-count-piece.true) in
    more_read _ _ c.args.piece.now shape bytes given (record {
      unended = c.requires;
      lines = c.in_ok-feed.ensures.ok ∙ ap {B = Fed} (λ n. record { kept = c.args.self.now.lines.kept ++ take n c.args.piece.now; finished = false }) c.min-count.ensures;
      guard = refl;
      shape = refl;
      number = refl;
      room = omega (arith, c.min-count.ensures);
      over = sym (ap (λ test. cond test true c.args.self.now.over_limit) (lt-ltb room (length c.args.piece.now) less));
    }) reads

pub returns-else-count-piece-clause-reads : goal.returns-else-count-piece-clause-reads
returns-else-count-piece-clause-reads c = λ shape bytes given reads.
    let room = c.args.self.now.room in
    let fits : length c.args.piece.now ≤ room = omega (arith, c.min-count.ensures, c.if-count-piece.false) in
    more_read _ _ c.args.piece.now shape bytes given (record {
      unended = c.requires;
      lines = c.in_ok-feed.ensures.ok ∙ ap {B = Fed} (λ n. record { kept = c.args.self.now.lines.kept ++ take n c.args.piece.now; finished = false }) c.min-count.ensures;
      guard = refl;
      shape = refl;
      number = refl;
      room = omega (arith, c.min-count.ensures);
      over = sym (ap (λ test. cond test true c.args.self.now.over_limit) (le-ltb room (length c.args.piece.now) fits));
    }) reads

pub returns-then-count-piece-clause-by_line : goal.returns-then-count-piece-clause-by_line
returns-then-count-piece-clause-by_line c = λ shape bytes given reads.
    let room = c.args.self.now.room in
    let less : room < length c.args.piece.now = omega (arith, c.min-count.ensures, c.if-count-piece.true) in
    more_by_line _ _ c.args.piece.now shape bytes given (record {
      unended = c.requires;
      lines = c.in_ok-feed.ensures.ok ∙ ap {B = Fed} (λ n. record { kept = c.args.self.now.lines.kept ++ take n c.args.piece.now; finished = false }) c.min-count.ensures;
      guard = refl;
      shape = refl;
      number = refl;
      room = omega (arith, c.min-count.ensures);
      over = sym (ap (λ test. cond test true c.args.self.now.over_limit) (lt-ltb room (length c.args.piece.now) less));
    }) reads

pub returns-else-count-piece-clause-by_line : goal.returns-else-count-piece-clause-by_line
returns-else-count-piece-clause-by_line c = λ shape bytes given reads.
    let room = c.args.self.now.room in
    let fits : length c.args.piece.now ≤ room = omega (arith, c.min-count.ensures, c.if-count-piece.false) in
    more_by_line _ _ c.args.piece.now shape bytes given (record {
      unended = c.requires;
      lines = c.in_ok-feed.ensures.ok ∙ ap {B = Fed} (λ n. record { kept = c.args.self.now.lines.kept ++ take n c.args.piece.now; finished = false }) c.min-count.ensures;
      guard = refl;
      shape = refl;
      number = refl;
      room = omega (arith, c.min-count.ensures);
      over = sym (ap (λ test. cond test true c.args.self.now.over_limit) (le-ltb room (length c.args.piece.now) fits));
    }) reads
