use Rattle.std.proofs.Common.{◌+◌, sym, subst, Option, arith}
use Rattle.std.specs.Option.{option_copied}
use Rattle.cedr_base.specs.declared.field.Field.{Field}
use Rattle.cedr_living.specs.Fields.{IsFirstField}
use Rattle.cedr_living.specs.Indexes.{IsIn}
use Rattle.cedr_living.specs.Outer.{outer_cmp, IsSeenBelow}
use Rattle.cedr_living.proofs.OuterLemmas.{below_next, halved_up, all_seen}
use Rattle.cedr_living.proofs.pieces.Pieces.outermost.Goals as goal

pub loop-level-preserved : goal.loop-level-preserved
loop-level-preserved c = record {
  piece = halved_up c.loop-level.level c.loop-level.piece c.args.at c.loop-level.invariant.piece;
  small = omega arith;
  best = subst (λ (o : Option Field). IsFirstField (outer_cmp c.args.side) (IsSeenBelow c.args.self.now c.args.rests c.args.column c.args.at (c.loop-level.level + 1)) o) (sym c.outer-best.ensures)
      (below_next c.args.side c.args.self.now c.args.rests c.args.column c.args.at c.loop-level.level c.loop-level.piece (option_copied c.loop-level.best) (option_copied c.outer_at.result) c.loop-level.invariant.piece c.loop-level.invariant.best c.outer_at.ensures.none
      (λ low. subst (λ n. IsFirstField (outer_cmp c.args.side) (IsIn c.args.self.now.counts.entries c.args.column c.loop-level.level n) (option_copied c.outer_at.result)) c.seen_piece.ensures (c.outer_at.ensures.some low)));
}

pub returns : goal.returns
returns c = all_seen c.args.side c.args.self.now c.args.rests c.args.column c.args.at c.loop-level.level (option_copied c.loop-level.best) (omega arith) c.loop-level.invariant.best
