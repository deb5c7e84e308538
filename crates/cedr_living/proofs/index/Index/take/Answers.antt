use Rattle.std.proofs.Common.{ℕ, false, ◌∙◌, subst}
use Rattle.cedr_living.specs.Ends.{life_of}
use Rattle.cedr_living.specs.Indexes.{Changes}
use Rattle.cedr_living.proofs.IndexLemmas.{loses_more}
use Rattle.cedr_living.proofs.index.Index.take.Goals as goal

pub loop-preserved : goal.loop-preserved
loop-preserved c =
    let was = c.loop.invariant in
    record {
      column = c.take_one.ensures.column ∙ was.column;
      field = c.take_one.ensures.field ∙ was.field;
      gone = loses_more c.loop.counter c.args.self.now c.loop.self c.take_one.new.self (life_of c.args.life) was.gone
          (subst (λ (n : ℕ). Changes false c.loop.self c.take_one.new.self (record { column = n; begin = c.args.life.begin; end = c.args.life.end; field = c.args.life.field })) was.column (c.take_one.ensures.gone c.args.life.field was.field));
    }
