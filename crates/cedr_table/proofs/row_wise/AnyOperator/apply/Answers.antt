use Rattle.std.proofs.Common.{refl}
use Rattle.std.proofs.lemmas.Result.{on_ok_weaker}
use Rattle.cedr_table.specs.Operators.{mark_at}
use Rattle.cedr_table.proofs.RowWiseLemmas.{row_wise_gains}
use Rattle.cedr_table.proofs.row_wise.AnyOperator.apply.Goals as goal

pub returns-else-is_err-clause-repairs : goal.returns-else-is_err-clause-repairs
returns-else-is_err-clause-repairs g c = on_ok_weaker c.answer-result.result
    (λ e tables marks after stands can moved. row_wise_gains (g.R.RowWise.image c.args.self.now) (g.R.RowWise.life_of c.args.self.now) (g.R.RowWise.payload_of c.args.self.now)
    (mark_at marks 0) (g.R.RowWise.guarantee_at c.args.self.now (mark_at marks 0))
    (g.met.R.RowWise.one_row c.args.self.now)
    (λ begin end. g.met.R.RowWise.is_life c.args.self.now begin end stands.range)
    (λ begin end. g.met.R.RowWise.begins_from c.args.self.now begin end (mark_at marks 0) stands.range)
    (λ begin end earlier. g.met.R.RowWise.becomes c.args.self.now begin end earlier (mark_at marks 0) stands.range)
    tables marks c.args._port c.args.change after c.args.out.now.items c.answer-result.new.out.items stands.table refl can moved e)
    c.answer-result.ensures.ok
