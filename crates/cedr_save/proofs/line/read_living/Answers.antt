use Rattle.std.proofs.Common.{List, Some, sym, subst}
use Rattle.cedr_base.specs.declared.field.Field.{Field}
use Rattle.cedr_save.specs.Lines.{ReadsLiving}
use Rattle.cedr_save.proofs.ReadLemmas.{living_found, living_none}
use Rattle.cedr_save.proofs.line.read_living.Goals as goal

pub returns-in-Ok : goal.returns-in-Ok
returns-in-Ok c = λ types has.
    subst (λ (p : List Field). ReadsLiving (Some (record { id = c.in-Ok.id; begin = c.in-Ok.row.begin; end = c.in-Ok.row.end; payload = p })) types c.args.line.now) (sym c.into_payload.ensures)
    (living_found c.args.shape.now types c.args.line.now c.in-Ok.id c.in-Ok.row has c.in-Ok.ensures)

pub returns-in-Err-Line : goal.returns-in-Err-Line
returns-in-Err-Line c = λ types has. living_none c.args.shape.now types c.args.line.now c.in-Err-Line.field-0-0 has (rw c.in-Err-Line.field-0-is at c.in-Err-Line.ensures)
