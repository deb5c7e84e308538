use Rattle.std.proofs.Common.{sym, subst, Option}
use Rattle.std.specs.Option.{option_copied}
use Rattle.cedr_base.specs.declared.field.Field.{Field}
use Rattle.cedr_base.specs.Order.{field_cmp}
use Rattle.cedr_living.specs.Fields.{IsFirstField}
use Rattle.cedr_living.specs.Indexes.{IsIn}
use Rattle.cedr_living.proofs.OuterLemmas.{least_from}
use Rattle.cedr_living.proofs.outer.least_in.Goals as goal

pub returns : goal.returns
returns c =
    subst (λ (o : Option Field). IsFirstField field_cmp (IsIn c.args.counts.now.entries c.args.column c.args.level c.args.at) o) (sym c.field_in.ensures)
    (least_from c.args.counts.now.entries c.args.column c.args.level c.args.at (option_copied c.place_after.result) c.place_after.ensures)
