use Rattle.std.proofs.Common.{sym, subst, Option}
use Rattle.std.specs.Option.{option_copied}
use Rattle.cedr_base.specs.declared.field.Field.{Field}
use Rattle.cedr_living.specs.Fields.{IsFirstField, field_cmp_back}
use Rattle.cedr_living.specs.Indexes.{IsIn}
use Rattle.cedr_living.proofs.OuterLemmas.{greatest_before}
use Rattle.cedr_living.proofs.outer.greatest_in.Goals as goal

pub returns : goal.returns
returns c =
    subst (λ (o : Option Field). IsFirstField field_cmp_back (IsIn c.args.counts.now.entries c.args.column c.args.level c.args.at) o) (sym c.field_in.ensures)
    (greatest_before c.args.counts.now.entries c.args.column c.args.level c.args.at (option_copied c.place_before.result) c.place_before.ensures)
