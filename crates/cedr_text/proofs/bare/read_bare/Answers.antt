use Rattle.std.proofs.Common.{sym, rules}
use Rattle.cedr_base.specs.Bytes.{comma}
use Rattle.cedr_text.specs.declared.event_line.Shape.TheVariants.{AnyText}
use Rattle.cedr_text.proofs.BareLemmas.{short_line, other_second}
use Rattle.cedr_text.proofs.bare.read_bare.Goals as goal
use Rattle.cedr_text.proofs.bare.read_bare.Goals.{in_default-via-then-line-lt2, in_default-via-else-line-lt2+in_default-1}

pub returns-in_default : goal.returns-in_default
returns-in_default c =
    elim c.in_default.branch [
      | in_default-via-then-line-lt2 w ↦ sym (short_line AnyText comma c.args.line.now (search rules))
      | in_default-via-else-line-lt2+in_default-1 w ↦ sym (other_second AnyText comma c.args.line.now (λ is. search rules))
    ]
