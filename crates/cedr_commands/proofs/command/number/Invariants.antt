use Rattle.std.proofs.Common.{◌≡◌, drop}
use Rattle.cedr_text.specs.Numbers.{whole_number}
use Rattle.cedr_text.proofs.Numerals.{number_after}
use Rattle.cedr_commands.proofs.command.number.Given as goal

abbrev pub invariant-loop-digit : goal.invariant-loop-digit
invariant-loop-digit l = whole_number l.last l.digits ≡ number_after l.last l.value (drop l.digit-index l.digits)
