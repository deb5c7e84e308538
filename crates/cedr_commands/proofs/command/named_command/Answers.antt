use Rattle.std.proofs.Common.{rules, arith}
use Rattle.std.specs.String.{string_bytes}
use Rattle.cedr_commands.proofs.CommandLemmas.{few_words, many_words, other_three}
use Rattle.cedr_commands.proofs.command.named_command.Goals as goal
use Rattle.cedr_commands.proofs.command.named_command.Goals.{in_default-via-then-words-lt2, in_default-via-else-words-lt2+else-words-lt3+else-words-lt4+else-words-lt5}

pub returns-in_default-as_str-clause-named : goal.returns-in_default-as_str-clause-named
returns-in_default-as_str-clause-named c =
    other_three string_bytes c.args.words.now c.word-item-then-words-lt4.result (omega (arith, c.in-len3.len_at_least, c.in-len3.len_below)) c.word-item-then-words-lt4.is (search rules) (search rules) (search rules) (search rules) (search rules)

pub returns-in_default-clause-named : goal.returns-in_default-clause-named
returns-in_default-clause-named c = elim c.in_default.branch [
  | in_default-via-then-words-lt2 w ↦ few_words string_bytes c.args.words.now (search rules)
  | in_default-via-else-words-lt2+else-words-lt3+else-words-lt4+else-words-lt5 w ↦ many_words string_bytes c.args.words.now (search rules)
]
