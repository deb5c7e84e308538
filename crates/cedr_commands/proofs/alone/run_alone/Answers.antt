use Rattle.std.proofs.Common.{map}
use Rattle.std.specs.String.{string_bytes}
use Rattle.cedr_commands.proofs.AloneLemmas.{named_alone, words_alone}
use Rattle.cedr_commands.proofs.alone.run_alone.Goals as goal
use Rattle.cedr_commands.specs.Commands.{command_of}

pub run_named-requires-clause-whole : goal.run_named-requires-clause-whole
run_named-requires-clause-whole g c κs within =
    let words = map string_bytes c.args.words.now in
    named_alone (λ n. record { job = n.0; file = n.1.now; checkpoint = n.2.now; script = n.3.now }) c.named_command.result (command_of words) c.named_command.ensures.named (words_alone words c.requires.alone)
