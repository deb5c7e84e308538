use Rattle.plan_live.specs.Resumed.{states_in}
use Rattle.cedr_commands.proofs.ResumeLemmas.{spelt_states, checkpoint_front}
use Rattle.cedr_commands.proofs.resume.open_checkpoint.Goals as goal

pub returns-in-Ok-read_checkpoint-clause-opened : goal.returns-in-Ok-read_checkpoint-clause-opened
returns-in-Ok-read_checkpoint-clause-opened g c =
    let nodes = c.args.plan.now.nodes.items in
    let states = c.in-Ok-read_checkpoint.states.items in (
      spelt_states nodes states c.deref.result.now c.in-Ok-read_checkpoint.ensures,
      checkpoint_front (g.F.Files.content c.args.files.now c.args.checkpoint.now) nodes c.in-Ok.bytes.items c.deref.result.now (states_in states) c.in-Ok.ensures.bytes c.deref.ensures.value c.in-Ok-read_checkpoint.ensures,
    )
