use Rattle.node_laws.proofs.Parts.{all_put, all_taken, kept_sound, none_forgot}
use Rattle.node_laws.proofs.Recent.{agrees}
use Rattle.node_laws.proofs.laws.forgetting.Goals as goal

pub returns-clause-old : goal.returns-clause-old
returns-clause-old c = λ level ms legal. (agrees level ms legal).old

pub returns-clause-recent : goal.returns-clause-recent
returns-clause-recent c = λ level ms legal. (agrees level ms legal).agree

pub returns-clause-puts : goal.returns-clause-puts
returns-clause-puts c = all_put

pub returns-clause-takes : goal.returns-clause-takes
returns-clause-takes c = all_taken

pub returns-clause-sound : goal.returns-clause-sound
returns-clause-sound c = kept_sound

pub returns-clause-none : goal.returns-clause-none
returns-clause-none c = none_forgot
