use Rattle.std.proofs.Common.{◌≡◌, ◌++◌, ◌∷◌, List, take}
use Rattle.std.specs.Prelude.{codes}
use Rattle.node_laws.specs.Lists.{Lists}
use Rattle.cedr_net.specs.Networks.{NetStands}
use Rattle.plan_runs.specs.Without.{forgot_in}
use Rattle.cedr_base.specs.Bytes.{line_feed}
use Rattle.plan_answer.specs.Answers.{nodes_text}
use Rattle.plan_serial.proofs.answer.write_tail.Given as goal

abbrev pub invariant-loop-place : goal.invariant-loop-place
invariant-loop-place l = (ports : List Lists) (given : Lists) → NetStands l.nodes l.net ports given → l.out.items ≡ l.fn.out.items ++ (codes "--" ++ line_feed ∷ nodes_text (take l.place l.nodes) (forgot_in l.nodes ports))
