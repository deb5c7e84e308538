-- What the ports of a plan's nodes forgot, port by port.
use Rattle.std.specs.Prelude.{ℕ, ◌+◌, List, [], ◌∷◌, ◌++◌}
use Rattle.node_laws.specs.declared.forgotten.Forgotten.{Forgotten}
use Rattle.plan_answer.specs.declared.forgotten.PortForgotten.{PortForgotten}

-- what a port forgot, as a list
pub record PortForgot : Type 0 where
  pub node : ℕ
  pub port : ℕ
  pub list : List Forgotten

-- an entry of what a port forgot, with its list as contracts see it
abbrev pub port_forgot : PortForgotten → PortForgot
port_forgot p = record { node = p.node; port = p.port; list = p.list.items }

-- what the ports of a node forgot, from a port on
abbrev pub ports_forgot : ℕ → ℕ → List (List Forgotten) → List PortForgot
ports_forgot node port [] = []
ports_forgot node port (l ∷ ls) = record { node = node; port = port; list = l } ∷ ports_forgot node (port + 1) ls

-- what the ports of all nodes from a place on forgot
abbrev pub nodes_forgot : ℕ → List (List (List Forgotten)) → List PortForgot
nodes_forgot node [] = []
nodes_forgot node (ports ∷ nodes) = ports_forgot node 0 ports ++ nodes_forgot (node + 1) nodes
