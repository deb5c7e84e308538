-- What a node's operator asks of the node, as an accepted plan has it.
use Rattle.std.specs.Prelude.{ℕ, ◌≡◌, ◌≤◌}
use Rattle.cedr_plan.specs.declared.plan.NodeKind.{NodeKind}
use Rattle.cedr_plan.specs.declared.plan.NodeKind.TheVariants as kind
use Rattle.change_laws.specs.Times.{IsWhile}

-- the node is no source, has as many ports as its operator, and its numbers are whiles
abbrev pub IsReady : NodeKind → ℕ → Type 0
IsReady (kind.Source file) ports = ⊥
IsReady (kind.Select tests) ports = ports ≡ 1
IsReady (kind.Project keep) ports = ports ≡ 1
IsReady kind.Union ports = (2 ≤ ports) × (ports ≤ 4)
IsReady (kind.Join tests) ports = ports ≡ 2
IsReady (kind.Window width) ports = (ports ≡ 1) × IsWhile width
IsReady (kind.Shift by) ports = (ports ≡ 1) × IsWhile by
IsReady (kind.Hop every width) ports = (ports ≡ 1) × IsWhile every × IsWhile width
IsReady kind.Starts ports = ports ≡ 1
IsReady kind.Ends ports = ports ≡ 1
IsReady (kind.Group keys count sums least greatest) ports = ports ≡ 1
IsReady (kind.Sequence scope tests) ports = (2 ≤ ports) × (ports ≤ 4) × IsWhile scope
IsReady (kind.Unless scope hold tests) ports = (ports ≡ 2) × IsWhile scope × IsWhile hold
IsReady (kind.AtLeast number scope tests) ports = (2 ≤ ports) × (ports ≤ 4) × ((1 ≤ number) × (number ≤ ports)) × IsWhile scope
IsReady (kind.Except tests) ports = ports ≡ 2
IsReady kind.Output ports = ports ≡ 1
