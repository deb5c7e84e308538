use Rattle.std.proofs.Common.{◌≡◌, ◌++◌, drop}
use Rattle.cedr_keys.specs.Texts.{keys_text}
use Rattle.cedr_keys.proofs.text.keys_text.Given as goal

abbrev pub invariant-loop-place : goal.invariant-loop-place
invariant-loop-place l = l.text.items ++ keys_text l.columns (drop l.place l.nodes) l.place ≡ keys_text l.columns l.nodes 0
