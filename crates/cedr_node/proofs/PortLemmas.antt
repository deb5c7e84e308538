-- A port goes on message by message.
use Rattle.std.proofs.Common.{◌≡◌, ◌∙◌, sym, ap, List, ◌++◌, ◌∷◌, []}
use Rattle.cedr_base.specs.declared.change.Message.{Message}
use Rattle.node_laws.specs.declared.forgotten.Forgotten.{Forgotten}
use Rattle.cedr_base.specs.declared.level.Level.{Level}
use Rattle.node_laws.specs.Kept.{forgot}
use Rattle.node_laws.proofs.Grows.{forgot-push}
use Rattle.cedr_align.specs.declared.fate.Fate.{Fate}
use Rattle.cedr_align.specs.Aligner.{forgotten_in, IsTaken}
use Rattle.cedr_node.specs.declared.port.Port.{Port}
use Rattle.cedr_node.specs.Standing.{PortStands, IsPortTaken}

-- a port takes a message where its aligner does, and what that forgot is noted
pub port_taken : (old new : Port) (ms : List Message) (m : Message) (before after : List Message) (fate : Fate) → PortStands old ms → IsTaken old.aligner new.aligner ms m before after fate
    → new.forgotten.items ≡ old.forgotten.items ++ forgotten_in fate → IsPortTaken old new ms m before after
port_taken old new ms m before after fate stands taken noted = record {
  stands = record {
    aligns = taken.aligns;
    forgotten_is =
        noted ∙ (ap (λ (fs : List Forgotten). fs ++ forgotten_in fate) stands.forgotten_is
        ∙ (ap (λ (fs : List Forgotten). forgot old.aligner.level.memory ms ++ fs) taken.fate_is
        ∙ (sym (forgot-push old.aligner.level.memory ms m) ∙ ap (λ (v : Level). forgot v.memory (ms ++ m ∷ [])) (sym taken.same_level))));
  };
  passed_on = taken.passed_on;
  same_level = taken.same_level;
}
