use Rattle.std.proofs.Common.{ℕ, List, [], ◌∷◌, ◌++◌, codes, ap, ◌∙◌, append_assoc}
use Rattle.std.specs.Prelude.{decimal}
use Rattle.cedr_base.specs.Bytes.{line_feed}
use Rattle.cedr_commands.proofs.refusal.write_checkpoint_fault.Goals as goal

pub returns : goal.returns
returns c =
    let said = codes "checkpoint line " in
    c.in_ok-push.ensures.items
    ∙ (ap (λ (t : List ℕ). t ++ line_feed ∷ []) (c.in_ok-write_number.ensures.ok ∙ ap (λ (t : List ℕ). t ++ decimal c.args.line) c.in_ok-extend_from_slice.ensures.items)
    ∙ (append_assoc (c.args.text.now.items ++ said) (decimal c.args.line) (line_feed ∷ []) ∙ append_assoc c.args.text.now.items said (decimal c.args.line ++ line_feed ∷ [])))
