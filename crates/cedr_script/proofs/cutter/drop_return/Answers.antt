use Rattle.std.proofs.Common.{◌≡◌, ℕ, List, length, take, ap, ◌∙◌}
use Rattle.cedr_text.specs.Lines.{without_return}
use Rattle.cedr_script.proofs.CutLemmas.{front_of}
use Rattle.cedr_script.proofs.cutter.drop_return.Goals as goal

pub returns : goal.returns
returns c =
    let line = c.args.line.now.items in
    let shown : c.deref.result.now ≡ line = c.deref.ensures.value in
    let short = c.without_return-length.ensures ∙ ap without_return shown in
    c.truncate.ensures.items ∙ (ap (λ (l : List ℕ). take (length l) line) short ∙ front_of line)
