use Rattle.std.proofs.Common.{◌≡◌, ◌++◌, List, ℕ, OnOk, subst}
use Rattle.cedr_base.proofs.FieldReading.{text_read_back}
use Rattle.cedr_base.proofs.field_code.append_text.Goals as goal

pub returns : goal.returns
returns c = λ text rest begins.
    subst (λ (xs : List ℕ). OnOk c.write_unescaped.result (c.write_unescaped.new.out.items ≡ c.args.out.now.items ++ xs)) (text_read_back c.args.bytes.now text rest begins) c.write_unescaped.ensures
