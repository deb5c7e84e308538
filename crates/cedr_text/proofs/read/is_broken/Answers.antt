use Rattle.std.proofs.Common.{◌≡◌, ◌==◌, ◌||◌, Bool, true, false, refl, sym, ◌∙◌}
use Rattle.std.specs.List.{list_any, starts_with}
use Rattle.std.specs.Prelude.{nat_eq}
use Rattle.memchr.specs.Find.{is_byte2}
use Rattle.cedr_text.specs.Quoting.{byte_order_mark}
use Rattle.cedr_text.proofs.Searches.{found_any, any_of_two}
use Rattle.cedr_text.proofs.read.is_broken.Goals as goal

no_break : (a b c d : Bool) → (a || b) ≡ false → d ≡ c → d ≡ (a || (b || c))
no_break true b c d none is = cc
no_break false true c d none is = cc
no_break false false c d none is = is

a_break : (a b c : Bool) → (a || b) ≡ true → true ≡ (a || (b || c))
a_break true b c some = refl
a_break false true c some = refl
a_break false false c some = cc

pub returns-else-is_some : goal.returns-else-is_some
returns-else-is_some c =
    let line = c.args.line.now in
    let none = sym (any_of_two 13 10 line) ∙ sym (found_any (is_byte2 13 10) line c.memchr2.result c.memchr2.ensures) ∙ sym c.is_some.ensures ∙ c.if-is_some.false in
    no_break (list_any (λ b. b == 13) line) (list_any (λ b. b == 10) line) (starts_with nat_eq line byte_order_mark) c.starts_with.result none c.starts_with.ensures.value
