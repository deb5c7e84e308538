use Rattle.std.proofs.Common.{◌≡◌, ◌<◌, ◌||◌, ℕ, List, [], ◌∷◌, Bool, true, false, length, not, sym, ◌∙◌, arith}
use Rattle.std.proofs.lemmas.Bool.{or_from}
use Rattle.std.specs.List.{starts_with}
use Rattle.std.specs.Prelude.{nat_eq}
use Rattle.memchr.specs.Find.{is_byte3}
use Rattle.cedr_text.specs.Lines.{has_line_feed}
use Rattle.cedr_text.specs.Quoting.{byte_order_mark}
use Rattle.cedr_text.specs.Reading.{has_return}
use Rattle.cedr_text.proofs.Searches.{found_any, none_of_three, some_found}
use Rattle.cedr_text.proofs.read.has_plain_bytes.Goals as goal

not_so : (b : Bool) → not b ≡ true → b ≡ false
not_so true h = cc
not_so false h = λ i. false

pub returns-then-is_none-clause-plain : goal.returns-then-is_none-clause-plain
returns-then-is_none-clause-plain c = λ plain.
    let line = c.args.line.now in
    let none = none_of_three 34 13 10 line (sym (found_any (is_byte3 34 13 10) line c.memchr3.result c.memchr3.ensures) ∙ c.if-is_none.ensures) in
    let no_mark = sym c.starts_with.ensures.value ∙ not_so c.starts_with.result plain in
    (none.0, or_from (has_return line) (has_line_feed line || starts_with nat_eq line byte_order_mark) none.1 (or_from (has_line_feed line) (starts_with nat_eq line byte_order_mark) none.2 no_mark))

marked : (line : List ℕ) (mark : Bool) → mark ≡ starts_with nat_eq line byte_order_mark → not mark ≡ false → 0 < length line
marked [] true is marks = cc
marked [] false is marks = cc
marked (b ∷ bs) mark is marks = omega arith

pub returns-then-is_none-clause-some : goal.returns-then-is_none-clause-some
returns-then-is_none-clause-some c = λ marks. marked c.args.line.now c.starts_with.result c.starts_with.ensures.value marks

pub returns-else-is_none-clause-some : goal.returns-else-is_none-clause-some
returns-else-is_none-clause-some c = λ no. some_found (is_byte3 34 13 10) c.args.line.now c.memchr3.result c.memchr3.ensures c.if-is_none.ensures
