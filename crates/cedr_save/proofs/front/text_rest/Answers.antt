use Rattle.std.proofs.Common.{◌≡◌, true, false, rules}
use Rattle.std.specs.Prelude.{codes, nat_eq}
use Rattle.std.specs.List.{starts_with}
use Rattle.cedr_save.specs.Fronts.{is_quote_open}
use Rattle.cedr_save.proofs.SourceFronts.{starts_is}
use Rattle.cedr_save.proofs.TextFronts.{is_bare, ends_bare, ends_open, ends_closed}
use Rattle.cedr_save.proofs.front.text_rest.Goals as goal

pub returns-then-not-starts_with-clause-goes_on : goal.returns-then-not-starts_with-clause-goes_on
returns-then-not-starts_with-clause-goes_on c =
    let starts : starts_with nat_eq c.args.text.now (codes "\"") ≡ false = search rules in
    ends_bare c.args.text.now (is_bare c.args.text.now starts)

pub returns-then-is_quote_open-clause-goes_on : goal.returns-then-is_quote_open-clause-goes_on
returns-then-is_quote_open-clause-goes_on c =
    let starts : starts_with nat_eq c.args.text.now (codes "\"") ≡ true = search rules in
    let opened : is_quote_open false c.args.text.now ≡ true = search rules in
    let bytes = starts_is c.args.text.now (codes "\"") starts in
    ends_open c.args.text.now bytes.0 bytes.1 opened

pub returns-else-is_quote_open-clause-goes_on : goal.returns-else-is_quote_open-clause-goes_on
returns-else-is_quote_open-clause-goes_on c =
    let starts : starts_with nat_eq c.args.text.now (codes "\"") ≡ true = search rules in
    let shut : is_quote_open false c.args.text.now ≡ false = search rules in
    let bytes = starts_is c.args.text.now (codes "\"") starts in
    ends_closed c.args.text.now bytes.0 bytes.1 shut
