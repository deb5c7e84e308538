use Rattle.std.proofs.Common.{◌≡◌, ℕ, Option, true, false, sym, ◌∙◌, subst, rules}
use Rattle.std.specs.Prelude.{nat_eq}
use Rattle.std.specs.List.{starts_with}
use Rattle.cedr_save.specs.Lines.{ReadsMark}
use Rattle.cedr_save.proofs.SourceFronts.{never_begins, no_source, some_source}
use Rattle.cedr_save.proofs.front.begins_source.Goals as goal

pub returns-then-not-starts_with : goal.returns-then-not-starts_with
returns-then-not-starts_with c =
    let starts : starts_with nat_eq c.in_ok-line.line.items c.args.front.now ≡ false = search rules in
    never_begins c.args.name.now c.args.front.now c.in_ok-line.line.items c.in_ok-line.ensures starts

pub returns-in-Some : goal.returns-in-Some
returns-in-Some c =
    let starts : starts_with nat_eq c.in_ok-line.line.items c.args.front.now ≡ true = search rules in
    let reads = subst (λ (o : Option ℕ). ReadsMark o c.args.name.now c.deref-2.result.now) c.in-Some.is c.in_ok-read_source.ensures in
    some_source c.args.name.now c.args.front.now c.in_ok-line.line.items c.in-Some.field-0 starts reads.0 (sym c.deref-2.ensures.value ∙ reads.1)

pub returns : goal.returns
returns c =
    let reads = subst (λ (o : Option ℕ). ReadsMark o c.args.name.now c.deref-2.result.now) c.in-None.is c.in_ok-read_source.ensures in
    no_source c.args.name.now c.args.front.now c.in_ok-line.line.items c.in_ok-line.ensures (λ mark low is. reads mark low (c.deref-2.ensures.value ∙ is))
