use Rattle.std.proofs.Common.{rules, ◌≡◌, ◌++◌, length, map, sym, ap, ◌∙◌, subst}
use Rattle.cedr_history.specs.declared.listed.Listed.{Listed}
use Rattle.cedr_history.specs.Sights.{SightBegins}
use Rattle.cedr_history.specs.Versions.{listing}
use Rattle.cedr_history.specs.Ends.{list_of, part}
use Rattle.std.proofs.lemmas.List.{length-map}
use Rattle.std.specs.Arc.{arc_value}
use Rattle.cedr_history.proofs.Parts.{map_part}
use Rattle.cedr_history.proofs.Extending.{extends_begins}
use Rattle.cedr_history.proofs.reading.look.Goals as goal

pub returns-clause-some : goal.returns-clause-some
returns-clause-some c =
    let front = c.again-front.result in
    let begins : SightBegins c.args.floor.now front = search rules in
    let tied : listing c.args.version.now ≡ list_of front = c.requires.tied ∙ ap list_of (sym c.again-front.ensures) in
    let all = map arc_value c.args.version.now.changes.items in
    let pushed : c.push_part.new.out.items ≡ c.args.out.now.items ++ part c.args.from c.args.max all = search (rules, map_part) in
    let len : c.len.result ≡ length all = search (rules, length-map) in (
      (begins.0, extends_begins c.args.floor.now front begins),
      (len ∙ ap (λ (l : Listed). length l.changes) tied, ap (λ (l : Listed). l.mark) tied, ap (λ (l : Listed). l.close) tied),
      subst (λ (l : Listed). c.push_part.new.out.items ≡ c.args.out.now.items ++ part c.args.from c.args.max l.changes) tied pushed,
    )
