use Rattle.std.proofs.Common.{◌≡◌, ◌<◌, ◌∙◌, ap, arith, false, length, map, subst, sym, true}
use Rattle.std.specs.List.{list_any}
use Rattle.cedr_io.specs.Counts.{last_count}
use Rattle.cedr_plan.specs.Places.{source_count}
use Rattle.plan_answer.specs.Finds.{count_with}
use Rattle.plan_serial.specs.Sources.{AreReadOf, is_failed}
use Rattle.cedr_parts.specs.Reading.{AreFoundFor, found_read, found_source}
use Rattle.cedr_parts.proofs.ReadingLemmas.{changed_whole, found_kept, found_rose, reads_legal, rose}
use Rattle.cedr_parts.proofs.reading.read_beside.Goals as goal

pub returns-then-have_failed-clause-counted : goal.returns-then-have_failed-clause-counted
returns-then-have_failed-clause-counted g c =
    let faults = g.F.Source.Source.faults in
    let found = c.read_each.new.found in
    let whole = changed_whole c.with_types.new.found.len found _ (c.read_each.ensures.count ∙ c.as_mut_slice.ensures.len) in
    let reads : c.give_back_found.new.reads.items ≡ map found_read found = c.give_back_found.ensures.reads ∙ ap (λ fs. map found_read fs) whole in
    let failed : list_any is_failed (map found_read found) ≡ true = subst (λ xs. list_any is_failed xs ≡ true) (c.deref.ensures.value ∙ reads) (sym c.have_failed.ensures ∙ c.if-have_failed.true) in
    let same : g.F.Files.faults c.find_sources.new.files ≡ g.F.Files.faults c.args.files.now = c.in_ok-sources.ensures.counted in
    let few : g.F.Files.faults c.find_sources.new.files < last_count = subst (λ n. n < last_count) (sym same) c.requires in
    let counted : g.F.Files.faults c.give_back_found.new.files ≡ count_with faults (g.F.Files.faults c.find_sources.new.files) (map found_source found) =
    c.give_back_found.ensures.counted ∙ ap (λ fs. count_with faults (g.F.Files.faults c.find_sources.new.files) (map found_source fs)) whole in
    let more = found_rose faults found c.read_each.ensures.each failed (g.F.Files.faults c.find_sources.new.files) few in
    rose (g.F.Files.faults c.args.files.now) (g.F.Files.faults c.give_back_found.new.files) (omega (arith, more, same, counted))

pub returns-clause-read : goal.returns-clause-read
returns-clause-read g c =
    let content = g.F.Files.content c.args.files.now in
    let nodes = c.args.nodes.now in
    let found = c.read_each.new.found in
    let whole = changed_whole c.with_types.new.found.len found _ (c.read_each.ensures.count ∙ c.as_mut_slice.ensures.len) in
    let reads : c.give_back_found.new.reads.items ≡ map found_read found = c.give_back_found.ensures.reads ∙ ap (λ fs. map found_read fs) whole in
    let slice = c.as_mut_slice.ensures.value in
    subst (λ rs. AreReadOf content nodes rs) (sym reads)
    (c.read_each.ensures.read content nodes (subst (λ fs. length fs ≡ source_count nodes) (sym slice) c.with_types.ensures.count)
    (subst (λ fs. AreFoundFor g.F.Source.Source.rest content nodes fs) (sym slice) (c.with_types.ensures.found content c.in_ok-sources.ensures.found)))

pub returns-clause-legal : goal.returns-clause-legal
returns-clause-legal g c =
    let found = c.read_each.new.found in
    let whole = changed_whole c.with_types.new.found.len found _ (c.read_each.ensures.count ∙ c.as_mut_slice.ensures.len) in
    reads_legal g.F.Source.Source.faults found c.give_back_found.new.reads.items (c.give_back_found.ensures.reads ∙ ap (λ fs. map found_read fs) whole) c.read_each.ensures.each

pub returns-clause-counted : goal.returns-clause-counted
returns-clause-counted g c =
    let faults = g.F.Source.Source.faults in
    let found = c.read_each.new.found in
    let whole = changed_whole c.with_types.new.found.len found _ (c.read_each.ensures.count ∙ c.as_mut_slice.ensures.len) in
    let reads : c.give_back_found.new.reads.items ≡ map found_read found = c.give_back_found.ensures.reads ∙ ap (λ fs. map found_read fs) whole in
    let calm : list_any is_failed (map found_read found) ≡ false = subst (λ xs. list_any is_failed xs ≡ false) (c.deref.ensures.value ∙ reads) (sym c.have_failed.ensures ∙ c.if-have_failed.false) in
    let same : g.F.Files.faults c.find_sources.new.files ≡ g.F.Files.faults c.args.files.now = c.in_ok-sources.ensures.counted in
    let few : g.F.Files.faults c.find_sources.new.files < last_count = subst (λ n. n < last_count) (sym same) c.requires in
    c.give_back_found.ensures.counted
    ∙ (ap (λ fs. count_with faults (g.F.Files.faults c.find_sources.new.files) (map found_source fs)) whole
    ∙ (found_kept faults found c.read_each.ensures.each calm (g.F.Files.faults c.find_sources.new.files) (omega (arith, few)) ∙ same))
