use Rattle.std.proofs.Common.{◌≡◌, ◌<◌, ◌++◌, ◌∷◌, [], List, ℕ, true, false, Bool, length, get_or, take, drop, ap, sym, refl, subst, ◌∙◌, rules, arith}
use Rattle.std.specs.Prelude.{Option, IfSome, Err}
use Rattle.std.proofs.lemmas.List.{take_more, length-take}
use Rattle.cedr_plan.specs.declared.plan.PlanNode.{PlanNode}
use Rattle.cedr_plan.specs.Places.{is_source}
use Rattle.cedr_source.specs.declared.fault.Unread.TheVariants as unread
use Rattle.plan_runs.proofs.PlanNodes.{split}
use Rattle.plan_answer.specs.declared.faulty.FaultySource.{FaultySource}
use Rattle.plan_answer.specs.Sources.{AreTold, files_of, source_files}
use Rattle.plan_answer.proofs.TextLemmas.{node_there}
use Rattle.plan_serial.specs.Sources.{AreReadByLine, IsNothing}
use Rattle.plan_serial.specs.declared.sources.SourcesFault.TheVariants as sources_fault
use Rattle.plan_serial.proofs.NotingLemmas.{some_left, own_read, own_legal, left_more, failed_among, none_there, passed_on, read_whole}
use Rattle.plan_serial.proofs.SourceLemmas.{told_at, read_more, sources_on}
use Rattle.plan_serial.proofs.noting.note_sources.Goals as goal

pub next_read-read-requires : goal.next_read-read-requires
next_read-read-requires c = some_left c.args.nodes.now c.loop-place.place c.index-nodes-place.result (search rules) c.index-nodes-place.is c.args.reads.items c.requires.count c.loop-place.rest.items c.loop-place.invariant.left

pub loop-place-preserved : goal.loop-place-preserved
loop-place-preserved c =
    let nodes = c.args.nodes.now in
    let reads = c.args.reads.items in
    let loop = c.loop-place in
    let place = loop.place in
    let inv = loop.invariant in
    let n = c.index-nodes-place.result in
    let read = c.next_read-read in
    let noted = c.in_ok-note.ensures.noted in
    let within : place < length nodes = search rules in
    let at = c.index-nodes-place.is in
    let here : get_or nodes place n ≡ n = sym at in
    let s = split nodes place within in
    let same : s.node ≡ n = sym (node_there nodes s.before s.after s.node n place s.whole s.place) ∙ here in
    let wide : length (take place nodes) ≡ place = omega (arith, length-take place nodes) in
    let none : is_source n.kind ≡ false → IsNothing read.result = λ isnt. (read.ensures.other isnt).0 in
    record {
      told = λ content told h of.
          subst (λ (ns : List PlanNode). AreReadByLine told ns c.note.new.self.left.items c.note.new.self.faulty.items) (sym (take_more nodes place n within ∙ ap (λ (m : PlanNode). take place nodes ++ m ∷ []) here))
          (read_more told content (take place nodes) loop.so_far c.note.new.self n read.result place wide
          (subst (λ (m : PlanNode). AreTold content told (files_of m)) same (told_at content told s.before s.after s.node (subst (λ (ns : List PlanNode). AreTold content told (source_files ns)) s.whole h)))
          (inv.told content told h of)
          (λ is. of place n read.result within at is (own_read nodes place n within at reads c.requires.count loop.rest.items read.new.reads.items read.result inv.left is (read.ensures.source is)).0)
          none noted);
      left = left_more nodes place n within at reads c.requires.count loop.rest.items read.new.reads.items read.result inv.left read.ensures.source (λ isnt. (read.ensures.other isnt).1);
      sources = sources_on nodes place loop.so_far c.note.new.self n read.result inv.sources within here
          (own_legal nodes place n within at reads loop.rest.items read.new.reads.items read.result c.requires.count c.requires.legal inv.left read.ensures.source none) none noted;
    }

pub returns-in_err-note-clause-failed : goal.returns-in_err-note-clause-failed
returns-in_err-note-clause-failed c = λ is.
    let nodes = c.args.nodes.now in
    let loop = c.loop-place in
    let n = c.index-nodes-place.result in
    let read = c.next_read-read in
    let within : loop.place < length nodes = search rules in
    let none : is_source n.kind ≡ false → IsNothing read.result = λ isnt. (read.ensures.other isnt).0 in
    let failed : c.in_err-note.field-0.0 ≡ sources_fault.Read = search rules in
    failed_among nodes loop.place n within c.index-nodes-place.is c.args.reads.items loop.rest.items read.new.reads.items read.result c.requires.count loop.invariant.left read.ensures.source none
    (passed_on c.note.result c.in_err-note.field-0.0 read.result (search rules) failed c.note.ensures.fault)

pub returns-then-is_empty-clause-answer : goal.returns-then-is_empty-clause-answer
returns-then-is_empty-clause-answer c = λ content told h of.
    let so_far = c.loop-place.so_far in
    let empty : length so_far.faulty.items ≡ 0 = search rules in
    subst (λ (faulty : List FaultySource). AreReadByLine told c.args.nodes.now so_far.left.items faulty) (none_there so_far.faulty.items empty)
    (read_whole told c.args.nodes.now c.loop-place.place so_far.left.items so_far.faulty.items (omega arith) (c.loop-place.invariant.told content told h of))

pub returns-clause-answer : goal.returns-clause-answer
returns-clause-answer c = λ content told h of.
    let so_far = c.loop-place.so_far in
    (so_far.left.items, read_whole told c.args.nodes.now c.loop-place.place so_far.left.items so_far.faulty.items (omega arith) (c.loop-place.invariant.told content told h of), search rules)
