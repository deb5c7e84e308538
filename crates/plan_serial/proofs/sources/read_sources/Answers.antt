use Rattle.std.proofs.Common.{◌≡◌, ◌<◌, ◌++◌, ◌∷◌, [], List, ℕ, length, get_or, take, ap, sym, subst, ◌∙◌, rules, arith, append_assoc}
use Rattle.std.specs.Prelude.{Option, IfSome}
use Rattle.std.proofs.lemmas.List.{take_more, length-take}
use Rattle.cedr_plan.specs.declared.plan.PlanNode.{PlanNode}
use Rattle.plan_runs.proofs.PlanNodes.{split}
use Rattle.plan_serial.specs.Sources.{AnswersFile, AreReadByLine}
use Rattle.plan_answer.specs.Sources.{AreTold, AsksFirst, file_of, files_of, source_files}
use Rattle.plan_answer.proofs.TextLemmas.{node_there}
use Rattle.plan_serial.proofs.SourceLemmas.{told_at, read_more, asked_on, counted_on, sources_on}
use Rattle.plan_answer.proofs.SourceLemmas.{files_more, asks_on, asked_whole}
use Rattle.plan_serial.proofs.sources.read_sources.Goals as goal
use Rattle.std.proofs.Math.Seq.{take-append_seam}

pub loop-place-preserved : goal.loop-place-preserved
loop-place-preserved g c =
    let nodes = c.args.nodes.now in
    let loop = c.loop-place in
    let place = loop.place in
    let inv = loop.invariant in
    let n = c.index-nodes-place.result in
    let read = c.read_node-read in
    let noted = c.in_ok-note.ensures.noted in
    let within : place < length nodes = search rules in
    let here : get_or nodes place n ≡ n = sym c.index-nodes-place.is in
    let s = split nodes place within in
    let same : s.node ≡ n = sym (node_there nodes s.before s.after s.node n place s.whole s.place) ∙ here in
    let wide : length (take place nodes) ≡ place = omega (arith, length-take place nodes) in
    record {
      told = λ told h.
          subst (λ (ns : List PlanNode). AreReadByLine told ns c.note.new.self.left.items c.note.new.self.faulty.items) (sym (take_more nodes place n within ∙ ap (λ (m : PlanNode). take place nodes ++ m ∷ []) here))
          (read_more told (g.F.Files.content c.args.files.now) (take place nodes) loop.so_far c.note.new.self n read.result place wide
          (subst (λ (m : PlanNode). AreTold (g.F.Files.content c.args.files.now) told (files_of m)) same (told_at (g.F.Files.content c.args.files.now) told s.before s.after s.node (subst (λ (ns : List PlanNode). AreTold (g.F.Files.content c.args.files.now) told (source_files ns)) s.whole h)))
          (inv.told told h)
          (λ is. subst (λ (o : Option (List ℕ)). IfSome o (λ all. AnswersFile c.read_node-read.result n.types.items all)) (inv.contents (file_of n.kind)) (read.ensures.answer is))
          read.ensures.none noted);
      asked = asked_on read.result loop.so_far c.note.new.self place (g.F.Files.asked loop.files) (g.F.Files.asked read.new.files) (files_of n) noted read.ensures.asked
          ∙ (ap (λ (ns : List (List ℕ)). ns ++ files_of n) inv.asked ∙ (append_assoc (g.F.Files.asked c.args.files.now) (source_files (take place nodes)) (files_of n) ∙ ap (λ (ns : List (List ℕ)). g.F.Files.asked c.args.files.now ++ ns) (sym (files_more nodes place n within here))));
      counted = counted_on read.result loop.so_far c.note.new.self place (g.F.Files.faults loop.files) (g.F.Files.faults read.new.files) noted read.ensures.counted ∙ inv.counted;
      contents = λ k. read.ensures.contents k ∙ inv.contents k;
      sources = sources_on nodes place loop.so_far c.note.new.self n read.result inv.sources within here read.ensures.legal read.ensures.none noted;
    }

pub returns-in_err-note-clause-asked : goal.returns-in_err-note-clause-asked
returns-in_err-note-clause-asked g c =
    let nodes = c.args.nodes.now in
    let loop = c.loop-place in
    let place = loop.place in
    let n = c.index-nodes-place.result in
    let within : place < length nodes = search rules in
    let s = split nodes place within in
    let same : s.node ≡ n = sym (node_there nodes s.before s.after s.node n place s.whole s.place) ∙ sym c.index-nodes-place.is in
    let front : take place nodes ≡ s.before = ap (λ (k : ℕ). take k nodes) (sym s.place) ∙ (ap (λ (ns : List PlanNode). take (length s.before) ns) s.whole ∙ take-append_seam s.before (s.node ∷ s.after)) in
    subst (λ (ns : List PlanNode). AsksFirst (g.F.Files.asked c.args.files.now) (g.F.Files.asked c.read_node-read.new.files) (source_files ns)) (ap (λ (m : PlanNode). s.before ++ m ∷ s.after) (sym same) ∙ sym s.whole)
    (asks_on (g.F.Files.asked c.args.files.now) (g.F.Files.asked loop.files) (g.F.Files.asked c.read_node-read.new.files) s.before s.after n c.read_node-read.result
    (loop.invariant.asked ∙ ap (λ (ns : List PlanNode). g.F.Files.asked c.args.files.now ++ source_files ns) front) c.read_node-read.ensures.asked)

pub returns-then-is_empty-clause-asked : goal.returns-then-is_empty-clause-asked
returns-then-is_empty-clause-asked g c = asked_whole _ _ c.args.nodes.now c.loop-place.place (omega arith) c.loop-place.invariant.asked

pub returns-clause-asked : goal.returns-clause-asked
returns-clause-asked g c = asked_whole _ _ c.args.nodes.now c.loop-place.place (omega arith) c.loop-place.invariant.asked
