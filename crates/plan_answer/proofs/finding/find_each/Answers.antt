use Rattle.std.proofs.Common.{◌++◌, ◌∙◌, ℕ, List, ap, sym, arith, append_assoc}
use Rattle.plan_answer.specs.Sources.{files_of}
use Rattle.plan_answer.proofs.SourceLemmas.{files_more}
use Rattle.plan_answer.proofs.FindLemmas.{asks_more, found_more}
use Rattle.plan_answer.proofs.finding.find_each.Goals as goal

pub loop-node-preserved : goal.loop-node-preserved
loop-node-preserved g c =
    let nodes = c.args.nodes.now in
    let l = c.loop-node in
    let n = c.node-item.result in
    let found = c.in-Ok.ensures in
    record {
      found = found_more g.F.Source.Source.rest (g.F.Files.content c.args.files.now) (g.F.Files.content l.files) nodes l.node-index n l.sources.items c.find_node.new.sources.items
          c.loop-node-test.true (sym c.node-item.is) l.invariant.contents l.invariant.found found.found;
      fresh = found.fresh l.invariant.fresh;
      room = omega (arith, found.count, l.invariant.room);
      capacity = found.room ∙ l.invariant.capacity;
      counted = found.counted ∙ l.invariant.counted;
      asked = found.asked ∙ (ap (λ (ns : List (List ℕ)). ns ++ files_of n) l.invariant.asked ∙ (append_assoc (g.F.Files.asked c.args.files.now) _ (files_of n)
          ∙ ap (λ (ns : List (List ℕ)). g.F.Files.asked c.args.files.now ++ ns) (sym (files_more nodes l.node-index n c.loop-node-test.true (sym c.node-item.is)))));
      contents = λ k. found.contents k ∙ l.invariant.contents k;
    }

pub returns-in-Err-clause-asked : goal.returns-in-Err-clause-asked
returns-in-Err-clause-asked g c =
    asks_more (g.F.Files.asked c.args.files.now) (g.F.Files.asked c.loop-node.files) (g.F.Files.asked c.find_node.new.files) c.args.nodes.now c.loop-node.node-index c.node-item.result
    c.loop-node-test.true (sym c.node-item.is) c.loop-node.invariant.asked c.in-Err.ensures.asked
