use Rattle.std.proofs.Common.{◌≡◌, ◌+◌, ◌%◌, ◌^◌, ◌<◌, ap, ◌∙◌, refl, length, get_or, ℕ, List, rules, add-one}
use Rattle.std.proofs.Math.ListN.{set, length-set}
use Rattle.std.proofs.lemmas.List.{get_or_default}
use Rattle.op_group.proofs.SumLemmas.{summed_more, summed_all, summed_start}
use Rattle.op_group.proofs.segment.add_numbers.Goals as goal

pub loop-i-init : goal.loop-i-init
loop-i-init c = record { added = summed_start c.args.sums.now.items; same_length = refl }

pub loop-i-preserved : goal.loop-i-preserved
loop-i-preserved c =
    let i = c.loop-i.i in
    let xs = c.args.sums.now.items in
    let ns = c.args.numbers.now in
    let inv = c.loop-i.invariant in
    let in_xs : i < length xs = search rules in
    let in_ns : i < length ns = search rules in
    let in_now : i < length c.loop-i.sums.items = search rules in
    let item : c.index.result.now ≡ get_or c.loop-i.sums.items i 0 = c.index.ensures ∙ get_or_default c.loop-i.sums.items i c.index.result.now 0 in_now in
    record {
      added = rw add-one (ap (λ n. set c.loop-i.sums.items i ((n + get_or ns i 0) % 2 ^ 128)) item ∙ (ap (λ (ys : List ℕ). set ys i ((get_or ys i 0 + get_or ns i 0) % 2 ^ 128)) inv.added ∙ summed_more xs ns i in_xs in_ns));
      same_length = length-set c.loop-i.sums.items i _ ∙ inv.same_length;
    }

pub returns : goal.returns
returns c =
    let inv = c.loop-i.invariant in
    inv.added ∙ summed_all c.args.sums.now.items c.args.numbers.now c.loop-i.i (search rules)
