use Rattle.std.proofs.Common.{◌++◌, ◌∙◌, [], ap, sym, refl, length, map, replicate, None}
use Rattle.op_group.specs.Groups.{least_in, greatest_in}
use Rattle.op_group.proofs.ExtremeLists.{nones}
use Rattle.op_group.proofs.segment.Totals.nothing.Goals as goal

pub returns : goal.returns
returns c =
    let sums = c.in_ok-sums.ensures.items_if_clones_equal (λ y same. same) ∙ ap (λ cs. replicate (length cs) 0) c.columns.ensures in
    let least = c.in_ok-put_none.ensures
    ∙ (ap (λ xs. xs ++ replicate (length c.columns-2.result.now) None) c.new-extremes.ensures.items
    ∙ (ap (λ cs. replicate (length cs) None) c.columns-2.ensures ∙ sym (nones (least_in []) (λ column. refl) c.args.asked.now.least))) in
    let extremes = c.in_ok-put_none-2.ensures
    ∙ (ap (λ xs. xs ++ replicate (length c.columns-3.result.now) None) least
    ∙ ap (λ xs. map (least_in []) c.args.asked.now.least ++ xs) (ap (λ cs. replicate (length cs) None) c.columns-3.ensures ∙ sym (nones (greatest_in []) (λ column. refl) c.args.asked.now.greatest))) in
    λ i. record { sums = sums i; extremes = extremes i }
