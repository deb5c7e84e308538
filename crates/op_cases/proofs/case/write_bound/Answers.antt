use Rattle.op_cases.proofs.case.write_bound.Goals as goal

-- what stands for the marks stands for the later ones too
pub bound-requires : goal.bound-requires
bound-requires g c =
    let risen = c.may_rise.ensures c.if-may_rise.true in (
      c.args.tables.now,
      (g.met.O.Operator.lawful c.args.op.now).rising c.args.tables.now c.args.marks.now c.args.later.now c.requires.stands risen.0,
      risen.1,
    )
