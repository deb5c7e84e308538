use Rattle.std.proofs.Common.{refl}
use Rattle.cedr_net.proofs.work.Work.new.Goals as goal

pub returns : goal.returns
returns c =
    let e = c.in_ok-made.ensures in
    record { other = λ isnt. (c.in_ok-made.made, refl, e.made_of, e.stands); source = λ is. absurd (let a = is in let b = c.if-is_source.false in cc) }
