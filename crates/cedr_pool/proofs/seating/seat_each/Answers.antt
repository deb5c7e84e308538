use Rattle.std.proofs.Common.{◌≡◌, ◌<◌, [], ◌∷◌, ◌++◌, length, map, sym, ap, ◌∙◌, subst, arith, rules}
use Rattle.std.specs.List.{All}
use Rattle.std.specs.Vec.{vec_capacity}
use Rattle.std.proofs.lemmas.List.{append-nil}
use Rattle.std.proofs.lemmas.List.Elements.{All-nil, All-push}
use Rattle.cedr_pool.specs.Seats.{HoldsNone, IsRowFor, IsSeated, pass_of}
use Rattle.cedr_pool.proofs.SeatLemmas.{first_seated, others_wait, seats_more, seats_room}
use Rattle.cedr_pool.proofs.seating.seat_each.Goals as goal

pub loop-pass-init : goal.loop-pass-init
loop-pass-init g c = record {
  so = subst (λ ss. map pass_of ss ++ c.from_vec-left.result.items ≡ c.args.passes.items) (sym c.requires.seats.0) c.from_vec-left.ensures.items;
  left = search rules;
  count = search rules;
  seated = subst (All IsSeated) (sym c.requires.seats.0) (All-nil IsSeated);
  room = search rules;
}

pub push_reserved-requires : goal.push_reserved-requires
push_reserved-requires g c =
    let is : c.loop-pass.left.items ≡ c.in-Some.pass ∷ c.pop_front.new.self.items = search rules in
    let room : length c.loop-pass.seats.items < vec_capacity c.loop-pass.seats =
    seats_room c.args.passes.items c.loop-pass.seats.items c.loop-pass.left.items c.pop_front.new.self.items c.in-Some.pass (vec_capacity c.args.seats) (vec_capacity c.loop-pass.seats) c.loop-pass.invariant.so is c.requires.seats.1 c.loop-pass.invariant.room in
    search rules

pub loop-pass-preserved : goal.loop-pass-preserved
loop-pass-preserved g c =
    let is : c.loop-pass.left.items ≡ c.in-Some.pass ∷ c.pop_front.new.self.items = search rules in
    let row : c.loop-pass.rows.items ≡ c.in-Some-pop_front.row ∷ c.pop_front-in-Some.new.self.items = search rules in
    let waits = c.loop-pass.invariant.left in
    record {
      so = seats_more c.args.passes.items c.loop-pass.seats.items c.push_reserved.new.self.items c.loop-pass.left.items c.pop_front.new.self.items c.in-Some.pass _ c.loop-pass.invariant.so is c.push_reserved.ensures.items (search rules);
      left = (let others = others_wait waits.0 c.loop-pass.left.items c.pop_front.new.self.items c.in-Some.pass c.loop-pass.rows.items c.pop_front-in-Some.new.self.items c.in-Some-pop_front.row waits.1 waits.2 is row in (waits.0, others.0, others.1));
      count = omega (arith, c.loop-pass.invariant.count, ap length is, ap length row);
      seated = subst (All IsSeated) (sym c.push_reserved.ensures.items) (All-push IsSeated c.loop-pass.seats.items _ c.loop-pass.invariant.seated (first_seated waits.0 c.loop-pass.left.items c.pop_front.new.self.items c.loop-pass.rows.items c.pop_front-in-Some.new.self.items _ waits.1 waits.2 is row));
      room = c.push_reserved.ensures.capacity ∙ c.loop-pass.invariant.room;
    }

pub returns-clause-passes : goal.returns-clause-passes
returns-clause-passes g c =
    let none : c.loop-pass.left.items ≡ [] = search rules in
    sym (append-nil (map pass_of c.loop-pass.seats.items)) ∙ (ap (λ ps. map pass_of c.loop-pass.seats.items ++ ps) (sym none) ∙ c.loop-pass.invariant.so)
