use Rattle.std.proofs.Common.{◌≡◌, [], refl, length, ap, subst, arith}
use Rattle.plan_serial.specs.Rounds.{ByLine, entries_at}
use Rattle.plan_serial.proofs.FeedLemmas.{fed_either, none_either, none_left, fed_further, fed_each, taken_none, taken_more, taken_all}
use Rattle.plan_serial.proofs.feeding.feed_each.Goals as goal

pub loop-place-init : goal.loop-place-init
loop-place-init c = record {
  stands = λ nodes ports given h may. record { given' = given; stands = h; may = may; fed = λ k within. absurd (omega arith); rest = λ k within. refl; rest_left = λ k within. refl };
  fed = λ is. absurd (let e = is in cc);
  none = λ isnt. (refl, λ k within. absurd (omega arith));
  taken = taken_none c.args.remaining.now.items;
}

pub feed_one-requires : goal.feed_one-requires
feed_one-requires c =
    let r = c.requires in
    let u = c.loop-place.invariant.stands r.0 r.1 r.2 r.3 r.4 in
    (r.0, r.1, u.given', u.stands, u.may, omega (arith, r.4.count, c.loop-place-test.true, c.len-place-end.ensures))

pub loop-place-preserved : goal.loop-place-preserved
loop-place-preserved c =
    let inv = c.loop-place.invariant in
    let now = c.in_ok-fed.ensures in
    let first = c.args.remaining.now.items in
    let old = c.loop-place.remaining.items in
    let new = c.feed_one.new.remaining.items in
    record {
      stands = λ nodes ports given h may.
          let u = inv.stands nodes ports given h may in
          fed_further nodes c.loop-place.net c.feed_one.new.net ports given first old new c.loop-place.place u
          (now.stands nodes ports u.given' u.stands u.may (omega (arith, may.count, c.loop-place-test.true, c.len-place-end.ensures))) now.taken;
      fed = fed_either c.loop-place.fed c.in_ok-fed.field-0 first old new inv.fed (λ isnt. (inv.none isnt).0) now.fed (λ isnt. (now.none isnt).1);
      taken = taken_more c.loop-place.place first old new inv.taken now.taken;
      none = none_either c.loop-place.fed c.in_ok-fed.field-0 first old new c.loop-place.place inv.none now.none;
    }

pub returns-clause-stands : goal.returns-clause-stands
returns-clause-stands c = λ nodes ports given h may.
    fed_each nodes c.loop-place.net ports given c.args.remaining.now.items c.loop-place.remaining.items c.loop-place.place (omega (arith, c.loop-place-test.false, c.loop-place.auto.place-end, c.len-place-end.ensures)) (c.loop-place.invariant.stands nodes ports given h may)

pub returns-clause-none : goal.returns-clause-none
returns-clause-none c = λ isnt k.
    let n = c.loop-place.invariant.none isnt in
    let none_now = none_left c.loop-place.remaining.items c.loop-place.place k (omega (arith, ap (λ (ls : ByLine). length ls) n.0, c.loop-place-test.false, c.len-place-end.ensures)) n.1 in
    subst (λ (ls : ByLine). entries_at ls k ≡ []) n.0 none_now

pub returns-clause-taken : goal.returns-clause-taken
returns-clause-taken c = taken_all c.loop-place.place c.args.remaining.now.items c.loop-place.remaining.items (omega (arith, c.loop-place-test.false, c.loop-place.auto.place-end, c.len-place-end.ensures)) c.loop-place.invariant.taken
