use Rattle.std.proofs.Common.{◌≡◌, ◌+◌, [], ◌∷◌, length, refl, sym, ap, ◌∙◌, length-append, arith, rules}
use Rattle.crossbeam_queue.specs.Passes.{view as known}
use Rattle.pool_queue.specs.declared.claim.Claim.{Claim}
use Rattle.pool_queue.specs.Passes.{Holding}
use Rattle.pool_queue.proofs.Seating.{first_blank, rest_blank, seats_first, seats_next_as, seats_last}
use Rattle.pool_queue.proofs.room.seat_each.Goals as goal

pub loop-blank-init : goal.loop-blank-init
loop-blank-init g c =
    let is : c.args.blanks.items ≡ c.in-Some.mine ∷ c.pop_front.new.self.items = search rules in
    let len : length c.args.blanks.items ≡ length (c.in-Some.mine ∷ c.pop_front.new.self.items) = ap length is in
    let whole = c.requires.pass.0 in
    let few = c.requires.some.1 in
    let none : length c.args.passes.items ≡ 0 = ap length c.requires.passes.0 in
    record {
      of = refl;
      none = c.requires.pass.2;
      opened = refl;
      held = c.requires.pass.1;
      so = seats_first c.args.pass.table_id (known c.args.pass).opened (known c.args.pass).parts c.args.passes.items c.pop_front.new.self.items whole c.requires.passes.0 (omega (arith, len, whole, few)) (rest_blank c.args.pass.table_id (length (known c.args.pass).opened) c.args.blanks.items c.pop_front.new.self.items c.in-Some.mine c.requires.blanks is);
      count = omega (arith, len, none);
      room = refl;
    }

pub cut-made-requires-clause-of : goal.cut-made-requires-clause-of
cut-made-requires-clause-of g c =
    let is : c.loop-blank.left.items ≡ c.in-Some-pop_front.blank ∷ c.pop_front-in-loop-blank.new.self.items = search rules in
    let fit = first_blank c.args.pass.table_id (length (known c.args.pass).opened) c.loop-blank.left.items c.pop_front-in-loop-blank.new.self.items c.in-Some-pop_front.blank c.loop-blank.invariant.so.blank is in
    (c.loop-blank.invariant.of ∙ sym fit.0, c.loop-blank.invariant.none)

pub cut-made-requires-clause-size : goal.cut-made-requires-clause-size
cut-made-requires-clause-size g c =
    let is : c.loop-blank.left.items ≡ c.in-Some-pop_front.blank ∷ c.pop_front-in-loop-blank.new.self.items = search rules in
    let fit = first_blank c.args.pass.table_id (length (known c.args.pass).opened) c.loop-blank.left.items c.pop_front-in-loop-blank.new.self.items c.in-Some-pop_front.blank c.loop-blank.invariant.so.blank is in
    fit.1 ∙ ap length (sym c.loop-blank.invariant.opened)

pub loop-blank-preserved : goal.loop-blank-preserved
loop-blank-preserved g c =
    let is : c.loop-blank.left.items ≡ c.in-Some-pop_front.blank ∷ c.pop_front-in-loop-blank.new.self.items = search rules in
    let fit = first_blank c.args.pass.table_id (length (known c.args.pass).opened) c.loop-blank.left.items c.pop_front-in-loop-blank.new.self.items c.in-Some-pop_front.blank c.loop-blank.invariant.so.blank is in
    let right = c.cut-made.ensures.right in
    let left = c.cut-made.ensures.left in
    let longer : length c.push_reserved.new.self.items ≡ length c.loop-blank.passes.items + 1 = ap length c.push_reserved.ensures.items ∙ length-append c.loop-blank.passes.items (c.cut-made.result ∷ []) in
    let shorter : length c.loop-blank.left.items ≡ length (c.in-Some-pop_front.blank ∷ c.pop_front-in-loop-blank.new.self.items) = ap length is in
    let count = c.loop-blank.invariant.count in
    record {
      of = c.cut-made.ensures.queue.0 ∙ c.loop-blank.invariant.of;
      none = c.cut-made.ensures.queue.1;
      opened = ap (λ (v : Claim _). v.opened) left ∙ c.loop-blank.invariant.opened;
      held = ap (λ (v : Claim _). v.held) left ∙ c.loop-blank.invariant.held;
      so = seats_next_as c.args.pass.table_id (known c.args.pass).opened (known c.loop-blank.pass).parts (known c.cut-made.new.pass).parts c.loop-blank.passes.items c.push_reserved.new.self.items c.loop-blank.left.items c.pop_front-in-loop-blank.new.self.items c.in-Some-pop_front.blank c.cut-made.result c.loop-blank.invariant.so is
          (record { of = (ap (λ (h : Holding _). h.queue) right ∙ fit.0, ap (λ (h : Holding _). h.opened) right ∙ c.loop-blank.invariant.opened); none = ap (λ (h : Holding _). h.held) right; fresh = ap (λ (h : Holding _). h.refused) right })
          (ap (λ (h : Holding _). h.parts) right) (ap (λ (v : Claim _). v.parts) left) c.push_reserved.ensures.items;
      count = omega (arith, longer, shorter, count);
      room = c.push_reserved.ensures.capacity ∙ c.loop-blank.invariant.room;
    }

pub seat-made-requires-clause-of : goal.seat-made-requires-clause-of
seat-made-requires-clause-of g c =
    let is : c.args.blanks.items ≡ c.in-Some.mine ∷ c.pop_front.new.self.items = search rules in
    let fit = first_blank c.args.pass.table_id (length (known c.args.pass).opened) c.args.blanks.items c.pop_front.new.self.items c.in-Some.mine c.requires.blanks is in
    (c.loop-blank.invariant.of ∙ sym fit.0, c.loop-blank.invariant.none)

pub seat-made-requires-clause-size : goal.seat-made-requires-clause-size
seat-made-requires-clause-size g c =
    let is : c.args.blanks.items ≡ c.in-Some.mine ∷ c.pop_front.new.self.items = search rules in
    let fit = first_blank c.args.pass.table_id (length (known c.args.pass).opened) c.args.blanks.items c.pop_front.new.self.items c.in-Some.mine c.requires.blanks is in
    fit.1 ∙ ap length (sym c.loop-blank.invariant.opened)

pub returns-clause-all : goal.returns-clause-all
returns-clause-all g c =
    let is : c.args.blanks.items ≡ c.in-Some.mine ∷ c.pop_front.new.self.items = search rules in
    let fit = first_blank c.args.pass.table_id (length (known c.args.pass).opened) c.args.blanks.items c.pop_front.new.self.items c.in-Some.mine c.requires.blanks is in
    let e = c.seat-made.ensures in
    (seats_last c.args.pass.table_id (known c.args.pass).opened (known c.loop-blank.pass).parts c.loop-blank.passes.items c.push_reserved-2.new.self.items c.loop-blank.left.items c.seat-made.result c.loop-blank.invariant.so c.push_reserved-2.ensures.items
    (record { of = (ap (λ (h : Holding _). h.queue) e ∙ fit.0, ap (λ (h : Holding _). h.opened) e ∙ c.loop-blank.invariant.opened); none = ap (λ (h : Holding _). h.held) e ∙ c.loop-blank.invariant.held; fresh = ap (λ (h : Holding _). h.refused) e })
    (ap (λ (h : Holding _). h.parts) e)).1

pub returns-clause-new : goal.returns-clause-new
returns-clause-new g c =
    let is : c.args.blanks.items ≡ c.in-Some.mine ∷ c.pop_front.new.self.items = search rules in
    let fit = first_blank c.args.pass.table_id (length (known c.args.pass).opened) c.args.blanks.items c.pop_front.new.self.items c.in-Some.mine c.requires.blanks is in
    let e = c.seat-made.ensures in
    (seats_last c.args.pass.table_id (known c.args.pass).opened (known c.loop-blank.pass).parts c.loop-blank.passes.items c.push_reserved-2.new.self.items c.loop-blank.left.items c.seat-made.result c.loop-blank.invariant.so c.push_reserved-2.ensures.items
    (record { of = (ap (λ (h : Holding _). h.queue) e ∙ fit.0, ap (λ (h : Holding _). h.opened) e ∙ c.loop-blank.invariant.opened); none = ap (λ (h : Holding _). h.held) e ∙ c.loop-blank.invariant.held; fresh = ap (λ (h : Holding _). h.refused) e })
    (ap (λ (h : Holding _). h.parts) e)).0
