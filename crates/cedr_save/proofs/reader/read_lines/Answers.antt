use Rattle.std.proofs.Common.{[], length, refl, ap, sym, ◌∙◌, arith, rules}
use Rattle.cedr_save.proofs.ReaderLemmas.{counted, some_parts, part_whole, line_refused}
use Rattle.cedr_save.proofs.reader.read_lines.Goals as goal

pub loop-line-init : goal.loop-line-init
loop-line-init c = record {
  before = [];
  stands = c.requires.new;
  all = sym c.new-parts.ensures;
  count = refl;
  some = λ none. some_parts c.args.bytes.now (sym c.new-parts.ensures ∙ none);
}

pub overflow_add-number : goal.overflow_add-number
overflow_add-number c =
    let read = c.loop-line.invariant in
    omega (arith, counted c.args.bytes.now read.before c.loop-line.parts read.all c.requires.short, read.count)

pub read_end-requires-clause-counted : goal.read_end-requires-clause-counted
read_end-requires-clause-counted c =
    let read = c.loop-line.invariant in
    omega (arith, counted c.args.bytes.now read.before c.loop-line.parts read.all c.requires.short, read.count, ap length c.in-Some.ensures.steps)

pub read_end-requires-clause-whole : goal.read_end-requires-clause-whole
read_end-requires-clause-whole c =
    let read = c.loop-line.invariant in
    part_whole c.args.bytes.now read.before c.loop-line.parts c.in-Some.line.now c.next.new.self read.all c.in-Some.ensures.steps

pub take-requires : goal.take-requires
take-requires c =
    let read = c.loop-line.invariant in
    part_whole c.args.bytes.now read.before c.loop-line.parts c.in-Some.line.now c.next.new.self read.all c.in-Some.ensures.steps

pub returns-then-not-branch : goal.returns-then-not-branch
returns-then-not-branch c =
    line_refused c.loop-line.reader c.args.nodes.now c.args.bytes.now c.loop-line.number c.loop-line.parts c.in-Some.line.now c.next.new.self _ c.take.new.self c.requires.named c.loop-line.invariant c.in-Some.ensures.steps c.if-is_empty.ensures c.in_ok-take.ensures (search rules)
