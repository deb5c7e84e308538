-- What is left of one worker that ended, by what the worker was.
use Rattle.std.proofs.Common.{◌≡◌, ℕ, zero, suc, ◌<◌, true, false, List, [], ◌∷◌, ◌++◌, length, map, Option, refl, sym, ap, ◌∙◌, subst, arith}
use Rattle.std.specs.Prelude.{sum, sum_by, Vec}
use Rattle.std.specs.declared.alloc.Global.{Global}
use Rattle.std.specs.List.{All}
use Rattle.std.proofs.lemmas.Bool.{and_parts}
use Rattle.std.proofs.lemmas.List.{length-map}
use Rattle.std.proofs.lemmas.List.Sums.{sum-map}
use Rattle.cedr_edge.specs.Ends.{InEnd, OutEnd, as_u64, taken_of}
use Rattle.node_laws.specs.Lawful.{is_over, all_over}
use Rattle.cedr_node.specs.declared.node.Node.{Node}
use Rattle.cedr_node.specs.Nodes.{made_of}
use Rattle.worker_outlets.specs.Outgoing.{Outgoing, last_message}
use Rattle.worker_outlets.specs.Outlets.{outlet_edge, sent_of, sent_count, end_edge, end_sent}
use Rattle.cedr_plan.specs.Drawn.{node_of}
use Rattle.plan_edges.specs.Wires.{in_edge, out_edge}
use Rattle.cedr_worker.specs.declared.operator.OperatorEnd.{OperatorEnd}
use Rattle.cedr_worker.specs.declared.operator.OperatorWorker.{OperatorWorker}
use Rattle.cedr_worker.specs.declared.source.SourceEnd.{SourceEnd}
use Rattle.cedr_worker.specs.declared.source.SourceWorker.{SourceWorker}
use Rattle.cedr_worker.specs.Inputs.{taken_count, taken_in}
use Rattle.cedr_worker.specs.Operators.{LostEnd, SoundEnd}
use Rattle.cedr_worker.specs.Sources.{SourceEnds}
use Rattle.cedr_worker.specs.Stops.{last_at}
use Rattle.plan_workers.specs.declared.ended.Part.TheVariants as part
use Rattle.plan_workers.specs.Ends.{EndsAs, sent_length}
use Rattle.plan_workers.specs.Roles.{Role, ReadsAs, OperatesAs}

-- where the same was sent over each end as over its edge, as many messages were
sent_lengths : (outs : List OutEnd) (os : List Outgoing) → map end_sent outs ≡ map sent_of os → map sent_length outs ≡ map (λ (o : Outgoing). length o.sent) os
sent_lengths [] [] same = refl
sent_lengths [] (o ∷ os) same = absurd (cc same)
sent_lengths (e ∷ outs) [] same = absurd (cc same)
sent_lengths (e ∷ outs) (o ∷ os) same =
    let head : e.sent ≡ o.sent = cc same in
    let rest : map end_sent outs ≡ map sent_of os = cc same in
    cc (ap length head, sent_lengths outs os rest)

-- and over all of them
sent_same : (outs : List OutEnd) (os : List Outgoing) → map end_sent outs ≡ map sent_of os → sum_by sent_length outs ≡ sent_count os
sent_same outs os same = sym (sum-map sent_length outs) ∙ (ap sum (sent_lengths outs os same) ∙ sum-map (λ (o : Outgoing). length o.sent) os)

-- where all inputs are over, each is
each_over : (es : List InEnd) → all_over (taken_in es) ≡ true → All (λ (e : InEnd). is_over e.taken ≡ true) es
each_over [] over k d less = absurd (omega (arith, less))
each_over (e ∷ es) over zero d less = (and_parts (is_over e.taken) (all_over (taken_in es)) over).0
each_over (e ∷ es) over (suc k) d less = each_over es (and_parts (is_over e.taken) (all_over (taken_in es)) over).1 k d (omega (arith, less))

-- no end is an end of what isn't over
none_over : (es : List InEnd) → es ≡ [] → All (λ (e : InEnd). is_over e.taken ≡ true) es
none_over [] none k d less = absurd (omega (arith, less))
none_over (e ∷ es) none k d less = absurd (cc none)

-- a source's end without its out edges says the same of what was sent
pub source_ends : {S R : Type 0} (rest : S → Option (List ℕ)) (faults : S → ℕ) (role : Role) (w : SourceWorker S) (e : SourceEnd S) (empty : Vec OutEnd Global) (takers : List InEnd) (putters : List OutEnd)
    → ReadsAs rest faults role w → SourceEnds rest faults role.shape role.content role.count e → empty.items ≡ [] → takers ≡ [] → putters ≡ e.outputs.items
    → map end_edge e.outputs.items ≡ map outlet_edge w.outlets → map end_sent e.outputs.items ≡ map sent_of w.outlets
    → (e.ran.number ≡ w.number) × (e.ran.taken ≡ 0) × (e.ran.put ≡ as_u64 (sent_count w.outlets)) → e.number ≡ w.number
    → EndsAs {S = S} {R = R} rest faults role (record { takers = takers; putters = putters; ran = e.ran; part = part.Source (record e { outputs = empty }) })
source_ends rest faults role w e empty takers putters reads ends nothing none puts edges sent ran number = record {
  number = ran.0 ∙ reads.number;
  takes = ap (map in_edge) none ∙ sym reads.takes;
  puts = ap (map out_edge) puts ∙ (edges ∙ reads.puts);
  over = none_over takers none;
  ran_taken = ran.1 ∙ ap (λ (es : List InEnd). as_u64 (taken_count es)) (sym none);
  ran_put = ran.2 ∙ ap as_u64 (sym (ap (sum_by sent_length) puts ∙ sent_same e.outputs.items w.outlets sent));
  part_is = record {
    kind = reads.kind;
    types = reads.types;
    takes = reads.takes;
    number = number ∙ reads.number;
    outputs = nothing;
    ends = record {
      bytes = ends.bytes;
      few = ends.few;
      given = ends.given;
      ended = ends.ended;
      read = ends.read;
      at_end = ends.at_end;
      is_given = ends.is_given;
      stopped = ends.stopped;
      counted = ends.counted;
      sent = subst (All (λ (o : OutEnd). o.sent ≡ ends.given ++ last_message (last_at e.stop) ∷ [])) (sym nothing) (λ k d less. absurd (omega (arith, less)));
    };
    sent = subst (All (λ (o : OutEnd). o.sent ≡ ends.given ++ last_message (last_at e.stop) ∷ [])) (sym puts) ends.sent;
  };
}

-- an operator's end says that each input is over, since some node reads it
pub operator_ends : {S R : Type 0} (rest : S → Option (List ℕ)) (faults : S → ℕ) (role : Role) (w : OperatorWorker) (e : OperatorEnd) (takers : List InEnd) (putters : List OutEnd)
    → OperatesAs role w → takers ≡ e.inputs.items → putters ≡ e.outputs.items → e.node ≡ w.node → e.inputs ≡ w.inputs
    → map end_edge e.outputs.items ≡ map outlet_edge w.outlets → map end_sent e.outputs.items ≡ map sent_of w.outlets
    → (e.lacked ≡ false → SoundEnd e.node (taken_in e.inputs.items) e.outputs.items) → (e.lacked ≡ true → LostEnd (made_of e.node) (taken_in e.inputs.items) e.outputs.items)
    → (0 < length e.outputs.items → all_over (taken_in e.inputs.items) ≡ true)
    → (e.ran.number ≡ w.number) × (e.ran.taken ≡ as_u64 (taken_count w.inputs.items)) × (e.ran.put ≡ as_u64 (sent_count w.outlets))
    → EndsAs {S = S} {R = R} rest faults role (record { takers = takers; putters = putters; ran = e.ran; part = part.Operator e.node e.lacked })
operator_ends rest faults role w e takers putters works takes puts node inputs edges sent sound lost over ran =
    let count : length e.outputs.items ≡ length role.puts = sym (length-map e.outputs.items end_edge) ∙ ap length (edges ∙ works.puts) in
    let some : 0 < length e.outputs.items = omega (arith, works.read, count) in
    let same : takers ≡ w.inputs.items = takes ∙ ap (λ (v : Vec InEnd Global). v.items) inputs in
    record {
      number = ran.0 ∙ works.number;
      takes = ap (map in_edge) same ∙ works.takes;
      puts = ap (map out_edge) puts ∙ (edges ∙ works.puts);
      over = subst (All (λ (i : InEnd). is_over i.taken ≡ true)) (sym takes) (each_over e.inputs.items (over some));
      ran_taken = ran.1 ∙ ap (λ (es : List InEnd). as_u64 (taken_count es)) (sym same);
      ran_put = ran.2 ∙ ap as_u64 (sym (ap (sum_by sent_length) puts ∙ sent_same e.outputs.items w.outlets sent));
      part_is = record {
        source = works.source;
        output = works.output;
        made = ap (λ (n : Node). node_of (made_of n)) node ∙ works.made;
        sound = λ found. subst (λ (z : List InEnd × List OutEnd). SoundEnd e.node (map taken_of z.0) z.1) (λ i. (sym takes i, sym puts i)) (sound found);
        lost = λ lacks. subst (λ (z : List InEnd × List OutEnd). LostEnd (made_of e.node) (map taken_of z.0) z.1) (λ i. (sym takes i, sym puts i)) (lost lacks);
      };
    }
