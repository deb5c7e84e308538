use Rattle.std.proofs.Common.{sym, subst}
use Rattle.cedr_plan.specs.Places.{output_place}
use Rattle.node_laws.specs.Lists.{list_at}
use Rattle.cedr_net.specs.Networks.{NetStands}
use Rattle.cedr_net.specs.declared.stream.StreamNet.{StreamNet}
use Rattle.cedr_net.proofs.stream.StreamNet.take_messages.Goals as goal

pub returns-clause-taken : goal.returns-clause-taken
returns-clause-taken c = λ nodes ports given stands.
    let h = subst (λ (net : StreamNet). NetStands nodes net ports given) (sym c.self.view_is) stands in
    let s = h.stands in
    let t = c.in_ok-taken.ensures.some (list_at given (output_place nodes)) s.answer in (
      t.0,
      record {
        usable = h.usable;
        stands = record {
          flows = s.flows;
          readers_count = s.readers_count;
          readers = s.readers;
          output = s.output;
          output_within = s.output_within;
          unread = s.unread;
          one_port = s.one_port;
          answer = t.1;
          reach = s.reach;
        };
      },
    )
