use Rattle.std.proofs.Common.{◌<◌, List, length, Err, ap, sym, ◌∙◌, subst, rules, arith}
use Rattle.std.proofs.lemmas.Result.{err_from_is_err_and}
use Rattle.std.proofs.lemmas.Iterator.Adapters.{YieldsList-from_vec}
use Rattle.std.proofs.lemmas.Iterator.Consumers.{YieldsList-turn, YieldsList-so_far, YieldsList-end}
use Rattle.cedr_base.specs.declared.change.Message.{Message}
use Rattle.node_laws.specs.Lists.{with_more}
use Rattle.cedr_net.specs.Networks.{NetStands}
use Rattle.cedr_net.proofs.FeedLemmas.{listed, one_more, next_of, next_may_come}
use Rattle.cedr_net.proofs.network.Network.feed_all.Goals as goal

pub feed-requires : goal.feed-requires
feed-requires c = λ usable.
    let l = c.loop-message in
    let r = c.requires c.if-self.false in
    let yields = YieldsList-from_vec {s = c.into_iter-message-iterator.result} c.args.messages.items (search rules) (search rules) in
    let so_far = sym (listed l.yielded) ∙ YieldsList-so_far yields l.yielded l.message-iterator l.yielded_by in
    let next = YieldsList-turn yields l.yielded l.message-iterator l.yielded_by c.next.result c.next.new.self c.in-Some.message c.in-Some.is c.next.ensures.steps in
    let within : c.args.node < length r.2 = omega (arith, r.3.stands.flows.given_count, r.4) in
    (r.0, r.1, with_more r.2 c.args.node l.yielded, l.invariant.stands r.0 r.1 r.2 r.3 r.4 r.5 r.6, r.4, r.5, next_may_come r.2 c.args.node l.yielded c.args.messages.items c.in-Some.message within r.6 (next_of l.yielded c.args.messages.items c.in-Some.message so_far next))

pub loop-message-preserved : goal.loop-message-preserved
loop-message-preserved c =
    let l = c.loop-message in
    let yields = YieldsList-from_vec {s = c.into_iter-message-iterator.result} c.args.messages.items (search rules) (search rules) in
    let so_far = sym (listed l.yielded) ∙ YieldsList-so_far yields l.yielded l.message-iterator l.yielded_by in
    let next = YieldsList-turn yields l.yielded l.message-iterator l.yielded_by c.next.result c.next.new.self c.in-Some.message c.in-Some.is c.next.ensures.steps in
    record {
      stands = λ nodes ports given h within source legal.
          let here : c.args.node < length given = omega (arith, h.stands.flows.given_count, within) in
          let may = next_may_come given c.args.node l.yielded c.args.messages.items c.in-Some.message here legal (next_of l.yielded c.args.messages.items c.in-Some.message so_far next) in
          subst (NetStands nodes c.feed.new.self ports) (one_more given c.args.node l.yielded c.in-Some.message here)
          (c.in_ok-feed.ensures.fed nodes ports (with_more given c.args.node l.yielded) (l.invariant.stands nodes ports given h within source legal) within source may);
      keeps = c.feed.ensures.keeps ∙ l.invariant.keeps;
    }

-- a message is refused as spent only where the network is, and here it isn't
pub returns-in_err-feed-clause-spent : goal.returns-in_err-feed-clause-spent
returns-in_err-feed-clause-spent c =
    let l = c.loop-message in
    let r = c.requires c.if-self.false in
    let s = l.invariant.stands r.0 r.1 r.2 r.3 r.4 r.5 r.6 in
    let q = err_from_is_err_and c.from_residual.result c.from_residual.ensures.1 in (
      λ e. absurd (let was = c.feed.ensures.spent.0 (c.in_err-feed.was ∙ (sym (q.1 ∙ ap (λ f. Err f) q.2) ∙ e)) in let usable = s.usable in cc),
      λ e. absurd (let was = e in let usable = c.if-self.false in cc),
    )

pub returns-clause-fed : goal.returns-clause-fed
returns-clause-fed c = λ nodes ports given h within source legal.
    let l = c.loop-message in
    let yields = YieldsList-from_vec {s = c.into_iter-message-iterator.result} c.args.messages.items (search rules) (search rules) in
    let all = YieldsList-end yields l.yielded l.message-iterator l.yielded_by c.next.result c.next.new.self c.in-None.is c.next.ensures.steps in
    subst (λ (ms : List Message). NetStands nodes l.self ports (with_more given c.args.node ms)) (sym (listed l.yielded) ∙ all.0) (l.invariant.stands nodes ports given h within source legal)
