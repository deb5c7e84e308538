use Rattle.std.proofs.Common.{◌≤◌, rules}
use Rattle.plan_report.proofs.WatchLemmas.{whole_list}
use Rattle.plan_report.proofs.watching.read_once.Goals as goal

pub returns-in-Some-clause-all : goal.returns-in-Some-clause-all
returns-in-Some-clause-all c =
    let seen = rw c.in-Some.is at c.in_ok-read.ensures.seen in
    let last = rw c.in-Some.is at c.in_ok-read.ensures.last in
    let room : c.in-Some.field-0.len ≤ 18446744073709551615 = search rules in
    whole_list c.args.reader.now.last c.read.new.self.seen 18446744073709551615 c.in-Some.field-0.len c.new-changes.result.items c.read.new.out.items last seen.0.0 room c.new-changes.ensures.items seen.1
