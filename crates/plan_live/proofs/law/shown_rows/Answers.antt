use Rattle.plan_live.proofs.SoFarLemmas.{asked_lines}
use Rattle.plan_live.proofs.NowLemmas.{shown_text, middle_text, strong_text, shown_texts}
use Rattle.cedr_plan.proofs.PlaceLemmas.{place_among}
use Rattle.std.proofs.Common.{length}
use Rattle.plan_live.proofs.law.shown_rows.Goals as goal

pub returns-clause-accepted : goal.returns-clause-accepted
returns-clause-accepted c = asked_lines c.reading_law.ensures

pub returns-clause-middle : goal.returns-clause-middle
returns-clause-middle c = λ nodes before lines given text planned middle are shown. middle_text nodes before lines given text planned are shown middle

pub returns-clause-strong : goal.returns-clause-strong
returns-clause-strong c = λ nodes front after output before lines given text planned whole here middle block memory are shown.
    strong_text nodes before lines given text planned are shown front after output whole here middle block memory

pub returns-clause-now : goal.returns-clause-now
returns-clause-now c = λ nodes before lines given text planned save are shown. shown_text nodes before lines given text planned are shown (length nodes) save (place_among nodes planned)

pub returns-clause-all_now : goal.returns-clause-all_now
returns-clause-all_now c = shown_texts
