use Rattle.cedr_plan.proofs.WordLemmas.{word_is, known_in}
use Rattle.cedr_plan.proofs.law.operator_words.Goals as goal

pub returns-clause-own : goal.returns-clause-own
returns-clause-own c = λ o. word_is o

pub returns-clause-known : goal.returns-clause-known
returns-clause-known c = known_in
