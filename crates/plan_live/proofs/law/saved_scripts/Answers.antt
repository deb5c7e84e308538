use Rattle.plan_live.proofs.SavedScripts.{script_saved, script_fits}
use Rattle.plan_live.proofs.law.saved_scripts.Goals as goal

pub returns-clause-saved : goal.returns-clause-saved
returns-clause-saved c = script_saved

pub returns-clause-fits : goal.returns-clause-fits
returns-clause-fits c = script_fits
