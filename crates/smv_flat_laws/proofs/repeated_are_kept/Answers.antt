use Rattle.smv_flat_laws.proofs.repeated_are_kept.Goals as goal
use Rattle.smv_flat_laws.proofs.Repeats.{like_kept, same_module_like, inside_like, repeats_again}

pub returns-clause-kept : goal.returns-clause-kept
returns-clause-kept c = like_kept

pub returns-clause-same : goal.returns-clause-same
returns-clause-same c = same_module_like

pub returns-clause-inside : goal.returns-clause-inside
returns-clause-inside c = inside_like

pub returns-clause-again : goal.returns-clause-again
returns-clause-again c = repeats_again
