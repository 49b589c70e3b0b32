use Rattle.fault_rules.proofs.WeavableLaw.{weavable}
use Rattle.fault_rules.proofs.laws.kept_is_weavable.Goals as goal

pub returns : goal.returns
returns c = λ p i judged kept. weavable p i judged kept
