-- Texts one after another.
use Rattle.std.proofs.Common.{append_assoc, append-nil}
use Rattle.std.proofs.lemmas.List.{length-map, reverse-reverse}

pub ruleset report_rules = (append_assoc, append-nil, length-map, reverse-reverse)
