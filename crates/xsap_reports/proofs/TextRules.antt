-- Text that is appended piece by piece.
use Rattle.std.proofs.lemmas.List.{append_assoc, append-nil, length-map}

pub ruleset text_rules = (append_assoc, append-nil, length-map)
