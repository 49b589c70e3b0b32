use Rattle.sat_encoding_laws.proofs.EncodingLaws.{expressions_encoded, words_hold}
use Rattle.sat_encoding_laws.proofs.expressions_are_encoded.Goals as goal

pub returns-clause-values : goal.returns-clause-values
returns-clause-values c = expressions_encoded

pub returns-clause-widths : goal.returns-clause-widths
returns-clause-widths c = words_hold
