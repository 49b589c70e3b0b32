use Rattle.std.proofs.Common.{sym, ap, ◌∙◌, subst}
use Rattle.sat_encoding_laws.specs.Encodable.{IsEncodable}
use Rattle.sat_encoding_laws.specs.Lists.{system_of}
use Rattle.cut_model_search.proofs.faulty.FaultyModel.system.Goals as goal

pub encode-requires : goal.encode-requires
encode-requires c = record { encodable = subst IsEncodable (sym c.full.ensures) c.can_be_searched.ensures.encodable }

pub returns : goal.returns
returns c = c.in_ok-system.ensures.exact ∙ ap system_of c.full.ensures
