use Rattle.std.proofs.Common.{◌≤◌, sym, subst}
use Rattle.std.specs.Prelude.{map}
use Rattle.std.proofs.lemmas.List.{length-map}
use Rattle.smv_language.specs.ModelTree.{model_tree, flat_tree, variable_tree}
use Rattle.smv_flat_laws.specs.FaultModes.{mode_of}
use Rattle.sat_encoding_laws.specs.Encodable.{IsEncodable, IsFitTop}
use Rattle.cert_check.proofs.HistoryPlaces.{bits_within_in, bad_is}
use Rattle.cert_check.proofs.parts.bad_list.Goals as goal

pub bad_clauses-requires-clause-encodable : goal.bad_clauses-requires-clause-encodable
bad_clauses-requires-clause-encodable c = subst IsEncodable (sym c.requires.fit.history) c.requires.fit.model.encodable

pub bad_clauses-requires-clause-top : goal.bad_clauses-requires-clause-top
bad_clauses-requires-clause-top c = subst (λ m. IsFitTop m (flat_tree c.args.q.now.top.now)) (sym c.requires.fit.history) c.requires.fit.model.fits

pub bad_clauses-requires-clause-faults : goal.bad_clauses-requires-clause-faults
bad_clauses-requires-clause-faults c =
    subst (λ n. c.args.q.now.certificate.now.faults ≤ n) (length-map c.args.q.now.full.now.model.variables variable_tree)
    (bits_within_in (model_tree c.args.q.now.plain.now.model) (map mode_of c.args.q.now.faults.now) (model_tree c.args.q.now.full.now.model) c.requires.fit.history c.args.q.now.certificate.now.faults c.requires.numbers.faults)

pub returns : goal.returns
returns c =
    let full = model_tree c.args.q.now.full.now.model in
    let certificate = c.args.q.now.certificate.now in
    bad_is (model_tree c.args.q.now.plain.now.model) (map mode_of c.args.q.now.faults.now) full c.requires.fit.history certificate.faults c.requires.numbers.faults (flat_tree c.args.q.now.top.now) certificate.sets certificate.size c.bad_clauses.result c.bad_clauses.ensures.exact
