use Rattle.std.proofs.Common.{sym, ap, ◌∙◌, subst, arith}
use Rattle.smv_language.specs.Language.{model_tree, flat_tree, FlatModel}
use Rattle.sat_encoding_laws.specs.Encodable.{IsEncodable, IsFitTop}
use Rattle.cut_model_search.specs.FaultyModels.{flat_in, modes_in, whole_in}
use Rattle.cut_model_search.proofs.BadLists.{faults_within, bad_is}
use Rattle.cut_model_search.proofs.faulty.FaultyModel.bad.Goals as goal

pub bad_clauses-requires : goal.bad_clauses-requires
bad_clauses-requires c =
    let v = c.args.self.now in
    let within = faults_within c.full.result.now.model (flat_in v) (modes_in v) c.full.ensures in
    record {
      encodable = subst IsEncodable (sym c.full.ensures) c.can_be_searched.ensures.encodable;
      top = subst (λ (m : FlatModel). IsFitTop m (flat_tree c.top.result.now)) (sym c.full.ensures) (subst (λ e. IsFitTop (whole_in v) (flat_tree e)) (sym c.top.ensures) c.can_be_searched.ensures.fits);
      faults = omega (arith, within, c.count.ensures.count);
    }

pub returns : goal.returns
returns c =
    let v = c.args.self.now in
    c.in_ok-clauses.ensures.exact ∙ bad_is v (model_tree c.full.result.now.model) (flat_tree c.top.result.now) c.count.result c.full.ensures (ap flat_tree c.top.ensures) c.count.ensures.count c.args.listed.now c.args.size
