use Rattle.std.proofs.Common.{length, sym, ap, subst, arith}
use Rattle.std.proofs.lemmas.Result.{IfOk-weaker}
use Rattle.smv_language.specs.ModelTree.{flat_tree}
use Rattle.smv_language.specs.declared.model.FlatModel.{FlatModel}
use Rattle.sat_encoding_laws.specs.FlatTraces.{IsNumbered}
use Rattle.verb_orders.proofs.StagedCases.{has_room, claim_searchable, speaks_of}
use Rattle.verb_orders.proofs.searched.expression.Goals as goal

pub overflow_cast-faults : goal.overflow_cast-faults
overflow_cast-faults c = let few = c.requires.few.faults in omega (arith, few)

pub against-requires-clause-staged : goal.against-requires-clause-staged
against-requires-clause-staged c =
    let room = has_room c.args.staged.now c.requires.staged in
    let same = ap (λ (m : FlatModel). length m.variables) c.model.ensures.model in
    omega (arith, room, same)

pub against-requires-clause-set : goal.against-requires-clause-set
against-requires-clause-set c =
    subst (IsNumbered c.len-faults.result) (sym c.deref.ensures.value) (subst (λ n. IsNumbered n c.args.staged.now.set.items) (sym c.len-faults.ensures) c.requires.staged.staged.numbered)

pub returns-clause-speaks : goal.returns-clause-speaks
returns-clause-speaks c =
    IfOk-weaker c.against.result _ _
    (λ e is. speaks_of c.args.staged.now c.args.claim c.model.result.now c.len-faults.result c.deref.result.now c.model.ensures.model c.len-faults.ensures c.deref.ensures.value (flat_tree e) is)
    c.against.ensures

pub returns-clause-searchable : goal.returns-clause-searchable
returns-clause-searchable c =
    IfOk-weaker c.against.result _ _
    (λ e is. claim_searchable c.args.staged.now c.requires.staged c.requires.few c.args.claim (flat_tree e)
    (speaks_of c.args.staged.now c.args.claim c.model.result.now c.len-faults.result c.deref.result.now c.model.ensures.model c.len-faults.ensures c.deref.ensures.value (flat_tree e) is))
    c.against.ensures
