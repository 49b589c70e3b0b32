use Rattle.std.proofs.Common.{◌≤◌, ◌≡◌, length, ap, sym, ◌∙◌, subst, arith}
use Rattle.base_values.specs.declared.limits.TheConstants.{MOST_BITS}
use Rattle.std.proofs.lemmas.List.{length-map}
use Rattle.smv_flat_laws.specs.FaultModes.{mode_of}
use Rattle.cut_model_search.specs.FaultyModels.{modes_in}
use Rattle.cut_model_search.proofs.BadLists.{few}
use Rattle.cut_model_search.proofs.faulty.FaultyModel.count.Goals as goal

pub overflow_cast-result : goal.overflow_cast-result
overflow_cast-result c =
    let most = few c.args.self.now c.can_be_searched.ensures in
    let same = length-map c.args.self.now.faults mode_of in
    let listed = ap length c.listed.ensures in
    omega (arith, most, same, listed, c.len.ensures)

pub returns : goal.returns
returns c =
    let is : c.len.result ≡ length (modes_in c.args.self.now) = c.len.ensures ∙ ap length c.listed.ensures ∙ sym (length-map c.args.self.now.faults mode_of) in
    record { count = is; few = subst (λ n. n ≤ MOST_BITS) (sym is) (few c.args.self.now c.can_be_searched.ensures) }
