use Rattle.std.proofs.Common.{map, refl, sym, ap, subst, ◌∙◌}
use Rattle.std.proofs.lemmas.Result.{err_from_is_err_and}
use Rattle.smv_language.specs.Language.{program_tree, model_tree}
use Rattle.smv_flat_laws.specs.FaultModes.{mode_of}
use Rattle.smv_flat_laws.specs.History.{with_history}
use Rattle.fault_extend.specs.WovenFaults.{fault_tree}
use Rattle.fault_extend.specs.NumberedFaults.{AreNumbered}
use Rattle.verb_loading.specs.Models.{IsModelOf}
use Rattle.verb_loading.specs.Wholes.{IsWhole, BreaksNames, BreaksKinds, by_names, by_kinds, IsWithinLimits}
use Rattle.verb_loading.specs.LoadedCases.{IsWrongLimited, whole_is_wrong, flat_is_wrong}
use Rattle.verb_loading.proofs.Told.{refused_weaker}
use Rattle.verb_loading.proofs.WholeLemmas.{is_whole}
use Rattle.verb_loading.proofs.FaultModes.{have_modes}
use Rattle.verb_loading.proofs.loaded.within_limits.Goals as goal

pub fault_list-requires : goal.fault_list-requires
fault_list-requires c =
    record { modes = have_modes c.in_ok-flat.flat c.args.woven.faults (c.requires.modes (model_tree c.in_ok-flat.flat) c.in_ok-flat.ensures.accepted c.in_ok-flat.ensures.model.is) }

pub returns-in_err-flat-clause-wrong : goal.returns-in_err-flat-clause-wrong
returns-in_err-flat-clause-wrong c =
    let exit = err_from_is_err_and c.from_residual.result c.from_residual.ensures.1 in
    let extension = program_tree c.args.woven.program in
    let faults = map fault_tree c.args.woven.faults in
    rw (exit.1, exit.2) (refused_weaker (BreaksNames extension) (IsWrongLimited extension faults) (λ told bad. whole_is_wrong (by_names bad)) _ c.in_err-flat.ensures.wrong)

pub returns-in_err-full-clause-wrong : goal.returns-in_err-full-clause-wrong
returns-in_err-full-clause-wrong c =
    let exit = err_from_is_err_and c.from_residual-in_err-full.result c.from_residual-in_err-full.ensures.1 in
    let extension = program_tree c.args.woven.program in
    let faults = map fault_tree c.args.woven.faults in
    let m = model_tree c.in_ok-whole.whole in
    let whole : IsWhole extension faults m = is_whole extension c.in_ok-flat.flat c.in_ok-whole.whole c.args.woven.faults c.in_ok-faults.faults c.in_ok-flat.ensures.model c.in_ok-faults.ensures c.in_ok-whole.ensures.model in
    rw (exit.1, exit.2) (refused_weaker (BreaksKinds m) (IsWrongLimited extension faults) (λ told bad. whole_is_wrong (by_kinds m c.in_ok-flat.ensures.accepted whole bad)) _ c.in_err-full.ensures.wrong)

pub returns-in_err-typed-clause-wrong : goal.returns-in_err-typed-clause-wrong
returns-in_err-typed-clause-wrong c =
    let exit = err_from_is_err_and c.from_residual-in_err-typed.result c.from_residual-in_err-typed.ensures.1 in
    let extension = program_tree c.args.woven.program in
    let faults = map fault_tree c.args.woven.faults in
    let m = model_tree c.in_ok-whole.whole in
    let whole : IsWhole extension faults m = is_whole extension c.in_ok-flat.flat c.in_ok-whole.whole c.args.woven.faults c.in_ok-faults.faults c.in_ok-flat.ensures.model c.in_ok-faults.ensures c.in_ok-whole.ensures.model in
    let within : IsWithinLimits extension faults = record { accepted = c.in_ok-flat.ensures.accepted; whole = m; is_whole = whole; typed = c.in_ok-full.ensures.typed } in
    rw (exit.1, exit.2) (refused_weaker (BreaksKinds (model_tree c.in_ok-flat.flat)) (IsWrongLimited extension faults) (λ told bad. flat_is_wrong (model_tree c.in_ok-flat.flat) c.in_ok-flat.ensures.model within bad) _ c.in_err-typed.ensures.wrong)

pub returns-clause-ok : goal.returns-clause-ok
returns-clause-ok c =
    let extension = program_tree c.args.woven.program in
    let faults = map fault_tree c.args.woven.faults in
    let m = model_tree c.in_ok-whole.whole in
    let whole : IsWhole extension faults m = is_whole extension c.in_ok-flat.flat c.in_ok-whole.whole c.args.woven.faults c.in_ok-faults.faults c.in_ok-flat.ensures.model c.in_ok-faults.ensures c.in_ok-whole.ensures.model in
    record {
      kept = refl;
      within = record { accepted = c.in_ok-flat.ensures.accepted; whole = m; is_whole = whole; typed = c.in_ok-full.ensures.typed };
      is_flat = subst (λ k. IsModelOf extension (model_tree k)) (sym c.in_ok-typed.ensures.model) c.in_ok-flat.ensures.model;
      numbered = subst (λ k. AreNumbered k c.args.woven.faults c.in_ok-faults.faults) (sym c.in_ok-typed.ensures.model) c.in_ok-faults.ensures;
      full = ap model_tree c.in_ok-full.ensures.model ∙ c.in_ok-whole.ensures.model ∙ ap (λ k. with_history (model_tree k) (map mode_of c.in_ok-faults.faults)) (sym c.in_ok-typed.ensures.model);
    }
