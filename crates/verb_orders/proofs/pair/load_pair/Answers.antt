use Rattle.std.proofs.Common.{◌≡◌, Err, IsErrOf, length, sym, ap, ◌∙◌, subst}
use Rattle.std.proofs.lemmas.Result.{err_from_is_err_and}
use Rattle.smv_language.specs.Language.{program_tree, model_tree}
use Rattle.sat_encoding_laws.specs.FlatTraces.{IsNumbered}
use Rattle.smv_type_laws.specs.Models.{IsTyped}
use Rattle.verb_command_line.specs.Sets.{numbers_of}
use Rattle.base_files.proofs.Stays.{reads_on}
use Rattle.verb_loading.proofs.LoadedLaws.{holds_case}
use Rattle.verb_loading.specs.declared.input.Stop.TheVariants as stops
use Rattle.verb_orders.specs.Pairs.{IsPair, IsStaged, RefusesStage}
use Rattle.verb_orders.proofs.PairLaws.{pair_no_model, pair_no_faults, pair_no_stage, pair_no_top}
use Rattle.verb_orders.proofs.pair.load_pair.Goals as goal
use Rattle.base_values.proofs.ResultLaws.{same_fault}

pub returns-in_err-set-clause-refused : goal.returns-in_err-set-clause-refused
returns-in_err-set-clause-refused g c r e asked =
    let exit = err_from_is_err_and c.from_residual.result c.from_residual.ensures.1 in
    let refused : IsErrOf c.pair_set.result (stops.Refused r) = c.in_err-set.was ∙ ap (λ s. Err s) (sym exit.2 ∙ same_fault (sym exit.1 ∙ e)) in
    absurd (c.pair_set.ensures.kept r refused asked)

pub returns-in_err-set-clause-failed : goal.returns-in_err-set-clause-failed
returns-in_err-set-clause-failed g c e =
    let exit = err_from_is_err_and c.from_residual.result c.from_residual.ensures.1 in
    let refused : IsErrOf c.pair_set.result stops.Desk = c.in_err-set.was ∙ ap (λ s. Err s) (sym exit.2 ∙ same_fault (sym exit.1 ∙ e)) in
    absurd (c.pair_set.ensures.desk refused)

pub returns-in_err-model-clause-refused : goal.returns-in_err-model-clause-refused
returns-in_err-model-clause-refused g c r e asked =
    let exit = err_from_is_err_and c.from_residual-in_err-model.result c.from_residual-in_err-model.ensures.1 in
    let is = sym exit.2 ∙ same_fault (sym exit.1 ∙ e) in
    pair_no_model c.args.asked.now.model.now c.args.asked.now.faults.now c.args.asked.now.top.now (numbers_of c.args.asked.now.set.now) c.args.asked.now.first c.args.asked.now.second _ r (c.load_model.ensures.refused r (c.in_err-model.was ∙ ap (λ s. Err s) is))

pub returns-in_err-model-clause-failed : goal.returns-in_err-model-clause-failed
returns-in_err-model-clause-failed g c e =
    let exit = err_from_is_err_and c.from_residual-in_err-model.result c.from_residual-in_err-model.ensures.1 in
    let is = sym exit.2 ∙ same_fault (sym exit.1 ∙ e) in
    c.load_model.ensures.failed (c.in_err-model.was ∙ ap (λ s. Err s) is)

pub returns-in_err-case-clause-refused : goal.returns-in_err-case-clause-refused
returns-in_err-case-clause-refused g c r e asked =
    let exit = err_from_is_err_and c.from_residual-in_err-case.result c.from_residual-in_err-case.ensures.1 in
    let is = sym exit.2 ∙ same_fault (sym exit.1 ∙ e) in
    pair_no_faults c.args.asked.now.model.now c.args.asked.now.faults.now c.args.asked.now.top.now (numbers_of c.args.asked.now.set.now) c.args.asked.now.first c.args.asked.now.second _ _ _ r c.load_model.ensures.stays.files c.in_ok-model.ensures.ok (c.load_case.ensures.refused r (c.in_err-case.was ∙ ap (λ s. Err s) is))

pub returns-in_err-typed-clause-refused : goal.returns-in_err-typed-clause-refused
returns-in_err-typed-clause-refused g c r e asked =
    let exit = err_from_is_err_and c.from_residual-in_err-typed.result c.from_residual-in_err-typed.ensures.1 in
    let refused : IsErrOf c.staged.result (stops.Refused r) = c.in_err-typed.was ∙ ap (λ s. Err s) (sym exit.2 ∙ same_fault (sym exit.1 ∙ e)) in
    let p = program_tree c.in_ok-model.model.program in
    let holds = holds_case _ _ c.args.asked.now.top.now c.args.asked.now.top.now _ _ p c.in_ok-case.case c.load_model.ensures.stays.files c.in_ok-model.ensures.ok c.in_ok-case.ensures.ok in
    let numbers : c.in_ok-set.set.items ≡ numbers_of c.args.asked.now.set.now = c.in_ok-set.ensures.numbers asked in
    pair_no_stage c.args.asked.now.model.now c.args.asked.now.faults.now c.args.asked.now.top.now (numbers_of c.args.asked.now.set.now) c.args.asked.now.first c.args.asked.now.second _ p c.in_ok-case.case r c.in_ok-case.ensures.loaded holds
    (subst (λ set. RefusesStage c.in_ok-case.case.limited set c.args.asked.now.first c.args.asked.now.second r) (c.deref.ensures.value ∙ numbers) (c.staged.ensures.refused r refused))

pub returns-in_err-typed-clause-failed : goal.returns-in_err-typed-clause-failed
returns-in_err-typed-clause-failed g c e =
    let exit = err_from_is_err_and c.from_residual-in_err-typed.result c.from_residual-in_err-typed.ensures.1 in
    let refused : IsErrOf c.staged.result stops.Desk = c.in_err-typed.was ∙ ap (λ s. Err s) (sym exit.2 ∙ same_fault (sym exit.1 ∙ e)) in
    absurd (c.staged.ensures.desk refused)

pub returns-in_err-top-clause-refused : goal.returns-in_err-top-clause-refused
returns-in_err-top-clause-refused g c r e asked =
    let exit = err_from_is_err_and c.from_residual-in_err-top.result c.from_residual-in_err-top.ensures.1 in
    let is = sym exit.2 ∙ same_fault (sym exit.1 ∙ e) in
    let p = program_tree c.in_ok-model.model.program in
    let holds = holds_case _ _ c.args.asked.now.top.now c.args.asked.now.top.now _ _ p c.in_ok-case.case c.load_model.ensures.stays.files c.in_ok-model.ensures.ok c.in_ok-case.ensures.ok in
    let numbers : c.in_ok-set.set.items ≡ numbers_of c.args.asked.now.set.now = c.in_ok-set.ensures.numbers asked in
    let of = c.in_ok-typed.ensures.ok in
    pair_no_top c.args.asked.now.model.now c.args.asked.now.faults.now c.args.asked.now.top.now (numbers_of c.args.asked.now.set.now) c.args.asked.now.first c.args.asked.now.second _ p c.in_ok-case.case r c.in_ok-case.ensures.loaded holds
    (subst (IsNumbered (length c.in_ok-case.case.limited.faults)) (c.deref.ensures.value ∙ numbers) of.numbered) (subst IsTyped of.model of.typed)
    (c.load_top.ensures.refused r (c.in_err-top.was ∙ ap (λ s. Err s) is))

pub returns-in_err-top-clause-failed : goal.returns-in_err-top-clause-failed
returns-in_err-top-clause-failed g c e =
    let exit = err_from_is_err_and c.from_residual-in_err-top.result c.from_residual-in_err-top.ensures.1 in
    let is = sym exit.2 ∙ same_fault (sym exit.1 ∙ e) in
    absurd (c.load_top.ensures.desk (c.in_err-top.was ∙ ap (λ s. Err s) is))

pub staged-requires : goal.staged-requires
staged-requires g c = subst (λ set. IsPair set c.args.asked.now.first c.args.asked.now.second) (sym c.deref.ensures.value) c.in_ok-set.ensures.pair

pub returns-clause-ok : goal.returns-clause-ok
returns-clause-ok g c =
    let p = program_tree c.in_ok-model.model.program in
    holds_case _ _ c.args.asked.now.top.now c.args.asked.now.top.now _ _ p c.in_ok-case.case c.load_model.ensures.stays.files c.in_ok-model.ensures.ok c.in_ok-case.ensures.ok

pub returns-clause-staged : goal.returns-clause-staged
returns-clause-staged g c =
    record {
      event = record { flat = model_tree c.in_ok-model.model.typed.model; lawful = c.in_ok-model.ensures.lawful; loaded = c.in_ok-case.ensures.loaded; event = c.in_ok-top.ensures.ok };
      pair = c.in_ok-set.ensures.pair;
      staged = subst (λ set. IsStaged c.in_ok-case.case.limited set c.args.asked.now.first c.args.asked.now.second c.in_ok-typed.typed) c.deref.ensures.value c.in_ok-typed.ensures.ok;
      none = c.new.ensures;
    }

pub returns-clause-numbers : goal.returns-clause-numbers
returns-clause-numbers g c asked = c.in_ok-set.ensures.numbers asked

pub returns-in_err-top-clause-stays : goal.returns-in_err-top-clause-stays
returns-in_err-top-clause-stays g c = reads_on _ _ _ c.load_model.ensures.stays c.load_case.ensures.stays

pub returns-clause-stays : goal.returns-clause-stays
returns-clause-stays g c = reads_on _ _ _ c.load_model.ensures.stays c.load_case.ensures.stays
