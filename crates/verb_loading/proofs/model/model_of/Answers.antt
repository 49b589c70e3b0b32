use Rattle.std.proofs.Common.{subst, sym, ◌∙◌}
use Rattle.std.proofs.lemmas.Result.{err_from_is_err_and}
use Rattle.smv_language.specs.Language.{program_tree, model_tree}
use Rattle.verb_loading.specs.Models.{IsModelText, IsModelOf, IsLawful, IsWrongModel, not_read, not_flat, not_typed}
use Rattle.verb_loading.proofs.Told.{if_refused, named, of_kind}
use Rattle.verb_loading.proofs.SpelledInVar.{spelled_in_var}
use Rattle.verb_loading.proofs.model.model_of.Goals as goal

pub returns-in_err-program-clause-wrong : goal.returns-in_err-program-clause-wrong
returns-in_err-program-clause-wrong c =
    let exit = err_from_is_err_and c.from_residual.result c.from_residual.ensures.1 in
    rw exit.1 (if_refused (IsWrongModel c.args.bytes.now) _ (λ fault e. not_read c.in_err-program.field-0.0 c.in_err-program.ensures.fault (e ∙ exit.2)))

pub returns-in_err-flat-clause-wrong : goal.returns-in_err-flat-clause-wrong
returns-in_err-flat-clause-wrong c =
    let exit = err_from_is_err_and c.from_residual-in_err-flat.result c.from_residual-in_err-flat.ensures.1 in
    let p = program_tree c.in_ok-program.program in
    let f = c.in_err-flat.field-0.0 in
    let text : IsModelText c.args.bytes.now p = record { spelled = c.in_ok-program.ensures.spelled; only = c.in_ok-program.ensures.only; depths = c.in_ok-program.ensures.depths } in
    rw exit.1 (if_refused (IsWrongModel c.args.bytes.now) _ (λ fault e. let is = named p f f.item fault c.in_err-flat.ensures.fault (e ∙ exit.2) in not_flat p is.rule f.item text is.broken is.is))

pub returns-in_err-typed-clause-wrong : goal.returns-in_err-typed-clause-wrong
returns-in_err-typed-clause-wrong c =
    let exit = err_from_is_err_and c.from_residual-in_err-typed.result c.from_residual-in_err-typed.ensures.1 in
    let p = program_tree c.in_ok-program.program in
    let m = model_tree c.in_ok-flat.flat in
    let f = c.in_err-typed.field-0.0 in
    let text : IsModelText c.args.bytes.now p = record { spelled = c.in_ok-program.ensures.spelled; only = c.in_ok-program.ensures.only; depths = c.in_ok-program.ensures.depths } in
    let has : IsModelOf p m = record { is = c.in_ok-flat.ensures.flat; only = c.in_ok-flat.ensures.alone } in
    rw exit.1 (if_refused (IsWrongModel c.args.bytes.now) _ (λ fault e. let is = of_kind m f f.item fault c.in_err-typed.ensures.fault (e ∙ exit.2) in not_typed p m is.rule f.item text c.in_ok-flat.ensures.accepted has is.broken is.is))

pub returns-clause-ok : goal.returns-clause-ok
returns-clause-ok c = record { spelled = c.in_ok-program.ensures.spelled; only = c.in_ok-program.ensures.only; depths = c.in_ok-program.ensures.depths }

pub returns-clause-in_var : goal.returns-clause-in_var
returns-clause-in_var c = spelled_in_var c.in_ok-program.ensures.spelled.2

pub returns-clause-lawful : goal.returns-clause-lawful
returns-clause-lawful c =
    subst (λ m. IsLawful (program_tree c.in_ok-program.program) (model_tree m)) (sym c.in_ok-typed.ensures.model)
    (record { accepted = c.in_ok-flat.ensures.accepted; meant = c.in_ok-flat.ensures.meant; model = record { is = c.in_ok-flat.ensures.flat; only = c.in_ok-flat.ensures.alone }; typed = c.in_ok-typed.ensures.typed })
