-- The model of the scope's program; that there is no module `main` is told exactly where there is none.
use Rattle.std.proofs.Common.{rules, ◌≡◌, IfOk, IfErr, OnOk, ap, refl, subst, sym}
use Rattle.std.specs.Prelude.{IsErr}
use Rattle.std.specs.declared.result.Result.{Result}
use Rattle.std.specs.declared.result.Result.TheVariants.{Ok, Err}
use Rattle.std.proofs.lemmas.Result.{IfOk-weaker}
use Rattle.smv_language.specs.Language.{program_tree, FlatModel as ModelTree, model_tree}
use Rattle.smv_flat_laws.specs.Looks.{ActualsMean}
use Rattle.smv_flat_laws.specs.Model.{IsFlatOf}
use Rattle.smv_flat_laws.specs.FlatTrace.{NamesOwn}
use Rattle.smv_scope.specs.ClosedModels.{IsClosedModel}
use Rattle.smv_scope.specs.declared.fault.FlatFault.{FlatFault}
use Rattle.smv_scope.specs.declared.fault.FlatRule.TheVariants.{NoMain}
use Rattle.smv_scope.specs.Faults.{IsFaultOf}
use Rattle.smv_flat.proofs.FlatFaults.{told_no_main}
use Rattle.smv_flat.proofs.OwnNames.{closed_names_own}
use Rattle.smv_flat.proofs.flattening.flatten.Goals as goal

-- what is there is no error
ok_no_error : {T E : Type 0} (x : T) (e : E) → Ok x ≡ Err e → ⊥
ok_no_error x e h = cc

-- an error by what it is
error_is : {T E : Type 0} (r : Result T E) (e : E) → IsErr r → IfErr r (λ f. f ≡ e) → r ≡ Err e
error_is (Ok x) e h i = cc
error_is (Err f) e h i = ap Err i

abbrev IsNoMain : FlatFault → Type 0
IsNoMain f = f ≡ record { rule = NoMain; item = 0 }

pub returns-clause-own : goal.returns-clause-own
returns-clause-own c = IfOk-weaker c.model_of.result IsClosedModel (λ m. NamesOwn (model_tree m)) closed_names_own c.model_of.ensures.closed

pub returns-clause-alone : goal.returns-clause-alone
returns-clause-alone c =
    subst (λ p. IfOk c.model_of.result (λ m. (k : ModelTree) → IsFlatOf p k → k ≡ model_tree m)) c.in_ok-scope.ensures.scope.program c.model_of.ensures.alone

pub returns-clause-meant : goal.returns-clause-meant
returns-clause-meant c = subst (λ p. OnOk c.model_of.result (ActualsMean p)) c.in_ok-scope.ensures.scope.program c.model_of.ensures.meant

pub returns-clause-no_main : goal.returns-clause-no_main
returns-clause-no_main c =
    let fault = subst (λ p. IfErr c.model_of.result (IsFaultOf p)) c.in_ok-scope.ensures.scope.program c.model_of.ensures.fault in (
      (λ e. told_no_main (program_tree c.args.p.now) 0 (subst (λ r. IfErr r (IsFaultOf (program_tree c.args.p.now))) e fault)),
      (λ none. absurd (ok_no_error _ _ (c.in_ok-scope.ensures.no_main none))),
    )

pub returns-in_err-scope-clause-no_main : goal.returns-in_err-scope-clause-no_main
returns-in_err-scope-clause-no_main c =
    let fault : IfErr c.from_residual.result (IsFaultOf (program_tree c.args.p.now)) = search rules in (
      (λ e. told_no_main (program_tree c.args.p.now) 0 (subst (λ r. IfErr r (IsFaultOf (program_tree c.args.p.now))) e fault)),
      (λ none.
          let told : IfErr c.scope_of.result IsNoMain = subst (λ r. IfErr r IsNoMain) (sym (c.scope_of.ensures.no_main none)) refl in
          let here : IfErr c.from_residual.result IsNoMain = search (rules, told) in
          error_is c.from_residual.result _ c.from_residual.ensures.0 here),
    )
