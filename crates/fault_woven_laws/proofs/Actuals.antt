-- The actuals of a woven program mean what those of the program mean.
use Rattle.std.proofs.Common.{◌≡◌, List, Option, Some, None, refl, sym, ◌∙◌, ap}
use Rattle.smv_language.specs.ProgramTree.{Text, Formula, ModuleTree}
use Rattle.smv_language.specs.Scope.{Kind, a_formal, a_variable, a_define, an_instance, undeclared, kind_at, module_at}
use Rattle.fault_weave.specs.WovenProgram.{woven}
use Rattle.fault_instructions.specs.Weavable.{HasMeaning}
use Rattle.fault_woven_laws.specs.WovenNamesLaws.{WovenActualsMean}
use Rattle.fault_woven_laws.proofs.Looking.{Over, kind_over, still_means}

over_instance : (k k' : Kind) (n : Text) (actuals : List Formula) → Over k k' → k' ≡ an_instance n actuals → k ≡ an_instance n actuals
over_instance (a_formal j) k' n actuals e h = sym e ∙ h
over_instance (a_variable role type) k' n actuals e h = sym e ∙ h
over_instance (a_define f) k' n actuals e h = sym e ∙ h
over_instance (an_instance x es) k' n actuals e h = sym e ∙ h
over_instance undeclared undeclared n actuals e h = cc
over_instance undeclared (a_variable role type) n actuals e h = cc
over_instance undeclared (a_formal j) n actuals e h = absurd e
over_instance undeclared (a_define f) n actuals e h = absurd e
over_instance undeclared (an_instance x es) n actuals e h = absurd e

pub actuals_mean : WovenActualsMean
actuals_mean p i ok mean at m here x n actuals kind k name nth = by_module (module_at p at) refl
  where
    there : kind_at (module_at (woven p i) at) x ≡ an_instance n actuals
    there = ap (λ o. kind_at o x) here ∙ kind

    before : kind_at (module_at p at) x ≡ an_instance n actuals
    before = over_instance _ _ n actuals (kind_over p i ok at x) there

    by_module : (o : Option ModuleTree) → module_at p at ≡ o → HasMeaning (woven p i) at name
    by_module None e = let no : undeclared ≡ an_instance n actuals = sym (ap (λ o. kind_at o x) e) ∙ before in cc
    by_module (Some q) e = still_means p i ok at name (mean at q e x n actuals (sym (ap (λ o. kind_at o x) e) ∙ before) k name nth)
