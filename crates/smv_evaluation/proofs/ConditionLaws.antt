-- Conditions that are found TRUE are those that hold.
use Rattle.std.proofs.Common.{◌≡◌, ◌↔◌, Bool, true, false, ◌&&◌, List, [], ◌∷◌, map, IsTrue, refl, sym, ap, ◌∙◌}
use Rattle.smv_language.specs.Language.{Each, Values, one, has, same_bool, tree_of, FlatModel as ModelTree, Holds, formula_tree, model_tree, told_moment}
use Rattle.smv_language.specs.Values as told
use Rattle.smv_language.proofs.ValueLaws.{both_true}
use Rattle.smv_language.specs.declared.model.Formula.{Formula}
use Rattle.smv_language.specs.declared.model.FlatModel.{FlatModel}
use Rattle.smv_type_laws.specs.Laws.{ReadsOwn, ReadOwn, IsDecided}
use Rattle.smv_type_laws.specs.Models.{IsTyped}
use Rattle.smv_type_laws.proofs.Typed.{conditions_decided}
use Rattle.smv_evaluation.specs.declared.ask.AskedValue.TheVariants.{ItsValue}
use Rattle.smv_evaluation.specs.Entries.{Entries}
use Rattle.smv_evaluation.specs.MomentTables.{answer_in, holds, all_hold, first_holds, step_holds}
use Rattle.smv_evaluation.specs.EvaluableModels.{IsEvaluable, IsFilled}
use Rattle.smv_evaluation.specs.Stops.{IsFirstMoment, IsNextMoment}
use Rattle.smv_evaluation.proofs.Rows.{Is, truth_is}
use Rattle.smv_evaluation.proofs.ValueLaws.{answers}

truth_true : (b : Bool) → same_bool b true ≡ b
truth_true true = refl
truth_true false = refl

-- one condition
pub condition_law : (m : ModelTree) → IsEvaluable m → (now next : Entries) → IsFilled m now → IsFilled m next → (f : Formula) → ReadsOwn m (formula_tree f).value →
    IsDecided m (told_moment m.symbols now.variables) (told_moment m.symbols next.variables) (formula_tree f) →
    (IsTrue (holds now next f) ↔ Holds m (told_moment m.symbols now.variables) (told_moment m.symbols next.variables) (formula_tree f))
condition_law m able now next p q f own d = (there, back)
  where
    is : Is m.symbols (answer_in now next ItsValue (tree_of f.value)) (told.truth d.value)
    is = answers m able now next p q ItsValue f.value own d.safe (told.truth d.value) d.gives

    same : holds now next f ≡ d.value
    same = truth_is m.symbols able.apart (answer_in now next ItsValue (tree_of f.value)) d.value is

    there : IsTrue (holds now next f) → Holds m (told_moment m.symbols now.variables) (told_moment m.symbols next.variables) (formula_tree f)
    there h = (one (told.truth d.value), d.gives, truth_true d.value ∙ (sym same ∙ h))

    back : Holds m (told_moment m.symbols now.variables) (told_moment m.symbols next.variables) (formula_tree f) → IsTrue (holds now next f)
    back may =
        let only : may.0 ≡ one (told.truth d.value) = cc (may.1, d.gives) in
        same ∙ (sym (truth_true d.value) ∙ (sym (ap (λ vs. has vs (told.truth true)) only) ∙ may.2))

both_are : (a b : Bool) → IsTrue a → IsTrue b → IsTrue (a && b)
both_are true true x y = refl
both_are true false x y = cc
both_are false b x y = cc

-- all of a list
pub all_law : (m : ModelTree) → IsEvaluable m → (now next : Entries) → IsFilled m now → IsFilled m next → (fs : List Formula) → ReadOwn m (map formula_tree fs) →
    Each (IsDecided m (told_moment m.symbols now.variables) (told_moment m.symbols next.variables)) (map formula_tree fs) →
    (IsTrue (all_hold now next fs) ↔ Each (Holds m (told_moment m.symbols now.variables) (told_moment m.symbols next.variables)) (map formula_tree fs))
all_law m able now next p q [] own d = ((λ h. tt), (λ h. refl))
all_law m able now next p q (f ∷ fs) own d =
    let here = condition_law m able now next p q f own.0 d.0 in
    let rest = all_law m able now next p q fs own.1 d.1 in
    ((λ h. let both = both_true (holds now next f) (all_hold now next fs) h in (here.0 both.0, rest.0 both.1)), (λ h. both_are (holds now next f) (all_hold now next fs) (here.1 h.0) (rest.1 h.1)))

-- a first moment
pub first_law : (m : FlatModel) → IsEvaluable (model_tree m) → IsTyped (model_tree m) → (now : Entries) → IsFilled (model_tree m) now →
    (IsTrue (first_holds m now) ↔ IsFirstMoment (model_tree m) (told_moment m.symbols now.variables))
first_law m able t now p =
    let tree : ModelTree = model_tree m in
    let v = told_moment m.symbols now.variables in
    let d = conditions_decided tree able.closed t v v p.lawful.domains p.lawful.domains in
    let first = all_law tree able now now p p m.init able.closed.at_first d.0 in
    let each = all_law tree able now now p p m.invar able.closed.at_each d.1 in (
      (λ h.
          let both = both_true (all_hold now now m.init) (all_hold now now m.invar) h in
          record { moment = record { domains = p.lawful.domains; holds = each.0 both.1 }; first = first.0 both.0 }),
      (λ h. both_are (all_hold now now m.init) (all_hold now now m.invar) (first.1 h.first) (each.1 h.moment.holds)),
    )

-- a moment after another
pub step_law : (m : FlatModel) → IsEvaluable (model_tree m) → IsTyped (model_tree m) → (now next : Entries) → IsFilled (model_tree m) now → IsFilled (model_tree m) next →
    (IsTrue (step_holds m now next) ↔ IsNextMoment (model_tree m) (told_moment m.symbols now.variables) (told_moment m.symbols next.variables))
step_law m able t now next p q =
    let tree : ModelTree = model_tree m in
    let v = told_moment m.symbols now.variables in
    let w = told_moment m.symbols next.variables in
    let d = conditions_decided tree able.closed t v w p.lawful.domains q.lawful.domains in
    let c = conditions_decided tree able.closed t w w q.lawful.domains q.lawful.domains in
    let step = all_law tree able now next p q m.trans able.closed.at_step d.2 in
    let each = all_law tree able next next q q m.invar able.closed.at_each c.1 in (
      (λ h.
          let both = both_true (all_hold now next m.trans) (all_hold next next m.invar) h in
          record { moment = record { domains = q.lawful.domains; holds = each.0 both.1 }; step = step.0 both.0 }),
      (λ h. both_are (all_hold now next m.trans) (all_hold next next m.invar) (step.1 h.step) (each.1 h.moment.holds)),
    )
