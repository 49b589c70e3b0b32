-- An expression that breaks no rule is resolved over each reading of the model, and one that breaks some is told the least.
use Rattle.std.proofs.Common.{◌≡◌, ℕ, Bool, true, false, not, ◌&&◌, List, [], ◌∷◌, length, Some, None, refl, sym, ◌∙◌, ap, subst}
use Rattle.std.specs.Prelude.{slice_get, map, IfSome}
use Rattle.std.proofs.lemmas.List.{length-map}
use Rattle.smv_language.specs.Language.{Tree, Text, Formula, ProgramTree, tree_map, Place, FlatLeaf, FlatInstance, FlatVariable, FlatFormula, FlatModel, variable_tree, formula_tree, model_tree, EachBoth}
use Rattle.smv_flat_laws.specs.NameResolution.{Definition, IsSound}
use Rattle.smv_flat_laws.specs.Items.{Visit, instances_of, variables_of}
use Rattle.smv_flat_laws.specs.Rules.{no_main, main_has_parameters, double_module, double_name, no_such_module, wrong_count, module_loop, no_such_name, not_a_target, double_assign, define_loop, next_here, input_here, too_many, SomeHasNoValue, IsAccepted, expression_of}
use Rattle.smv_flat_laws.specs.Model.{symbols_of, IsVariableOf, IsDefinitionOf, IsFlatOf}
use Rattle.smv_scope.specs.declared.fault.FlatRule.TheVariants.{NoSuchName, NextHere, InputHere}
use Rattle.smv_scope.specs.declared.fault.FlatFault.{FlatFault}
use Rattle.smv_flat.specs.declared.values.JudgedValue.{JudgedValue}
use Rattle.smv_language.specs.declared.model.FlatModel.{FlatModel as FlatModelOf}
use Rattle.smv_scope.specs.declared.names.Scene.{Scene}
use Rattle.smv_scope.specs.declared.needs.Needs.{Needs}
use Rattle.smv_scope.specs.Faults.{first_of, rule_of, IsWant}
use Rattle.smv_scope.specs.ClosedModels.{bounds_of}
use Rattle.smv_scope.specs.SceneTree.{program_of, IsScene}
use Rattle.smv_scope.specs.NeedsTree.{IsKeyAt, AreNeeds}
use Rattle.smv_scope.specs.WalkFindings.{IsDeclaredBy}
use Rattle.smv_flat.specs.ValueJudgement.{IsJudged}
use Rattle.smv_flat.specs.ResolverOf.{leaf_at, leaf_by, resolver, AreKnown}
use Rattle.smv_flat_laws.specs.ValueRules.{IsLeastBroken, KeepsValue}
use Rattle.smv_flat_laws.specs.ResolvedAt.{IsResolvedAt}
use Rattle.smv_flat.specs.ResolvedAt.{IsAt, IsValueFault}
use Rattle.smv_flat.proofs.BuildLeaves.{order, bounds_with, value_known}
use Rattle.smv_scope.proofs.SceneItems.{both_more}
use Rattle.smv_flat.proofs.BuildSound.{definition_of, written_with, definitions, sound, resolver_at}
use Rattle.smv_flat.proofs.BuildUnique.{all_one}
use Rattle.smv_flat.proofs.OnlyModel.{second_not}
use Rattle.smv_flat_laws.proofs.BothLaws.{both_size}
use Rattle.smv_flat.proofs.BuildModel.{bounds_made}

-- a definition is what its key stands for
one_definition : (p : ProgramTree) (d : Definition) → expression_of p d.key ≡ Some (d.place, d.written) → definition_of p d.key ≡ d
one_definition p d e = ap (written_with d.key) e

all_definitions : (p : ProgramTree) (m : FlatModel) (ds : List Definition) (fs : List FlatFormula) → EachBoth (IsDefinitionOf p m) ds fs → map (definition_of p) (map (λ (d : Definition). d.key) ds) ≡ ds
all_definitions p m [] [] h = refl
all_definitions p m [] (f ∷ fs) h = absurd h
all_definitions p m (d ∷ ds) [] h = absurd h
all_definitions p m (d ∷ ds) (f ∷ fs) h =
    let one : definition_of p d.key ≡ d = one_definition p d h.0.expression in
    let rest : map (definition_of p) (map (λ (d : Definition). d.key) ds) ≡ ds = all_definitions p m ds fs h.1 in
    ap (λ x. x ∷ map (definition_of p) (map (λ (d : Definition). d.key) ds)) one ∙ ap (λ xs. d ∷ xs) rest

module _ (s : Scene) (n : Needs) (is : IsScene s) (needs : AreNeeds (program_of s) n) (accepted : IsAccepted (program_of s)) where
  -- each reading of the model has the definitions of the scene
  written_is : (m : FlatModel) (flat : IsFlatOf (program_of s) m) → flat.written ≡ definitions s n is needs accepted
  written_is m flat =
      sym (all_definitions (program_of s) m flat.written m.definitions flat.placed) ∙ ap (map (definition_of (program_of s))) (all_one flat.order (order s n is needs accepted).adds)

  declared : (m : FlatModel) (flat : IsFlatOf (program_of s) m) → EachBoth (IsDeclaredBy (program_of s)) (variables_of (program_of s)) m.variables
  declared m flat = both_more (IsVariableOf m) (IsDeclaredBy (program_of s)) (variables_of (program_of s)) m.variables of_variable flat.variables
    where
      of_variable : (v : Visit) (x : FlatVariable) → IsVariableOf m v x → IsDeclaredBy (program_of s) v x
      of_variable v x h = record {
        place = h.place;
        name = h.name;
        role = h.role;
        declared = h.declared;
        item = h.item;
        at = h.number.0;
        is = ap (λ xs. slice_get xs x.number) (sym flat.instances) ∙ h.number.1;
        at_place = h.number.2;
      }

  pub there : (m : FlatModel) (spot : ℕ) (at : FlatInstance) → IsAt (program_of s) m spot at → slice_get (instances_of (program_of s)) spot ≡ Some at
  there m spot at a = ap (λ xs. slice_get xs spot) (sym a.flat.instances) ∙ a.is_at

  pub resolved_at : (m : FlatModel) (spot : ℕ) (at : FlatInstance) → IsAt (program_of s) m spot at → (e : Formula) (t : Tree FlatLeaf) → tree_map Some t ≡ tree_map (leaf_at s n spot) e →
      IsResolvedAt (program_of s) m at.place e t
  resolved_at m spot at a e t h flat = (
    resolver s n,
    subst (λ ds. IsSound (program_of s) m ds (resolver s n)) (sym (written_is m flat)) (sound s n is needs accepted m (declared m flat) flat.symbols),
    h ∙ sym (ap (λ o. tree_map (leaf_by s n o) e) (resolver_at s n is needs accepted spot at (there m spot at a))),
  )

  pub known_at : (m : FlatModelOf) (spot : ℕ) (at : FlatInstance) → IsAt (program_of s) (model_tree m) spot at → (e : Formula) → (SomeHasNoValue (program_of s) at.place e → ⊥) →
      AreKnown (leaf_at s n spot) (bounds_of m) e
  known_at m spot at a e value = subst (λ b. AreKnown (leaf_at s n spot) b e) same (value_known s n is needs accepted spot at e (there (model_tree m) spot at a) value)
    where
      variables : length (variables_of (program_of s)) ≡ length m.variables
      variables = both_size (IsVariableOf (model_tree m)) (variables_of (program_of s)) (map variable_tree m.variables) a.flat.variables ∙ length-map m.variables variable_tree

      symbols : length (symbols_of (program_of s)) ≡ length m.symbols
      symbols = ap (λ (xs : List Text). length xs) (sym a.flat.symbols)

      many : length n.order.items ≡ length m.definitions
      many =
          both_size (IsKeyAt (program_of s)) n.order.items (order s n is needs accepted).ordered (order s n is needs accepted).each
          ∙ sym (length-map (order s n is needs accepted).ordered (definition_of (program_of s))) ∙ ap (λ (ds : List Definition). length ds) (sym (written_is (model_tree m) a.flat))
          ∙ both_size (IsDefinitionOf (program_of s) (model_tree m)) a.flat.written (map formula_tree m.definitions) a.flat.placed ∙ length-map m.definitions formula_tree

      same : bounds_with (program_of s) (length n.order.items) ≡ bounds_made (length m.variables) (length m.symbols) (length m.definitions)
      same = cc (variables, symbols, many)

-- No rule is broken.
module _ (p : ProgramTree) (at : Place) (inputs : Bool) (e : Formula) where
  no_value : (j : JudgedValue) → IsJudged p at e j → j.no_value ≡ false → SomeHasNoValue p at e → ⊥
  no_value j is f bad = let both : true ≡ false = sym (is.no_value.1 bad) ∙ f in cc

  pub none_told : (j : JudgedValue) → IsJudged p at e j → first_of ((j.no_value, NoSuchName) ∷ (j.next, NextHere) ∷ (j.input && not inputs, InputHere) ∷ []) ≡ None → SomeHasNoValue p at e → ⊥
  none_told j is h = by_flag j.no_value refl h
    where
      by_flag : (a : Bool) → j.no_value ≡ a → first_of ((a, NoSuchName) ∷ (j.next, NextHere) ∷ (j.input && not inputs, InputHere) ∷ []) ≡ None → SomeHasNoValue p at e → ⊥
      by_flag true ea t = cc
      by_flag false ea t = no_value j is ea

  third_not : (a b c : Bool) → first_of ((a, NoSuchName) ∷ (b, NextHere) ∷ (c, InputHere) ∷ []) ≡ None → c ≡ false
  third_not true b c e = cc
  third_not false true c e = cc
  third_not false false true e = cc
  third_not false false false e = refl

  input_told : (input may : Bool) → input ≡ true → may ≡ false → (input && not may) ≡ false → ⊥
  input_told true true h k e = cc
  input_told true false h k e = cc
  input_told false may h k e = cc

  -- where no rule is told, none is broken
  pub none_broken : (j : JudgedValue) → IsJudged p at e j → first_of ((j.no_value, NoSuchName) ∷ (j.next, NextHere) ∷ (j.input && not inputs, InputHere) ∷ []) ≡ None → KeepsValue p at inputs e
  none_broken j is h no_main b = absurd b
  none_broken j is h main_has_parameters b = absurd b
  none_broken j is h double_module b = absurd b
  none_broken j is h double_name b = absurd b
  none_broken j is h no_such_module b = absurd b
  none_broken j is h wrong_count b = absurd b
  none_broken j is h module_loop b = absurd b
  none_broken j is h no_such_name b = none_told j is h b
  none_broken j is h not_a_target b = absurd b
  none_broken j is h double_assign b = absurd b
  none_broken j is h define_loop b = absurd b
  none_broken j is h next_here b = let bad : true ≡ false = sym b ∙ sym is.next ∙ second_not j.no_value j.next (j.input && not inputs) NoSuchName NextHere InputHere h in cc
  none_broken j is h input_here b = input_told j.input inputs (is.input.1 b.1) b.0 (third_not j.no_value j.next (j.input && not inputs) h)
  none_broken j is h too_many b = absurd b

  pub want_value : (f : FlatFault) → IsWant f → IsValueFault p at inputs e f
  want_value f want = subst (λ r. IfSome (rule_of r) (λ r. (f.item ≡ 0) × IsLeastBroken p at inputs e r)) (sym want) tt

  pub no_rule_value : (f : FlatFault) → rule_of f.rule ≡ None → IsValueFault p at inputs e f
  no_rule_value f none = subst (λ o. IfSome o (λ r. (f.item ≡ 0) × IsLeastBroken p at inputs e r)) (sym none) tt
