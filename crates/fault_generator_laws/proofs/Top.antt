-- `dead` keeps every rule of a top event of a program of stages.
use Rattle.std.proofs.Common.{◌≡◌, ℕ, zero, suc, arith, false, List, [], ◌∷◌, Option, Some, None, refl, sym, ◌∙◌, ap, subst, inl, inr, le-ltb}
use Rattle.std.specs.Prelude.{codes, IsTrue, nat_lt}
use Rattle.base_values.specs.declared.limits.TheConstants.{MOST_TOP_COST}
use Rattle.smv_language.specs.Language.{Tree, Formula, ModuleTree, ProgramTree, Place, Kind, kind_at, Key, define_key, a_variable_at, an_expression_at, by_kind, means_in, Means, FlatLeaf, FlatModel}
use Rattle.smv_flat_laws.specs.ResolvedAt.{IsResolvedAt}
use Rattle.smv_flat_laws.specs.Model.{IsFlatOf}
use Rattle.smv_flat_laws.specs.Rules.{Rule, no_such_name, next_here, input_here, expression_of, Needs, Leads, is_input_kind, MeansInput, ReadsInput}
use Rattle.smv_flat_laws.specs.ValueRules.{BreaksValue}
use Rattle.smv_flat_laws.proofs.Resolving.{same_meaning}
use Rattle.smv_type_laws.specs.ExpressionKinds.{KindRule, Judged}
use Rattle.smv_type_laws.specs.Costs.{cost_of}
use Rattle.smv_type_laws.specs.Models.{judged_in, broken_condition, least, size_fault, top_fault}
use Rattle.fault_generator.specs.Generator.{stage_name, relay_module, dead_formula, generated_top}
use Rattle.fault_generator_laws.specs.Laws.{GeneratedTopKeepsNames, GeneratedTopIsTyped}
use Rattle.fault_generator_laws.proofs.Stages.{relay_sections, program_of, AreStages, generated_of_stages}
use Rattle.fault_generator_laws.proofs.Meanings.{IsStage, relay_there, out_means, dead_there, dead_is, dead_needs_none, none_dead, has_value, NamesInput, IsInputMeaning}
use Rattle.fault_generator_laws.proofs.Truths.{IsLogical, IsTruth, logical_cost, logical_kept}
use Rattle.fault_generator_laws.proofs.Typed.{logical_by, of_truths}

condition_kept : (j : Judged) → IsTruth j → broken_condition j ≡ []
condition_kept j h = rw (h.class, h.kept) refl

module _ (fs : List (Option ℕ)) (last_a last_b : Option ℕ) (are : AreStages fs last_a last_b) where
  abbrev p : ProgramTree
  p = program_of fs last_a last_b

  dead_means : Means p [] (codes "dead" ∷ []) (an_expression_at (define_key [] (codes "dead")) [] (dead_formula last_a last_b))
  dead_means = (1, ap (λ (k : Kind). by_kind (means_in 0 p) p [] k (codes "dead") []) (dead_there relay_sections fs last_a last_b are refl))

  output_is_no_input : (j : ℕ) → IsStage relay_sections fs last_a last_b are refl (stage_name j) → MeansInput p [] (stage_name j ∷ codes "out" ∷ []) → ⊥
  output_is_no_input j s m =
      let out = out_means relay_sections fs last_a last_b are refl j s in
      let meant : IsInputMeaning p (a_variable_at (stage_name j ∷ []) (codes "out")) =
      subst (IsInputMeaning p) (same_meaning m.2.0 out.0 p [] (stage_name j ∷ codes "out" ∷ []) (a_variable_at m.0 m.1) (a_variable_at (stage_name j ∷ []) (codes "out")) m.2.1 out.1) m.3 in
      let bad : IsTrue (is_input_kind (kind_at (Some relay_module) (codes "out"))) =
      subst (λ (k : Option ModuleTree). IsTrue (is_input_kind (kind_at k (codes "out")))) (relay_there relay_sections fs last_a last_b are refl (stage_name j) s) meant in cc

  dead_is_no_input : MeansInput p [] (codes "dead" ∷ []) → ⊥
  dead_is_no_input m =
      subst (IsInputMeaning p)
      (same_meaning m.2.0 dead_means.0 p [] (codes "dead" ∷ []) (a_variable_at m.0 m.1) (an_expression_at (define_key [] (codes "dead")) [] (dead_formula last_a last_b)) m.2.1 dead_means.1) m.3

  one_key : (k j : Key) (at bt : Place) (e f : Formula) → an_expression_at k at e ≡ an_expression_at j bt f → k ≡ j
  one_key k j at bt e f same = cc

  dead_reads_no_input : ReadsInput p [] (codes "dead" ∷ []) → ⊥
  dead_reads_no_input r =
      along r.steps r.first
      (one_key r.first (define_key [] (codes "dead")) r.place [] r.written (dead_formula last_a last_b)
      (same_meaning r.means.0 dead_means.0 p [] (codes "dead" ∷ []) (an_expression_at r.first r.place r.written) (an_expression_at (define_key [] (codes "dead")) [] (dead_formula last_a last_b)) r.means.1 dead_means.1))
      r.leads
    where
      along : (n : ℕ) (first : Key) → first ≡ define_key [] (codes "dead") → Leads p n first r.last → ⊥
      along zero first k l =
          none_dead relay_sections fs last_a last_b are refl (MeansInput p []) output_is_no_input
          (subst (NamesInput p) (sym r.is ∙ ap (expression_of p) (l ∙ k) ∙ dead_is relay_sections fs last_a last_b are refl) r.names_input)
      along (suc n) first k l = dead_needs_none relay_sections fs last_a last_b are refl l.0 (subst (λ key. Needs p key l.0) k l.1)

  pub dead_keeps_names : (rule : Rule) → BreaksValue p [] false generated_top rule → ⊥
  dead_keeps_names no_such_name (inl b) =
      has_value p [] (codes "dead" ∷ []) (an_expression_at (define_key [] (codes "dead")) [] (dead_formula last_a last_b)) dead_means tt b
  dead_keeps_names no_such_name (inr b) = b
  dead_keeps_names next_here b = cc
  dead_keeps_names input_here (same, inl (inl m)) = dead_is_no_input m
  dead_keeps_names input_here (same, inl (inr r)) = dead_reads_no_input r
  dead_keeps_names input_here (same, inr b) = b
  dead_keeps_names other b = b

  pub dead_typed : (m : FlatModel) (is : IsFlatOf p m) (tree : Tree FlatLeaf) → IsResolvedAt p m [] generated_top tree → top_fault m tree ≡ None
  dead_typed m is tree resolved =
      ap (λ (rules : List KindRule). elim (least rules) [ Some r ↦ Some r | None ↦ size_fault (nat_lt MOST_TOP_COST (cost_of tree)) ]) (condition_kept (judged_in m false tree) (logical_kept m (of_truths fs last_a last_b are m is) tree logical))
      ∙ ap size_fault (le-ltb MOST_TOP_COST (cost_of tree) (omega (arith, logical_cost tree logical)))
    where
      logical : IsLogical tree
      logical = let r = resolved is in logical_by fs last_a last_b are m is r.0 r.1 [] generated_top tree r.2 (tt, omega arith)

pub generated_top_keeps_names : GeneratedTopKeepsNames
generated_top_keeps_names number stages few =
    let of = generated_of_stages number stages few in subst (λ p. (rule : Rule) → BreaksValue p [] false generated_top rule → ⊥) of.same (dead_keeps_names of.fs of.last_a of.last_b of.are)

pub generated_top_typed : GeneratedTopIsTyped
generated_top_typed number stages few =
    let of = generated_of_stages number stages few in
    subst (λ p. (m : FlatModel) (is : IsFlatOf p m) (tree : Tree FlatLeaf) → IsResolvedAt p m [] generated_top tree → top_fault m tree ≡ None) of.same (dead_typed of.fs of.last_a of.last_b of.are)
