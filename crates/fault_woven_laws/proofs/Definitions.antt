-- What names and definitions of a program are judged as in its flat model and in that of the woven program.
use Rattle.std.proofs.Common.{◌≡◌, ℕ, zero, suc, ◌<◌, ◌≤◌, arith, Bool, false, [], ◌∷◌, Option, Some, None, refl, sym, ap, ◌∙◌, subst}
use Rattle.std.specs.Prelude.{slice_get}
use Rattle.std.proofs.lemmas.Option.{some_pair_parts}
use Rattle.smv_language.specs.Language.{Tree, AllLeaves, Text, Path, Formula, DeclaredTree, ModuleTree, ProgramTree, IsType, Place, Role, Key, define_key, actual_key, Kind as NameKind, a_formal, a_variable, an_instance, undeclared, kind_in, kind_at as name_kind_at, kind_in_sections, module_at, actual_of_kind, Meaning, a_variable_at, an_expression_at, an_instance_at, Means, Each, IsInstance, IsVariable, FlatLeaf, flat_variable, flat_symbol, flat_definition, FlatFormula, FlatModel}
use Rattle.smv_language.specs.Scope.{a_define, a_symbol}
use Rattle.fault_instructions.specs.Instructions.{SliceTree, InstructionTree, slices_of}
use Rattle.fault_weave.specs.WovenProgram.{added_sections, woven}
use Rattle.fault_instructions.specs.KindTypes.{type_of_kind}
use Rattle.fault_instructions.specs.Weavable.{Among, IsLawfulSlice, IsWeavable}
use Rattle.fault_weave.proofs.WovenKinds.{kind_or, IsPlain, added_plain}
use Rattle.fault_weave.proofs.Meanings.{Kept, kind_kept, module_woven, same_meaning}
use Rattle.fault_weave.proofs.LeafValues.{kind_at_woven, read_variable}
use Rattle.smv_flat_laws.specs.NameResolution.{leaves_in, Definition, StandsFor, IsLeafOf, Resolver, IsSound, IsResolved, IsBefore}
use Rattle.smv_flat_laws.specs.Rules.{expression_of_kind, expression_in, expression_of, IsWalkable}
use Rattle.smv_flat_laws.specs.Model.{IsDefinitionOf, IsFlatOf}
use Rattle.smv_flat_laws.proofs.Lists.{each_more}
use Rattle.smv_flat_laws.proofs.Resolving.{same_meaning as one_meaning}
use Rattle.smv_flat_laws.proofs.Variables.{both_at}
use Rattle.smv_type_laws.specs.ExpressionKinds.{judge}
use Rattle.smv_type_laws.specs.Models.{kind_at, judged_definitions, kind_of_leaf, judged_in}
use Rattle.smv_type_laws.proofs.ModelLaws.{judge_agrees, all_leaves_more}
use Rattle.smv_type_laws.proofs.StandFor.{variable_there, for_variable, for_symbol, for_expression, for_instance}
use Rattle.smv_type_laws.proofs.Leaves.{kind_given, HasLeaf, HasKnown, resolved_judged, known_leaves, has_leaves, declared_so, variable_kind, definition_judged, all_both}

module _ (p : ProgramTree) (i : InstructionTree) (ok : IsWeavable p i) where
  -- the variable of a slice has a type of values
  pub slice_finite : (at : Place) (m : ModuleTree) → IsInstance p at m → (s : SliceTree) → Among (slices_of i m.name) s → IsType (type_of_kind (kind_in m s.target))
  slice_finite at m is s a =
      let lawful : IsLawfulSlice p at m s = ok.slices at m s is a in
      subst (λ k. IsType (type_of_kind k)) (sym lawful.target_kind) lawful.finite

  plain_no_expression : (at : Place) (k : NameKind) → IsPlain k → expression_of_kind at k ≡ None
  plain_no_expression at undeclared h = refl
  plain_no_expression at (a_variable role what) h = refl
  plain_no_expression at (a_formal j) h = absurd h
  plain_no_expression at (a_define e) h = absurd h
  plain_no_expression at (an_instance n es) h = absurd h

  define_same : (at : Place) (x : Text) → expression_of_kind at (name_kind_at (module_at (woven p i) at) x) ≡ expression_of_kind at (name_kind_at (module_at p at) x)
  define_same at x = by (module_at p at) refl
    where
      by_kind : (m : ModuleTree) → IsInstance p at m → (k : NameKind) → kind_in m x ≡ k → expression_of_kind at (kind_or k (kind_in_sections (added_sections i m) x)) ≡ expression_of_kind at k
      by_kind m is undeclared e = plain_no_expression at (kind_in_sections (added_sections i m) x) (added_plain m (slices_of i m.name) x (slice_finite at m is))
      by_kind m is (a_variable role what) e = refl
      by_kind m is (a_formal j) e = refl
      by_kind m is (a_define f) e = refl
      by_kind m is (an_instance n es) e = refl

      by : (o : Option ModuleTree) → module_at p at ≡ o → expression_of_kind at (name_kind_at (module_at (woven p i) at) x) ≡ expression_of_kind at (name_kind_at (module_at p at) x)
      by None e = rw (module_woven p i ok at, e) refl
      by (Some m) e = ap (expression_of_kind at) (kind_at_woven p i ok at m x e) ∙ by_kind m e (kind_in m x) refl ∙ ap (λ o. expression_of_kind at (name_kind_at o x)) (sym e)

  actual_kept : (x : Text) (k k' : NameKind) (j : ℕ) → Kept p (woven p i) x k k' → actual_of_kind k' j ≡ actual_of_kind k j
  actual_kept x (a_formal n) k' j e = rw e refl
  actual_kept x (a_variable role what) k' j e = rw e refl
  actual_kept x (a_define f) k' j e = rw e refl
  actual_kept x (an_instance n actuals) k' j e = rw e refl
  actual_kept x undeclared k' j e = e.2 j

  -- the expression of a definition stays
  pub expression_same : (key : Key) → expression_of (woven p i) key ≡ expression_of p key
  expression_same (define_key at x) = define_same at x
  expression_same (actual_key [] j) = refl
  expression_same (actual_key (own ∷ caller) j) = ap (expression_in caller) (actual_kept own _ _ j (kind_kept p i ok caller own))

  pub means_woven : (at : Place) (name : Path) (meaning : Meaning) → Means p at name meaning → Means (woven p i) at name meaning
  means_woven at name meaning h = (h.0, same_meaning p i ok h.0 h.0 at name meaning h.1 ∙ h.1)

  pub variable_woven : (at : Place) (x : Text) (role : Role) (type : DeclaredTree) → IsVariable p at x role type → IsVariable (woven p i) at x role type
  variable_woven at x role type h = variable_there (woven p i) at x role type (read_variable p i ok at h.0 x role type h.1 h.2)

module _ (p : ProgramTree) (i : InstructionTree) (ok : IsWeavable p i) (m w : FlatModel) (walkable : IsWalkable p) (also : IsWalkable (woven p i)) (is : IsFlatOf p m) (iw : IsFlatOf (woven p i) w) where
  -- definitions with numbers below this one are judged the same in both
  abbrev DefinitionsAgree : ℕ → Type 0
  DefinitionsAgree n =
      (k k' : ℕ) (d d' : Definition) → k < n → slice_get is.written k ≡ Some d → slice_get iw.written k' ≡ Some d' → d.key ≡ d'.key →
      slice_get (judged_definitions m) k ≡ slice_get (judged_definitions w) k'

  -- what stands for one meaning has one kind
  leaf_agrees : (n : ℕ) → DefinitionsAgree n → (l l' : FlatLeaf) (meaning : Meaning) → IsBefore n l → StandsFor m is.written l meaning → StandsFor w iw.written l' meaning →
      kind_of_leaf m l ≡ kind_of_leaf w l'
  leaf_agrees n agree l l' (a_variable_at at x) before h g =
      let a = for_variable m is.written l at x h in
      let b = for_variable w iw.written l' at x g in
      let v = a.2.variable in
      let there : IsVariable p at x v.role v.declared =
      subst (λ c. IsVariable p c x v.role v.declared) a.2.same_place (subst (λ y. IsVariable p v.place y v.role v.declared) a.2.same_name (declared_so p m walkable is a.0 v a.2.is)) in
      ap (kind_of_leaf m) a.1 ∙ variable_kind p m walkable is at x v.role v.declared a.0 there a.2
      ∙ sym (variable_kind (woven p i) w also iw at x v.role v.declared b.0 (variable_woven p i ok at x v.role v.declared there) b.2) ∙ ap (kind_of_leaf w) (sym b.1)
  leaf_agrees n agree l l' (a_symbol x) before h g =
      let a = for_symbol m is.written l x h in
      let b = for_symbol w iw.written l' x g in
      ap (kind_of_leaf m) a.1 ∙ ap (kind_of_leaf w) (sym b.1)
  leaf_agrees n agree l l' (an_expression_at key at e) before h g =
      let a = for_expression m is.written l key at e h in
      let b = for_expression w iw.written l' key at e g in
      let below : a.0 < n = subst (IsBefore n) a.1 before in
      ap (kind_of_leaf m) a.1 ∙ ap kind_at (agree a.0 b.0 (record { key = key; place = at; written = e }) (record { key = key; place = at; written = e }) below a.2 b.2 refl) ∙ ap (kind_of_leaf w) (sym b.1)
  leaf_agrees n agree l l' (an_instance_at at) before h g = absurd (for_instance m is.written l at h)

  module _ (r r' : Resolver) (sound : IsSound p m is.written r) (sound' : IsSound (woven p i) w iw.written r') where
    -- a name that both resolve has one kind
    name_agrees : (n : ℕ) → DefinitionsAgree n → (at : Place) (name : Path) → HasKnown (IsBefore n) (r at) name → HasLeaf (r' at) name → kind_given m (r at name) ≡ kind_given w (r' at name)
    name_agrees n agree at name h g =
        let a : IsLeafOf p m is.written at name h.0 = sound at name h.0 h.1 in
        let b : IsLeafOf (woven p i) w iw.written at name g.0 = sound' at name g.0 g.1 in
        let here = means_woven p i ok at name a.0 a.1 in
        let same : a.0 ≡ b.0 = one_meaning here.0 b.1.0 (woven p i) at name a.0 b.0 here.1 b.1.1 in
        ap (kind_given m) h.1 ∙ leaf_agrees n agree h.0 g.0 b.0 h.2 (subst (StandsFor m is.written h.0) same a.2) b.2 ∙ ap (kind_given w) (sym g.1)

    written_before : (n : ℕ) → DefinitionsAgree n → (at : Place) (e : Formula) (flat : Tree FlatLeaf) (sets : Bool) → IsResolved (r at) e flat → Each (IsBefore n) (leaves_in flat) → AllLeaves (HasLeaf (r' at)) e →
        judged_in m sets flat ≡ judge (λ name. kind_given w (r' at name)) sets e
    written_before n agree at e flat sets resolved before leaves =
        resolved_judged m (r at) e flat sets resolved
        ∙ judge_agrees (λ name. kind_given m (r at name)) (λ name. kind_given w (r' at name)) sets e
        (all_leaves_more (λ name. HasKnown (IsBefore n) (r at) name × HasLeaf (r' at) name) (λ name. kind_given m (r at name) ≡ kind_given w (r' at name)) (λ name both. name_agrees n agree at name both.0 both.1) e
        (all_both (HasKnown (IsBefore n) (r at)) (HasLeaf (r' at)) e (known_leaves (IsBefore n) (r at) e flat resolved before) leaves))

  -- a definition is judged the same where those before it are
  one_more : (n : ℕ) → DefinitionsAgree n → DefinitionsAgree (suc n)
  one_more n agree k k' d d' below e e' same =
      let a : (f : FlatFormula) × (slice_get m.definitions k ≡ Some f) × IsDefinitionOf p m d f = both_at (IsDefinitionOf p m) is.written m.definitions k d is.placed e in
      let b : (f : FlatFormula) × (slice_get w.definitions k' ≡ Some f) × IsDefinitionOf (woven p i) w d' f = both_at (IsDefinitionOf (woven p i) w) iw.written w.definitions k' d' iw.placed e' in
      let f = is.definitions k d e in
      let f' = iw.definitions k' d' e' in
      let parts : (d.place ≡ d'.place) × (d.written ≡ d'.written) =
      some_pair_parts d.place d'.place d.written d'.written (sym a.2.expression ∙ sym (expression_same p i ok d.key) ∙ ap (expression_of (woven p i)) same ∙ b.2.expression) in
      let places = parts.0 in
      let formulas = parts.1 in
      let there : IsResolved (iw.resolver d.place) d.written f'.0.value =
      subst (λ at. IsResolved (iw.resolver at) d.written f'.0.value) (sym places) (subst (λ t. IsResolved (iw.resolver d'.place) t f'.0.value) (sym formulas) f'.2) in
      let before : Each (IsBefore n) (leaves_in f.0.value) = each_more (IsBefore k) (IsBefore n) (leaves_in f.0.value) (λ l h. up_to k n l (omega arith) h) f.3 in
      definition_judged m k f.0 f.1 f.3
      ∙ ap Some (written_before is.resolver iw.resolver is.sound iw.sound n agree d.place d.written f.0.value false f.2 before (has_leaves (iw.resolver d.place) d.written f'.0.value there)
      ∙ sym (resolved_judged w (iw.resolver d.place) d.written f'.0.value false there))
      ∙ sym (definition_judged w k' f'.0 f'.1 f'.3)
    where
      up_to : (k n : ℕ) (l : FlatLeaf) → k ≤ n → IsBefore k l → IsBefore n l
      up_to k n (flat_variable j) h b = tt
      up_to k n (flat_symbol j) h b = tt
      up_to k n (flat_definition j) h b = omega (arith, b)

  pub definitions_agree : (n : ℕ) → DefinitionsAgree n
  definitions_agree zero = λ k k' d d' below e e' same. absurd (omega (arith, below))
  definitions_agree (suc n) = one_more n (definitions_agree n)

  abbrev past : FlatLeaf → ℕ
  past (flat_variable j) = 0
  past (flat_symbol j) = 0
  past (flat_definition j) = suc j

  is_past : (l : FlatLeaf) → IsBefore (past l) l
  is_past (flat_variable j) = tt
  is_past (flat_symbol j) = tt
  is_past (flat_definition j) = omega arith

  module _ (r r' : Resolver) (sound : IsSound p m is.written r) (sound' : IsSound (woven p i) w iw.written r') where
    -- a name that both resolve has one kind
    pub same_kind : (at : Place) (name : Path) → HasLeaf (r at) name → HasLeaf (r' at) name → kind_given m (r at name) ≡ kind_given w (r' at name)
    same_kind at name h g = name_agrees r r' sound sound' (past h.0) (definitions_agree (past h.0)) at name (h.0, h.1, is_past h.0) g

    -- a written expression is judged the same in both
    pub written_agrees : (at : Place) (e : Formula) (flat : Tree FlatLeaf) (sets : Bool) → IsResolved (r at) e flat → AllLeaves (HasLeaf (r' at)) e → judged_in m sets flat ≡ judge (λ name. kind_given w (r' at name)) sets e
    written_agrees at e flat sets resolved leaves =
        resolved_judged m (r at) e flat sets resolved
        ∙ judge_agrees (λ name. kind_given m (r at name)) (λ name. kind_given w (r' at name)) sets e
        (all_leaves_more (λ name. HasLeaf (r at) name × HasLeaf (r' at) name) (λ name. kind_given m (r at name) ≡ kind_given w (r' at name)) (λ name both. same_kind at name both.0 both.1) e
        (all_both (HasLeaf (r at)) (HasLeaf (r' at)) e (has_leaves (r at) e flat resolved) leaves))
