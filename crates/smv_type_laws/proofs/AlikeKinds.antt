-- At instances of one module without formals expressions have the same kinds and break the same rules.
use Rattle.std.proofs.Common.{◌≡◌, ℕ, zero, suc, ◌<◌, ◌≤◌, arith, Bool, false, ◌++◌, Some, refl, sym, ap, ◌∙◌, subst}
use Rattle.std.specs.Prelude.{slice_get}
use Rattle.std.proofs.lemmas.Option.{some_pair_parts}
use Rattle.smv_language.specs.Language.{Tree, Text, Path, Formula, DeclaredTree, ProgramTree, Place, Role, Key, Meaning, a_variable_at, an_expression_at, an_instance_at, Each, IsVariable, FlatLeaf, flat_variable, flat_symbol, flat_definition, FlatFormula, FlatModel}
use Rattle.smv_language.specs.Scope.{a_symbol}
use Rattle.smv_flat_laws.specs.Alike.{AreAlike}
use Rattle.smv_flat_laws.specs.NameResolution.{leaves_in, Definition, StandsFor, IsLeafOf, Resolver, IsSound, IsResolved, IsBefore}
use Rattle.smv_flat_laws.specs.Rules.{expression_of, IsWalkable}
use Rattle.smv_flat_laws.specs.Model.{IsDefinitionOf, IsFlatOf}
use Rattle.smv_flat_laws.proofs.AlikeMeant.{key_onto, onto, IsInside, MeansInside, same_module, Moved, means_moved}
use Rattle.smv_flat_laws.proofs.AlikeBreak.{Written, expression_moved}
use Rattle.smv_flat_laws.proofs.Lists.{each_more}
use Rattle.smv_flat_laws.proofs.Resolving.{same_meaning as one_meaning}
use Rattle.smv_flat_laws.proofs.Variables.{both_at}
use Rattle.smv_type_laws.specs.Alike.{AlikeJudgeAlike}
use Rattle.smv_type_laws.specs.Models.{kind_at, judged_definitions, kind_of_leaf, judged_in}
use Rattle.smv_type_laws.proofs.Leaves.{kind_given, HasLeaf, HasKnown, resolved_judged, known_leaves, has_leaves, declared_so, variable_kind, definition_judged, all_both}
use Rattle.smv_type_laws.proofs.ModelLaws.{judge_agrees, all_leaves_more}
use Rattle.smv_type_laws.proofs.StandFor.{for_variable, for_symbol, for_expression, for_instance}

module _ (p : ProgramTree) (m : FlatModel) (walkable : IsWalkable p) (is : IsFlatOf p m) (a b : Place) (alike : AreAlike p a b) where
  variable_moved : (s : Place) (x : Text) (role : Role) (type : DeclaredTree) → IsVariable p (s ++ a) x role type → IsVariable p (s ++ b) x role type
  variable_moved s x role type h = (h.0, same_module p a b alike s ∙ h.1, h.2)

  -- definitions with numbers below this one are judged as those that correspond in the other instance
  abbrev DefinitionsAgree : ℕ → Type 0
  DefinitionsAgree n =
      (k k' : ℕ) (d d' : Definition) (key : Key) → IsInside key → k < n → slice_get is.written k ≡ Some d → slice_get is.written k' ≡ Some d' → d.key ≡ key_onto a key → d'.key ≡ key_onto b key →
      slice_get (judged_definitions m) k ≡ slice_get (judged_definitions m) k'

  -- what stands for one meaning, in the one and in the other, has one kind
  leaf_agrees : (n : ℕ) → DefinitionsAgree n → (l l' : FlatLeaf) (meaning : Meaning) → MeansInside meaning → IsBefore n l → StandsFor m is.written l (onto a meaning) →
      StandsFor m is.written l' (onto b meaning) → kind_of_leaf m l ≡ kind_of_leaf m l'
  leaf_agrees n agree l l' (a_variable_at s x) inside before h g =
      let c = for_variable m is.written l (s ++ a) x h in
      let d = for_variable m is.written l' (s ++ b) x g in
      let v = c.2.variable in
      let there : IsVariable p (s ++ a) x v.role v.declared =
      subst (λ u. IsVariable p u x v.role v.declared) c.2.same_place (subst (λ y. IsVariable p v.place y v.role v.declared) c.2.same_name (declared_so p m walkable is c.0 v c.2.is)) in
      ap (kind_of_leaf m) c.1 ∙ variable_kind p m walkable is (s ++ a) x v.role v.declared c.0 there c.2
      ∙ sym (variable_kind p m walkable is (s ++ b) x v.role v.declared d.0 (variable_moved s x v.role v.declared there) d.2) ∙ ap (kind_of_leaf m) (sym d.1)
  leaf_agrees n agree l l' (a_symbol x) inside before h g =
      let c = for_symbol m is.written l x h in
      let d = for_symbol m is.written l' x g in
      ap (kind_of_leaf m) c.1 ∙ ap (kind_of_leaf m) (sym d.1)
  leaf_agrees n agree l l' (an_expression_at key s e) inside before h g =
      let c = for_expression m is.written l (key_onto a key) (s ++ a) e h in
      let d = for_expression m is.written l' (key_onto b key) (s ++ b) e g in
      let below : c.0 < n = subst (IsBefore n) c.1 before in
      ap (kind_of_leaf m) c.1
      ∙ ap kind_at (agree c.0 d.0 (record { key = key_onto a key; place = s ++ a; written = e }) (record { key = key_onto b key; place = s ++ b; written = e }) key inside below c.2 d.2 refl refl)
      ∙ ap (kind_of_leaf m) (sym d.1)
  leaf_agrees n agree l l' (an_instance_at s) inside before h g = absurd (for_instance m is.written l (s ++ a) h)

  module _ (r s : Resolver) (sound : IsSound p m is.written r) (sound' : IsSound p m is.written s) where
    -- a name that both resolve has one kind
    name_agrees : (n : ℕ) → DefinitionsAgree n → (at : Place) (name : Path) → HasKnown (IsBefore n) (r (at ++ a)) name → HasLeaf (s (at ++ b)) name →
        kind_given m (r (at ++ a) name) ≡ kind_given m (s (at ++ b) name)
    name_agrees n agree at name h g =
        let x : IsLeafOf p m is.written (at ++ a) name h.0 = sound (at ++ a) name h.0 h.1 in
        let y : IsLeafOf p m is.written (at ++ b) name g.0 = sound' (at ++ b) name g.0 g.1 in
        let t : Moved p a b alike at name y.0 = means_moved p a b alike at name y.0 y.1 in
        let same : x.0 ≡ onto a t.found = one_meaning x.1.0 t.means.0 p (at ++ a) name x.0 (onto a t.found) x.1.1 t.means.1 in
        ap (kind_given m) h.1 ∙ leaf_agrees n agree h.0 g.0 t.found t.inside h.2 (subst (StandsFor m is.written h.0) same x.2) (subst (StandsFor m is.written g.0) t.is y.2)
        ∙ ap (kind_given m) (sym g.1)

    written_before : (n : ℕ) → DefinitionsAgree n → (at : Place) (e : Formula) (flat flat' : Tree FlatLeaf) (sets : Bool) → IsResolved (r (at ++ a)) e flat → Each (IsBefore n) (leaves_in flat) →
        IsResolved (s (at ++ b)) e flat' → judged_in m sets flat ≡ judged_in m sets flat'
    written_before n agree at e flat flat' sets resolved before resolved' =
        resolved_judged m (r (at ++ a)) e flat sets resolved
        ∙ judge_agrees (λ name. kind_given m (r (at ++ a) name)) (λ name. kind_given m (s (at ++ b) name)) sets e
        (all_leaves_more (λ name. HasKnown (IsBefore n) (r (at ++ a)) name × HasLeaf (s (at ++ b)) name) (λ name. kind_given m (r (at ++ a) name) ≡ kind_given m (s (at ++ b) name))
        (λ name both. name_agrees n agree at name both.0 both.1) e
        (all_both (HasKnown (IsBefore n) (r (at ++ a))) (HasLeaf (s (at ++ b))) e (known_leaves (IsBefore n) (r (at ++ a)) e flat resolved before) (has_leaves (s (at ++ b)) e flat' resolved')))
        ∙ sym (resolved_judged m (s (at ++ b)) e flat' sets resolved')

  -- a definition is judged the same where those before it are
  one_more : (n : ℕ) → DefinitionsAgree n → DefinitionsAgree (suc n)
  one_more n agree k k' d d' key inside below e e' is_first is_second =
      let x : (f : FlatFormula) × (slice_get m.definitions k ≡ Some f) × IsDefinitionOf p m d f = both_at (IsDefinitionOf p m) is.written m.definitions k d is.placed e in
      let y : (f : FlatFormula) × (slice_get m.definitions k' ≡ Some f) × IsDefinitionOf p m d' f = both_at (IsDefinitionOf p m) is.written m.definitions k' d' is.placed e' in
      let f = is.definitions k d e in
      let f' = is.definitions k' d' e' in
      let w : Written p a b alike key d'.place d'.written = expression_moved p a b alike key inside d'.place d'.written (sym (ap (expression_of p) is_second) ∙ y.2.expression) in
      let parts : (d.place ≡ w.within ++ a) × (d.written ≡ d'.written) =
      some_pair_parts d.place (w.within ++ a) d.written d'.written (sym (sym (ap (expression_of p) is_first) ∙ x.2.expression) ∙ w.moved) in
      let first : IsResolved (is.resolver (w.within ++ a)) d'.written f.0.value =
      subst (λ at. IsResolved (is.resolver at) d'.written f.0.value) parts.0 (subst (λ t. IsResolved (is.resolver d.place) t f.0.value) parts.1 f.2) in
      let second : IsResolved (is.resolver (w.within ++ b)) d'.written f'.0.value = subst (λ at. IsResolved (is.resolver at) d'.written f'.0.value) w.is f'.2 in
      let before : Each (IsBefore n) (leaves_in f.0.value) = each_more (IsBefore k) (IsBefore n) (leaves_in f.0.value) (λ l h. up_to k n l (omega arith) h) f.3 in
      definition_judged m k f.0 f.1 f.3
      ∙ ap Some (written_before is.resolver is.resolver is.sound is.sound n agree w.within d'.written f.0.value f'.0.value false first before second)
      ∙ sym (definition_judged m k' f'.0 f'.1 f'.3)
    where
      up_to : (k n : ℕ) (l : FlatLeaf) → k ≤ n → IsBefore k l → IsBefore n l
      up_to k n (flat_variable j) h c = tt
      up_to k n (flat_symbol j) h c = tt
      up_to k n (flat_definition j) h c = omega (arith, c)

  definitions_agree : (n : ℕ) → DefinitionsAgree n
  definitions_agree zero = λ k k' d d' key inside below e e' is_first is_second. absurd (omega (arith, below))
  definitions_agree (suc n) = one_more n (definitions_agree n)

  abbrev past : FlatLeaf → ℕ
  past (flat_variable j) = 0
  past (flat_symbol j) = 0
  past (flat_definition j) = suc j

  is_past : (l : FlatLeaf) → IsBefore (past l) l
  is_past (flat_variable j) = tt
  is_past (flat_symbol j) = tt
  is_past (flat_definition j) = omega arith

  module _ (r s : Resolver) (sound : IsSound p m is.written r) (sound' : IsSound p m is.written s) where
    name_alike : (at : Place) (name : Path) → HasLeaf (r (at ++ a)) name → HasLeaf (s (at ++ b)) name → kind_given m (r (at ++ a) name) ≡ kind_given m (s (at ++ b) name)
    name_alike at name h g = name_agrees r s sound sound' (past h.0) (definitions_agree (past h.0)) at name (h.0, h.1, is_past h.0) g

    pub written_alike : (at : Place) (e : Formula) (flat flat' : Tree FlatLeaf) → IsResolved (r (at ++ a)) e flat → IsResolved (s (at ++ b)) e flat' → (sets : Bool) → judged_in m sets flat ≡ judged_in m sets flat'
    written_alike at e flat flat' resolved resolved' sets =
        resolved_judged m (r (at ++ a)) e flat sets resolved
        ∙ judge_agrees (λ name. kind_given m (r (at ++ a) name)) (λ name. kind_given m (s (at ++ b) name)) sets e
        (all_leaves_more (λ name. HasLeaf (r (at ++ a)) name × HasLeaf (s (at ++ b)) name) (λ name. kind_given m (r (at ++ a) name) ≡ kind_given m (s (at ++ b) name))
        (λ name both. name_alike at name both.0 both.1) e
        (all_both (HasLeaf (r (at ++ a))) (HasLeaf (s (at ++ b))) e (has_leaves (r (at ++ a)) e flat resolved) (has_leaves (s (at ++ b)) e flat' resolved')))
        ∙ sym (resolved_judged m (s (at ++ b)) e flat' sets resolved')

pub alike_judged : AlikeJudgeAlike
alike_judged p m walkable is a b alike r s sound sound' at e first second resolved resolved' sets = written_alike p m walkable is a b alike r s sound sound' at e first second resolved resolved' sets
