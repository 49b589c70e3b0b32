-- What a written expression of a lawful program may have lies in the kind of its flat form.
use Rattle.std.proofs.Common.{◌≡◌, Bool, true, false, List, [], ◌∷◌, map, Some, IsTrue, refl, sym, ap, ◌∙◌, subst}
use Rattle.std.specs.Prelude.{codes}
use Rattle.smv_language.specs.Language.{Tree, Text, Formula, DeclaredTree, boolean, range, members, instance, DeclTree, DefineTree, SectionTree, var, ivar, frozen, define, constants, assign, init, invar, trans, ModuleTree, ProgramTree, same_text, Value, symbol, one, Place, Role, state, input, frozen_role, Kind, a_variable, kind_declared, kind_in_decls, kind_in_defines, kind_in_sections, formal_from, find_module, Valuation, Each, in_domain, IsVariable, Declares, DomainSection, InDomains, EachBoth, FlatLeaf, FlatVariable, FlatModel, Numbers}
use Rattle.smv_language.specs.Values.{truth, number}
use Rattle.smv_language.proofs.ValueLaws.{same_value_refl}
use Rattle.smv_flat_laws.specs.Items.{Visit, visits, variables_of}
use Rattle.smv_flat_laws.specs.Rules.{IsAccepted}
use Rattle.smv_flat_laws.specs.Model.{IsVariableOf, IsFlatOf}
use Rattle.smv_flat_laws.specs.NameResolution.{Resolver, IsSound, IsResolved}
use Rattle.smv_flat_laws.proofs.Places.{has_main}
use Rattle.smv_flat_laws.proofs.Walkable.{accepted_walkable, main_is_there}
use Rattle.smv_flat_laws.specs.FlatTrace.{AreInDomains}
use Rattle.smv_type_laws.specs.ExpressionKinds.{Judged, truth_class, not_boolean, unless_class}
use Rattle.smv_type_laws.specs.KindValues.{IsOfClass, IsOfKind}
use Rattle.smv_type_laws.specs.Models.{judged_in, IsTyped}
use Rattle.smv_type_laws.specs.Laws.{values_by_number, KeepsKind, WrittenValuesLieInKinds, WrittenConditionsAreDecided}
use Rattle.smv_type_laws.proofs.Parts.{none_first, none_second, class_kept}
use Rattle.smv_type_laws.proofs.TreeLaws.{no_set}
use Rattle.smv_type_laws.proofs.Typed.{values_lie}
use Rattle.smv_type_laws.proofs.ClosedLaws.{own_by, models_closed}
use Rattle.smv_type_laws.proofs.AnyResolver.{resolved_by, may_by}
use Rattle.smv_language.proofs.OneTree.{same_text_equal}
use Rattle.smv_language.proofs.ListLaws.{get_map}
use Rattle.smv_language.proofs.ProgramLaws.{after_formals}
use Rattle.smv_flat_laws.proofs.Variables.{RealVariable, real_variables}

-- A declared variable has a value of its domain.
declared_value : (v : Valuation) (at : Place) (x : Text) (role r : Role) (what type : DeclaredTree) → kind_declared r what ≡ a_variable role type → Declares v at x what → IsTrue (in_domain type (v at x))
declared_value v at x role r boolean type e h = let same : boolean ≡ type = cc in subst (λ t. in_domain t (v at x) ≡ true) same h
declared_value v at x role r (range lo hi) type e h = let same : range lo hi ≡ type = cc in subst (λ t. in_domain t (v at x) ≡ true) same h
declared_value v at x role r (members ms) type e h = let same : members ms ≡ type = cc in subst (λ t. in_domain t (v at x) ≡ true) same h
declared_value v at x role r (instance m actuals) type e h = cc

in_decls : (v : Valuation) (at : Place) (x : Text) (role r : Role) (type : DeclaredTree) (ds : List DeclTree) (otherwise : Kind) → Each (λ d. Declares v at d.name d.what) ds →
    kind_in_decls r ds x otherwise ≡ a_variable role type → (otherwise ≡ a_variable role type → IsTrue (in_domain type (v at x))) → IsTrue (in_domain type (v at x))
in_decls v at x role r type [] otherwise h e f = f e
in_decls v at x role r type (d ∷ ds) otherwise h e f = by (same_text d.name x) refl (λ g. in_decls v at x role r type ds otherwise h.1 g f)
  where
    by : (b : Bool) → same_text d.name x ≡ b → (kind_in_decls r ds x otherwise ≡ a_variable role type → IsTrue (in_domain type (v at x))) → IsTrue (in_domain type (v at x))
    by true t rest =
        let is : kind_declared r d.what ≡ a_variable role type = rw t at e in
        declared_value v at x role r d.what type is (subst (λ y. Declares v at y d.what) (same_text_equal d.name x t) h.0)
    by false t rest = rest (rw t at e)

in_defines : {P : Type 0} (x : Text) (role : Role) (type : DeclaredTree) (ds : List DefineTree) (otherwise : Kind) → kind_in_defines ds x otherwise ≡ a_variable role type →
    (otherwise ≡ a_variable role type → P) → P
in_defines x role type [] otherwise e f = f e
in_defines {P} x role type (d ∷ ds) otherwise e f = by (same_text d.name x) refl (λ g. in_defines x role type ds otherwise g f)
  where
    by : (b : Bool) → same_text d.name x ≡ b → (kind_in_defines ds x otherwise ≡ a_variable role type → P) → P
    by true t rest = cc (rw t at e)
    by false t rest = rest (rw t at e)

in_sections : (v : Valuation) (at : Place) (x : Text) (role : Role) (type : DeclaredTree) (ss : List SectionTree) → Each (DomainSection at v) ss → kind_in_sections ss x ≡ a_variable role type →
    IsTrue (in_domain type (v at x))
in_sections v at x role type [] h e = cc
in_sections v at x role type (var ds ∷ ss) h e = in_decls v at x role state type ds _ h.0 e (in_sections v at x role type ss h.1)
in_sections v at x role type (ivar ds ∷ ss) h e = in_decls v at x role input type ds _ h.0 e (in_sections v at x role type ss h.1)
in_sections v at x role type (frozen ds ∷ ss) h e = in_decls v at x role frozen_role type ds _ h.0 e (in_sections v at x role type ss h.1)
in_sections v at x role type (define ds ∷ ss) h e = in_defines x role type ds _ e (in_sections v at x role type ss h.1)
in_sections v at x role type (constants xs ∷ ss) h e = in_sections v at x role type ss h.1 e
in_sections v at x role type (assign xs ∷ ss) h e = in_sections v at x role type ss h.1 e
in_sections v at x role type (init f ∷ ss) h e = in_sections v at x role type ss h.1 e
in_sections v at x role type (invar f ∷ ss) h e = in_sections v at x role type ss h.1 e
in_sections v at x role type (trans f ∷ ss) h e = in_sections v at x role type ss h.1 e

variable_value : (p : ProgramTree) (v : Valuation) → InDomains p v → (at : Place) (x : Text) (role : Role) (type : DeclaredTree) → IsVariable p at x role type → IsTrue (in_domain type (v at x))
variable_value p v h at x role type is =
    let m = is.0 in
    in_sections v at x role type m.sections (h at m is.1) (after_formals (formal_from 0 m.formals x) (kind_in_sections m.sections x) role type is.2)

pub numbers : (m : FlatModel) (v : Valuation) → Numbers m (values_by_number m v) v
numbers m v i x e = get_map (λ y. v y.place y.name) m.variables i x e

domains_from : (p : ProgramTree) (m : FlatModel) (v : Valuation) → InDomains p v → (ws : List Visit) (xs : List FlatVariable) → EachBoth (IsVariableOf m) ws xs → Each (RealVariable p) ws →
    AreInDomains xs (map (λ x. v x.place x.name) xs)
domains_from p m v h [] [] b r = tt
domains_from p m v h [] (x ∷ xs) b r = absurd b
domains_from p m v h (w ∷ ws) [] b r = absurd b
domains_from p m v h (w ∷ ws) (x ∷ xs) b r =
    let value = variable_value p v h w.place w.decl.name w.role w.decl.what r.0 in
    let is = b.0 in
    let placed : IsTrue (in_domain w.decl.what (v x.place x.name)) =
    subst (λ y. in_domain w.decl.what (v x.place y) ≡ true) (sym is.name) (subst (λ at. in_domain w.decl.what (v at w.decl.name) ≡ true) (sym is.place) value) in
    (subst (λ t. in_domain t (v x.place x.name) ≡ true) (sym is.declared) placed, domains_from p m v h ws xs b.1 r.1)

pub domains : (p : ProgramTree) (m : FlatModel) → IsAccepted p → IsFlatOf p m → (v : Valuation) → InDomains p v → AreInDomains m.variables (values_by_number m v)
domains p m accepted is v h =
    let main : (k : ModuleTree) × (find_module p (codes "main") ≡ Some k) = main_is_there p (accepted_walkable p accepted) in
    domains_from p m v h (variables_of p) m.variables is.variables (real_variables p (visits p) (has_main p (accepted_walkable p accepted) main.0 main.1))

-- the law of flat expressions, at the values of valuations
kept : (p : ProgramTree) (m : FlatModel) → IsAccepted p → (is : IsFlatOf p m) → IsTyped m → (r : Resolver) → IsSound p m is.written r → (now next : Valuation) → InDomains p now → InDomains p next →
    (at : Place) (e : Formula) (flat : Tree FlatLeaf) → IsResolved (r at) e flat → (sets : Bool) → (judged_in m sets flat).broken ≡ [] →
    KeepsKind m (values_by_number m now) (values_by_number m next) (judged_in m sets flat) flat
kept p m accepted is typed q sound now next h g at e flat r sets right =
    values_lie m (models_closed p m is) typed (values_by_number m now) (values_by_number m next) (domains p m accepted is now h) (domains p m accepted is next g) sets flat
    (own_by p m is q sound at e flat r) right

pub written_values_lie : WrittenValuesLieInKinds
written_values_lie p m accepted is typed q sound now next h g at e flat r sets right =
    let k = kept p m accepted is typed q sound now next h g at e flat r sets right in
    record {
      of_kind = λ x may. k.of_kind x ((may_by p m is q sound (values_by_number m now) (values_by_number m next) now next (numbers m now) (numbers m next) at e flat r x).0 may);
      alone = λ f.
          let one' = k.alone f in
          let given = (resolved_by p m is q sound (values_by_number m now) (values_by_number m next) now next (numbers m now) (numbers m next) at e flat r (one one'.0)).1 one'.1 in
          (one'.0, given.0, given.1);
    }

truth_value : (j : Judged) (v : Value) → j.kind.class ≡ truth_class → IsOfKind j.kind v → (b : Bool) × (v ≡ truth b)
truth_value j v e h = by v (subst (λ c. IsOfClass c v) e h.class)
  where
    by : (w : Value) → IsOfClass truth_class w → (b : Bool) × (w ≡ truth b)
    by (truth b) k = (b, refl)
    by (number n) k = absurd k
    by (symbol x) k = absurd k

pub written_conditions_decided : WrittenConditionsAreDecided
written_conditions_decided p m accepted is typed q sound now next h g at e flat r none =
    let j = judged_in m false flat in
    let class = unless_class truth_class not_boolean j.kind in
    let right = none_second class j.broken none in
    let k = kept p m accepted is typed q sound now next h g at e flat r false right in
    let one' = k.alone (no_set _ flat right) in
    let b = truth_value j one'.0 (class_kept truth_class not_boolean j.kind (none_first class j.broken none)) (k.of_kind one'.0 (one one'.0, one'.1, same_value_refl one'.0)) in
    let given = (resolved_by p m is q sound (values_by_number m now) (values_by_number m next) now next (numbers m now) (numbers m next) at e flat r (one one'.0)).1 one'.1 in
    (given.0, b.0, given.1 ∙ ap (λ v. Some (one v)) b.1)
