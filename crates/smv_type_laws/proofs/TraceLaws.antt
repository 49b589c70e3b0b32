-- The traces of a program are the traces of its flat model.
use Rattle.std.proofs.Common.{◌≡◌, ◌↔◌, ℕ, zero, suc, arith, true, List, [], ◌∷◌, length, map, flat_map, Some, IsTrue, refl, sym, ap, ◌∙◌, subst, codes}
use Rattle.std.specs.Prelude.{slice_get}
use Rattle.smv_language.specs.Language.{Text, DeclaredTree, boolean, range, members, instance, DeclTree, SectionTree, var, ivar, frozen, define, constants, assign, init, invar, trans, ModuleTree, ProgramTree, Place, Role, state, input, frozen_role, a_variable, kind_declared, kind_in, find_module, Value, Valuation, Each, EachPair, AtFirst, in_domain, IsInstance, IsVariable, Declares, DomainSection, IsFirst, IsMoment, IsStep, IsTrace, EachBoth, FlatVariable, FlatModel, Holds}
use Rattle.smv_flat_laws.specs.FlatTrace.{AreInDomains, IsFlatMoment, IsFlatStep, IsFlatTrace}
use Rattle.smv_flat_laws.specs.Items.{Item, a_declaration, a_definition, an_assignment, some_constants, an_init, an_invar, a_trans, NumberedItem, items_of_section, items_of, items_named, Visit, visits, variables_of}
use Rattle.smv_flat_laws.specs.Rules.{IsAccepted}
use Rattle.smv_flat_laws.specs.Model.{IsVariableOf, IsFlatOf}
use Rattle.smv_flat_laws.proofs.Reaches.{each_left, each_right}
use Rattle.smv_flat_laws.proofs.Lists.{each_more}
use Rattle.smv_flat_laws.proofs.KindLaws.{ItemFacts, kind_of_declaration}
use Rattle.smv_flat_laws.proofs.Sections.{items_are}
use Rattle.smv_flat_laws.proofs.Places.{has_main, walked, facts_named}
use Rattle.smv_flat_laws.proofs.Flattening.{flattening}
use Rattle.smv_flat_laws.proofs.Walkable.{accepted_walkable, main_is_there}
use Rattle.smv_flat_laws.proofs.Variables.{variables_are, RealVariable, real_variables}
use Rattle.smv_flat_laws.proofs.Numbered.{has_valuation}
use Rattle.smv_type_laws.specs.Laws.{values_by_number, DomainsAreThose, TracesAreThose}
use Rattle.smv_type_laws.proofs.WrittenLaws.{numbers, domains}
use Rattle.smv_flat_laws.proofs.HistoryTraces.{domains_length}

-- A declaration makes its name what it declares.
abbrev IsItsKind : ModuleTree → Item → Type 0
IsItsKind m (a_declaration role d) = kind_in m d.name ≡ kind_declared role d.what
IsItsKind m (a_definition d) = Unit {0}
IsItsKind m (an_assignment a) = Unit {0}
IsItsKind m (some_constants xs) = Unit {0}
IsItsKind m (an_init e) = Unit {0}
IsItsKind m (an_invar e) = Unit {0}
IsItsKind m (a_trans e) = Unit {0}

its_kind : (m : ModuleTree) (n : ℕ) (before : List Item) (i : Item) → ItemFacts m (record { number = n; before = before; item = i }) → IsItsKind m i
its_kind m n before (a_declaration role d) f = kind_of_declaration m before role d f.after f.among f.fresh
its_kind m n before (a_definition d) f = tt
its_kind m n before (an_assignment a) f = tt
its_kind m n before (some_constants xs) f = tt
its_kind m n before (an_init e) f = tt
its_kind m n before (an_invar e) f = tt
its_kind m n before (a_trans e) f = tt

kinds_of_items : (p : ProgramTree) → IsAccepted p → (at : Place) (m : ModuleTree) → IsInstance p at m → Each (IsItsKind m) (items_of m)
kinds_of_items p accepted at m is =
    let w = walked p (accepted_walkable p accepted) at m is in
    (items_are (IsItsKind m) p 1 [] w.name m w.found).0
    (each_more (ItemFacts m) (λ (i : NumberedItem). IsItsKind m i.item) (items_named p w.name) (λ i f. its_kind m i.number i.before i.item f) (facts_named p (accepted_walkable p accepted) w.name m w.found))

-- What holds of all variables of an instance holds of its declarations.
abbrev VariablesHold : ProgramTree → Valuation → Type 0
VariablesHold p v = (at : Place) (x : Text) (role : Role) (type : DeclaredTree) → IsVariable p at x role type → IsTrue (in_domain type (v at x))

declares : (p : ProgramTree) (v : Valuation) → VariablesHold p v → (at : Place) (m : ModuleTree) → IsInstance p at m → (role : Role) (x : Text) (what : DeclaredTree) →
    kind_in m x ≡ kind_declared role what → Declares v at x what
declares p v h at m is role x boolean e = h at x role boolean (m, is, e)
declares p v h at m is role x (range lo hi) e = h at x role (range lo hi) (m, is, e)
declares p v h at m is role x (members ms) e = h at x role (members ms) (m, is, e)
declares p v h at m is role x (instance k actuals) e = tt

declarations : (p : ProgramTree) (v : Valuation) → VariablesHold p v → (at : Place) (m : ModuleTree) → IsInstance p at m → (role : Role) (ds : List DeclTree) →
    Each (IsItsKind m) (map (a_declaration role) ds) → Each (λ d. Declares v at d.name d.what) ds
declarations p v h at m is role [] k = tt
declarations p v h at m is role (d ∷ ds) k = (declares p v h at m is role d.name d.what k.0, declarations p v h at m is role ds k.1)

in_section : (p : ProgramTree) (v : Valuation) → VariablesHold p v → (at : Place) (m : ModuleTree) → IsInstance p at m → (s : SectionTree) → Each (IsItsKind m) (items_of_section s) → DomainSection at v s
in_section p v h at m is (var ds) k = declarations p v h at m is state ds k
in_section p v h at m is (ivar ds) k = declarations p v h at m is input ds k
in_section p v h at m is (frozen ds) k = declarations p v h at m is frozen_role ds k
in_section p v h at m is (define ds) k = tt
in_section p v h at m is (constants xs) k = tt
in_section p v h at m is (assign xs) k = tt
in_section p v h at m is (init e) k = tt
in_section p v h at m is (invar e) k = tt
in_section p v h at m is (trans e) k = tt

in_sections : (p : ProgramTree) (v : Valuation) → VariablesHold p v → (at : Place) (m : ModuleTree) → IsInstance p at m → (ss : List SectionTree) → Each (IsItsKind m) (flat_map items_of_section ss) →
    Each (DomainSection at v) ss
in_sections p v h at m is [] k = tt
in_sections p v h at m is (s ∷ ss) k = (
  in_section p v h at m is s (each_left (IsItsKind m) (items_of_section s) (flat_map items_of_section ss) k),
  in_sections p v h at m is ss (each_right (IsItsKind m) (items_of_section s) (flat_map items_of_section ss) k),
)

-- A numbered variable is of the program, with its type.
record Numbered (p : ProgramTree) (x : FlatVariable) : Type 0 where
  role : Role
  is : IsVariable p x.place x.name role x.declared

numbered : (p : ProgramTree) (m : FlatModel) (ws : List Visit) (xs : List FlatVariable) → EachBoth (IsVariableOf m) ws xs → Each (RealVariable p) ws → Each (Numbered p) xs
numbered p m [] [] b r = tt
numbered p m [] (x ∷ xs) b r = absurd b
numbered p m (w ∷ ws) [] b r = absurd b
numbered p m (w ∷ ws) (x ∷ xs) b r =
    let is = b.0 in (
      record {
        role = w.role;
        is = subst (λ t. IsVariable p x.place x.name w.role t) (sym is.declared)
            (subst (λ y. IsVariable p x.place y w.role w.decl.what) (sym is.name) (subst (λ at. IsVariable p at w.decl.name w.role w.decl.what) (sym is.place) r.0));
      },
      numbered p m ws xs b.1 r.1,
    )

pub one_type : (p : ProgramTree) (at : Place) (x : Text) (r q : Role) (s t : DeclaredTree) → IsVariable p at x r s → IsVariable p at x q t → s ≡ t
one_type p at x r q s t a b =
    let same : a.0 ≡ b.0 = cc (a.1, b.1) in
    let kinds : a_variable r s ≡ a_variable q t = sym a.2 ∙ ap (λ m. kind_in m x) same ∙ b.2 in cc

-- at a place of the list
record Told (p : ProgramTree) (v : Valuation) (x : FlatVariable) : Type 0 where
  real : Numbered p x
  value : IsTrue (in_domain x.declared (v x.place x.name))

told_at : (p : ProgramTree) (v : Valuation) (xs : List FlatVariable) (i : ℕ) (x : FlatVariable) → Each (Numbered p) xs → AreInDomains xs (map (λ y. v y.place y.name) xs) → slice_get xs i ≡ Some x → Told p v x
told_at p v [] i x n h e = cc
told_at p v (y ∷ xs) zero x n h e = let same : y ≡ x = cc in subst (Told p v) same (record { real = n.0; value = h.0 })
told_at p v (y ∷ xs) (suc i) x n h e = told_at p v xs i x n.1 h.1 e

variables_hold : (p : ProgramTree) (m : FlatModel) → IsAccepted p → IsFlatOf p m → (v : Valuation) → AreInDomains m.variables (values_by_number m v) → VariablesHold p v
variables_hold p m accepted is v h at x role type var' =
    let main : (k : ModuleTree) × (find_module p (codes "main") ≡ Some k) = main_is_there p (accepted_walkable p accepted) in
    let reals = numbered p m (variables_of p) m.variables is.variables (real_variables p (visits p) (has_main p (accepted_walkable p accepted) main.0 main.1)) in
    let found = (variables_are p (accepted_walkable p accepted) m is at x).0 (role, type, var') in
    let told = told_at p v m.variables found.0 found.1 reals h found.2 in
    let here : IsVariable p at x told.real.role found.1.declared =
    subst (λ y. IsVariable p at y told.real.role found.1.declared) found.4 (subst (λ a. IsVariable p a found.1.name told.real.role found.1.declared) found.3 told.real.is) in
    let same : found.1.declared ≡ type = one_type p at x told.real.role role found.1.declared type here var' in
    let value : IsTrue (in_domain found.1.declared (v at x)) =
    subst (λ y. in_domain found.1.declared (v at y) ≡ true) found.4 (subst (λ a. in_domain found.1.declared (v a found.1.name) ≡ true) found.3 told.value) in
    subst (λ t. in_domain t (v at x) ≡ true) same value

pub domains_are : DomainsAreThose
domains_are p m accepted is v =
    (domains p m accepted is v, λ h at k here. in_sections p v (variables_hold p m accepted is v h) at k here k.sections (kinds_of_items p accepted at k here))

-- Traces.
first_mapped : {A B : Type 0} (P : A → Type 0) (Q : B → Type 0) (f : A → B) → ((a : A) → P a ↔ Q (f a)) → (xs : List A) → (AtFirst P xs ↔ AtFirst Q (map f xs))
first_mapped P Q f h [] = (λ g. g, λ g. g)
first_mapped P Q f h (x ∷ xs) = h x

each_mapped : {A B : Type 0} (P : A → Type 0) (Q : B → Type 0) (f : A → B) → ((a : A) → P a ↔ Q (f a)) → (xs : List A) → (Each P xs ↔ Each Q (map f xs))
each_mapped P Q f h [] = (λ g. g, λ g. g)
each_mapped P Q f h (x ∷ xs) =
    let more = each_mapped P Q f h xs in
    (λ g. ((h x).0 g.0, more.0 g.1), λ g. ((h x).1 g.0, more.1 g.1))

pairs_mapped : {A B : Type 0} (R : A → A → Type 0) (S : B → B → Type 0) (f : A → B) → ((a b : A) → R a b ↔ S (f a) (f b)) → (xs : List A) → (EachPair R xs ↔ EachPair S (map f xs))
pairs_mapped R S f h [] = (λ g. g, λ g. g)
pairs_mapped R S f h (x ∷ []) = (λ g. g, λ g. g)
pairs_mapped R S f h (x ∷ y ∷ xs) =
    let more = pairs_mapped R S f h (y ∷ xs) in
    (λ g. ((h x y).0 g.0, more.0 g.1), λ g. ((h x y).1 g.0, more.1 g.1))

moments_are : (p : ProgramTree) (m : FlatModel) → IsAccepted p → IsFlatOf p m → (v : Valuation) → (IsMoment p v ↔ IsFlatMoment m (values_by_number m v))
moments_are p m accepted is v =
    let d = domains_are p m accepted is v in
    let f = (flattening p m accepted is).each (values_by_number m v) v (numbers m v) in
    (λ g. record { domains = d.0 g.0; holds = f.1 g.1 }, λ g. (d.1 g.domains, f.0 g.holds))

pub traces_are : (p : ProgramTree) (m : FlatModel) → IsAccepted p → IsFlatOf p m → (trace : List Valuation) → (IsTrace p trace ↔ IsFlatTrace m (map (values_by_number m) trace))
traces_are p m accepted is trace =
    let flat = flattening p m accepted is in
    let first = first_mapped (IsFirst p) (λ v. Each (Holds m v v) m.at_first) (values_by_number m)
    (λ v. let f = flat.first (values_by_number m v) v (numbers m v) in (f.1, f.0)) trace in
    let moments = each_mapped (IsMoment p) (IsFlatMoment m) (values_by_number m) (moments_are p m accepted is) trace in
    let steps = pairs_mapped (IsStep p) (IsFlatStep m) (values_by_number m)
    (λ v w. let f = flat.step (values_by_number m v) (values_by_number m w) v w (numbers m v) (numbers m w) in (f.1, f.0)) trace in
    (λ g. record { first = first.0 g.first; moments = moments.0 g.moments; steps = steps.0 g.steps }, λ g. record { first = first.1 g.first; moments = moments.1 g.moments; steps = steps.1 g.steps })

same_values : (f : FlatVariable → Value) (xs : List FlatVariable) (v : List Value) → length v ≡ length xs → ((i : ℕ) (x : FlatVariable) → slice_get xs i ≡ Some x → slice_get v i ≡ Some (f x)) → map f xs ≡ v
same_values f [] [] l h = refl
same_values f [] (w ∷ v) l h = absurd (omega (arith, l))
same_values f (x ∷ xs) [] l h = absurd (omega (arith, l))
same_values f (x ∷ xs) (w ∷ v) l h =
    let head : Some w ≡ Some (f x) = h 0 x refl in
    let one : w ≡ f x = cc in
    let rest = same_values f xs v (omega (arith, l)) (λ i y e. h (suc i) y e) in cc

pub traces_named : (p : ProgramTree) (m : FlatModel) → IsAccepted p → IsFlatOf p m → (flat : List (List Value)) → Each (IsFlatMoment m) flat →
    (trace : List Valuation) × (map (values_by_number m) trace ≡ flat)
traces_named p m accepted is [] h = ([], refl)
traces_named p m accepted is (v ∷ flat) h =
    let more = traces_named p m accepted is flat h.1 in
    let size = domains_length m.variables v h.0.domains in
    let named = has_valuation p m accepted is v size in
    let same : values_by_number m named.0 ≡ v = same_values (λ x. named.0 x.place x.name) m.variables v size named.1 in
    let rest = more.1 in
    (named.0 ∷ more.0, λ i. same i ∷ rest i)

pub traces_are_those : TracesAreThose
traces_are_those p m accepted is = (traces_are p m accepted is, λ flat h. traces_named p m accepted is flat h.moments)
