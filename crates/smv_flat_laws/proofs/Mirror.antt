-- Worked example: two instances that read each other: MODULE M(p) VAR x : boolean; ASSIGN x := p; MODULE main VAR a : M(b.x); b : M(a.x);
use Rattle.std.proofs.Common.{◌≡◌, ℕ, zero, suc, arith, Bool, true, false, [], ◌∷◌, ◌++◌, Option, Some, None, refl, sym, ◌∙◌, subst, inl, inr}
use Rattle.std.specs.Prelude.{◌≤◌, ◌↔◌, List, IsTrue, codes, slice_get}
use Rattle.smv_language.specs.declared.program.Moment.TheVariants.{Always}
use Rattle.smv_language.specs.Language.{leaf, Text, Path, Formula, boolean, instance, DeclTree, var, assign, ModuleTree, ProgramTree, Value, symbol, one, same_value, same_text, Place, state, Meaning, a_variable_at, an_expression_at, an_instance_at, kind_in, module_of_kind, kind_at, module_at, Means, plain_name, evaluate, Valuation, May, name_values, IsTrace, IsFirst, IsMoment, InDomains, IsInvariant, IsInstance, Each, DomainSection, FirstSection, EachSection, is_truth, FlatInstance}
use Rattle.smv_language.specs.Values.{truth, number}
use Rattle.smv_language.proofs.ValueLaws.{same_text_equal, same_value_equal}
use Rattle.smv_language.proofs.Monotone.{same_values}
use Rattle.smv_flat_laws.specs.Looks.{ComesBack}
use Rattle.smv_flat_laws.specs.Items.{Item, a_declaration, an_assignment, NumberedModule, Visit, visits, main_instance}
use Rattle.smv_flat_laws.specs.Rules.{no_main, main_has_parameters, double_module, double_name, no_such_module, wrong_count, module_loop, no_such_name, not_a_target, double_assign, define_loop, next_here, input_here, too_many, the_program, a_header, an_item, a_visit, a_use, visit_sites, use_sites, instances_before, variables_before, HasNoValue, nothing, only_an_instance, ActualLoops, SomeActualLoops, is_input_kind, GivesInput, IsKept, IsAccepted}
use Rattle.smv_flat_laws.proofs.Resolving.{same_meaning}
use Rattle.smv_flat_laws.proofs.EndLaws.{goes_on}
use Rattle.std.proofs.lemmas.Option.{none-some as never_some}
use Rattle.base_values.specs.declared.limits.TheConstants.{MOST_INSTANCES, MOST_VARIABLES}

-- an instance of the module, given the x of another
abbrev given : Text → Text → DeclTree
given own other = record { name = own; what = instance (codes "M") (leaf (other ∷ codes "x" ∷ []) ∷ []) }

-- the module
abbrev half : ModuleTree
half = record {
  name = codes "M";
  formals = codes "p" ∷ [];
  sections =
      var (record { name = codes "x"; what = boolean } ∷ []) ∷
      assign (record { when = Always; target = codes "x" ∷ []; value = leaf (codes "p" ∷ []) } ∷ []) ∷ [];
}

-- main, where each of two is given the x of the other
abbrev mirror_main : ModuleTree
mirror_main = record { name = codes "main"; formals = []; sections = var (given (codes "a") (codes "b") ∷ given (codes "b") (codes "a") ∷ []) ∷ [] }

abbrev mirror : ProgramTree
mirror = half ∷ mirror_main ∷ []

abbrev at_a : Place
at_a = codes "a" ∷ []

abbrev at_b : Place
at_b = codes "b" ∷ []

-- the formal p of each means the variable x of the other
pub p_of_a : Means mirror at_a (codes "p" ∷ []) (a_variable_at at_b (codes "x"))
p_of_a = (3, refl)

pub p_of_b : Means mirror at_b (codes "p" ∷ []) (a_variable_at at_a (codes "x"))
p_of_b = (3, refl)

that : {A : Type 0} {a b : A} → Some a ≡ Some b → a ≡ b
that e = cc

-- M has no instance inside, and main the two
none_in_half : (x : Text) → module_of_kind mirror (kind_in half x) ≡ None
none_in_half x = at_p (same_text (codes "p") x) refl
  where
    at_x : (c : Bool) → same_text (codes "p") x ≡ false → same_text (codes "x") x ≡ c → module_of_kind mirror (kind_in half x) ≡ None
    at_x true n e = rw (n, e) refl
    at_x false n e = rw (n, e) refl

    at_p : (c : Bool) → same_text (codes "p") x ≡ c → module_of_kind mirror (kind_in half x) ≡ None
    at_p true e = rw e refl
    at_p false e = at_x (same_text (codes "x") x) e refl

two_in_main : (P : Place → ModuleTree → Type 0) → P at_a half → P at_b half → (x : Text) (m : ModuleTree) → module_of_kind mirror (kind_in mirror_main x) ≡ Some m → P (x ∷ []) m
two_in_main P a b x m found = is_a (same_text (codes "a") x) refl
  where
    is_b : (c : Bool) → same_text (codes "a") x ≡ false → same_text (codes "b") x ≡ c → P (x ∷ []) m
    is_b true n e =
        let same : Some half ≡ Some m = rw (n, e) at found in
        subst (λ y. P (y ∷ []) m) (same_text_equal (codes "b") x e) (subst (P at_b) (that same) b)
    is_b false n e = let none : None ≡ Some m = rw (n, e) at found in absurd (never_some m none)

    is_a : (c : Bool) → same_text (codes "a") x ≡ c → P (x ∷ []) m
    is_a true e =
        let same : Some half ≡ Some m = rw e at found in
        subst (λ y. P (y ∷ []) m) (same_text_equal (codes "a") x e) (subst (P at_a) (that same) a)
    is_a false e = is_b (same_text (codes "b") x) e refl

-- main, a and b are all the instances: what holds of the three holds of each
of_three : (P : Place → ModuleTree → Type 0) → P [] mirror_main → P at_a half → P at_b half → (at : Place) (m : ModuleTree) → IsInstance mirror at m → P at m
of_three P top a b [] m h = subst (P []) (that h) top
of_three P top a b (x ∷ at) m h =
    go (module_at mirror at) refl
    (of_three (λ at' outer. (y : Text) (n : ModuleTree) → module_of_kind mirror (kind_in outer y) ≡ Some n → P (y ∷ at') n) (two_in_main P a b) (inside_half at_a) (inside_half at_b) at)
  where
    inside_half : (at' : Place) (y : Text) (n : ModuleTree) → module_of_kind mirror (kind_in half y) ≡ Some n → P (y ∷ at') n
    inside_half at' y n found = absurd (never_some n (sym (none_in_half y) ∙ found))

    go : (o : Option ModuleTree) → module_at mirror at ≡ o →
        ((outer : ModuleTree) → IsInstance mirror at outer → (y : Text) (n : ModuleTree) → module_of_kind mirror (kind_in outer y) ≡ Some n → P (y ∷ at) n) → P (x ∷ at) m
    go None e above = let none : None ≡ Some m = rw e at h in absurd (never_some m none)
    go (Some outer) e above = let found : module_of_kind mirror (kind_in outer x) ≡ Some m = rw e at h in above outer e x m found

-- the variables of the two have one truth value
abbrev AreSame : Valuation → Type 0
AreSame v = (b : Bool) × (v at_a (codes "x") ≡ truth b) × (v at_b (codes "x") ≡ truth b)

-- x := p at an instance, where p means a variable, makes the two equal
assigned_same : (at other : Place) (v : Valuation) →
    evaluate (name_values 3 mirror at v v) (name_values 3 mirror at v v) (leaf (codes "p" ∷ [])) ≡ Some (one (v other (codes "x"))) →
    May mirror at v v (leaf (codes "p" ∷ [])) (v at (codes "x")) → v other (codes "x") ≡ v at (codes "x")
assigned_same at other v gives may =
    let same : one (v other (codes "x")) ≡ may.1 = same_values 3 may.0 mirror at v v (leaf (codes "p" ∷ [])) (one (v other (codes "x"))) may.1 gives may.2 in
    same_value_equal (v other (codes "x")) (v at (codes "x")) (rw (← same) at may.3)

a_truth : (w : Value) → IsTrue (is_truth w) → (b : Bool) × (w ≡ truth b)
a_truth (truth b) h = (b, refl)
a_truth (number n) h = cc
a_truth (symbol x) h = cc

moment_same : (v : Valuation) → IsMoment mirror v → AreSame v
moment_same v m =
    let is : (b : Bool) × (v at_a (codes "x") ≡ truth b) = a_truth (v at_a (codes "x")) (m.0 at_a half refl).0.0 in
    (is.0, is.1, assigned_same at_a at_b v refl (m.1 at_a half refl).1.0.0 ∙ is.1)

-- and where they have one, nothing else is asked
among_one : (b : Bool) (w v : Value) → w ≡ truth b → v ≡ truth b → IsTrue (same_value w v)
among_one true w v h k = rw (h, k) refl
among_one false w v h k = rw (h, k) refl

same_domains : (v : Valuation) → AreSame v → InDomains mirror v
same_domains v s = of_three (λ at m. Each (DomainSection at v) m.sections) ((tt, (tt, tt)), tt) ((rw s.1 refl, tt), (tt, tt)) ((rw s.2 refl, tt), (tt, tt))

same_invariant : (v : Valuation) → AreSame v → IsInvariant mirror v
same_invariant v s =
    of_three (λ at m. Each (EachSection mirror at v) m.sections)
    (tt, tt)
    (tt, (((3, one (v at_b (codes "x")), refl, among_one s.0 _ _ s.2 s.1), tt), tt))
    (tt, (((3, one (v at_a (codes "x")), refl, among_one s.0 _ _ s.1 s.2), tt), tt))

any_is_first : (v : Valuation) → IsFirst mirror v
any_is_first v = of_three (λ at m. Each (FirstSection mirror at v) m.sections) (tt, tt) (tt, ((tt, tt), tt)) (tt, ((tt, tt), tt))

-- The traces of one moment are those with both TRUE and those with both FALSE.
pub mirror_traces : (v : Valuation) → IsTrace mirror (v ∷ []) ↔ ((b : Bool) × (v (codes "a" ∷ []) (codes "x") ≡ truth b) × (v (codes "b" ∷ []) (codes "x") ≡ truth b))
mirror_traces v = (λ t. moment_same v t.moments.0, λ s. record { first = any_is_first v; moments = ((same_domains v s, same_invariant v s), tt); steps = tt })

-- The program is accepted: no rule is broken at a module, at an item, on the walk, or at an item of an instance.
abbrev half_numbered : NumberedModule
half_numbered = record { number = 1; before = []; tree = half }

abbrev main_numbered : NumberedModule
main_numbered = record { number = 4; before = half ∷ []; tree = mirror_main }

-- the items: x and its assignment, and a and b
abbrev item_x : Item
item_x = a_declaration state (record { name = codes "x"; what = boolean })

abbrev item_assign : Item
item_assign = an_assignment (record { when = Always; target = codes "x" ∷ []; value = leaf (codes "p" ∷ []) })

abbrev item_a : Item
item_a = a_declaration state (given (codes "a") (codes "b"))

abbrev item_b : Item
item_b = a_declaration state (given (codes "b") (codes "a"))

program_kept : IsKept mirror the_program
program_kept no_main b = cc
program_kept other b = b

half_kept : IsKept mirror (a_header half_numbered)
half_kept main_has_parameters b = cc
half_kept double_module b = cc
half_kept double_name b = cc
half_kept other b = b

main_kept : IsKept mirror (a_header main_numbered)
main_kept main_has_parameters b = cc
main_kept double_module b = cc
main_kept double_name b = cc
main_kept other b = b

x_kept : IsKept mirror (an_item half_numbered (record { number = 2; before = []; item = item_x }))
x_kept double_name b = cc
x_kept other b = b

assign_kept : IsKept mirror (an_item half_numbered (record { number = 3; before = item_x ∷ []; item = item_assign }))
assign_kept double_name b = cc
assign_kept other b = b

a_kept : IsKept mirror (an_item main_numbered (record { number = 5; before = []; item = item_a }))
a_kept double_name b = cc
a_kept other b = b

b_kept : IsKept mirror (an_item main_numbered (record { number = 6; before = item_a ∷ []; item = item_b }))
b_kept double_name b = cc
b_kept other b = b

-- the walk comes to a, to its x, to b and to its x
abbrev visit_of : ℕ → Text → Text → Visit
visit_of n own other = record { place = []; on_path = codes "main" ∷ []; number = n; role = state; decl = given own other }

abbrev visit_a : Visit
visit_a = visit_of 5 (codes "a") (codes "b")

abbrev visit_b : Visit
visit_b = visit_of 6 (codes "b") (codes "a")

abbrev visit_x : Place → Visit
visit_x at = record { place = at; on_path = codes "M" ∷ codes "main" ∷ []; number = 2; role = state; decl = record { name = codes "x"; what = boolean } }

instance_visit : (before : List Visit) (n : ℕ) (own other : Text) → (MOST_INSTANCES ≤ instances_before before → ⊥) → IsKept mirror (a_visit before (visit_of n own other))
instance_visit before n own other few no_such_module b = cc
instance_visit before n own other few wrong_count b = cc
instance_visit before n own other few module_loop b = cc
instance_visit before n own other few too_many b = few b
instance_visit before n own other few rule b = b

a_visit_kept : IsKept mirror (a_visit [] visit_a)
a_visit_kept = instance_visit [] 5 (codes "a") (codes "b") (λ b. omega (arith, b))

b_visit_kept : IsKept mirror (a_visit (visit_a ∷ visit_x at_a ∷ []) visit_b)
b_visit_kept = instance_visit (visit_a ∷ visit_x at_a ∷ []) 6 (codes "b") (codes "a") (λ b. omega (arith, b))

x_visit : (before : List Visit) (at : Place) → (MOST_VARIABLES ≤ variables_before before → ⊥) → IsKept mirror (a_visit before (visit_x at))
x_visit before at few no_such_module b = cc
x_visit before at few wrong_count b = cc
x_visit before at few module_loop b = cc
x_visit before at few too_many b = few b
x_visit before at few other b = b

-- the look-up of a formal ends, so that no actual loops
no_actual_loops : (inside : Place) (name : Path) → (ComesBack mirror inside (codes "p") → ⊥) → SomeActualLoops mirror inside half (leaf name ∷ []) → ⊥
no_actual_loops inside name ends s = at_index s.index s.formal s.actual s.is_formal s.is_actual s.loops
  where
    at_index : (i : ℕ) (formal : Text) (actual : Formula) → slice_get half.formals i ≡ Some formal → slice_get (leaf name ∷ []) i ≡ Some actual → ActualLoops mirror inside i formal (plain_name actual) → ⊥
    at_index zero formal actual f a loops = ends (subst (ComesBack mirror inside) (sym (that f)) (subst (λ e. ActualLoops mirror inside zero formal (plain_name e)) (sym (that a)) loops))
    at_index (suc i) formal actual f a loops = absurd (never_some formal f)

abbrev half_at : Place → FlatInstance
half_at at = record { place = at; module_name = codes "M" }

-- at main each actual names the variable of the other
a_use_kept : IsKept mirror (a_use main_instance (record { number = 5; before = []; item = item_a }))
a_use_kept no_such_name (inl b) = never_some (a_variable_at at_b (codes "x")) (sym (b.no_meaning 2))
a_use_kept no_such_name (inr b) = b
a_use_kept define_loop b = no_actual_loops at_a (codes "b" ∷ codes "x" ∷ []) (λ back. goes_on 3 mirror at_a (codes "p") back [] refl) b
a_use_kept next_here b = cc
a_use_kept other b = b

b_use_kept : IsKept mirror (a_use main_instance (record { number = 6; before = item_a ∷ []; item = item_b }))
b_use_kept no_such_name (inl b) = never_some (a_variable_at at_a (codes "x")) (sym (b.no_meaning 2))
b_use_kept no_such_name (inr b) = b
b_use_kept define_loop b = no_actual_loops at_b (codes "a" ∷ codes "x" ∷ []) (λ back. goes_on 3 mirror at_b (codes "p") back [] refl) b
b_use_kept next_here b = cc
b_use_kept other b = b

-- at a and b the declaration and the assignment of x are kept, where p means the variable of the other
x_use_kept : (at : Place) → IsKept mirror (a_use (half_at at) (record { number = 2; before = []; item = item_x }))
x_use_kept at next_here b = cc
x_use_kept at other b = b

module _ (at other : Place) (means : Means mirror at (codes "p" ∷ []) (a_variable_at other (codes "x"))) (own_half : module_at mirror at ≡ Some half) (other_half : module_at mirror other ≡ Some half) where
  -- p has a value, and reads no input
  has_p : HasNoValue mirror at (codes "p" ∷ []) → ⊥
  has_p (nothing m) = never_some (a_variable_at other (codes "x")) (sym (m.no_meaning means.0) ∙ means.1)
  has_p (only_an_instance inside m) = let bad : a_variable_at other (codes "x") ≡ an_instance_at inside = same_meaning means.0 m.0 mirror at _ _ _ means.1 m.1 in cc

  no_input : GivesInput mirror at (codes "p" ∷ []) → ⊥
  no_input (inl m) =
      let same : a_variable_at other (codes "x") ≡ a_variable_at m.0 m.1 = same_meaning means.0 m.2.0 mirror at _ _ _ means.1 m.2.1 in
      let bad : IsTrue (is_input_kind (kind_at (module_at mirror other) (codes "x"))) = subst IsInputAt (sym same) m.3 in
      let no : false ≡ true = rw other_half at bad in cc
    where
      IsInputAt : Meaning → Type 0
      IsInputAt (a_variable_at place x) = IsTrue (is_input_kind (kind_at (module_at mirror place) x))
      IsInputAt _ = ⊥
  no_input (inr r) = let bad : a_variable_at other (codes "x") ≡ an_expression_at r.first r.place r.written = same_meaning means.0 r.means.0 mirror at _ _ _ means.1 r.means.1 in cc

  assign_use_kept : IsKept mirror (a_use (half_at at) (record { number = 3; before = item_x ∷ []; item = item_assign }))
  assign_use_kept no_such_name (inl b) = has_p b
  assign_use_kept no_such_name (inr b) = b
  assign_use_kept not_a_target b = let bad : true ≡ false = rw own_half at b in cc
  assign_use_kept double_assign (inl b) = b
  assign_use_kept double_assign (inr b) = b
  assign_use_kept next_here b = cc
  assign_use_kept input_here (inl b) = no_input b
  assign_use_kept input_here (inr b) = b
  assign_use_kept other b = b

uses_kept : Each (IsKept mirror) (use_sites mirror)
uses_kept =
    (a_use_kept, (b_use_kept, (x_use_kept at_a, (assign_use_kept at_a at_b p_of_a refl refl, (x_use_kept at_b, (assign_use_kept at_b at_a p_of_b refl refl, tt))))))

visits_kept : Each (IsKept mirror) (visit_sites [] (visits mirror) ++ use_sites mirror)
visits_kept = (a_visit_kept, (x_visit (visit_a ∷ []) at_a (λ b. omega (arith, b)), (b_visit_kept, (x_visit (visit_a ∷ visit_x at_a ∷ visit_b ∷ []) at_b (λ b. omega (arith, b)), uses_kept))))

pub mirror_accepted : IsAccepted mirror
mirror_accepted = (program_kept, (half_kept, (x_kept, (assign_kept, (main_kept, (a_kept, (b_kept, visits_kept)))))))
