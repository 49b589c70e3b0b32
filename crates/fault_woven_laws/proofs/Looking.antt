-- Look-ups in a woven program: they take the steps that they took, and what they find is what they found, but for
-- added variables and symbols.
use Rattle.std.proofs.Common.{◌≡◌, inl, inr, ℕ, zero, suc, Bool, true, false, List, [], ◌∷◌, ◌++◌, Option, Some, None, refl, sym, ◌∙◌, ap, subst}
use Rattle.std.specs.Prelude.{IsTrue, option_map, flat_map, if◌then◌else◌}
use Rattle.smv_language.specs.Language.{Text, Path, Formula, DeclaredTree, boolean, range, members, instance, ModuleTree, ProgramTree, IsType, same_text, Place, state, input, frozen_role, Key, define_key, actual_key, Kind, a_formal, a_variable, an_instance, undeclared, kind_declared, kind_in_sections, kind_in, kind_at, module_at, actual_of_kind, is_symbol, Meaning, a_variable_at, an_expression_at, an_instance_at, LookUp, plain_name, through_plain, through_actual, through_formal, by_kind, means_in, Means}
use Rattle.smv_language.specs.Scope.{a_define, a_symbol}
use Rattle.smv_flat_laws.specs.Looks.{Look, at_actual, plain_of, step_formal, step_kind, step_of, step_on, look_after, ComesBack, MeansNothing}
use Rattle.smv_flat_laws.specs.Rules.{HasNoValue, nothing, only_an_instance, expression_of_kind, expression_in, expression_of, Needs, Leads, is_input_kind, MeansInput, GivesInput}
use Rattle.fault_instructions.specs.Instructions.{SliceTree, InstructionTree, slices_of}
use Rattle.fault_instructions.specs.AddedNames.{own_name, mode_variable}
use Rattle.fault_weave.specs.WovenProgram.{mode_type, slice_sections, added_sections, woven_module, woven}
use Rattle.fault_instructions.specs.KindTypes.{type_of_kind}
use Rattle.fault_instructions.specs.Weavable.{HasMeaning, IsWeavable}
use Rattle.fault_weave.proofs.WovenKinds.{kind_woven, slice_kind}
use Rattle.fault_weave.proofs.Meanings.{module_woven, same_meaning}
use Rattle.fault_rules.proofs.KeptFacts.{finite_type}
use Rattle.smv_language.proofs.EachLaws.{some_kept}

-- a name that has a value, and one that gives no input
abbrev pub Valued : ProgramTree → Place → Path → Type 0
Valued q at name = HasNoValue q at name → ⊥

abbrev pub Quiet : ProgramTree → Place → Path → Type 0
Quiet q at name = GivesInput q at name → ⊥

-- the type of a variable has finitely many values, and the type that stands for none has too
pub type_finite : (m : ModuleTree) (x : Text) → IsType (type_of_kind (kind_in m x))
type_finite m x = by_kind' (kind_in m x) refl
  where
    by_kind' : (k : Kind) → kind_in m x ≡ k → IsType (type_of_kind k)
    by_kind' (a_formal j) e = tt
    by_kind' (a_variable role type) e = finite_type x role type m e
    by_kind' (a_define f) e = tt
    by_kind' (an_instance n es) e = tt
    by_kind' undeclared e = tt

-- what the weave may make of a name: a variable of the state, or nothing
abbrev pub IsAdded : Kind → Type 0
IsAdded undeclared = Unit {0}
IsAdded (a_variable state type) = Unit {0}
IsAdded (a_variable input type) = ⊥
IsAdded (a_variable frozen_role type) = ⊥
IsAdded (a_formal j) = ⊥
IsAdded (a_define e) = ⊥
IsAdded (an_instance m actuals) = ⊥

finite_added : (type : DeclaredTree) → IsType type → IsAdded (kind_declared state type)
finite_added boolean h = tt
finite_added (range lo hi) h = tt
finite_added (members ms) h = tt
finite_added (instance m actuals) h = absurd h

slices_added : (m : ModuleTree) (ss : List SliceTree) (x : Text) → IsAdded (kind_in_sections (flat_map (slice_sections m) ss) x)
slices_added m [] x = tt
slices_added m (s ∷ ss) x =
    subst IsAdded (sym (slice_kind m s (flat_map (slice_sections m) ss) x)) (go (same_text (own_name s.target) x) (same_text (mode_variable s.name) x) (slices_added m ss x))
  where
    go : (a b : Bool) → IsAdded (kind_in_sections (flat_map (slice_sections m) ss) x) →
        IsAdded (if a then kind_declared state (type_of_kind (kind_in m s.target))
        else (if b then a_variable state (mode_type s) else kind_in_sections (flat_map (slice_sections m) ss) x))
    go true b h = finite_added _ (type_finite m s.target)
    go false true h = tt
    go false false h = h

-- what a name is, and what it is in the woven program
abbrev pub Over : Kind → Kind → Type 0
Over undeclared k' = IsAdded k'
Over k k' = k' ≡ k

module_over : (i : InstructionTree) (m : ModuleTree) (x : Text) → Over (kind_in m x) (kind_in (woven_module i m) x)
module_over i m x = by_kind' (kind_in m x) refl
  where
    by_kind' : (k : Kind) → kind_in m x ≡ k → Over k (kind_in (woven_module i m) x)
    by_kind' (a_formal j) e = kind_woven i m x ∙ rw e refl
    by_kind' (a_variable role type) e = kind_woven i m x ∙ rw e refl
    by_kind' (a_define f) e = kind_woven i m x ∙ rw e refl
    by_kind' (an_instance n es) e = kind_woven i m x ∙ rw e refl
    by_kind' undeclared e =
        let same : kind_in (woven_module i m) x ≡ kind_in_sections (added_sections i m) x = kind_woven i m x ∙ rw e refl in
        subst IsAdded (sym same) (slices_added m (slices_of i m.name) x)

over_actual : (k k' : Kind) (j : ℕ) → Over k k' → actual_of_kind k' j ≡ actual_of_kind k j
over_actual (a_formal n) k' j e = ap (λ k. actual_of_kind k j) e
over_actual (a_variable role what) k' j e = ap (λ k. actual_of_kind k j) e
over_actual (a_define f) k' j e = ap (λ k. actual_of_kind k j) e
over_actual (an_instance n actuals) k' j e = ap (λ k. actual_of_kind k j) e
over_actual undeclared undeclared j e = refl
over_actual undeclared (a_variable role type) j e = refl
over_actual undeclared (a_formal n) j e = absurd e
over_actual undeclared (a_define f) j e = absurd e
over_actual undeclared (an_instance n es) j e = absurd e

over_expression : (at : Place) (k k' : Kind) → Over k k' → expression_of_kind at k' ≡ expression_of_kind at k
over_expression at (a_formal n) k' e = ap (expression_of_kind at) e
over_expression at (a_variable role what) k' e = ap (expression_of_kind at) e
over_expression at (a_define f) k' e = ap (expression_of_kind at) e
over_expression at (an_instance n actuals) k' e = ap (expression_of_kind at) e
over_expression at undeclared undeclared e = refl
over_expression at undeclared (a_variable role type) e = refl
over_expression at undeclared (a_formal n) e = absurd e
over_expression at undeclared (a_define f) e = absurd e
over_expression at undeclared (an_instance n es) e = absurd e

-- an input is no added variable
over_input : (k k' : Kind) → Over k k' → IsTrue (is_input_kind k') → (k ≡ undeclared → ⊥) × IsTrue (is_input_kind k)
over_input (a_formal n) k' e h = ((λ q. cc), subst (λ z. IsTrue (is_input_kind z)) e h)
over_input (a_variable role what) k' e h = ((λ q. cc), subst (λ z. IsTrue (is_input_kind z)) e h)
over_input (a_define f) k' e h = ((λ q. cc), subst (λ z. IsTrue (is_input_kind z)) e h)
over_input (an_instance n actuals) k' e h = ((λ q. cc), subst (λ z. IsTrue (is_input_kind z)) e h)
over_input undeclared undeclared e h = cc
over_input undeclared (a_variable state type) e h = cc
over_input undeclared (a_variable input type) e h = absurd e
over_input undeclared (a_variable frozen_role type) e h = absurd e
over_input undeclared (a_formal n) e h = absurd e
over_input undeclared (a_define f) e h = absurd e
over_input undeclared (an_instance n es) e h = absurd e

module _ (p : ProgramTree) (i : InstructionTree) (ok : IsWeavable p i) where
  pub kind_over : (at : Place) (x : Text) → Over (kind_at (module_at p at) x) (kind_at (module_at (woven p i) at) x)
  kind_over at x = subst (λ o. Over (kind_at (module_at p at) x) (kind_at o x)) (sym (module_woven p i ok at)) (go (module_at p at))
    where
      go : (o : Option ModuleTree) → Over (kind_at o x) (kind_at (option_map (woven_module i) o) x)
      go None = tt
      go (Some m) = module_over i m x

  -- the steps of look-ups
  actual_same : (at : Place) (x : Text) (j : ℕ) → actual_of_kind (kind_at (module_at (woven p i) at) x) j ≡ actual_of_kind (kind_at (module_at p at) x) j
  actual_same at x j = over_actual _ _ j (kind_over at x)

  formal_same : (at : Place) (j : ℕ) (rest : Path) → step_formal (woven p i) at j rest ≡ step_formal p at j rest
  formal_same [] j rest = refl
  formal_same (own ∷ caller) j rest = ap (λ o. at_actual caller (plain_of o) rest) (actual_same caller own j)

  kind_step : (at : Place) (k k' : Kind) (x : Text) (rest : Path) → Over k k' → step_kind (woven p i) at k' x rest ≡ step_kind p at k x rest
  kind_step at (a_formal j) k' x rest e = ap (λ k. step_kind (woven p i) at k x rest) e ∙ formal_same at j rest
  kind_step at (a_variable role what) k' x rest e = ap (λ k. step_kind (woven p i) at k x rest) e
  kind_step at (a_define f) k' x rest e = ap (λ k. step_kind (woven p i) at k x rest) e
  kind_step at (an_instance n es) k' x [] e = ap (λ k. step_kind (woven p i) at k x []) e
  kind_step at (an_instance n es) k' x (y ∷ rest) e = ap (λ k. step_kind (woven p i) at k x (y ∷ rest)) e
  kind_step at undeclared undeclared x rest e = refl
  kind_step at undeclared (a_variable role type) x rest e = refl
  kind_step at undeclared (a_formal n) x rest e = absurd e
  kind_step at undeclared (a_define f) x rest e = absurd e
  kind_step at undeclared (an_instance n es) x rest e = absurd e

  step_same : (at : Place) (name : Path) → step_of (woven p i) at name ≡ step_of p at name
  step_same at [] = refl
  step_same at (x ∷ rest) = kind_step at _ _ x rest (kind_over at x)

  on_same : (o : Option Look) → step_on (woven p i) o ≡ step_on p o
  on_same None = refl
  on_same (Some l) = step_same l.place l.name

  look_same : (n : ℕ) (at : Place) (name : Path) → look_after n (woven p i) at name ≡ look_after n p at name
  look_same zero at name = refl
  look_same (suc n) at name = on_same (look_after n (woven p i) at name) ∙ ap (step_on p) (look_same n at name)

  -- the expressions of definitions
  expression_same : (key : Key) → expression_of (woven p i) key ≡ expression_of p key
  expression_same (define_key at x) = over_expression at _ _ (kind_over at x)
  expression_same (actual_key [] j) = refl
  expression_same (actual_key (own ∷ caller) j) = ap (expression_in caller) (actual_same caller own j)

  -- what is found, where it is none of what the weave may have added
  abbrev IsOld : Meaning → Type 0
  IsOld (a_variable_at at x) = kind_at (module_at p at) x ≡ undeclared → ⊥
  IsOld (an_expression_at key at e) = Unit {0}
  IsOld (an_instance_at at) = Unit {0}
  IsOld (a_symbol x) = ⊥

  abbrev Back : LookUp → LookUp → Type 0
  Back look look' = (at : Place) (name : Path) (meaning : Meaning) → IsOld meaning → look' at name ≡ Some meaning → look at name ≡ Some meaning

  plain_back : (look look' : LookUp) (key : Key) (caller : Place) (e : Formula) (o : Option Path) (rest : Path) (meaning : Meaning) → Back look look' → IsOld meaning →
      through_plain look' key caller e o rest ≡ Some meaning → through_plain look key caller e o rest ≡ Some meaning
  plain_back look look' key caller e (Some []) rest meaning h old q = q
  plain_back look look' key caller e (Some (x ∷ name)) rest meaning h old q = h caller (x ∷ (name ++ rest)) meaning old q
  plain_back look look' key caller e None rest meaning h old q = q

  actual_back : (look look' : LookUp) (key : Key) (caller : Place) (o : Option Formula) (rest : Path) (meaning : Meaning) → Back look look' → IsOld meaning →
      through_actual look' key caller o rest ≡ Some meaning → through_actual look key caller o rest ≡ Some meaning
  actual_back look look' key caller None rest meaning h old q = q
  actual_back look look' key caller (Some e) rest meaning h old q = plain_back look look' key caller e (plain_name e) rest meaning h old q

  formal_back : (look look' : LookUp) (at : Place) (j : ℕ) (rest : Path) (meaning : Meaning) → Back look look' → IsOld meaning →
      through_formal look' (woven p i) at j rest ≡ Some meaning → through_formal look p at j rest ≡ Some meaning
  formal_back look look' [] j rest meaning h old q = q
  formal_back look look' (own ∷ caller) j rest meaning h old q =
      actual_back look look' (actual_key (own ∷ caller) j) caller _ rest meaning h old
      (sym (ap (λ o. through_actual look' (actual_key (own ∷ caller) j) caller o rest) (actual_same caller own j)) ∙ q)

  no_symbol : (b : Bool) (x : Text) (meaning : Meaning) → IsOld meaning → (if b then Some (a_symbol x) else None) ≡ Some meaning → ⊥
  no_symbol true x (a_symbol y) old q = old
  no_symbol true x (a_variable_at at y) old q = cc
  no_symbol true x (an_expression_at key at e) old q = cc
  no_symbol true x (an_instance_at at) old q = cc
  no_symbol false x meaning old q = cc

  kind_back : (look look' : LookUp) (at : Place) (k k' : Kind) (x : Text) (rest : Path) (meaning : Meaning) → Back look look' → kind_at (module_at p at) x ≡ k → Over k k' → IsOld meaning →
      by_kind look' (woven p i) at k' x rest ≡ Some meaning → by_kind look p at k x rest ≡ Some meaning
  kind_back look look' at (a_formal j) k' x rest meaning h is e old q = formal_back look look' at j rest meaning h old (sym (ap (λ z. by_kind look' (woven p i) at z x rest) e) ∙ q)
  kind_back look look' at (a_variable role what) k' x [] meaning h is e old q = sym (ap (λ z. by_kind look' (woven p i) at z x []) e) ∙ q
  kind_back look look' at (a_variable role what) k' x (y ∷ rest) meaning h is e old q = sym (ap (λ z. by_kind look' (woven p i) at z x (y ∷ rest)) e) ∙ q
  kind_back look look' at (a_define f) k' x [] meaning h is e old q = sym (ap (λ z. by_kind look' (woven p i) at z x []) e) ∙ q
  kind_back look look' at (a_define f) k' x (y ∷ rest) meaning h is e old q = sym (ap (λ z. by_kind look' (woven p i) at z x (y ∷ rest)) e) ∙ q
  kind_back look look' at (an_instance n es) k' x [] meaning h is e old q = sym (ap (λ z. by_kind look' (woven p i) at z x []) e) ∙ q
  kind_back look look' at (an_instance n es) k' x (y ∷ rest) meaning h is e old q =
      h (x ∷ at) (y ∷ rest) meaning old (sym (ap (λ z. by_kind look' (woven p i) at z x (y ∷ rest)) e) ∙ q)
  kind_back look look' at undeclared undeclared x [] meaning h is e old q = absurd (no_symbol (is_symbol (woven p i) x) x meaning old q)
  kind_back look look' at undeclared (a_variable role type) x [] meaning h is e old q =
      let same : a_variable_at at x ≡ meaning = cc in absurd (subst IsOld (sym same) old is)
  kind_back look look' at undeclared (a_formal n) x rest meaning h is e old q = absurd e
  kind_back look look' at undeclared (a_define f) x rest meaning h is e old q = absurd e
  kind_back look look' at undeclared (an_instance n es) x rest meaning h is e old q = absurd e
  kind_back look look' at undeclared undeclared x (y ∷ rest) meaning h is e old q = cc
  kind_back look look' at undeclared (a_variable role type) x (y ∷ rest) meaning h is e old q = cc

  back : (n : ℕ) (at : Place) (name : Path) (meaning : Meaning) → IsOld meaning → means_in n (woven p i) at name ≡ Some meaning → means_in n p at name ≡ Some meaning
  back zero at name meaning old q = cc
  back (suc n) at [] meaning old q = cc
  back (suc n) at (x ∷ rest) meaning old q = kind_back (means_in n p) (means_in n (woven p i)) at _ _ x rest meaning (back n) refl (kind_over at x) old q

  -- a name that means nothing meant nothing, and one that had a value has one
  pub nothing_back : (at : Place) (name : Path) → MeansNothing (woven p i) at name → MeansNothing p at name
  nothing_back at name h = record { no_meaning = λ n. by_meaning n (means_in n p at name) refl; no_loop = λ l. h.no_loop (l.0, l.1, l.2, l.3, look_same l.0 at name ∙ l.4, comes l.1 l.2 l.5) }
    where
      by_meaning : (n : ℕ) (o : Option Meaning) → means_in n p at name ≡ o → means_in n p at name ≡ None
      by_meaning n None e = e
      by_meaning n (Some meaning) e = let none : None ≡ Some meaning = sym (h.no_meaning n) ∙ same_meaning p i ok n n at name meaning e ∙ e in cc

      comes : (at' : Place) (x : Text) → ComesBack p at' x → ComesBack (woven p i) at' x
      comes at' x c = (c.0, c.1, look_same (suc c.0) at' (x ∷ []) ∙ c.2)

  pub comes_back : (at : Place) (x : Text) → ComesBack (woven p i) at x → ComesBack p at x
  comes_back at x c = (c.0, c.1, sym (look_same (suc c.0) at (x ∷ [])) ∙ c.2)

  pub still_valued : (at : Place) (name : Path) → Valued p at name → Valued (woven p i) at name
  still_valued at name fine (nothing h) = fine (nothing (nothing_back at name h))
  still_valued at name fine (only_an_instance inside (k, q)) = fine (only_an_instance inside (k, back k at name (an_instance_at inside) tt q))

  pub still_means : (at : Place) (name : Path) → HasMeaning p at name → HasMeaning (woven p i) at name
  still_means at name (meaning, (n, e)) = (meaning, (n, same_meaning p i ok n n at name meaning e ∙ e))

  -- definitions lead to those that they led to
  needs_back : (key other : Key) → Needs (woven p i) key other → Needs p key other
  needs_back key other h = record {
    place = h.place;
    written = h.written;
    is = sym (expression_same key) ∙ h.is;
    named = some_kept _ _ _ (λ name q. (q.0, q.1, (q.2.0, back q.2.0 h.place name (an_expression_at other q.0 q.1) tt q.2.1))) h.named;
  }

  pub leads_back : (n : ℕ) (key other : Key) → Leads (woven p i) n key other → Leads p n key other
  leads_back zero key other h = h
  leads_back (suc n) key other h = (h.0, needs_back key h.0 h.1, leads_back n h.0 other h.2)

  -- a name that gives an input gave one
  means_input_back : (at : Place) (name : Path) → MeansInput (woven p i) at name → MeansInput p at name
  means_input_back at name (place, x, means, is_input) =
      let was : (kind_at (module_at p place) x ≡ undeclared → ⊥) × IsTrue (is_input_kind (kind_at (module_at p place) x)) = over_input _ _ (kind_over place x) is_input in
      (place, x, (means.0, back means.0 at name (a_variable_at place x) was.0 means.1), was.1)

  pub still_quiet : (at : Place) (name : Path) → Quiet p at name → Quiet (woven p i) at name
  still_quiet at name fine (inl h) = fine (inl (means_input_back at name h))
  still_quiet at name fine (inr r) = fine (inr (record {
    first = r.first;
    place = r.place;
    written = r.written;
    means = (r.means.0, back r.means.0 at name (an_expression_at r.first r.place r.written) tt r.means.1);
    steps = r.steps;
    last = r.last;
    leads = leads_back r.steps r.first r.last r.leads;
    last_place = r.last_place;
    last_written = r.last_written;
    is = sym (expression_same r.last) ∙ r.is;
    names_input = some_kept _ _ _ (means_input_back r.last_place) r.names_input;
  }))

-- what a name of a variable of the state means, and one of a symbol
means_variable : (q : ProgramTree) (at : Place) (x : Text) (type : DeclaredTree) → kind_at (module_at q at) x ≡ a_variable state type → (meaning : Meaning) → Means q at (x ∷ []) meaning → meaning ≡ a_variable_at at x
means_variable q at x type e meaning (zero, h) = cc
means_variable q at x type e meaning (suc n, h) = let found : Some (a_variable_at at x) ≡ Some meaning = rw e at h in cc

means_symbol : (q : ProgramTree) (at : Place) (x : Text) → kind_at (module_at q at) x ≡ undeclared → (meaning : Meaning) → Means q at (x ∷ []) meaning → meaning ≡ a_symbol x
means_symbol q at x e meaning (zero, h) = cc
means_symbol q at x e meaning (suc n, h) = by_symbol (is_symbol q x) (rw e at h)
  where
    by_symbol : (b : Bool) → (if b then Some (a_symbol x) else None) ≡ Some meaning → meaning ≡ a_symbol x
    by_symbol true q = cc
    by_symbol false q = cc

pub variable_valued : (q : ProgramTree) (at : Place) (x : Text) (type : DeclaredTree) → kind_at (module_at q at) x ≡ a_variable state type → Valued q at (x ∷ [])
variable_valued q at x type e (nothing h) = let none : Some (a_variable_at at x) ≡ None = rw e at (h.no_meaning 1) in cc
variable_valued q at x type e (only_an_instance inside means) = let same : an_instance_at inside ≡ a_variable_at at x = means_variable q at x type e (an_instance_at inside) means in cc

pub variable_quiet : (q : ProgramTree) (at : Place) (x : Text) (type : DeclaredTree) → kind_at (module_at q at) x ≡ a_variable state type → Quiet q at (x ∷ [])
variable_quiet q at x type e (inl (place, y, means, is_input)) =
    let same : a_variable_at place y ≡ a_variable_at at x = means_variable q at x type e (a_variable_at place y) means in
    let there : place ≡ at = cc in
    let named : y ≡ x = cc in
    let no : IsTrue (is_input_kind (kind_at (module_at q at) x)) = subst (λ z. IsTrue (is_input_kind (kind_at (module_at q at) z))) named (subst (λ a. IsTrue (is_input_kind (kind_at (module_at q a) y))) there is_input) in
    let bad : IsTrue (is_input_kind (a_variable state type)) = subst (λ k. IsTrue (is_input_kind k)) e no in cc
variable_quiet q at x type e (inr r) = let same : an_expression_at r.first r.place r.written ≡ a_variable_at at x = means_variable q at x type e _ r.means in cc

pub symbol_valued : (q : ProgramTree) (at : Place) (x : Text) → kind_at (module_at q at) x ≡ undeclared → is_symbol q x ≡ true → Valued q at (x ∷ [])
symbol_valued q at x e s (nothing h) = let none : Some (a_symbol x) ≡ None = rw (e, s) at (h.no_meaning 1) in cc
symbol_valued q at x e s (only_an_instance inside means) = let same : an_instance_at inside ≡ a_symbol x = means_symbol q at x e (an_instance_at inside) means in cc

pub symbol_quiet : (q : ProgramTree) (at : Place) (x : Text) → kind_at (module_at q at) x ≡ undeclared → Quiet q at (x ∷ [])
symbol_quiet q at x e (inl (place, y, means, is_input)) = let same : a_variable_at place y ≡ a_symbol x = means_symbol q at x e (a_variable_at place y) means in cc
symbol_quiet q at x e (inr r) = let same : an_expression_at r.first r.place r.written ≡ a_symbol x = means_symbol q at x e _ r.means in cc
