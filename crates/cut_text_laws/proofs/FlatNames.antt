-- The variables of the flat model of a program that can be written have names and types that can be written, and no two
-- have one place and name.
use Rattle.std.proofs.Common.{◌≡◌, ℕ, zero, suc, ◌+◌, pos, List, [], ◌∷◌, length, Some, refl, sym, ◌∙◌, ap, subst, arith, reverse}
use Rattle.std.specs.Prelude.{slice_get, flat_map, map}
use mathlib.Core.List.{reverse_aux}
use Rattle.smv_language.specs.Language.{Text, Path, DeclaredTree, boolean, range, members, instance, DeclTree, SectionTree, var, ivar, frozen, define, constants, assign, init, invar, trans, ModuleTree, ProgramTree, IsName, AreNames, Place, Role, state, input, frozen_role, Each, IsInstance, IsVariable, Value, Valuation, IsWritableType, IsWritableDeclared, IsWritableDecl, IsWritableTyped, IsWritableSection, IsWritableModule, IsWritableProgram, FlatVariable, FlatModel, Numbers}
use Rattle.smv_language.specs.Values.{number}
use Rattle.smv_flat_laws.specs.Items.{Item, a_declaration, a_definition, an_assignment, items_of_section, items_of, Visit, variable_declared}
use Rattle.smv_flat_laws.specs.Model.{IsFlatOf}
use Rattle.smv_flat_laws.specs.Rules.{IsAccepted}
use Rattle.smv_flat_laws.proofs.Conditions.{each_at, each_join}
use Rattle.smv_flat_laws.proofs.Numbered.{has_valuation}
use Rattle.smv_flat_laws.proofs.Places.{In}
use Rattle.smv_flat_laws.proofs.Variables.{DeclaredAs}
use Rattle.cut_text_laws.specs.Laws.{FlatModelsAreNamed}
use Rattle.cut_text_laws.proofs.FlatPlaces.{module_in, DeclaresPart, part_declared, variable_there, variable_declared_as}
use Rattle.std.proofs.lemmas.Option.{same_Some as some_same}

-- Items that can be written.
abbrev IsWritableItem : Item → Type 0
IsWritableItem (a_declaration role d) = IsName d.name × IsWritableDeclared d.what
IsWritableItem _ = Unit {0}

pub type_declared : (d : DeclaredTree) → IsWritableType d → IsWritableDeclared d
type_declared boolean h = tt
type_declared (range lo hi) h = h
type_declared (members ms) h = h
type_declared (instance m actuals) h = absurd h

decls_items : (role : Role) (ds : List DeclTree) → Each IsWritableDecl ds → Each IsWritableItem (map (a_declaration role) ds)
decls_items role [] h = tt
decls_items role (d ∷ ds) h = (h.0, decls_items role ds h.1)

typed_items : (role : Role) (ds : List DeclTree) → Each IsWritableTyped ds → Each IsWritableItem (map (a_declaration role) ds)
typed_items role [] h = tt
typed_items role (d ∷ ds) h = ((h.0.0, type_declared d.what h.0.1), typed_items role ds h.1)

no_declaration : {A : Type 0} (f : A → Item) → ((a : A) → IsWritableItem (f a)) → (xs : List A) → Each IsWritableItem (map f xs)
no_declaration f h [] = tt
no_declaration f h (x ∷ xs) = (h x, no_declaration f h xs)

section_items : (s : SectionTree) → IsWritableSection s → Each IsWritableItem (items_of_section s)
section_items (var ds) h = decls_items state ds h
section_items (ivar ds) h = typed_items input ds h
section_items (frozen ds) h = typed_items frozen_role ds h
section_items (define ds) h = no_declaration a_definition (λ d. tt) ds
section_items (constants xs) h = (tt, tt)
section_items (assign xs) h = no_declaration an_assignment (λ a. tt) xs
section_items (init e) h = (tt, tt)
section_items (invar e) h = (tt, tt)
section_items (trans e) h = (tt, tt)

sections_items : (ss : List SectionTree) → Each IsWritableSection ss → Each IsWritableItem (flat_map items_of_section ss)
sections_items [] h = tt
sections_items (s ∷ ss) h = each_join IsWritableItem (items_of_section s) (flat_map items_of_section ss) (section_items s h.0) (sections_items ss h.1)

module_items : (p : ProgramTree) → IsWritableProgram p → (k : ModuleTree) → In k p → Each IsWritableItem (items_of k)
module_items p w k i = let h : IsWritableModule k = each_at IsWritableModule p i.0 k w i.1 in sections_items k.sections h.2

-- The parts of a place.
part_named : (p : ProgramTree) → IsWritableProgram p → (x : Text) (at : Place) → DeclaresPart p x at → IsName x
part_named p w x at d =
    let h : IsName d.declared.decl.name × IsWritableDeclared d.declared.decl.what =
    each_at IsWritableItem (items_of d.tree) d.declared.place (a_declaration d.declared.role d.declared.decl) (module_items p w d.tree (module_in p at d.tree d.is)) d.declared.is in
    subst IsName d.declared.name h.0

place_named : (p : ProgramTree) → IsWritableProgram p → (at : Place) (k : ModuleTree) → IsInstance p at k → AreNames at
place_named p w [] k e = tt
place_named p w (x ∷ at) k e = let d : DeclaresPart p x at = part_declared p x at k e in (part_named p w x at d, place_named p w at d.tree d.is)

onto_named : (xs ys : Path) → AreNames xs → AreNames ys → AreNames (reverse_aux xs ys)
onto_named [] ys h g = g
onto_named (x ∷ xs) ys h g = onto_named xs (x ∷ ys) h.1 (h.0, g)

reverse_named : (xs : Path) → AreNames xs → AreNames (reverse xs)
reverse_named xs h = onto_named xs [] h tt

-- A variable's type is no instance.
is_type : (d : DeclaredTree) → ((v : Visit) → variable_declared v d ≡ v ∷ []) → IsWritableDeclared d → IsWritableType d
is_type boolean listed h = tt
is_type (range lo hi) listed h = h
is_type (members ms) listed h = h
is_type (instance m actuals) listed h = cc (listed visit)
  where
    visit : Visit
    visit = record { place = []; on_path = []; number = 0; role = state; decl = record { name = []; what = boolean } }

-- Variables are told apart: a list of different values is that of a valuation.
abbrev numbered : {A : Type 0} → ℕ → List A → List Value
numbered n [] = []
numbered n (x ∷ xs) = number (pos n) ∷ numbered (suc n) xs

length_numbered : {A : Type 0} (n : ℕ) (xs : List A) → length (numbered n xs) ≡ length xs
length_numbered n [] = refl
length_numbered n (x ∷ xs) = ap suc (length_numbered (suc n) xs)

numbered_at : {A : Type 0} (n : ℕ) (xs : List A) (i : ℕ) (x : A) → slice_get xs i ≡ Some x → slice_get (numbered n xs) i ≡ Some (number (pos (n + i)))
numbered_at n [] i x e = cc
numbered_at n (y ∷ xs) zero x e = ap (λ k. Some (number (pos k))) (omega arith)
numbered_at n (y ∷ xs) (suc i) x e = numbered_at (suc n) xs i x e ∙ ap (λ k. Some (number (pos k))) (omega arith)

pub same_number : (i j : ℕ) → number (pos i) ≡ number (pos j) → i ≡ j
same_number i j e = cc

variables_apart : (p : ProgramTree) (m : FlatModel) → IsAccepted p → IsFlatOf p m → (i j : ℕ) (x y : FlatVariable) → slice_get m.variables i ≡ Some x → slice_get m.variables j ≡ Some y → x.place ≡ y.place → x.name ≡ y.name → i ≡ j
variables_apart p m accepted is i j x y e f place name = by (has_valuation p m accepted is (numbered 0 m.variables) (length_numbered 0 m.variables))
  where
    by : (named : Valuation) × Numbers m (numbered 0 m.variables) named → i ≡ j
    by v = same_number i j
        (some_same (number (pos i)) (number (pos j))
        (ap (λ k. Some (number (pos k))) (omega arith) ∙ sym (numbered_at 0 m.variables i x e) ∙ v.1 i x e ∙ ap (λ a. Some (v.0 a x.name)) place ∙ ap (λ n. Some (v.0 y.place n)) name ∙ sym (v.1 j y f) ∙ numbered_at 0 m.variables j y f
        ∙ ap (λ k. Some (number (pos k))) (omega arith)))

pub flat_models_named : FlatModelsAreNamed
flat_models_named p m accepted is w = record {
  names = λ i x e.
      let v : IsVariable p x.place x.name x.role x.declared = variable_there p m accepted is i x e in
      reverse_named (x.name ∷ x.place) (subst IsName (variable_declared_as p x v).name (item x v).0, place_named p w x.place v.0 v.1);
  apart = variables_apart p m accepted is;
  types = λ i x e.
      let v : IsVariable p x.place x.name x.role x.declared = variable_there p m accepted is i x e in
      is_type x.declared (variable_declared_as p x v).listed (subst IsWritableDeclared (variable_declared_as p x v).type (item x v).1);
}
  where
    item : (x : FlatVariable) (v : IsVariable p x.place x.name x.role x.declared) → IsName (variable_declared_as p x v).decl.name × IsWritableDeclared (variable_declared_as p x v).decl.what
    item x v =
        let d : DeclaredAs (items_of v.0) x.name x.role x.declared = variable_declared_as p x v in
        each_at IsWritableItem (items_of v.0) d.place (a_declaration x.role d.decl) (module_items p w v.0 (module_in p x.place v.0 v.1)) d.is
