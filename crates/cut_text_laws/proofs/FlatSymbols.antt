-- The flat model of a program has the symbols of its types.
use Rattle.std.proofs.Common.{◌≡◌, inr, suc, Bool, true, false, ◌||◌, List, [], ◌∷◌, Some, refl, sym, ap, subst}
use Rattle.std.specs.Prelude.{flat_map, IsTrue}
use Rattle.smv_language.specs.declared.program.Member.{Member}
use Rattle.smv_language.specs.declared.program.Member.TheVariants as member
use Rattle.smv_language.specs.Language.{Text, DeclaredTree, boolean, range, members, instance, ModuleTree, same_text, IsVariable, in_domain, is_member, symbol}
use Rattle.smv_language.proofs.ValueLaws.{same_text_equal}
use Rattle.smv_flat_laws.specs.Items.{a_declaration, items_of}
use Rattle.smv_flat_laws.specs.Model.{symbols_of_members, symbols_of_type, symbols_of_item}
use Rattle.smv_flat_laws.proofs.Places.{In, in_flat}
use Rattle.smv_flat_laws.proofs.Variables.{DeclaredAs}
use Rattle.cut_text_laws.specs.Laws.{FlatModelsHaveSymbols}
use Rattle.cut_text_laws.proofs.FlatPlaces.{module_in, variable_there, variable_declared_as}
use Rattle.smv_flat_laws.proofs.Found.{appears}

-- a symbol that is a member is one of the members' symbols
member_in : (ms : List Member) (y : Text) → is_member ms (symbol y) ≡ true → In y (symbols_of_members ms)
member_in [] y e = cc
member_in (member.Number n ∷ ms) y e = member_in ms y e
member_in (member.Symbol x ∷ ms) y e = by (same_text x y) refl e (member_in ms y)
  where
    by : (b : Bool) → same_text x y ≡ b → (b || is_member ms (symbol y)) ≡ true → (is_member ms (symbol y) ≡ true → In y (symbols_of_members ms)) → In y (x ∷ symbols_of_members ms)
    by true t e more = (0, ap Some (same_text_equal x y t))
    by false t e more = let m = more e in (suc m.0, m.1)

type_in : (d : DeclaredTree) (y : Text) → IsTrue (in_domain d (symbol y)) → In y (symbols_of_type d)
type_in boolean y e = cc
type_in (range lo hi) y e = cc
type_in (members ms) y e = member_in ms y e
type_in (instance m actuals) y e = cc

pub flat_models_have_symbols : FlatModelsHaveSymbols
flat_models_have_symbols p m accepted is i x y at h =
    let v : IsVariable p x.place x.name x.role x.declared = variable_there p m accepted is i x at in
    let d : DeclaredAs (items_of v.0) x.name x.role x.declared = variable_declared_as p x v in
    let there : In v.0 p = module_in p x.place v.0 v.1 in
    let here : In y (symbols_of_type d.decl.what) = subst (λ (t : DeclaredTree). In y (symbols_of_type t)) (sym d.type) (type_in x.declared y h) in
    let in_items : In y (flat_map symbols_of_item (items_of v.0)) = in_flat symbols_of_item (a_declaration x.role d.decl) y (items_of v.0) d.place d.is here in
    let in_program : In y (flat_map (λ (k : ModuleTree). flat_map symbols_of_item (items_of k)) p) = in_flat (λ (k : ModuleTree). flat_map symbols_of_item (items_of k)) v.0 y p there.0 there.1 in_items in
    subst (λ (xs : List Text). In y xs) (sym is.symbols) (appears [] (flat_map (λ k. flat_map symbols_of_item (items_of k)) p) y (inr in_program))
