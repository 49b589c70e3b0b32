-- The typed flat model of an accepted program is encodable.
use Rattle.std.proofs.Common.{◌≡◌, inr, ℕ, zero, suc, ◌<◌, ◌^◌, List, [], ◌∷◌, length, Option, Some, None, refl, sym, ◌∙◌, ap, subst}
use Rattle.std.specs.Prelude.{slice_get, flat_map}
use Rattle.smv_language.specs.declared.program.Member.{Member}
use Rattle.smv_language.specs.declared.program.Member.TheVariants as member
use Rattle.smv_language.specs.Language.{Text, DeclaredTree, boolean, range, members, instance, ModuleTree, ProgramTree, Kind, a_variable, formal_from, kind_after_formals, kind_in_sections, Each, IsVariable, FlatVariable, FlatModel}
use Rattle.smv_flat_laws.specs.Items.{a_declaration, items_of, Visit, variable_declared}
use Rattle.smv_flat_laws.specs.Rules.{IsAccepted}
use Rattle.smv_flat_laws.specs.Model.{symbols_of_members, symbols_of_type, symbols_of_item, symbols_of, IsFlatOf}
use Rattle.smv_flat_laws.proofs.Places.{In, in_flat, walked}
use Rattle.smv_flat_laws.proofs.Walkable.{accepted_walkable}
use Rattle.smv_flat_laws.proofs.Variables.{DeclaredAs, declared_as}
use Rattle.smv_flat_laws.proofs.KindLaws.{sections_kind}
use Rattle.smv_flat_laws.proofs.OneModel.{OtherText, symbols_apart}
use Rattle.smv_type_laws.proofs.ClosedLaws.{models_closed}
use Rattle.sat_encoding_laws.specs.Meanings.{AreSymbols}
use Rattle.sat_encoding_laws.specs.Encodable.{IsListedMember, IsListedType}
use Rattle.sat_encoding_laws.specs.Laws.{HasMember, FlatModelsAreEncodable}
use Rattle.sat_encoding_laws.proofs.FlatInputs.{is_there, first_reads_none, each_reads_none, step_reads_none}
use Rattle.smv_flat_laws.proofs.Found.{find_in, appears}
use Rattle.smv_flat_laws.proofs.Pairs.{pairwise_same}

-- ---- symbols by first appearance

member_in : (ms : List Member) (i : ℕ) (y : Text) → slice_get ms i ≡ Some (member.Symbol y) → In y (symbols_of_members ms)
member_in [] i y e = cc
member_in (member.Number n ∷ ms) zero y e = cc
member_in (member.Number n ∷ ms) (suc i) y e = member_in ms i y e
member_in (member.Symbol x ∷ ms) zero y e = let same : x ≡ y = cc in (0, ap Some same)
member_in (member.Symbol x ∷ ms) (suc i) y e = let m = member_in ms i y e in (suc m.0, m.1)

module _ (p : ProgramTree) (accepted : IsAccepted p) (m : FlatModel) (is : IsFlatOf p m) where
  symbols_are : length m.symbols < 2 ^ 31 → AreSymbols m.symbols
  symbols_are few = record {
    apart = λ i j x e f.
        pairwise_same OtherText (symbols_of p) i j x x (symbols_apart p) (subst (λ (xs : List Text). slice_get xs i ≡ Some x) is.symbols e) (subst (λ (xs : List Text). slice_get xs j ≡ Some x) is.symbols f)
        (λ d. d refl) (λ d. d refl);
    few = few;
  }

  -- the declaration of a variable of an instance
  declaration : (x : FlatVariable) (v : IsVariable p x.place x.name x.role x.declared) → DeclaredAs (items_of v.0) x.name x.role x.declared
  declaration x v = declared_as (items_of v.0) x.name x.role x.declared (sections_kind v.0.sections x.name ∙ in_sections (formal_from 0 v.0.formals x.name) (kind_in_sections v.0.sections x.name) v.2)
    where
      in_sections : (o : Option ℕ) (k : Kind) → kind_after_formals o k ≡ a_variable x.role x.declared → k ≡ a_variable x.role x.declared
      in_sections None k e = e
      in_sections (Some i) k e = cc

  -- a symbol of a variable's type is one of the program
  symbol_in : (x : FlatVariable) → IsVariable p x.place x.name x.role x.declared → (y : Text) → In y (symbols_of_type x.declared) → In y m.symbols
  symbol_in x v y h =
      let d = declaration x v in
      let w = walked p (accepted_walkable p accepted) x.place v.0 v.1 in
      let there = find_in p w.name v.0 w.found in
      let here : In y (symbols_of_type d.decl.what) = subst (λ (t : DeclaredTree). In y (symbols_of_type t)) (sym d.type) h in
      let in_items = in_flat symbols_of_item (a_declaration x.role d.decl) y (items_of v.0) d.place d.is here in
      let in_program = in_flat (λ (k : ModuleTree). flat_map symbols_of_item (items_of k)) v.0 y p there.0 there.1 in_items in
      subst (λ (xs : List Text). In y xs) (sym is.symbols) (appears [] (flat_map (λ k. flat_map symbols_of_item (items_of k)) p) y (inr in_program))

  listed_members : (ms : List Member) → ((y : Text) (i : ℕ) → slice_get ms i ≡ Some (member.Symbol y) → In y m.symbols) → Each (IsListedMember m.symbols) ms
  listed_members [] f = tt
  listed_members (member.Number n ∷ ms) f = (tt, listed_members ms (λ y i. f y (suc i)))
  listed_members (member.Symbol x ∷ ms) f = (f x 0 refl, listed_members ms (λ y i. f y (suc i)))

  listed_type : (x : FlatVariable) → IsVariable p x.place x.name x.role x.declared → HasMember x.declared → IsListedType m.symbols x.declared
  listed_type x v some = by x.declared refl some
    where
      by : (d : DeclaredTree) → x.declared ≡ d → HasMember d → IsListedType m.symbols d
      by boolean e h = tt
      by (range lo hi) e h = tt
      by (members ms) e h = (h, listed_members ms (λ y i at. symbol_in x v y (subst (λ (t : DeclaredTree). In y (symbols_of_type t)) (sym e) (member_in ms i y at))))
      by (instance n actuals) e h = cc ((declaration x v).listed visit, ap (variable_declared visit) e)
        where
          visit : Visit
          visit = record { place = []; on_path = []; number = 0; role = x.role; decl = (declaration x v).decl }

  listed_types : (xs : List FlatVariable) → ((i : ℕ) (x : FlatVariable) → slice_get xs i ≡ Some x → IsVariable p x.place x.name x.role x.declared) → Each (λ x. HasMember x.declared) xs
      → Each (λ x. IsListedType m.symbols x.declared) xs
  listed_types [] f h = tt
  listed_types (x ∷ xs) f h = (listed_type x (f 0 x refl) h.0, listed_types xs (λ i. f (suc i)) h.1)

pub flat_models_encodable : FlatModelsAreEncodable
flat_models_encodable p m accepted is typed few some = record {
  closed = models_closed p m is;
  typed = typed;
  symbols = symbols_are p accepted m is few;
  types = listed_types p accepted m is m.variables (λ i x e. is_there p accepted m is i x e) some;
  at_first = first_reads_none p accepted m is;
  at_each = each_reads_none p accepted m is;
  at_step = step_reads_none p accepted m is;
}
