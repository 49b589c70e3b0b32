-- Variables that are found by their printed names, and values of their types by their texts.
use Rattle.std.proofs.Common.{◌≡◌, ◌≢◌, ◌↔◌, ℕ, zero, suc, ◌<◌, Bool, true, false, List, [], ◌∷◌, length, Option, Some, None, refl, sym, ◌∙◌, ap, subst, arith}
use Rattle.std.specs.Prelude.{slice_get, IsTrue, map}
use Rattle.std.proofs.lemmas.Option.{same_Some as some_same, none-some as never}
use Rattle.smv_language.specs.Language.{Text, DeclaredTree, boolean, range, members, instance, declared_tree, IsType, same_text, Value, symbol, value_text, in_domain, IsWritableType, FlatVariable, model_tree, variable_tree, told_value}
use Rattle.smv_language.specs.Values.{truth, number}
use Rattle.smv_language.proofs.ValueLaws.{same_text_equal, same_text_refl}
use Rattle.smv_type_laws.specs.Costs.{symbol_number}
use Rattle.smv_language.specs.declared.model.FlatModel.{FlatModel}
use Rattle.smv_language.specs.declared.model.Variable.{Variable}
use Rattle.cut_text_laws.specs.TraceText.{variable_text}
use Rattle.cut_text_laws.specs.TraceOfText.{IsPrintable}
use Rattle.cut_text_laws.specs.TraceFaults.{IsNameIn}
use Rattle.cut_text_laws.proofs.Plain.{domain_plain, small_end as end_small}
use Rattle.base_values.specs.declared.domain.Domain.{Domain}
use Rattle.base_values.specs.declared.value.Value.{Value as Numbered}
use Rattle.base_values.specs.declared.value.Value.TheVariants.{Bool as ABool, Num, Sym}
use Rattle.base_values.specs.Domains.{Has}
use Rattle.smv_types.specs.SymbolNumbering.{number_from}
use Rattle.smv_types.specs.Types.{StandsFor, AreValuesOf}
use Rattle.cut_report.specs.Names.{printed_name}
use Rattle.cut_text_laws.specs.TraceOfText.{HasItsSymbols}
use Rattle.cut_report.specs.ValueReading.{HasText, IsShort, IsReadIn}
use Rattle.cut_report.specs.Lookups.{IsNamedAt, IsFoundAt}
use Rattle.cut_report.proofs.ValueLaws.{StandsAt, number_stands, none_stands, symbol_text}
use Rattle.smv_language.proofs.ListLaws.{get_map}

-- an item of a list of images is the image of the item
pub record IsImage {A B : Type 0} (f : A → B) (xs : List A) (i : ℕ) (y : B) : Type 0 where
  pub item : A
  pub is : slice_get xs i ≡ Some item
  pub same : f item ≡ y

pub image : {A B : Type 0} (f : A → B) (xs : List A) (i : ℕ) (y : B) → slice_get (map f xs) i ≡ Some y → IsImage f xs i y
image f [] i y e = absurd (never y e)
image f (x ∷ xs) zero y e = record { item = x; is = refl; same = some_same (f x) y e }
image f (x ∷ xs) (suc i) y e = let more : IsImage f xs i y = image f xs i y e in record { item = more.item; is = more.is; same = more.same }

-- Places.
pub place_found : (m : FlatModel) (name : Text) (i : ℕ) → number_from 0 (map printed_name m.variables) name ≡ Some i → IsNamedAt (model_tree m) name i
place_found m name i e = record { variable = variable_tree x.item; is_variable = get_map variable_tree m.variables i x.item x.is; is_name = x.same }
  where
    s : StandsAt (map printed_name m.variables) 0 name i
    s = number_stands 0 (map printed_name m.variables) name i e

    place : s.place ≡ i
    place = omega (arith, s.number)

    x : IsImage printed_name m.variables i name
    x = image printed_name m.variables i name (subst (λ k. slice_get (map printed_name m.variables) k ≡ Some name) place s.is)

pub place_within : (m : FlatModel) (name : Text) (i : ℕ) → number_from 0 (map printed_name m.variables) name ≡ Some i → i < length m.variables
place_within m name i e =
    let s : StandsAt (map printed_name m.variables) 0 name i = number_stands 0 (map printed_name m.variables) name i e in
    let many : length (map printed_name m.variables) ≡ length m.variables = length_map printed_name m.variables in
    omega (arith, s.number, s.within, many)
  where
    length_map : {A B : Type 0} (f : A → B) (xs : List A) → length (map f xs) ≡ length xs
    length_map f [] = refl
    length_map f (x ∷ xs) = ap suc (length_map f xs)

pub no_place : (m : FlatModel) (name : Text) → number_from 0 (map printed_name m.variables) name ≡ None → IsNameIn (model_tree m) name → ⊥
no_place m name e n =
    let x : IsImage variable_tree m.variables n.place n.variable = image variable_tree m.variables n.place n.variable n.is_variable in
    none_stands 0 (map printed_name m.variables) name e n.place (get_map printed_name m.variables n.place x.item x.is ∙ ap Some (ap variable_text x.same ∙ n.is_name))

-- Values.
type_there : (d : DeclaredTree) → IsWritableType d → IsType d
type_there boolean h = tt
type_there (range lo hi) h = tt
type_there (members ms) h = tt
type_there (instance m actuals) h = h

-- a listed symbol stands at its number
number_there : (symbols : List Text) (k : ℕ) (y : Text) → slice_get symbols k ≡ Some y → slice_get symbols (symbol_number symbols y) ≡ Some y
number_there [] k y e = absurd (never y e)
number_there (t ∷ symbols) k y e = by (same_text t y) refl k e (number_there symbols)
  where
    by : (b : Bool) → same_text t y ≡ b → (k : ℕ) → slice_get (t ∷ symbols) k ≡ Some y → ((k : ℕ) (y : Text) → slice_get symbols k ≡ Some y → slice_get symbols (symbol_number symbols y) ≡ Some y) →
        slice_get (t ∷ symbols) (elim b [ true ↦ 0 | false ↦ suc (symbol_number symbols y) ]) ≡ Some y
    by true f k e more = ap Some (same_text_equal t y f)
    by false f zero e more = let clash : true ≡ false = sym (same_text_refl y) ∙ ap (λ z. same_text z y) (sym (some_same t y e)) ∙ f in cc
    by false f (suc k) e more = more k y e

module _ (m : FlatModel) (i : ℕ) (v : Variable) (at : slice_get m.variables i ≡ Some v) (d : Domain) (values : AreValuesOf m i d) (writable : IsWritableType (declared_tree v.declared)) where
  has_values : (n : Numbered) (w : Value) → StandsFor m.symbols n w → (Has d n ↔ IsTrue (in_domain (declared_tree v.declared) w))
  has_values = values v at (type_there (declared_tree v.declared) writable)

  value_has : (text : Text) (n : Numbered) → Has d n → HasText m.symbols text n → IsTrue (in_domain (declared_tree v.declared) (told_value m.symbols n))
  value_has text n h t = (has_values n (told_value m.symbols n) t.stands).0 h

  -- a value of the type has a number
  no_value : (text : Text) → ((n : Numbered) → Has d n → IsShort n → HasText m.symbols text n → ⊥) → ((y : Text) → IsTrue (in_domain (declared_tree v.declared) (symbol y)) → (k : ℕ) × (slice_get m.symbols k ≡ Some y)) →
      (w : Value) → IsTrue (in_domain (declared_tree v.declared) w) → value_text w ≢ text
  no_value text none listed (truth b) h e = none (ABool b) ((has_values (ABool b) (truth b) refl).1 h) tt (record { stands = refl; same = e })
  no_value text none listed (number n) h e = none (Num n) ((has_values (Num n) (number n) refl).1 h) (end_small n (domain_plain (declared_tree v.declared) (number n) writable h)) (record { stands = refl; same = e })
  no_value text none listed (symbol y) h e =
      let k : (k : ℕ) × (slice_get m.symbols k ≡ Some y) = listed y h in
      let there : slice_get m.symbols (symbol_number m.symbols y) ≡ Some y = number_there m.symbols k.0 y k.1 in
      none (Sym (symbol_number m.symbols y)) ((has_values (Sym (symbol_number m.symbols y)) (symbol y) (there, refl)).1 h) tt (subst (λ (t : Text). HasText m.symbols t (Sym (symbol_number m.symbols y))) e (symbol_text m.symbols (symbol_number m.symbols y) y there refl))

-- what was read by a variable's domain is the value of its type that has the text
pub value_found : (m : FlatModel) (i : ℕ) (d : Domain) → i < length m.variables → IsPrintable (model_tree m) → HasItsSymbols (model_tree m) → AreValuesOf m i d → (text : Text) (o : Option Numbered) → IsReadIn m.symbols d text o →
    IsFoundAt (model_tree m) i text o
value_found m i d within p listed values text None read = λ x e w.
    let v : IsImage variable_tree m.variables i x = image variable_tree m.variables i x e in
    subst (λ (z : FlatVariable). IsTrue (in_domain z.declared w) → value_text w ≢ text) v.same
    (no_value m i v.item v.is d values (p.types i (variable_tree v.item) (get_map variable_tree m.variables i v.item v.is)) text read
    (λ y h. listed i (variable_tree v.item) y (get_map variable_tree m.variables i v.item v.is) h) w)
value_found m i d within p listed values text (Some n) read = record {
  inside = λ x e.
      let v : IsImage variable_tree m.variables i x = image variable_tree m.variables i x e in
      subst (λ (z : FlatVariable). IsTrue (in_domain z.declared (told_value m.symbols n))) v.same
      (value_has m i v.item v.is d values (p.types i (variable_tree v.item) (get_map variable_tree m.variables i v.item v.is)) text n read.0 read.1);
  is_text = read.1.same;
}
