-- Which value a text is read as.
use Rattle.std.proofs.Common.{◌≡◌, inl, inr, ℕ, zero, suc, ◌+◌, ◌<◌, Bool, true, false, List, [], ◌∷◌, length, Option, Some, None, refl, sym, ◌∙◌, ap, subst, arith, ℤ}
use Rattle.std.specs.Prelude.{slice_get, if◌then◌else◌}
use Rattle.std.proofs.lemmas.Fmt.{signed_decimal_injective}
use Rattle.smv_language.specs.Language.{Text, same_text, text_or_none}
use Rattle.smv_language.proofs.ValueLaws.{same_text_equal, same_text_refl}
use Rattle.smv_type_laws.specs.Costs.{symbol_number}
use Rattle.base_values.specs.declared.domain.Domain.{Domain}
use Rattle.base_values.specs.declared.domain.Domain.TheVariants as domain
use Rattle.base_values.specs.declared.value.Value.{Value as Numbered}
use Rattle.base_values.specs.declared.value.Value.TheVariants.{Bool as ABool, Num, Sym}
use Rattle.base_values.specs.Domains.{Has}
use Rattle.smv_types.specs.SymbolNumbering.{number_from}
use Rattle.smv_types.proofs.NumberingLaws.{number_told}
use Rattle.cut_report.specs.ValueReading.{HasText, IsTruth, IsNumber, IsSymbol, IsReadOf, IsParsed, IsAmong, IsShort, IsReadIn}
use Rattle.std.proofs.lemmas.Option.{same_Some as some_same, none-some as never}

-- Symbols.
-- where a text stands that has a number
pub record StandsAt (texts : List Text) (i : ℕ) (x : Text) (n : ℕ) : Type 0 where
  pub place : ℕ
  pub number : n ≡ i + place
  pub is : slice_get texts place ≡ Some x
  pub within : place < length texts

pub number_stands : (i : ℕ) (texts : List Text) (x : Text) (n : ℕ) → number_from i texts x ≡ Some n → StandsAt texts i x n
number_stands i [] x n e = absurd (never n e)
number_stands i (t ∷ texts) x n e = by (same_text t x) refl e (number_stands (i + 1) texts x n)
  where
    later : StandsAt texts (i + 1) x n → StandsAt (t ∷ texts) i x n
    later s = record { place = suc s.place; number = omega (arith, s.number); is = s.is; within = omega (arith, s.within) }

    by : (b : Bool) → same_text t x ≡ b → (if b then Some i else number_from (i + 1) texts x) ≡ Some n → (number_from (i + 1) texts x ≡ Some n → StandsAt texts (i + 1) x n) → StandsAt (t ∷ texts) i x n
    by true f g more = record { place = 0; number = omega (arith, some_same i n g); is = ap Some (same_text_equal t x f); within = omega arith }
    by false f g more = later (more g)

pub none_stands : (i : ℕ) (texts : List Text) (x : Text) → number_from i texts x ≡ None → (j : ℕ) → slice_get texts j ≡ Some x → ⊥
none_stands i [] x e j g = never x g
none_stands i (t ∷ texts) x e j g = by (same_text t x) refl e j g (none_stands (i + 1) texts x)
  where
    by : (b : Bool) → same_text t x ≡ b → (if b then Some i else number_from (i + 1) texts x) ≡ None → (j : ℕ) → slice_get (t ∷ texts) j ≡ Some x → (number_from (i + 1) texts x ≡ None → (j : ℕ) → slice_get texts j ≡ Some x → ⊥) → ⊥
    by true f g j h more = never i (sym g)
    by false f g zero h more = let clash : true ≡ false = sym (same_text_refl x) ∙ ap (λ y. same_text y x) (sym (some_same t x h)) ∙ f in cc
    by false f g (suc j) h more = more g j h

-- the symbol of a place stands for its name
pub symbol_text : (symbols : List Text) (i : ℕ) (x : Text) → slice_get symbols i ≡ Some x → symbol_number symbols x ≡ i → HasText symbols x (Sym i)
symbol_text symbols i x at e =
    let there : text_or_none (slice_get symbols i) ≡ x = ap text_or_none at in
    record { stands = (at ∙ ap Some (sym there), ap (symbol_number symbols) there ∙ e); same = there }

pub read_symbol : (symbols : List Text) (text : Text) (i : ℕ) → number_from 0 symbols text ≡ Some i → IsReadOf IsSymbol symbols text (Some (Sym i))
read_symbol symbols text i e =
    let s : StandsAt symbols 0 text i = number_stands 0 symbols text i e in
    let place : s.place ≡ i = omega (arith, s.number) in
    let number : symbol_number symbols text ≡ i = omega (arith, number_told 0 symbols text i e) in
    (tt, symbol_text symbols i text (subst (λ k. slice_get symbols k ≡ Some text) place s.is) number)

pub no_symbol : (symbols : List Text) (text : Text) → number_from 0 symbols text ≡ None → IsReadOf IsSymbol symbols text None
no_symbol symbols text e (Sym i) p h = none_stands 0 symbols text e i (h.stands.0 ∙ ap Some h.same)
no_symbol symbols text e (ABool b) p h = p
no_symbol symbols text e (Num n) p h = p

-- One value has the text.
one_number : (symbols : List Text) (text : Text) (v w : Numbered) → IsNumber v → IsNumber w → HasText symbols text v → HasText symbols text w → v ≡ w
one_number symbols text (Num n) (Num k) p q h g = ap Num (signed_decimal_injective n k p q (h.same ∙ sym g.same))
one_number symbols text (Num n) (ABool b) p q h g = absurd q
one_number symbols text (Num n) (Sym i) p q h g = absurd q
one_number symbols text (ABool b) w p q h g = absurd p
one_number symbols text (Sym i) w p q h g = absurd p

one_symbol : (symbols : List Text) (text : Text) (v w : Numbered) → IsSymbol v → IsSymbol w → HasText symbols text v → HasText symbols text w → v ≡ w
one_symbol symbols text (Sym i) (Sym j) p q h g = ap Sym (sym h.stands.1 ∙ ap (symbol_number symbols) (h.same ∙ sym g.same) ∙ g.stands.1)
one_symbol symbols text (Sym i) (ABool b) p q h g = absurd q
one_symbol symbols text (Sym i) (Num n) p q h g = absurd q
one_symbol symbols text (ABool b) w p q h g = absurd p
one_symbol symbols text (Num n) w p q h g = absurd p

-- what is read of a class, among the values of a domain of that class
among : (P : Numbered → Type 0) (symbols : List Text) (d : Domain) (text : Text) → ((v : Numbered) → Has d v → IsShort v → P v) →
    ((v w : Numbered) → P v → P w → HasText symbols text v → HasText symbols text w → v ≡ w) → (o r : Option Numbered) → IsReadOf P symbols text o → IsAmong d o r → IsReadIn symbols d text r
among P symbols d text of_class one None r read a = subst (IsReadIn symbols d text) (sym a) (λ v h s t. read v (of_class v h s) t)
among P symbols d text of_class one (Some v) r read (inl a) = subst (IsReadIn symbols d text) (sym a.1) (a.0, read.1)
among P symbols d text of_class one (Some v) r read (inr a) =
    subst (IsReadIn symbols d text) (sym a.1) (λ w h s t. a.0 (subst (Has d) (one w v (of_class w h s) read.0 t read.1) h))

-- by domains
in_boolean : (v : Numbered) → Has domain.Boolean v → IsTruth v
in_boolean (ABool b) h = tt
in_boolean (Num n) h = h
in_boolean (Sym i) h = h

read_boolean : (symbols : List Text) (text : Text) (o r : Option Numbered) → IsReadOf IsTruth symbols text o → IsAmong domain.Boolean o r → IsReadIn symbols domain.Boolean text r
read_boolean symbols text None r read a = subst (IsReadIn symbols domain.Boolean text) (sym a) (λ v h s t. read v (in_boolean v h) t)
read_boolean symbols text (Some (ABool b)) r read (inl a) = subst (IsReadIn symbols domain.Boolean text) (sym a.1) (tt, read.1)
read_boolean symbols text (Some (ABool b)) r read (inr a) = absurd (a.0 tt)
read_boolean symbols text (Some (Num n)) r read a = absurd read.0
read_boolean symbols text (Some (Sym i)) r read a = absurd read.0

read_range : (symbols : List Text) (lo hi : ℤ) (text : Text) (o r : Option Numbered) → IsReadOf IsNumber symbols text o → IsAmong (domain.Range lo hi) o r → IsReadIn symbols (domain.Range lo hi) text r
read_range symbols lo hi text = among IsNumber symbols (domain.Range lo hi) text of_class (one_number symbols text)
  where
    of_class : (v : Numbered) → Has (domain.Range lo hi) v → IsShort v → IsNumber v
    of_class (Num n) h s = s
    of_class (ABool b) h s = h
    of_class (Sym i) h s = h

read_numbers : (symbols : List Text) (ns : List ℤ) (text : Text) (o r : Option Numbered) → IsReadOf IsNumber symbols text o → IsAmong (domain.Numbers ns) o r → IsReadIn symbols (domain.Numbers ns) text r
read_numbers symbols ns text = among IsNumber symbols (domain.Numbers ns) text of_class (one_number symbols text)
  where
    of_class : (v : Numbered) → Has (domain.Numbers ns) v → IsShort v → IsNumber v
    of_class (Num n) h s = s
    of_class (ABool b) h s = h
    of_class (Sym i) h s = h

read_symbols : (symbols : List Text) (ss : List ℕ) (text : Text) (o r : Option Numbered) → IsReadOf IsSymbol symbols text o → IsAmong (domain.Symbols ss) o r → IsReadIn symbols (domain.Symbols ss) text r
read_symbols symbols ss text = among IsSymbol symbols (domain.Symbols ss) text of_class (one_symbol symbols text)
  where
    of_class : (v : Numbered) → Has (domain.Symbols ss) v → IsShort v → IsSymbol v
    of_class (Sym i) h s = tt
    of_class (ABool b) h s = h
    of_class (Num n) h s = h

-- what is read of a domain's class, among its values
pub value_read : (symbols : List Text) (d : Domain) (text : Text) (o r : Option Numbered) → IsParsed symbols d text o → IsAmong d o r → IsReadIn symbols d text r
value_read symbols domain.Boolean text o r = read_boolean symbols text o r
value_read symbols (domain.Range lo hi) text o r = read_range symbols lo hi text o r
value_read symbols (domain.Numbers ns) text o r = read_numbers symbols ns text o r
value_read symbols (domain.Symbols ss) text o r = read_symbols symbols ss text o r
