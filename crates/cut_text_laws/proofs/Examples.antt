-- A small model's texts, computed.
use Rattle.std.proofs.Common.{◌≡◌, refl, sym, ◌∙◌, ap, subst, arith, ℕ, zero, suc, [], ◌∷◌, length, codes, true, negsuc, Some}
use Rattle.std.specs.Prelude.{slice_get}
use Rattle.std.specs.Fmt.{digits}
use Rattle.smv_language.specs.declared.program.Member.TheVariants as member
use Rattle.smv_language.specs.Language.{boolean, members, state, symbol, FlatVariable, FlatModel, IsWritableType}
use Rattle.smv_language.specs.Values.{truth, number}
use Rattle.cut_text_laws.specs.TraceText.{variable_text, trace_text}
use Rattle.cut_text_laws.proofs.Words.{free_by_test}
use Rattle.cut_text_laws.specs.TraceOfText.{IsLineWord, IsPrintable}
use Rattle.cut_text_laws.proofs.OneTrace.{no_items}
use Rattle.cut_text_laws.specs.TraceFaults.{moments_after}
use Rattle.std.proofs.lemmas.Option.{same_Some as some_same, none-some as never}

-- `n` of the instance `a.b`, and `x` of `main`
abbrev inner : FlatVariable
inner = record { place = codes "b" ∷ codes "a" ∷ []; name = codes "n"; role = state; declared = members (member.Number (negsuc 2) ∷ member.Symbol (codes "off") ∷ []); item = 1; number = 0 }

abbrev outer : FlatVariable
outer = record { place = []; name = codes "x"; role = state; declared = boolean; item = 2; number = 0 }

abbrev small : FlatModel
small = record { instances = []; variables = inner ∷ outer ∷ []; definitions = []; symbols = []; at_first = []; at_each = []; at_step = [] }

the_text : trace_text small ((number (negsuc 2) ∷ truth true ∷ []) ∷ (symbol (codes "off") ∷ truth true ∷ []) ∷ []) ≡ codes "moment 0\na.b.n = -3\nx = TRUE\nmoment 1\na.b.n = off\nx = TRUE\n"
unfolding digits
the_text = refl

-- a line of a moment out of order begins none
begun : moments_after 0 (codes "moment 0" ∷ codes "moment 2" ∷ [] ∷ codes "moment 1" ∷ codes "moment 01" ∷ []) ≡ 2
unfolding digits
begun = refl

of_each : (P : FlatVariable → Type 0) → P inner → P outer → (i : ℕ) (x : FlatVariable) → slice_get small.variables i ≡ Some x → P x
of_each P a b zero x e = subst P (some_same inner x e) a
of_each P a b (suc zero) x e = subst P (some_same outer x e) b
of_each P a b (suc (suc i)) x e = absurd (never x e)

inner_word : IsLineWord (codes "a.b.n")
inner_word = record { some = λ e. no_items 97 (codes ".b.n") (codes "a.b.n") e refl; free = free_by_test 32 (codes "a.b.n") refl; line = free_by_test 10 (codes "a.b.n") refl }

outer_word : IsLineWord (codes "x")
outer_word = record { some = λ e. no_items 120 [] (codes "x") e refl; free = free_by_test 32 (codes "x") refl; line = free_by_test 10 (codes "x") refl }

differ : codes "a.b.n" ≡ codes "x" → ⊥
differ e = let bad : length (codes "a.b.n") ≡ length (codes "x") = ap (length {A = ℕ}) e in omega (arith, bad)

apart : (i j : ℕ) (x y : FlatVariable) → slice_get small.variables i ≡ Some x → slice_get small.variables j ≡ Some y → variable_text x ≡ variable_text y → i ≡ j
apart zero zero x y e f s = refl
apart (suc zero) (suc zero) x y e f s = refl
apart zero (suc zero) x y e f s = absurd (differ (ap variable_text (some_same inner x e) ∙ s ∙ sym (ap variable_text (some_same outer y f))))
apart (suc zero) zero x y e f s = absurd (differ (ap variable_text (some_same inner y f) ∙ sym s ∙ sym (ap variable_text (some_same outer x e))))
apart (suc (suc i)) j x y e f s = absurd (never x e)
apart zero (suc (suc j)) x y e f s = absurd (never y f)
apart (suc zero) (suc (suc j)) x y e f s = absurd (never y f)

small_printable : IsPrintable small
small_printable = record {
  words = of_each (λ x. IsLineWord (variable_text x)) inner_word outer_word;
  apart = apart;
  types = of_each (λ x. IsWritableType x.declared) (λ e. no_items (member.Number (negsuc 2)) (member.Symbol (codes "off") ∷ []) (member.Number (negsuc 2) ∷ member.Symbol (codes "off") ∷ []) e refl, (omega arith, ((refl, (refl, (refl, (refl, tt)))), tt))) tt;
}
