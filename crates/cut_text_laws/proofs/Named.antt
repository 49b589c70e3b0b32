-- Names joined by dots are words, and tell paths apart.
use Rattle.std.proofs.Common.{◌≡◌, ◌≢◌, ℕ, true, not, ◌&&◌, List, [], ◌∷◌, ◌++◌, refl, sym, ◌∙◌, ap, subst, arith, reverse}
use Rattle.std.specs.Prelude.{◌==◌}
use Rattle.std.proofs.lemmas.List.{reverse-reverse, append-nil}
use Rattle.smv_lexer.specs.Bytes.{is_word_byte}
use Rattle.smv_lexer.specs.Runs.{Runs, takes_word, ends_word}
use Rattle.smv_lexer.specs.Tokens.{IsWord}
use Rattle.smv_language.specs.Language.{Text, Path, IsName, AreNames, each_after, dotted_text, FlatVariable}
use Rattle.cut_text_laws.proofs.Separators.{IsFree, same_front, no_separator, head_of, tail_of, both_of}
use Rattle.cut_text_laws.proofs.Words.{free_joined}
use Rattle.cut_text_laws.specs.TraceOfText.{IsLineWord}
use Rattle.cut_text_laws.specs.Laws.{NamedIsPrintable}
use Rattle.cut_text_laws.proofs.Plain.{word_word, start_word}
use Rattle.cut_text_laws.proofs.OneTrace.{no_items}
use Rattle.smv_language.proofs.BoolLaws.{left_true}

byte_no_dot : (b : ℕ) → is_word_byte b ≡ true → b ≢ 46
byte_no_dot b h e = no_dot (subst (λ c. is_word_byte c ≡ true) e h)
  where
    no_dot : is_word_byte 46 ≡ true → ⊥
    no_dot e = cc

run_no_dot : (bs : List ℕ) → Runs takes_word bs [] → IsFree 46 bs
run_no_dot [] h = tt
run_no_dot (b ∷ bs) h = (byte_no_dot b (left_true (is_word_byte b) (not ((b == 45) && ends_word (bs ++ []))) h.0), run_no_dot bs h.1)

word_no_dot : (x : Text) → IsWord x [] → IsFree 46 x
word_no_dot [] h = absurd h
word_no_dot (b ∷ bs) h = (byte_no_dot b (start_word b h.0), run_no_dot bs h.1)

rest_free : (s : ℕ) → 46 ≢ s → ((x : Text) → IsName x → IsFree s x) → (p : Path) → AreNames p → IsFree s (each_after (46 ∷ []) p)
rest_free s n f [] h = tt
rest_free s n f (x ∷ p) h = (n, free_joined s x (each_after (46 ∷ []) p) (f x h.0) (rest_free s n f p h.1))

dotted_word : (p : Path) → p ≢ [] → AreNames p → IsLineWord (dotted_text p)
dotted_word [] n h = absurd (n refl)
dotted_word (x ∷ p) n h = record {
  some = λ e. (word_word x h.0.1).some (first_none x (each_after (46 ∷ []) p) e);
  free = free_joined 32 x (each_after (46 ∷ []) p) (word_word x h.0.1).free (rest_free 32 (λ e. omega (arith, e)) (λ y g. (word_word y g.1).free) p h.1);
  line = free_joined 10 x (each_after (46 ∷ []) p) (word_word x h.0.1).line (rest_free 10 (λ e. omega (arith, e)) (λ y g. (word_word y g.1).line) p h.1);
}
  where
    first_none : (xs ys : List ℕ) → xs ++ ys ≡ [] → xs ≡ []
    first_none [] ys e = refl
    first_none (z ∷ xs) ys e = absurd (no_items z (xs ++ ys) (z ∷ (xs ++ ys)) e refl)

same_dotted : (p q : Path) → p ≢ [] → q ≢ [] → AreNames p → AreNames q → dotted_text p ≡ dotted_text q → p ≡ q
same_dotted [] q n k f g e = absurd (n refl)
same_dotted (x ∷ p) [] n k f g e = absurd (k refl)
same_dotted (x ∷ []) (y ∷ []) n k f g e = ap (λ z. z ∷ []) (sym (append-nil x) ∙ e ∙ append-nil y)
same_dotted (x ∷ []) (y ∷ z ∷ q) n k f g e = absurd (no_separator 46 x y (dotted_text (z ∷ q)) (word_no_dot x f.0.1) (sym (append-nil x) ∙ e))
same_dotted (x ∷ w ∷ p) (y ∷ []) n k f g e = absurd (no_separator 46 y x (dotted_text (w ∷ p)) (word_no_dot y g.0.1) (sym (append-nil y) ∙ sym e))
same_dotted (x ∷ w ∷ p) (y ∷ z ∷ q) n k f g e =
    let parts : (x ≡ y) × (dotted_text (w ∷ p) ≡ dotted_text (z ∷ q)) = same_front 46 x y (dotted_text (w ∷ p)) (dotted_text (z ∷ q)) (word_no_dot x f.0.1) (word_no_dot y g.0.1) e in
    both_of x y (w ∷ p) (z ∷ q) parts.0
    (same_dotted (w ∷ p) (z ∷ q) (λ s. no_items w p (w ∷ p) s refl) (λ s. no_items z q (z ∷ q) s refl) f.1 g.1 parts.1)

path_some : (x : FlatVariable) → reverse (x.name ∷ x.place) ≢ []
path_some x e = no_items x.name x.place [] refl (sym (ap reverse e) ∙ reverse-reverse (x.name ∷ x.place))

same_path : (x y : FlatVariable) → reverse (x.name ∷ x.place) ≡ reverse (y.name ∷ y.place) → (x.name ∷ x.place) ≡ (y.name ∷ y.place)
same_path x y e = sym (reverse-reverse (x.name ∷ x.place)) ∙ ap reverse e ∙ reverse-reverse (y.name ∷ y.place)

pub named_is_printable : NamedIsPrintable
named_is_printable m h = record {
  words = λ i x e. dotted_word (reverse (x.name ∷ x.place)) (path_some x) (h.names i x e);
  apart = λ i j x y e f s.
      let path : (x.name ∷ x.place) ≡ (y.name ∷ y.place) = same_path x y (same_dotted (reverse (x.name ∷ x.place)) (reverse (y.name ∷ y.place)) (path_some x) (path_some y) (h.names i x e) (h.names j y f) s) in
      h.apart i j x y e f (tail_of x.name y.name x.place y.place path) (head_of x.name y.name x.place y.place path);
  types = h.types;
}
