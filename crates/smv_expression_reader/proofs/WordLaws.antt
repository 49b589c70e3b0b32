-- What holds of each row of the words holds of what is found, and a word without a row is a name.
use Rattle.std.proofs.Common.{◌≡◌, ℕ, Bool, true, false, List, [], ◌∷◌, ◌++◌, Some, None, refl, sym, ◌∙◌, ap, subst}
use Rattle.std.specs.Prelude.{◌||◌, map, if◌then◌else◌}
use Rattle.std.proofs.lemmas.Bool.{or_parts as neither}
use Rattle.smv_language.specs.Lexemes.{is_reserved, section_words, expression_words, left_out_words}
use Rattle.smv_language.specs.Texts.{same_text, is_among, first_with}
use Rattle.smv_language.proofs.AmongLaws.{among_joined}
use Rattle.smv_language.proofs.OneTree.{same_text_equal}
use Rattle.smv_expression_reader.specs.Words.{word_rows, use_or_name, use_of}
use Rattle.smv_expression_reader.specs.declared.mark.Mark.{Mark}
use Rattle.smv_expression_reader.specs.declared.mark.Mark.TheVariants as mark
use Rattle.smv_expression_reader.specs.declared.machine.TokenRole.{TokenRole as Role}
use Rattle.smv_expression_reader.specs.declared.machine.TokenRole.TheVariants as role

abbrev Use : Type 0
Use = Role × Mark × Bool

abbrev words_of : List (List ℕ × Use) → List (List ℕ)
words_of rows = map (λ row. row.0) rows

-- the words of the rows are those that are reserved
row_words : words_of word_rows ≡ (section_words ++ expression_words) ++ left_out_words
row_words = refl

reserved_row : (x : List ℕ) → is_among (words_of word_rows) x ≡ is_reserved x
reserved_row x =
    ap (λ ws. is_among ws x) row_words ∙ among_joined (section_words ++ expression_words) left_out_words x
    ∙ ap (λ b. b || is_among left_out_words x) (among_joined section_words expression_words x)

no_row : (rows : List (List ℕ × Use)) (x : List ℕ) → is_among (words_of rows) x ≡ false → first_with rows x ≡ None
no_row [] x n = refl
no_row (row ∷ rows) x n = let s : (same_text row.0 x ≡ false) × (is_among (words_of rows) x ≡ false) = neither _ _ n in rw s.0 (no_row rows x s.1)

pub use_of_name : (x : List ℕ) → is_reserved x ≡ false → use_of x ≡ (role.Name, mark.Name, false)
use_of_name x n = ap use_or_name (no_row word_rows x (reserved_row x ∙ n))

abbrev EachRow : (List ℕ → Use → Type 0) → List (List ℕ × Use) → Type 0
EachRow P [] = Unit {0}
EachRow P (row ∷ rows) = P row.0 row.1 × EachRow P rows

in_rows : (P : List ℕ → Use → Type 0) (rows : List (List ℕ × Use)) (x : List ℕ) → EachRow P rows → (is_among (words_of rows) x ≡ false → P x (use_or_name None)) →
    P x (use_or_name (first_with rows x))
in_rows P [] x all name = name refl
in_rows P (row ∷ rows) x all name = go (same_text row.0 x) refl (in_rows P rows x all.1)
  where
    go : (b : Bool) → same_text row.0 x ≡ b → ((is_among (words_of rows) x ≡ false → P x (use_or_name None)) → P x (use_or_name (first_with rows x))) →
        P x (use_or_name (if b then Some row.1 else first_with rows x))
    go true e rec = subst (λ z. P z row.1) (same_text_equal row.0 x e) all.0
    go false e rec = rec (λ n. name (ap (λ b. b || is_among (words_of rows) x) e ∙ n))

pub in_words : (P : List ℕ → Use → Type 0) (x : List ℕ) → EachRow P word_rows → (is_reserved x ≡ false → P x (role.Name, mark.Name, false)) → P x (use_of x)
in_words P x all name = in_rows P word_rows x all (λ n. name (sym (reserved_row x) ∙ n))

pub section_row : (x : List ℕ) → (use_of x).2 ≡ is_among section_words x
section_row x =
    in_words (λ w row. row.2 ≡ is_among section_words w) x
    (refl, (refl, (refl, (refl, (refl, (refl, (refl, (refl, (refl, (refl, (refl, (refl, (refl, (refl, (refl, (refl, (refl, (refl, (refl, (refl, (refl, (refl, (refl, (refl, (refl, (refl, (refl, (refl, (refl, (refl, (refl, (refl, (refl, (refl, (refl, (refl, (refl, (refl, (refl, (refl, (refl, (refl, (refl, (refl, tt))))))))))))))))))))))))))))))))))))))))))))
    (λ n. sym (neither _ _ (neither _ _ n).0).0)
