-- Marks of lexemes, and what a lexeme with a mark, or of a word, is.
use Rattle.std.proofs.Common.{◌≡◌, ℕ, Bool, true, false, List, refl, ◌∙◌, ap}
use Rattle.std.specs.Prelude.{codes}
use Rattle.smv_lexer.specs.declared.token.TokenKind.TheVariants as k
use Rattle.smv_language.specs.Language.{Lexeme, word, num, sign, is_reserved, section_words, is_among, skipped_words}
use Rattle.smv_expression_reader.specs.Recogniser.{role_of}
use Rattle.smv_expression_reader.specs.Places.{is_word}
use Rattle.smv_expression_reader.specs.Marks.{mark_of, is_section}
use Rattle.smv_language.proofs.OneTree.{same_text_equal}
use Rattle.smv_language.proofs.OneParts.{among}
use Rattle.smv_expression_reader.specs.Words.{use_of}
use Rattle.smv_expression_reader.proofs.WordLaws.{use_of_name, in_words}
use Rattle.smv_expression_reader.specs.declared.mark.Mark.{Mark}
use Rattle.smv_expression_reader.specs.declared.machine.TokenRole.TheVariants as role
use Rattle.smv_expression_reader.specs.declared.mark.Mark.TheVariants as mark

pub word_there : (t : Lexeme) (w : List ℕ) → is_word t w ≡ true → t ≡ word w
word_there (word x) w h = ap word (same_text_equal x w h)
word_there (num n d) w h = cc
word_there (sign s) w h = cc

unfoldable pub Marked : Mark → Lexeme → Type 0
Marked mark.Module t = t ≡ word (codes "MODULE")
Marked mark.Var t = t ≡ word (codes "VAR")
Marked mark.Ivar t = t ≡ word (codes "IVAR")
Marked mark.Frozen t = t ≡ word (codes "FROZENVAR")
Marked mark.Define t = t ≡ word (codes "DEFINE")
Marked mark.Constants t = t ≡ word (codes "CONSTANTS")
Marked mark.Assign t = t ≡ word (codes "ASSIGN")
Marked mark.Init t = t ≡ word (codes "INIT")
Marked mark.Invar t = t ≡ word (codes "INVAR")
Marked mark.Trans t = t ≡ word (codes "TRANS")
Marked mark.Skipped t = (x : List ℕ) × (t ≡ word x) × (is_among skipped_words x ≡ true)
Marked mark.Boolean t = t ≡ word (codes "boolean")
Marked mark.First t = t ≡ word (codes "init")
Marked mark.After t = t ≡ word (codes "next")
Marked mark.Name t = (x : List ℕ) × (t ≡ word x) × (is_reserved x ≡ false)
Marked mark.Number t = (n : ℕ) × (d : List ℕ) × (t ≡ num n d)
Marked mark.Becomes t = t ≡ sign k.Becomes
Marked mark.Dots t = t ≡ sign k.Dots
Marked mark.Open t = t ≡ sign k.Open
Marked mark.Close t = t ≡ sign k.Close
Marked mark.OpenBrace t = t ≡ sign k.OpenBrace
Marked mark.CloseBrace t = t ≡ sign k.CloseBrace
Marked mark.Comma t = t ≡ sign k.Comma
Marked mark.Semicolon t = t ≡ sign k.Semicolon
Marked mark.Colon t = t ≡ sign k.Colon
Marked mark.Dot t = t ≡ sign k.Dot
Marked mark.Minus t = t ≡ sign k.Minus
Marked mark.Nothing t = Unit {0}

marked_word : (x : List ℕ) → Marked (use_of x).1 (word x)
unfolding Marked
marked_word x =
    in_words (λ w row. Marked row.1 (word w)) x
    (refl, (refl, (refl, (refl, (refl, (refl, (refl, (refl, (refl, (refl, ((_, refl, refl), ((_, refl, refl), ((_, refl, refl), ((_, refl, refl), ((_, refl, refl), ((_, refl, refl), (tt, (tt, (tt, (tt, (tt, (tt, (refl, (refl, (tt, (tt, (tt, (tt, (tt, (tt, (refl, (tt, (tt, (tt, (tt, (tt, (tt, (tt, (tt, (tt, (tt, (tt, (tt, (tt, tt))))))))))))))))))))))))))))))))))))))))))))
    (λ n. (x, refl, n))

pub marked : (t : Lexeme) → Marked (mark_of t) t
unfolding Marked
marked (word x) = marked_word x
marked (num n d) = (n, d, refl)
marked (sign k.Becomes) = refl
marked (sign k.Dots) = refl
marked (sign k.Open) = refl
marked (sign k.Close) = refl
marked (sign k.OpenBrace) = refl
marked (sign k.CloseBrace) = refl
marked (sign k.Comma) = refl
marked (sign k.Semicolon) = refl
marked (sign k.Colon) = refl
marked (sign k.Dot) = refl
marked (sign k.Minus) = refl
marked (sign s) = tt

-- the marks of names and of skipped words
pub mark_of_name : (x : List ℕ) → is_reserved x ≡ false → mark_of (word x) ≡ mark.Name
mark_of_name x n = ap (λ u. u.1) (use_of_name x n)

pub mark_of_skipped : (x : List ℕ) → is_among skipped_words x ≡ true → mark_of (word x) ≡ mark.Skipped
mark_of_skipped x h = among (λ w. mark_of (word w) ≡ mark.Skipped) skipped_words x (refl, (refl, (refl, (refl, (refl, (refl, tt)))))) h

pub skipped_section : (x : List ℕ) → is_among skipped_words x ≡ true → is_among section_words x ≡ true
skipped_section x h = among (λ w. is_among section_words w ≡ true) skipped_words x (refl, (refl, (refl, (refl, (refl, (refl, tt)))))) h

pub section_no_role : (x : List ℕ) → is_among section_words x ≡ true → role_of (word x) ≡ role.Nothing
section_no_role x h = among (λ w. role_of (word w) ≡ role.Nothing) section_words x
    (refl, (refl, (refl, (refl, (refl, (refl, (refl, (refl, (refl, (refl, (refl, (refl, (refl, (refl, (refl, (refl, (refl, (refl, (refl, tt))))))))))))))))))) h

abbrev pub begins_section : Mark → Bool
begins_section mark.Module = true
begins_section mark.Var = true
begins_section mark.Ivar = true
begins_section mark.Frozen = true
begins_section mark.Define = true
begins_section mark.Constants = true
begins_section mark.Assign = true
begins_section mark.Init = true
begins_section mark.Invar = true
begins_section mark.Trans = true
begins_section mark.Skipped = true
begins_section _ = false

pub section_mark : (c : Mark) (t : Lexeme) → Marked c t → begins_section c ≡ true → is_section t ≡ true
unfolding Marked
section_mark mark.Skipped t m h = ap is_section m.1 ∙ skipped_section m.0 m.2
section_mark mark.Module t m h = ap is_section m
section_mark mark.Var t m h = ap is_section m
section_mark mark.Ivar t m h = ap is_section m
section_mark mark.Frozen t m h = ap is_section m
section_mark mark.Define t m h = ap is_section m
section_mark mark.Constants t m h = ap is_section m
section_mark mark.Assign t m h = ap is_section m
section_mark mark.Init t m h = ap is_section m
section_mark mark.Invar t m h = ap is_section m
section_mark mark.Trans t m h = ap is_section m
section_mark c t m h = cc
