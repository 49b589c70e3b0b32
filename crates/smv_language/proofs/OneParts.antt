-- Parts that are spelled at the front of one list are the same: words, expressions, and lists of parts.
use Rattle.std.proofs.Common.{◌≡◌, Bool, true, false, List, [], ◌∷◌, ◌++◌, None, refl, sym, ◌∙◌, ap, subst, append_assoc}
use Rattle.std.specs.Prelude.{codes, ◌||◌}
use Rattle.smv_lexer.specs.declared.token.TokenKind.TheVariants as k
use Rattle.smv_language.specs.declared.program.Member.TheVariants as member
use Rattle.smv_language.specs.ProgramTree.{Text}
use Rattle.smv_language.specs.Lexemes.{Lexeme, word, num, sign, is_reserved, section_words}
use Rattle.smv_language.specs.Texts.{same_text, is_among}
use Rattle.smv_language.specs.Spells.{at_expr, plain_int, minus_int}
use Rattle.smv_language.specs.SpellsProgram.{SpellsMany, no_more, one_more, SpellsCommas, last_one, one_comma, SpellsBracketed, no_brackets, brackets, SpellsName, a_name, SpellsExpr, SpellsMember, a_symbol, a_number}
use Rattle.smv_language.proofs.ValueLaws.{same_text_equal, same_text_refl}
use Rattle.smv_language.proofs.Ends.{op_of, Stops, ends_at, end_of_bracket, end_of_semicolon, closes, no_word_operator, nothing_stops}
use Rattle.smv_language.proofs.OneTree.{Same, one_int, regrouped, second, one_line}

-- Two that are spelled at the front of one list are the same, where what follows them ends them.
abbrev pub OneBefore : {A : Type 0} → (List Lexeme → A → Type 0) → (List Lexeme → Type 0) → Type 0
OneBefore {A} Sp R = (xs ys : List Lexeme) (a b : A) (r s : List Lexeme) → Sp xs a → Sp ys b → xs ++ r ≡ ys ++ s → R r → R s → Same xs ys a b r s

-- anything may follow, or nothing, or a semicolon
abbrev pub Any : List Lexeme → Type 0
Any r = Unit {0}

abbrev pub Nothing : List Lexeme → Type 0
Nothing [] = Unit {0}
Nothing (t ∷ ts) = ⊥

abbrev pub Semicolon : List Lexeme → Type 0
Semicolon (sign k.Semicolon ∷ ts) = Unit {0}
Semicolon _ = ⊥

-- what begins with a section's word, or nothing
abbrev pub Past : List Lexeme → Type 0
Past [] = Unit {0}
Past (word x ∷ ts) = is_among section_words x ≡ true
Past (num n d ∷ ts) = ⊥
Past (sign s ∷ ts) = ⊥

-- what begins with a module, or nothing
abbrev pub AtModule : List Lexeme → Type 0
AtModule [] = Unit {0}
AtModule (word x ∷ ts) = x ≡ codes "MODULE"
AtModule (num n d ∷ ts) = ⊥
AtModule (sign s ∷ ts) = ⊥

-- what is true of each of some words is true of one that is among them
abbrev pub Each : (Text → Type 0) → List Text → Type 0
Each P [] = Unit {0}
Each P (w ∷ ws) = P w × Each P ws

pub among : (P : Text → Type 0) (ws : List Text) (x : Text) → Each P ws → is_among ws x ≡ true → P x
among P [] x all h = cc
among P (w ∷ ws) x all h = go (same_text w x) refl h (among P ws x all.1)
  where
    go : (b : Bool) → same_text w x ≡ b → (b || is_among ws x) ≡ true → (is_among ws x ≡ true → P x) → P x
    go true e h more = subst P (same_text_equal w x e) all.0
    go false e h more = more h

-- two words that differ
pub words_differ : {x y : Text} {xs ys : List Lexeme} → same_text x y ≡ false → ◌≡◌ {A = List Lexeme} (word x ∷ xs) (word y ∷ ys) → ⊥
words_differ {x} {y} n e = let same : x ≡ y = cc in let both : true ≡ false = sym (same_text_refl x) ∙ ap (same_text x) same ∙ n in cc

-- a section's word is no operator
no_operator_word : (x w : Text) → is_among section_words w ≡ false → is_among section_words x ≡ true → same_text x w ≡ false
no_operator_word x w n h = go (same_text x w) refl
  where
    go : (b : Bool) → same_text x w ≡ b → b ≡ false
    go true e = let both : true ≡ false = sym h ∙ ap (is_among section_words) (same_text_equal x w e) ∙ n in cc
    go false e = refl

no_operator_there : (x : Text) → is_among section_words x ≡ true → op_of (word x) ≡ None
no_operator_there x h =
    no_word_operator x (no_operator_word x (codes "mod") refl h) (no_operator_word x (codes "union") refl h) (no_operator_word x (codes "in") refl h)
    (no_operator_word x (codes "xor") refl h) (no_operator_word x (codes "xnor") refl h)

section_stops : (x : Text) (ts : List Lexeme) → is_among section_words x ≡ true → Stops at_expr (word x ∷ ts)
section_stops x ts h = closes at_expr (word x) ts (ends_at at_expr (word x) (no_operator_there x h) (λ e. cc) (λ e. cc) (λ e. cc))

pub past_stops : (r : List Lexeme) → Past r → Stops at_expr r
past_stops [] u = nothing_stops 0
past_stops (word x ∷ ts) u = section_stops x ts u
past_stops (num n d ∷ ts) u = absurd u
past_stops (sign s ∷ ts) u = absurd u

pub semicolon_stops : (r : List Lexeme) → Semicolon r → Stops at_expr r
semicolon_stops [] u = absurd u
semicolon_stops (sign k.Semicolon ∷ ts) u = end_of_semicolon at_expr ts
semicolon_stops (sign s ∷ ts) u = absurd u
semicolon_stops (word x ∷ ts) u = absurd u
semicolon_stops (num n d ∷ ts) u = absurd u

-- a word that is no section's
pub not_section : (x : Text) → is_reserved x ≡ false → is_among section_words x ≡ true → ⊥
not_section x n h = let clash : is_reserved x ≡ true = among (λ w. is_reserved w ≡ true) section_words x (refl, (refl, (refl, (refl, (refl, (refl, (refl, (refl, (refl, (refl, (refl, (refl, (refl, (refl, (refl, (refl, (refl, (refl, (refl, tt))))))))))))))))))) h in let both : true ≡ false = sym clash ∙ n in cc

-- Expressions, names and members.

pub one_expr : OneBefore SpellsExpr (Stops at_expr)
one_expr xs ys a b r s p q e u v = one_line r s p q e u v

pub one_word : OneBefore SpellsName Any
one_word xs ys a b r s (a_name {x = x} n) (a_name {x = y} m) e u v =
    let h : x ≡ y = cc in let t : r ≡ s = cc in (rw h refl, h, t)

pub one_member : OneBefore SpellsMember Any
one_member xs ys a b r s (a_symbol {x = x} n) (a_symbol {x = y} m) e u v =
    let h : x ≡ y = cc in let t : r ≡ s = cc in (rw h refl, rw h refl, t)
one_member xs ys a b r s (a_symbol n) (a_number plain_int) e u v = cc
one_member xs ys a b r s (a_symbol n) (a_number minus_int) e u v = cc
one_member xs ys a b r s (a_number plain_int) (a_symbol n) e u v = cc
one_member xs ys a b r s (a_number minus_int) (a_symbol n) e u v = cc
one_member xs ys a b r s (a_number {n = n} p) (a_number {n = m} q) e u v =
    let inner : Same xs ys n m r s = one_int r s p q e in (inner.0, ap member.Number inner.1, inner.2)

-- Lists with commas, between brackets, and of many.

pub one_commas : {A : Type 0} (Sp : List Lexeme → A → Type 0) (Q R : List Lexeme → Type 0) → OneBefore Sp Q → ((r : List Lexeme) → R r → Q r) → ((t : List Lexeme) → Q (sign k.Comma ∷ t)) →
    ((t : List Lexeme) → R (sign k.Comma ∷ t) → ⊥) → OneBefore (SpellsCommas Sp) R
one_commas Sp Q R one ends comma no_comma xs ys ls bs r s (last_one {a = a} p) (last_one {a = b} q) e u v =
    let inner : Same xs ys a b r s = one xs ys a b r s p q e (ends r u) (ends s v) in (inner.0, rw inner.1 refl, inner.2)
one_commas Sp Q R one ends comma no_comma xs ys ls bs r s (last_one {a = a} p) (one_comma {ts = y0} {us = y1} {a = b} q qm) e u v =
    let inner : Same xs y0 a b r (sign k.Comma ∷ (y1 ++ s)) = one xs y0 a b r (sign k.Comma ∷ (y1 ++ s)) p q (e ∙ regrouped y0 y1 s (sign k.Comma)) (ends r u) (comma (y1 ++ s)) in
    absurd (no_comma (y1 ++ s) (subst R inner.2 u))
one_commas Sp Q R one ends comma no_comma xs ys ls bs r s (one_comma {ts = x0} {us = x1} {a = a} p pm) (last_one {a = b} q) e u v =
    let inner : Same x0 ys a b (sign k.Comma ∷ (x1 ++ r)) s = one x0 ys a b (sign k.Comma ∷ (x1 ++ r)) s p q (sym (regrouped x0 x1 r (sign k.Comma)) ∙ e) (comma (x1 ++ r)) (ends s v) in
    absurd (no_comma (x1 ++ r) (subst R (sym inner.2) v))
one_commas Sp Q R one ends comma no_comma xs ys ls bs r s (one_comma {ts = x0} {us = x1} {a = a} {more = am} p pm) (one_comma {ts = y0} {us = y1} {a = b} {more = bm} q qm) e u v =
    let inner : Same x0 y0 a b (sign k.Comma ∷ (x1 ++ r)) (sign k.Comma ∷ (y1 ++ s)) =
    one x0 y0 a b (sign k.Comma ∷ (x1 ++ r)) (sign k.Comma ∷ (y1 ++ s)) p q (sym (regrouped x0 x1 r (sign k.Comma)) ∙ e ∙ regrouped y0 y1 s (sign k.Comma)) (comma (x1 ++ r)) (comma (y1 ++ s)) in
    let rest : Same x1 y1 am bm r s = one_commas Sp Q R one ends comma no_comma x1 y1 am bm r s pm qm (second inner.2) u v in
    (rw (inner.0, rest.0) refl, rw (inner.1, rest.1) refl, rest.2)

-- what closes a list
abbrev pub Closed : List Lexeme → Type 0
Closed (sign k.Close ∷ ts) = Unit {0}
Closed _ = ⊥

abbrev pub Braced : List Lexeme → Type 0
Braced (sign k.CloseBrace ∷ ts) = Unit {0}
Braced _ = ⊥

pub closed_stops : (r : List Lexeme) → Closed r → Stops at_expr r
closed_stops [] u = absurd u
closed_stops (sign k.Close ∷ ts) u = end_of_bracket at_expr ts
closed_stops (sign s ∷ ts) u = absurd u
closed_stops (word x ∷ ts) u = absurd u
closed_stops (num n d ∷ ts) u = absurd u

pub one_bracketed : {A : Type 0} (Sp : List Lexeme → A → Type 0) (R : List Lexeme → Type 0) → OneBefore (SpellsCommas Sp) Closed → ((t : List Lexeme) → R (sign k.Open ∷ t) → ⊥) →
    OneBefore (SpellsBracketed Sp) R
one_bracketed Sp R one no_open xs ys ls bs r s no_brackets no_brackets e u v = (refl, refl, e)
one_bracketed Sp R one no_open xs ys ls bs r s no_brackets (brackets {ts = ts} q) e u v = absurd (no_open ((ts ++ sign k.Close ∷ []) ++ s) (subst R e u))
one_bracketed Sp R one no_open xs ys ls bs r s (brackets {ts = ts} p) no_brackets e u v = absurd (no_open ((ts ++ sign k.Close ∷ []) ++ r) (subst R (sym e) v))
one_bracketed Sp R one no_open xs ys ls bs r s (brackets {ts = x0} p) (brackets {ts = y0} q) e u v =
    let inner : Same x0 y0 ls bs (sign k.Close ∷ r) (sign k.Close ∷ s) =
    one x0 y0 ls bs (sign k.Close ∷ r) (sign k.Close ∷ s) p q (sym (append_assoc x0 (sign k.Close ∷ []) r) ∙ second e ∙ append_assoc y0 (sign k.Close ∷ []) s) tt tt in
    (rw inner.0 refl, inner.1, second inner.2)

-- parts, each of which may be followed by another
pub one_many : {A : Type 0} (Sp : List Lexeme → A → Type 0) (Q R : List Lexeme → Type 0) → OneBefore Sp Q → ((r : List Lexeme) → R r → Q r) →
    ((ts : List Lexeme) (a : A) (z : List Lexeme) → Sp ts a → Q (ts ++ z)) → ((ts : List Lexeme) (a : A) (z : List Lexeme) → Sp ts a → R (ts ++ z) → ⊥) → OneBefore (SpellsMany Sp) R
one_many {A} Sp Q R one ends goes_on starts = many
  where
    ended_well : (ts : List Lexeme) (ls : List A) (r : List Lexeme) → SpellsMany Sp ts ls → R r → Q (ts ++ r)
    ended_well ts ls r no_more u = ends r u
    ended_well ts ls r (one_more {ts = x0} {us = x1} {a = a} p pm) u = subst Q (sym (append_assoc x0 x1 r)) (goes_on x0 a (x1 ++ r) p)

    many : OneBefore (SpellsMany Sp) R
    many xs ys ls bs r s no_more no_more e u v = (refl, refl, e)
    many xs ys ls bs r s no_more (one_more {ts = y0} {us = y1} {a = b} q qm) e u v = absurd (starts y0 b (y1 ++ s) q (subst R (e ∙ append_assoc y0 y1 s) u))
    many xs ys ls bs r s (one_more {ts = x0} {us = x1} {a = a} p pm) no_more e u v = absurd (starts x0 a (x1 ++ r) p (subst R (sym e ∙ append_assoc x0 x1 r) v))
    many xs ys ls bs r s (one_more {ts = x0} {us = x1} {a = a} {more = am} p pm) (one_more {ts = y0} {us = y1} {a = b} {more = bm} q qm) e u v =
        let inner : Same x0 y0 a b (x1 ++ r) (y1 ++ s) =
        one x0 y0 a b (x1 ++ r) (y1 ++ s) p q (sym (append_assoc x0 x1 r) ∙ e ∙ append_assoc y0 y1 s) (ended_well x1 am r pm u) (ended_well y1 bm s qm v) in
        let rest : Same x1 y1 am bm r s = many x1 y1 am bm r s pm qm inner.2 u v in
        (rw (inner.0, rest.0) refl, rw (inner.1, rest.1) refl, rest.2)
