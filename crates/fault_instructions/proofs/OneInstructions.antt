-- No tokens spell two lists of instructions.
use Rattle.std.proofs.Common.{◌≡◌, true, false, List, [], ◌∷◌, ◌++◌, Some, refl, sym, ◌∙◌, ap, subst, append_assoc}
use Rattle.std.specs.Prelude.{codes}
use Rattle.smv_lexer.specs.declared.token.TokenKind.TheVariants as k
use Rattle.smv_lexer.specs.Tokens.{sign_text}
use Rattle.smv_language.specs.Language.{Text, Lexeme, word, num, sign, same_text, plain_int, minus_int, SpellsMany, no_more, one_more}
use Rattle.smv_language.specs.Values.{number}
use Rattle.smv_language.proofs.Ends.{end_of_bracket}
use Rattle.smv_language.proofs.OneTree.{Same, not_reserved, one_int, regrouped, second, tails}
use Rattle.smv_language.proofs.OneParts.{OneBefore, Any, Nothing, Semicolon, semicolon_stops, one_expr, one_many, words_differ, Braced}
use Rattle.fault_instructions.specs.declared.effects.EffectKind.{EffectKind}
use Rattle.fault_instructions.specs.Effects.{keyword, effect_kinds, first_kind}
use Rattle.fault_instructions.proofs.EffectRows.{keyword_finds}
use Rattle.fault_instructions.specs.Instructions.{EffectTree, plain, kind_of, ModeTree, SliceTree, ExtensionTree, InstructionTree}
use Rattle.fault_instructions.specs.SpellsInstructions.{SpellsConst, const_true, const_false, const_int, const_name, SpellsArguments, no_argument, a_constant, an_expression, a_number, two_numbers, SpellsEffect, an_effect, SpellsDynamics, d_permanent, d_transient, SpellsGuard, no_guard, a_guard, IsTokenText, number_text, word_text, sign_of, SpellsMark, no_mark, a_mark, SpellsMode, a_mode, SpellsStart, at_nominal, at_any, SpellsSlice, a_slice, SpellsExtension, an_extension, SpellsInstructions, unnamed, named}

-- Effects.

one_const : OneBefore SpellsConst Any
one_const xs ys a b r s const_true const_true e u v = (refl, refl, second e)
one_const xs ys a b r s const_true const_false e u v = absurd (words_differ refl e)
one_const xs ys a b r s const_true (const_int plain_int) e u v = cc
one_const xs ys a b r s const_true (const_int minus_int) e u v = cc
one_const xs ys a b r s const_true (const_name {x = y} n) e u v = let same : y ≡ codes "TRUE" = cc in absurd (not_reserved y (codes "TRUE") refl n same)
one_const xs ys a b r s const_false const_true e u v = absurd (words_differ refl e)
one_const xs ys a b r s const_false const_false e u v = (refl, refl, second e)
one_const xs ys a b r s const_false (const_int plain_int) e u v = cc
one_const xs ys a b r s const_false (const_int minus_int) e u v = cc
one_const xs ys a b r s const_false (const_name {x = y} n) e u v = let same : y ≡ codes "FALSE" = cc in absurd (not_reserved y (codes "FALSE") refl n same)
one_const xs ys a b r s (const_int plain_int) const_true e u v = cc
one_const xs ys a b r s (const_int minus_int) const_true e u v = cc
one_const xs ys a b r s (const_int plain_int) const_false e u v = cc
one_const xs ys a b r s (const_int minus_int) const_false e u v = cc
one_const xs ys a b r s (const_int {n = n} p) (const_int {n = m} q) e u v =
    let inner : Same xs ys n m r s = one_int r s p q e in (inner.0, ap number inner.1, inner.2)
one_const xs ys a b r s (const_int plain_int) (const_name n) e u v = cc
one_const xs ys a b r s (const_int minus_int) (const_name n) e u v = cc
one_const xs ys a b r s (const_name {x = x} n) const_true e u v = let same : x ≡ codes "TRUE" = cc in absurd (not_reserved x (codes "TRUE") refl n same)
one_const xs ys a b r s (const_name {x = x} n) const_false e u v = let same : x ≡ codes "FALSE" = cc in absurd (not_reserved x (codes "FALSE") refl n same)
one_const xs ys a b r s (const_name n) (const_int plain_int) e u v = cc
one_const xs ys a b r s (const_name n) (const_int minus_int) e u v = cc
one_const xs ys a b r s (const_name {x = x} n) (const_name {x = y} m) e u v =
    let h : x ≡ y = cc in let t : r ≡ s = cc in (rw h refl, rw h refl, t)

-- what stands between the parentheses of an effect
opened : (xs ys r s : List Lexeme) → ◌≡◌ {A = List Lexeme} (sign k.Open ∷ ((xs ++ sign k.Close ∷ []) ++ r)) (sign k.Open ∷ ((ys ++ sign k.Close ∷ []) ++ s)) → xs ++ sign k.Close ∷ r ≡ ys ++ sign k.Close ∷ s
opened xs ys r s e = sym (append_assoc xs (sign k.Close ∷ []) r) ∙ second e ∙ append_assoc ys (sign k.Close ∷ []) s

one_arguments : (xs ys : List Lexeme) (a b : EffectTree) (r s : List Lexeme) → SpellsArguments xs a → SpellsArguments ys b → kind_of a ≡ kind_of b → xs ++ r ≡ ys ++ s → Same xs ys a b r s
one_arguments xs ys a b r s (no_argument {of = i}) (no_argument {of = j}) c e = let same : i ≡ j = cc in (refl, ap plain same, e)
one_arguments xs ys a b r s (a_constant {of = i} {ts = x0} {c = m} p) (a_constant {of = j} {ts = y0} {c = n} q) c e =
    let same : i ≡ j = cc in
    let inner : Same x0 y0 m n (sign k.Close ∷ r) (sign k.Close ∷ s) = one_const x0 y0 m n (sign k.Close ∷ r) (sign k.Close ∷ s) p q (opened x0 y0 r s e) tt tt in
    (rw inner.0 refl, rw (same, inner.1) refl, second inner.2)
one_arguments xs ys a b r s (an_expression {of = i} {ts = x0} {e = m} p) (an_expression {of = j} {ts = y0} {e = n} q) c e =
    let same : i ≡ j = cc in
    let inner : Same x0 y0 m n (sign k.Close ∷ r) (sign k.Close ∷ s) =
    one_expr x0 y0 m n (sign k.Close ∷ r) (sign k.Close ∷ s) p q (opened x0 y0 r s e) (end_of_bracket 0 r) (end_of_bracket 0 s) in
    (rw inner.0 refl, rw (same, inner.1) refl, second inner.2)
one_arguments xs ys a b r s (a_number {of = i} {ts = x0} {n = m} p) (a_number {of = j} {ts = y0} {n = n} q) c e =
    let same : i ≡ j = cc in
    let inner : Same x0 y0 m n (sign k.Close ∷ r) (sign k.Close ∷ s) = one_int (sign k.Close ∷ r) (sign k.Close ∷ s) p q (opened x0 y0 r s e) in
    (rw inner.0 refl, rw (same, inner.1) refl, second inner.2)
one_arguments xs ys a b r s (two_numbers {of = i} {xs = x0} {ys = x1} {m = d} {n = f} p p') (two_numbers {of = j} {xs = y0} {ys = y1} {m = d'} {n = f'} q q') c e =
    let same : i ≡ j = cc in
    let inner : Same x0 y0 d d' (sign k.Comma ∷ ((x1 ++ sign k.Close ∷ []) ++ r)) (sign k.Comma ∷ ((y1 ++ sign k.Close ∷ []) ++ s)) =
    one_int (sign k.Comma ∷ ((x1 ++ sign k.Close ∷ []) ++ r)) (sign k.Comma ∷ ((y1 ++ sign k.Close ∷ []) ++ s)) p q
    (sym (regrouped x0 (x1 ++ sign k.Close ∷ []) r (sign k.Comma)) ∙ second e ∙ regrouped y0 (y1 ++ sign k.Close ∷ []) s (sign k.Comma)) in
    let rest : Same x1 y1 f f' (sign k.Close ∷ r) (sign k.Close ∷ s) =
    one_int (sign k.Close ∷ r) (sign k.Close ∷ s) p' q' (sym (append_assoc x1 (sign k.Close ∷ []) r) ∙ second inner.2 ∙ append_assoc y1 (sign k.Close ∷ []) s) in
    (rw (inner.0, rest.0) refl, rw (same, inner.1, rest.1) refl, second rest.2)
one_arguments xs ys a b r s p q c e = cc

-- effects of one word are of one kind
one_word : (i j : EffectKind) → keyword i ≡ keyword j → i ≡ j
one_word i j e =
    let same : Some i ≡ Some j = sym (keyword_finds i) ∙ ap (λ w. first_kind (same_text w) effect_kinds) e ∙ keyword_finds j in cc

one_effect : OneBefore SpellsEffect Any
one_effect xs ys a b r s (an_effect {us = x0} p) (an_effect {us = y0} q) e u v =
    let heads : keyword (kind_of a) ≡ keyword (kind_of b) = cc in
    let inner : Same x0 y0 a b r s = one_arguments x0 y0 a b r s p q (one_word (kind_of a) (kind_of b) heads) (tails e) in
    (rw (heads, inner.0) refl, inner.1, inner.2)

-- The other parts of a mode.

one_dynamics : OneBefore SpellsDynamics Any
one_dynamics xs ys a b r s d_permanent d_permanent e u v = (refl, refl, second e)
one_dynamics xs ys a b r s d_permanent d_transient e u v = absurd (words_differ refl e)
one_dynamics xs ys a b r s d_transient d_permanent e u v = absurd (words_differ refl e)
one_dynamics xs ys a b r s d_transient d_transient e u v = (refl, refl, second e)

one_guard : OneBefore SpellsGuard Semicolon
one_guard xs ys a b r s no_guard no_guard e u v = (refl, refl, e)
one_guard xs ys a b r s no_guard (a_guard q) e u v = absurd (subst Semicolon e u)
one_guard xs ys a b r s (a_guard p) no_guard e u v = absurd (subst Semicolon (sym e) v)
one_guard xs ys a b r s (a_guard {ts = x0} {g = m} p) (a_guard {ts = y0} {g = n} q) e u v =
    let inner : Same x0 y0 m n r s = one_expr x0 y0 m n r s p q (second e) (semicolon_stops r u) (semicolon_stops s v) in
    (rw inner.0 refl, rw inner.1 refl, inner.2)

-- a token of a mark, and its text
unfoldable pub OneToken : List Lexeme → Text → Type 0
OneToken us x = (t : Lexeme) × (us ≡ t ∷ []) × IsTokenText t x

one_text : (t t' : Lexeme) (x y : Text) → t ≡ t' → IsTokenText t x → IsTokenText t' y → x ≡ y
one_text t t' x y e number_text number_text = cc
one_text t t' x y e number_text word_text = cc
one_text t t' x y e number_text (sign_of n) = cc
one_text t t' x y e word_text number_text = cc
one_text t t' x y e word_text word_text = cc
one_text t t' x y e word_text (sign_of n) = cc
one_text t t' x y e (sign_of m) number_text = cc
one_text t t' x y e (sign_of m) word_text = cc
one_text t t' x y e (sign_of {s = a} m) (sign_of {s = b} n) = let same : a ≡ b = cc in ap sign_text same

one_token : OneBefore OneToken Any
unfolding OneToken
one_token xs ys a b r s (t, is, p) (t', is', q) e u v =
    let joined : ◌≡◌ {A = List Lexeme} (t ∷ r) (t' ∷ s) = ap (λ z. z ++ r) (sym is) ∙ e ∙ ap (λ z. z ++ s) is' in
    let heads : t ≡ t' = cc in
    let tails : r ≡ s = cc in
    (is ∙ (ap (λ z. z ∷ []) heads ∙ sym is'), one_text t t' a b heads p q, tails)

no_brace : (t : Lexeme) (x : Text) (z : List Lexeme) → IsTokenText t x → Braced (t ∷ z) → ⊥
no_brace t x z number_text h = h
no_brace t x z word_text h = h
no_brace t x z (sign_of {s = k.CloseBrace} n) h = n refl
no_brace t x z (sign_of {s = s} n) h = h

token_starts : (ts : List Lexeme) (x : Text) (z : List Lexeme) → OneToken ts x → Braced (ts ++ z) → ⊥
unfolding OneToken
token_starts ts x z (t, is, p) h = no_brace t x z p (subst (λ us. Braced (us ++ z)) is h)

one_mark_text : OneBefore (SpellsMany OneToken) Braced
one_mark_text = one_many OneToken Any Braced one_token (λ r u. tt) (λ ts a z p. tt) token_starts

abbrev Coloned : List Lexeme → Type 0
Coloned (sign k.Colon ∷ ts) = Unit {0}
Coloned _ = ⊥

one_mark : OneBefore SpellsMark Coloned
unfolding OneToken
one_mark xs ys a b r s no_mark no_mark e u v = (refl, refl, e)
one_mark xs ys a b r s no_mark (a_mark q) e u v = absurd (subst Coloned e u)
one_mark xs ys a b r s (a_mark p) no_mark e u v = absurd (subst Coloned (sym e) v)
one_mark xs ys a b r s (a_mark {ts = x0} {xs = m} p) (a_mark {ts = y0} {xs = n} q) e u v =
    let inner : Same x0 y0 m n (sign k.CloseBrace ∷ r) (sign k.CloseBrace ∷ s) =
    one_mark_text x0 y0 m n (sign k.CloseBrace ∷ r) (sign k.CloseBrace ∷ s) p q (sym (append_assoc x0 (sign k.CloseBrace ∷ []) r) ∙ second e ∙ append_assoc y0 (sign k.CloseBrace ∷ []) s) tt tt in
    (rw inner.0 refl, rw inner.1 refl, second inner.2)

-- Modes, slices and extensions.

one_mode : OneBefore SpellsMode Any
one_mode xs ys a b r s (a_mode {x = x} {ms = m0} {ds = d0} {es = e0} {gs = g0} {mark = mark} {d = d} {e = f} {g = g} n pm pd pe pg)
    (a_mode {x = y} {ms = m1} {ds = d1} {es = e1} {gs = g1} {mark = mark'} {d = d'} {e = f'} {g = g'} n' qm qd qe qg) e u v =
    let heads : x ≡ y = cc in
    let marks : Same m0 m1 mark mark' (sign k.Colon ∷ ((d0 ++ (e0 ++ (g0 ++ sign k.Semicolon ∷ []))) ++ r)) (sign k.Colon ∷ ((d1 ++ (e1 ++ (g1 ++ sign k.Semicolon ∷ []))) ++ s)) =
    one_mark m0 m1 mark mark' (sign k.Colon ∷ ((d0 ++ (e0 ++ (g0 ++ sign k.Semicolon ∷ []))) ++ r)) (sign k.Colon ∷ ((d1 ++ (e1 ++ (g1 ++ sign k.Semicolon ∷ []))) ++ s)) pm qm
    (sym (regrouped m0 (d0 ++ (e0 ++ (g0 ++ sign k.Semicolon ∷ []))) r (sign k.Colon)) ∙ tails (second e) ∙ regrouped m1 (d1 ++ (e1 ++ (g1 ++ sign k.Semicolon ∷ []))) s (sign k.Colon)) tt tt in
    let moves : Same d0 d1 d d' ((e0 ++ (g0 ++ sign k.Semicolon ∷ [])) ++ r) ((e1 ++ (g1 ++ sign k.Semicolon ∷ [])) ++ s) =
    one_dynamics d0 d1 d d' ((e0 ++ (g0 ++ sign k.Semicolon ∷ [])) ++ r) ((e1 ++ (g1 ++ sign k.Semicolon ∷ [])) ++ s) pd qd
    (sym (append_assoc d0 (e0 ++ (g0 ++ sign k.Semicolon ∷ [])) r) ∙ second marks.2 ∙ append_assoc d1 (e1 ++ (g1 ++ sign k.Semicolon ∷ [])) s) tt tt in
    let effects : Same e0 e1 f f' ((g0 ++ sign k.Semicolon ∷ []) ++ r) ((g1 ++ sign k.Semicolon ∷ []) ++ s) =
    one_effect e0 e1 f f' ((g0 ++ sign k.Semicolon ∷ []) ++ r) ((g1 ++ sign k.Semicolon ∷ []) ++ s) pe qe
    (sym (append_assoc e0 (g0 ++ sign k.Semicolon ∷ []) r) ∙ moves.2 ∙ append_assoc e1 (g1 ++ sign k.Semicolon ∷ []) s) tt tt in
    let guards : Same g0 g1 g g' (sign k.Semicolon ∷ r) (sign k.Semicolon ∷ s) =
    one_guard g0 g1 g g' (sign k.Semicolon ∷ r) (sign k.Semicolon ∷ s) pg qg (sym (append_assoc g0 (sign k.Semicolon ∷ []) r) ∙ effects.2 ∙ append_assoc g1 (sign k.Semicolon ∷ []) s) tt tt in
    (rw (heads, marks.0, moves.0, effects.0, guards.0) refl, rw (heads, marks.1, moves.1, effects.1, guards.1) refl, second guards.2)

-- what does not begin with a word
abbrev Without : Text → List Lexeme → Type 0
Without w [] = Unit {0}
Without w (word x ∷ ts) = same_text x w ≡ false
Without w (num n d ∷ ts) = Unit {0}
Without w (sign s ∷ ts) = Unit {0}

abbrev With : List Lexeme → Type 0
With [] = ⊥
With (word x ∷ ts) = same_text x (codes "WITH") ≡ true
With (num n d ∷ ts) = ⊥
With (sign s ∷ ts) = ⊥

one_start : OneBefore SpellsStart With
one_start xs ys a b r s at_nominal at_nominal e u v = (refl, refl, e)
one_start xs ys a b r s at_nominal at_any e u v = let clash : false ≡ true = subst With e u in cc
one_start xs ys a b r s at_any at_nominal e u v = let clash : false ≡ true = subst With (sym e) v in cc
one_start xs ys a b r s at_any at_any e u v = (refl, refl, second (second e))

mode_starts : (ts : List Lexeme) (m : ModeTree) (z : List Lexeme) → SpellsMode ts m → Without (codes "MODE") (ts ++ z) → ⊥
mode_starts ts m z (a_mode n pm pd pe pg) h = let clash : true ≡ false = h in cc

one_modes : OneBefore (SpellsMany SpellsMode) (Without (codes "MODE"))
one_modes = one_many SpellsMode Any (Without (codes "MODE")) one_mode (λ r u. tt) (λ ts a z p. tt) mode_starts

one_slice : OneBefore SpellsSlice (Without (codes "MODE"))
one_slice xs ys a b r s (a_slice {x = x} {y = t} {ns = n0} {ts = x0} {start = start} {ms = m} nx nt ps some p) (a_slice {x = y} {y = w} {ns = n1} {ts = y0} {start = start'} {ms = l} ny nw qs some' q) e u v =
    let heads : x ≡ y = cc in
    let targets : t ≡ w = cc in
    let starts : Same n0 n1 start start' (word (codes "WITH") ∷ (x0 ++ r)) (word (codes "WITH") ∷ (y0 ++ s)) =
    one_start n0 n1 start start' (word (codes "WITH") ∷ (x0 ++ r)) (word (codes "WITH") ∷ (y0 ++ s)) ps qs
    (sym (regrouped n0 x0 r (word (codes "WITH"))) ∙ tails (second (tails (second e))) ∙ regrouped n1 y0 s (word (codes "WITH"))) refl refl in
    let modes : Same x0 y0 m l r s = one_modes x0 y0 m l r s p q (second starts.2) u v in
    (rw (heads, targets, starts.0, modes.0) refl, rw (heads, targets, starts.1, modes.1) refl, modes.2)

abbrev AfterSlices : List Lexeme → Type 0
AfterSlices r = Without (codes "MODE") r × Without (codes "SLICE") r

slice_goes_on : (ts : List Lexeme) (a : SliceTree) (z : List Lexeme) → SpellsSlice ts a → Without (codes "MODE") (ts ++ z)
slice_goes_on ts a z (a_slice nx nt ps some p) = refl

slice_starts : (ts : List Lexeme) (a : SliceTree) (z : List Lexeme) → SpellsSlice ts a → AfterSlices (ts ++ z) → ⊥
slice_starts ts a z (a_slice nx nt ps some p) h = let clash : true ≡ false = h.1 in cc

one_slices : OneBefore (SpellsMany SpellsSlice) AfterSlices
one_slices = one_many SpellsSlice (Without (codes "MODE")) AfterSlices one_slice (λ r u. u.0) slice_goes_on slice_starts

one_extension : OneBefore SpellsExtension AfterSlices
one_extension xs ys a b r s (an_extension {x = x} {ts = x0} {ss = m} n p) (an_extension {x = y} {ts = y0} {ss = l} n' q) e u v =
    let heads : x ≡ y = cc in
    let inner : Same x0 y0 m l r s = one_slices x0 y0 m l r s p q (tails (second (second (second e)))) u v in
    (rw (heads, inner.0) refl, rw (heads, inner.1) refl, inner.2)

nothing_after : (r : List Lexeme) → Nothing r → AfterSlices r
nothing_after [] u = (tt, tt)
nothing_after (t ∷ ts) u = absurd u

extension_goes_on : (ts : List Lexeme) (a : ExtensionTree) (z : List Lexeme) → SpellsExtension ts a → AfterSlices (ts ++ z)
extension_goes_on ts a z (an_extension n p) = (refl, refl)

extension_starts : (ts : List Lexeme) (a : ExtensionTree) (z : List Lexeme) → SpellsExtension ts a → Nothing (ts ++ z) → ⊥
extension_starts ts a z (an_extension n p) h = h

one_extensions : OneBefore (SpellsMany SpellsExtension) Nothing
one_extensions = one_many SpellsExtension AfterSlices Nothing one_extension nothing_after extension_goes_on extension_starts

no_heading : {ts : List Lexeme} {xs : List ExtensionTree} (us z : List Lexeme) → SpellsMany SpellsExtension ts xs → ts ≡ us → us ≡ word (codes "FAULT") ∷ z → ⊥
no_heading us z no_more e f = cc
no_heading us z (one_more (an_extension n p) pm) e f = words_differ refl (e ∙ f)

one_file : {ts us : List Lexeme} {i j : InstructionTree} → SpellsInstructions ts i → SpellsInstructions us j → ts ≡ us → i ≡ j
one_file {ts} {us} (unnamed {xs = m} p) (unnamed {xs = n} q) e =
    let inner : Same ts us m n [] [] = one_extensions ts us m n [] [] p q (ap (λ z. z ++ []) e) tt tt in rw inner.1 refl
one_file (unnamed p) (named n q) e = absurd (no_heading _ _ p e refl)
one_file (named n p) (unnamed q) e = absurd (no_heading _ _ q (sym e) refl)
one_file (named {x = x} {ts = x0} {xs = m} n p) (named {x = y} {ts = y0} {xs = l} n' q) e =
    let heads : x ≡ y = cc in
    let tails : x0 ≡ y0 = cc in
    let inner : Same x0 y0 m l [] [] = one_extensions x0 y0 m l [] [] p q (ap (λ z. z ++ []) tails) tt tt in
    rw (heads, inner.1) refl

-- no list of tokens spells two lists of instructions
pub one_instructions : (ts : List Lexeme) (i j : InstructionTree) → SpellsInstructions ts i → SpellsInstructions ts j → i ≡ j
one_instructions ts i j p q = one_file p q refl
