-- What is still expected of a symbol after a lexeme, with that lexeme before it, is what the symbol stands for.
use Rattle.std.proofs.Common.{◌≡◌, inl, inr, ◌⊎◌, ℕ, Bool, true, false, List, [], ◌∷◌, ◌++◌, Option, Some, None, refl, sym, ◌∙◌, ap, subst, append_assoc, append-nil}
use Rattle.std.specs.Prelude.{◌||◌, codes, if◌then◌else◌}
use Rattle.std.specs.Option.{option_map}
use Rattle.smv_lexer.specs.declared.token.TokenKind.TheVariants as k
use Rattle.smv_language.specs.Language.{Text, Lexeme, word, num, sign, plain_int, minus_int, no_more, one_more}
use Rattle.fault_instructions.specs.declared.effects.EffectKind.{EffectKind}
use Rattle.fault_instructions.specs.declared.effects.EffectKind.TheVariants as kind
use Rattle.fault_instructions.specs.Effects.{keyword, effect_kinds}
use Rattle.fault_instructions.specs.Instructions.{EffectTree, plain, of_constant, of_expression, of_number, of_numbers, kind_of}
use Rattle.fault_instructions.proofs.EffectRows.{found_passes}
use Rattle.fault_instructions.specs.SpellsInstructions.{IsTokenText, number_text, word_text, sign_of, const_true, const_false, const_int, const_name, SpellsArguments, no_argument, a_constant, an_expression, a_number, two_numbers, an_effect, d_permanent, d_transient, a_guard, SpellsMark, no_mark, a_mark, a_mode, at_any, a_slice, an_extension, unnamed, named}
use Rattle.smv_expression_reader.specs.Recogniser.{role_of, is_whole}
use Rattle.smv_expression_reader.specs.Recogniser as machine
use Rattle.smv_expression_reader.specs.Places.{is_word, text_in}
use Rattle.smv_expression_reader.specs.Marks.{mark_of}
use Rattle.smv_expression_reader.proofs.Rest.{accepted_spelled}
use Rattle.smv_expression_reader.proofs.Marks.{Marked, marked, word_there}
use Rattle.fault_reader.specs.InstructionGrammar.{Sym, is_single, IsMark, IsMode, spelled, expr, after_extensions, after_mark, after_in_mark, after_int, after_constant, effect_in, arguments, after_effect, next, instructions}
use Rattle.fault_reader.specs.InstructionGrammar as s
use Rattle.fault_reader.proofs.Through.{That, one, key, Means_of, Through, where_true, where_word, if_word, live_sound, that}
use Rattle.smv_expression_reader.proofs.Meanings.{last, Leads}
use Rattle.smv_expression_reader.specs.declared.mark.Mark.{Mark}
use Rattle.smv_expression_reader.specs.declared.mark.Mark.TheVariants as marks
use Rattle.fault_reader.specs.declared.symbols.Single.TheVariants as the

-- a lexeme that closes no mark is spelled by its text
token_text : (t : Lexeme) → (mark_of t ≡ marks.CloseBrace → ⊥) → IsTokenText t (text_in t)
token_text (word x) h = word_text
token_text (num n d) h = number_text
token_text (sign s) h = sign_of (λ e. h (ap (λ z. mark_of (sign z)) e))

-- a test of two words
either_word : (t : Lexeme) (v w : List ℕ) → (is_word t v || is_word t w) ≡ true → (t ≡ word v) ⊎ (t ≡ word w)
either_word t v w h = go (is_word t v) refl h
  where
    go : (b : Bool) → is_word t v ≡ b → (b || is_word t w) ≡ true → (t ≡ word v) ⊎ (t ≡ word w)
    go true e h = inl (word_there t v e)
    go false e h = inr (word_there t w h)

sound_extensions : (t : Lexeme) (ts : List Lexeme) → Through (after_extensions t) ts → spelled s.extensions (t ∷ ts)
unfolding That
sound_extensions t ts h =
    let w = where_word t (codes "EXTENSION") (s.keyword (codes "OF") ∷ s.keyword (codes "MODULE") ∷ s.single the.Name ∷ s.slices ∷ s.extensions ∷ []) ts h in
    let a = key (codes "OF") (s.keyword (codes "MODULE") ∷ s.single the.Name ∷ s.slices ∷ s.extensions ∷ []) ts w.1 in
    let b = key (codes "MODULE") (s.single the.Name ∷ s.slices ∷ s.extensions ∷ []) a.0 a.2 in
    let n = one the.Name (s.slices ∷ s.extensions ∷ []) b.0 b.2 in
    let m = n.means in
    let more = last instructions s.extensions m.1 m.4 in
    let name = n.that in
    let e0 = w.0 in let e1 = a.1 in let e2 = b.1 in let e3 = n.whole in let e4 = name.1 in let e5 = m.2 in
    let whole : word (codes "EXTENSION") ∷ word (codes "OF") ∷ word (codes "MODULE") ∷ word name.0 ∷ (m.0 ++ m.1) ≡ t ∷ ts = cc in
    subst (spelled s.extensions) whole (_, one_more (an_extension name.2 m.3.1) more.1)

sound_file : (t : Lexeme) (ts : List Lexeme) → Through (next s.file t) ts → spelled s.file (t ∷ ts)
unfolding That Leads
sound_file t ts h = go (if_word t (codes "FAULT") (Some (s.keyword (codes "EXTENSION") ∷ s.single the.Name ∷ s.extensions ∷ [])) (after_extensions t) ts h)
  where
    go : ((t ≡ word (codes "FAULT")) × Means_of (s.keyword (codes "EXTENSION") ∷ s.single the.Name ∷ s.extensions ∷ []) ts) ⊎ Through (after_extensions t) ts → spelled s.file (t ∷ ts)
    go (inl w) =
        let a = key (codes "EXTENSION") (s.single the.Name ∷ s.extensions ∷ []) ts w.1 in
        let n = one the.Name (s.extensions ∷ []) a.0 a.2 in
        let more = last instructions s.extensions n.rest n.means in
        let name = n.that in
        let e0 = w.0 in let e1 = a.1 in let e2 = n.whole in let e3 = name.1 in
        let whole : word (codes "FAULT") ∷ word (codes "EXTENSION") ∷ word name.0 ∷ n.rest ≡ t ∷ ts = cc in
        subst (spelled s.file) whole (_, named name.2 more.1)
    go (inr w) = let more = sound_extensions t ts w in (_, unnamed more.1)

sound_slices : (t : Lexeme) (ts : List Lexeme) → Through (next s.slices t) ts → spelled s.slices (t ∷ ts)
unfolding That
sound_slices t ts h =
    let w = where_word t (codes "SLICE") (s.single the.Name ∷ s.keyword (codes "AFFECTS") ∷ s.single the.Name ∷ s.slice_start ∷ s.keyword (codes "WITH") ∷ s.mode ∷ s.modes ∷ s.slices ∷ []) ts h in
    let n = one the.Name (s.keyword (codes "AFFECTS") ∷ s.single the.Name ∷ s.slice_start ∷ s.keyword (codes "WITH") ∷ s.mode ∷ s.modes ∷ s.slices ∷ []) ts w.1 in
    let a = key (codes "AFFECTS") (s.single the.Name ∷ s.slice_start ∷ s.keyword (codes "WITH") ∷ s.mode ∷ s.modes ∷ s.slices ∷ []) n.rest n.means in
    let m = one the.Name (s.slice_start ∷ s.keyword (codes "WITH") ∷ s.mode ∷ s.modes ∷ s.slices ∷ []) a.0 a.2 in
    let st = m.means in
    let b = key (codes "WITH") (s.mode ∷ s.modes ∷ s.slices ∷ []) st.1 st.4 in
    let p = b.2 in
    let q = p.4 in
    let more = last instructions s.slices q.1 q.4 in
    let x = n.that in let y = m.that in
    let e0 = w.0 in let e1 = n.whole in let e2 = x.1 in let e3 = a.1 in let e4 = m.whole in let e5 = y.1 in let e6 = b.1 in let e7 = p.2 in let e8 = q.2 in let e9 = st.2 in
    let assoc : (p.0 ++ q.0) ++ q.1 ≡ p.0 ++ (q.0 ++ q.1) = append_assoc p.0 q.0 q.1 in
    let behind : (st.0 ++ word (codes "WITH") ∷ (p.0 ++ q.0)) ++ q.1 ≡ st.0 ++ word (codes "WITH") ∷ ((p.0 ++ q.0) ++ q.1) = append_assoc st.0 (word (codes "WITH") ∷ (p.0 ++ q.0)) q.1 in
    let whole : word (codes "SLICE") ∷ word x.0 ∷ word (codes "AFFECTS") ∷ word y.0 ∷ ((st.0 ++ word (codes "WITH") ∷ (p.0 ++ q.0)) ++ q.1) ≡ t ∷ ts = cc in
    subst (spelled s.slices) whole (_, one_more (a_slice x.2 y.2 st.3.1 (λ e. cc) (one_more p.3.1 q.3.1)) more.1)

sound_slice_start : (t : Lexeme) (ts : List Lexeme) → Through (next s.slice_start t) ts → spelled s.slice_start (t ∷ ts)
sound_slice_start t ts h =
    let w = where_word t (codes "INITIALLY") (s.keyword (codes "ANY") ∷ []) ts h in
    let a = key (codes "ANY") [] ts w.1 in
    let e0 = w.0 in let e1 = a.1 in let e2 : a.0 ≡ [] = a.2 in
    let whole : word (codes "INITIALLY") ∷ word (codes "ANY") ∷ [] ≡ t ∷ ts = cc in
    subst (spelled s.slice_start) whole (_, at_any)

sound_mode : (t : Lexeme) (ts : List Lexeme) → Through (next s.mode t) ts → spelled s.mode (t ∷ ts)
sound_mode t ts h =
    let w = where_word t (codes "MODE") (s.mode_rest ∷ []) ts h in
    subst (λ z. IsMode (z ∷ ts)) (sym w.0) (last instructions s.mode_rest ts w.1)

sound_modes : (t : Lexeme) (ts : List Lexeme) → Through (next s.modes t) ts → spelled s.modes (t ∷ ts)
sound_modes t ts h =
    let w = where_word t (codes "MODE") (s.mode_rest ∷ s.modes ∷ []) ts h in
    let m = w.1 in
    let more = last instructions s.modes m.1 m.4 in
    let e0 = w.0 in let e1 = m.2 in
    let whole : word (codes "MODE") ∷ (m.0 ++ m.1) ≡ t ∷ ts = cc in
    subst (spelled s.modes) whole (_, one_more m.3.1 more.1)

sound_mode_rest : (t : Lexeme) (ts : List Lexeme) → Through (next s.mode_rest t) ts → spelled s.mode_rest (t ∷ ts)
unfolding That
sound_mode_rest t ts h =
    let w = where_true (is_single the.Name (mark_of t)) (s.mark ∷ s.single the.Colon ∷ s.dynamics ∷ s.effect ∷ s.guard ∷ s.single the.Semicolon ∷ []) ts h in
    let x : That the.Name t = that the.Name t w.0 in
    let m = w.1 in
    let c = one the.Colon (s.dynamics ∷ s.effect ∷ s.guard ∷ s.single the.Semicolon ∷ []) m.1 m.4 in
    let d = c.means in
    let e = d.4 in
    let g = e.4 in
    let z = one the.Semicolon [] g.1 g.4 in
    let e0 = x.1 in let e1 = m.2 in let e2 = c.whole in let e3 : c.lexeme ≡ sign k.Colon = c.that in let e4 = d.2 in let e5 = e.2 in let e6 = g.2 in let e7 = z.whole in
    let e8 : z.lexeme ≡ sign k.Semicolon = z.that in let e9 : z.rest ≡ [] = z.means in
    let whole : word (codes "MODE") ∷ word x.0 ∷ (m.0 ++ sign k.Colon ∷ (d.0 ++ (e.0 ++ (g.0 ++ sign k.Semicolon ∷ [])))) ≡ word (codes "MODE") ∷ t ∷ ts = cc in
    subst IsMode whole (_, a_mode x.2 m.3.1 d.3.1 e.3.1 g.3.1)

sound_mark : (c : Mark) (t : Lexeme) (ts : List Lexeme) → Marked c t → Through (after_mark c) ts → IsMark (t ∷ ts)
unfolding Marked Leads
sound_mark marks.OpenBrace t ts m h = subst (λ z. IsMark (z ∷ ts)) (sym m) (last instructions s.in_mark ts h)
sound_mark c t ts m h = absurd h

-- a mark with one token more
mark_more : (us : List Lexeme) (m : Option (List Text)) (t : Lexeme) (ts : List Lexeme) → SpellsMark us m → us ≡ sign k.OpenBrace ∷ ts → (mark_of t ≡ marks.CloseBrace → ⊥) → IsMark (sign k.OpenBrace ∷ t ∷ ts)
mark_more us m t ts no_mark e h = cc
mark_more us m t ts (a_mark {ts = xs} {xs = names} many) e h =
    let rest : xs ++ sign k.CloseBrace ∷ [] ≡ ts = cc in
    (Some (text_in t ∷ names), subst (λ z. SpellsMark (sign k.OpenBrace ∷ t ∷ z) (Some (text_in t ∷ names))) rest (a_mark (one_more {ts = t ∷ []} (t, refl, token_text t h) many)))

closing : (c : Mark) (t : Lexeme) (ts : List Lexeme) → mark_of t ≡ c → Marked c t → Through (after_in_mark c) ts → IsMark (sign k.OpenBrace ∷ t ∷ ts)
unfolding Marked Leads
closing marks.CloseBrace t ts e m h =
    let whole : sign k.OpenBrace ∷ sign k.CloseBrace ∷ [] ≡ sign k.OpenBrace ∷ t ∷ ts = cc in
    subst IsMark whole (Some [], a_mark {ts = []} no_more)
closing c t ts e m h = let d = last instructions s.in_mark ts h in mark_more (sign k.OpenBrace ∷ ts) d.0 t ts d.1 refl (λ f. cc)

sound_dynamics : (t : Lexeme) (ts : List Lexeme) → Through (next s.dynamics t) ts → spelled s.dynamics (t ∷ ts)
sound_dynamics t ts h =
    let w = where_true (is_word t (codes "Permanent") || is_word t (codes "Transient")) [] ts h in
    let end : ts ≡ [] = w.1 in
    go (either_word t (codes "Permanent") (codes "Transient") w.0) end
  where
    go : (t ≡ word (codes "Permanent")) ⊎ (t ≡ word (codes "Transient")) → ts ≡ [] → spelled s.dynamics (t ∷ ts)
    go (inl e) f = let whole : word (codes "Permanent") ∷ [] ≡ t ∷ ts = cc in subst (spelled s.dynamics) whole (_, d_permanent)
    go (inr e) f = let whole : word (codes "Transient") ∷ [] ≡ t ∷ ts = cc in subst (spelled s.dynamics) whole (_, d_transient)

sound_int : (c : Mark) (t : Lexeme) (ts : List Lexeme) → Marked c t → Through (after_int c) ts → spelled s.int (t ∷ ts)
unfolding Marked Leads That
sound_int marks.Number t ts m h = let e = m.2 in let whole : num m.0 m.1 ∷ [] ≡ t ∷ ts = cc in subst (spelled s.int) whole (_, plain_int)
sound_int marks.Minus t ts m h =
    let n = one the.Number [] ts h in
    let d = n.that in
    let e0 = n.whole in let e1 = d.2 in let e2 : n.rest ≡ [] = n.means in
    let whole : sign k.Minus ∷ num d.0 d.1 ∷ [] ≡ t ∷ ts = cc in
    subst (spelled s.int) whole (_, minus_int)
sound_int c t ts m h = absurd h

sound_constant : (c : Mark) (t : Lexeme) (ts : List Lexeme) → Marked c t → Through (after_constant c) ts → spelled s.constant (t ∷ ts)
unfolding Marked Leads
sound_constant marks.Name t ts m h = let e = m.1 in let whole : word m.0 ∷ [] ≡ t ∷ ts = cc in subst (spelled s.constant) whole (_, const_name m.2)
sound_constant c t ts m h = let n = sound_int c t ts m h in (_, const_int n.1)

sound_first_constant : (t : Lexeme) (ts : List Lexeme) → Through (next s.constant t) ts → spelled s.constant (t ∷ ts)
unfolding Leads
sound_first_constant t ts h = go (is_word t (codes "TRUE") || is_word t (codes "FALSE")) refl h
  where
    truth_value : (t ≡ word (codes "TRUE")) ⊎ (t ≡ word (codes "FALSE")) → ts ≡ [] → spelled s.constant (t ∷ ts)
    truth_value (inl e) f = let whole : word (codes "TRUE") ∷ [] ≡ t ∷ ts = cc in subst (spelled s.constant) whole (_, const_true)
    truth_value (inr e) f = let whole : word (codes "FALSE") ∷ [] ≡ t ∷ ts = cc in subst (spelled s.constant) whole (_, const_false)

    go : (b : Bool) → (is_word t (codes "TRUE") || is_word t (codes "FALSE")) ≡ b → Through (if b then Some [] else after_constant (mark_of t)) ts → spelled s.constant (t ∷ ts)
    go true e h = truth_value (either_word t (codes "TRUE") (codes "FALSE") e) h
    go false e h = sound_constant (mark_of t) t ts (marked t) h

-- effects
sound_arguments : (k : EffectKind) (ts : List Lexeme) → Means_of (arguments k) ts → (e : EffectTree) × (kind_of e ≡ k) × SpellsArguments ts e
unfolding That
sound_arguments (kind.Plain of) ts h = (plain of, refl, subst (λ z. SpellsArguments z (plain of)) (sym h) no_argument)
sound_arguments (kind.OfConstant of) ts h =
    let o = one the.Open (s.constant ∷ s.single the.Close ∷ []) ts h in
    let m = o.means in
    let c = one the.Close [] m.1 m.4 in
    let e1 = o.whole in let e2 : o.lexeme ≡ sign k.Open = o.that in let e3 = m.2 in let e4 = c.whole in let e5 : c.lexeme ≡ sign k.Close = c.that in let e6 : c.rest ≡ [] = c.means in
    let whole : sign k.Open ∷ (m.0 ++ sign k.Close ∷ []) ≡ ts = cc in
    (_, refl, subst (λ z. SpellsArguments z (of_constant of m.3.0)) whole (a_constant m.3.1))
sound_arguments (kind.OfExpression of) ts h =
    let o = one the.Open (expr ∷ s.single the.Close ∷ []) ts h in
    let m = o.means in
    let c = one the.Close [] m.1 m.4 in
    let e1 = o.whole in let e2 : o.lexeme ≡ sign k.Open = o.that in let e3 = m.2 in let e4 = c.whole in let e5 : c.lexeme ≡ sign k.Close = c.that in let e6 : c.rest ≡ [] = c.means in
    let whole : sign k.Open ∷ (m.0 ++ sign k.Close ∷ []) ≡ ts = cc in
    let made = accepted_spelled m.0 m.3 in
    (_, refl, subst (λ z. SpellsArguments z (of_expression of made.0)) whole (an_expression made.1))
sound_arguments (kind.OfNumber of) ts h =
    let o = one the.Open (s.int ∷ s.single the.Close ∷ []) ts h in
    let m = o.means in
    let c = one the.Close [] m.1 m.4 in
    let e1 = o.whole in let e2 : o.lexeme ≡ sign k.Open = o.that in let e3 = m.2 in let e4 = c.whole in let e5 : c.lexeme ≡ sign k.Close = c.that in let e6 : c.rest ≡ [] = c.means in
    let whole : sign k.Open ∷ (m.0 ++ sign k.Close ∷ []) ≡ ts = cc in
    (_, refl, subst (λ z. SpellsArguments z (of_number of m.3.0)) whole (a_number m.3.1))
sound_arguments (kind.OfNumbers of) ts h =
    let o = one the.Open (s.int ∷ s.single the.Comma ∷ s.int ∷ s.single the.Close ∷ []) ts h in
    let m = o.means in
    let q = one the.Comma (s.int ∷ s.single the.Close ∷ []) m.1 m.4 in
    let n = q.means in
    let c = one the.Close [] n.1 n.4 in
    let e1 = o.whole in let e2 : o.lexeme ≡ sign k.Open = o.that in let e3 = m.2 in let e4 = q.whole in let e5 : q.lexeme ≡ sign k.Comma = q.that in
    let e6 = n.2 in let e7 = c.whole in let e8 : c.lexeme ≡ sign k.Close = c.that in let e9 : c.rest ≡ [] = c.means in
    let whole : sign k.Open ∷ (m.0 ++ sign k.Comma ∷ (n.0 ++ sign k.Close ∷ [])) ≡ ts = cc in
    (_, refl, subst (λ z. SpellsArguments z (of_numbers of m.3.0 n.3.0)) whole (two_numbers m.3.1 n.3.1))

sound_kind : (k : EffectKind) (t : Lexeme) (ts : List Lexeme) → is_word t (keyword k) ≡ true → Means_of (arguments k) ts → spelled s.effect (t ∷ ts)
sound_kind k t ts e h =
    let made = sound_arguments k ts h in
    let whole : word (keyword (kind_of made.0)) ∷ ts ≡ t ∷ ts = ap (λ z. word (keyword z) ∷ ts) made.1 ∙ ap (λ z. z ∷ ts) (sym (word_there t (keyword k) e)) in
    subst (spelled s.effect) whole (made.0, an_effect made.2)

effect_through : (o : Option EffectKind) (t : Lexeme) (ts : List Lexeme) → effect_in t ≡ o → Through (option_map arguments o) ts → spelled s.effect (t ∷ ts)
unfolding Leads
effect_through None t ts e h = absurd h
effect_through (Some k) t ts e h = sound_kind k t ts (found_passes (λ w. is_word t w) effect_kinds k e) h

sound_effect : (t : Lexeme) (ts : List Lexeme) → Through (after_effect t) ts → spelled s.effect (t ∷ ts)
sound_effect t ts h = effect_through (effect_in t) t ts refl h

sound_guard : (t : Lexeme) (ts : List Lexeme) → Through (next s.guard t) ts → spelled s.guard (t ∷ ts)
sound_guard t ts h =
    let w = where_word t (codes "WHEN") (expr ∷ []) ts h in
    let made = accepted_spelled ts (last instructions expr ts w.1) in
    subst (λ z. spelled s.guard (z ∷ ts)) (sym w.0) (_, a_guard made.1)

-- every symbol
pub sounds : (x : Sym) (t : Lexeme) (ts : List Lexeme) → Through (next x t) ts → spelled x (t ∷ ts)
sounds (s.single w) t ts h = let both = where_true (is_single w (mark_of t)) [] ts h in (t, ap (λ z. t ∷ z) both.1, both.0)
sounds (s.keyword w) t ts h = let both = where_word t w [] ts h in let e0 = both.0 in let e1 : ts ≡ [] = both.1 in cc
sounds (s.formula st q) t ts h =
    let parts = live_sound (machine.step st (role_of t)) [] ts h in
    subst (λ z. is_whole (machine.run (machine.step st (role_of t)) z) ≡ true) (sym (parts.2 ∙ ap (λ z. parts.0 ++ z) parts.4 ∙ append-nil parts.0)) parts.3
sounds s.file t ts h = sound_file t ts h
sounds s.extensions t ts h = sound_extensions t ts h
sounds s.slices t ts h = sound_slices t ts h
sounds s.slice_start t ts h = sound_slice_start t ts h
sounds s.mode t ts h = sound_mode t ts h
sounds s.modes t ts h = sound_modes t ts h
sounds s.mode_rest t ts h = sound_mode_rest t ts h
sounds s.mark t ts h = sound_mark (mark_of t) t ts (marked t) h
sounds s.in_mark t ts h = closing (mark_of t) t ts refl (marked t) h
sounds s.dynamics t ts h = sound_dynamics t ts h
sounds s.effect t ts h = sound_effect t ts h
sounds s.constant t ts h = sound_first_constant t ts h
sounds s.int t ts h = sound_int (mark_of t) t ts (marked t) h
sounds s.guard t ts h = sound_guard t ts h
