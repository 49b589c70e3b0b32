-- What a symbol stands for begins with a lexeme that it goes on with, and what is then expected stands behind it.
use Rattle.std.proofs.Common.{◌≡◌, ◌≢◌, ℕ, ℤ, false, List, [], ◌∷◌, ◌++◌, Option, Some, refl, sym, ◌∙◌, ap, subst, append_assoc, append-nil}
use Rattle.std.specs.Prelude.{codes}
use Rattle.std.specs.Option.{option_map}
use Rattle.smv_lexer.specs.declared.token.TokenKind.TheVariants as k
use Rattle.smv_language.specs.Language.{Text, Formula, Value, Lexeme, word, num, sign, is_reserved, SpellsInt, plain_int, minus_int, SpellsMany, no_more, one_more}
use Rattle.fault_instructions.specs.declared.instructions.Dynamics.{Dynamics}
use Rattle.fault_instructions.specs.declared.instructions.Start.{Start}
use Rattle.fault_instructions.specs.Effects.{keyword}
use Rattle.fault_instructions.proofs.EffectRows.{keyword_finds}
use Rattle.fault_instructions.specs.Instructions.{EffectTree, kind_of, ModeTree, SliceTree, ExtensionTree, InstructionTree}
use Rattle.fault_instructions.specs.SpellsInstructions.{SpellsConst, const_true, const_false, const_int, const_name, SpellsArguments, no_argument, a_constant, an_expression, a_number, two_numbers, SpellsEffect, an_effect, SpellsDynamics, d_permanent, d_transient, SpellsGuard, no_guard, a_guard, IsTokenText, number_text, word_text, sign_of, SpellsMark, no_mark, a_mark, SpellsMode, a_mode, SpellsStart, at_nominal, at_any, SpellsSlice, a_slice, SpellsExtension, an_extension, SpellsInstructions, unnamed, named}
use Rattle.smv_expression_reader.specs.Recogniser.{role_of}
use Rattle.smv_expression_reader.specs.Recogniser as machine
use Rattle.smv_expression_reader.specs.Places.{is_word}
use Rattle.smv_expression_reader.specs.Marks.{mark_of}
use Rattle.smv_expression_reader.proofs.Accepted.{spelled_accepted}
use Rattle.smv_expression_reader.proofs.Marks.{Marked, marked, mark_of_name}
use Rattle.smv_language.proofs.OneTree.{is_none_of}
use Rattle.fault_reader.specs.InstructionGrammar.{Sym, is_single, IsMark, IsMode, spelled, expr, after_extensions, after_in_mark, after_constant, arguments, next, instructions}
use Rattle.fault_reader.specs.InstructionGrammar as s
use Rattle.fault_reader.proofs.Through.{That, as_one, as_key, as_other, is_that, is_the_word, Means_of, Through, true_where, live_complete}
use Rattle.smv_expression_reader.proofs.Meanings.{as_last, Leads, some_leads}
use Rattle.smv_expression_reader.specs.declared.mark.Mark.{Mark}
use Rattle.smv_expression_reader.specs.declared.mark.Mark.TheVariants as marks
use Rattle.fault_reader.specs.declared.symbols.Single.TheVariants as the

complete_extensions : (us : List Lexeme) (xs : List ExtensionTree) (t : Lexeme) (ts : List Lexeme) → SpellsMany SpellsExtension us xs → us ≡ t ∷ ts → Through (after_extensions t) ts
unfolding Leads That
complete_extensions us xs t ts no_more e = cc
complete_extensions us xs t ts (one_more {us = ys} (an_extension {x = x} {ts = bs} n q) more) e =
    let head : word (codes "EXTENSION") ≡ t = cc in
    let rest : word (codes "OF") ∷ word (codes "MODULE") ∷ word x ∷ (bs ++ ys) ≡ ts = cc in
    let means : Means_of (s.keyword (codes "OF") ∷ s.keyword (codes "MODULE") ∷ s.single the.Name ∷ s.slices ∷ s.extensions ∷ []) (word (codes "OF") ∷ word (codes "MODULE") ∷ word x ∷ (bs ++ ys)) =
    as_key (codes "OF") (s.keyword (codes "MODULE") ∷ s.single the.Name ∷ s.slices ∷ s.extensions ∷ []) (word (codes "MODULE") ∷ word x ∷ (bs ++ ys))
    (as_key (codes "MODULE") (s.single the.Name ∷ s.slices ∷ s.extensions ∷ []) (word x ∷ (bs ++ ys))
    (as_one the.Name (s.slices ∷ s.extensions ∷ []) (word x) (bs ++ ys) (x, refl, n)
    (as_other s.slices (s.extensions ∷ []) bs ys (_, q) (as_last instructions s.extensions ys (_, more))))) in
    subst (λ z. Through (after_extensions z) ts) head
    (subst (Means_of (s.keyword (codes "OF") ∷ s.keyword (codes "MODULE") ∷ s.single the.Name ∷ s.slices ∷ s.extensions ∷ [])) rest means)

extension_first : (us : List Lexeme) (xs : List ExtensionTree) (t : Lexeme) (ts : List Lexeme) → SpellsMany SpellsExtension us xs → us ≡ t ∷ ts → word (codes "EXTENSION") ≡ t
extension_first us xs t ts no_more e = cc
extension_first us xs t ts (one_more (an_extension n q) more) e = cc

complete_file : (us : List Lexeme) (i : InstructionTree) (t : Lexeme) (ts : List Lexeme) → SpellsInstructions us i → us ≡ t ∷ ts → Through (next s.file t) ts
unfolding Leads That
complete_file us i t ts (unnamed {xs = xs} more) e =
    let head = extension_first us xs t ts more e in
    let first : Through (after_extensions (word (codes "EXTENSION"))) ts = subst (λ z. Through (after_extensions z) ts) (sym head) (complete_extensions us xs t ts more e) in
    subst (λ z. Through (next s.file z) ts) head first
complete_file us i t ts (named {x = x} {ts = bs} n more) e =
    let head : word (codes "FAULT") ≡ t = cc in
    let rest : word (codes "EXTENSION") ∷ word x ∷ bs ≡ ts = cc in
    let means : Means_of (s.keyword (codes "EXTENSION") ∷ s.single the.Name ∷ s.extensions ∷ []) (word (codes "EXTENSION") ∷ word x ∷ bs) =
    as_key (codes "EXTENSION") (s.single the.Name ∷ s.extensions ∷ []) (word x ∷ bs) (as_one the.Name (s.extensions ∷ []) (word x) bs (x, refl, n) (as_last instructions s.extensions bs (_, more))) in
    subst (λ z. Through (next s.file z) ts) head (subst (Means_of (s.keyword (codes "EXTENSION") ∷ s.single the.Name ∷ s.extensions ∷ [])) rest means)

-- the modes of a slice: one, and further ones
some_modes : (bs : List Lexeme) (ms : List ModeTree) (ys : List Lexeme) → ms ≢ [] → SpellsMany SpellsMode bs ms → Means_of (s.slices ∷ []) ys → Means_of (s.mode ∷ s.modes ∷ s.slices ∷ []) (bs ++ ys)
some_modes bs ms ys some no_more more = absurd (some refl)
some_modes bs ms ys some (one_more {ts = cs} {us = ds} p r) more =
    subst (Means_of (s.mode ∷ s.modes ∷ s.slices ∷ [])) (sym (append_assoc cs ds ys))
    (as_other s.mode (s.modes ∷ s.slices ∷ []) cs (ds ++ ys) (_, p) (as_other s.modes (s.slices ∷ []) ds ys (_, r) more))

complete_slices : (us : List Lexeme) (xs : List SliceTree) (t : Lexeme) (ts : List Lexeme) → SpellsMany SpellsSlice us xs → us ≡ t ∷ ts → Through (next s.slices t) ts
unfolding Leads That
complete_slices us xs t ts no_more e = cc
complete_slices us xs t ts (one_more {us = ys} (a_slice {x = x} {y = y} {ns = ns} {ts = bs} {ms = ms} n m st some q) more) e =
    let head : word (codes "SLICE") ≡ t = cc in
    let rest : word x ∷ word (codes "AFFECTS") ∷ word y ∷ ((ns ++ word (codes "WITH") ∷ bs) ++ ys) ≡ ts = cc in
    let starts : Means_of (s.slice_start ∷ s.keyword (codes "WITH") ∷ s.mode ∷ s.modes ∷ s.slices ∷ []) ((ns ++ word (codes "WITH") ∷ bs) ++ ys) =
    subst (Means_of (s.slice_start ∷ s.keyword (codes "WITH") ∷ s.mode ∷ s.modes ∷ s.slices ∷ [])) (sym (append_assoc ns (word (codes "WITH") ∷ bs) ys))
    (as_other s.slice_start (s.keyword (codes "WITH") ∷ s.mode ∷ s.modes ∷ s.slices ∷ []) ns (word (codes "WITH") ∷ (bs ++ ys)) (_, st)
    (as_key (codes "WITH") (s.mode ∷ s.modes ∷ s.slices ∷ []) (bs ++ ys) (some_modes bs ms ys some q (as_last instructions s.slices ys (_, more))))) in
    let means : Means_of (s.single the.Name ∷ s.keyword (codes "AFFECTS") ∷ s.single the.Name ∷ s.slice_start ∷ s.keyword (codes "WITH") ∷ s.mode ∷ s.modes ∷ s.slices ∷ [])
    (word x ∷ word (codes "AFFECTS") ∷ word y ∷ ((ns ++ word (codes "WITH") ∷ bs) ++ ys)) =
    as_one the.Name (s.keyword (codes "AFFECTS") ∷ s.single the.Name ∷ s.slice_start ∷ s.keyword (codes "WITH") ∷ s.mode ∷ s.modes ∷ s.slices ∷ []) (word x)
    (word (codes "AFFECTS") ∷ word y ∷ ((ns ++ word (codes "WITH") ∷ bs) ++ ys)) (x, refl, n)
    (as_key (codes "AFFECTS") (s.single the.Name ∷ s.slice_start ∷ s.keyword (codes "WITH") ∷ s.mode ∷ s.modes ∷ s.slices ∷ []) (word y ∷ ((ns ++ word (codes "WITH") ∷ bs) ++ ys))
    (as_one the.Name (s.slice_start ∷ s.keyword (codes "WITH") ∷ s.mode ∷ s.modes ∷ s.slices ∷ []) (word y) ((ns ++ word (codes "WITH") ∷ bs) ++ ys) (y, refl, m) starts)) in
    subst (λ z. Through (next s.slices z) ts) head
    (subst (Means_of (s.single the.Name ∷ s.keyword (codes "AFFECTS") ∷ s.single the.Name ∷ s.slice_start ∷ s.keyword (codes "WITH") ∷ s.mode ∷ s.modes ∷ s.slices ∷ [])) rest means)

complete_slice_start : (us : List Lexeme) (st : Start) (t : Lexeme) (ts : List Lexeme) → SpellsStart us st → us ≡ t ∷ ts → Through (next s.slice_start t) ts
unfolding Leads
complete_slice_start us st t ts at_nominal e = cc
complete_slice_start us st t ts at_any e =
    let head : word (codes "INITIALLY") ≡ t = cc in
    let rest : word (codes "ANY") ∷ [] ≡ ts = cc in
    subst (λ z. Through (next s.slice_start z) ts) head (subst (Means_of (s.keyword (codes "ANY") ∷ [])) rest (as_key (codes "ANY") [] [] refl))

mode_first : (us : List Lexeme) (m : ModeTree) (ws : List Lexeme) (t : Lexeme) (ts : List Lexeme) → SpellsMode us m → us ++ ws ≡ t ∷ ts → (word (codes "MODE") ≡ t) × ((rest : List Lexeme) × (us ≡ word (codes "MODE") ∷ rest) × (rest ++ ws ≡ ts))
mode_first us m ws t ts (a_mode n pm pd pe pg) e = (cc, (_, refl, cc))

complete_mode : (t : Lexeme) (ts : List Lexeme) → IsMode (t ∷ ts) → Through (next s.mode t) ts
unfolding Leads
complete_mode t ts m =
    let first = mode_first (t ∷ ts) m.0 [] t ts m.1 (append-nil (t ∷ ts)) in
    let head = first.0 in
    subst (λ z. Through (next s.mode z) ts) head (as_last instructions s.mode_rest ts (subst (λ z. IsMode (z ∷ ts)) (sym head) m))

complete_modes : (us : List Lexeme) (ms : List ModeTree) (t : Lexeme) (ts : List Lexeme) → SpellsMany SpellsMode us ms → us ≡ t ∷ ts → Through (next s.modes t) ts
unfolding Leads
complete_modes us ms t ts no_more e = cc
complete_modes us ms t ts (one_more {ts = cs} {us = ds} {a = m} p more) e =
    let first = mode_first cs m ds t ts p e in
    let inside = first.1.0 in
    let means : Means_of (s.mode_rest ∷ s.modes ∷ []) (inside ++ ds) =
    as_other s.mode_rest (s.modes ∷ []) inside ds (m, subst (λ z. SpellsMode z m) first.1.1 p) (as_last instructions s.modes ds (_, more)) in
    subst (λ z. Through (next s.modes z) ts) first.0 (subst (Means_of (s.mode_rest ∷ s.modes ∷ [])) first.1.2 means)

abbrev in_mode : List Sym
in_mode = s.mark ∷ s.single the.Colon ∷ s.dynamics ∷ s.effect ∷ s.guard ∷ s.single the.Semicolon ∷ []

complete_mode_rest : (us : List Lexeme) (m : ModeTree) (t : Lexeme) (ts : List Lexeme) → SpellsMode us m → us ≡ word (codes "MODE") ∷ t ∷ ts → Through (next s.mode_rest t) ts
unfolding That
complete_mode_rest us m t ts (a_mode {x = x} {ms = ms} {ds = ds} {es = es} {gs = gs} n pm pd pe pg) e =
    let head : word x ≡ t = cc in
    let rest : ms ++ sign k.Colon ∷ (ds ++ (es ++ (gs ++ sign k.Semicolon ∷ []))) ≡ ts = cc in
    let means : Means_of in_mode (ms ++ sign k.Colon ∷ (ds ++ (es ++ (gs ++ sign k.Semicolon ∷ [])))) =
    as_other s.mark (s.single the.Colon ∷ s.dynamics ∷ s.effect ∷ s.guard ∷ s.single the.Semicolon ∷ []) ms (sign k.Colon ∷ (ds ++ (es ++ (gs ++ sign k.Semicolon ∷ [])))) (_, pm)
    (as_one the.Colon (s.dynamics ∷ s.effect ∷ s.guard ∷ s.single the.Semicolon ∷ []) (sign k.Colon) (ds ++ (es ++ (gs ++ sign k.Semicolon ∷ []))) refl
    (as_other s.dynamics (s.effect ∷ s.guard ∷ s.single the.Semicolon ∷ []) ds (es ++ (gs ++ sign k.Semicolon ∷ [])) (_, pd)
    (as_other s.effect (s.guard ∷ s.single the.Semicolon ∷ []) es (gs ++ sign k.Semicolon ∷ []) (_, pe)
    (as_other s.guard (s.single the.Semicolon ∷ []) gs (sign k.Semicolon ∷ []) (_, pg)
    (as_one the.Semicolon [] (sign k.Semicolon) [] refl refl))))) in
    subst (λ z. Through (next s.mode_rest z) ts) head
    (true_where (is_single the.Name (mark_of (word x))) in_mode ts (is_that the.Name (word x) (x, refl, n)) (subst (Means_of in_mode) rest means))

mark_first : (us : List Lexeme) (m : Option (List Text)) (t : Lexeme) (ts : List Lexeme) → SpellsMark us m → us ≡ t ∷ ts → sign k.OpenBrace ≡ t
mark_first us m t ts no_mark e = cc
mark_first us m t ts (a_mark many) e = cc

complete_mark : (t : Lexeme) (ts : List Lexeme) → IsMark (t ∷ ts) → Through (next s.mark t) ts
unfolding Leads
complete_mark t ts m =
    let head = mark_first (t ∷ ts) m.0 t ts m.1 refl in
    subst (λ z. Through (next s.mark z) ts) head (as_last instructions s.in_mark ts (subst (λ z. IsMark (z ∷ ts)) (sym head) m))

-- a token of a mark goes on inside
inside_mark : (c : Mark) (t : Lexeme) → Marked c t → (t ≡ sign k.CloseBrace → ⊥) → after_in_mark c ≡ Some (s.in_mark ∷ [])
unfolding Marked
inside_mark marks.CloseBrace t m h = absurd (h m)
inside_mark c t m h = refl

token_goes_on : (t : Lexeme) (x : Text) → IsTokenText t x → after_in_mark (mark_of t) ≡ Some (s.in_mark ∷ [])
token_goes_on t x number_text = refl
token_goes_on t x word_text = inside_mark (mark_of t) t (marked t) (λ e. cc)
token_goes_on t x (sign_of h) = inside_mark (mark_of t) t (marked t) (λ e. h (cc))

complete_in_mark : (us : List Lexeme) (m : Option (List Text)) (t : Lexeme) (ts : List Lexeme) → SpellsMark us m → us ≡ sign k.OpenBrace ∷ t ∷ ts → Through (next s.in_mark t) ts
unfolding Leads
complete_in_mark us m t ts no_mark e = cc
complete_in_mark us m t ts (a_mark no_more) e =
    let head : sign k.CloseBrace ≡ t = cc in
    let rest : ts ≡ [] = cc in
    subst (λ z. Through (next s.in_mark z) ts) head rest
complete_in_mark us m t ts (a_mark (one_more {ts = cs} {us = ds} {a = x} p more)) e =
    let first : cs ≡ p.0 ∷ [] = p.1 in
    let head : p.0 ≡ t = cc in
    let rest : ds ++ sign k.CloseBrace ∷ [] ≡ ts = cc in
    some_leads instructions (next s.in_mark t) (s.in_mark ∷ []) ts (ap (λ z. after_in_mark (mark_of z)) (sym head) ∙ token_goes_on p.0 x p.2)
    (as_last instructions s.in_mark ts (subst (λ z. IsMark (sign k.OpenBrace ∷ z)) rest (_, a_mark more)))

complete_dynamics : (us : List Lexeme) (d : Dynamics) (t : Lexeme) (ts : List Lexeme) → SpellsDynamics us d → us ≡ t ∷ ts → Through (next s.dynamics t) ts
unfolding Leads
complete_dynamics us d t ts d_permanent e = let head : word (codes "Permanent") ≡ t = cc in let rest : ts ≡ [] = cc in subst (λ z. Through (next s.dynamics z) ts) head rest
complete_dynamics us d t ts d_transient e = let head : word (codes "Transient") ≡ t = cc in let rest : ts ≡ [] = cc in subst (λ z. Through (next s.dynamics z) ts) head rest

complete_int : (us : List Lexeme) (n : ℤ) (t : Lexeme) (ts : List Lexeme) → SpellsInt us n → us ≡ t ∷ ts → Through (next s.int t) ts
unfolding Leads That
complete_int us n t ts (plain_int {n = v} {d = d}) e = let head : num v d ≡ t = cc in let rest : ts ≡ [] = cc in subst (λ z. Through (next s.int z) ts) head rest
complete_int us n t ts (minus_int {n = v} {d = d}) e =
    let head : sign k.Minus ≡ t = cc in
    let rest : num v d ∷ [] ≡ ts = cc in
    let means : Means_of (s.single the.Number ∷ []) (num v d ∷ []) = as_one the.Number [] (num v d) [] (v, d, refl) refl in
    subst (λ z. Through (next s.int z) ts) head (subst (Means_of (s.single the.Number ∷ [])) rest means)

complete_int_constant : (us : List Lexeme) (n : ℤ) (t : Lexeme) (ts : List Lexeme) → SpellsInt us n → us ≡ t ∷ ts → Through (next s.constant t) ts
unfolding Leads That
complete_int_constant us n t ts (plain_int {n = v} {d = d}) e = let head : num v d ≡ t = cc in let rest : ts ≡ [] = cc in subst (λ z. Through (next s.constant z) ts) head rest
complete_int_constant us n t ts (minus_int {n = v} {d = d}) e =
    let head : sign k.Minus ≡ t = cc in
    let rest : num v d ∷ [] ≡ ts = cc in
    let means : Means_of (s.single the.Number ∷ []) (num v d ∷ []) = as_one the.Number [] (num v d) [] (v, d, refl) refl in
    subst (λ z. Through (next s.constant z) ts) head (subst (Means_of (s.single the.Number ∷ [])) rest means)

name_constant : (x : Text) → is_reserved x ≡ false → next s.constant (word x) ≡ Some []
name_constant x n = rw (is_none_of x (codes "TRUE") refl n, is_none_of x (codes "FALSE") refl n) (ap after_constant (mark_of_name x n))

complete_constant : (us : List Lexeme) (c : Value) (t : Lexeme) (ts : List Lexeme) → SpellsConst us c → us ≡ t ∷ ts → Through (next s.constant t) ts
unfolding Leads
complete_constant us c t ts const_true e = let head : word (codes "TRUE") ≡ t = cc in let rest : ts ≡ [] = cc in subst (λ z. Through (next s.constant z) ts) head rest
complete_constant us c t ts const_false e = let head : word (codes "FALSE") ≡ t = cc in let rest : ts ≡ [] = cc in subst (λ z. Through (next s.constant z) ts) head rest
complete_constant us c t ts (const_int {n = n} p) e = complete_int_constant us n t ts p e
complete_constant us c t ts (const_name {x = x} n) e =
    let head : word x ≡ t = cc in
    let rest : ts ≡ [] = cc in
    some_leads instructions (next s.constant t) [] ts (ap (next s.constant) (sym head) ∙ name_constant x n) rest

-- a word with something in parentheses
in_parentheses : (x : Sym) (us : List Lexeme) → spelled x us → Means_of (s.single the.Open ∷ x ∷ s.single the.Close ∷ []) (sign k.Open ∷ (us ++ sign k.Close ∷ []))
unfolding That
in_parentheses x us d =
    as_one the.Open (x ∷ s.single the.Close ∷ []) (sign k.Open) (us ++ sign k.Close ∷ []) refl
    (as_other x (s.single the.Close ∷ []) us (sign k.Close ∷ []) d (as_one the.Close [] (sign k.Close) [] refl refl))

numbers_in_parentheses : (xs ys : List Lexeme) → spelled s.int xs → spelled s.int ys →
    Means_of (s.single the.Open ∷ s.int ∷ s.single the.Comma ∷ s.int ∷ s.single the.Close ∷ []) (sign k.Open ∷ (xs ++ sign k.Comma ∷ (ys ++ sign k.Close ∷ [])))
unfolding That
numbers_in_parentheses xs ys d f =
    as_one the.Open (s.int ∷ s.single the.Comma ∷ s.int ∷ s.single the.Close ∷ []) (sign k.Open) (xs ++ sign k.Comma ∷ (ys ++ sign k.Close ∷ [])) refl
    (as_other s.int (s.single the.Comma ∷ s.int ∷ s.single the.Close ∷ []) xs (sign k.Comma ∷ (ys ++ sign k.Close ∷ [])) d
    (as_one the.Comma (s.int ∷ s.single the.Close ∷ []) (sign k.Comma) (ys ++ sign k.Close ∷ []) refl
    (as_other s.int (s.single the.Close ∷ []) ys (sign k.Close ∷ []) f (as_one the.Close [] (sign k.Close) [] refl refl))))

complete_arguments : {us : List Lexeme} {x : EffectTree} → SpellsArguments us x → Means_of (arguments (kind_of x)) us
complete_arguments no_argument = refl
complete_arguments (a_constant {ts = bs} p) = in_parentheses s.constant bs (_, p)
complete_arguments (an_expression {ts = bs} p) = in_parentheses expr bs (spelled_accepted p)
complete_arguments (a_number {ts = bs} p) = in_parentheses s.int bs (_, p)
complete_arguments (two_numbers {xs = as_} {ys = bs} p q) = numbers_in_parentheses as_ bs (_, p) (_, q)

complete_effect : (us : List Lexeme) (x : EffectTree) (t : Lexeme) (ts : List Lexeme) → SpellsEffect us x → us ≡ t ∷ ts → Through (next s.effect t) ts
complete_effect us x t ts (an_effect {us = bs} p) e =
    let head : word (keyword (kind_of x)) ≡ t = cc in
    let rest : bs ≡ ts = cc in
    some_leads instructions (next s.effect t) (arguments (kind_of x)) ts (ap (next s.effect) (sym head) ∙ ap (option_map arguments) (keyword_finds (kind_of x)))
    (subst (Means_of (arguments (kind_of x))) rest (complete_arguments p))

complete_guard : (us : List Lexeme) (g : Option Formula) (t : Lexeme) (ts : List Lexeme) → SpellsGuard us g → us ≡ t ∷ ts → Through (next s.guard t) ts
unfolding Leads
complete_guard us g t ts no_guard e = cc
complete_guard us g t ts (a_guard {ts = bs} p) e =
    let head : word (codes "WHEN") ≡ t = cc in
    let rest : bs ≡ ts = cc in
    subst (λ z. Through (next s.guard z) ts) head (subst (Means_of (expr ∷ [])) rest (as_last instructions expr bs (spelled_accepted p)))

complete_keyword : (w : List ℕ) (t : Lexeme) (ts : List Lexeme) → t ∷ ts ≡ word w ∷ [] → Through (next (s.keyword w) t) ts
complete_keyword w t ts e =
    let head : word w ≡ t = cc in
    let rest : ts ≡ [] = cc in
    true_where (is_word t w) [] ts (ap (λ z. is_word z w) (sym head) ∙ is_the_word w) rest

pub completed : (x : Sym) (t : Lexeme) (ts : List Lexeme) → spelled x (t ∷ ts) → Through (next x t) ts
completed (s.single w) t ts d =
    let head : d.0 ≡ t = (let e = d.1 in cc) in
    let rest : ts ≡ [] = (let e = d.1 in cc) in
    true_where (is_single w (mark_of t)) [] ts (ap (λ z. is_single w (mark_of z)) (sym head) ∙ d.2) rest
completed (s.keyword w) t ts d = complete_keyword w t ts d
completed (s.formula st q) t ts d = subst (Through (next (s.formula st q) t)) (append-nil ts) (live_complete (machine.step st (role_of t)) [] ts [] d refl)
completed s.file t ts d = complete_file (t ∷ ts) d.0 t ts d.1 refl
completed s.extensions t ts d = complete_extensions (t ∷ ts) d.0 t ts d.1 refl
completed s.slices t ts d = complete_slices (t ∷ ts) d.0 t ts d.1 refl
completed s.slice_start t ts d = complete_slice_start (t ∷ ts) d.0 t ts d.1 refl
completed s.mode t ts d = complete_mode t ts d
completed s.modes t ts d = complete_modes (t ∷ ts) d.0 t ts d.1 refl
completed s.mode_rest t ts d = complete_mode_rest (word (codes "MODE") ∷ t ∷ ts) d.0 t ts d.1 refl
completed s.mark t ts d = complete_mark t ts d
completed s.in_mark t ts d = complete_in_mark (sign k.OpenBrace ∷ t ∷ ts) d.0 t ts d.1 refl
completed s.dynamics t ts d = complete_dynamics (t ∷ ts) d.0 t ts d.1 refl
completed s.effect t ts d = complete_effect (t ∷ ts) d.0 t ts d.1 refl
completed s.constant t ts d = complete_constant (t ∷ ts) d.0 t ts d.1 refl
completed s.int t ts d = complete_int (t ∷ ts) d.0 t ts d.1 refl
completed s.guard t ts d = complete_guard (t ∷ ts) d.0 t ts d.1 refl
