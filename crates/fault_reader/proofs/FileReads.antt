-- Instructions are read as they are spelled.
use Rattle.std.proofs.Common.{◌≡◌, ℕ, ◌<◌, Bool, true, false, not, List, [], ◌∷◌, ◌++◌, Option, Some, None, length, refl, sym, ap, ◌∙◌, subst, arith, append_assoc, append-nil, length-append}
use Rattle.std.proofs.Math.Bool.{or-false}
use Rattle.std.specs.Prelude.{◌||◌, codes, if◌then◌else◌}
use Rattle.smv_lexer.specs.declared.token.TokenKind.TheVariants as k
use Rattle.smv_lexer.specs.declared.token.Token.{Token}
use Rattle.smv_lexer.specs.Tokens.{HasTokens}
use Rattle.smv_language.specs.Language.{Text, Formula, Value, Lexeme, word, sign, is_reserved, lexemes_of, plain_int, minus_int, SpellsMany, no_more, one_more}
use Rattle.smv_language.proofs.OneTree.{is_none_of}
use Rattle.fault_instructions.specs.declared.instructions.Dynamics.{Dynamics}
use Rattle.fault_instructions.specs.declared.instructions.Start.{Start}
use Rattle.fault_instructions.specs.Instructions.{EffectTree, of_constant, of_expression, of_number, of_numbers, kind_of, ModeTree, SliceTree, ExtensionTree, InstructionTree}
use Rattle.fault_instructions.specs.SpellsInstructions.{SpellsConst, const_true, const_false, const_int, const_name, SpellsArguments, no_argument, a_constant, an_expression, a_number, two_numbers, SpellsEffect, an_effect, SpellsDynamics, d_permanent, d_transient, SpellsGuard, no_guard, a_guard, IsTokenText, number_text, word_text, sign_of, SpellsMark, no_mark, a_mark, SpellsMode, a_mode, SpellsStart, at_nominal, at_any, SpellsSlice, a_slice, SpellsExtension, an_extension, SpellsInstructions, unnamed, named, BytesSpellInstructions}
use Rattle.smv_expression_reader.specs.Places.{text_in}
use Rattle.smv_expression_reader.specs.Marks.{mark_of, is_mark}
use Rattle.smv_expression_reader.specs.ExpressionDepths.{AreWithin, is_too_deep, are_too_deep, spelling, in_many}
use Rattle.smv_expression_reader.specs.SecondPass.{got, deep, none, and_then, answer, expect_at, name_at, expr_at, each_at, rest_of, end_at, has_word, text_at, word_at, int_at}
use Rattle.smv_expression_reader.proofs.Marks.{Marked, marked, mark_of_name, word_there}
use Rattle.smv_expression_reader.proofs.ReadLaws.{read_expr, are_within, within_are}
use Rattle.smv_expression_reader.proofs.PartsRead.{too_append, then_read, mapped, closes_with, many_read, some_read, no_many, name_read, int_read, answer_got, answer_deep, answer_none}
use Rattle.fault_reader.specs.Symbols.{IsInstructions}
use Rattle.fault_reader.specs.InstructionDepths.{in_arguments, in_effect, in_guard, in_mode, in_slice, in_extension, in_instructions, HaveInstructionDepths, AreInstructionsTooDeep}
use Rattle.fault_reader.specs.InstructionParts.{const_at, arguments_at, kind_from, effect_at, dynamics_at, guard_at, in_braces, texts_at, marked_at, HeadTree, head_tree, head_at, mode_with, mode_at, modes_at, start_at, slice_at, slices_at, extension_at, extensions_at, given_name_at, instructions_of, file_at}
use Rattle.smv_lexer.proofs.SignLemmas.{not_true}
use Rattle.fault_instructions.proofs.EffectRows.{keyword_finds}
use Rattle.fault_instructions.proofs.OneInstructions.{OneToken}
use Rattle.smv_expression_reader.specs.declared.mark.Mark.{Mark}
use Rattle.smv_expression_reader.specs.declared.mark.Mark.TheVariants as marks

const_read : {ts : List Lexeme} {c : Value} (q : SpellsConst ts c) (r : List Lexeme) → const_at (ts ++ r) ≡ got c r
const_read const_true r = refl
const_read const_false r = refl
const_read (const_int plain_int) r = refl
const_read (const_int minus_int) r = refl
const_read (const_name {x} n) r = rw (is_none_of x (codes "TRUE") refl n, is_none_of x (codes "FALSE") refl n, mark_of_name x n) refl

arguments_read : {us : List Lexeme} {e : EffectTree} (p : SpellsArguments us e) (r : List Lexeme) → arguments_at (kind_of e) (us ++ r) ≡ answer (are_too_deep (in_arguments p)) e r
arguments_read no_argument r = refl
arguments_read (a_constant {of} {ts} {c} q) r =
    ap (λ z. and_then (const_at z) (λ c s. and_then (expect_at marks.Close s) (λ _ q. got (of_constant of c) q))) (append_assoc ts (sign k.Close ∷ []) r)
    ∙ closes_with (of_constant of) marks.Close (sign k.Close) (const_at (ts ++ sign k.Close ∷ r)) false c r refl (const_read q (sign k.Close ∷ r))
arguments_read (an_expression {of} {ts} {e} q) r =
    ap (λ z. and_then (expr_at z) (λ e s. and_then (expect_at marks.Close s) (λ _ q. got (of_expression of e) q))) (append_assoc ts (sign k.Close ∷ []) r)
    ∙ closes_with (of_expression of) marks.Close (sign k.Close) (expr_at (ts ++ sign k.Close ∷ r)) (is_too_deep (spelling q)) e r refl (read_expr q (sign k.Close ∷ r) refl)
    ∙ ap (λ b. answer b (of_expression of e) r) (sym (or-false (is_too_deep (spelling q))))
arguments_read (a_number {of} {ts} {n} q) r =
    ap (λ z. and_then (int_at z) (λ d s. and_then (expect_at marks.Close s) (λ _ q. got (of_number of d) q))) (append_assoc ts (sign k.Close ∷ []) r)
    ∙ closes_with (of_number of) marks.Close (sign k.Close) (int_at (ts ++ sign k.Close ∷ r)) false n r refl (int_read q (sign k.Close ∷ r))
arguments_read (two_numbers {of} {xs} {ys} {m} {n} p q) r =
    ap (λ z. and_then (int_at z) (λ d s. and_then (expect_at marks.Comma s) (λ _ q. and_then (int_at q) (λ f y. and_then (expect_at marks.Close y) (λ _ z. got (of_numbers of d f) z)))))
    (append_assoc xs (sign k.Comma ∷ (ys ++ sign k.Close ∷ [])) r)
    ∙ ap (λ y. and_then y (λ d s. and_then (expect_at marks.Comma s) (λ _ q. and_then (int_at q) (λ f y. and_then (expect_at marks.Close y) (λ _ z. got (of_numbers of d f) z)))))
    (int_read p (sign k.Comma ∷ ((ys ++ sign k.Close ∷ []) ++ r)))
    ∙ ap (λ z. and_then (int_at z) (λ f y. and_then (expect_at marks.Close y) (λ _ z. got (of_numbers of m f) z))) (append_assoc ys (sign k.Close ∷ []) r)
    ∙ closes_with (λ f. of_numbers of m f) marks.Close (sign k.Close) (int_at (ys ++ sign k.Close ∷ r)) false n r refl (int_read q (sign k.Close ∷ r))

effect_read : {es : List Lexeme} {e : EffectTree} (p : SpellsEffect es e) (r : List Lexeme) → effect_at (es ++ r) ≡ answer (are_too_deep (in_effect p)) e r
effect_read (an_effect {us} {e} p) r = ap (λ o. kind_from o (us ++ r)) (keyword_finds (kind_of e)) ∙ arguments_read p r

dynamics_read : {ds : List Lexeme} {d : Dynamics} (p : SpellsDynamics ds d) (r : List Lexeme) → dynamics_at (ds ++ r) ≡ got d r
dynamics_read d_permanent r = refl
dynamics_read d_transient r = refl

guard_read : {gs : List Lexeme} {g : Option Formula} (p : SpellsGuard gs g) (r : List Lexeme) → guard_at (gs ++ sign k.Semicolon ∷ r) ≡ answer (are_too_deep (in_guard p)) g (sign k.Semicolon ∷ r)
guard_read no_guard r = refl
guard_read (a_guard {ts} {g} p) r =
    mapped (λ e. Some e) (expr_at (ts ++ sign k.Semicolon ∷ r)) (is_too_deep (spelling p)) g (sign k.Semicolon ∷ r) (read_expr p (sign k.Semicolon ∷ r) refl)
    ∙ ap (λ b. answer b (Some g) (sign k.Semicolon ∷ r)) (sym (or-false (is_too_deep (spelling p))))

token_is : (t : Lexeme) (x : Text) → IsTokenText t x → text_in t ≡ x
token_is t x number_text = refl
token_is t x word_text = refl
token_is t x (sign_of h) = refl

no_brace : (t : Lexeme) (x : Text) → IsTokenText t x → t ≡ sign k.CloseBrace → ⊥
no_brace t x number_text e = cc
no_brace t x word_text e = cc
no_brace t x (sign_of {s} h) e = let same : s ≡ k.CloseBrace = cc in h same

token_goes_on : (t : Lexeme) (x : Text) → IsTokenText t x → not (is_mark marks.CloseBrace (mark_of t)) ≡ true
unfolding Marked
token_goes_on t x p = go (mark_of t) (marked t)
  where
    go : (c : Mark) → Marked c t → not (is_mark marks.CloseBrace c) ≡ true
    go marks.CloseBrace f = absurd (no_brace t x p f)
    go c f = refl

text_starts : (ts : List Lexeme) (x : Text) (p : OneToken ts x) (r : List Lexeme) → in_braces (ts ++ r) ≡ true
unfolding OneToken
text_starts ts x p r = ap (λ z. in_braces (z ++ r)) p.1 ∙ token_goes_on p.0 x p.2

text_size : (ts : List Lexeme) (x : Text) → OneToken ts x → 0 < length ts
unfolding OneToken
text_size ts x p = let some : 0 < length (p.0 ∷ []) = omega arith in subst (λ z. 0 < length z) (sym p.1) some

text_read : (ts : List Lexeme) (x : Text) (p : OneToken ts x) (r : List Lexeme) → true ≡ true → text_at (ts ++ r) ≡ answer false x r
unfolding OneToken
text_read ts x p r o = ap (λ z. text_at (z ++ r)) p.1 ∙ ap (λ y. got y r) (token_is p.0 x p.2)

mark_read : {ms : List Lexeme} {m : Option (List Text)} (p : SpellsMark ms m) (r : List Lexeme) → marked_at (ms ++ sign k.Colon ∷ r) ≡ got m (sign k.Colon ∷ r)
unfolding OneToken
mark_read no_mark r = refl
mark_read (a_mark {ts} {xs} q) r =
    let size = length-append ts (sign k.CloseBrace ∷ sign k.Colon ∷ r) in
    let read : texts_at (ts ++ sign k.CloseBrace ∷ sign k.Colon ∷ r) ≡ answer (are_too_deep (in_many OneToken (λ ts a p. []) q)) xs (sign k.CloseBrace ∷ sign k.Colon ∷ r) =
    many_read Text OneToken text_at in_braces (λ ts a p. []) (λ z. true) (λ z h. refl) text_starts text_size text_read q (length (ts ++ sign k.CloseBrace ∷ sign k.Colon ∷ r))
    (sign k.CloseBrace ∷ sign k.Colon ∷ r) (omega (arith, size)) refl refl in
    ap (λ z. and_then (texts_at z) (λ xs r. and_then (expect_at marks.CloseBrace r) (λ _ s. got (Some xs) s))) (append_assoc ts (sign k.CloseBrace ∷ []) (sign k.Colon ∷ r))
    ∙ closes_with (λ xs. Some xs) marks.CloseBrace (sign k.CloseBrace) (texts_at (ts ++ sign k.CloseBrace ∷ sign k.Colon ∷ r)) false xs (sign k.Colon ∷ r) refl
    (read ∙ ap (λ b. answer b xs (sign k.CloseBrace ∷ sign k.Colon ∷ r)) (no_many OneToken q))

head_read : (x : Text) {ms ds : List Lexeme} {m : Option (List Text)} {d : Dynamics} → is_reserved x ≡ false → SpellsMark ms m → SpellsDynamics ds d → (r : List Lexeme) →
    head_at (word (codes "MODE") ∷ word x ∷ (ms ++ sign k.Colon ∷ (ds ++ r))) ≡ got (head_tree x m d) r
head_read x {ms} {ds} {m} {d} n p q r =
    ap (λ y. and_then y (λ x s. and_then (marked_at s) (λ m q. and_then (expect_at marks.Colon q) (λ _ y. and_then (dynamics_at y) (λ d z. got (head_tree x m d) z)))))
    (name_read x n (ms ++ sign k.Colon ∷ (ds ++ r)))
    ∙ ap (λ y. and_then y (λ m q. and_then (expect_at marks.Colon q) (λ _ y. and_then (dynamics_at y) (λ d z. got (head_tree x m d) z)))) (mark_read p (ds ++ r))
    ∙ ap (λ y. and_then y (λ d z. got (head_tree x m d) z)) (dynamics_read q r)

mode_read : (ts : List Lexeme) (a : ModeTree) (p : SpellsMode ts a) (r : List Lexeme) → true ≡ true → mode_at (ts ++ r) ≡ answer (are_too_deep (in_mode ts a p)) a r
mode_read ts a (a_mode {x} {ms} {ds} {es} {gs} {mark} {d} {e} {g} n p q u v) r o =
    let a1 : (ms ++ sign k.Colon ∷ (ds ++ (es ++ (gs ++ sign k.Semicolon ∷ [])))) ++ r ≡ ms ++ sign k.Colon ∷ ((ds ++ (es ++ (gs ++ sign k.Semicolon ∷ []))) ++ r) =
    append_assoc ms (sign k.Colon ∷ (ds ++ (es ++ (gs ++ sign k.Semicolon ∷ [])))) r in
    let a2 : (ds ++ (es ++ (gs ++ sign k.Semicolon ∷ []))) ++ r ≡ ds ++ ((es ++ (gs ++ sign k.Semicolon ∷ [])) ++ r) = append_assoc ds (es ++ (gs ++ sign k.Semicolon ∷ [])) r in
    let a3 : (es ++ (gs ++ sign k.Semicolon ∷ [])) ++ r ≡ es ++ ((gs ++ sign k.Semicolon ∷ []) ++ r) = append_assoc es (gs ++ sign k.Semicolon ∷ []) r in
    let a4 : (gs ++ sign k.Semicolon ∷ []) ++ r ≡ gs ++ sign k.Semicolon ∷ r = append_assoc gs (sign k.Semicolon ∷ []) r in
    let whole : (ms ++ sign k.Colon ∷ (ds ++ (es ++ (gs ++ sign k.Semicolon ∷ [])))) ++ r ≡ ms ++ sign k.Colon ∷ (ds ++ (es ++ (gs ++ sign k.Semicolon ∷ r))) =
    a1 ∙ ap (λ z. ms ++ sign k.Colon ∷ z) (a2 ∙ ap (λ z. ds ++ z) (a3 ∙ ap (λ z. es ++ z) a4)) in
    let h : HeadTree = head_tree x mark d in
    let b : Bool = are_too_deep (in_effect u) in
    let c : Bool = are_too_deep (in_guard v) in
    ap (λ z. mode_at (word (codes "MODE") ∷ word x ∷ z)) whole
    ∙ ap (λ y. and_then y (λ h r. and_then (effect_at r) (λ e s. and_then (guard_at s) (λ g q. and_then (expect_at marks.Semicolon q) (λ _ z. got (mode_with h e g) z)))))
    (head_read x n p q (es ++ (gs ++ sign k.Semicolon ∷ r)))
    ∙ then_read (λ e s. and_then (guard_at s) (λ g q. and_then (expect_at marks.Semicolon q) (λ _ z. got (mode_with h e g) z))) (effect_at (es ++ (gs ++ sign k.Semicolon ∷ r))) b c e
    (gs ++ sign k.Semicolon ∷ r) (mode_with h e g) r (effect_read u (gs ++ sign k.Semicolon ∷ r))
    (closes_with (λ g. mode_with h e g) marks.Semicolon (sign k.Semicolon) (guard_at (gs ++ sign k.Semicolon ∷ r)) c g r refl (guard_read v r))
    ∙ ap (λ b. answer b (mode_with h e g) r) (sym (too_append (in_effect u) (in_guard v)))

mode_starts : (ts : List Lexeme) (a : ModeTree) (p : SpellsMode ts a) (r : List Lexeme) → has_word (codes "MODE") (ts ++ r) ≡ true
mode_starts ts a (a_mode n p q u v) r = refl

mode_size : (ts : List Lexeme) (a : ModeTree) → SpellsMode ts a → 0 < length ts
mode_size ts a (a_mode n p q u v) = omega arith

modes_read : {us : List Lexeme} {ms : List ModeTree} (q : SpellsMany SpellsMode us ms) (r : List Lexeme) → (ms ≡ [] → ⊥) → has_word (codes "MODE") r ≡ false →
    modes_at (us ++ r) ≡ answer (are_too_deep (in_many SpellsMode in_mode q)) ms r
modes_read q r some off = some_read ModeTree SpellsMode mode_at (has_word (codes "MODE")) in_mode (λ z. true) (λ z h. refl) mode_starts mode_size mode_read q r some refl off

-- no mode stands next
abbrev no_mode : List Lexeme → Bool
no_mode ts = not (has_word (codes "MODE") ts)

start_read : {ns : List Lexeme} {st : Start} (p : SpellsStart ns st) (r : List Lexeme) → start_at (ns ++ word (codes "WITH") ∷ r) ≡ got st (word (codes "WITH") ∷ r)
start_read at_nominal r = refl
start_read at_any r = refl

slice_read : (ts : List Lexeme) (a : SliceTree) (p : SpellsSlice ts a) (r : List Lexeme) → no_mode r ≡ true → slice_at (ts ++ r) ≡ answer (are_too_deep (in_slice ts a p)) a r
slice_read ts a (a_slice {x} {y} {ns} {ts = us} {start} {ms} n m st some q) r o =
    ap (λ z. slice_at (word (codes "SLICE") ∷ word x ∷ word (codes "AFFECTS") ∷ word y ∷ z)) (append_assoc ns (word (codes "WITH") ∷ us) r)
    ∙ ap (λ z. and_then z (λ x s. and_then (word_at (codes "AFFECTS") s) (λ _ q. and_then (name_at q) (λ y p. and_then (start_at p) (λ st w. and_then (word_at (codes "WITH") w) (λ _ o. and_then (modes_at o) (λ ms z. got (record { name = x; target = y; start = st; modes = ms }) z)))))))
    (name_read x n (word (codes "AFFECTS") ∷ word y ∷ (ns ++ word (codes "WITH") ∷ (us ++ r))))
    ∙ ap (λ z. and_then z (λ y p. and_then (start_at p) (λ st w. and_then (word_at (codes "WITH") w) (λ _ o. and_then (modes_at o) (λ ms z. got (record { name = x; target = y; start = st; modes = ms }) z)))))
    (name_read y m (ns ++ word (codes "WITH") ∷ (us ++ r)))
    ∙ ap (λ z. and_then z (λ st w. and_then (word_at (codes "WITH") w) (λ _ o. and_then (modes_at o) (λ ms z. got (record { name = x; target = y; start = st; modes = ms }) z))))
    (start_read st (us ++ r))
    ∙ mapped (λ ms. record { name = x; target = y; start = start; modes = ms }) (modes_at (us ++ r)) (are_too_deep (in_many SpellsMode in_mode q)) ms r
    (modes_read q r some (not_true (has_word (codes "MODE") r) o))

-- what begins with another word begins no mode
other_word : (v w : List ℕ) (z : List Lexeme) → has_word v (word w ∷ []) ≡ false → has_word w z ≡ true → not (has_word v z) ≡ true
other_word v w [] e h = cc
other_word v w (t ∷ ts) e h = ap (λ u. not (has_word v (u ∷ ts))) (word_there t w h) ∙ ap not e

slice_next : (z : List Lexeme) → has_word (codes "SLICE") z ≡ true → no_mode z ≡ true
slice_next z h = other_word (codes "MODE") (codes "SLICE") z refl h

slice_starts : (ts : List Lexeme) (a : SliceTree) (p : SpellsSlice ts a) (r : List Lexeme) → has_word (codes "SLICE") (ts ++ r) ≡ true
slice_starts ts a (a_slice n m st some q) r = refl

slice_size : (ts : List Lexeme) (a : SliceTree) → SpellsSlice ts a → 0 < length ts
slice_size ts a (a_slice n m st some q) = omega arith

slices_read : {us : List Lexeme} {ss : List SliceTree} (q : SpellsMany SpellsSlice us ss) (r : List Lexeme) → no_mode r ≡ true → has_word (codes "SLICE") r ≡ false →
    slices_at (us ++ r) ≡ answer (are_too_deep (in_many SpellsSlice in_slice q)) ss r
slices_read {us} q r o off =
    let long = length-append us r in
    many_read SliceTree SpellsSlice slice_at (has_word (codes "SLICE")) in_slice no_mode slice_next slice_starts slice_size slice_read q (length (us ++ r)) r (omega (arith, long)) o off

-- neither a mode nor a slice stands next
abbrev no_slice : List Lexeme → Bool
no_slice ts = not (has_word (codes "MODE") ts || has_word (codes "SLICE") ts)

neither : (a b : Bool) → not (a || b) ≡ true → (not a ≡ true) × (b ≡ false)
neither true b e = cc
neither false b e = (refl, not_true b e)

extension_read : (ts : List Lexeme) (a : ExtensionTree) (p : SpellsExtension ts a) (r : List Lexeme) → no_slice r ≡ true → extension_at (ts ++ r) ≡ answer (are_too_deep (in_extension ts a p)) a r
extension_read ts a (an_extension {x} {ts = us} {ss} n q) r o =
    let ends = neither (has_word (codes "MODE") r) (has_word (codes "SLICE") r) o in
    ap (λ z. and_then z (λ x y. and_then (slices_at y) (λ ss z. got (record { of_module = x; slices = ss }) z))) (name_read x n (us ++ r))
    ∙ mapped (λ ss. record { of_module = x; slices = ss }) (slices_at (us ++ r)) (are_too_deep (in_many SpellsSlice in_slice q)) ss r (slices_read q r ends.0 ends.1)

extension_next : (z : List Lexeme) → has_word (codes "EXTENSION") z ≡ true → no_slice z ≡ true
extension_next [] h = cc
extension_next (t ∷ ts) h = ap (λ u. no_slice (u ∷ ts)) (word_there t (codes "EXTENSION") h)

extension_starts : (ts : List Lexeme) (a : ExtensionTree) (p : SpellsExtension ts a) (r : List Lexeme) → has_word (codes "EXTENSION") (ts ++ r) ≡ true
extension_starts ts a (an_extension n q) r = refl

extension_size : (ts : List Lexeme) (a : ExtensionTree) → SpellsExtension ts a → 0 < length ts
extension_size ts a (an_extension n q) = omega arith

extensions_read : {us : List Lexeme} {xs : List ExtensionTree} (q : SpellsMany SpellsExtension us xs) → extensions_at us ≡ answer (are_too_deep (in_many SpellsExtension in_extension q)) xs []
extensions_read {us} {xs} q =
    subst (λ z. each_at (has_word (codes "EXTENSION")) extension_at (length us) z ≡ answer (are_too_deep (in_many SpellsExtension in_extension q)) xs []) (append-nil us)
    (many_read ExtensionTree SpellsExtension extension_at (has_word (codes "EXTENSION")) in_extension no_slice extension_next extension_starts extension_size extension_read q (length us) [] (omega arith) refl refl)

no_file_name : {us : List Lexeme} {xs : List ExtensionTree} (q : SpellsMany SpellsExtension us xs) → has_word (codes "FAULT") us ≡ false
no_file_name no_more = refl
no_file_name (one_more (an_extension n p) q) = refl

-- the extensions, and the end behind them
ended : (x : Option Text) {us : List Lexeme} {xs : List ExtensionTree} (q : SpellsMany SpellsExtension us xs) →
    and_then (extensions_at us) (λ xs s. and_then (end_at s) (λ _ q. got (instructions_of x xs) q)) ≡ answer (are_too_deep (in_many SpellsExtension in_extension q)) (instructions_of x xs) []
ended x {us} {xs} q = ap (λ y. and_then y (λ xs s. and_then (end_at s) (λ _ q. got (instructions_of x xs) q))) (extensions_read q) ∙ go (are_too_deep (in_many SpellsExtension in_extension q))
  where
    go : (b : Bool) → and_then (answer b xs []) (λ xs s. and_then (end_at s) (λ _ q. got (instructions_of x xs) q)) ≡ answer b (instructions_of x xs) []
    go true = refl
    go false = refl

-- a file is read as it is spelled
pub read_file : {ts : List Lexeme} {i : InstructionTree} (q : SpellsInstructions ts i) → file_at ts ≡ answer (are_too_deep (in_instructions q)) i []
read_file {ts} (unnamed p) =
    ap (λ b. and_then (if b then and_then (given_name_at (rest_of ts)) (λ x r. got (Some x) r) else got None ts)
    (λ x r. and_then (extensions_at r) (λ xs s. and_then (end_at s) (λ _ q. got (instructions_of x xs) q)))) (no_file_name p)
    ∙ ended None p
read_file (named {x} {ts = us} n p) =
    ap (λ y. and_then (and_then y (λ x s. got (Some x) s)) (λ x r. and_then (extensions_at r) (λ xs s. and_then (end_at s) (λ _ q. got (instructions_of x xs) q)))) (name_read x n us)
    ∙ ended (Some x) p

-- the instructions that are read are the spelled ones
pub file_spelled : (bytes : List ℕ) (tokens : List Token) (i : InstructionTree) (r : List Lexeme) → HasTokens bytes tokens → IsInstructions (lexemes_of bytes tokens) →
    file_at (lexemes_of bytes tokens) ≡ got i r → BytesSpellInstructions bytes i
file_spelled bytes tokens i r split spelled e =
    let same = answer_got (are_too_deep (in_instructions spelled.1)) spelled.0 i r (sym (read_file spelled.1) ∙ e) in
    (tokens, split, subst (SpellsInstructions (lexemes_of bytes tokens)) same.0 spelled.1)

-- no others are spelled
pub file_only : (bytes : List ℕ) (tokens : List Token) (i : InstructionTree) (r : List Lexeme) → ((others : List Token) → HasTokens bytes others → others ≡ tokens) →
    file_at (lexemes_of bytes tokens) ≡ got i r → (j : InstructionTree) → BytesSpellInstructions bytes j → i ≡ j
file_only bytes tokens i r only e j spelled =
    let here : SpellsInstructions (lexemes_of bytes tokens) j = subst (λ z. SpellsInstructions (lexemes_of bytes z) j) (only spelled.0 spelled.1) spelled.2 in
    sym (answer_got (are_too_deep (in_instructions here)) j i r (sym (read_file here) ∙ e)).0

-- each of their expressions is within the depths
pub file_depths : (bytes : List ℕ) (tokens : List Token) (i : InstructionTree) (r : List Lexeme) → ((others : List Token) → HasTokens bytes others → others ≡ tokens) →
    file_at (lexemes_of bytes tokens) ≡ got i r → HaveInstructionDepths bytes i
file_depths bytes tokens i r only e = λ others split spelled. go others (only others split) spelled
  where
    go : (others : List Token) → others ≡ tokens → (spelled : SpellsInstructions (lexemes_of bytes others) i) → AreWithin (in_instructions spelled)
    go others same spelled =
        let here : file_at (lexemes_of bytes others) ≡ got i r = ap (λ z. file_at (lexemes_of bytes z)) same ∙ e in
        are_within (in_instructions spelled) (answer_got (are_too_deep (in_instructions spelled)) i i r (sym (read_file spelled) ∙ here)).1

-- spelled instructions that are not read have an expression that is too deep
pub file_deep : (bytes : List ℕ) (tokens : List Token) → HasTokens bytes tokens → IsInstructions (lexemes_of bytes tokens) → file_at (lexemes_of bytes tokens) ≡ deep → AreInstructionsTooDeep bytes
file_deep bytes tokens split spelled e = record {
  instructions = spelled.0;
  spelled = (tokens, split, spelled.1);
  deep = λ depths.
      let high = answer_deep (are_too_deep (in_instructions spelled.1)) spelled.0 (sym (read_file spelled.1) ∙ e) in
      let low = within_are (in_instructions spelled.1) (depths tokens split spelled.1) in
      let clash : true ≡ false = sym high ∙ low in cc;
}

-- some instructions are read of what is spelled, or they are too deep
pub file_made : (ts : List Lexeme) → IsInstructions ts → file_at ts ≡ none → ⊥
file_made ts spelled e = answer_none (are_too_deep (in_instructions spelled.1)) spelled.0 (sym (read_file spelled.1) ∙ e)
