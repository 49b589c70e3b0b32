-- The text of instructions spells them.
use Rattle.std.proofs.Common.{◌≢◌, inl, inr, true, false, List, [], ◌∷◌, ◌++◌, Option, map, Some, None, sym, ap, refl, subst, arith, append_assoc}
use Rattle.std.specs.Prelude.{codes}
use Rattle.std.specs.Fmt.{signed_decimal}
use Rattle.smv_lexer.specs.declared.token.TokenKind.{TokenKind}
use Rattle.smv_lexer.specs.declared.token.TokenKind.TheVariants as k
use Rattle.smv_lexer.specs.Tokens.{IsWord, IsNumber, number_of, sign_text}
use Rattle.smv_language.specs.Language.{Text, Formula, Value, symbol, value_text, Lexeme, word, num, sign, SpellsMany, no_more, one_more, each_after, joined, text_of, all_of, printed, printed_int, in_brackets, Each, IsPlain}
use Rattle.smv_language.specs.Values.{truth, number}
use Rattle.smv_language.proofs.Pieces.{Reads, nothing, then, as_lexemes, piece_reads, whole_reads}
use Rattle.smv_language.proofs.TokenTexts.{Ends, blank, line_feed, is_open_brace, is_close_brace, is_comma, is_semicolon, is_colon, is_word, AreDigits, digits_read}
use Rattle.smv_language.proofs.PrintedSpells.{printed_spells, an_expr, int_spells}
use Rattle.smv_language.proofs.ProgramSpells.{Spelled, at_line, many_spelled}
use Rattle.smv_language.proofs.TextSpells.{at_space, at_open, at_close, at_comma, at_semicolon, at_brace, spaced, int_reads, brackets_read, text_reads}
use Rattle.fault_instructions.specs.declared.instructions.Dynamics.{Dynamics}
use Rattle.fault_instructions.specs.declared.instructions.Dynamics.TheVariants.{Permanent, Transient}
use Rattle.fault_instructions.specs.declared.instructions.Start.{Start}
use Rattle.fault_instructions.specs.declared.instructions.Start.TheVariants.{Nominal, Any}
use Rattle.fault_instructions.specs.Instructions.{EffectTree, ModeTree, SliceTree, ExtensionTree, InstructionTree, plain, of_constant, of_expression, of_number, of_numbers, kind_of}
use Rattle.fault_instructions.specs.SpellsInstructions.{SpellsConst, const_true, const_false, const_int, const_name, SpellsEffect, SpellsDynamics, d_permanent, d_transient, SpellsGuard, no_guard, a_guard, IsTokenText, number_text, word_text, sign_of, SpellsMark, no_mark, a_mark, SpellsMode, a_mode, SpellsStart, at_nominal, at_any, SpellsSlice, a_slice, SpellsExtension, an_extension, SpellsInstructions, unnamed, named, BytesSpellInstructions, SpellsArguments, no_argument, a_constant, an_expression, a_number, two_numbers, an_effect}
use Rattle.fault_instructions.specs.InstructionText.{effect_text, dynamics_text, mark_text, guard_text, mode_head, mode_line, start_text, slice_text, extension_text, extension_words, file_words, name_line, instructions_text, arguments_text}
use Rattle.fault_instructions.specs.WritableInstructions.{IsInner, IsMarkText, IsWritableEffect, IsWritableMark, IsWritableGuard, IsWritableMode, IsWritableSlice, IsWritableExtension, IsWritableInstructions}
use Rattle.fault_instructions.proofs.OneInstructions.{OneToken}
use Rattle.fault_instructions.specs.Effects.{keyword}
use Rattle.fault_instructions.proofs.EffectRows.{keyword_word}

-- a blank before, and a word with a blank or a line's end behind it
indented : (more rest : Text) (ls : List Lexeme) → Reads more rest ls → Reads (32 ∷ more) rest ls
indented more rest ls r = then (32 ∷ []) more rest [] ls (blank (more ++ rest)) r

worded : (w more rest : Text) (ls : List Lexeme) → IsWord w [] → Reads more rest ls → Reads (w ++ 32 ∷ more) rest (word w ∷ ls)
worded w more rest ls h r = then w (32 ∷ more) rest (word w ∷ []) ls (is_word w ((32 ∷ more) ++ rest) h (at_space _)) (indented more rest ls r)

lined : (w more rest : Text) (ls : List Lexeme) → IsWord w [] → Reads more rest ls → Reads (w ++ 10 ∷ more) rest (word w ∷ ls)
lined w more rest ls h r = then w (10 ∷ more) rest (word w ∷ []) ls (is_word w ((10 ∷ more) ++ rest) h (at_line _)) (then (10 ∷ []) more rest [] ls (line_feed (more ++ rest)) r)

sign_before_space : (s : TokenKind) (rest : Text) → IsInner s → Reads (sign_text s) (32 ∷ rest) (sign s ∷ [])
sign_before_space k.Word rest h = absurd h
sign_before_space k.Number rest h = absurd h
sign_before_space k.CloseBrace rest h = absurd h
sign_before_space s rest h = piece_reads (Some s) (sign_text s) (32 ∷ rest) (omega arith) refl

sign_before_brace : (s : TokenKind) (rest : Text) → IsInner s → Reads (sign_text s) (125 ∷ rest) (sign s ∷ [])
sign_before_brace k.Word rest h = absurd h
sign_before_brace k.Number rest h = absurd h
sign_before_brace k.CloseBrace rest h = absurd h
sign_before_brace s rest h = piece_reads (Some s) (sign_text s) (125 ∷ rest) (omega arith) refl

inner : (s : TokenKind) → IsInner s → s ≢ k.CloseBrace
inner s h e = subst IsInner e h

are_digits : (x : Text) → IsNumber x [] → AreDigits (number_of x) x
are_digits [] h = absurd h
are_digits (b ∷ bs) h = record { some = omega arith; runs = h; value = refl }

-- a token of a mark, before a blank or the closing brace
token_before : (x rest : Text) → IsMarkText x → Ends rest → ((s : TokenKind) → IsInner s → Reads (sign_text s) rest (sign s ∷ [])) → (t : Lexeme) × Reads x rest (t ∷ []) × IsTokenText t x
token_before x rest (inl h) e signs = (word x, is_word x rest h e, word_text)
token_before x rest (inr (inl h)) e signs = (num (number_of x) x, digits_read (number_of x) x rest h.1 (are_digits x h.0) e, number_text)
token_before x rest (inr (inr h)) e signs =
    let same = h.2 in
    (sign h.0, subst (λ z. Reads z rest (sign h.0 ∷ [])) (sym same) (signs h.0 h.1), subst (IsTokenText (sign h.0)) (sym same) (sign_of (inner h.0 h.1)))

token_in : (x : Text) (xs : List Text) (rest : Text) → IsMarkText x → (t : Lexeme) × Reads x (each_after (codes " ") xs ++ 125 ∷ rest) (t ∷ []) × IsTokenText t x
token_in x [] rest h = token_before x (125 ∷ rest) h (at_brace rest) (λ s i. sign_before_brace s rest i)
token_in x (y ∷ ys) rest h =
    token_before x (32 ∷ ((y ++ each_after (codes " ") ys) ++ 125 ∷ rest)) h (at_space _) (λ s i. sign_before_space s ((y ++ each_after (codes " ") ys) ++ 125 ∷ rest) i)

more_tokens : (xs : List Text) (rest : Text) → Each IsMarkText xs → Spelled (SpellsMany OneToken) (each_after (codes " ") xs) (125 ∷ rest) xs
unfolding OneToken
more_tokens [] rest h = ([], nothing (125 ∷ rest), no_more)
more_tokens (x ∷ xs) rest h =
    let more = more_tokens xs rest h.1 in
    let one = token_in x xs rest h.0 in (
      one.0 ∷ more.0,
      indented (x ++ each_after (codes " ") xs) (125 ∷ rest) (one.0 ∷ more.0) (then x (each_after (codes " ") xs) (125 ∷ rest) (one.0 ∷ []) more.0 one.1 more.1),
      one_more (one.0, refl, one.2) more.2,
    )

tokens_spelled : (xs : List Text) (rest : Text) → Each IsMarkText xs → Spelled (SpellsMany OneToken) (joined (codes " ") xs) (125 ∷ rest) xs
unfolding OneToken
tokens_spelled [] rest h = ([], nothing (125 ∷ rest), no_more)
tokens_spelled (x ∷ xs) rest h =
    let more = more_tokens xs rest h.1 in
    let one = token_in x xs rest h.0 in
    (one.0 ∷ more.0, then x (each_after (codes " ") xs) (125 ∷ rest) (one.0 ∷ []) more.0 one.1 more.1, one_more (one.0, refl, one.2) more.2)

mark_spelled : (m : Option (List Text)) (rest : Text) → IsWritableMark m → Spelled SpellsMark (mark_text m) rest m
unfolding OneToken
mark_spelled None rest h = ([], nothing rest, no_mark)
mark_spelled (Some xs) rest h =
    let list = tokens_spelled xs rest h in (
      sign k.OpenBrace ∷ (list.0 ++ sign k.CloseBrace ∷ []),
      indented (codes "{" ++ (joined (codes " ") xs ++ codes "}")) rest (sign k.OpenBrace ∷ (list.0 ++ sign k.CloseBrace ∷ []))
          (then (codes "{") (joined (codes " ") xs ++ codes "}") rest (sign k.OpenBrace ∷ []) (list.0 ++ sign k.CloseBrace ∷ []) (is_open_brace _)
          (then (joined (codes " ") xs) (codes "}") rest list.0 (sign k.CloseBrace ∷ []) list.1 (is_close_brace rest))),
      a_mark list.2,
    )

constant_spelled : (c : Value) (rest : Text) → IsPlain c → Ends rest → Spelled SpellsConst (value_text c) rest c
constant_spelled (truth true) rest h e = (word (codes "TRUE") ∷ [], is_word (codes "TRUE") rest (refl, (refl, (refl, (refl, tt)))) e, const_true)
constant_spelled (truth false) rest h e = (word (codes "FALSE") ∷ [], is_word (codes "FALSE") rest (refl, (refl, (refl, (refl, (refl, tt))))) e, const_false)
constant_spelled (number n) rest h e = (printed_int n, int_reads n rest h e, const_int (int_spells n))
constant_spelled (symbol x) rest h e = (word x ∷ [], is_word x rest h.1 e, const_name h.0)

arguments_spelled : (x : EffectTree) (rest : Text) → IsWritableEffect x → Ends rest → Spelled SpellsArguments (arguments_text x) rest x
arguments_spelled (plain k) rest h e = ([], nothing rest, no_argument)
arguments_spelled (of_constant k c) rest h e =
    let inside = constant_spelled c (codes ")" ++ rest) h (at_close rest) in
    (in_brackets inside.0, brackets_read (value_text c) rest inside.0 inside.1, a_constant inside.2)
arguments_spelled (of_expression k f) rest h e =
    (in_brackets (printed f), brackets_read (text_of f) rest (printed f) (text_reads f (codes ")" ++ rest) h (at_close rest)), an_expression (an_expr (printed_spells f h)))
arguments_spelled (of_number k n) rest h e =
    (in_brackets (printed_int n), brackets_read (signed_decimal n) rest (printed_int n) (int_reads n (codes ")" ++ rest) h (at_close rest)), a_number (int_spells n))
arguments_spelled (of_numbers k' d f) rest h e = (
  sign k.Open ∷ (printed_int d ++ sign k.Comma ∷ (printed_int f ++ sign k.Close ∷ [])),
  as_lexemes _ rest _ _ (ap (λ z. sign k.Open ∷ z) (append_assoc (printed_int d) (sign k.Comma ∷ printed_int f) (sign k.Close ∷ [])))
      (subst (λ z. Reads (codes "(" ++ z) rest (in_brackets (printed_int d ++ sign k.Comma ∷ printed_int f))) (append_assoc (signed_decimal d) (codes ", " ++ signed_decimal f) (codes ")"))
      (brackets_read (signed_decimal d ++ (codes ", " ++ signed_decimal f)) rest (printed_int d ++ sign k.Comma ∷ printed_int f)
      (then (signed_decimal d) (codes ", " ++ signed_decimal f) (codes ")" ++ rest) (printed_int d) (sign k.Comma ∷ printed_int f) (int_reads d _ h.0 (at_comma _))
      (then (codes ",") (codes " " ++ signed_decimal f) (codes ")" ++ rest) (sign k.Comma ∷ []) (printed_int f) (is_comma _)
      (indented (signed_decimal f) (codes ")" ++ rest) (printed_int f) (int_reads f (codes ")" ++ rest) h.1 (at_close rest))))))),
  two_numbers (int_spells d) (int_spells f),
)

before_arguments : (x : EffectTree) (rest : Text) → Ends rest → Ends (arguments_text x ++ rest)
before_arguments (plain k) rest e = e
before_arguments (of_constant k c) rest e = at_open _
before_arguments (of_expression k f) rest e = at_open _
before_arguments (of_number k n) rest e = at_open _
before_arguments (of_numbers k m n) rest e = at_open _

effect_spelled : (x : EffectTree) (rest : Text) → IsWritableEffect x → Ends rest → Spelled SpellsEffect (effect_text x) rest x
effect_spelled x rest h e =
    let w = keyword (kind_of x) in
    let inside = arguments_spelled x rest h e in (
      word w ∷ inside.0,
      then w (arguments_text x) rest (word w ∷ []) inside.0 (is_word w (arguments_text x ++ rest) (keyword_word (kind_of x)) (before_arguments x rest e)) inside.1,
      an_effect inside.2,
    )

dynamics_spelled : (d : Dynamics) (more rest : Text) (ls : List Lexeme) → Reads more rest ls → (ds : List Lexeme) × Reads (dynamics_text d ++ more) rest (ds ++ ls) × SpellsDynamics ds d
dynamics_spelled Permanent more rest ls r = (word (codes "Permanent") ∷ [], worded (codes "Permanent") more rest ls (refl, (refl, (refl, (refl, (refl, (refl, (refl, (refl, (refl, tt))))))))) r, d_permanent)
dynamics_spelled Transient more rest ls r = (word (codes "Transient") ∷ [], worded (codes "Transient") more rest ls (refl, (refl, (refl, (refl, (refl, (refl, (refl, (refl, (refl, tt))))))))) r, d_transient)

after_guard : (g : Option Formula) (rest : Text) → Ends ((guard_text g ++ codes ";\n") ++ rest)
after_guard None rest = at_semicolon _
after_guard (Some g) rest = at_space _

guard_spelled : (g : Option Formula) (rest : Text) → IsWritableGuard g → Spelled SpellsGuard (guard_text g) (codes ";\n" ++ rest) g
guard_spelled None rest h = ([], nothing _, no_guard)
guard_spelled (Some g) rest h = (
  word (codes "WHEN") ∷ printed g,
  indented (codes "WHEN " ++ text_of g) (codes ";\n" ++ rest) (word (codes "WHEN") ∷ printed g)
      (worded (codes "WHEN") (text_of g) (codes ";\n" ++ rest) (printed g) (refl, (refl, (refl, (refl, tt)))) (text_reads g (codes ";\n" ++ rest) h (at_semicolon _))),
  a_guard (an_expr (printed_spells g h)),
)

after_mark : (m : Option (List Text)) (rest : Text) → Ends ((mark_text m ++ codes " : ") ++ rest)
after_mark None rest = at_space _
after_mark (Some xs) rest = at_space _

mode_spelled : (m : ModeTree) (rest : Text) → IsWritableMode m → Spelled SpellsMode (mode_line m) rest m
mode_spelled m rest h =
    let guard = guard_spelled m.guard rest h.3 in
    let effect = effect_spelled m.effect ((guard_text m.guard ++ codes ";\n") ++ rest) h.2 (after_guard m.guard rest) in
    let end = then (guard_text m.guard) (codes ";\n") rest guard.0 (sign k.Semicolon ∷ []) guard.1 (then (codes ";") (codes "\n") rest (sign k.Semicolon ∷ []) [] (is_semicolon _) (line_feed rest)) in
    let behind = then (effect_text m.effect) (guard_text m.guard ++ codes ";\n") rest effect.0 (guard.0 ++ sign k.Semicolon ∷ []) effect.1 end in
    let body = dynamics_spelled m.dynamics (effect_text m.effect ++ (guard_text m.guard ++ codes ";\n")) rest (effect.0 ++ (guard.0 ++ sign k.Semicolon ∷ [])) behind in
    let tail = dynamics_text m.dynamics ++ (effect_text m.effect ++ (guard_text m.guard ++ codes ";\n")) in
    let mark = mark_spelled m.mark (codes " : " ++ (tail ++ rest)) h.1 in
    let marked = then (mark_text m.mark) (codes " : ") (tail ++ rest) mark.0 (sign k.Colon ∷ []) mark.1 (spaced (codes ":") (tail ++ rest) (sign k.Colon) (is_colon _)) in
    let named = then m.name (mark_text m.mark ++ codes " : ") (tail ++ rest) (word m.name ∷ []) (mark.0 ++ sign k.Colon ∷ []) (is_word m.name _ h.0.1 (after_mark m.mark (tail ++ rest))) marked in
    let head = indented _ (tail ++ rest) _ (indented _ (tail ++ rest) _ (indented _ (tail ++ rest) _ (indented (codes "MODE " ++ (m.name ++ (mark_text m.mark ++ codes " : "))) (tail ++ rest) (word (codes "MODE") ∷ word m.name ∷ (mark.0 ++ sign k.Colon ∷ []))
    (worded (codes "MODE") (m.name ++ (mark_text m.mark ++ codes " : ")) (tail ++ rest) (word m.name ∷ (mark.0 ++ sign k.Colon ∷ [])) (refl, (refl, (refl, (refl, tt)))) named)))) in (
      word (codes "MODE") ∷ word m.name ∷ (mark.0 ++ sign k.Colon ∷ (body.0 ++ (effect.0 ++ (guard.0 ++ sign k.Semicolon ∷ [])))),
      as_lexemes (mode_line m) rest _ _ (ap (λ z. word (codes "MODE") ∷ word m.name ∷ z) (append_assoc mark.0 (sign k.Colon ∷ []) (body.0 ++ (effect.0 ++ (guard.0 ++ sign k.Semicolon ∷ [])))))
          (then (mode_head m) tail rest (word (codes "MODE") ∷ word m.name ∷ (mark.0 ++ sign k.Colon ∷ [])) (body.0 ++ (effect.0 ++ (guard.0 ++ sign k.Semicolon ∷ []))) head body.1),
      a_mode h.0.0 mark.2 body.2 effect.2 guard.2,
    )

-- a word, and the words on the start behind it
started : (x : Text) (start : Start) (more rest : Text) (ls : List Lexeme) → IsWord x [] → Reads more rest ls →
    (ns : List Lexeme) × Reads (x ++ (start_text start ++ 32 ∷ more)) rest (word x ∷ (ns ++ ls)) × SpellsStart ns start
started x Nominal more rest ls h r = ([], worded x more rest ls h r, at_nominal)
started x Any more rest ls h r = (
  word (codes "INITIALLY") ∷ word (codes "ANY") ∷ [],
  worded x (codes "INITIALLY ANY" ++ 32 ∷ more) rest _ h
      (worded (codes "INITIALLY") (codes "ANY" ++ 32 ∷ more) rest _ (refl, (refl, (refl, (refl, (refl, (refl, (refl, (refl, (refl, tt))))))))) (worded (codes "ANY") more rest ls (refl, (refl, (refl, tt))) r)),
  at_any,
)

slice_spelled : (s : SliceTree) (rest : Text) → IsWritableSlice s → Spelled SpellsSlice (slice_text s) rest s
slice_spelled s rest h =
    let lines = many_spelled SpellsMode mode_line IsWritableMode mode_spelled s.modes rest h.3 in
    let shown = all_of (map mode_line s.modes) in
    let behind = start_text s.start ++ (codes " WITH\n" ++ shown) in
    let start = started s.target s.start (codes "WITH\n" ++ shown) rest (word (codes "WITH") ∷ lines.0) h.1.1 (lined (codes "WITH") shown rest lines.0 (refl, (refl, (refl, (refl, tt)))) lines.1) in (
      word (codes "SLICE") ∷ word s.name ∷ word (codes "AFFECTS") ∷ word s.target ∷ (start.0 ++ word (codes "WITH") ∷ lines.0),
      indented _ rest _ (indented (codes "SLICE " ++ (s.name ++ (codes " AFFECTS " ++ (s.target ++ behind)))) rest _
          (worded (codes "SLICE") (s.name ++ (codes " AFFECTS " ++ (s.target ++ behind))) rest _ (refl, (refl, (refl, (refl, (refl, tt)))))
          (worded s.name (codes "AFFECTS " ++ (s.target ++ behind)) rest _ h.0.1
          (worded (codes "AFFECTS") (s.target ++ behind) rest _ (refl, (refl, (refl, (refl, (refl, (refl, (refl, tt))))))) start.1)))),
      a_slice h.0.0 h.1.0 start.2 h.2 lines.2,
    )

extension_spelled : (x : ExtensionTree) (rest : Text) → IsWritableExtension x → Spelled SpellsExtension (extension_text x) rest x
unfolding extension_words
extension_spelled x rest h =
    let slices = many_spelled SpellsSlice slice_text IsWritableSlice slice_spelled x.slices rest h.1 in
    let shown = all_of (map slice_text x.slices) in (
      word (codes "EXTENSION") ∷ word (codes "OF") ∷ word (codes "MODULE") ∷ word x.of_module ∷ slices.0,
      worded (codes "EXTENSION") (codes "OF MODULE " ++ (x.of_module ++ (codes "\n" ++ shown))) rest _ (refl, (refl, (refl, (refl, (refl, (refl, (refl, (refl, (refl, tt)))))))))
          (worded (codes "OF") (codes "MODULE " ++ (x.of_module ++ (codes "\n" ++ shown))) rest _ (refl, (refl, tt))
          (worded (codes "MODULE") (x.of_module ++ (codes "\n" ++ shown)) rest _ (refl, (refl, (refl, (refl, (refl, (refl, tt))))))
          (lined x.of_module shown rest slices.0 h.0.1 slices.1))),
      an_extension h.0.0 slices.2,
    )

file_spelled : (name : Option Text) (xs : List ExtensionTree) → IsWritableInstructions (record { name = name; extensions = xs }) →
    (ls : List Lexeme) × Reads (instructions_text (record { name = name; extensions = xs })) [] ls × SpellsInstructions ls (record { name = name; extensions = xs })
unfolding file_words
file_spelled None xs h =
    let more = many_spelled SpellsExtension extension_text IsWritableExtension extension_spelled xs [] h.1 in
    (more.0, more.1, unnamed more.2)
file_spelled (Some x) xs h =
    let more = many_spelled SpellsExtension extension_text IsWritableExtension extension_spelled xs [] h.1 in
    let shown = all_of (map extension_text xs) in (
      word (codes "FAULT") ∷ word (codes "EXTENSION") ∷ word x ∷ more.0,
      then (name_line x) shown [] (word (codes "FAULT") ∷ word (codes "EXTENSION") ∷ word x ∷ []) more.0
          (worded (codes "FAULT") (codes "EXTENSION " ++ (x ++ codes "\n")) (shown ++ []) _ (refl, (refl, (refl, (refl, (refl, tt)))))
          (worded (codes "EXTENSION") (x ++ codes "\n") (shown ++ []) _ (refl, (refl, (refl, (refl, (refl, (refl, (refl, (refl, (refl, tt)))))))))
          (lined x [] (shown ++ []) [] h.0.1 (nothing (shown ++ [])))))
          more.1,
      named h.0.0 more.2,
    )

-- the text of instructions that can be written spells them
pub instructions_spell : (i : InstructionTree) → IsWritableInstructions i → BytesSpellInstructions (instructions_text i) i
instructions_spell i h =
    let s = file_spelled i.name i.extensions h in
    let r = whole_reads (instructions_text i) s.0 s.1 in
    (r.0, r.1, subst (λ ls. SpellsInstructions ls i) (sym r.2) s.2)
