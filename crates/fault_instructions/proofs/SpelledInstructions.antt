-- The instructions that some text spells can be written.
use Rattle.std.proofs.Common.{◌≢◌, inl, inr, ℕ, List, [], ◌∷◌, ◌++◌, Option, codes, refl, subst}
use Rattle.smv_lexer.specs.declared.token.TokenKind.{TokenKind}
use Rattle.smv_lexer.specs.declared.token.TokenKind.TheVariants as k
use Rattle.smv_language.specs.Language.{Text, Formula, Value, Lexeme, word, sign, IsSmall, IsPlain}
use Rattle.smv_language.proofs.Spelled.{IsSign, Fits, AllFit, front, back, tokens_fit, int_writable, spelled_writable, many_writable}
use Rattle.fault_instructions.specs.Instructions.{EffectTree, ModeTree, SliceTree, ExtensionTree, InstructionTree}
use Rattle.fault_instructions.specs.SpellsInstructions.{SpellsConst, const_true, const_false, const_int, const_name, SpellsEffect, SpellsGuard, no_guard, a_guard, IsTokenText, number_text, word_text, sign_of, SpellsMark, no_mark, a_mark, SpellsMode, a_mode, SpellsSlice, a_slice, SpellsExtension, an_extension, SpellsInstructions, unnamed, named, BytesSpellInstructions, SpellsArguments, no_argument, a_constant, an_expression, a_number, two_numbers, an_effect}
use Rattle.fault_instructions.specs.WritableInstructions.{IsInner, IsMarkText, IsWritableEffect, IsWritableMark, IsWritableGuard, IsWritableMode, IsWritableSlice, IsWritableExtension, IsWritableInstructions}
use Rattle.fault_instructions.proofs.OneInstructions.{OneToken}

const_writable : {ts : List Lexeme} {c : Value} → SpellsConst ts c → AllFit ts → IsPlain c
const_writable const_true h = tt
const_writable const_false h = tt
const_writable (const_int p) h = int_writable p h
const_writable (const_name r) h = (r, h.0)

arguments_writable : {ts : List Lexeme} {e : EffectTree} → SpellsArguments ts e → AllFit ts → IsWritableEffect e
arguments_writable no_argument h = tt
arguments_writable (a_constant {ts = ts} p) h = const_writable p (front ts (sign k.Close ∷ []) h.1)
arguments_writable (an_expression {ts = ts} p) h = spelled_writable p (front ts (sign k.Close ∷ []) h.1)
arguments_writable (a_number {ts = ts} p) h = int_writable p (front ts (sign k.Close ∷ []) h.1)
arguments_writable (two_numbers {xs = xs} {ys = ys} p q) h =
    (int_writable p (front xs (sign k.Comma ∷ (ys ++ sign k.Close ∷ [])) h.1), int_writable q (front ys (sign k.Close ∷ []) (back xs (sign k.Comma ∷ (ys ++ sign k.Close ∷ [])) h.1).1))

effect_writable : {ts : List Lexeme} {e : EffectTree} → SpellsEffect ts e → AllFit ts → IsWritableEffect e
effect_writable (an_effect p) h = arguments_writable p h.1

guard_writable : {ts : List Lexeme} {g : Option Formula} → SpellsGuard ts g → AllFit ts → IsWritableGuard g
guard_writable no_guard h = tt
guard_writable (a_guard p) h = spelled_writable p h.1

inner_of : (s : TokenKind) → s ≢ k.CloseBrace → IsSign s → IsInner s
inner_of k.Word other h = absurd h
inner_of k.Number other h = absurd h
inner_of k.CloseBrace other h = absurd (other refl)
inner_of s other h = tt

token_writable : {t : Lexeme} {x : Text} → IsTokenText t x → Fits t → IsMarkText x
token_writable number_text h = inr (inl (h.1, subst IsSmall h.2 h.0))
token_writable word_text h = inl h
token_writable (sign_of {s} other) h = inr (inr (s, inner_of s other h, refl))

one_writable : (us : List Lexeme) (x : Text) → OneToken us x → AllFit us → IsMarkText x
unfolding OneToken
one_writable us x (t, same, text) h = token_writable text (subst AllFit same h).0

mark_writable : {ts : List Lexeme} {m : Option (List Text)} → SpellsMark ts m → AllFit ts → IsWritableMark m
unfolding OneToken
mark_writable no_mark h = tt
mark_writable (a_mark {ts} p) h = many_writable OneToken IsMarkText one_writable p (front ts (sign k.CloseBrace ∷ []) h.1)

mode_writable : (ts : List Lexeme) (m : ModeTree) → SpellsMode ts m → AllFit ts → IsWritableMode m
mode_writable ts m (a_mode {ms = ms} {ds = ds} {es = es} {gs = gs} r mark d e g) h =
    let after_mark = (back ms (sign k.Colon ∷ (ds ++ (es ++ (gs ++ sign k.Semicolon ∷ [])))) h.1.1).1 in
    let effect_on = back ds (es ++ (gs ++ sign k.Semicolon ∷ [])) after_mark in
    let guard_on = back es (gs ++ sign k.Semicolon ∷ []) effect_on in (
      (r, h.1.0),
      mark_writable mark (front ms (sign k.Colon ∷ (ds ++ (es ++ (gs ++ sign k.Semicolon ∷ [])))) h.1.1),
      effect_writable e (front es (gs ++ sign k.Semicolon ∷ []) effect_on),
      guard_writable g (front gs (sign k.Semicolon ∷ []) guard_on),
    )

slice_writable : (ts : List Lexeme) (s : SliceTree) → SpellsSlice ts s → AllFit ts → IsWritableSlice s
slice_writable ts s (a_slice {ns = ns} {ts = us} r t start some p) h =
    ((r, h.1.0), (t, h.1.1.1.0), some, many_writable SpellsMode IsWritableMode mode_writable p (back ns (word (codes "WITH") ∷ us) h.1.1.1.1).1)

extension_writable : (ts : List Lexeme) (x : ExtensionTree) → SpellsExtension ts x → AllFit ts → IsWritableExtension x
extension_writable ts x (an_extension r p) h = ((r, h.1.1.1.0), many_writable SpellsSlice IsWritableSlice slice_writable p h.1.1.1.1)

all_writable : {ts : List Lexeme} {i : InstructionTree} → SpellsInstructions ts i → AllFit ts → IsWritableInstructions i
all_writable (unnamed p) h = (tt, many_writable SpellsExtension IsWritableExtension extension_writable p h)
all_writable (named r p) h = ((r, h.1.1.0), many_writable SpellsExtension IsWritableExtension extension_writable p h.1.1.1)

-- what some text spells can be written
pub instructions_writable : (bytes : List ℕ) (i : InstructionTree) → BytesSpellInstructions bytes i → IsWritableInstructions i
instructions_writable bytes i s = all_writable s.2 (tokens_fit bytes s.0 s.1)
