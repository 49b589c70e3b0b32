-- The instructions that can be written: every name is a name, every number fits, and no slice is without a mode.
use Rattle.std.specs.Prelude.{◌≡◌, ◌≢◌, ◌⊎◌, [], Option, Some, None, List}
use Rattle.smv_lexer.specs.declared.token.TokenKind.{TokenKind}
use Rattle.smv_lexer.specs.declared.token.TokenKind.TheVariants as k
use Rattle.smv_lexer.specs.Tokens.{IsWord, IsNumber, number_of, sign_text}
use Rattle.smv_language.specs.Language.{Text, Formula, IsName, IsSmall, IsEnd, IsWritable, Each, IsPlain}
use Rattle.smv_language.specs.Values.{number}
use Rattle.fault_instructions.specs.Instructions.{EffectTree, ModeTree, SliceTree, ExtensionTree, InstructionTree, EachArgument}

-- a sign that does not end a mark
abbrev pub IsInner : TokenKind → Type 0
IsInner k.Word = ⊥
IsInner k.Number = ⊥
IsInner k.CloseBrace = ⊥
IsInner _ = Unit {0}

-- the text of a token of a mark: a word, the digits of a number that a token can hold, or a sign
abbrev pub IsMarkText : Text → Type 0
IsMarkText x = IsWord x [] ⊎ ((IsNumber x [] × IsSmall (number_of x)) ⊎ ((s : TokenKind) × IsInner s × (x ≡ sign_text s)))

-- each argument can be written
abbrev pub IsWritableEffect : EffectTree → Type 0
IsWritableEffect e = EachArgument IsPlain IsWritable IsEnd e

-- each text of the mark is that of a token
abbrev pub IsWritableMark : Option (List Text) → Type 0
IsWritableMark None = Unit {0}
IsWritableMark (Some xs) = Each IsMarkText xs

-- the guard can be written, where there is one
abbrev pub IsWritableGuard : Option Formula → Type 0
IsWritableGuard None = Unit {0}
IsWritableGuard (Some g) = IsWritable g

-- a mode, part by part
abbrev pub IsWritableMode : ModeTree → Type 0
IsWritableMode m = IsName m.name × IsWritableMark m.mark × IsWritableEffect m.effect × IsWritableGuard m.guard

-- a slice, which has a mode
abbrev pub IsWritableSlice : SliceTree → Type 0
IsWritableSlice s = IsName s.name × IsName s.target × (s.modes ≢ []) × Each IsWritableMode s.modes

-- an extension, part by part
abbrev pub IsWritableExtension : ExtensionTree → Type 0
IsWritableExtension x = IsName x.of_module × Each IsWritableSlice x.slices

-- the file's own name is a name, where it has one
abbrev pub IsWritableFileName : Option Text → Type 0
IsWritableFileName None = Unit {0}
IsWritableFileName (Some x) = IsName x

-- all of a file can be written
abbrev pub IsWritableInstructions : InstructionTree → Type 0
IsWritableInstructions i = IsWritableFileName i.name × Each IsWritableExtension i.extensions
