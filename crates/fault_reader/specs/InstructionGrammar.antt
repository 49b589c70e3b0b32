-- The grammar of instructions, as one that is read by one lexeme at a time.
use Rattle.std.specs.Prelude.{◌≡◌, refl, ℤ, Bool, true, false, List, [], ◌∷◌, Option, Some, None, ◌||◌, codes, if◌then◌else◌}
use Rattle.std.specs.Option.{option_map}
use Rattle.smv_lexer.specs.declared.token.TokenKind.TheVariants as k
use Rattle.smv_language.specs.Language.{Text, Formula, Value, Lexeme, word, num, sign, SpellsInt, SpellsMany}
use Rattle.fault_instructions.specs.declared.instructions.Dynamics.{Dynamics}
use Rattle.fault_instructions.specs.declared.instructions.Start.{Start}
use Rattle.fault_instructions.specs.declared.effects.EffectKind.{EffectKind}
use Rattle.fault_instructions.specs.declared.effects.EffectKind.TheVariants as kind
use Rattle.fault_instructions.specs.Effects.{effect_kinds, first_kind}
use Rattle.fault_instructions.specs.Instructions.{EffectTree, ModeTree, SliceTree, ExtensionTree, InstructionTree}
use Rattle.fault_instructions.specs.SpellsInstructions.{SpellsConst, SpellsEffect, SpellsDynamics, SpellsGuard, SpellsMark, SpellsMode}
use Rattle.fault_instructions.specs.SpellsInstructions.{SpellsStart, SpellsSlice, SpellsExtension, SpellsInstructions}
use Rattle.smv_expression_reader.specs.Recogniser.{State, role_of, is_whole, is_stuck, start}
use Rattle.smv_expression_reader.specs.Recogniser as machine
use Rattle.smv_expression_reader.specs.Complete.{completion}
use Rattle.smv_expression_reader.specs.Places.{is_word}
use Rattle.smv_expression_reader.specs.PredictiveReader.{Grammar}
use Rattle.smv_expression_reader.specs.Expected as expected
use Rattle.smv_expression_reader.specs.Marks.{mark_of}
use Rattle.smv_expression_reader.specs.declared.mark.Mark.{Mark}
use Rattle.smv_expression_reader.specs.declared.mark.Mark.TheVariants as marks
use Rattle.fault_reader.specs.declared.symbols.Single.{Single}
use Rattle.fault_reader.specs.declared.symbols.Single.TheVariants as the

-- the mark is that of the lexeme
abbrev pub is_single : Single → Mark → Bool
is_single the.Name marks.Name = true
is_single the.Number marks.Number = true
is_single the.Open marks.Open = true
is_single the.Close marks.Close = true
is_single the.Comma marks.Comma = true
is_single the.Colon marks.Colon = true
is_single the.Semicolon marks.Semicolon = true
is_single _ _ = false

-- the parts of a file that may still be expected
pub data Sym : Type 0 where
  single : Single → Sym
  -- this word
  keyword : Text → Sym
  -- what is left of an expression
  formula : (st : State) → is_stuck st ≡ false → Sym
  file : Sym
  extensions : Sym
  slices : Sym
  -- which states a slice may start in
  slice_start : Sym
  mode : Sym
  modes : Sym
  -- a mode after its first word
  mode_rest : Sym
  mark : Sym
  -- a mark after its brace
  in_mark : Sym
  dynamics : Sym
  effect : Sym
  constant : Sym
  int : Sym
  guard : Sym

-- the list is some modes
abbrev pub IsModes : List Lexeme → Type 0
IsModes ts = (ms : List ModeTree) × SpellsMany SpellsMode ts ms

-- the list is a mark or none
abbrev pub IsMark : List Lexeme → Type 0
IsMark ts = (m : Option (List Text)) × SpellsMark ts m

-- the list is some mode
abbrev pub IsMode : List Lexeme → Type 0
IsMode ts = (m : ModeTree) × SpellsMode ts m

-- which lists a part stands for
abbrev pub spelled : Sym → List Lexeme → Type 0
spelled (single w) ts = (t : Lexeme) × (ts ≡ t ∷ []) × (is_single w (mark_of t) ≡ true)
spelled (keyword w) ts = ts ≡ word w ∷ []
spelled (formula st h) ts = is_whole (machine.run st ts) ≡ true
spelled file ts = (i : InstructionTree) × SpellsInstructions ts i
spelled extensions ts = (xs : List ExtensionTree) × SpellsMany SpellsExtension ts xs
spelled slices ts = (ss : List SliceTree) × SpellsMany SpellsSlice ts ss
spelled slice_start ts = (st : Start) × SpellsStart ts st
spelled mode ts = IsMode ts
spelled modes ts = IsModes ts
spelled mode_rest ts = IsMode (word (codes "MODE") ∷ ts)
spelled mark ts = IsMark ts
spelled in_mark ts = IsMark (sign k.OpenBrace ∷ ts)
spelled dynamics ts = (d : Dynamics) × SpellsDynamics ts d
spelled effect ts = (e : EffectTree) × SpellsEffect ts e
spelled constant ts = (c : Value) × SpellsConst ts c
spelled int ts = (n : ℤ) × SpellsInt ts n
spelled guard ts = (g : Option Formula) × SpellsGuard ts g

-- whether it may be nothing
abbrev pub empty : Sym → Bool
empty (formula st h) = is_whole st
empty file = true
empty extensions = true
empty slices = true
empty slice_start = true
empty modes = true
empty mark = true
empty guard = true
empty _ = false

-- a whole expression
abbrev pub expr : Sym
expr = formula start refl

-- an expression in this state before other parts, where it goes on
abbrev pub live : State → List Sym → Option (List Sym)
live = expected.live formula

-- these, where the test holds
abbrev pub where_so : Bool → List Sym → Option (List Sym)
where_so true s = Some s
where_so false s = None

-- what is still expected of extensions after a lexeme
abbrev pub after_extensions : Lexeme → Option (List Sym)
after_extensions t = where_so (is_word t (codes "EXTENSION")) (keyword (codes "OF") ∷ keyword (codes "MODULE") ∷ single the.Name ∷ slices
    ∷ extensions ∷ [])

-- the same of a mark
abbrev pub after_mark : Mark → Option (List Sym)
after_mark marks.OpenBrace = Some (in_mark ∷ [])
after_mark _ = None

-- the same inside a mark, which its closing brace alone ends
abbrev pub after_in_mark : Mark → Option (List Sym)
after_in_mark marks.CloseBrace = Some []
after_in_mark _ = Some (in_mark ∷ [])

-- the same of a number with its sign
abbrev pub after_int : Mark → Option (List Sym)
after_int marks.Number = Some []
after_int marks.Minus = Some (single the.Number ∷ [])
after_int _ = None

-- the same of a constant that is no truth value
abbrev pub after_constant : Mark → Option (List Sym)
after_constant marks.Name = Some []
after_constant c = after_int c

-- the effect whose word the lexeme is
abbrev pub effect_in : Lexeme → Option EffectKind
effect_in t = first_kind (λ w. is_word t w) effect_kinds

-- the arguments of an effect in parentheses, where it has some
abbrev pub arguments : EffectKind → List Sym
arguments (kind.Plain of) = []
arguments (kind.OfConstant of) = single the.Open ∷ constant ∷ single the.Close ∷ []
arguments (kind.OfExpression of) = single the.Open ∷ expr ∷ single the.Close ∷ []
arguments (kind.OfNumber of) = single the.Open ∷ int ∷ single the.Close ∷ []
arguments (kind.OfNumbers of) = single the.Open ∷ int ∷ single the.Comma ∷ int ∷ single the.Close ∷ []

-- the same of an effect
abbrev pub after_effect : Lexeme → Option (List Sym)
after_effect t = option_map arguments (effect_in t)

-- what is still expected of a part after a lexeme
abbrev pub next : Sym → Lexeme → Option (List Sym)
next (single w) t = where_so (is_single w (mark_of t)) []
next (keyword w) t = where_so (is_word t w) []
next (formula st h) t = live (machine.step st (role_of t)) []
next file t = if is_word t (codes "FAULT") then Some (keyword (codes "EXTENSION") ∷ single the.Name ∷ extensions
    ∷ []) else after_extensions t
next extensions t = after_extensions t
next slices t =
    where_so (is_word t (codes "SLICE")) (single the.Name ∷ keyword (codes "AFFECTS") ∷ single the.Name ∷ slice_start
    ∷ keyword (codes "WITH") ∷ mode ∷ modes ∷ slices ∷ [])
next slice_start t = where_so (is_word t (codes "INITIALLY")) (keyword (codes "ANY") ∷ [])
next mode t = where_so (is_word t (codes "MODE")) (mode_rest ∷ [])
next modes t = where_so (is_word t (codes "MODE")) (mode_rest ∷ modes ∷ [])
next mode_rest t = where_so (is_single the.Name (mark_of t)) (mark ∷ single the.Colon ∷ dynamics ∷ effect ∷ guard ∷ single the.Semicolon
    ∷ [])
next mark t = after_mark (mark_of t)
next in_mark t = after_in_mark (mark_of t)
next dynamics t = where_so (is_word t (codes "Permanent") || is_word t (codes "Transient")) []
next effect t = after_effect t
next constant t = if is_word t (codes "TRUE") || is_word t (codes "FALSE") then Some [] else after_constant (mark_of t)
next int t = after_int (mark_of t)
next guard t = where_so (is_word t (codes "WHEN")) (expr ∷ [])

-- whether the lexeme may follow the part
abbrev pub follow : Sym → Lexeme → Bool
follow (formula st h) t = is_single the.Semicolon (mark_of t) || is_single the.Close (mark_of t)
follow file t = false
follow extensions t = false
follow slices t = is_word t (codes "EXTENSION")
follow slice_start t = is_word t (codes "WITH")
follow modes t = is_word t (codes "SLICE") || is_word t (codes "EXTENSION")
follow mark t = is_single the.Colon (mark_of t)
follow guard t = is_single the.Semicolon (mark_of t)
follow _ t = true

-- a lexeme of this kind
abbrev pub shortest_single : Single → Lexeme
shortest_single the.Name = word (codes "x")
shortest_single the.Number = num 0 []
shortest_single the.Open = sign k.Open
shortest_single the.Close = sign k.Close
shortest_single the.Comma = sign k.Comma
shortest_single the.Colon = sign k.Colon
shortest_single the.Semicolon = sign k.Semicolon

-- a mode after its first word
abbrev pub shortest_mode : List Lexeme
shortest_mode = word (codes "x") ∷ sign k.Colon ∷ word (codes "Permanent") ∷ word (codes "Frozen") ∷ sign k.Semicolon ∷ []

-- a list that the part stands for
abbrev pub shortest : Sym → List Lexeme
shortest (single w) = shortest_single w ∷ []
shortest (keyword w) = word w ∷ []
shortest (formula st h) = completion st
shortest mode = word (codes "MODE") ∷ shortest_mode
shortest mode_rest = shortest_mode
shortest in_mark = sign k.CloseBrace ∷ []
shortest dynamics = word (codes "Permanent") ∷ []
shortest effect = word (codes "Frozen") ∷ []
shortest constant = num 0 [] ∷ []
shortest int = num 0 [] ∷ []
shortest _ = []

-- the grammar of instructions
abbrev pub instructions : Grammar Sym
instructions = record { Spelled = spelled; empty = empty; next = next; follow = follow; shortest = shortest }
