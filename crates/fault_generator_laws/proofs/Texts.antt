-- The generator's texts are short, so that what they spell is within the depths.
use Rattle.std.proofs.Common.{◌≡◌, ℕ, suc, ◌+◌, ◌*◌, ◌<◌, ◌≤◌, arith, List, [], ◌∷◌, ◌++◌, length, Option, Some, None, subst, length-append, suc-mul}
use Rattle.std.specs.Prelude.{codes, map}
use Rattle.std.proofs.lemmas.Fmt.{length-decimal-le}
use Rattle.base_values.specs.declared.limits.TheConstants.{MOST_STAGES}
use Rattle.smv_language.specs.Language.{height_of, Text, Formula, ProgramTree, text_of, declared_text, line, decl_line, define_line, all_of, section_text, module_text, program_text, Each, Lexeme, word, lexemes_of}
use Rattle.smv_flat_laws.proofs.Lists.{each_more}
use Rattle.fault_instructions.specs.Instructions.{EffectTree, EachArgument, ModeTree, SliceTree, ExtensionTree, InstructionTree}
use Rattle.fault_instructions.specs.InstructionText.{instructions_text, extension_words}
use Rattle.fault_instructions.specs.SpellsInstructions.{no_argument, a_constant, an_expression, a_number, two_numbers, SpellsEffect, an_effect, SpellsGuard, no_guard, a_guard, SpellsMode, a_mode, SpellsSlice, a_slice, SpellsExtension, an_extension, SpellsInstructions, unnamed, named}
use Rattle.fault_reader.specs.InstructionDepths.{in_effect, in_guard, in_mode, in_slice, in_extension, in_instructions}
use Rattle.smv_expression_reader.specs.ExpressionDepths.{AreWithin}
use Rattle.smv_model_reader.specs.ProgramDepths.{HasProgramDepths}
use Rattle.fault_generator.specs.Generator.{stage_name, output_of, stage, dead_formula, dead_section, relay_module, generated_instructions}
use Rattle.fault_generator_laws.specs.Laws.{GeneratedTextIsShort, GeneratedTextHasDepths, InstructionTextIsShort, InstructionTextHasDepths, TopTextHasDepths}
use Rattle.fault_generator_laws.proofs.Stages.{IsStageBefore, stages_from, main_of, program_of, AreStages, generated_of_stages}
use Rattle.fault_generator_laws.proofs.Short.{spelling_long, lexemes_short}
use Rattle.fault_generator_laws.proofs.Depths.{back_short, IsShort, IsLow, IsLowDecl, IsLowProgram, within_both, many_within, short_has_depths}

-- Up to 99 stages a line of a stage has at most 24 bytes.
name_long : (i : ℕ) → i < 100 → length (stage_name i) ≤ 3
name_long i h = omega (arith, length-decimal-le 2 i (omega arith) (omega (arith, h)) (omega (arith, h)))

output_long : (f : Option ℕ) → IsStageBefore 100 f → length (text_of (output_of f)) ≤ 7
output_long None h = omega arith
output_long (Some j) h = omega (arith, name_long j h.1, length-append (stage_name j) (codes ".out"))

line_long : (item : Text) → length (line item) ≡ length item + 4
line_long item = omega (arith, length-append item (codes ";\n"))

stage_long : (i : ℕ) (f : Option ℕ) → i < 100 → IsStageBefore 100 f → length (decl_line (stage i f)) ≤ 24
stage_long i f h k = omega (
  arith,
  line_long (stage_name i ++ (codes " : " ++ declared_text (stage i f).what)),
  length-append (stage_name i) (codes " : " ++ declared_text (stage i f).what),
  length-append (text_of (output_of f) ++ []) (codes ")"),
  length-append (text_of (output_of f)) [],
  name_long i h,
  output_long f k,
)

stages_long : (i : ℕ) (fs : List (Option ℕ)) → i + length fs ≤ 100 → Each (IsStageBefore 100) fs → length (all_of (map decl_line (stages_from i fs))) ≤ length fs * 24
stages_long i [] h k = omega arith
stages_long i (f ∷ fs) h k = omega (
  arith,
  length-append (decl_line (stage i f)) (all_of (map decl_line (stages_from (suc i) fs))),
  stage_long i f (omega (arith, h)) k.0,
  stages_long (suc i) fs (omega (arith, h)) k.1,
  suc-mul (length fs) 24,
)

-- the line of `dead`, and all around the stages
dead_long : (last_a last_b : Option ℕ) → IsStageBefore 100 last_a → IsStageBefore 100 last_b → length (section_text (dead_section last_a last_b)) ≤ 44
dead_long last_a last_b h k = omega (
  arith,
  length-append (define_line (record { name = codes "dead"; value = dead_formula last_a last_b })) [],
  line_long (codes "dead" ++ (codes " := " ++ text_of (dead_formula last_a last_b))),
  length-append (text_of (output_of last_a)) (codes ")"),
  length-append (text_of (output_of last_a) ++ codes ")") (codes " & " ++ (codes "(!" ++ (text_of (output_of last_b) ++ codes ")") ++ codes ")")),
  length-append (codes "(!" ++ (text_of (output_of last_b) ++ codes ")")) (codes ")"),
  length-append (text_of (output_of last_b)) (codes ")"),
  output_long last_a h,
  output_long last_b k,
)

module _ (fs : List (Option ℕ)) (last_a last_b : Option ℕ) (are : AreStages fs last_a last_b) (few : length fs ≤ MOST_STAGES) where
  abbrev p : ProgramTree
  p = program_of fs last_a last_b

  before_hundred : (f : Option ℕ) → IsStageBefore (suc (length fs)) f → IsStageBefore 100 f
  before_hundred None h = tt
  before_hundred (Some j) h = (h.0, omega (arith, h.1, few))

  main_long : length (module_text (main_of fs last_a last_b)) ≤ 60 + length fs * 24
  main_long = omega (
    arith,
    length-append (all_of (map decl_line (stages_from 1 fs))) (section_text (dead_section last_a last_b) ++ []),
    length-append (section_text (dead_section last_a last_b)) [],
    stages_long 1 fs (omega (arith, few)) (each_more (IsStageBefore (suc (length fs))) (IsStageBefore 100) fs before_hundred are.fed),
    dead_long last_a last_b (before_hundred last_a are.is_a) (before_hundred last_b are.is_b),
  )

  text_short : length (program_text p) ≤ 2000
  text_short = omega (arith, length-append (module_text relay_module) (module_text (main_of fs last_a last_b) ++ []), length-append (module_text (main_of fs last_a last_b)) [], main_long, few)

  stages_low : (i : ℕ) (gs : List (Option ℕ)) → Each IsLowDecl (stages_from i gs)
  stages_low i [] = tt
  stages_low i (None ∷ gs) = ((omega arith, tt), stages_low (suc i) gs)
  stages_low i (Some j ∷ gs) = ((omega arith, tt), stages_low (suc i) gs)

  output_low : (f : Option ℕ) → height_of (output_of f) ≤ 1
  output_low None = omega arith
  output_low (Some j) = omega arith

  dead_low : IsLow (dead_formula last_a last_b)
  dead_low = omega (arith, output_low last_a, output_low last_b)

  program_low : IsLowProgram p
  program_low = (((tt, tt), ((omega arith, tt), tt)), ((stages_low 1 fs, ((dead_low, tt), tt)), tt))

  text_has_depths : HasProgramDepths (program_text p) p
  text_has_depths = short_has_depths (program_text p) p text_short program_low

pub generated_text_short : GeneratedTextIsShort
generated_text_short number stages few =
    let of = generated_of_stages number stages (omega (arith, few)) in
    subst (λ p. length (program_text p) ≤ 2000) of.same (text_short of.fs of.last_a of.last_b of.are (omega (arith, of.count, few)))

pub generated_text_has_depths : GeneratedTextHasDepths
generated_text_has_depths number stages few =
    let of = generated_of_stages number stages (omega (arith, few)) in
    subst (λ p. HasProgramDepths (program_text p) p) of.same (text_has_depths of.fs of.last_a of.last_b of.are (omega (arith, of.count, few)))

-- The instructions have no expression.
pub instruction_text_short : InstructionTextIsShort
unfolding extension_words
instruction_text_short = omega arith

abbrev FollowsNone : EffectTree → Type 0
FollowsNone e = EachArgument (λ c. Unit {0}) (λ f. ⊥) (λ n. Unit {0}) e

abbrev IsNone : {A : Type 0} → Option A → Type 0
IsNone None = Unit {0}
IsNone (Some a) = ⊥

abbrev HasNoExpression : ModeTree → Type 0
HasNoExpression m = FollowsNone m.effect × IsNone m.guard

abbrev SliceHasNone : SliceTree → Type 0
SliceHasNone s = Each HasNoExpression s.modes

abbrev ExtensionHasNone : ExtensionTree → Type 0
ExtensionHasNone x = Each SliceHasNone x.slices

effect_within : {ts : List Lexeme} {e : EffectTree} (p : SpellsEffect ts e) → FollowsNone e → AreWithin (in_effect p)
effect_within (an_effect no_argument) h = tt
effect_within (an_effect (a_constant p)) h = tt
effect_within (an_effect (an_expression p)) h = absurd h
effect_within (an_effect (a_number p)) h = tt
effect_within (an_effect (two_numbers p q)) h = tt

guard_within : {ts : List Lexeme} {g : Option Formula} (p : SpellsGuard ts g) → IsNone g → AreWithin (in_guard p)
guard_within no_guard h = tt
guard_within (a_guard p) h = absurd h

mode_within : (ts : List Lexeme) (m : ModeTree) (p : SpellsMode ts m) → IsShort ts → HasNoExpression m → AreWithin (in_mode ts m p)
mode_within ts m (a_mode n mark d e g) short h = within_both (in_effect e) (in_guard g) (effect_within e h.0) (guard_within g h.1)

slice_within : (ts : List Lexeme) (s : SliceTree) (p : SpellsSlice ts s) → IsShort ts → SliceHasNone s → AreWithin (in_slice ts s p)
slice_within ts s (a_slice {ns = ns} {ts = us} x y start some p) short h =
    many_within SpellsMode in_mode HasNoExpression mode_within p (omega (arith, back_short ns (word (codes "WITH") ∷ us) (omega (arith, short)))) h

extension_within : (ts : List Lexeme) (x : ExtensionTree) (p : SpellsExtension ts x) → IsShort ts → ExtensionHasNone x → AreWithin (in_extension ts x p)
extension_within ts x (an_extension n p) short h = many_within SpellsSlice in_slice SliceHasNone slice_within p (omega (arith, short)) h

instructions_within : (ts : List Lexeme) (i : InstructionTree) (p : SpellsInstructions ts i) → IsShort ts → Each ExtensionHasNone i.extensions → AreWithin (in_instructions p)
instructions_within ts i (unnamed p) short h = many_within SpellsExtension in_extension ExtensionHasNone extension_within p short h
instructions_within ts i (named n p) short h = many_within SpellsExtension in_extension ExtensionHasNone extension_within p (omega (arith, short)) h

pub instruction_text_has_depths : InstructionTextHasDepths
instruction_text_has_depths tokens split spelled =
    instructions_within (lexemes_of (instructions_text generated_instructions) tokens) generated_instructions spelled
    (omega (arith, lexemes_short (instructions_text generated_instructions) tokens split, instruction_text_short)) ((((tt, tt), tt), tt), tt)

pub top_text_has_depths : TopTextHasDepths
top_text_has_depths = (omega arith, λ tokens split spelled. omega (arith, spelling_long spelled, lexemes_short (codes "dead") tokens split))
