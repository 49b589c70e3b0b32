-- The words that are no names, a row each: the text, what the word is in an expression, what it is outside, and whether it
-- begins a module or a section.
use Rattle.std.specs.Prelude.{ℕ, Bool, true, false, List, [], ◌∷◌, ◌++◌, Option, map, codes}
use Rattle.std.specs.Borrow.{Bor}
use Rattle.std.specs.Option.{unwrap_or}
use Rattle.smv_language.specs.declared.expr.Op.TheVariants as op
use Rattle.smv_language.specs.Language.{first_with, skipped_words, left_out_words}
use Rattle.smv_expression_reader.specs.declared.machine.TokenRole.{TokenRole as Role}
use Rattle.smv_expression_reader.specs.declared.machine.TokenRole.TheVariants as role
use Rattle.smv_expression_reader.specs.declared.mark.Mark.{Mark}
use Rattle.smv_expression_reader.specs.declared.mark.Mark.TheVariants as mark

-- first those that begin a section, then those of expressions, types and targets, then those that the language left out
abbrev pub word_rows : List (List ℕ × (Role × Mark × Bool))
word_rows =
    (codes "MODULE", (role.Nothing, mark.Module, true)) ∷ (codes "VAR", (role.Nothing, mark.Var, true)) ∷
    (codes "IVAR", (role.Nothing, mark.Ivar, true)) ∷ (codes "FROZENVAR", (role.Nothing, mark.Frozen, true)) ∷
    (codes "DEFINE", (role.Nothing, mark.Define, true)) ∷ (codes "CONSTANTS", (role.Nothing, mark.Constants, true)) ∷
    (codes "ASSIGN", (role.Nothing, mark.Assign, true)) ∷ (codes "INIT", (role.Nothing, mark.Init, true)) ∷
    (codes "INVAR", (role.Nothing, mark.Invar, true)) ∷ (codes "TRANS", (role.Nothing, mark.Trans, true)) ∷
    map (λ w. (w, (role.Nothing, mark.Skipped, true))) skipped_words ++
    map (λ w. (w, (role.Nothing, mark.Nothing, true))) (codes "FAIRNESS" ∷ codes "JUSTICE" ∷ codes "COMPASSION" ∷ []) ++
    (codes "case", (role.Case, mark.Nothing, false)) ∷ (codes "esac", (role.Esac, mark.Nothing, false)) ∷
    (codes "mod", (role.Joins op.Mod, mark.Nothing, false)) ∷ (codes "next", (role.Next, mark.After, false)) ∷
    (codes "init", (role.Nothing, mark.First, false)) ∷ (codes "union", (role.Joins op.Union, mark.Nothing, false)) ∷
    (codes "in", (role.Joins op.Within, mark.Nothing, false)) ∷ (codes "xor", (role.Joins op.Xor, mark.Nothing, false)) ∷
    (codes "xnor", (role.Joins op.Xnor, mark.Nothing, false)) ∷ (codes "TRUE", (role.Truth true, mark.Nothing, false)) ∷
    (codes "FALSE", (role.Truth false, mark.Nothing, false)) ∷ (codes "boolean", (role.Nothing, mark.Boolean, false)) ∷
    map (λ w. (w, (role.Nothing, mark.Nothing, false))) left_out_words

-- a row in memory as the definitions see it
abbrev pub row_view : Bor (List ℕ) × Role × Mark × Bool → List ℕ × (Role × Mark × Bool)
row_view row = (row.0.now, (row.1, row.2, row.3))

-- the rest of a row; a word without one is a name
abbrev pub use_or_name : Option (Role × Mark × Bool) → Role × Mark × Bool
use_or_name row = unwrap_or row (role.Name, mark.Name, false)

-- the rest of the row of a word
abbrev pub use_of : List ℕ → Role × Mark × Bool
use_of x = use_or_name (first_with word_rows x)

-- whether a word is left out of the language: it is nothing in an expression, and nothing outside
abbrev pub is_nothing : Role → Mark → Bool
is_nothing role.Nothing mark.Nothing = true
is_nothing r m = false
