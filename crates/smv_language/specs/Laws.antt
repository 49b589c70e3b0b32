-- The laws of the grammar and of values, which small functions of `src/laws.rt` carry.
use Rattle.std.specs.Prelude.{◌≡◌, ◌+◌, ℕ, List, Some}
use Rattle.smv_language.specs.Tree.{Tree, Trees, Branches, truth, number, leaf, not_of, negate, next_of, binary, choice, case_of, set_of}
use Rattle.smv_language.specs.Tree.{span, no_tree, tree_then, no_branch, branch_then}
use Rattle.smv_language.specs.ProgramTree.{Text, Path, Formula, ProgramTree}
use Rattle.smv_language.specs.Lexemes.{Lexeme}
use Rattle.smv_language.specs.Spells.{at_expr, Spells}
use Rattle.smv_language.specs.SpellsProgram.{SpellsProgram, SpellsExpressions}
use Rattle.smv_language.specs.PrintedTokens.{printed, IsWritable}
use Rattle.smv_language.specs.Text.{text_of, program_text}
use Rattle.smv_language.specs.Bytes.{BytesSpellExpr, BytesSpellProgram}
use Rattle.smv_language.specs.WritableProgram.{IsWritableProgram}
use Rattle.smv_language.specs.Values.{Values}
use Rattle.smv_language.specs.Evaluate.{Leaves, evaluate}
use Rattle.smv_language.specs.Leaves.{tree_map}
use Rattle.smv_language.specs.Scope.{Place, Meaning, means_in}
use Rattle.smv_language.specs.May.{Valuation, name_values}

-- no list of tokens spells two expressions
abbrev pub SpellsOneExpression : Type 0
SpellsOneExpression = (ts : List Lexeme) (a b : Tree Path) → Spells at_expr ts a → Spells at_expr ts b → a ≡ b

-- nor two programs
abbrev pub SpellsOneProgram : Type 0
SpellsOneProgram = (ts : List Lexeme) (p q : ProgramTree) → SpellsProgram ts p → SpellsProgram ts q → p ≡ q

-- nor two lists of expressions
abbrev pub SpellsOneList : Type 0
SpellsOneList = (ts : List Lexeme) (es fs : List Formula) → SpellsExpressions ts es → SpellsExpressions ts fs → es ≡ fs

-- the printed tokens of an expression spell it
abbrev pub PrintedSpells : Type 0
PrintedSpells = (t : Tree Path) → IsWritable t → Spells at_expr (printed t) t

-- the text of an expression that can be written spells it
abbrev pub TextsSpell : Type 0
TextsSpell = (t : Formula) → IsWritable t → BytesSpellExpr (text_of t) t

-- the text of a program that can be written spells it
abbrev pub ProgramTextsSpell : Type 0
ProgramTextsSpell = (p : ProgramTree) → IsWritableProgram p → BytesSpellProgram (program_text p) p

-- what some text spells can be written
abbrev pub SpelledIsWritable : Type 0
SpelledIsWritable =
    ((bytes : Text) (t : Formula) → BytesSpellExpr bytes t → IsWritable t)
    × ((bytes : Text) (p : ProgramTree) → BytesSpellProgram bytes p → IsWritableProgram p)

-- what is found in so many steps is found in more
abbrev pub DeeperMeansTheSame : Type 0
DeeperMeansTheSame =
    (n d : ℕ) (p : ProgramTree) (at : Place) (name : Path) (m : Meaning) → means_in n p at name ≡ Some m →
    means_in (n + d) p at name ≡ Some m

-- what an expression gives at some depth it gives at each greater depth
abbrev pub DeeperGivesTheSame : Type 0
DeeperGivesTheSame =
    (n d : ℕ) (p : ProgramTree) (at : Place) (now next : Valuation) (e : Formula) (vs : Values) →
    evaluate (name_values n p at now next) (name_values n p at next next) e ≡ Some vs →
    evaluate (name_values (n + d) p at now next) (name_values (n + d) p at next next) e ≡ Some vs

-- each leaf of a tree has this property
abbrev mutual
  pub AllLeaves : {L : Type 0} → (L → Type 0) → Tree L → Type 0
  AllLeaves P (truth b) = Unit {0}
  AllLeaves P (number n) = Unit {0}
  AllLeaves P (leaf l) = P l
  AllLeaves P (not_of a) = AllLeaves P a
  AllLeaves P (negate a) = AllLeaves P a
  AllLeaves P (next_of a) = AllLeaves P a
  AllLeaves P (binary o a b) = AllLeaves P a × AllLeaves P b
  AllLeaves P (choice c a b) = AllLeaves P c × AllLeaves P a × AllLeaves P b
  AllLeaves P (case_of bs) = AllLeavesOfBranches P bs
  AllLeaves P (set_of ts) = AllLeavesOfTrees P ts
  AllLeaves P (span lo hi) = Unit {0}

  pub AllLeavesOfTrees : {L : Type 0} → (L → Type 0) → Trees L → Type 0
  AllLeavesOfTrees P no_tree = Unit {0}
  AllLeavesOfTrees P (tree_then t ts) = AllLeaves P t × AllLeavesOfTrees P ts

  pub AllLeavesOfBranches : {L : Type 0} → (L → Type 0) → Branches L → Type 0
  AllLeavesOfBranches P no_branch = Unit {0}
  AllLeavesOfBranches P (branch_then c a bs) = AllLeaves P c × AllLeaves P a × AllLeavesOfBranches P bs

-- where the leaves of an expression give the same now and next, so does the expression
abbrev pub AgreeingLeavesGiveTheSame : Type 0
AgreeingLeavesGiveTheSame =
    (t : Tree Path) (now now' next next' : Leaves Path) → AllLeaves (λ l. (now l ≡ now' l) × (next l ≡ next' l)) t →
    evaluate now next t ≡ evaluate now' next' t

-- evaluating a tree with its leaves changed is evaluating the tree over what the changed leaves give
abbrev pub MappedLeavesGiveTheSame : Type 0
MappedLeavesGiveTheSame =
    (f : Path → Path) (t : Tree Path) (now next : Leaves Path) →
    evaluate now next (tree_map f t) ≡ evaluate (λ l. now (f l)) (λ l. next (f l)) t
