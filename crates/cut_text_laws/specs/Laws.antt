-- The laws of trace texts.
use Rattle.std.specs.Prelude.{◌≡◌, ◌≢◌, ◌⊎◌, ℕ, List, [], ◌∷◌, reverse, Some, slice_get}
use Rattle.smv_language.specs.Language.{Value, Each, AreNames, ProgramTree, IsWritableType, IsWritableProgram, FlatVariable, FlatModel}
use Rattle.smv_flat_laws.specs.FlatTrace.{AreInDomains}
use Rattle.smv_flat_laws.specs.Model.{IsFlatOf}
use Rattle.smv_flat_laws.specs.Rules.{IsAccepted}
use Rattle.cut_text_laws.specs.Lines.{Line, fed, IsLine}
use Rattle.std.specs.List.{AllByRecursion}
use Rattle.cut_text_laws.specs.TraceText.{trace_lines, trace_text}
use Rattle.cut_text_laws.specs.TraceOfText.{IsPrintable, HasItsSymbols, GivesTrace, BytesGive}
use Rattle.cut_text_laws.specs.TraceFaults.{LineFault, AreSound, IsWrongLine, TraceFault, IsFirstFault}

-- a text gives at most one trace
abbrev pub OneTrace : Type 0
OneTrace =
    (m : FlatModel) → IsPrintable m →
    ((lines : List Line) (t u : List (List Value)) → GivesTrace m lines t → GivesTrace m lines u → t ≡ u)
    × ((bytes : List ℕ) (t u : List (List Value)) → BytesGive m bytes t → BytesGive m bytes u → t ≡ u)

-- the printed text of valuations in their domains gives these, and no other
abbrev pub PrintedGivesAlone : Type 0
PrintedGivesAlone =
    (m : FlatModel) → IsPrintable m → (trace : List (List Value)) → trace ≢ [] → Each (AreInDomains m.variables) trace →
    GivesTrace m (trace_lines m 0 trace) trace
    × ((other : List (List Value)) → GivesTrace m (trace_lines m 0 trace) other → other ≡ trace)
    × BytesGive m (trace_text m trace) trace
    × ((other : List (List Value)) → BytesGive m (trace_text m trace) other → other ≡ trace)

-- at most one fault is the first of a text
abbrev pub OneFault : Type 0
OneFault = (m : FlatModel) (bytes : List ℕ) (f g : TraceFault) → IsFirstFault m bytes f → IsFirstFault m bytes g → f ≡ g

-- and none where the text gives a trace
abbrev pub GivenHasNone : Type 0
GivenHasNone = (m : FlatModel) → IsPrintable m → (bytes : List ℕ) (trace : List (List Value)) (f : TraceFault) → BytesGive m bytes trace →
    IsFirstFault m bytes f → ⊥

-- a text gives a trace, or something is wrong first with it
abbrev pub EachTextIsJudged : Type 0
EachTextIsJudged = (m : FlatModel) → IsPrintable m → (bytes : List ℕ) →
    ((trace : List (List Value)) × BytesGive m bytes trace) ⊎ ((f : TraceFault) × IsFirstFault m bytes f)

-- nothing is wrong with any line of a text, or one is the first with which something is
abbrev pub LinesAreJudged : Type 0
LinesAreJudged =
    (m : FlatModel) → IsPrintable m → (bytes : List ℕ) →
    ((lines : List Line) × (bytes ≡ fed lines) × AllByRecursion IsLine lines × AreSound m lines)
    ⊎ ((f : LineFault) × (n : ℕ) × IsWrongLine m bytes f n)

-- Each variable's names can be printed, and so can its type; no two variables have one place and name.
pub record IsNamed (m : FlatModel) : Type 0 where
  pub names : (i : ℕ) (x : FlatVariable) → slice_get m.variables i ≡ Some x → AreNames (reverse (x.name ∷ x.place))
  pub apart : (i j : ℕ) (x y : FlatVariable) → slice_get m.variables i ≡ Some x → slice_get m.variables j ≡ Some y → x.place ≡ y.place →
      x.name ≡ y.name → i ≡ j
  pub types : (i : ℕ) (x : FlatVariable) → slice_get m.variables i ≡ Some x → IsWritableType x.declared

-- then the variables are printed as different words
abbrev pub NamedIsPrintable : Type 0
NamedIsPrintable = (m : FlatModel) → IsNamed m → IsPrintable m

-- and those of the flat model of a program that can be written are
abbrev pub FlatModelsAreNamed : Type 0
FlatModelsAreNamed = (p : ProgramTree) (m : FlatModel) → IsAccepted p → IsFlatOf p m → IsWritableProgram p → IsNamed m

-- which has the symbols of its types
abbrev pub FlatModelsHaveSymbols : Type 0
FlatModelsHaveSymbols = (p : ProgramTree) (m : FlatModel) → IsAccepted p → IsFlatOf p m → HasItsSymbols m
