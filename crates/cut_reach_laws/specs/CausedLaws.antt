-- When the model with causes can be searched, and that its names differ.
use Rattle.std.specs.Prelude.{◌≡◌, ℕ, ◌<◌, ◌≤◌, ◌^◌, List, [], length}
use Rattle.smv_language.specs.Language.{Tree, Each, ProgramTree, FlatLeaf, FlatModel, AreApart}
use Rattle.smv_lexer.specs.Tokens.{IsWord}
use Rattle.smv_flat_laws.specs.History.{Mode, with_history}
use Rattle.smv_flat_laws.specs.Model.{IsFlatOf}
use Rattle.smv_flat_laws.specs.Rules.{IsAccepted}
use Rattle.fault_weave.specs.Faults.{Fault}
use Rattle.smv_type_laws.specs.Costs.{cost_of}
use Rattle.smv_type_laws.specs.Models.{IsTyped}
use Rattle.sat_encoding_laws.specs.Layout.{input_bits}
use Rattle.sat_encoding_laws.specs.Meanings.{AreSymbols}
use Rattle.sat_encoding_laws.specs.Encodable.{IsEncodable, IsFitTop}
use Rattle.sat_encoding_laws.specs.HistoryBits.{IsStateMode}
use Rattle.cut_search_laws.specs.Searchable.{IsSearchable}
use Rattle.cut_text_laws.specs.TraceOfText.{HasItsSymbols}
use Rattle.cut_text_laws.specs.Laws.{IsNamed}
use Rattle.fault_cause_laws.specs.Causes.{CommonCause, IsCauseOf}
use Rattle.fault_cause_laws.specs.CausesText.{WrittenCause, BytesSpellCauses}
use Rattle.fault_cause_laws.specs.CauseRules.{AreLawful, AreReadAs}
use Rattle.fault_cause_laws.specs.StagedModel.{with_causes, events_of}
use Rattle.sat_encoding_laws.specs.Variables.{most_asked_cost}

-- The model is encodable, its faults are modes of its state, the causes strike them, and the top event fits; inputs and event are small.
pub record CanHaveCauses (m : FlatModel) (fs : List Mode) (cs : List CommonCause) (top : Tree FlatLeaf) : Type 0 where
  pub encodable : IsEncodable m
  pub modes : Each (IsStateMode m) fs
  pub causes : Each (IsCauseOf (length fs)) cs
  pub fits : IsFitTop m top
  pub few_inputs : input_bits m ≤ 2 ^ 30
  pub small_top : cost_of top ≤ most_asked_cost

-- The model with causes can be searched with its events and the top event, is encodable itself, has the symbols of its types, and
-- the top event fits it.
pub record IsSearchableStaged (m : FlatModel) (fs : List Mode) (cs : List CommonCause) (top : Tree FlatLeaf) : Type 0 where
  pub searchable : IsSearchable (with_causes m fs cs) (events_of m fs cs) top
  pub encodable : IsEncodable (with_causes m fs cs)
  pub symbols : HasItsSymbols (with_causes m fs cs)
  pub fits : IsFitTop (with_causes m fs cs) top

-- It is so where its symbols are different, and it is typed with and without the history of its events.
abbrev pub CausedAreSearchable : Type 0
CausedAreSearchable =
    (m : FlatModel) (fs : List Mode) (cs : List CommonCause) (top : Tree FlatLeaf) → CanHaveCauses m fs cs top →
    AreSymbols (with_causes m fs cs).symbols → IsTyped (with_causes m fs cs) →
    IsTyped (with_history (with_causes m fs cs) (events_of m fs cs)) → IsSearchableStaged m fs cs top

-- what a text spells has words as names
abbrev pub SpelledAreWords : Type 0
SpelledAreWords = (bytes : List ℕ) (written : List WrittenCause) → BytesSpellCauses bytes written → Each (λ c. IsWord c.name []) written

-- The causes strike faults, the variables of the model with them have different names, and its symbols differ.
pub record AreNamed (m : FlatModel) (fs : List Mode) (cs : List CommonCause) : Type 0 where
  pub strikes : Each (IsCauseOf (length fs)) cs
  pub named : IsNamed (with_causes m fs cs)
  pub apart : AreApart (with_causes m fs cs).symbols

-- So it is where causes break no rule of an extension, in whose flat model names and symbols differ.
abbrev pub CausedAreNamed : Type 0
CausedAreNamed =
    (faults : List Fault) (w : ProgramTree) (m : FlatModel) (fs : List Mode) (written : List WrittenCause) (cs : List CommonCause) →
    IsAccepted w → IsFlatOf w m → IsNamed m → AreApart m.symbols →
    length faults < 2 ^ 62 → length faults ≡ length fs → AreLawful faults w written → AreReadAs faults w written cs →
    Each (λ c. IsWord c.name []) written → AreNamed m fs cs
