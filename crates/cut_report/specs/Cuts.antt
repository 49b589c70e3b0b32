-- Lines that are cut into words.
use Rattle.std.specs.Prelude.{◌≢◌, []}
use Rattle.base_values.specs.Separators.{Lacks}
use Rattle.cut_text_laws.specs.Lines.{Line}
use Rattle.cut_text_laws.specs.TraceFaults.{IsEquation}

-- a word has a byte, and none of its bytes is a space
abbrev pub IsSpaceless : Line → Type 0
IsSpaceless w = (w ≢ []) × Lacks 32 w

-- no words make the line an equation
abbrev pub IsNoEquation : Line → Type 0
IsNoEquation line = (name value : Line) → IsEquation name value line → ⊥
