-- What a search for cut sets is about.
use Rattle.std.specs.Prelude.{Bool, List}
use Rattle.smv_language.specs.Language.{Tree, Value, FlatLeaf, FlatModel}
use Rattle.smv_flat_laws.specs.History.{Mode, with_history}
use Rattle.sat_clauses.specs.declared.system.System.{System}
use Rattle.sat_encoding_laws.specs.Bits as bits
use Rattle.sat_encoding_laws.specs.Lists.{system_of}

-- A flat model without history, its faults by their numbers from 1 on, and a top event; and the clause lists of the model with
-- history, with the bits of the state and of the inputs of a valuation.
pub record Problem : Type 0 where
  pub model : FlatModel
  pub modes : List Mode
  pub top : Tree FlatLeaf
  pub system : System
  pub state_of : List Value → List Bool
  pub inputs_of : List Value → List Bool

-- the problem over the exact lists and bits of the model with history
abbrev pub problem_of : FlatModel → List Mode → Tree FlatLeaf → Problem
problem_of m fs top = record {
  model = m;
  modes = fs;
  top = top;
  system = system_of (with_history m fs);
  state_of = bits.state_of (with_history m fs);
  inputs_of = bits.inputs_of (with_history m fs);
}
