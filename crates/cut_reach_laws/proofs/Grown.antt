-- A model with one more boolean of the state, a formula of the first moment and one of each step: what the model read and was,
-- it reads and is.
use Rattle.std.proofs.Common.{◌≡◌, suc, ◌≤◌, false, List, [], ◌∷◌, ◌++◌, length, sym, ◌∙◌, ap, subst, arith}
use Rattle.smv_language.specs.Language.{Tree, boolean, Each, FlatLeaf, FlatVariable, FlatFormula, FlatModel}
use Rattle.smv_flat_laws.specs.NameResolution.{leaves_in}
use Rattle.smv_flat_laws.specs.Rules.{leaves_under}
use Rattle.smv_flat_laws.proofs.Lists.{each_more, length_end}
use Rattle.smv_type_laws.specs.Models.{leaf_kind, judged_variables, judged_definitions, kind_of_leaf, judged_in}
use Rattle.smv_type_laws.specs.Laws.{IsKnown, ReadsOwn, ReadOwn, IsClosed}
use Rattle.smv_type_laws.proofs.ModelLaws.{judge_agrees, all_leaves_more}
use Rattle.sat_encoding_laws.specs.Inputs.{names_input, reading_after, reads_input}
use Rattle.sat_encoding_laws.specs.Meanings.{AreSymbols}
use Rattle.sat_encoding_laws.specs.Encodable.{IsListedType, is_input_name, reads_next_input}
use Rattle.sat_encoding_laws.proofs.HistoryEncodable.{each_under, known_wider, same_name, same_reading, order_wider}
use Rattle.sat_encoding_laws.proofs.NameMeans.{each_leaf, same_any}
use Rattle.sat_encoding_laws.proofs.HistoryTyped.{same_kind as same_kind_in, same_definitions}
use Rattle.smv_flat_laws.proofs.Conditions.{each_join}

-- what an encodable model is but for being typed
pub record HasClauses (m : FlatModel) : Type 0 where
  pub closed : IsClosed m
  pub symbols : AreSymbols m.symbols
  pub types : Each (λ x. IsListedType m.symbols x.declared) m.variables
  pub at_first : Each (λ f. reads_input m f.value ≡ false) m.at_first
  pub at_each : Each (λ f. reads_input m f.value ≡ false) m.at_each
  pub at_step : Each (λ f. reads_next_input m f.value ≡ false) m.at_step

-- the model with one more variable and one more formula of each kind at the end
abbrev pub grown : FlatModel → FlatVariable → FlatFormula → FlatFormula → FlatModel
grown m v f g =
    record {
      instances = m.instances;
      variables = m.variables ++ v ∷ [];
      definitions = m.definitions;
      symbols = m.symbols;
      at_first = m.at_first ++ f ∷ [];
      at_each = m.at_each;
      at_step = m.at_step ++ g ∷ [];
    }

module _ (m : FlatModel) (v : FlatVariable) (f g : FlatFormula) (closed : IsClosed m) where
  pub longer : length (m.variables ++ v ∷ []) ≡ suc (length m.variables)
  longer = length_end m.variables v

  wider : length m.variables ≤ length (m.variables ++ v ∷ [])
  wider = omega (arith, longer)

  same_input : (l : FlatLeaf) → IsKnown (length m.variables) (length m.symbols) (length m.definitions) l → is_input_name (grown m v f g) l ≡ is_input_name m l
  same_input l known =
      ap (λ flags. names_input (m.variables ++ v ∷ []) flags l) (same_reading m.variables (v ∷ []) [] (length m.symbols) 0 m.definitions closed.definitions)
      ∙ same_name m.variables (v ∷ []) (reading_after m.variables [] m.definitions) (length m.symbols) (length m.definitions) l known

  same_kind : (l : FlatLeaf) → IsKnown (length m.variables) (length m.symbols) (length m.definitions) l → kind_of_leaf (grown m v f g) l ≡ kind_of_leaf m l
  same_kind l known =
      ap (λ js. leaf_kind (judged_variables (m.variables ++ v ∷ [])) js l) (same_definitions m.variables (v ∷ []) [] (length m.symbols) 0 m.definitions closed.definitions)
      ∙ same_kind_in m.variables (v ∷ []) (judged_definitions m) (length m.symbols) (length m.definitions) l known

  -- an expression of the model
  pub own_grown : (e : Tree FlatLeaf) → ReadsOwn m e → ReadsOwn (grown m v f g) e
  own_grown e own =
      all_leaves_more (IsKnown (length m.variables) (length m.symbols) (length m.definitions)) (IsKnown (length (m.variables ++ v ∷ [])) (length m.symbols) (length m.definitions))
      (known_wider (length m.variables) (length (m.variables ++ v ∷ [])) (length m.symbols) (length m.definitions) wider) e own

  pub quiet_grown : (e : Tree FlatLeaf) → ReadsOwn m e → reads_input (grown m v f g) e ≡ reads_input m e
  quiet_grown e own =
      same_any (is_input_name (grown m v f g)) (is_input_name m) (leaves_in e)
      (each_leaf (λ l. is_input_name (grown m v f g) l ≡ is_input_name m l) e
      (all_leaves_more (IsKnown (length m.variables) (length m.symbols) (length m.definitions)) (λ l. is_input_name (grown m v f g) l ≡ is_input_name m l) same_input e own))

  quiet_next_grown : (e : Tree FlatLeaf) → ReadsOwn m e → reads_next_input (grown m v f g) e ≡ reads_next_input m e
  quiet_next_grown e own =
      same_any (is_input_name (grown m v f g)) (is_input_name m) (leaves_under e)
      (each_under (λ l. is_input_name (grown m v f g) l ≡ is_input_name m l) e
      (all_leaves_more (IsKnown (length m.variables) (length m.symbols) (length m.definitions)) (λ l. is_input_name (grown m v f g) l ≡ is_input_name m l) same_input e own))

  pub judged_grown : (e : Tree FlatLeaf) → ReadsOwn m e → judged_in (grown m v f g) false e ≡ judged_in m false e
  judged_grown e own =
      judge_agrees (kind_of_leaf (grown m v f g)) (kind_of_leaf m) false e
      (all_leaves_more (IsKnown (length m.variables) (length m.symbols) (length m.definitions)) (λ l. kind_of_leaf (grown m v f g) l ≡ kind_of_leaf m l) same_kind e own)

  -- formulas of the model
  own_all : (gs : List FlatFormula) → ReadOwn m gs → ReadOwn (grown m v f g) gs
  own_all gs h = each_more (λ (e : FlatFormula). ReadsOwn m e.value) (λ (e : FlatFormula). ReadsOwn (grown m v f g) e.value) gs (λ e k. own_grown e.value k) h

  quiet_all : (gs : List FlatFormula) → ReadOwn m gs → Each (λ e. reads_input m e.value ≡ false) gs → Each (λ e. reads_input (grown m v f g) e.value ≡ false) gs
  quiet_all [] own h = tt
  quiet_all (e ∷ gs) own h = (quiet_grown e.value own.0 ∙ h.0, quiet_all gs own.1 h.1)

  quiet_next_all : (gs : List FlatFormula) → ReadOwn m gs → Each (λ e. reads_next_input m e.value ≡ false) gs → Each (λ e. reads_next_input (grown m v f g) e.value ≡ false) gs
  quiet_next_all [] own h = tt
  quiet_next_all (e ∷ gs) own h = (quiet_next_grown e.value own.0 ∙ h.0, quiet_next_all gs own.1 h.1)

-- what the added formulas are to be
pub record AreOwnFormulas (n : FlatModel) (f g : FlatFormula) : Type 0 where
  pub first_own : ReadsOwn n f.value
  pub first_quiet : reads_input n f.value ≡ false
  pub step_own : ReadsOwn n g.value
  pub step_quiet : reads_next_input n g.value ≡ false

pub clauses_grown : (m : FlatModel) (v : FlatVariable) (f g : FlatFormula) → HasClauses m → v.declared ≡ boolean → AreOwnFormulas (grown m v f g) f g → HasClauses (grown m v f g)
clauses_grown m v f g is b own =
    let at : IsListedType m.symbols v.declared = subst (λ d. IsListedType m.symbols d) (sym b) tt in
    record {
      closed = record {
        definitions = order_wider (length m.variables) (length (m.variables ++ v ∷ [])) (length m.symbols) 0 (wider m v f g is.closed) m.definitions is.closed.definitions;
        at_first = each_join (λ (e : FlatFormula). ReadsOwn (grown m v f g) e.value) m.at_first (f ∷ []) (own_all m v f g is.closed m.at_first is.closed.at_first) (own.first_own, tt);
        at_each = own_all m v f g is.closed m.at_each is.closed.at_each;
        at_step = each_join (λ (e : FlatFormula). ReadsOwn (grown m v f g) e.value) m.at_step (g ∷ []) (own_all m v f g is.closed m.at_step is.closed.at_step) (own.step_own, tt);
      };
      symbols = is.symbols;
      types = each_join (λ (x : FlatVariable). IsListedType m.symbols x.declared) m.variables (v ∷ []) is.types (at, tt);
      at_first = each_join (λ (e : FlatFormula). reads_input (grown m v f g) e.value ≡ false) m.at_first (f ∷ []) (quiet_all m v f g is.closed m.at_first is.closed.at_first is.at_first) (own.first_quiet, tt);
      at_each = quiet_all m v f g is.closed m.at_each is.closed.at_each is.at_each;
      at_step = each_join (λ (e : FlatFormula). reads_next_input (grown m v f g) e.value ≡ false) m.at_step (g ∷ []) (quiet_next_all m v f g is.closed m.at_step is.closed.at_step is.at_step) (own.step_quiet, tt);
    }
