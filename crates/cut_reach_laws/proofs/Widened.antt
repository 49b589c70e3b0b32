-- A model with an addition that reads the state alone: what the model read and was, it reads and is.
use Rattle.std.proofs.Common.{◌≡◌, ℕ, ◌<◌, ◌≤◌, false, List, [], ◌∷◌, ◌++◌, length, Some, refl, ◌∙◌, ap, arith}
use Rattle.std.specs.Prelude.{slice_get}
use Rattle.std.proofs.lemmas.List.{length-append}
use Rattle.smv_language.specs.declared.program.Member.{Member}
use Rattle.smv_language.specs.declared.program.Member.TheVariants as member
use Rattle.smv_language.specs.Language.{Text, DeclaredTree, boolean, range, members, instance, Tree, AllLeaves, Each, FlatLeaf, flat_variable, flat_symbol, flat_definition, FlatVariable, FlatFormula, FlatModel}
use Rattle.smv_flat_laws.specs.History.{Mode}
use Rattle.smv_flat_laws.specs.NameResolution.{leaves_in}
use Rattle.smv_flat_laws.specs.Rules.{leaves_under}
use Rattle.smv_flat_laws.proofs.Lists.{each_more}
use Rattle.fault_cause_laws.specs.Additions.{Addition, with_addition}
use Rattle.smv_type_laws.specs.Models.{leaf_kind, judged_variables, judged_definitions, kind_of_leaf, judged_in, broken_condition}
use Rattle.smv_type_laws.specs.Laws.{IsKnown, ReadsOwn, ReadOwn, IsClosed}
use Rattle.smv_type_laws.proofs.ModelLaws.{judge_agrees, all_leaves_more}
use Rattle.sat_encoding_laws.specs.Inputs.{is_input, is_input_variable, names_input, reading_after, reads_input}
use Rattle.sat_encoding_laws.specs.Encodable.{IsListedMember, IsListedType, is_input_name, reads_next_input, IsFitTop}
use Rattle.sat_encoding_laws.specs.HistoryBits.{IsStateMode}
use Rattle.sat_encoding_laws.proofs.HistoryEncodable.{each_under, same_name, same_reading}
use Rattle.sat_encoding_laws.proofs.NameMeans.{each_leaf, same_any}
use Rattle.std.proofs.lemmas.Option.{slice_get_within as got_below}
use Rattle.sat_encoding_laws.proofs.HistoryTyped.{same_kind as same_kind_in, same_definitions}
use Rattle.sat_encoding_laws.proofs.FlatInputs.{none_any}
use Rattle.fault_cause_laws.proofs.AddedKinds.{known_wider, order_wider}
use Rattle.smv_flat_laws.proofs.Conditions.{each_join}
use Rattle.base_values.proofs.ListLaws.{get_left}

-- the number is that of a variable of the state
pub record IsStateVariable (n : FlatModel) (i : ℕ) : Type 0 where
  pub variable : FlatVariable
  pub is_variable : slice_get n.variables i ≡ Some variable
  pub is_state : is_input variable.role ≡ false

-- the name is one of the state, or a symbol
abbrev pub IsStateName : FlatModel → FlatLeaf → Type 0
IsStateName n (flat_variable i) = IsStateVariable n i
IsStateName n (flat_symbol i) = i < length n.symbols
IsStateName n (flat_definition i) = ⊥

abbrev pub ReadState : FlatModel → List FlatFormula → Type 0
ReadState n fs = Each (λ f. AllLeaves (IsStateName n) f.value) fs

-- what an encodable model is but for being typed and for its symbols
pub record HasClauses (m : FlatModel) : Type 0 where
  pub closed : IsClosed m
  pub types : Each (λ x. IsListedType m.symbols x.declared) m.variables
  pub at_first : Each (λ f. reads_input m f.value ≡ false) m.at_first
  pub at_each : Each (λ f. reads_input m f.value ≡ false) m.at_each
  pub at_step : Each (λ f. reads_next_input m f.value ≡ false) m.at_step

-- an addition of variables of the state, whose formulas read the state
pub record IsOfState (m : FlatModel) (a : Addition) : Type 0 where
  pub types : Each (λ x. IsListedType (m.symbols ++ a.symbols) x.declared) a.variables
  pub state : Each (λ x. is_input x.role ≡ false) a.variables
  pub at_first : ReadState (with_addition m a) a.at_first
  pub at_each : ReadState (with_addition m a) a.at_each
  pub at_step : ReadState (with_addition m a) a.at_step

-- ---- what reads the state

known_of : (n : FlatModel) (l : FlatLeaf) → IsStateName n l → IsKnown (length n.variables) (length n.symbols) (length n.definitions) l
known_of n (flat_variable i) h = got_below n.variables i h.variable h.is_variable
known_of n (flat_symbol i) h = h
known_of n (flat_definition i) h = absurd h

quiet_of : (n : FlatModel) (l : FlatLeaf) → IsStateName n l → is_input_name n l ≡ false
quiet_of n (flat_variable i) h = ap is_input_variable h.is_variable ∙ h.is_state
quiet_of n (flat_symbol i) h = refl
quiet_of n (flat_definition i) h = absurd h

module _ (n : FlatModel) where
  state_own : (fs : List FlatFormula) → ReadState n fs → ReadOwn n fs
  state_own fs h =
      each_more (λ (f : FlatFormula). AllLeaves (IsStateName n) f.value) (λ (f : FlatFormula). ReadsOwn n f.value) fs
      (λ f k. all_leaves_more (IsStateName n) (IsKnown (length n.variables) (length n.symbols) (length n.definitions)) (known_of n) f.value k) h

  quiet_leaves : (e : Tree FlatLeaf) → AllLeaves (IsStateName n) e → AllLeaves (λ l. is_input_name n l ≡ false) e
  quiet_leaves e h = all_leaves_more (IsStateName n) (λ l. is_input_name n l ≡ false) (quiet_of n) e h

  state_quiet : (fs : List FlatFormula) → ReadState n fs → Each (λ f. reads_input n f.value ≡ false) fs
  state_quiet [] h = tt
  state_quiet (f ∷ fs) h =
      (none_any (is_input_name n) (leaves_in f.value) (each_leaf (λ l. is_input_name n l ≡ false) f.value (quiet_leaves f.value h.0)), state_quiet fs h.1)

  state_quiet_next : (fs : List FlatFormula) → ReadState n fs → Each (λ f. reads_next_input n f.value ≡ false) fs
  state_quiet_next [] h = tt
  state_quiet_next (f ∷ fs) h =
      (none_any (is_input_name n) (leaves_under f.value) (each_under (λ l. is_input_name n l ≡ false) f.value (quiet_leaves f.value h.0)), state_quiet_next fs h.1)

-- ---- more variables and symbols

listed_member : (symbols more : List Text) (x : Member) → IsListedMember symbols x → IsListedMember (symbols ++ more) x
listed_member symbols more (member.Number n) h = tt
listed_member symbols more (member.Symbol x) h = (h.0, get_left symbols more h.0 x h.1)

listed_type : (symbols more : List Text) (d : DeclaredTree) → IsListedType symbols d → IsListedType (symbols ++ more) d
listed_type symbols more boolean h = tt
listed_type symbols more (range lo hi) h = tt
listed_type symbols more (members ms) h = (h.0, each_more (IsListedMember symbols) (IsListedMember (symbols ++ more)) ms (listed_member symbols more) h.1)
listed_type symbols more (instance m actuals) h = absurd h

listed_types : (symbols more : List Text) (xs : List FlatVariable) → Each (λ x. IsListedType symbols x.declared) xs → Each (λ x. IsListedType (symbols ++ more) x.declared) xs
listed_types symbols more [] h = tt
listed_types symbols more (x ∷ xs) h = (listed_type symbols more x.declared h.0, listed_types symbols more xs h.1)

module _ (m : FlatModel) (a : Addition) where
  pub variable_kept : (i : ℕ) → IsStateVariable m i → IsStateVariable (with_addition m a) i
  variable_kept i h = record { variable = h.variable; is_variable = get_left m.variables a.variables i h.variable h.is_variable; is_state = h.is_state }

  pub more_symbols : length m.symbols ≤ length (m.symbols ++ a.symbols)
  more_symbols = let e = length-append m.symbols a.symbols in omega (arith, e)

  more_variables : length m.variables ≤ length (m.variables ++ a.variables)
  more_variables = let e = length-append m.variables a.variables in omega (arith, e)

  pub mode_kept : (f : Mode) → IsStateMode m f → IsStateMode (with_addition m a) f
  mode_kept f h =
      let at = h.is_symbol in
      let more = more_symbols in
      record { variable = h.variable; is_variable = get_left m.variables a.variables f.variable h.variable h.is_variable; is_state = h.is_state; is_symbol = omega (arith, at, more) }

  module _ (closed : IsClosed m) where
    same_input : (l : FlatLeaf) → IsKnown (length m.variables) (length m.symbols) (length m.definitions) l → is_input_name (with_addition m a) l ≡ is_input_name m l
    same_input l known =
        ap (λ flags. names_input (m.variables ++ a.variables) flags l) (same_reading m.variables a.variables [] (length m.symbols) 0 m.definitions closed.definitions)
        ∙ same_name m.variables a.variables (reading_after m.variables [] m.definitions) (length m.symbols) (length m.definitions) l known

    same_kind : (l : FlatLeaf) → IsKnown (length m.variables) (length m.symbols) (length m.definitions) l → kind_of_leaf (with_addition m a) l ≡ kind_of_leaf m l
    same_kind l known =
        ap (λ js. leaf_kind (judged_variables (m.variables ++ a.variables)) js l) (same_definitions m.variables a.variables [] (length m.symbols) 0 m.definitions closed.definitions)
        ∙ same_kind_in m.variables a.variables (judged_definitions m) (length m.symbols) (length m.definitions) l known

    -- an expression of the model
    own_wide : (e : Tree FlatLeaf) → ReadsOwn m e → ReadsOwn (with_addition m a) e
    own_wide e own =
        all_leaves_more (IsKnown (length m.variables) (length m.symbols) (length m.definitions)) (IsKnown (length (m.variables ++ a.variables)) (length (m.symbols ++ a.symbols)) (length m.definitions))
        (known_wider (length m.variables) (length (m.variables ++ a.variables)) (length m.symbols) (length (m.symbols ++ a.symbols)) (length m.definitions) more_variables more_symbols) e own

    quiet_wide : (e : Tree FlatLeaf) → ReadsOwn m e → reads_input (with_addition m a) e ≡ reads_input m e
    quiet_wide e own =
        same_any (is_input_name (with_addition m a)) (is_input_name m) (leaves_in e)
        (each_leaf (λ l. is_input_name (with_addition m a) l ≡ is_input_name m l) e
        (all_leaves_more (IsKnown (length m.variables) (length m.symbols) (length m.definitions)) (λ l. is_input_name (with_addition m a) l ≡ is_input_name m l) same_input e own))

    quiet_next_wide : (e : Tree FlatLeaf) → ReadsOwn m e → reads_next_input (with_addition m a) e ≡ reads_next_input m e
    quiet_next_wide e own =
        same_any (is_input_name (with_addition m a)) (is_input_name m) (leaves_under e)
        (each_under (λ l. is_input_name (with_addition m a) l ≡ is_input_name m l) e
        (all_leaves_more (IsKnown (length m.variables) (length m.symbols) (length m.definitions)) (λ l. is_input_name (with_addition m a) l ≡ is_input_name m l) same_input e own))

    judged_wide : (e : Tree FlatLeaf) → ReadsOwn m e → judged_in (with_addition m a) false e ≡ judged_in m false e
    judged_wide e own =
        judge_agrees (kind_of_leaf (with_addition m a)) (kind_of_leaf m) false e
        (all_leaves_more (IsKnown (length m.variables) (length m.symbols) (length m.definitions)) (λ l. kind_of_leaf (with_addition m a) l ≡ kind_of_leaf m l) same_kind e own)

    -- a condition that fits the model fits it
    pub fit_wide : (e : Tree FlatLeaf) → IsFitTop m e → IsFitTop (with_addition m a) e
    fit_wide e h = record { own = own_wide e h.own; no_input = quiet_wide e h.own ∙ h.no_input; right = ap broken_condition (judged_wide e h.own) ∙ h.right }

    -- formulas of the model
    own_all : (gs : List FlatFormula) → ReadOwn m gs → ReadOwn (with_addition m a) gs
    own_all gs h = each_more (λ (e : FlatFormula). ReadsOwn m e.value) (λ (e : FlatFormula). ReadsOwn (with_addition m a) e.value) gs (λ e k. own_wide e.value k) h

    quiet_all : (gs : List FlatFormula) → ReadOwn m gs → Each (λ e. reads_input m e.value ≡ false) gs → Each (λ e. reads_input (with_addition m a) e.value ≡ false) gs
    quiet_all [] own h = tt
    quiet_all (e ∷ gs) own h = (quiet_wide e.value own.0 ∙ h.0, quiet_all gs own.1 h.1)

    quiet_next_all : (gs : List FlatFormula) → ReadOwn m gs → Each (λ e. reads_next_input m e.value ≡ false) gs → Each (λ e. reads_next_input (with_addition m a) e.value ≡ false) gs
    quiet_next_all [] own h = tt
    quiet_next_all (e ∷ gs) own h = (quiet_next_wide e.value own.0 ∙ h.0, quiet_next_all gs own.1 h.1)

  pub clauses_wide : HasClauses m → IsOfState m a → HasClauses (with_addition m a)
  clauses_wide is of =
      let c = is.closed in
      record {
        closed = record {
          definitions = order_wider (length m.variables) (length (m.variables ++ a.variables)) (length m.symbols) (length (m.symbols ++ a.symbols)) 0 more_variables more_symbols m.definitions c.definitions;
          at_first = each_join (λ (e : FlatFormula). ReadsOwn (with_addition m a) e.value) m.at_first a.at_first (own_all c m.at_first c.at_first) (state_own (with_addition m a) a.at_first of.at_first);
          at_each = each_join (λ (e : FlatFormula). ReadsOwn (with_addition m a) e.value) m.at_each a.at_each (own_all c m.at_each c.at_each) (state_own (with_addition m a) a.at_each of.at_each);
          at_step = each_join (λ (e : FlatFormula). ReadsOwn (with_addition m a) e.value) m.at_step a.at_step (own_all c m.at_step c.at_step) (state_own (with_addition m a) a.at_step of.at_step);
        };
        types = each_join (λ (x : FlatVariable). IsListedType (m.symbols ++ a.symbols) x.declared) m.variables a.variables (listed_types m.symbols a.symbols m.variables is.types) of.types;
        at_first = each_join (λ (e : FlatFormula). reads_input (with_addition m a) e.value ≡ false) m.at_first a.at_first (quiet_all c m.at_first c.at_first is.at_first)
            (state_quiet (with_addition m a) a.at_first of.at_first);
        at_each = each_join (λ (e : FlatFormula). reads_input (with_addition m a) e.value ≡ false) m.at_each a.at_each (quiet_all c m.at_each c.at_each is.at_each)
            (state_quiet (with_addition m a) a.at_each of.at_each);
        at_step = each_join (λ (e : FlatFormula). reads_next_input (with_addition m a) e.value ≡ false) m.at_step a.at_step (quiet_next_all c m.at_step c.at_step is.at_step)
            (state_quiet_next (with_addition m a) a.at_step of.at_step);
      }
