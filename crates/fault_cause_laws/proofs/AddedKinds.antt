-- A model with an addition breaks no rule of kinds where the model breaks none, and what is added breaks none.
use Rattle.std.proofs.Common.{◌≡◌, ℕ, suc, ◌+◌, ◌≤◌, false, List, [], ◌∷◌, ◌++◌, length, Some, refl, sym, ◌∙◌, ap, subst, arith}
use Rattle.std.specs.Prelude.{slice_get}
use Rattle.std.proofs.lemmas.List.{length-append}
use Rattle.smv_language.specs.Language.{Tree, Each, FlatLeaf, flat_variable, flat_symbol, flat_definition, FlatVariable, FlatFormula, FlatModel}
use Rattle.smv_flat_laws.proofs.Lists.{each_more}
use Rattle.smv_flat_laws.proofs.Conditions.{each_join}
use Rattle.smv_type_laws.specs.DeclaredKinds.{judged_declared}
use Rattle.smv_type_laws.specs.Models.{leaf_kind, judged_variables, judged_definitions, kind_of_leaf, judged_in, broken_condition, breaches_at, condition_breaches, breaches}
use Rattle.smv_type_laws.specs.Laws.{IsKnown, AreInOrder, ReadsOwn, ReadOwn, IsClosed}
use Rattle.smv_type_laws.proofs.ModelLaws.{IsRight, judge_agrees, all_leaves_more}
use Rattle.sat_encoding_laws.proofs.HistoryTyped.{same_kind as same_kind_in, same_definitions, conditions_joined}
use Rattle.fault_woven_laws.proofs.Rightly.{none_joined}
use Rattle.fault_woven_laws.proofs.Items.{parts_of, none_broken}
use Rattle.fault_cause_laws.specs.Additions.{Addition, with_addition}
use Rattle.base_values.proofs.ListLaws.{get_left}

-- more variables and symbols
pub known_wider : (nv nw ns nt k : ℕ) → nv ≤ nw → ns ≤ nt → (l : FlatLeaf) → IsKnown nv ns k l → IsKnown nw nt k l
known_wider nv nw ns nt k h g (flat_variable i) known = omega (arith, h, known)
known_wider nv nw ns nt k h g (flat_symbol i) known = omega (arith, g, known)
known_wider nv nw ns nt k h g (flat_definition i) known = known

pub order_wider : (nv nw ns nt k : ℕ) → nv ≤ nw → ns ≤ nt → (ds : List FlatFormula) → AreInOrder nv ns k ds → AreInOrder nw nt k ds
order_wider nv nw ns nt k h g [] o = tt
order_wider nv nw ns nt k h g (d ∷ ds) o =
    (all_leaves_more (IsKnown nv ns k) (IsKnown nw nt k) (known_wider nv nw ns nt k h g) d.value o.0, order_wider nv nw ns nt (suc k) h g ds o.1)

-- a formula that names what the model has, and is a condition that breaks no rule
pub record IsRightFormula (n : FlatModel) (f : FlatFormula) : Type 0 where
  pub own : ReadsOwn n f.value
  pub right : broken_condition (judged_in n false f.value) ≡ []

none_breach : (n : FlatModel) (fs : List FlatFormula) → Each (IsRightFormula n) fs → condition_breaches n fs ≡ []
none_breach n [] h = refl
none_breach n (f ∷ fs) h =
    none_joined (breaches_at f.number f.item (broken_condition (judged_in n false f.value))) (condition_breaches n fs) (ap (breaches_at f.number f.item) h.0.right) (none_breach n fs h.1)

are_own : (n : FlatModel) (fs : List FlatFormula) → Each (IsRightFormula n) fs → ReadOwn n fs
are_own n fs h = each_more (IsRightFormula n) (λ (f : FlatFormula). ReadsOwn n f.value) fs (λ f k. k.own) h

-- a model whose formulas name what it has, and which breaks no rule at an item
pub record IsRightModel (m : FlatModel) : Type 0 where
  pub closed : IsClosed m
  pub no_breach : breaches m ≡ []

-- an addition whose types break no rule, and whose formulas break none over the model with it
pub record IsRightAddition (m : FlatModel) (a : Addition) : Type 0 where
  pub types : Each (λ (x : FlatVariable). (judged_declared x.declared).broken ≡ []) a.variables
  pub at_first : Each (IsRightFormula (with_addition m a)) a.at_first
  pub at_each : Each (IsRightFormula (with_addition m a)) a.at_each
  pub at_step : Each (IsRightFormula (with_addition m a)) a.at_step

module _ (m : FlatModel) (a : Addition) (closed : IsClosed m) where
  abbrev made : FlatModel
  made = with_addition m a

  abbrev IsOwn : FlatLeaf → Type 0
  IsOwn = IsKnown (length m.variables) (length m.symbols) (length m.definitions)

  more_symbols : length m.symbols ≤ length (m.symbols ++ a.symbols)
  more_symbols = let e = length-append m.symbols a.symbols in omega (arith, e)

  more_variables : length m.variables ≤ length (m.variables ++ a.variables)
  more_variables = let e = length-append m.variables a.variables in omega (arith, e)

  definitions_same : judged_definitions made ≡ judged_definitions m
  definitions_same = same_definitions m.variables a.variables [] (length m.symbols) 0 m.definitions closed.definitions

  same_kind : (l : FlatLeaf) → IsOwn l → kind_of_leaf made l ≡ kind_of_leaf m l
  same_kind l known =
      ap (λ js. leaf_kind (judged_variables (m.variables ++ a.variables)) js l) definitions_same
      ∙ same_kind_in m.variables a.variables (judged_definitions m) (length m.symbols) (length m.definitions) l known

  own_wide : (e : Tree FlatLeaf) → ReadsOwn m e → ReadsOwn made e
  own_wide e own =
      all_leaves_more IsOwn (IsKnown (length (m.variables ++ a.variables)) (length (m.symbols ++ a.symbols)) (length m.definitions))
      (known_wider (length m.variables) (length (m.variables ++ a.variables)) (length m.symbols) (length (m.symbols ++ a.symbols)) (length m.definitions) more_variables more_symbols) e own

  judged_wide : (e : Tree FlatLeaf) → ReadsOwn m e → judged_in made false e ≡ judged_in m false e
  judged_wide e own =
      judge_agrees (kind_of_leaf made) (kind_of_leaf m) false e (all_leaves_more IsOwn (λ l. kind_of_leaf made l ≡ kind_of_leaf m l) same_kind e own)

  own_all : (fs : List FlatFormula) → ReadOwn m fs → ReadOwn made fs
  own_all fs h = each_more (λ (f : FlatFormula). ReadsOwn m f.value) (λ (f : FlatFormula). ReadsOwn made f.value) fs (λ f k. own_wide f.value k) h

  breaches_wide : (fs : List FlatFormula) → ReadOwn m fs → condition_breaches made fs ≡ condition_breaches m fs
  breaches_wide [] own = refl
  breaches_wide (f ∷ fs) own =
      let here = judged_wide f.value own.0 in
      let rest = breaches_wide fs own.1 in
      (λ j. breaches_at f.number f.item (broken_condition (here j)) ++ rest j)

  all_own : (fs gs : List FlatFormula) → ReadOwn m fs → Each (IsRightFormula made) gs → ReadOwn made (fs ++ gs)
  all_own fs gs own right = each_join (λ (f : FlatFormula). ReadsOwn made f.value) fs gs (own_all fs own) (are_own made gs right)

  none_here : (fs gs : List FlatFormula) → ReadOwn m fs → condition_breaches m fs ≡ [] → Each (IsRightFormula made) gs → condition_breaches made (fs ++ gs) ≡ []
  none_here fs gs own none right = conditions_joined made fs gs (breaches_wide fs own ∙ none) (none_breach made gs right)

pub right_added : (m : FlatModel) (a : Addition) → IsRightModel m → IsRightAddition m a → IsRightModel (with_addition m a)
right_added m a is adds =
    let c = is.closed in
    let parts = parts_of m is.no_breach in
    record {
      closed = record {
        definitions =
            order_wider (length m.variables) (length (m.variables ++ a.variables)) (length m.symbols) (length (m.symbols ++ a.symbols)) 0 (more_variables m a c) (more_symbols m a c) m.definitions c.definitions;
        at_first = all_own m a c m.at_first a.at_first c.at_first adds.at_first;
        at_each = all_own m a c m.at_each a.at_each c.at_each adds.at_each;
        at_step = all_own m a c m.at_step a.at_step c.at_step adds.at_step;
      };
      no_breach =
          none_broken (with_addition m a) (record {
            variables = each_join (λ (x : FlatVariable). (judged_declared x.declared).broken ≡ []) m.variables a.variables parts.variables adds.types;
            definitions = subst (Each IsRight) (sym (definitions_same m a c)) parts.definitions;
            at_first = none_here m a c m.at_first a.at_first c.at_first parts.at_first adds.at_first;
            at_each = none_here m a c m.at_each a.at_each c.at_each parts.at_each adds.at_each;
            at_step = none_here m a c m.at_step a.at_step c.at_step parts.at_step adds.at_step;
          });
    }

-- ---- places

-- one model has the variables of the other at their places, and its symbols
pub record Grows (n n' : FlatModel) : Type 0 where
  pub variables : (i : ℕ) (x : FlatVariable) → slice_get n.variables i ≡ Some x → slice_get n'.variables i ≡ Some x
  pub symbols : length n.symbols ≤ length n'.symbols

pub grows_same : (n : FlatModel) → Grows n n
grows_same n = record { variables = λ i x e. e; symbols = omega arith }

pub grows_on : (n n' n'' : FlatModel) → Grows n n' → Grows n' n'' → Grows n n''
grows_on n n' n'' g h =
    let a = g.symbols in
    let b = h.symbols in
    record { variables = λ i x e. h.variables i x (g.variables i x e); symbols = omega (arith, a, b) }

pub grows_added : (n : FlatModel) (a : Addition) → Grows n (with_addition n a)
grows_added n a = record {
  variables = λ i x e. get_left n.variables a.variables i x e;
  symbols = let e = length-append n.symbols a.symbols in omega (arith, e);
}
