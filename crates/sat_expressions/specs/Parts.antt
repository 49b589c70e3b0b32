-- What is built of an expression: its signal, and what is known of its values.
use Rattle.std.specs.Prelude.{◌≡◌, ◌≤◌, Bool, false, None, []}
use Rattle.smv_language.specs.declared.expr.Op.{Op}
use Rattle.smv_language.specs.declared.expr.Op.TheVariants as op
use Rattle.smv_language.specs.Language.{Tree, Trees, FlatLeaf, FlatModel}
use Rattle.smv_type_laws.specs.ExpressionKinds.{judge_trees, broken_in}
use Rattle.smv_type_laws.specs.Models.{judged_in, kind_of_leaf}
use Rattle.smv_types.specs.Answers.{told_sort}
use Rattle.smv_types.specs.declared.sort.Sort.{Sort}
use Rattle.smv_types.specs.declared.sort.Class.TheVariants.{Truth}
use Rattle.sat_clauses.specs.Literal.{Literal}
use Rattle.sat_clauses.specs.Models.{IsBelow}
use Rattle.sat_circuits.specs.Circuit.{Circuit}
use Rattle.sat_circuits.specs.Gates.{constant_lit}
use Rattle.sat_encoding_laws.specs.Signals.{Signal, bit, word}
use Rattle.sat_encoding_laws.specs.Expressions.{Asked as TheAsked, its_value, whether_has, answer, encoded, encoded_members}
use Rattle.sat_encoding_laws.specs.Meanings.{IsSignal}
use Rattle.sat_expressions.specs.BuiltSignals.{signal_of}
use Rattle.sat_expressions.specs.ModelNames.{model_of, names_in}
use Rattle.sat_expressions.specs.declared.names.NamedSignals.{NamedSignals}
use Rattle.sat_expressions.specs.declared.part.ExpressionSignal.{ExpressionSignal}
use Rattle.sat_expressions.specs.declared.part.Form.{Form}
use Rattle.sat_expressions.specs.declared.part.Form.TheVariants.{Values, Union, Within}
use Rattle.sat_expressions.specs.declared.part.AskedSignal.{AskedSignal}
use Rattle.sat_expressions.specs.declared.part.AskedSignal.TheVariants.{ItsValue, WhetherHas}

-- what is asked of an expression
abbrev pub asked_of : AskedSignal → TheAsked
asked_of ItsValue = its_value
asked_of (WhetherHas v) = whether_has (signal_of v.now)

-- how an operator takes its operands
abbrev pub form_of : Op → Form
form_of op.Union = Union
form_of op.Within = Within
form_of _ = Values

-- what is known of truth values
abbrev pub truth_sort : Sort
truth_sort = record { class = Truth; interval = None }

-- a literal and no word
abbrev pub IsBit : Signal → Type 0
IsBit (bit l) = Unit {0}
IsBit (word w) = ⊥

-- Of what is asked, the expression breaks no rule: where its value is asked it may be no set.
abbrev pub IsRight : FlatModel → TheAsked → Tree FlatLeaf → Type 0
IsRight m its_value e = (judged_in m false e).broken ≡ []
IsRight m (whether_has v) e = (sets : Bool) × ((judged_in m sets e).broken ≡ [])

-- the value is told with what is known of it, and whether there is one by a literal
abbrev pub IsTold : FlatModel → TheAsked → Tree FlatLeaf → ExpressionSignal → Type 0
IsTold m its_value e p = p.sort ≡ told_sort (judged_in m false e).kind
IsTold m (whether_has v) e p = IsBit (signal_of p.signal)

-- r, which was built onto s, is t with the part's signal, and the part is told right
pub record IsEncoded (m : FlatModel) (asked : TheAsked) (e : Tree FlatLeaf) (r : Circuit
    × Signal) (t : Circuit) (p : ExpressionSignal) : Type 0 where
  pub exact : r ≡ (t, signal_of p.signal)
  pub told : IsTold m asked e p

-- The part was built onto s, which is then t: its signal may be used, and it is the expression's where that breaks no rule.
pub record BuildsPart (n : NamedSignals) (asked : TheAsked) (e : Tree FlatLeaf) (s t : Circuit) (p : ExpressionSignal) : Type 0 where
  pub usable : IsSignal t (signal_of p.signal)
  pub grows : s.free ≤ t.free
  pub right : IsRight (model_of n) asked e → IsEncoded (model_of n) asked e (encoded (names_in n) asked e s) t p

-- where the value itself is asked it is told with what is known of it
abbrev pub AnswersSort : TheAsked → Sort → ExpressionSignal → Type 0
AnswersSort its_value known p = p.sort ≡ known
AnswersSort (whether_has v) known p = IsBit (signal_of p.signal)

-- what was asked is told of the value r, which was built onto s, and of which this is known; the circuit is then t
pub record Answers (asked : TheAsked) (s : Circuit) (r : Circuit
    × Signal) (known : Sort) (t : Circuit) (p : ExpressionSignal) : Type 0 where
  pub usable : IsSignal t (signal_of p.signal)
  pub grows : s.free ≤ t.free
  pub exact : answer asked r ≡ (t, signal_of p.signal)
  pub told : AnswersSort asked known p

-- each member breaks no rule by itself
abbrev pub AreRight : FlatModel → TheAsked → Trees FlatLeaf → Type 0
AreRight m its_value ts = ⊥
AreRight m (whether_has v) ts = broken_in (judge_trees (kind_of_leaf m) ts) ≡ []

-- whether what is asked is TRUE of some member
pub record BuildsMembers (n : NamedSignals) (asked : TheAsked) (ts : Trees FlatLeaf) (s t : Circuit) (l : Literal) : Type 0 where
  pub below : IsBelow t.free l
  pub grows : s.free ≤ t.free
  pub right : AreRight (model_of n) asked ts → encoded_members (names_in n) asked ts (constant_lit false) s ≡ (t, bit l)

-- what was built of some members is TRUE of those so far, and what is left is built onto it
pub record BuildsSome (n : NamedSignals) (asked : TheAsked) (ts rest : Trees FlatLeaf) (s t : Circuit) (l : Literal) : Type 0 where
  pub below : IsBelow t.free l
  pub grows : s.free ≤ t.free
  pub right : AreRight (model_of n) asked ts
      → (encoded_members (names_in n) asked ts (constant_lit false) s ≡ encoded_members (names_in n) asked rest l t)
      × AreRight (model_of n) asked rest
