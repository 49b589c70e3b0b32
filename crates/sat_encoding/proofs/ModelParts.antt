-- What the passes rely on of an encodable model: no type and no formula breaks a rule, and a variable's domain tells its bits.
use Rattle.std.proofs.Common.{◌≡◌, ℕ, ◌+◌, ◌<◌, List, [], ◌∷◌, length, get_or, drop, map, Some, sym, ◌∙◌, ap, arith}
use Rattle.std.specs.Prelude.{slice_get}
use Rattle.std.proofs.lemmas.Option.{same_Some}
use Rattle.smv_language.specs.Language.{Each, declared_tree, FlatFormula, FlatModel, variable_tree, model_tree}
use Rattle.base_values.specs.declared.domain.Domain.{Domain}
use Rattle.smv_language.specs.declared.model.Variable.{Variable}
use Rattle.smv_language.specs.declared.model.FlatModel.{FlatModel as Model}
use Rattle.smv_type_laws.specs.Costs.{declared_width}
use Rattle.smv_type_laws.specs.Models.{judged_variables}
use Rattle.smv_type_laws.proofs.Typed.{placed, parts_of}
use Rattle.smv_types.specs.Types.{variable_domain, domain_of}
use Rattle.sat_circuits.specs.Circuit.{Circuit}
use Rattle.sat_encoding_laws.specs.Widths.{symbol_width}
use Rattle.sat_encoding_laws.specs.Signals.{Signal}
use Rattle.sat_encoding_laws.specs.Layout.{variable_signal}
use Rattle.sat_encoding_laws.specs.Lists.{Copy, names_of, type_gates}
use Rattle.sat_encoding_laws.specs.Encodable.{IsEncodable}
use Rattle.sat_encoding_laws.proofs.MomentMeans.{model_types, formulas_right}
use Rattle.sat_encoding_laws.proofs.Readings.{IsRightType}
use Rattle.sat_encoding.specs.Domains.{domain_width, domain_signal, domain_gates}
use Rattle.sat_encoding.specs.Copies.{IsRightFormula}
use Rattle.sat_encoding.proofs.DomainLaws.{width_is, signal_is, gates_are}
use Rattle.base_values.proofs.ListLaws.{drop_there}
use Rattle.smv_flat_laws.proofs.Conditions.{each_at}
use Rattle.smv_language.proofs.ListLaws.{get_there, get_map}

-- the same in an equal list
pub got_in : {A : Type 0} (xs ys : List A) (i : ℕ) (x : A) → xs ≡ ys → i < length xs → x ≡ get_or xs i x → slice_get ys i ≡ Some x
got_in xs ys i x same h e = sym (ap (λ l. slice_get l i) same) ∙ get_there xs i x h e

-- ---- formulas

pub definition_right : (m : FlatModel) → IsEncodable m → (k : ℕ) (d : FlatFormula) → slice_get m.definitions k ≡ Some d → IsRightFormula m d
definition_right m is k d at =
    let vs = judged_variables m.variables in
    let all = placed vs (length m.variables) (length m.symbols) (length m.definitions) m.definitions [] (omega arith) (parts_of m is.typed).definitions is.closed.definitions in
    (each_at _ m.definitions k d all at).right

pub first_right : (m : FlatModel) → IsEncodable m → Each (IsRightFormula m) m.at_first
first_right m is = formulas_right m m.at_first (parts_of m is.typed).at_first

pub each_right : (m : FlatModel) → IsEncodable m → Each (IsRightFormula m) m.at_each
each_right m is = formulas_right m m.at_each (parts_of m is.typed).at_each

pub step_right : (m : FlatModel) → IsEncodable m → Each (IsRightFormula m) m.at_step
step_right m is = formulas_right m m.at_step (parts_of m is.typed).at_step

-- ---- variables

module _ (m : Model) (is : IsEncodable (model_tree m)) (i : ℕ) (x : Variable) (d : Domain) (at : slice_get m.variables i ≡ Some x) (told : slice_get (map (variable_domain m.symbols) m.variables) i ≡ Some d) where
  pub right_at : IsRightType m.symbols (variable_tree x)
  right_at = each_at (IsRightType m.symbols) (map variable_tree m.variables) i (variable_tree x) (model_types (model_tree m) is) (get_map variable_tree m.variables i x at)

  pub domain_at : domain_of m.symbols (declared_tree x.declared) ≡ d
  domain_at = same_Some _ _ (sym (get_map (variable_domain m.symbols) m.variables i x at) ∙ told)

  pub width_at : domain_width d ≡ declared_width m.symbols (declared_tree x.declared)
  width_at = sym (ap domain_width domain_at) ∙ width_is m.symbols (declared_tree x.declared) right_at.0 right_at.1

  pub signal_at : (w n : ℕ) → w ≡ symbol_width m.symbols → domain_signal w d n ≡ variable_signal m.symbols (declared_tree x.declared) n
  signal_at w n e = ap (λ k. domain_signal k d n) e ∙ sym (ap (λ y. domain_signal (symbol_width m.symbols) y n) domain_at) ∙ signal_is m.symbols (declared_tree x.declared) right_at.0 right_at.1 n

  pub gates_at : (now next : Copy) (w : ℕ) (e : Signal) (s : Circuit) → w ≡ symbol_width m.symbols → domain_gates w d e s ≡ type_gates (model_tree m) (names_of (model_tree m) now next) (declared_tree x.declared) e s
  gates_at now next w e s same =
      ap (λ k. domain_gates k d e s) same ∙ sym (ap (λ y. domain_gates (symbol_width m.symbols) y e s) domain_at)
      ∙ gates_are (model_tree m) now next e (declared_tree x.declared) right_at.0 right_at.1 s

  -- the rest of the variables begins with this one
  pub rest_at : drop i (map variable_tree m.variables) ≡ variable_tree x ∷ drop (i + 1) (map variable_tree m.variables)
  rest_at = drop_there (map variable_tree m.variables) i (variable_tree x) (get_map variable_tree m.variables i x at)
