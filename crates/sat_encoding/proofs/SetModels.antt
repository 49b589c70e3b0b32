-- The loop that sets the bits of a model's variables.
use Rattle.std.proofs.Common.{◌≡◌, ℕ, ◌+◌, ◌≤◌, List, ◌∷◌, drop, map, Some, sym, ◌∙◌, ap, subst}
use Rattle.std.specs.Prelude.{slice_get}
use Rattle.base_values.specs.declared.domain.Domain.{Domain}
use Rattle.base_values.specs.declared.value.Value.{Value}
use Rattle.smv_language.specs.declared.model.Variable.{Variable}
use Rattle.smv_language.specs.declared.model.FlatModel.{FlatModel as Model}
use Rattle.smv_language.specs.ModelTree.{model_tree, role_of}
use Rattle.smv_type_laws.specs.Costs.{role_width}
use Rattle.smv_types.specs.Types.{variable_domain}
use Rattle.sat_clauses.specs.Assignment.{Assignment}
use Rattle.sat_encoding_laws.specs.Layout.{width_as_input, place_of}
use Rattle.sat_encoding_laws.specs.Bits.{number_bits}
use Rattle.sat_encoding_laws.specs.Encodable.{IsEncodable}
use Rattle.sat_encoding.specs.Domains.{domain_width}
use Rattle.sat_encoding.specs.Values.{AreFree, number_of, with_bits, bits_set, AreLeft}
use Rattle.sat_encoding.proofs.ModelParts.{domain_at, right_at}
use Rattle.sat_encoding.proofs.SettingLaws.{own_free, left_next}
use Rattle.base_values.proofs.ListLaws.{drop_there}

module _ (m : Model) (is : IsEncodable (model_tree m)) (i : ℕ) (x : Variable) (d : Domain) (at : slice_get m.variables i ≡ Some x) (told : slice_get (map (variable_domain m.symbols) m.variables) i ≡ Some d) where
  here : (a : Assignment) (p q ends_p ends_q : ℕ) → AreLeft m.symbols a p q ends_p ends_q (drop i m.variables) → AreLeft m.symbols a p q ends_p ends_q (x ∷ drop (i + 1) m.variables)
  here a p q ends_p ends_q left = subst (λ (xs : List Variable). AreLeft m.symbols a p q ends_p ends_q xs) (drop_there m.variables i x at) left

  -- the places of the variable at hand are free
  pub own_here : (a : Assignment) (p q ends_p ends_q : ℕ) → AreLeft m.symbols a p q ends_p ends_q (drop i m.variables)
      → AreFree a (place_of (role_of x.role) p q) (domain_width d) × ((place_of (role_of x.role) p q + domain_width d ≤ ends_q) × (2 ≤ place_of (role_of x.role) p q))
  own_here a p q ends_p ends_q left =
      subst (λ (y : Domain). AreFree a (place_of (role_of x.role) p q) (domain_width y) × ((place_of (role_of x.role) p q + domain_width y ≤ ends_q) × (2 ≤ place_of (role_of x.role) p q))) (domain_at m is i x d at told)
      (own_free m.symbols x (drop (i + 1) m.variables) (right_at m is i x d at told) a p q ends_p ends_q (here a p q ends_p ends_q left))

  -- and those of the others stay so
  pub left_here : (a : Assignment) (p q ends_p ends_q : ℕ) (v : Value) → AreLeft m.symbols a p q ends_p ends_q (drop i m.variables)
      → AreLeft m.symbols (with_bits a (place_of (role_of x.role) p q) (number_bits (domain_width d) (number_of v))) (p + role_width (role_of x.role) (domain_width d)) (q + width_as_input (role_of x.role) (domain_width d)) ends_p ends_q (drop (i + 1) m.variables)
  left_here a p q ends_p ends_q v left =
      subst (λ (y : Domain). AreLeft m.symbols (with_bits a (place_of (role_of x.role) p q) (number_bits (domain_width y) (number_of v))) (p + role_width (role_of x.role) (domain_width y)) (q + width_as_input (role_of x.role) (domain_width y)) ends_p ends_q (drop (i + 1) m.variables))
      (domain_at m is i x d at told) (left_next m.symbols x (drop (i + 1) m.variables) v (right_at m is i x d at told) a p q ends_p ends_q (here a p q ends_p ends_q left))

  -- what is set of the rest
  pub set_here : (a : Assignment) (p q : ℕ) (vs : List Value) (v : Value) (whole : Assignment) → slice_get vs i ≡ Some v → bits_set m.symbols a p q (drop i m.variables) (drop i vs) ≡ whole
      → bits_set m.symbols (with_bits a (place_of (role_of x.role) p q) (number_bits (domain_width d) (number_of v))) (p + role_width (role_of x.role) (domain_width d)) (q + width_as_input (role_of x.role) (domain_width d)) (drop (i + 1) m.variables) (drop (i + 1) vs) ≡ whole
  set_here a p q vs v whole value before =
      sym (ap (λ (y : Domain). bits_set m.symbols (with_bits a (place_of (role_of x.role) p q) (number_bits (domain_width y) (number_of v))) (p + role_width (role_of x.role) (domain_width y)) (q + width_as_input (role_of x.role) (domain_width y)) (drop (i + 1) m.variables) (drop (i + 1) vs)) (domain_at m is i x d at told))
      ∙ sym (ap (λ l. bits_set m.symbols a p q (x ∷ drop (i + 1) m.variables) l) (drop_there vs i v value))
      ∙ sym (ap (λ l. bits_set m.symbols a p q l (drop i vs)) (drop_there m.variables i x at))
      ∙ before
