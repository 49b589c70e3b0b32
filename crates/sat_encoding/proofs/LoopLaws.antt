-- The loops over variables, definitions and formulas: each turn builds what is next, and leaves the rest.
use Rattle.std.proofs.Common.{◌≡◌, ℕ, ◌+◌, ◌≤◌, Bool, true, false, not, ◌&&◌, ◌||◌, List, [], ◌∷◌, ◌++◌, length, drop, map, min, Some, refl, sym, ◌∙◌, ap, arith, append_assoc, ◌⊎◌, ⊎_elim}
use Rattle.std.specs.Prelude.{slice_get, sum_by, if◌then◌else◌}
use Rattle.std.proofs.lemmas.List.{drop_all, map-append}
use Rattle.std.proofs.lemmas.List.Sums.{sum_by-cons}
use Rattle.smv_language.specs.Language.{declared_tree, FlatLeaf, FlatVariable, FlatFormula, FlatModel, variable_tree, model_tree, role_of, Tree}
use Rattle.base_values.specs.declared.domain.Domain.{Domain}
use Rattle.smv_language.specs.declared.model.Variable.{Variable}
use Rattle.smv_language.specs.declared.model.FlatModel.{FlatModel as Model}
use Rattle.smv_type_laws.specs.Costs.{declared_width, role_width}
use Rattle.smv_types.specs.Types.{variable_domain}
use Rattle.sat_circuits.specs.Circuit.{Circuit, after, fold_gates}
use Rattle.sat_circuits.specs.Gates.{constant_lit, or_gate}
use Rattle.sat_clauses.specs.Literal.{Literal}
use Rattle.smv_type_laws.specs.Models.{judged_in}
use Rattle.sat_expressions.specs.declared.names.NamedSignals.{NamedSignals}
use Rattle.sat_expressions.specs.declared.part.ExpressionSignal.{ExpressionSignal}
use Rattle.sat_expressions.specs.ModelNames.{model_of, names_in}
use Rattle.sat_expressions.specs.Parts.{BuildsPart}
use Rattle.sat_encoding_laws.specs.Widths.{symbol_width}
use Rattle.sat_encoding_laws.specs.Signals.{Signal, bit, literal_in}
use Rattle.sat_encoding_laws.specs.Expressions.{its_value, Names as TheNames, encoded}
use Rattle.sat_encoding_laws.specs.Inputs.{is_input, reads_input}
use Rattle.sat_encoding_laws.specs.Layout.{width_as_input, input_width, place_of, variable_signal, variable_signals}
use Rattle.sat_encoding_laws.specs.Lists.{Copy, copy_of as the_copy, names_of, asserted, asserted_signal, definition_gates, formulas_gates, type_gates, domains_gates}
use Rattle.sat_encoding_laws.specs.Encodable.{IsEncodable}
use Rattle.sat_expressions.specs.declared.signal.Signal.{Signal as Built}
use Rattle.sat_expressions.specs.BuiltSignals.{signal_of, signals_of, BuildsLiteral, BuildsSignal}
use Rattle.sat_encoding.specs.Domains.{domain_width, domain_signal, asserted_literal, domain_gates}
use Rattle.sat_encoding.specs.Copies.{Builds, definition_signal}
use Rattle.sat_encoding.proofs.ModelParts.{width_at, signal_at, gates_at, rest_at}
use Rattle.base_values.proofs.ListLaws.{drop_there}
use Rattle.smv_language.proofs.ListLaws.{get_map}

-- ---- the bits of inputs, and the signals of variables

module _ (m : Model) (is : IsEncodable (model_tree m)) (i : ℕ) (x : Variable) (d : Domain) (at : slice_get m.variables i ≡ Some x) (told : slice_get (map (variable_domain m.symbols) m.variables) i ≡ Some d) where
  pub bits_next : (bits w total : ℕ) → w ≡ width_as_input (role_of x.role) (domain_width d) → bits + sum_by (input_width m.symbols) (drop i (map variable_tree m.variables)) ≡ total
      → (bits + w) + sum_by (input_width m.symbols) (drop (i + 1) (map variable_tree m.variables)) ≡ total
  bits_next bits w total e before =
      let rest = drop (i + 1) (map variable_tree m.variables) in
      let one : sum_by (input_width m.symbols) (variable_tree x ∷ rest) ≡ width_as_input (role_of x.role) (declared_width m.symbols (declared_tree x.declared)) + sum_by (input_width m.symbols) rest =
      sum_by-cons (input_width m.symbols) (variable_tree x) rest in
      let same : w ≡ width_as_input (role_of x.role) (declared_width m.symbols (declared_tree x.declared)) = e ∙ ap (width_as_input (role_of x.role)) (width_at m is i x d at told) in
      let now : bits + sum_by (input_width m.symbols) (variable_tree x ∷ rest) ≡ total = ap (λ l. bits + sum_by (input_width m.symbols) l) (sym (rest_at m is i x d at told)) ∙ before in
      omega (arith, one, same, now)

  pub signals_next : (es : List Built) (made : Built) (w p q : ℕ) (whole : List Signal) → w ≡ symbol_width m.symbols → signal_of made ≡ domain_signal w d (place_of (role_of x.role) p q)
      → signals_of es ++ variable_signals m.symbols p q (drop i (map variable_tree m.variables)) ≡ whole
      → signals_of (es ++ made ∷ []) ++ variable_signals m.symbols (p + role_width (role_of x.role) (domain_width d)) (q + width_as_input (role_of x.role) (domain_width d)) (drop (i + 1) (map variable_tree m.variables)) ≡ whole
  signals_next es made w p q whole wide is_signal before =
      let rest = drop (i + 1) (map variable_tree m.variables) in
      let more = λ (k : ℕ). variable_signals m.symbols (p + role_width (role_of x.role) k) (q + width_as_input (role_of x.role) k) rest in
      let n = place_of (role_of x.role) p q in
      ap (λ l. l ++ more (domain_width d)) (map-append signal_of es (made ∷ []))
      ∙ append_assoc (signals_of es) (signal_of made ∷ []) (more (domain_width d))
      ∙ ap (λ y. signals_of es ++ (y ∷ more (domain_width d))) (is_signal ∙ signal_at m is i x d at told w n wide)
      ∙ ap (λ k. signals_of es ++ (variable_signal m.symbols (declared_tree x.declared) n ∷ more k)) (width_at m is i x d at told)
      ∙ ap (λ l. signals_of es ++ variable_signals m.symbols p q l) (sym (rest_at m is i x d at told))
      ∙ before

  asked_same : (a all : Bool) (s t : Circuit) → (if all || not a then t else s) ≡ (if a && not all then s else t)
  asked_same true true s t = refl
  asked_same true false s t = refl
  asked_same false true s t = refl
  asked_same false false s t = refl

  pub domains_next : (now next : Copy) (all : Bool) (signals : List Built) (e : Built) (w : ℕ) (s g t whole : Circuit) → w ≡ symbol_width m.symbols → slice_get signals i ≡ Some e
      → Builds g (if all || not (is_input (role_of x.role)) then domain_gates w d (signal_of e) g else g) t
      → domains_gates (model_tree m) (names_of (model_tree m) now next) all (drop i (map variable_tree m.variables)) (drop i (signals_of signals)) g ≡ whole
      → domains_gates (model_tree m) (names_of (model_tree m) now next) all (drop (i + 1) (map variable_tree m.variables)) (drop (i + 1) (signals_of signals)) t ≡ whole
  domains_next now next all signals e w s g t whole wide e_at built before =
      let M = model_tree m in
      let c = names_of M now next in
      let xs = drop (i + 1) (map variable_tree m.variables) in
      let es = drop (i + 1) (signals_of signals) in
      ap (λ u. domains_gates M c all xs es u)
      (sym built.exact ∙ ap (λ u. if all || not (is_input (role_of x.role)) then u else g) (gates_at m is i x d at told now next w (signal_of e) g wide)
      ∙ asked_same (is_input (role_of x.role)) all g (type_gates M c (declared_tree x.declared) (signal_of e) g))
      ∙ sym (ap (λ l. domains_gates M c all l (signal_of e ∷ es) g) (rest_at m is i x d at told))
      ∙ sym (ap (λ l. domains_gates M c all (drop i (map variable_tree m.variables)) l g) (drop_there (signals_of signals) i (signal_of e) (get_map signal_of signals i e e_at)))
      ∙ before

domains_none : (m : FlatModel) (c : TheNames FlatLeaf) (all : Bool) (xs : List FlatVariable) (s : Circuit) → domains_gates m c all xs [] s ≡ s
domains_none m c all [] s = refl
domains_none m c all (x ∷ xs) s = refl

pub domains_end : (m : FlatModel) (c : TheNames FlatLeaf) (all : Bool) (i n k : ℕ) (xs : List FlatVariable) (es : List Signal) (g whole : Circuit) → length xs ≡ n → length es ≡ k → min n k ≤ i
    → domains_gates m c all (drop i xs) (drop i es) g ≡ whole → g ≡ whole
domains_end m c all i n k xs es g whole hn hk end before = by n k hn hk end
  where
    no_variable : length xs ≤ i → g ≡ whole
    no_variable h = sym (ap (λ l. domains_gates m c all l (drop i es) g) (drop_all i xs h)) ∙ before

    no_signal : length es ≤ i → g ≡ whole
    no_signal h = sym (ap (λ l. domains_gates m c all (drop i xs) l g) (drop_all i es h) ∙ domains_none m c all (drop i xs) g) ∙ before

    least : (a b i : ℕ) → min a b ≤ i → (a ≤ i) ⊎ (b ≤ i)
    least a b i h = grind arith

    by : (n k : ℕ) → length xs ≡ n → length es ≡ k → min n k ≤ i → g ≡ whole
    by n k hn hk end = ⊎_elim (λ h. no_variable h) (λ h. no_signal h) (least (length xs) (length es) i (omega (arith, hn, hk, end)))

-- ---- formulas

module _ (c : TheNames FlatLeaf) (fs : List FlatFormula) where
  pub formulas_next : (i : ℕ) (f : FlatFormula) (g t whole : Circuit) → slice_get fs i ≡ Some f → Builds g (asserted_signal (encoded c its_value f.value g)) t
      → formulas_gates c (drop i fs) g ≡ whole → formulas_gates c (drop (i + 1) fs) t ≡ whole
  formulas_next i f g t whole at built before =
      ap (λ u. formulas_gates c (drop (i + 1) fs) u) (sym built.exact) ∙ sym (ap (λ l. formulas_gates c l g) (drop_there fs i f at)) ∙ before

-- ---- definitions

module _ (m : FlatModel) (variables : List Signal) (all : Bool) where
  abbrev pair_of : Circuit → Signal → Circuit × Signal
  pair_of s e = (s, e)

  abbrev with_done : List Signal → Circuit × Signal → Circuit × List Signal
  with_done done r = (r.0, done ++ r.1 ∷ [])

  one_definition : (d : FlatFormula) (done : List Signal) (s : Circuit) → definition_gates m variables all d done s ≡ with_done done (definition_signal m variables all d done s)
  unfolding after
  one_definition d done s = by (reads_input m d.value && not all)
    where
      by : (b : Bool) → (if b then with_done done (pair_of s (bit (constant_lit false))) else with_done done (encoded (names_of m (the_copy variables done) (the_copy variables done)) its_value d.value s))
          ≡ with_done done (if b then pair_of s (bit (constant_lit false)) else encoded (names_of m (the_copy variables done) (the_copy variables done)) its_value d.value s)
      by true = refl
      by false = refl

  pub definitions_next : (ds : List FlatFormula) (i : ℕ) (d : FlatFormula) (done : List Built) (made : Built) (g t : Circuit) (whole : Circuit × List Signal) → slice_get ds i ≡ Some d
      → BuildsSignal g (definition_signal m variables all d (signals_of done) g) t made
      → whole ≡ fold_gates (definition_gates m variables all) (drop i ds) (signals_of done) g
      → whole ≡ fold_gates (definition_gates m variables all) (drop (i + 1) ds) (signals_of (done ++ made ∷ [])) t
  unfolding fold_gates after
  definitions_next ds i d done made g t whole at built before =
      let rest = λ (r : Circuit × List Signal). fold_gates (definition_gates m variables all) (drop (i + 1) ds) r.1 r.0 in
      before
      ∙ ap (λ l. fold_gates (definition_gates m variables all) l (signals_of done) g) (drop_there ds i d at)
      ∙ ap rest (one_definition d (signals_of done) g)
      ∙ ap (λ (r : Circuit × Signal). rest (r.0, signals_of done ++ r.1 ∷ [])) built.exact
      ∙ sym (ap (λ l. rest (t, l)) (map-append signal_of done (made ∷ [])))

  pub definitions_end : (ds : List FlatFormula) (i : ℕ) (done : List Built) (g : Circuit) (whole : Circuit × List Signal) → length ds ≤ i
      → whole ≡ fold_gates (definition_gates m variables all) (drop i ds) (signals_of done) g → whole ≡ (g, signals_of done)
  unfolding fold_gates
  definitions_end ds i done g whole end before = before ∙ ap (λ l. fold_gates (definition_gates m variables all) l (signals_of done) g) (drop_all i ds end)

-- ---- what holds

pub holds_is : (n : NamedSignals) (e : Tree FlatLeaf) (s h t : Circuit) (p : ExpressionSignal) (l : Literal) → BuildsPart n its_value e s h p → (judged_in (model_of n) false e).broken ≡ [] → l ≡ literal_in (signal_of p.signal)
    → t ≡ record { clauses = h.clauses ++ (l ∷ []) ∷ []; free = h.free } → Builds s (asserted_signal (encoded (names_in n) its_value e s)) t
unfolding asserted
holds_is n e s h t p l part right same is = record {
  exact = ap asserted_signal (part.right right).exact ∙ ap (λ x. asserted x h) (sym same) ∙ sym is;
  grows = omega (arith, part.grows, ap (λ (u : Circuit). u.free) is);
}

pub literal_is : (s h t : Circuit) (r : Circuit × Literal) (l : Literal) → BuildsLiteral s r h l → t ≡ record { clauses = h.clauses ++ (l ∷ []) ∷ []; free = h.free } → Builds s (asserted_literal r) t
unfolding asserted
literal_is s h t r l built is = record { exact = ap asserted_literal built.exact ∙ sym is; grows = omega (arith, built.grows, ap (λ (u : Circuit). u.free) is) }

pub or_same_is : (s h t : Circuit) (r : Circuit × Literal) (found here made : Literal) → BuildsLiteral s r h here → BuildsLiteral h (or_gate found here h) t made → BuildsLiteral s (after r (λ x u. or_gate found x u)) t made
unfolding after
or_same_is s h t r found here made a b = record { exact = ap (λ (q : Circuit × Literal). or_gate found q.1 q.0) a.exact ∙ b.exact; below = b.below; grows = omega (arith, a.grows, b.grows) }
