-- A resolved expression has exactly the values of the written one at its instance.
use Rattle.std.proofs.Common.{◌≡◌, ℕ, zero, suc, ◌+◌, ◌<◌, arith, false, List, [], ◌∷◌, Option, Some, None, refl, sym, ◌∙◌, ap, subst}
use Rattle.std.specs.Prelude.{slice_get, ◌↔◌}
use Rattle.smv_language.specs.Language.{Tree, Path, Formula, ProgramTree, tree_map, Value, Values, one, Leaves, evaluate, Place, Key, Meaning, a_variable_at, an_expression_at, an_instance_at, means_in, Valuation, values_of_meaning, name_values, May, Each, FlatLeaf, flat_variable, flat_symbol, flat_definition, FlatFormula, FlatModel, one_of, symbol_of, leaves_at, FlatGives, FlatMay, Numbers}
use Rattle.smv_language.specs.Scope.{a_symbol}
use Rattle.smv_language.proofs.Monotone.{means_more, name_values_more}
use Rattle.smv_language.proofs.Substituted.{evaluate_map}
use Rattle.smv_flat_laws.specs.NameResolution.{leaves_in, has_next, Definition, StandsFor, IsLeafOf, Resolver, IsSound, IsResolved, IsBefore, AreDefinitions, leaf_gives}
use Rattle.smv_flat_laws.proofs.Reaches.{stays_on, IsChain, BothReach, tree_reaches, tree_stays}
use Rattle.smv_flat_laws.proofs.Lists.{each_map, each_of_map, each_more, leaves_map}
use Rattle.smv_flat_laws.proofs.Now.{without_next, BothBelow, below_on}
use Rattle.smv_flat_laws.proofs.Table.{definition_law}

-- a name has one meaning
pub means_on : (d n k : ℕ) (p : ProgramTree) (at : Place) (name : Path) (a : Meaning) → n + d ≡ k → means_in n p at name ≡ Some a → means_in k p at name ≡ Some a
means_on zero n k p at name a e h = let same : n ≡ k = omega arith in subst (λ j. means_in j p at name ≡ Some a) same h
means_on (suc d) n k p at name a e h = means_on d (suc n) k p at name a (omega arith) (means_more n p at name a h)

pub same_meaning : (n k : ℕ) (p : ProgramTree) (at : Place) (name : Path) (a b : Meaning) → means_in n p at name ≡ Some a → means_in k p at name ≡ Some b → a ≡ b
same_meaning n k p at name a b h g =
    let x : means_in (n + k) p at name ≡ Some a = means_on k n (n + k) p at name a refl h in
    let y : means_in (n + k) p at name ≡ Some b = means_on n k (n + k) p at name b (omega arith) g in
    let both : Some a ≡ Some b = sym x ∙ y in cc

-- what a resolved expression gives is what the written one gives over what its names' leaves give
pub resolved_gives : (q : Path → Option FlatLeaf) (e : Formula) (flat : Tree FlatLeaf) (g g' : Leaves FlatLeaf) → IsResolved q e flat →
    evaluate g g' flat ≡ evaluate (λ name. leaf_gives g (q name)) (λ name. leaf_gives g' (q name)) e
resolved_gives q e flat g g' is =
    sym (evaluate_map Some flat (leaf_gives g) (leaf_gives g')) ∙ ap (evaluate (leaf_gives g) (leaf_gives g')) is ∙ evaluate_map q e (leaf_gives g) (leaf_gives g')

-- each name of a resolved expression has a leaf, of which what is known of the flat leaves is known
pub record Known (P : FlatLeaf → Type 0) (o : Option FlatLeaf) : Type 0 where
  pub found : FlatLeaf
  pub is : o ≡ Some found
  pub known : P found

pub names_known : (P : FlatLeaf → Type 0) (q : Path → Option FlatLeaf) (e : Formula) (flat : Tree FlatLeaf) → IsResolved q e flat → Each P (leaves_in flat) →
    Each (λ name. Known P (q name)) (leaves_in e)
names_known P q e flat is h = each_of_map (Known P) q (leaves_in e) (subst (Each (Known P)) (leaves_map q e) in_written)
  where
    in_flat : Each (Known P) (leaves_in (tree_map Some flat))
    in_flat = subst (Each (Known P)) (sym (leaves_map Some flat)) (each_map (Known P) Some (leaves_in flat) (each_more P (λ l. Known P (Some l)) (leaves_in flat) (λ l k. record { found = l; is = refl; known = k }) h))

    in_written : Each (Known P) (leaves_in (tree_map q e))
    in_written = subst (λ t. Each (Known P) (leaves_in t)) is in_flat

pub each_leaf : (ls : List FlatLeaf) → Each (λ l. Unit {0}) ls
each_leaf [] = tt
each_leaf (l ∷ ls) = (tt, each_leaf ls)

module _ (p : ProgramTree) (m : FlatModel) (ds : List Definition) (r : Resolver) (sound : IsSound p m ds r) (are : AreDefinitions p m ds r) where
  -- the written values are among the flat ones, at each depth
  abbrev FlatHas : ℕ → List Value → Valuation → Valuation → Type 0
  FlatHas n v now next =
      (at : Place) (name : Path) (l : FlatLeaf) (vs : Values) → IsLeafOf p m ds at name l → name_values n p at now next name ≡ Some vs → leaves_at m v l ≡ Some vs

  flat_step : (n : ℕ) (v : List Value) (now next : Valuation) → Numbers m v now → FlatHas n v now next → FlatHas (suc n) v now next
  flat_step n v now next num again at name l vs is e = by_look (means_in (suc n) p at name) refl
    where
      give : Place → Formula → Option Values
      give at' e = evaluate (name_values n p at' now next) (name_values n p at' next next) e

      expression : (k : ℕ) (key : Key) (at' : Place) (e : Formula) → slice_get ds k ≡ Some (record { key = key; place = at'; written = e }) → give at' e ≡ Some vs → leaves_at m v (flat_definition k) ≡ Some vs
      expression k key at' e q h =
          let d : (f : FlatFormula) × (slice_get m.definitions k ≡ Some f) × IsResolved (r at') e f.value × Each (IsBefore k) (leaves_in f.value) × (has_next e ≡ false) = are k _ q in
          let flat : Leaves Path = λ name. leaf_gives (leaves_at m v) (r at' name) in
          let written : evaluate (name_values n p at' now next) (name_values n p at' now next) e ≡ Some vs = without_next e _ _ _ d.4 ∙ h in
          definition_law m v k d.0 d.1 d.3 ∙ resolved_gives (r at') e d.0.value (leaves_at m v) (leaves_at m v) d.2
          ∙ below_on e (name_values n p at' now next) (name_values n p at' now next) flat flat
          (each_more (λ name. Known (λ l. Unit {0}) (r at' name)) (BothBelow Path (name_values n p at' now next) (name_values n p at' now next) flat flat) (leaves_in e)
          (λ name k. let b : (ws : Values) → name_values n p at' now next name ≡ Some ws → leaf_gives (leaves_at m v) (r at' name) ≡ Some ws =
          λ ws g. ap (leaf_gives (leaves_at m v)) k.is ∙ again at' name k.found ws (sound at' name k.found k.is) g in record { now = b; next = b })
          (names_known (λ l. Unit {0}) (r at') e d.0.value d.2 (each_leaf (leaves_in d.0.value)))) vs written

      by_meaning : (mg : Meaning) (l : FlatLeaf) → StandsFor m ds l mg → values_of_meaning give now (Some mg) ≡ Some vs → leaves_at m v l ≡ Some vs
      by_meaning (a_variable_at at' x) (flat_variable i) s h =
          ap one_of (num i s.0 s.1) ∙ rw (s.2, s.3) h
      by_meaning (a_symbol x) (flat_symbol i) s h = ap symbol_of s ∙ h
      by_meaning (an_expression_at key at' e) (flat_definition k) s h = expression k key at' e s h
      by_meaning (an_instance_at x) (flat_variable i) s h = absurd s
      by_meaning (an_instance_at x) (flat_symbol i) s h = absurd s
      by_meaning (an_instance_at x) (flat_definition i) s h = absurd s
      by_meaning mg l s h = absurd s

      by_look : (o : Option Meaning) → means_in (suc n) p at name ≡ o → leaves_at m v l ≡ Some vs
      by_look None q = let bad : None ≡ Some vs = sym (ap (values_of_meaning give now) q) ∙ e in cc
      by_look (Some mg) q =
          by_meaning mg l (subst (StandsFor m ds l) (same_meaning is.1.0 (suc n) p at name is.0 mg is.1.1 q) is.2) (sym (ap (values_of_meaning give now) q) ∙ e)

  pub flat_has : (n : ℕ) (v : List Value) (now next : Valuation) → Numbers m v now →
      (at : Place) (name : Path) (l : FlatLeaf) (vs : Values) → IsLeafOf p m ds at name l → name_values n p at now next name ≡ Some vs → leaves_at m v l ≡ Some vs
  flat_has zero v now next num = λ at name l vs is e. cc
  flat_has (suc n) v now next num = flat_step n v now next num (flat_has n v now next num)

  -- the flat values are among the written ones, at some depth
  abbrev WrittenHas : ℕ → List Value → Valuation → Valuation → Type 0
  WrittenHas bound v now next =
      (at : Place) (name : Path) (l : FlatLeaf) (vs : Values) → IsBefore bound l → IsLeafOf p m ds at name l → leaves_at m v l ≡ Some vs →
      (n : ℕ) × (name_values n p at now next name ≡ Some vs)

  -- a name that means a meaning has its values
  named : (v : List Value) (now next : Valuation) (at : Place) (name : Path) (vs : Values) (mg : Meaning) (k : ℕ) → means_in k p at name ≡ Some mg →
      (n : ℕ) → values_of_meaning (λ at' e. evaluate (name_values (n + k) p at' now next) (name_values (n + k) p at' next next) e) now (Some mg) ≡ Some vs →
      (n : ℕ) × (name_values n p at now next name ≡ Some vs)
  named v now next at name vs mg k q n h = (
    suc (n + k),
    ap (values_of_meaning (λ at' e. evaluate (name_values (n + k) p at' now next) (name_values (n + k) p at' next next) e) now)
        (means_on (suc n) k (suc (n + k)) p at name mg (omega arith) q) ∙ h,
  )

  is_before_more : (i k : ℕ) (l : FlatLeaf) → i < suc k → IsBefore i l → IsBefore k l
  is_before_more i k (flat_variable j) h b = tt
  is_before_more i k (flat_symbol j) h b = tt
  is_before_more i k (flat_definition j) h b = omega (arith, h, b)

  -- with what is known of the definitions before it, a definition's flat values are among the written ones
  written_definition : (bound : ℕ) (v : List Value) (now next : Valuation) → WrittenHas bound v now next →
      (i : ℕ) → i < suc bound → (key : Key) (at : Place) (e : Formula) → slice_get ds i ≡ Some (record { key = key; place = at; written = e }) →
      (vs : Values) → leaves_at m v (flat_definition i) ≡ Some vs → (n : ℕ) × (evaluate (name_values n p at now next) (name_values n p at next next) e ≡ Some vs)
  written_definition bound v now next again i less key at e q vs h = (reached.0, without_next e _ _ _ d.4 ∙ reached.1)
    where
      d : (f : FlatFormula) × (slice_get m.definitions i ≡ Some f) × IsResolved (r at) e f.value × Each (IsBefore i) (leaves_in f.value) × (has_next e ≡ false)
      d = are i _ q

      flat : Leaves Path
      flat = λ name. leaf_gives (leaves_at m v) (r at name)

      chain : ℕ → Leaves Path
      chain = λ n. name_values n p at now next

      is_chain : IsChain chain
      is_chain n = name_values_more n p at now next

      at_name : (name : Path) → Known (IsBefore i) (r at name) → BothReach Path flat flat chain chain name
      at_name name k =
          let one_way : (ws : Values) → flat name ≡ Some ws → (n : ℕ) × (chain n name ≡ Some ws) =
          λ ws g. again at name k.found ws (is_before_more i bound k.found less k.known) (sound at name k.found k.is) (sym (ap (leaf_gives (leaves_at m v)) k.is) ∙ g) in
          record { now = one_way; next = one_way }

      given : evaluate flat flat e ≡ Some vs
      given = sym (resolved_gives (r at) e d.0.value (leaves_at m v) (leaves_at m v) d.2) ∙ sym (definition_law m v i d.0 d.1 d.3) ∙ h

      reached : (n : ℕ) × (evaluate (chain n) (chain n) e ≡ Some vs)
      reached = tree_reaches Path e flat flat chain chain is_chain is_chain
          (each_more (λ name. Known (IsBefore i) (r at name)) (BothReach Path flat flat chain chain) (leaves_in e) at_name (names_known (IsBefore i) (r at) e d.0.value d.2 d.3)) vs given

  -- an expression has what it has at a greater depth
  deeper : (n k : ℕ) (at : Place) (now next : Valuation) (e : Formula) (vs : Values) → evaluate (name_values n p at now next) (name_values n p at next next) e ≡ Some vs →
      evaluate (name_values (n + k) p at now next) (name_values (n + k) p at next next) e ≡ Some vs
  deeper n k at now next e vs h =
      stays_on (λ j. evaluate (name_values j p at now next) (name_values j p at next next) e)
      (tree_stays e (λ j. name_values j p at now next) (λ j. name_values j p at next next) (λ j. name_values_more j p at now next) (λ j. name_values_more j p at next next))
      k n (n + k) vs refl h

  written_step : (bound : ℕ) (v : List Value) (now next : Valuation) → Numbers m v now →
      ((i : ℕ) (key : Key) (at : Place) (e : Formula) → i < bound → slice_get ds i ≡ Some (record { key = key; place = at; written = e }) →
      (vs : Values) → leaves_at m v (flat_definition i) ≡ Some vs → (n : ℕ) × (evaluate (name_values n p at now next) (name_values n p at next next) e ≡ Some vs)) →
      WrittenHas bound v now next
  written_step bound v now next num definitions at name l vs before is h = by_meaning is.0 l before is.1.0 is.1.1 is.2 h
    where
      by_meaning : (mg : Meaning) (l : FlatLeaf) → IsBefore bound l → (k : ℕ) → means_in k p at name ≡ Some mg → StandsFor m ds l mg → leaves_at m v l ≡ Some vs →
          (n : ℕ) × (name_values n p at now next name ≡ Some vs)
      by_meaning (a_variable_at at' x) (flat_variable i) b k q s g =
          named v now next at name vs (a_variable_at at' x) k q 0
          (subst (λ y. Some (one (now at' y)) ≡ Some vs) s.3 (subst (λ a. Some (one (now a s.0.name)) ≡ Some vs) s.2 (sym (ap one_of (num i s.0 s.1)) ∙ g)))
      by_meaning (a_symbol x) (flat_symbol i) b k q s g = named v now next at name vs (a_symbol x) k q 0 (sym (ap symbol_of s) ∙ g)
      by_meaning (an_expression_at key at' e) (flat_definition i) b k q s g =
          let d : (n : ℕ) × (evaluate (name_values n p at' now next) (name_values n p at' next next) e ≡ Some vs) = definitions i key at' e b s vs g in
          named v now next at name vs (an_expression_at key at' e) k q d.0 (deeper d.0 k at' now next e vs d.1)
      by_meaning (an_instance_at x) (flat_variable i) b k q s g = absurd s
      by_meaning (an_instance_at x) (flat_symbol i) b k q s g = absurd s
      by_meaning (an_instance_at x) (flat_definition i) b k q s g = absurd s
      by_meaning mg l b k q s g = absurd s

  pub written_has : (bound : ℕ) (v : List Value) (now next : Valuation) → Numbers m v now →
      (at : Place) (name : Path) (l : FlatLeaf) (vs : Values) → IsBefore bound l → IsLeafOf p m ds at name l → leaves_at m v l ≡ Some vs →
      (n : ℕ) × (name_values n p at now next name ≡ Some vs)
  written_has zero v now next num = written_step zero v now next num (λ i key at e b. absurd (omega (arith, b)))
  written_has (suc bound) v now next num =
      written_step (suc bound) v now next num (λ i key at e b q vs h. written_definition bound v now next (written_has bound v now next num) i b key at e q vs h)

  abbrev bound_of : FlatLeaf → ℕ
  bound_of (flat_variable i) = 0
  bound_of (flat_symbol i) = 0
  bound_of (flat_definition i) = suc i

  is_within : (l : FlatLeaf) → IsBefore (bound_of l) l
  is_within (flat_variable i) = tt
  is_within (flat_symbol i) = tt
  is_within (flat_definition i) = omega arith

  -- the law: a resolved expression has exactly the values of the written one at its instance
  pub resolved_exactly : (v w : List Value) (now next : Valuation) → Numbers m v now → Numbers m w next →
      (at : Place) (e : Formula) (flat : Tree FlatLeaf) → IsResolved (r at) e flat → (vs : Values) →
      (((n : ℕ) × (evaluate (name_values n p at now next) (name_values n p at next next) e ≡ Some vs)) ↔ FlatGives m v w flat vs)
  resolved_exactly v w now next num num' at e flat is vs = (to, from)
    where
      here : Leaves Path
      here = λ name. leaf_gives (leaves_at m v) (r at name)

      there : Leaves Path
      there = λ name. leaf_gives (leaves_at m w) (r at name)

      names : Each (λ name. Known (λ l. Unit {0}) (r at name)) (leaves_in e)
      names = names_known (λ l. Unit {0}) (r at) e flat is (each_leaf (leaves_in flat))

      to : (n : ℕ) × (evaluate (name_values n p at now next) (name_values n p at next next) e ≡ Some vs) → FlatGives m v w flat vs
      to h = resolved_gives (r at) e flat (leaves_at m v) (leaves_at m w) is
          ∙ below_on e (name_values h.0 p at now next) (name_values h.0 p at next next) here there
          (each_more (λ name. Known (λ l. Unit {0}) (r at name)) (BothBelow Path (name_values h.0 p at now next) (name_values h.0 p at next next) here there) (leaves_in e)
          (λ name k. record {
            now = λ ws g. ap (leaf_gives (leaves_at m v)) k.is ∙ flat_has h.0 v now next num at name k.found ws (sound at name k.found k.is) g;
            next = λ ws g. ap (leaf_gives (leaves_at m w)) k.is ∙ flat_has h.0 w next next num' at name k.found ws (sound at name k.found k.is) g;
          }) names) vs h.1

      chain : ℕ → Leaves Path
      chain = λ n. name_values n p at now next

      chain' : ℕ → Leaves Path
      chain' = λ n. name_values n p at next next

      from : FlatGives m v w flat vs → (n : ℕ) × (evaluate (name_values n p at now next) (name_values n p at next next) e ≡ Some vs)
      from h = tree_reaches Path e here there chain chain' (λ n. name_values_more n p at now next) (λ n. name_values_more n p at next next)
          (each_more (λ name. Known (λ l. Unit {0}) (r at name)) (BothReach Path here there chain chain') (leaves_in e)
          (λ name k. record {
            now = λ ws g. written_has (bound_of k.found) v now next num at name k.found ws (is_within k.found) (sound at name k.found k.is) (sym (ap (leaf_gives (leaves_at m v)) k.is) ∙ g);
            next = λ ws g. written_has (bound_of k.found) w next next num' at name k.found ws (is_within k.found) (sound at name k.found k.is) (sym (ap (leaf_gives (leaves_at m w)) k.is) ∙ g);
          }) names) vs (sym (resolved_gives (r at) e flat (leaves_at m v) (leaves_at m w) is) ∙ h)

  pub may_exactly : (v w : List Value) (now next : Valuation) → Numbers m v now → Numbers m w next →
      (at : Place) (e : Formula) (flat : Tree FlatLeaf) → IsResolved (r at) e flat → (x : Value) → (May p at now next e x ↔ FlatMay m v w flat x)
  may_exactly v w now next num num' at e flat is x = (
    (λ h. (h.1, (resolved_exactly v w now next num num' at e flat is h.1).0 (h.0, h.2), h.3)),
    (λ h. let g : (n : ℕ) × (evaluate (name_values n p at now next) (name_values n p at next next) e ≡ Some h.0) = (resolved_exactly v w now next num num' at e flat is h.0).1 h.1 in
        (g.0, h.0, g.1, h.2)),
  )
