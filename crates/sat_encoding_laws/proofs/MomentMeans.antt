-- What a copy of a model says: the domains, and the formulas that hold.
use Rattle.std.proofs.Common.{◌≡◌, ℕ, ◌+◌, ◌≤◌, Bool, true, false, not, cond, ◌&&◌, List, [], ◌∷◌, Option, Some, refl, sym, ◌∙◌, ap, subst, arith}
use Rattle.std.specs.Prelude.{IsTrue}
use Rattle.smv_language.specs.Language.{Text, DeclaredTree, boolean, range, members, instance, Each, in_domain, Value, Values, one, has, evaluate, FlatLeaf, FlatVariable, FlatFormula, FlatModel, Holds, leaves_at}
use Rattle.smv_language.specs.Values.{truth}
use Rattle.smv_type_laws.specs.ExpressionKinds.{truth_class, not_boolean, unless_class}
use Rattle.smv_type_laws.specs.DeclaredKinds.{judged_declared}
use Rattle.smv_type_laws.specs.Models.{judged_in, kind_of_leaf, broken_condition, breaches_at, condition_breaches, variable_breaches}
use Rattle.smv_type_laws.specs.Laws.{IsDecided}
use Rattle.smv_type_laws.proofs.Parts.{none_first, none_second}
use Rattle.smv_type_laws.proofs.Typed.{none_at, parts_of}
use Rattle.sat_clauses.specs.Models.{TotalAssignment, SameBelow}
use Rattle.sat_circuits.specs.Circuit.{Circuit}
use Rattle.sat_circuits.proofs.Extension.{AllBelow-more}
use Rattle.smv_flat_laws.proofs.Lists.{each_more}
use Rattle.sat_encoding_laws.specs.Signals.{Signal, bit, word}
use Rattle.sat_encoding_laws.specs.Expressions.{its_value, whether_has, Names, encoded}
use Rattle.sat_encoding_laws.specs.Meanings.{IsSignal, IsReady}
use Rattle.sat_encoding_laws.specs.ReadNames.{Reads}
use Rattle.sat_encoding_laws.specs.Inputs.{is_input}
use Rattle.sat_encoding_laws.specs.Layout.{state_width, input_width, variable_signal, variable_signals, place_of}
use Rattle.sat_encoding_laws.specs.Lists.{Copy, names_of, asserted, asserted_signal, formulas_gates, type_gates, type_tree, domains_gates}
use Rattle.sat_encoding_laws.specs.Encodable.{IsListedType, IsEncodable}
use Rattle.sat_encoding_laws.proofs.Parts.{literal_below, truth_in_bit}
use Rattle.sat_encoding_laws.proofs.ExpressionMeans.{IsNaming, IsFit, encoded-means}
use Rattle.sat_encoding_laws.proofs.VariableMeans.{read_as}
use Rattle.sat_encoding_laws.proofs.DomainMeans.{domain_gate}
use Rattle.sat_encoding_laws.proofs.NameMeans.{AreSignals, KnownTo}
use Rattle.sat_encoding_laws.proofs.Readings.{IsRightType, read_same, ReadsInside, AllInside}
use Rattle.sat_encoding_laws.proofs.Says.{Says, IsStable, says_built, says_asserted, says_same}

-- signals may be used in a circuit with no fewer variables
pub signal_moved : (s t : Circuit) → s.free ≤ t.free → (e : Signal) → IsSignal s e → IsSignal t e
signal_moved s t h (bit l) k = omega (arith, h, k)
signal_moved s t h (word w) k = record { signed = k.signed; below = AllBelow-more s.free t.free h w k.below }

pub signals_moved : (s t : Circuit) → s.free ≤ t.free → (es : List Signal) → AreSignals s es → AreSignals t es
signals_moved s t h es k = each_more (IsSignal s) (IsSignal t) es (λ e q. signal_moved s t h e q) k

-- an assertion takes no variable
asserted_grows : (s : Circuit) (r : Circuit × Signal) → s.free ≤ r.0.free → s.free ≤ (asserted_signal r).free
unfolding asserted
asserted_grows s r h = h

-- ---- types of a model

types_right : (symbols : List Text) (xs : List FlatVariable) → variable_breaches xs ≡ [] → Each (λ x. IsListedType symbols x.declared) xs → Each (IsRightType symbols) xs
types_right symbols [] e l = tt
types_right symbols (x ∷ xs) e l =
    let here = breaches_at x.number x.item (judged_declared x.declared).broken in
    ((none_at x.number x.item _ (none_first here _ e), l.0), types_right symbols xs (none_second here _ e) l.1)

pub model_types : (m : FlatModel) → IsEncodable m → Each (IsRightType m.symbols) m.variables
model_types m is = types_right m.symbols m.variables (parts_of m is.typed).variables is.types

-- formulas of a model break no rule
pub formulas_right : (m : FlatModel) (fs : List FlatFormula) → condition_breaches m fs ≡ [] → Each (λ f. (judged_in m false f.value).broken ≡ []) fs
formulas_right m [] e = tt
formulas_right m (f ∷ fs) e =
    let j = judged_in m false f.value in
    let here = breaches_at f.number f.item (broken_condition j) in
    (none_second (unless_class truth_class not_boolean j.kind) j.broken (none_at f.number f.item (broken_condition j) (none_first here _ e)), formulas_right m fs (none_second here _ e))

-- ---- domains

-- what is built says this, and has no fewer variables
pub record Goes (n : ℕ) (s t : Circuit) (C F : TotalAssignment → Type 0) : Type 0 where
  pub says : Says n t C F
  pub grows : s.free ≤ t.free

pub goes_same : (n : ℕ) (s t : Circuit) (C D F G : TotalAssignment → Type 0) → Goes n s t C F → ((v : TotalAssignment) → C v → D v) → ((v : TotalAssignment) → D v → C v) → ((v : TotalAssignment) → F v → G v) → Goes n s t D G
goes_same n s t C D F G g to from facts = record { says = says_same n t C D F G g.says to from facts; grows = g.grows }

pub goes_none : (n : ℕ) (s : Circuit) (C D F : TotalAssignment → Type 0) → Says n s C F → ((v : TotalAssignment) → C v → D v) → ((v : TotalAssignment) → D v → C v) → Goes n s s D F
goes_none n s C D F says to from = record { says = says_same n s C D F F says to from (λ v f. f); grows = omega arith }

module _ (m : FlatModel) (is : IsEncodable m) where
  -- the domain of a type, asserted of a variable's signal
  type_says : (now next : Copy) (d : DeclaredTree) → (judged_declared d).broken ≡ [] → IsListedType m.symbols d → (p n : ℕ) (s : Circuit) (C F : TotalAssignment → Type 0) → Says n s C F
      → (base : Circuit) → base.free ≡ n → IsSignal base (variable_signal m.symbols d p) → (d ≡ boolean → ⊥)
      → Goes n s (asserted_signal (encoded (names_of m now next) (whether_has (variable_signal m.symbols d p)) (type_tree m.symbols d) s))
      (λ v. C v × (in_domain d (read_as m.symbols d v (variable_signal m.symbols d p)) ≡ true)) F
  type_says now next d right listed p n s C F says base at he not_bool =
      let e = variable_signal m.symbols d p in
      let h = signal_moved base s (omega (arith, at, says.from)) e he in
      let g = domain_gate m is.symbols now next s says.ready d right listed not_bool p h in
      let built = says_built n s C F _ IsSignal _ says g in
      let D = λ (v : TotalAssignment). in_domain d (read_as m.symbols d v e) ≡ true in
      let stable : IsStable n D = λ v w same k.
      ap (in_domain d) (read_same m.symbols (judged_declared d).kind.class base v w (λ x below. same x (omega (arith, at, below))) e he) ∙ k in
      record {
        says =
            says_same n _ _ _ _ F
            (says_asserted n _ C _ D _ (literal_below _ built.ready.least _ g.shape) stable built (λ v k. let told = (built.sound v k).1.1 in (told.to, told.from)))
            (λ v c. c) (λ v c. c) (λ v f. f.0);
        grows = asserted_grows s (encoded (names_of m now next) (whether_has (variable_signal m.symbols d p)) (type_tree m.symbols d) s) g.extends.counted;
      }

  -- the domain of one variable
  domain_says : (all : Bool) (now next : Copy) (x : FlatVariable) → IsRightType m.symbols x → (p n : ℕ) (s : Circuit) (C F : TotalAssignment → Type 0) → Says n s C F
      → (base : Circuit) → base.free ≡ n → IsSignal base (variable_signal m.symbols x.declared p)
      → Goes n s (cond (is_input x.role && not all) s (type_gates m (names_of m now next) x.declared (variable_signal m.symbols x.declared p) s))
      (λ v. C v × ReadsInside m.symbols is.symbols all x (variable_signal m.symbols x.declared p) v) F
  domain_says all now next x right p n s C F says base at he = by (is_input x.role && not all) refl
    where
      by : (b : Bool) → (is_input x.role && not all) ≡ b
          → Goes n s (cond b s (type_gates m (names_of m now next) x.declared (variable_signal m.symbols x.declared p) s))
          (λ v. C v × ReadsInside m.symbols is.symbols all x (variable_signal m.symbols x.declared p) v) F
      by true out = goes_none n s C _ F says (λ v c. (c, λ kept. cc (out, kept))) (λ v c. c.0)
      by false out = typed x.declared right.0 right.1 he
        where
          asked : (d : DeclaredTree) (c : Circuit) → Goes n s c (λ v. C v × (in_domain d (read_as m.symbols d v (variable_signal m.symbols d p)) ≡ true)) F
              → Goes n s c (λ v. C v × ((is_input x.role && not all) ≡ false → in_domain d (read_as m.symbols d v (variable_signal m.symbols d p)) ≡ true)) F
          asked d c k = goes_same n s c _ _ F F k (λ v q. (q.0, λ kept. q.1)) (λ v q. (q.0, q.1 out)) (λ v f. f)

          typed : (d : DeclaredTree) → (judged_declared d).broken ≡ [] → IsListedType m.symbols d → IsSignal base (variable_signal m.symbols d p)
              → Goes n s (type_gates m (names_of m now next) d (variable_signal m.symbols d p) s)
              (λ v. C v × ((is_input x.role && not all) ≡ false → in_domain d (read_as m.symbols d v (variable_signal m.symbols d p)) ≡ true)) F
          typed boolean r l h = goes_none n s C _ F says (λ v c. (c, λ kept. refl)) (λ v c. c.0)
          typed (range lo hi) r l h = asked (range lo hi) _ (type_says now next (range lo hi) r l p n s C F says base at h (λ b. cc b))
          typed (members ms) r l h = asked (members ms) _ (type_says now next (members ms) r l p n s C F says base at h (λ b. cc b))
          typed (instance f actuals) r l h = absurd l

  -- the domains of variables
  pub domains_say : (all : Bool) (now next : Copy) (xs : List FlatVariable) → Each (IsRightType m.symbols) xs → (p q n : ℕ) (s : Circuit) (C F : TotalAssignment → Type 0) → Says n s C F
      → (base : Circuit) → base.free ≡ n → AreSignals base (variable_signals m.symbols p q xs)
      → Goes n s (domains_gates m (names_of m now next) all xs (variable_signals m.symbols p q xs) s) (λ v. C v × AllInside m.symbols is.symbols all xs (variable_signals m.symbols p q xs) v) F
  domains_say all now next [] right p q n s C F says base at h = goes_none n s C _ F says (λ v c. (c, tt)) (λ v c. c.0)
  domains_say all now next (x ∷ xs) right p q n s C F says base at h =
      let e = variable_signal m.symbols x.declared (place_of x.role p q) in
      let first = domain_says all now next x right.0 (place_of x.role p q) n s C F says base at h.0 in
      let rest = domains_say all now next xs right.1 (p + state_width m.symbols x) (q + input_width m.symbols x) n _ (λ v. C v × ReadsInside m.symbols is.symbols all x e v) F first.says base at h.1 in
      record {
        says = says_same n _ _ _ F F rest.says (λ v c. (c.0.0, (c.0.1, c.1))) (λ v c. ((c.0, c.1.0), c.1.1)) (λ v f. f);
        grows = omega (arith, first.grows, rest.grows);
      }

  -- ---- formulas

  same_as_true : (b : Bool) → IsTrue (has (one (truth b)) (truth true)) → b ≡ true
  same_as_true true h = refl
  same_as_true false h = h

  one_given : (given : Option Values) (a b : Values) → given ≡ Some a → given ≡ Some b → a ≡ b
  one_given given a b p q = cc

  -- a decided formula holds where its value is TRUE
  holds_to : (x y : List Value) (f : FlatFormula) → (d : IsDecided m x y f) → d.value ≡ true → Holds m x y f
  holds_to x y f d e = (one (truth true), d.gives ∙ ap (λ b. Some (one (truth b))) e, refl)

  holds_from : (x y : List Value) (f : FlatFormula) → (d : IsDecided m x y f) → Holds m x y f → d.value ≡ true
  holds_from x y f d h =
      let same : h.0 ≡ one (truth d.value) = one_given (evaluate (leaves_at m x) (leaves_at m y) f.value) h.0 (one (truth d.value)) h.1 d.gives in
      same_as_true d.value (subst (λ (vs : Values). IsTrue (has vs (truth true))) same h.2)

  -- one formula that is asserted
  formula_says : (c : Names FlatLeaf) (tn tx : FlatLeaf → Bool) (X Y : TotalAssignment → List Value) (k n : ℕ) (f : FlatFormula) → Reads (KnownTo m is k) tn tx f.value → (judged_in m false f.value).broken ≡ []
      → IsStable n (λ v. Holds m (X v) (Y v) f)
      → (s : Circuit) (C F : TotalAssignment → Type 0) → Says n s C F → IsNaming FlatLeaf m.symbols is.symbols (kind_of_leaf m) (KnownTo m is k) s c
      → ((v : TotalAssignment) → v 1 ≡ true → C v → F v → IsFit FlatLeaf m.symbols is.symbols (kind_of_leaf m) (KnownTo m is k) v c tn tx (leaves_at m (X v)) (leaves_at m (Y v)))
      → ((v : TotalAssignment) → C v → IsDecided m (X v) (Y v) f)
      → Goes n s (asserted_signal (encoded c its_value f.value s)) (λ v. C v × Holds m (X v) (Y v) f) F
  formula_says c tn tx X Y k n f reads right stable s C F says naming fit decided =
      let g = encoded-means FlatLeaf m.symbols is.symbols (kind_of_leaf m) (KnownTo m is k) c its_value f.value s says.ready naming tt in
      let built = says_built n s C F _ IsSignal _ says g in
      let D = λ (v : TotalAssignment). Holds m (X v) (Y v) f in
      record {
        grows = asserted_grows s (encoded c its_value f.value s) g.extends.counted;
        says = says_same n _ _ _ _ F
            (says_asserted n _ C _ D _ (literal_below _ built.ready.least _ g.shape) stable built
            (λ v h.
            let known = built.sound v h in
            let d = decided v known.0 in
            let value = known.1.1 tn tx (leaves_at m (X v)) (leaves_at m (Y v)) (fit v (built.ready.truth v h) known.0 known.1.0) reads false refl right (truth d.value) d.gives in
            let bit_is = truth_in_bit m.symbols v _ d.value value in
            ((λ q. holds_to (X v) (Y v) f d (sym bit_is ∙ q)), (λ q. bit_is ∙ holds_from (X v) (Y v) f d q))))
            (λ v c. c) (λ v c. c) (λ v f. f.0);
      }

  -- formulas, each in turn
  pub formulas_say : (c : Names FlatLeaf) (tn tx : FlatLeaf → Bool) (X Y : TotalAssignment → List Value) (k n : ℕ) (fs : List FlatFormula)
      → Each (λ f. Reads (KnownTo m is k) tn tx f.value) fs → Each (λ f. (judged_in m false f.value).broken ≡ []) fs
      → ((v w : TotalAssignment) → SameBelow n v w → (X v ≡ X w) × (Y v ≡ Y w))
      → (s : Circuit) (C F : TotalAssignment → Type 0) → Says n s C F → ((t : Circuit) → IsReady t → s.free ≤ t.free → IsNaming FlatLeaf m.symbols is.symbols (kind_of_leaf m) (KnownTo m is k) t c)
      → ((v : TotalAssignment) → v 1 ≡ true → C v → F v → IsFit FlatLeaf m.symbols is.symbols (kind_of_leaf m) (KnownTo m is k) v c tn tx (leaves_at m (X v)) (leaves_at m (Y v)))
      → ((v : TotalAssignment) → C v → Each (IsDecided m (X v) (Y v)) fs)
      → Goes n s (formulas_gates c fs s) (λ v. C v × Each (Holds m (X v) (Y v)) fs) F
  formulas_say c tn tx X Y k n [] reads right same s C F says naming fit decided = goes_none n s C _ F says (λ v c. (c, tt)) (λ v c. c.0)
  formulas_say c tn tx X Y k n (f ∷ fs) reads right same s C F says naming fit decided =
      let stable : IsStable n (λ v. Holds m (X v) (Y v) f) = λ v w below h. let e = same v w below in subst (λ (y : List Value). Holds m (X w) y f) e.1 (subst (λ (x : List Value). Holds m x (Y v) f) e.0 h) in
      let first = formula_says c tn tx X Y k n f reads.0 right.0 stable s C F says (naming s says.ready (omega arith)) fit (λ v h. (decided v h).0) in
      let rest =
      formulas_say c tn tx X Y k n fs reads.1 right.1 same _ (λ v. C v × Holds m (X v) (Y v) f) F first.says (λ t ready more. naming t ready (omega (arith, first.grows, more)))
      (λ v one_true h g. fit v one_true h.0 g) (λ v h. (decided v h.0).1) in
      record {
        says = says_same n _ _ _ F F rest.says (λ v h. (h.0.0, (h.0.1, h.1))) (λ v h. ((h.0, h.1.0), h.1.1)) (λ v g. g);
        grows = omega (arith, first.grows, rest.grows);
      }
