-- What the copies of a model say.
use Rattle.std.proofs.Common.{◌≡◌, ℕ, ◌+◌, Bool, List, [], length, refl, sym, ◌∙◌, ap, arith}
use Rattle.std.specs.Prelude.{slice_get}
use Rattle.smv_language.specs.Language.{Each, Value, FlatModel, Holds}
use Rattle.smv_flat_laws.specs.FlatTrace.{AreInDomains}
use Rattle.smv_type_laws.proofs.Typed.{parts_of, conditions_decided}
use Rattle.sat_clauses.specs.Models.{TotalAssignment, SameBelow}
use Rattle.sat_circuits.specs.Circuit.{Circuit, after}
use Rattle.sat_encoding_laws.specs.Signals.{Signal}
use Rattle.sat_encoding_laws.specs.Layout.{variable_signals}
use Rattle.sat_encoding_laws.specs.Lists.{Copy, copy_of, names_of, definitions_gates, moment_gates, copy_gates}
use Rattle.sat_encoding_laws.specs.Encodable.{IsEncodable}
use Rattle.sat_encoding_laws.proofs.NameMeans.{AreSignals, naming, left_out, VariablesRight, SoFar, DefinitionShape, definitions-means, fit_copies, reads_kept}
use Rattle.sat_encoding_laws.proofs.Readings.{reading, reading_same, reading_inside, reading_right, AllInside}
use Rattle.sat_encoding_laws.proofs.Says.{Says, says_built, says_same}
use Rattle.sat_encoding_laws.proofs.MomentMeans.{signals_moved, model_types, formulas_right, Goes, domains_say, formulas_say}

module _ (m : FlatModel) (is : IsEncodable m) where
  -- the valuation that the variables of a copy spell, where those left out have given values
  abbrev pub read_copy : Bool → ℕ → ℕ → List Value → TotalAssignment → List Value
  read_copy all p q us v = reading m.symbols is.symbols all m.variables (variable_signals m.symbols p q m.variables) us v

  abbrev pub InsideCopy : Bool → ℕ → ℕ → TotalAssignment → Type 0
  InsideCopy all p q v = AllInside m.symbols is.symbols all m.variables (variable_signals m.symbols p q m.variables) v

  -- the bits of the copy stand below the gates
  abbrev pub IsPlaced : Circuit → ℕ → ℕ → Type 0
  IsPlaced base p q = AreSignals base (variable_signals m.symbols p q m.variables)

  pub copy_right : (all : Bool) (p q : ℕ) (us : List Value) (v : TotalAssignment) → InsideCopy all p q v → VariablesRight m is all v (variable_signals m.symbols p q m.variables) (read_copy all p q us v)
  copy_right all p q us v inside i kept y e = reading_right m.symbols is.symbols all m.variables (model_types m is) p q us v inside i kept y e

  pub copy_inside : (all : Bool) (p q : ℕ) (us : List Value) (v : TotalAssignment) → AreInDomains m.variables us → InsideCopy all p q v → AreInDomains m.variables (read_copy all p q us v)
  copy_inside all p q us v h inside = reading_inside m.symbols is.symbols all m.variables p q us v h inside

  pub copy_same : (all : Bool) (p q : ℕ) (us : List Value) (base : Circuit) → IsPlaced base p q → (v w : TotalAssignment) → SameBelow base.free v w → read_copy all p q us v ≡ read_copy all p q us w
  copy_same all p q us base placed v w same = sym (reading_same m.symbols is.symbols all base v w same m.variables (variable_signals m.symbols p q m.variables) us placed)

  -- what holds at each moment, of a copy whose definitions are right
  pub moment_says : (all : Bool) (p q n : ℕ) (us : List Value) → AreInDomains m.variables us → (base : Circuit) → base.free ≡ n → IsPlaced base p q
      → (ds : List Signal) (t : Circuit) (C F : TotalAssignment → Type 0) → Says n t C F → ((v : TotalAssignment) → F v → SoFar m is (variable_signals m.symbols p q m.variables) all v ds)
      → AreSignals t ds → length ds ≡ length m.definitions
      → Goes n t (moment_gates m (copy_of (variable_signals m.symbols p q m.variables) ds) all t)
      (λ v. (C v × InsideCopy all p q v) × Each (Holds m (read_copy all p q us v) (read_copy all p q us v)) m.at_each) F
  moment_says all p q n us inside base at placed ds t C F says facts hd long =
      let vs = variable_signals m.symbols p q m.variables in
      let copy = copy_of vs ds in
      let k = length m.definitions in
      let domains = domains_say m is all copy copy m.variables (model_types m is) p q n t C F says base at placed in
      let formulas =
      formulas_say m is (names_of m copy copy) (left_out m all) (left_out m all) (read_copy all p q us) (read_copy all p q us) k n m.at_each
      (reads_kept m is all m.at_each is.closed.at_each is.at_each) (formulas_right m m.at_each (parts_of m is.typed).at_each)
      (λ v w below. let e = copy_same all p q us base placed v w (λ x h. below x (omega (arith, h, at))) in (e, e))
      _ (λ v. C v × InsideCopy all p q v) F domains.says
      (λ u ready more.
      let hv = signals_moved base u (omega (arith, at, says.from, domains.grows, more)) vs placed in
      let hd' = signals_moved t u (omega (arith, domains.grows, more)) ds hd in
      naming m is u ready copy copy hv hd' hv hd' k)
      (λ v one_true c f.
      let right = copy_right all p q us v c.1 in
      let x = copy_inside all p q us v inside c.1 in
      let defs = facts v f (read_copy all p q us v) x right in
      fit_copies m is all all v one_true copy copy (read_copy all p q us v) (read_copy all p q us v) x x right defs right defs k (omega arith) (omega (arith, long)) (omega (arith, long)))
      (λ v c. let x = copy_inside all p q us v inside c.1 in (conditions_decided m is.closed is.typed (read_copy all p q us v) (read_copy all p q us v) x x).1) in
      record { says = formulas.says; grows = omega (arith, domains.grows, formulas.grows) }

  -- a whole copy: what its definitions are, and what it says
  pub record CopySays (all : Bool) (p q n : ℕ) (us : List Value) (s : Circuit) (C F : TotalAssignment → Type 0) (r : Circuit × Copy) : Type 0 where
    pub variables : r.1.variables ≡ variable_signals m.symbols p q m.variables
    pub usable : AreSignals r.0 r.1.definitions
    pub long : length r.1.definitions ≡ length m.definitions
    pub goes : Goes n s r.0 (λ v. (C v × InsideCopy all p q v) × Each (Holds m (read_copy all p q us v) (read_copy all p q us v)) m.at_each)
        (λ v. F v × SoFar m is (variable_signals m.symbols p q m.variables) all v r.1.definitions)

  pub copy_says : (all : Bool) (p q n : ℕ) (us : List Value) → AreInDomains m.variables us → (base : Circuit) → base.free ≡ n → IsPlaced base p q → (s : Circuit) (C F : TotalAssignment → Type 0) → Says n s C F
      → CopySays all p q n us s C F (copy_gates m (variable_signals m.symbols p q m.variables) all s)
  unfolding after
  copy_says all p q n us inside base at placed s C F says =
      let vs = variable_signals m.symbols p q m.variables in
      let k = length m.definitions in
      let g = definitions-means m is vs all m.definitions 0 (λ j d e. let at : j ≡ 0 + j = omega arith in ap (slice_get m.definitions) (sym at) ∙ e) [] s says.ready (signals_moved base s (omega (arith, at, says.from)) vs placed) tt refl in
      let built = says_built n s C F (definitions_gates m vs all s) (DefinitionShape m is vs all (0 + k)) _ says g in
      let t = (definitions_gates m vs all s).0 in
      let ds = (definitions_gates m vs all s).1 in
      let G = λ (v : TotalAssignment). F v × SoFar m is vs all v ds in
      let none : (v : TotalAssignment) → SoFar m is vs all v [] = λ v x h r i below. absurd (omega (arith, below)) in
      let ready : Says n t C G = says_same n t C C _ G built (λ v c. c) (λ v c. c) (λ v f. (f.0, f.1 (none v))) in
      let long : length ds ≡ k = g.shape.1 ∙ omega arith in
      let rest = moment_says all p q n us inside base at placed ds t C G ready (λ v f. f.1) g.shape.0 long in
      record {
        variables = refl;
        usable = signals_moved t (moment_gates m (copy_of vs ds) all t) rest.grows ds g.shape.0;
        long = long;
        goes = record { says = rest.says; grows = omega (arith, g.extends.counted, rest.grows) };
      }
