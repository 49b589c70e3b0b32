-- A model that has grown by additions, and expressions of the model that it grew from.
use Rattle.std.proofs.Common.{◌≡◌, ℕ, suc, true, List, [], ◌∷◌, ◌++◌, length, refl, ap, ◌∙◌, sym, subst}
use Rattle.std.proofs.lemmas.List.{append_assoc, append-nil}
use Rattle.std.specs.Prelude.{◌↔◌}
use Rattle.smv_language.specs.Language.{Tree, Text, Value, evaluate, Each, AtLast, FlatLeaf, FlatFormula, FlatModel, FlatMay, flat_leaves, table_after, leaves_at}
use Rattle.smv_language.specs.Values.{truth}
use Rattle.smv_flat_laws.specs.History.{Mode, added, with_history}
use Rattle.smv_flat_laws.specs.FlatTrace.{IsFlatMoment, bits_after, told_from}
use Rattle.smv_flat_laws.specs.NameResolution.{leaves_in}
use Rattle.smv_flat_laws.proofs.Conditions.{MayBe}
use Rattle.fault_cause_laws.specs.Additions.{Addition, with_addition, KnowsNames, IsKnownName, beside}
use Rattle.fault_cause_laws.specs.Columns.{with_values, with_value}
use Rattle.fault_cause_laws.proofs.Longer.{hold_longer, same_longer}
use Rattle.smv_flat_laws.proofs.HistoryTraces.{domains_length, joined}

-- the model has more symbols after those of the other, and the same definitions
pub record HasGrown (m made : FlatModel) : Type 0 where
  pub more : List Text
  pub symbols : made.symbols ≡ m.symbols ++ more
  pub definitions : made.definitions ≡ m.definitions

pub not_grown : (m : FlatModel) → HasGrown m m
not_grown m = record { more = []; symbols = sym (append-nil m.symbols); definitions = refl }

pub grown_by : (m made : FlatModel) (a : Addition) → HasGrown m made → HasGrown m (with_addition made a)
grown_by m made a g = record { more = g.more ++ a.symbols; symbols = ap (λ s. s ++ a.symbols) g.symbols ∙ append_assoc m.symbols g.more a.symbols; definitions = g.definitions }

pub grown_history : (m : FlatModel) (fs : List Mode) → HasGrown m (with_history m fs)
grown_history m fs = record { more = []; symbols = sym (append-nil m.symbols); definitions = refl }

-- the valuations have more values after those of the trace
pub record IsLonger (trace long : List (List Value)) : Type 0 where
  pub more : List (List Value)
  pub one_each : length more ≡ length trace
  pub is : long ≡ beside trace more

pub not_longer : (trace : List (List Value)) → IsLonger trace trace
not_longer [] = record { more = []; one_each = refl; is = refl }
not_longer (v ∷ vs) =
    let rest : IsLonger vs vs = not_longer vs in
    record { more = [] ∷ rest.more; one_each = ap suc rest.one_each; is = joined v (v ++ []) vs (beside vs rest.more) (sym (append-nil v)) rest.is }

longer_values : (value : ℕ → Value) (k : ℕ) (trace more : List (List Value)) → length more ≡ length trace → IsLonger trace (with_values value k (beside trace more))
longer_values value k [] more e = record { more = []; one_each = refl; is = refl }
longer_values value k (v ∷ vs) [] e = let bad : 0 ≡ suc (length vs) = e in cc
longer_values value k (v ∷ vs) (x ∷ xs) e =
    let rest : IsLonger vs (with_values value (suc k) (beside vs xs)) = longer_values value (suc k) vs xs (less (length xs) (length vs) e) in
    record {
      more = (x ++ value k ∷ []) ∷ rest.more;
      one_each = ap suc rest.one_each;
      is = joined ((v ++ x) ++ value k ∷ []) (v ++ (x ++ value k ∷ [])) (with_values value (suc k) (beside vs xs)) (beside vs rest.more) (append_assoc v x (value k ∷ [])) rest.is;
    }
  where
    less : (j k : ℕ) → suc j ≡ suc k → j ≡ k
    less j k e = cc

pub longer_by : (value : ℕ → Value) (trace long : List (List Value)) → IsLonger trace long → IsLonger trace (with_value value long)
longer_by value trace long h = subst (λ us. IsLonger trace (with_value value us)) (sym h.is) (longer_values value 0 trace h.more h.one_each)

pub longer_history : (m : FlatModel) (fs : List Mode) (before trace : List (List Value)) → IsLonger trace (told_from m fs before trace)
longer_history m fs before [] = record { more = []; one_each = refl; is = refl }
longer_history m fs before (v ∷ vs) =
    let rest : IsLonger vs (told_from m fs (before ++ v ∷ []) vs) = longer_history m fs (before ++ v ∷ []) vs in
    record { more = bits_after m fs (before ++ v ∷ []) ∷ rest.more; one_each = ap suc rest.one_each; is = ap (λ us. (v ++ bits_after m fs (before ++ v ∷ [])) ∷ us) rest.is }

module _ (m made : FlatModel) (knows : KnowsNames m) (grown : HasGrown m made) where
  abbrev blank : Addition
  blank = record { variables = []; symbols = grown.more; at_first = []; at_each = []; at_step = [] }

  -- an expression of the model may be TRUE of a longer valuation exactly where it may be of that
  pub may_longer : (v bs : List Value) → length v ≡ length m.variables → (top : Tree FlatLeaf) → Each (IsKnownName (length m.variables) (length m.symbols)) (leaves_in top) →
      (FlatMay made (v ++ bs) (v ++ bs) top (truth true) ↔ FlatMay m v v top (truth true))
  may_longer v bs e top reads =
      let same : Each (λ (f : FlatFormula). MayBe (evaluate (leaves_at (with_addition m blank) (v ++ bs)) (leaves_at (with_addition m blank) (v ++ bs)) f.value) (truth true)) (added top ∷ [])
      ↔ Each (λ (f : FlatFormula). MayBe (evaluate (leaves_at m v) (leaves_at m v) f.value) (truth true)) (added top ∷ []) =
      hold_longer m blank knows v v bs bs e e (added top ∷ []) (reads, tt) in
      subst (λ ds. MayBe (evaluate (flat_leaves made.symbols (v ++ bs) (table_after made.symbols (v ++ bs) [] ds)) (flat_leaves made.symbols (v ++ bs) (table_after made.symbols (v ++ bs) [] ds)) top) (truth true)
      ↔ FlatMay m v v top (truth true)) (sym grown.definitions)
      (subst (λ s. MayBe (evaluate (flat_leaves s (v ++ bs) (table_after s (v ++ bs) [] m.definitions)) (flat_leaves s (v ++ bs) (table_after s (v ++ bs) [] m.definitions)) top) (truth true)
      ↔ FlatMay m v v top (truth true)) (sym grown.symbols) ((λ h. (same.0 (h, tt)).0), (λ h. (same.1 (h, tt)).0)))

  -- an expression of the model gives of a longer valuation what it gives of that
  pub gives_same : (v bs : List Value) → length v ≡ length m.variables → (top : Tree FlatLeaf) → Each (IsKnownName (length m.variables) (length m.symbols)) (leaves_in top) →
      evaluate (leaves_at made (v ++ bs)) (leaves_at made (v ++ bs)) top ≡ evaluate (leaves_at m v) (leaves_at m v) top
  gives_same v bs e top reads =
      subst (λ ds. evaluate (flat_leaves made.symbols (v ++ bs) (table_after made.symbols (v ++ bs) [] ds)) (flat_leaves made.symbols (v ++ bs) (table_after made.symbols (v ++ bs) [] ds)) top ≡ evaluate (leaves_at m v) (leaves_at m v) top) (sym grown.definitions)
      (subst (λ s. evaluate (flat_leaves s (v ++ bs) (table_after s (v ++ bs) [] m.definitions)) (flat_leaves s (v ++ bs) (table_after s (v ++ bs) [] m.definitions)) top ≡ evaluate (leaves_at m v) (leaves_at m v) top) (sym grown.symbols)
      (same_longer m blank knows v v bs bs e e (added top) reads))

  -- and at the end of a longer trace exactly where it may be at the end of that
  last_longer : (top : Tree FlatLeaf) → Each (IsKnownName (length m.variables) (length m.symbols)) (leaves_in top) → (trace more : List (List Value)) → length more ≡ length trace → Each (IsFlatMoment m) trace →
      (AtLast (λ v. FlatMay made v v top (truth true)) (beside trace more) ↔ AtLast (λ v. FlatMay m v v top (truth true)) trace)
  last_longer top reads [] more e moments = ((λ h. absurd h), (λ h. absurd h))
  last_longer top reads (v ∷ vs) [] e moments = let bad : 0 ≡ suc (length vs) = e in cc
  last_longer top reads (v ∷ []) (x ∷ []) e moments = may_longer v x (domains_length m.variables v moments.0.domains) top reads
  last_longer top reads (v ∷ []) (x ∷ y ∷ xs) e moments = let bad : suc (suc (length xs)) ≡ 1 = e in cc
  last_longer top reads (v ∷ w ∷ vs) (x ∷ []) e moments = let bad : 1 ≡ suc (suc (length vs)) = e in cc
  last_longer top reads (v ∷ w ∷ vs) (x ∷ y ∷ xs) e moments = last_longer top reads (w ∷ vs) (y ∷ xs) (less (suc (length xs)) (suc (length vs)) e) moments.1
    where
      less : (j k : ℕ) → suc j ≡ suc k → j ≡ k
      less j k e = cc

  pub reaches_longer : (top : Tree FlatLeaf) → Each (IsKnownName (length m.variables) (length m.symbols)) (leaves_in top) → (trace long : List (List Value)) → IsLonger trace long → Each (IsFlatMoment m) trace →
      (AtLast (λ v. FlatMay made v v top (truth true)) long ↔ AtLast (λ v. FlatMay m v v top (truth true)) trace)
  reaches_longer top reads trace long longer moments =
      subst (λ us. AtLast (λ v. FlatMay made v v top (truth true)) us ↔ AtLast (λ v. FlatMay m v v top (truth true)) trace) (sym longer.is) (last_longer top reads trace longer.more longer.one_each moments)
