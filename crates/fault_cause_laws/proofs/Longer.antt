-- What a model's own formulas say of a valuation, they say of a longer one over more symbols.
use Rattle.std.proofs.Common.{◌≡◌, true, List, [], ◌∷◌, ◌++◌, length, Option, refl, ap, ◌∙◌, sym, subst}
use Rattle.std.specs.Prelude.{◌↔◌}
use Rattle.smv_language.specs.Language.{Text, Value, Values, evaluate, Each, FlatLeaf, flat_variable, flat_symbol, flat_definition, FlatVariable, FlatFormula, FlatModel, one_of, symbol_of, flat_leaves, definition_gives, table_after, leaves_at, Holds}
use Rattle.smv_language.specs.Values.{truth}
use Rattle.smv_flat_laws.specs.FlatTrace.{AreInDomains}
use Rattle.smv_flat_laws.specs.NameResolution.{leaves_in}
use Rattle.smv_flat_laws.proofs.Lists.{each_more}
use Rattle.smv_flat_laws.proofs.Conditions.{MayBe}
use Rattle.smv_flat_laws.proofs.Now.{BothSame, same_on}
use Rattle.fault_cause_laws.specs.Additions.{Addition, with_addition, IsKnownName, IsKnownFormula, ReadsKnown, KnowsNames}
use Rattle.smv_flat_laws.proofs.HistoryTraces.{get_before}

module _ (symbols others : List Text) where
  leaf_longer : (v more : List Value) (table : List (Option Values)) (l : FlatLeaf) → IsKnownName (length v) (length symbols) l →
      flat_leaves (symbols ++ others) (v ++ more) table l ≡ flat_leaves symbols v table l
  leaf_longer v more table (flat_variable i) h = ap one_of (get_before v more i h)
  leaf_longer v more table (flat_symbol i) h = ap symbol_of (get_before symbols others i h)
  leaf_longer v more table (flat_definition i) h = refl

  gives_longer : (v more : List Value) (table : List (Option Values)) (d : FlatFormula) → IsKnownFormula (length v) (length symbols) d →
      definition_gives (symbols ++ others) (v ++ more) table d ≡ definition_gives symbols v table d
  gives_longer v more table d own =
      same_on d.value (flat_leaves (symbols ++ others) (v ++ more) table) (flat_leaves (symbols ++ others) (v ++ more) table) (flat_leaves symbols v table) (flat_leaves symbols v table)
      (each_more (IsKnownName (length v) (length symbols))
      (BothSame FlatLeaf (flat_leaves (symbols ++ others) (v ++ more) table) (flat_leaves (symbols ++ others) (v ++ more) table) (flat_leaves symbols v table) (flat_leaves symbols v table)) (leaves_in d.value)
      (λ l h. record { now = leaf_longer v more table l h; next = leaf_longer v more table l h }) own)

  table_longer : (v more : List Value) (table : List (Option Values)) (ds : List FlatFormula) → Each (IsKnownFormula (length v) (length symbols)) ds →
      table_after (symbols ++ others) (v ++ more) table ds ≡ table_after symbols v table ds
  table_longer v more table [] own = refl
  table_longer v more table (d ∷ ds) own =
      ap (λ g. table_after (symbols ++ others) (v ++ more) (table ++ g ∷ []) ds) (gives_longer v more table d own.0)
      ∙ table_longer v more (table ++ definition_gives symbols v table d ∷ []) ds own.1

module _ (m : FlatModel) (a : Addition) (knows : KnowsNames m) where
  sized : (v : List Value) (fs : List FlatFormula) → length v ≡ length m.variables → ReadsKnown m fs → Each (IsKnownFormula (length v) (length m.symbols)) fs
  sized v fs e h = subst (λ n. Each (IsKnownFormula n (length m.symbols)) fs) (sym e) h

  leaves_longer : (v more : List Value) → length v ≡ length m.variables → (l : FlatLeaf) → IsKnownName (length m.variables) (length m.symbols) l →
      leaves_at (with_addition m a) (v ++ more) l ≡ leaves_at m v l
  leaves_longer v more e l h =
      ap (λ t. flat_leaves (m.symbols ++ a.symbols) (v ++ more) t l) (table_longer m.symbols a.symbols v more [] m.definitions (sized v m.definitions e knows.definitions))
      ∙ leaf_longer m.symbols a.symbols v more (table_after m.symbols v [] m.definitions) l (subst (λ n. IsKnownName n (length m.symbols) l) (sym e) h)

  pub same_longer : (v w bs cs : List Value) → length v ≡ length m.variables → length w ≡ length m.variables → (f : FlatFormula) → IsKnownFormula (length m.variables) (length m.symbols) f →
      evaluate (leaves_at (with_addition m a) (v ++ bs)) (leaves_at (with_addition m a) (w ++ cs)) f.value ≡ evaluate (leaves_at m v) (leaves_at m w) f.value
  same_longer v w bs cs e e' f reads =
      same_on f.value (leaves_at (with_addition m a) (v ++ bs)) (leaves_at (with_addition m a) (w ++ cs)) (leaves_at m v) (leaves_at m w)
      (each_more (IsKnownName (length m.variables) (length m.symbols))
      (BothSame FlatLeaf (leaves_at (with_addition m a) (v ++ bs)) (leaves_at (with_addition m a) (w ++ cs)) (leaves_at m v) (leaves_at m w)) (leaves_in f.value)
      (λ l h. record { now = leaves_longer v bs e l h; next = leaves_longer w cs e' l h }) reads)

  -- the model's own formulas hold of longer valuations exactly where they hold of those
  pub hold_longer : (v w bs cs : List Value) → length v ≡ length m.variables → length w ≡ length m.variables → (fs : List FlatFormula) → ReadsKnown m fs →
      (Each (Holds (with_addition m a) (v ++ bs) (w ++ cs)) fs ↔ Each (Holds m v w) fs)
  hold_longer v w bs cs e e' [] reads = ((λ h. tt), (λ h. tt))
  hold_longer v w bs cs e e' (f ∷ fs) reads =
      let same : evaluate (leaves_at (with_addition m a) (v ++ bs)) (leaves_at (with_addition m a) (w ++ cs)) f.value ≡ evaluate (leaves_at m v) (leaves_at m w) f.value =
      same_longer v w bs cs e e' f reads.0 in
      let rest : Each (Holds (with_addition m a) (v ++ bs) (w ++ cs)) fs ↔ Each (Holds m v w) fs = hold_longer v w bs cs e e' fs reads.1 in (
        (λ h. (subst (λ o. MayBe o (truth true)) same h.0, rest.0 h.1)),
        (λ h. (subst (λ o. MayBe o (truth true)) (sym same) h.0, rest.1 h.1)),
      )

-- Values of the variables, taken apart.
pub record Parts (xs ys : List FlatVariable) (u : List Value) : Type 0 where
  pub own : List Value
  pub more : List Value
  pub is : u ≡ own ++ more
  pub domains : AreInDomains xs own
  pub others : AreInDomains ys more

pub parts : (xs ys : List FlatVariable) (u : List Value) → AreInDomains (xs ++ ys) u → Parts xs ys u
parts [] ys u h = record { own = []; more = u; is = refl; domains = tt; others = h }
parts (x ∷ xs) ys [] h = absurd h
parts (x ∷ xs) ys (b ∷ u) h =
    let rest : Parts xs ys u = parts xs ys u h.1 in
    record { own = b ∷ rest.own; more = rest.more; is = ap (λ us. b ∷ us) rest.is; domains = (h.0, rest.domains); others = rest.others }

pub whole : (xs ys : List FlatVariable) (v more : List Value) → AreInDomains xs v → AreInDomains ys more → AreInDomains (xs ++ ys) (v ++ more)
whole [] ys [] more h k = k
whole [] ys (b ∷ v) more h k = absurd h
whole (x ∷ xs) ys [] more h k = absurd h
whole (x ∷ xs) ys (b ∷ v) more h k = (h.0, whole xs ys v more h.1 k)
