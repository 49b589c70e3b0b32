-- An expression that is resolved soundly has exactly the values of the written one, whatever resolves it.
use Rattle.std.proofs.Common.{◌≡◌, ◌↔◌, ℕ, suc, arith, List, Some, sym, ap, ◌∙◌}
use Rattle.smv_language.specs.Language.{Tree, Path, Formula, ProgramTree, Value, Values, Leaves, evaluate, Place, Valuation, name_values, May, Each, FlatLeaf, flat_variable, flat_symbol, flat_definition, FlatModel, leaves_at, FlatGives, FlatMay, Numbers}
use Rattle.smv_language.proofs.Monotone.{name_values_more}
use Rattle.smv_flat_laws.specs.NameResolution.{leaves_in, Resolver, IsSound, IsResolved, IsBefore, leaf_gives}
use Rattle.smv_flat_laws.specs.Model.{IsFlatOf}
use Rattle.smv_flat_laws.proofs.Reaches.{BothReach, tree_reaches}
use Rattle.smv_flat_laws.proofs.Lists.{each_more}
use Rattle.smv_flat_laws.proofs.Now.{BothBelow, below_on}
use Rattle.smv_flat_laws.proofs.Resolving.{Known, names_known, resolved_gives, flat_has, written_has, each_leaf}

abbrev past : FlatLeaf → ℕ
past (flat_variable i) = 0
past (flat_symbol i) = 0
past (flat_definition i) = suc i

is_within : (l : FlatLeaf) → IsBefore (past l) l
is_within (flat_variable i) = tt
is_within (flat_symbol i) = tt
is_within (flat_definition i) = omega arith

module _ (p : ProgramTree) (m : FlatModel) (is : IsFlatOf p m) (r : Resolver) (sound : IsSound p m is.written r) where
  pub resolved_by : (v w : List Value) (now next : Valuation) → Numbers m v now → Numbers m w next → (at : Place) (e : Formula) (flat : Tree FlatLeaf) → IsResolved (r at) e flat → (vs : Values) →
      (((n : ℕ) × (evaluate (name_values n p at now next) (name_values n p at next next) e ≡ Some vs)) ↔ FlatGives m v w flat vs)
  resolved_by v w now next num num' at e flat h vs = (to, back)
    where
      here : Leaves Path
      here = λ name. leaf_gives (leaves_at m v) (r at name)

      there : Leaves Path
      there = λ name. leaf_gives (leaves_at m w) (r at name)

      names : Each (λ name. Known (λ l. Unit {0}) (r at name)) (leaves_in e)
      names = names_known (λ l. Unit {0}) (r at) e flat h (each_leaf (leaves_in flat))

      to : (n : ℕ) × (evaluate (name_values n p at now next) (name_values n p at next next) e ≡ Some vs) → FlatGives m v w flat vs
      to g = resolved_gives (r at) e flat (leaves_at m v) (leaves_at m w) h
          ∙ below_on e (name_values g.0 p at now next) (name_values g.0 p at next next) here there
          (each_more (λ name. Known (λ l. Unit {0}) (r at name)) (BothBelow Path (name_values g.0 p at now next) (name_values g.0 p at next next) here there) (leaves_in e)
          (λ name k. record {
            now = λ ws q. ap (leaf_gives (leaves_at m v)) k.is ∙ flat_has p m is.written is.resolver is.sound is.definitions g.0 v now next num at name k.found ws (sound at name k.found k.is) q;
            next = λ ws q. ap (leaf_gives (leaves_at m w)) k.is ∙ flat_has p m is.written is.resolver is.sound is.definitions g.0 w next next num' at name k.found ws (sound at name k.found k.is) q;
          }) names) vs g.1

      chain : ℕ → Leaves Path
      chain = λ n. name_values n p at now next

      chain' : ℕ → Leaves Path
      chain' = λ n. name_values n p at next next

      back : FlatGives m v w flat vs → (n : ℕ) × (evaluate (name_values n p at now next) (name_values n p at next next) e ≡ Some vs)
      back g = tree_reaches Path e here there chain chain' (λ n. name_values_more n p at now next) (λ n. name_values_more n p at next next)
          (each_more (λ name. Known (λ l. Unit {0}) (r at name)) (BothReach Path here there chain chain') (leaves_in e)
          (λ name k. record {
            now = λ ws q. written_has p m is.written is.resolver is.sound is.definitions (past k.found) v now next num at name k.found ws (is_within k.found) (sound at name k.found k.is) (sym (ap (leaf_gives (leaves_at m v)) k.is) ∙ q);
            next = λ ws q. written_has p m is.written is.resolver is.sound is.definitions (past k.found) w next next num' at name k.found ws (is_within k.found) (sound at name k.found k.is) (sym (ap (leaf_gives (leaves_at m w)) k.is) ∙ q);
          }) names) vs (sym (resolved_gives (r at) e flat (leaves_at m v) (leaves_at m w) h) ∙ g)

  pub may_by : (v w : List Value) (now next : Valuation) → Numbers m v now → Numbers m w next → (at : Place) (e : Formula) (flat : Tree FlatLeaf) → IsResolved (r at) e flat → (x : Value) →
      (May p at now next e x ↔ FlatMay m v w flat x)
  may_by v w now next num num' at e flat h x = (
    (λ g. (g.1, (resolved_by v w now next num num' at e flat h g.1).0 (g.0, g.2), g.3)),
    (λ g. let n : (n : ℕ) × (evaluate (name_values n p at now next) (name_values n p at next next) e ≡ Some g.0) = (resolved_by v w now next num num' at e flat h g.0).1 g.1 in
        (n.0, g.0, n.1, g.2)),
  )
