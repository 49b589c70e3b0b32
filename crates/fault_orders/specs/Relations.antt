-- How the first moments of two facts in a list of moments stand to each other.
use Rattle.std.specs.Prelude.{◌≡◌, ℕ, ◌<◌, List, Some, slice_get}
use Rattle.fault_orders.specs.declared.Relation.{Relation}
use Rattle.fault_orders.specs.declared.Relation.TheVariants.{Before, After, Together}

module _ (M : Type 0) where
  -- the fact holds at the moment of this number, counted from 0, and at none before it
  pub record BeginsAt (fact : M → Type 0) (trace : List M) (k : ℕ) : Type 0 where
    pub moment : M
    pub there : slice_get trace k ≡ Some moment
    pub holds : fact moment
    pub none_before : (j : ℕ) (other : M) → j < k → slice_get trace j ≡ Some other → fact other → ⊥

  -- the number stands so to the other
  abbrev pub Stands : Relation → ℕ → ℕ → Type 0
  Stands Before j k = j < k
  Stands After j k = k < j
  Stands Together j k = j ≡ k

  -- both facts begin, and their first moments stand so to each other
  abbrev pub HasRelation : Relation → (M → Type 0) → (M → Type 0) → List M → Type 0
  HasRelation r fact other trace = (j : ℕ) × (k : ℕ) × BeginsAt fact trace j × BeginsAt other trace k × Stands r j k
