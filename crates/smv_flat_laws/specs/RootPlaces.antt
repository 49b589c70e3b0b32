-- The definition of a number, by its instance and then its item: by how many definitions those before them make.
use Rattle.std.specs.Prelude.{◌≡◌, ℕ, zero, suc, ◌+◌, ◌-◌, nat_lt, if◌then◌else◌, List, [], ◌∷◌, Option, Some, None, slice_get, sum_by}
use Rattle.smv_language.specs.Language.{Path, Formula, DeclaredTree, instance, ProgramTree, Place, define_key, actual_key, plain_name}
use Rattle.smv_language.specs.Language.{FlatInstance}
use Rattle.smv_flat_laws.specs.Items.{Item, a_declaration, a_definition, NumberedItem, items_named, instances_of}
use Rattle.smv_flat_laws.specs.Model.{Root, roots_of}

-- an actual makes a definition, but where it is a plain name
abbrev pub made_by_actual : Option Path → ℕ
made_by_actual (Some name) = 0
made_by_actual None = 1

-- so many definitions what is declared makes
abbrev pub made_by_type : DeclaredTree → ℕ
made_by_type (instance m actuals) = sum_by (λ e. made_by_actual (plain_name e)) actuals
made_by_type _ = 0

-- so many an item makes
abbrev pub made_by : Item → ℕ
made_by (a_declaration role d) = made_by_type d.what
made_by (a_definition d) = 1
made_by _ = 0

-- so many the items of an instance make
abbrev pub made_at : ProgramTree → FlatInstance → ℕ
made_at p at = sum_by (λ (i : NumberedItem). made_by i.item) (items_named p at.module_name)

-- an actual's own definition, or one of those of the actuals after it
abbrev pub root_or_later : Root → (ℕ → Option Root) → Option Path → ℕ → Option Root
root_or_later r later (Some name) k = later k
root_or_later r later None zero = Some r
root_or_later r later None (suc k) = later k

-- the definition of a number among those of the actuals of an instance, which are numbered on
abbrev pub root_of_actual_at : Place → ℕ → ℕ → List Formula → ℕ → Option Root
root_of_actual_at inside i item [] k = None
root_of_actual_at inside i item (e ∷ es) k =
    root_or_later (record { key = actual_key inside i; item = item }) (root_of_actual_at inside (suc i) item es) (plain_name e) k

-- among those of what a name is declared as
abbrev pub root_of_type_at : Place → ℕ → DeclaredTree → ℕ → Option Root
root_of_type_at inside item (instance m actuals) k = root_of_actual_at inside 0 item actuals k
root_of_type_at inside item _ k = None

-- among those of an item
abbrev pub root_of_item_at : Place → ℕ → Item → ℕ → Option Root
root_of_item_at at item (a_declaration role d) k = root_of_type_at (d.name ∷ at) item d.what k
root_of_item_at at item (a_definition d) zero = Some (record { key = define_key at d.name; item = item })
root_of_item_at at item _ k = None

-- the definition of a number among those of items, where so many are made before these
abbrev pub root_among_items : Place → ℕ → List NumberedItem → ℕ → Option Root
root_among_items at before [] k = None
root_among_items at before (i ∷ is) k =
    if nat_lt k (before + made_by i.item) then root_of_item_at at i.number i.item (k - before)
    else root_among_items at (before + made_by i.item) is k

-- and among those of instances
abbrev pub root_among : ProgramTree → ℕ → List FlatInstance → ℕ → Option Root
root_among p before [] k = None
root_among p before (at ∷ ats) k =
    if nat_lt k (before + made_at p at) then root_among_items at.place before (items_named p at.module_name) k
    else root_among p (before + made_at p at) ats k

-- the definition of a number
abbrev pub root_at : ProgramTree → ℕ → Option Root
root_at p k = root_among p 0 (instances_of p) k

-- it is the one that is listed there
abbrev pub RootsByItems : Type 0
RootsByItems = (p : ProgramTree) (k : ℕ) → slice_get (roots_of p) k ≡ root_at p k
