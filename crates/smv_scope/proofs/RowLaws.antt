-- What is known of formals, after one of them is told.
use Rattle.std.proofs.Common.{◌≡◌, ℕ, ◌≤◌, List, length, Some, Vec, sym, ◌∙◌, ap}
use Rattle.std.specs.Prelude.{slice_get, slice_set, option_map}
use Rattle.std.specs.declared.alloc.Global.{Global}
use Rattle.std.proofs.lemmas.List.{map-set, set_past}
use Rattle.smv_scope.specs.KnownFormals.{rows_of, row_or, rows_with}
use Rattle.smv_scope.specs.declared.names.Formal.{Formal}
use Rattle.smv_scope.proofs.SceneItems.{get_map}

abbrev items_of_row : Vec Formal Global → List Formal
items_of_row v = v.items

row_there : (fs : List (Vec Formal Global)) (k : ℕ) (v : Vec Formal Global) → slice_get fs k ≡ Some v → row_or (slice_get (rows_of fs) k) ≡ v.items
row_there fs k v is = ap row_or (get_map items_of_row fs k ∙ ap (λ o. option_map items_of_row o) is)

pub written : (fs : List (Vec Formal Global)) (k : ℕ) (v w : Vec Formal Global) (i : ℕ) (f : Formal) → slice_get fs k ≡ Some v → w.items ≡ slice_set v.items i f →
    rows_of (slice_set fs k w) ≡ rows_with (rows_of fs) k i f
written fs k v w i f is items =
    map-set items_of_row fs k w
    ∙ ap (λ r. slice_set (rows_of fs) k r) (items ∙ ap (λ r. slice_set r i f) (sym (row_there fs k v is)))

pub written_past : (fs : List (Vec Formal Global)) (k : ℕ) (v : Vec Formal Global) (i : ℕ) (f : Formal) → slice_get fs k ≡ Some v → length v.items ≤ i →
    rows_of (slice_set fs k v) ≡ rows_with (rows_of fs) k i f
written_past fs k v i f is past = written fs k v v i f is (sym (set_past v.items i f past))
