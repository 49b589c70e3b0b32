-- Formals are answered one after another, until all are.
use Rattle.std.proofs.Common.{◌≡◌, ℕ, ◌+◌, ◌<◌, ◌≤◌, arith, Bool, true, false, ltb, List, length, Option, Some, None, Vec, refl, sym, ◌∙◌, ap, subst}
use Rattle.std.specs.Prelude.{slice_get, option_map}
use Rattle.std.specs.declared.alloc.Global.{Global}
use Rattle.std.proofs.lemmas.Bool.{ltb-true, ltb-false}
use Rattle.std.proofs.lemmas.List.{length-map}
use Rattle.smv_language.specs.Language.{ProgramTree, find_module, FlatInstance}
use Rattle.smv_flat_laws.specs.Items.{instances_of}
use Rattle.smv_scope.specs.SceneTree.{formals_of, program_of}
use Rattle.smv_scope.specs.TableLookUps.{formal_or, formal_at}
use Rattle.smv_scope.specs.Steps.{is_open, row_count_in, row_count}
use Rattle.smv_scope.specs.KnownFormals.{rows, row_or, formal_of, IsOpen, IsSized, IsSameButFormals}
use Rattle.smv_scope.specs.WaitingLookUps.{IsReady, AreSettled, IsRowAnswered}
use Rattle.smv_scope.specs.declared.names.Formal.{Formal}
use Rattle.smv_scope.specs.declared.names.Scene.{Scene}
use Rattle.smv_scope.proofs.SceneItems.{get_map}
use Rattle.smv_scope.proofs.Naming.{program_same}
use Rattle.smv_scope.proofs.Frames.{formal_by_rows}
use Rattle.smv_scope.proofs.Turns.{not_open}
use Rattle.std.proofs.lemmas.Option.{same_Some as of_some, slice_get_past as get_past, slice_get_within as get_less}
use Rattle.base_values.proofs.ListLaws.{get_within}
use Rattle.base_values.proofs.NumberLaws.{one_more}

pub settled_then : (a b c : List (List Formal)) → AreSettled a b → AreSettled b c → AreSettled a c
settled_then a b c h g k i is = h k i (g k i is)

-- the formals of an instance
abbrev pub AnsweredTo : Scene → ℕ → ℕ → Type 0
AnsweredTo s spot n = (i : ℕ) → i < n → IsOpen (formal_of (rows s) spot i) → ⊥

pub answered_more : (mid new : Scene) (spot n : ℕ) → AnsweredTo mid spot n → AreSettled (rows mid) (rows new) → (IsOpen (formal_of (rows new) spot n) → ⊥) → AnsweredTo new spot (n + 1)
answered_more mid new spot n before settled here = one_more (λ i. IsOpen (formal_of (rows new) spot i) → ⊥) n (λ i lt is. before i lt (settled spot i is)) here

pub answered_already : (s : Scene) (spot n : ℕ) → AnsweredTo s spot n → is_open (formal_at s spot n) ≡ false → AnsweredTo s spot (n + 1)
answered_already s spot n before told = answered_more s s spot n before (λ k i is. is) (λ is. not_open (formal_at s spot n) told (subst IsOpen (sym (formal_by_rows s spot n)) is))

-- the formals of an instance are answered up to one, and all tables but that of formals are the same
pub record RowTo (old s : Scene) (spot n : ℕ) : Type 0 where
  pub same : IsSameButFormals old s
  pub ready : IsReady s
  pub settled : AreSettled (rows old) (rows s)
  pub answered : AnsweredTo s spot n

pub row_more : (old mid new s : Scene) (spot n : ℕ) → RowTo old mid spot n → IsSameButFormals mid new → IsReady new → AreSettled (rows mid) (rows new) → (IsOpen (formal_of (rows new) spot n) → ⊥) → new ≡ s → RowTo old s spot (n + 1)
row_more old mid new s spot n before same ready settled here is =
    subst (λ t. RowTo old t spot (n + 1)) is
    (record {
      same = record {
        modules = same.modules ∙ before.same.modules;
        spots = same.spots ∙ before.same.spots;
        symbols = same.symbols ∙ before.same.symbols;
        definitions = same.definitions ∙ before.same.definitions;
      };
      ready = ready;
      settled = settled_then (rows old) (rows mid) (rows new) before.settled settled;
      answered = answered_more mid new spot n before.answered settled here;
    })

pub row_kept : (old mid s : Scene) (spot n : ℕ) → RowTo old mid spot n → is_open (formal_at mid spot n) ≡ false → mid ≡ s → RowTo old s spot (n + 1)
row_kept old mid s spot n before told is =
    subst (λ t. RowTo old t spot (n + 1)) is
    (record { same = before.same; ready = before.ready; settled = before.settled; answered = answered_already mid spot n before.answered told })

none_open : (o : Option Formal) → o ≡ None → IsOpen (formal_or o) → ⊥
none_open o none is = subst (λ q. IsOpen (formal_or q)) none is

pub row_done : (old new : Scene) (spot n : ℕ) → IsSameButFormals old new → IsReady old → IsReady new → row_count old spot ≤ n → AnsweredTo new spot n → IsRowAnswered (rows new) spot
row_done old new spot n same ready ready' all answered i = by_order (ltb i n) refl
  where
    by_row : (o : Option (List Formal)) → slice_get (rows new) spot ≡ o → n ≤ i → IsOpen (formal_of (rows new) spot i) → ⊥
    by_row None none past is = subst (λ q. IsOpen (formal_or (slice_get (row_or q) i))) none is
    by_row (Some row) is_row past is =
        let below : spot < length (rows new) = get_less (rows new) spot row is_row in
        let many : length (rows new) ≡ length (instances_of (program_of new)) = ready'.told.many in
        let at : (at : FlatInstance) × (slice_get (instances_of (program_of new)) spot ≡ Some at) = get_within (instances_of (program_of new)) spot (omega (arith, below, many)) in
        let new_sized : IsSized (program_of new) (rows new) spot at.0 = ready'.told.sized spot at.0 at.1 in
        let old_at : slice_get (instances_of (program_of old)) spot ≡ Some at.0 = ap (λ p. slice_get (instances_of p) spot) (sym (program_same old new same.modules)) ∙ at.1 in
        let old_sized : IsSized (program_of old) (rows old) spot at.0 = ready.told.sized spot at.0 old_at in
        let same_size : length old_sized.row ≡ length new_sized.row = old_sized.size ∙ ap (λ p. sizes p at.0) (sym (program_same old new same.modules)) ∙ sym new_sized.size in
        let same_row : length new_sized.row ≡ length row = ap (λ (r : List Formal). length r) (of_some new_sized.row row (sym new_sized.is ∙ is_row)) in
        let counted : row_count old spot ≡ length old_sized.row = by_count (slice_get old.formals.items spot) old_sized.row (sym (get_map (λ (v : Vec Formal Global). v.items) old.formals.items spot) ∙ old_sized.is) in
        let beyond : length row ≤ i = omega (arith, all, past, same_size, same_row, counted) in
        none_open (slice_get row i) (get_past row i beyond) (subst (λ q. IsOpen (formal_or (slice_get (row_or q) i))) is_row is)
      where
        sizes : ProgramTree → FlatInstance → ℕ
        sizes p at = length (formals_of (find_module p at.module_name))

        by_count : (o : Option (Vec Formal Global)) (r : List Formal) → option_map (λ (v : Vec Formal Global). v.items) o ≡ Some r → row_count_in o ≡ length r
        by_count None r e = cc
        by_count (Some v) r e = ap (λ (q : List Formal). length q) (of_some v.items r e)

    by_order : (b : Bool) → ltb i n ≡ b → IsOpen (formal_of (rows new) spot i) → ⊥
    by_order true o = answered i (ltb-true i n o)
    by_order false o = by_row (slice_get (rows new) spot) refl (ltb-false i n o)

-- the instances
abbrev pub RowsTo : Scene → ℕ → Type 0
RowsTo s n = (k : ℕ) → k < n → IsRowAnswered (rows s) k

pub rows_done : (old new : Scene) (n : ℕ) → IsSameButFormals old new → IsReady old → IsReady new → length old.formals.items ≤ n → RowsTo new n → (spot : ℕ) → IsRowAnswered (rows new) spot
rows_done old new n same ready ready' all answered spot = by_order (ltb spot n) refl
  where
    by_order : (b : Bool) → ltb spot n ≡ b → IsRowAnswered (rows new) spot
    by_order true o = answered spot (ltb-true spot n o)
    by_order false o = λ i is.
        let past : n ≤ spot = ltb-false spot n o in
        let old_many : length (rows old) ≡ length (instances_of (program_of old)) = ready.told.many in
        let new_many : length (rows new) ≡ length (instances_of (program_of new)) = ready'.told.many in
        let program : length (instances_of (program_of new)) ≡ length (instances_of (program_of old)) = ap (λ p. length (instances_of p)) (program_same old new same.modules) in
        let count : length (rows old) ≡ length old.formals.items = length-map old.formals.items (λ (v : Vec Formal Global). v.items) in
        let beyond : length (rows new) ≤ spot = omega (arith, all, past, old_many, new_many, program, count) in
        subst (λ q. IsOpen (formal_or (slice_get (row_or q) i))) (get_past (rows new) spot beyond) is
