-- Of new formals nothing is known.
use Rattle.std.proofs.Common.{◌≡◌, ℕ, zero, suc, ◌+◌, ◌<◌, ◌≤◌, arith, Bool, true, false, ltb, List, [], ◌∷◌, ◌++◌, length, replicate, Option, Some, None, Vec, refl, sym, ◌∙◌, ap, subst}
use Rattle.std.specs.Prelude.{slice_get}
use Rattle.std.specs.declared.alloc.Global.{Global}
use Rattle.std.proofs.lemmas.List.{map-append, length-replicate}
use Rattle.std.proofs.lemmas.Bool.{ltb-true, ltb-false}
use Rattle.smv_language.specs.Language.{Text, ModuleTree, Place, find_module, FlatInstance}
use Rattle.smv_flat_laws.specs.Items.{instances_of}
use Rattle.smv_scope.specs.SceneTree.{HasNames, formals_of, program_of}
use Rattle.smv_scope.specs.TableLookUps.{names_of_spot, formal_or}
use Rattle.smv_scope.specs.KnownFormals.{rows_of, rows, row_or, formals_in, formals_at, unknown_to, formal_of, IsHead, IsTold, AreTold, IsSameButFormals}
use Rattle.smv_scope.specs.NumberedScenes.{IsLaidSpot, IsLaid}
use Rattle.smv_scope.specs.declared.modules.Modules.{Modules}
use Rattle.smv_scope.specs.declared.modules.ModuleNames.{ModuleNames}
use Rattle.smv_scope.specs.declared.walk.Spot.{Spot}
use Rattle.smv_scope.specs.declared.names.Formal.{Formal}
use Rattle.smv_scope.specs.declared.names.Formal.TheVariants as known
use Rattle.smv_scope.specs.declared.names.Scene.{Scene}
use Rattle.smv_scope.proofs.SceneItems.{laid_at, names_laid}
use Rattle.std.proofs.lemmas.Option.{slice_get_within as get_less}
use Rattle.smv_flat_laws.proofs.Lists.{get_end, length_end}
use Rattle.smv_flat_laws.proofs.BothLaws.{both_long}

pub unknown_more : (s mid : Scene) (k : ℕ) (fs : List (Vec Formal Global)) (v : Vec Formal Global) (count : ℕ) → IsSameButFormals s mid → rows mid ≡ unknown_to s k → fs ≡ mid.formals.items ++ v ∷ [] →
    v.items ≡ replicate count known.Unknown → count ≡ formals_at mid k → rows_of fs ≡ unknown_to s (k + 1)
unknown_more s mid k fs v count same so_far pushed is counted =
    ap rows_of pushed
    ∙ map-append (λ (v : Vec Formal Global). v.items) mid.formals.items (v ∷ [])
    ∙ ap (λ rs. rs ++ v.items ∷ []) so_far
    ∙ ap (λ r. unknown_to s k ++ r ∷ []) (is ∙ ap (λ n. replicate n known.Unknown) (counted ∙ at_start))
    ∙ ap (unknown_to s) next
  where
    next : suc k ≡ k + 1
    next = omega arith

    at_start : formals_at mid k ≡ formals_at s k
    at_start =
        ap (λ (m : Modules). formals_of_modules m (slice_get mid.spots.items k)) same.modules
        ∙ ap (λ (v : Vec Spot Global). formals_of_modules s.modules (slice_get v.items k)) same.spots
      where
        names_by : Modules → Option Spot → Option ModuleNames
        names_by m None = None
        names_by m (Some spot) = slice_get m.list.items spot.«module»

        formals_of_modules : Modules → Option Spot → ℕ
        formals_of_modules m o = formals_in (names_by m o)

get_left : {A : Type 0} (xs : List A) (y : A) (k : ℕ) → k < length xs → slice_get (xs ++ y ∷ []) k ≡ slice_get xs k
get_left [] y k h = absurd (omega (arith, h))
get_left (x ∷ xs) y zero h = refl
get_left (x ∷ xs) y (suc k) h = get_left xs y k (omega (arith, h))

unknown_many : (s : Scene) (k : ℕ) → length (unknown_to s k) ≡ k
unknown_many s zero = refl
unknown_many s (suc k) = length_end (unknown_to s k) (replicate (formals_at s k) known.Unknown) ∙ ap suc (unknown_many s k)

unknown_at : (s : Scene) (n k : ℕ) → k < n → slice_get (unknown_to s n) k ≡ Some (replicate (formals_at s k) known.Unknown)
unknown_at s zero k h = absurd (omega (arith, h))
unknown_at s (suc n) k h = by_place (ltb k n) refl (unknown_at s n k)
  where
    by_place : (b : Bool) → ltb k n ≡ b → (k < n → slice_get (unknown_to s n) k ≡ Some (replicate (formals_at s k) known.Unknown)) → slice_get (unknown_to s (suc n)) k ≡ Some (replicate (formals_at s k) known.Unknown)
    by_place true e rest =
        let before : k < n = ltb-true k n e in
        let within : k < length (unknown_to s n) = omega (arith, before, unknown_many s n) in
        get_left (unknown_to s n) (replicate (formals_at s n) known.Unknown) k within ∙ rest before
    by_place false e rest =
        let after : n ≤ k = ltb-false k n e in
        let is : k ≡ n = omega (arith, h, after) in
        let many : k ≡ length (unknown_to s n) = omega (arith, is, unknown_many s n) in
        ap (slice_get (unknown_to s (suc n))) many ∙ get_end (unknown_to s n) (replicate (formals_at s n) known.Unknown)
        ∙ ap (λ j. Some (replicate (formals_at s j) known.Unknown)) (sym is)

unknown_row : (n i : ℕ) → i < n → slice_get (replicate n known.Unknown) i ≡ Some known.Unknown
unknown_row zero i h = absurd (omega (arith, h))
unknown_row (suc n) zero h = refl
unknown_row (suc n) (suc i) h = unknown_row n i (omega (arith, h))

pub unknown_told : (s : Scene) → IsLaid s → (k : ℕ) → k ≡ length s.spots.items → AreTold (program_of s) (unknown_to s k)
unknown_told s laid k all = record {
  many = unknown_many s k ∙ same_many;
  sized = λ spot at e. record {
    row = replicate (formals_at s spot) known.Unknown;
    is = there spot at e;
    size = length-replicate (formals_at s spot) known.Unknown ∙ counted spot at e;
  };
  told = λ spot i at x head. subst (IsTold (program_of s) (unknown_to s k) at x) (sym (unknown spot i at x head)) tt;
}
  where
    same_many : k ≡ length (instances_of (program_of s))
    same_many = all ∙ both_long (IsLaidSpot (program_of s)) (instances_of (program_of s)) s.spots.items laid.spots

    there : (spot : ℕ) (at : FlatInstance) → slice_get (instances_of (program_of s)) spot ≡ Some at → slice_get (unknown_to s k) spot ≡ Some (replicate (formals_at s spot) known.Unknown)
    there spot at e =
        let below : spot < length (instances_of (program_of s)) = get_less (instances_of (program_of s)) spot at e in
        unknown_at s k spot (subst (λ n. spot < n) (sym same_many) below)

    counted : (spot : ℕ) (at : FlatInstance) → slice_get (instances_of (program_of s)) spot ≡ Some at → formals_at s spot ≡ length (formals_of (find_module (program_of s) at.module_name))
    counted spot at e =
        let own : (own : Spot) × (slice_get s.spots.items spot ≡ Some own) × IsLaidSpot (program_of s) at own = laid_at s laid spot at e in
        let names : (names : ModuleNames) × (names_of_spot s (slice_get s.spots.items spot) ≡ Some names) × HasNames own.2.placed.tree names = names_laid s laid spot at own.0 own.1 own.2 in
        ap formals_in names.1
        ∙ ap (λ (m : ModuleTree). length m.formals) names.2.tree
        ∙ ap (λ o. length (formals_of o)) (sym own.2.placed.named)

    unknown : (spot i : ℕ) (at : Place) (x : Text) → IsHead (program_of s) spot i at x → formal_of (unknown_to s k) spot i ≡ known.Unknown
    unknown spot i at x head =
        let below : i < length head.tree.formals = get_less head.tree.formals i x head.formal in
        let many : formals_at s spot ≡ length head.tree.formals = counted spot head.instance head.is ∙ ap (λ o. length (formals_of o)) head.named in
        ap (λ o. formal_or (slice_get (row_or o) i)) (there spot head.instance head.is)
        ∙ ap formal_or (unknown_row (formals_at s spot) i (subst (λ n. i < n) (sym many) below))
