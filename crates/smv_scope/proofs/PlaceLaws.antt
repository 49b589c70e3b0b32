-- The place of an instance of the walk, and of a name below it.
use Rattle.std.proofs.Common.{◌≡◌, ℕ, zero, suc, ◌<◌, arith, List, [], ◌∷◌, ◌++◌, length, get_or, reverse, Some, None, ap, ◌∙◌, sym}
use Rattle.std.specs.Prelude.{slice_set, Vec}
use Rattle.std.specs.declared.alloc.Global.{Global}
use Rattle.std.proofs.lemmas.List.{reverse-append}
use Rattle.std.proofs.lemmas.Option.{slice_get-get_or}
use Rattle.smv_language.specs.Language.{Text, Path, place_of}
use Rattle.smv_scope.specs.declared.walk.Meaning.{Meaning as Found}
use Rattle.smv_scope.specs.declared.walk.Spot.{Spot}
use Rattle.smv_scope.specs.declared.walk.Walk.{Walk}
use Rattle.smv_scope.specs.InstanceWalk.{place_of_spot, place_at, own_of, with_own}

place_found : (w : Walk) (k : ℕ) (spot : Spot) → k < length w.spots.items → spot ≡ get_or w.spots.items k spot → place_at w k ≡ place_of spot.path
place_found w k spot within e = ap place_of_spot (slice_get-get_or w.spots.items k spot within ∙ sym (ap Some e))

pub below_path : (w : Walk) (k : ℕ) (spot : Spot) (x : Text) (path path' below : Path) → k < length w.spots.items → spot ≡ get_or w.spots.items k spot → spot.path ≡ Some path →
    path' ≡ path → below ≡ path' ++ x ∷ [] → reverse below ≡ x ∷ place_at w k
below_path w k spot x path path' below within e is copied made =
    ap reverse (made ∙ ap (λ (q : Path). q ++ x ∷ []) copied)
    ∙ reverse-append path (x ∷ [])
    ∙ ap (λ at. x ∷ at) (sym (place_found w k spot within e ∙ ap place_of is))

pub below_main : (w : Walk) (k : ℕ) (spot : Spot) (x : Text) (below : Path) → k < length w.spots.items → spot ≡ get_or w.spots.items k spot → spot.path ≡ None →
    below ≡ x ∷ [] → reverse below ≡ x ∷ place_at w k
below_main w k spot x below within e is made =
    ap reverse made ∙ ap (λ at. x ∷ at) (sym (place_found w k spot within e ∙ ap place_of is))

pub set_own : (spots : List Spot) (k : ℕ) (spot : Spot) (own : Vec Found Global) → k < length spots → spot ≡ get_or spots k spot → slice_set spots k (own_of spot own) ≡ with_own spots k own
set_own [] k spot own within e = absurd (omega (arith, within))
set_own (x ∷ spots) zero spot own within e = let same : spot ≡ x = e in ap (λ (s : Spot). own_of s own ∷ spots) same
set_own (x ∷ spots) (suc k) spot own within e = ap (λ ss. x ∷ ss) (set_own spots k spot own (omega (arith, within)) e)
