-- An order of definitions has none twice.
use Rattle.std.proofs.Common.{◌≡◌, ℕ, zero, suc, List, [], ◌∷◌, Some, refl, sym, ◌∙◌, ap, subst}
use Rattle.std.specs.Prelude.{slice_get, map}
use Rattle.smv_language.specs.Language.{ProgramTree, Key}
use Rattle.smv_flat_laws.specs.NameResolution.{Definition}
use Rattle.smv_flat_laws.specs.Rules.{IsWalkable}
use Rattle.smv_flat_laws.specs.Model.{KeysDiffer, Root, roots_of}
use Rattle.smv_flat_laws.proofs.Conditions.{each_from}
use Rattle.smv_flat_laws.proofs.Variables.{both_at_second}
use Rattle.smv_flat_laws.proofs.KeysApart.{one_root}
use Rattle.smv_scope.specs.NeedsTree.{IsKeyAt, IsOrder}

-- the root of a number, from its key
root_at : (rs : List Root) (k : ℕ) (key : Key) → slice_get (map (λ (r : Root). r.key) rs) k ≡ Some key → (r : Root) × (slice_get rs k ≡ Some r) × (r.key ≡ key)
root_at [] k key e = cc
root_at (r ∷ rs) zero key e = let same : r.key ≡ key = cc in (r, refl, same)
root_at (r ∷ rs) (suc k) key e = root_at rs k key e

key_at : (ds : List Definition) (i : ℕ) (d : Definition) → slice_get ds i ≡ Some d → slice_get (map (λ (d : Definition). d.key) ds) i ≡ Some d.key
key_at [] i d e = cc
key_at (c ∷ ds) zero d e = let same : c ≡ d = cc in ap (λ (x : Definition). Some x.key) same
key_at (c ∷ ds) (suc i) d e = key_at ds i d e

module _ (p : ProgramTree) (walkable : IsWalkable p) (order places : List ℕ) (is : IsOrder p order places) where
  -- two places of the order with one key are one
  one_place : (i j : ℕ) (key : Key) → slice_get is.ordered i ≡ Some key → slice_get is.ordered j ≡ Some key → i ≡ j
  one_place i j key e f =
      let a : (k : ℕ) × (slice_get order i ≡ Some k) × IsKeyAt p k key = both_at_second (IsKeyAt p) order is.ordered i key is.each e in
      let b : (k : ℕ) × (slice_get order j ≡ Some k) × IsKeyAt p k key = both_at_second (IsKeyAt p) order is.ordered j key is.each f in
      let r : (r : Root) × (slice_get (roots_of p) a.0 ≡ Some r) × (r.key ≡ key) = root_at (roots_of p) a.0 key a.2 in
      let s : (s : Root) × (slice_get (roots_of p) b.0 ≡ Some s) × (s.key ≡ key) = root_at (roots_of p) b.0 key b.2 in
      let same : a.0 ≡ b.0 = one_root p walkable a.0 b.0 r.0 s.0 r.1 s.1 (r.2 ∙ sym s.2) in
      let first : slice_get places a.0 ≡ Some i = is.back a.0 i a.1 in
      let second : slice_get places a.0 ≡ Some j = subst (λ k. slice_get places k ≡ Some j) (sym same) (is.back b.0 j b.1) in
      let both : Some i ≡ Some j = sym first ∙ second in
      cc

differ_from : (ds : List Definition) → ((i j : ℕ) (d e : Definition) → slice_get ds i ≡ Some d → slice_get ds j ≡ Some e → d.key ≡ e.key → i ≡ j) → KeysDiffer ds
differ_from [] h = tt
differ_from (d ∷ ds) h = (
  each_from (λ (e : Definition). d.key ≡ e.key → ⊥) ds (λ j e f same. let bad : zero ≡ suc j = h zero (suc j) d e refl f same in cc),
  differ_from ds (λ i j c e f g same. let more : suc i ≡ suc j = h (suc i) (suc j) c e f g same in cc),
)

-- the definitions in this order have different keys
pub keys_differ : (p : ProgramTree) (walkable : IsWalkable p) (order places : List ℕ) (is : IsOrder p order places) (ds : List Definition) →
    map (λ (d : Definition). d.key) ds ≡ is.ordered → KeysDiffer ds
keys_differ p walkable order places is ds e =
    differ_from ds (λ i j c d f g same. one_place p walkable order places is i j c.key
    (subst (λ ks. slice_get ks i ≡ Some c.key) e (key_at ds i c f)) (subst (λ ks. slice_get ks j ≡ Some c.key) e (subst (λ k. slice_get (map (λ (d : Definition). d.key) ds) j ≡ Some k) (sym same) (key_at ds j d g))))
