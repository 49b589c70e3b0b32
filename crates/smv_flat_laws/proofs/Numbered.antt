-- Each list of values by number is that of a valuation.
use Rattle.std.proofs.Common.{◌≡◌, ℕ, zero, suc, arith, Bool, true, false, ◌&&◌, List, [], ◌∷◌, length, Some, refl, sym, ◌∙◌, subst, eq-eqb}
use Rattle.std.specs.Prelude.{slice_get, if◌then◌else◌, codes}
use Rattle.smv_language.specs.Language.{ModuleTree, ProgramTree, Value, Place, Key, define_key, actual_key, find_module, Valuation, Each, EachBoth, FlatVariable, FlatModel, Numbers, same_text}
use Rattle.smv_language.specs.Values.{truth}
use Rattle.smv_language.proofs.ValueLaws.{same_text_refl}
use Rattle.smv_flat_laws.specs.Items.{Visit, variables_of}
use Rattle.smv_flat_laws.specs.Rules.{IsAccepted}
use Rattle.smv_flat_laws.specs.Model.{same_place, same_key, IsVariableOf, IsFlatOf}
use Rattle.smv_flat_laws.proofs.Apart.{Differ, Apart, variables_apart}
use Rattle.smv_flat_laws.proofs.Walkable.{accepted_walkable, main_is_there}
use Rattle.smv_lexer.proofs.SignLemmas.{both_true}
use Rattle.smv_language.proofs.OneTree.{same_text_equal}

pub same_place_refl : (at : Place) → same_place at at ≡ true
same_place_refl [] = refl
same_place_refl (x ∷ at) = rw (same_text_refl x, same_place_refl at) refl

pub same_key_refl : (k : Key) → same_key k k ≡ true
same_key_refl (define_key at x) = rw (same_place_refl at) (same_text_refl x)
same_key_refl (actual_key at i) = rw (same_place_refl at) (eq-eqb i i refl)

pub same_place_equal : (at bt : Place) → same_place at bt ≡ true → at ≡ bt
same_place_equal [] [] h = refl
same_place_equal [] (y ∷ bt) h = cc
same_place_equal (x ∷ at) [] h = cc
same_place_equal (x ∷ at) (y ∷ bt) h =
    let parts : (same_text x y ≡ true) × (same_place at bt ≡ true) = both_true _ _ h in
    let heads : x ≡ y = same_text_equal x y parts.0 in
    let tails : at ≡ bt = same_place_equal at bt parts.1 in cc

-- the value beside the first variable of this place and name
abbrev pub value_beside : List FlatVariable → List Value → Valuation
value_beside [] vs at x = truth false
value_beside (y ∷ ys) [] at x = truth false
value_beside (y ∷ ys) (v ∷ vs) at x = if same_place y.place at && same_text y.name x then v else value_beside ys vs at x

abbrev Other : FlatVariable → FlatVariable → Type 0
Other y z = y.place ≡ z.place → y.name ≡ z.name → ⊥

abbrev AllOther : List FlatVariable → Type 0
AllOther [] = Unit {0}
AllOther (y ∷ ys) = Each (Other y) ys × AllOther ys

one_other : (m : FlatModel) (v : Visit) (y : FlatVariable) (vs : List Visit) (ys : List FlatVariable) → IsVariableOf m v y → EachBoth (IsVariableOf m) vs ys → Each (Differ v) vs → Each (Other y) ys
one_other m v y [] [] is both h = tt
one_other m v y [] (z ∷ ys) is both h = absurd both
one_other m v y (w ∷ vs) [] is both h = absurd both
one_other m v y (w ∷ vs) (z ∷ ys) is both h =
    ((λ s t. h.0 (sym is.place ∙ s ∙ both.0.place) (sym is.name ∙ t ∙ both.0.name)), one_other m v y vs ys is both.1 h.1)

all_other : (m : FlatModel) (vs : List Visit) (ys : List FlatVariable) → EachBoth (IsVariableOf m) vs ys → Apart vs → AllOther ys
all_other m [] [] both h = tt
all_other m [] (z ∷ ys) both h = absurd both
all_other m (w ∷ vs) [] both h = absurd both
all_other m (w ∷ vs) (z ∷ ys) both h = (one_other m w z vs ys both.0 both.1 h.0, all_other m vs ys both.1 h.1)

at_other : (y : FlatVariable) (ys : List FlatVariable) (i : ℕ) (x : FlatVariable) → Each (Other y) ys → slice_get ys i ≡ Some x → Other y x
at_other y [] i x h e = cc
at_other y (z ∷ ys) zero x h e = let same : z ≡ x = cc in subst (Other y) same h.0
at_other y (z ∷ ys) (suc i) x h e = at_other y ys i x h.1 e

beside : (ys : List FlatVariable) (vs : List Value) → length vs ≡ length ys → AllOther ys → (i : ℕ) (x : FlatVariable) → slice_get ys i ≡ Some x →
    slice_get vs i ≡ Some (value_beside ys vs x.place x.name)
beside [] vs n h i x e = cc
beside (y ∷ ys) [] n h i x e = absurd (omega (arith, n))
beside (y ∷ ys) (v ∷ vs) n h zero x e =
    let same : y ≡ x = cc in
    subst (λ (z : FlatVariable). Some v ≡ Some (value_beside (y ∷ ys) (v ∷ vs) z.place z.name)) same (rw (same_place_refl y.place, same_text_refl y.name) refl)
beside (y ∷ ys) (v ∷ vs) n h (suc i) x e =
    by_test (same_place y.place x.place && same_text y.name x.name) refl (beside ys vs (omega (arith, n)) h.1 i x e)
  where
    by_test : (b : Bool) → (same_place y.place x.place && same_text y.name x.name) ≡ b → slice_get vs i ≡ Some (value_beside ys vs x.place x.name) →
        slice_get vs i ≡ Some (value_beside (y ∷ ys) (v ∷ vs) x.place x.name)
    by_test true t g =
        let parts : (same_place y.place x.place ≡ true) × (same_text y.name x.name ≡ true) = both_true _ _ t in
        absurd (at_other y ys i x h.0 e (same_place_equal y.place x.place parts.0) (same_text_equal y.name x.name parts.1))
    by_test false t g = rw t g

-- the law: each list of as many values as variables is a valuation's
pub has_valuation : (p : ProgramTree) (m : FlatModel) → IsAccepted p → IsFlatOf p m → (v : List Value) → length v ≡ length m.variables → (named : Valuation) × Numbers m v named
has_valuation p m accepted is v n =
    let main : (k : ModuleTree) × (find_module p (codes "main") ≡ Some k) = main_is_there p (accepted_walkable p accepted) in
    (value_beside m.variables v, beside m.variables v n (all_other m (variables_of p) m.variables is.variables (variables_apart p (accepted_walkable p accepted) main.0 main.1)))
