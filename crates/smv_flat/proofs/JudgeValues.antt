-- What is judged of a value is judged of its names, one after another.
use Rattle.std.proofs.Common.{◌≡◌, ℕ, Bool, true, false, ◌||◌, ◌&&◌, List, [], ◌∷◌, ◌++◌, Some, refl, sym, ◌∙◌, ap, subst, inl, inr}
use Rattle.std.specs.Prelude.{◌↔◌, ◌⊎◌, slice_get}
use Rattle.std.proofs.lemmas.List.{map-append}
use Rattle.smv_language.specs.Language.{Path, Formula, ProgramTree, Place, AtSome, FlatInstance}
use Rattle.smv_flat_laws.specs.Items.{instances_of}
use Rattle.smv_flat_laws.specs.NameResolution.{has_next}
use Rattle.smv_flat_laws.specs.Rules.{HasNoValue, GivesInput, IsWalkable, next_under_next}
use Rattle.smv_scope.specs.SceneTree.{IsFound, IsScene, program_of}
use Rattle.smv_scope.specs.NeedsTree.{AreNeeds}
use Rattle.smv_scope.specs.NextFlags.{flagged}
use Rattle.smv_flat.specs.ValueJudgement.{IsJudged}
use Rattle.smv_flat.specs.Verdicts.{is_without_value, is_input_found, names_in, names_under, with_flags, AreNoted, AreJudged}
use Rattle.smv_flat.specs.declared.values.JudgedValue.{JudgedValue}
use Rattle.smv_scope.specs.declared.names.Scene.{Scene}
use Rattle.smv_scope.specs.declared.needs.Needs.{Needs}
use Rattle.smv_scope.specs.declared.walk.Meaning.{Meaning as Found}
use Rattle.smv_flat.proofs.JudgeUses.{flagged_names, flagged_under, under_joined}
use Rattle.smv_flat.proofs.JudgeNames.{without_value, gives_input}

pub some_left : {A : Type 0} (P : A → Type 0) (xs ys : List A) → AtSome P xs → AtSome P (xs ++ ys)
some_left P [] ys h = absurd h
some_left P (x ∷ xs) ys (inl h) = inl h
some_left P (x ∷ xs) ys (inr h) = inr (some_left P xs ys h)

pub some_right : {A : Type 0} (P : A → Type 0) (xs ys : List A) → AtSome P ys → AtSome P (xs ++ ys)
some_right P [] ys h = h
some_right P (x ∷ xs) ys h = inr (some_right P xs ys h)

pub some_split : {A : Type 0} (P : A → Type 0) (xs ys : List A) → AtSome P (xs ++ ys) → AtSome P xs ⊎ AtSome P ys
some_split P [] ys h = inr h
some_split P (x ∷ xs) ys (inl h) = inl (inl h)
some_split P (x ∷ xs) ys (inr h) = by_rest (some_split P xs ys h)
  where
    by_rest : AtSome P xs ⊎ AtSome P ys → AtSome P (x ∷ xs) ⊎ AtSome P ys
    by_rest (inl k) = inl (inr k)
    by_rest (inr k) = inr k

-- a test of what stands in a list, with one more
pub one_more : {A : Type 0} (P : A → Type 0) (xs : List A) (x : A) (a b : Bool) → (a ≡ true) ↔ AtSome P xs → (b ≡ true) ↔ P x → ((a || b) ≡ true) ↔ AtSome P (xs ++ x ∷ [])
one_more P xs x true b h k = (λ e. some_left P xs (x ∷ []) (h.0 refl), λ s. refl)
one_more P xs x false b h k = (λ e. some_right P xs (x ∷ []) (inl (k.0 e)), λ s. by_split (some_split P xs (x ∷ []) s))
  where
    by_split : AtSome P xs ⊎ AtSome P (x ∷ []) → b ≡ true
    by_split (inl q) = absurd (no_such (h.1 q))
      where
        no_such : false ≡ true → ⊥
        no_such e = cc
    by_split (inr (inl q)) = k.1 q
    by_split (inr (inr q)) = absurd q

-- with one more that may count or not
pub one_under : (P : Path → Type 0) (us : List (Path × Bool)) (u : Path × Bool) (a b : Bool) → (a ≡ true) ↔ AtSome P (names_under us) → (b ≡ true) ↔ P u.0 →
    ((a || (b && u.1)) ≡ true) ↔ AtSome P (names_under (us ++ u ∷ []))
one_under P us (name, true) a b h k =
    let e : (b && true) ≡ b = and_true b in
    subst (λ t. ((a || t) ≡ true) ↔ AtSome P (names_under (us ++ (name, true) ∷ []))) (sym e)
    (subst (λ ls. ((a || b) ≡ true) ↔ AtSome P ls) (sym (under_joined us ((name, true) ∷ []))) (one_more P (names_under us) name a b h k))
  where
    and_true : (b : Bool) → (b && true) ≡ b
    and_true true = refl
    and_true false = refl
one_under P us (name, false) a b h k =
    subst (λ t. (t ≡ true) ↔ AtSome P (names_under (us ++ (name, false) ∷ []))) (sym (none_more a b))
    (subst (λ ls. (a ≡ true) ↔ AtSome P ls) (sym (under_joined us ((name, false) ∷ []) ∙ append_none (names_under us))) h)
  where
    none_more : (a b : Bool) → (a || (b && false)) ≡ a
    none_more true b = refl
    none_more false true = refl
    none_more false false = refl

    append_none : {A : Type 0} (xs : List A) → xs ++ [] ≡ xs
    append_none [] = refl
    append_none (x ∷ xs) = ap (λ ys. x ∷ ys) (append_none xs)

note_name : (p : ProgramTree) → IsWalkable p → (n : Needs) → AreNeeds p n → (at : Place) (u : Path × Bool) (f : Found) → IsFound p at u.0 f → (us : List (Path × Bool)) (j : JudgedValue) →
    AreNoted p at us j → AreNoted p at (us ++ u ∷ []) (with_flags j (is_without_value f) (is_input_found n f) u.1)
note_name p walkable n needs at u f h us j noted = record {
  no_value = named (HasNoValue p at) j.no_value (is_without_value f) noted.no_value (without_value p at u.0 f h);
  input = named (GivesInput p at) j.input (is_input_found n f) noted.input (gives_input p walkable n needs at u.0 f h);
  next_input = one_under (GivesInput p at) us u j.next_input (is_input_found n f) noted.next_input (gives_input p walkable n needs at u.0 f h);
}
  where
    named : (P : Path → Type 0) (a b : Bool) → (a ≡ true) ↔ AtSome P (names_in us) → (b ≡ true) ↔ P u.0 → ((a || b) ≡ true) ↔ AtSome P (names_in (us ++ u ∷ []))
    named P a b h k = subst (λ ls. ((a || b) ≡ true) ↔ AtSome P ls) (sym (map-append (λ (u : Path × Bool). u.0) us (u ∷ []))) (one_more P (names_in us) u.0 a b h k)

pub judge_name : (p : ProgramTree) → IsWalkable p → (n : Needs) → AreNeeds p n → (spot : ℕ) (u : Path × Bool) (f : Found) →
    ((at : FlatInstance) → slice_get (instances_of p) spot ≡ Some at → IsFound p at.place u.0 f) → (us : List (Path × Bool)) (next nested : Bool) (j : JudgedValue) →
    AreJudged p spot us next nested j → AreJudged p spot (us ++ u ∷ []) next nested (with_flags j (is_without_value f) (is_input_found n f) u.1)
judge_name p walkable n needs spot u f h us next nested j judged = record {
  names = λ at is. note_name p walkable n needs at.place u f (h at is) us j (judged.names at is);
  has_next = judged.has_next;
  has_nested = judged.has_nested;
}

pub no_names : (p : ProgramTree) (spot : ℕ) (next nested : Bool) →
    AreJudged p spot [] next nested (record { no_value = false; next = next; nested_next = nested; input = false; next_input = false })
no_names p spot next nested = record { names = λ at is. record { no_value = nowhere; input = nowhere; next_input = nowhere }; has_next = refl; has_nested = refl }
  where
    nowhere : (false ≡ true) ↔ ⊥
    nowhere = (λ e. cc, λ h. absurd h)

pub all_names : (p : ProgramTree) (spot : ℕ) (e : Formula) (j : JudgedValue) → AreJudged p spot (flagged false e) (has_next e) (next_under_next e) j →
    (at : FlatInstance) → slice_get (instances_of p) spot ≡ Some at → IsJudged p at.place e j
all_names p spot e j judged at is =
    let noted : AreNoted p at.place (flagged false e) j = judged.names at is in
    record {
      no_value = subst (λ ls. (j.no_value ≡ true) ↔ AtSome (HasNoValue p at.place) ls) (flagged_names false e) noted.no_value;
      next = judged.has_next;
      nested_next = judged.has_nested;
      input = subst (λ ls. (j.input ≡ true) ↔ AtSome (GivesInput p at.place) ls) (flagged_names false e) noted.input;
      next_input = subst (λ ls. (j.next_input ≡ true) ↔ AtSome (GivesInput p at.place) ls) (flagged_under e) noted.next_input;
    }

-- the same, with what is told of the name by its parts
pub judge_told : (s : Scene) → IsScene s → (n : Needs) → AreNeeds (program_of s) n → (spot : ℕ) (u : Path × Bool) (name : Path) → name ≡ u.0 → (f : Found) →
    (IsScene s → (at : FlatInstance) → slice_get (instances_of (program_of s)) spot ≡ Some at → IsFound (program_of s) at.place name f) → (a b d : Bool) →
    a ≡ is_without_value f → b ≡ is_input_found n f → d ≡ u.1 → (j r : JudgedValue) → r ≡ with_flags j a b d → (us : List (Path × Bool)) (next nested : Bool) →
    AreJudged (program_of s) spot us next nested j → AreJudged (program_of s) spot (us ++ u ∷ []) next nested r
judge_told s scene n needs spot u name same f h a b d is_a is_b is_d j r is us next nested judged =
    let told : r ≡ with_flags j (is_without_value f) (is_input_found n f) u.1 =
    is ∙ ap (λ x. with_flags j x b d) is_a ∙ ap (λ x. with_flags j (is_without_value f) x d) is_b ∙ ap (λ x. with_flags j (is_without_value f) (is_input_found n f) x) is_d in
    subst (AreJudged (program_of s) spot (us ++ u ∷ []) next nested) (sym told)
    (judge_name (program_of s) scene.set.walkable n needs spot u f
    (λ at at_spot. subst (λ x. IsFound (program_of s) at.place x f) same (h scene at at_spot)) us next nested j judged)

-- the names of a value, as they are told by an equation
pub value_judged : (p : ProgramTree) (spot : ℕ) (e : Formula) (us vs : List (Path × Bool)) (next nested : Bool) (j : JudgedValue) → us ≡ vs → vs ≡ flagged false e →
    next ≡ has_next e → nested ≡ next_under_next e → AreJudged p spot us next nested j → (at : FlatInstance) → slice_get (instances_of p) spot ≡ Some at → IsJudged p at.place e j
value_judged p spot e us vs next nested j same names is_next is_nested judged =
    all_names p spot e j
    (subst (λ (b : Bool). AreJudged p spot (flagged false e) (has_next e) b j) is_nested
    (subst (λ (b : Bool). AreJudged p spot (flagged false e) b nested j) is_next
    (subst (λ (ws : List (Path × Bool)). AreJudged p spot ws next nested j) (same ∙ names) judged)))
