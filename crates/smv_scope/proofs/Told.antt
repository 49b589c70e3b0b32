-- All answers so far are right, and stay so when another one is told.
use Rattle.std.proofs.Common.{◌≡◌, ℕ, zero, suc, ◌<◌, arith, List, [], ◌∷◌, length, Option, Some, sym, ◌∙◌, ap, subst, ◌⊎◌, inl, inr}
use Rattle.std.specs.Prelude.{slice_get, slice_set}
use Rattle.std.proofs.lemmas.List.{length-set}
use Rattle.smv_language.specs.Language.{Text, Path, ProgramTree, Place, FlatInstance}
use Rattle.smv_flat_laws.specs.Looks.{Look, look_after}
use Rattle.smv_flat_laws.specs.Rules.{IsWalkable}
use Rattle.smv_scope.specs.SceneTree.{IsKnown, formals_of}
use Rattle.smv_scope.specs.TableLookUps.{formal_or}
use Rattle.smv_scope.specs.KnownFormals.{row_or, rows_with, formal_of, IsHead, IsOpen, IsOpenAt, ShutAt, Shut, ShutBeyond, IsTold, IsSized, AreTold}
use Rattle.smv_scope.specs.declared.walk.Meaning.{Meaning as Found}
use Rattle.smv_scope.specs.declared.names.Formal.{Formal}
use Rattle.smv_scope.specs.declared.names.Formal.TheVariants as known
use Rattle.smv_scope.proofs.Heads.{head_place, head_numbers}
use Rattle.smv_flat_laws.proofs.OneOfTwo.{set_get, set_own}
use Rattle.std.proofs.lemmas.Option.{same_Some as of_some, slice_get_within as get_less}

abbrev pub IsChanged : List (List Formal) → ℕ → ℕ → Formal → ℕ → ℕ → Type 0
IsChanged rs k i f k' i' =
    (formal_of (rows_with rs k i f) k' i' ≡ formal_of rs k' i') ⊎ ((k' ≡ k) × (i' ≡ i) × (formal_of (rows_with rs k i f) k' i' ≡ f))

pub changed : (rs : List (List Formal)) (k i : ℕ) (f : Formal) (k' i' : ℕ) → IsChanged rs k i f k' i'
changed rs k i f k' i' = by_row (set_get rs k k' (slice_set (row_or (slice_get rs k)) i f))
  where
    by_formal : (k' ≡ k) → slice_get (slice_set rs k (slice_set (row_or (slice_get rs k)) i f)) k' ≡ Some (slice_set (row_or (slice_get rs k)) i f) →
        (slice_get (slice_set (row_or (slice_get rs k)) i f) i' ≡ slice_get (row_or (slice_get rs k)) i') ⊎ ((i' ≡ i) × (slice_get (slice_set (row_or (slice_get rs k)) i f) i' ≡ Some f)) →
        IsChanged rs k i f k' i'
    by_formal same is (inl e) = inl (ap (λ o. formal_or (slice_get (row_or o) i')) is ∙ ap formal_or e ∙ ap (λ n. formal_of rs n i') (sym same))
    by_formal same is (inr e) = inr (same, e.0, ap (λ o. formal_or (slice_get (row_or o) i')) is ∙ ap formal_or e.1)

    by_row : (slice_get (slice_set rs k (slice_set (row_or (slice_get rs k)) i f)) k' ≡ slice_get rs k') ⊎ ((k' ≡ k) × (slice_get (slice_set rs k (slice_set (row_or (slice_get rs k)) i f)) k' ≡ Some (slice_set (row_or (slice_get rs k)) i f))) →
        IsChanged rs k i f k' i'
    by_row (inl e) = inl (ap (λ o. formal_or (slice_get (row_or o) i')) e)
    by_row (inr e) = by_formal e.0 e.1 (set_get (row_or (slice_get rs k)) i i' f)

-- a formal that means something has an answer, wherever it stands
told_in_row : (fs : List Formal) (i : ℕ) (m : Found) → IsOpen (formal_or (slice_get (slice_set fs i (known.Means m)) i)) → ⊥
told_in_row [] i m h = h
told_in_row (f ∷ fs) zero m h = h
told_in_row (f ∷ fs) (suc i) m h = told_in_row fs i m h

pub told_there : (rs : List (List Formal)) (k i : ℕ) (m : Found) → IsOpen (formal_of (rows_with rs k i (known.Means m)) k i) → ⊥
told_there [] k i m h = h
told_there (r ∷ rs) zero i m h = told_in_row r i m h
told_there (r ∷ rs) (suc k) i m h = told_there rs k i m h

-- an open formal is open before too
abbrev pub IsNoMoreOpen : ProgramTree → List (List Formal) → List (List Formal) → Type 0
IsNoMoreOpen p rs rs' = (at : Place) (x : Text) → IsOpenAt p rs' at x → IsOpenAt p rs at x

pub shut_on : (p : ProgramTree) (rs rs' : List (List Formal)) → IsNoMoreOpen p rs rs' → (o : Option Look) → ShutAt p rs o → ShutAt p rs' o
shut_on p rs rs' less o h = λ at x rest e open'. h at x rest e (less at x open')

pub told_on : (p : ProgramTree) (rs rs' : List (List Formal)) → IsNoMoreOpen p rs rs' → (at : Place) (x : Text) (f : Formal) → IsTold p rs at x f → IsTold p rs' at x f
told_on p rs rs' less at x known.Unknown h = tt
told_on p rs rs' less at x known.Begun h = tt
told_on p rs rs' less at x known.Circle h = (h.0, λ n. shut_on p rs rs' less (look_after n p at (x ∷ [])) (h.1 n))
told_on p rs rs' less at x (known.Means f) h = (h.0, λ n. shut_on p rs rs' less (look_after n p at (x ∷ [])) (h.1 n))

-- a formal that gets an answer, or had none and gets none
abbrev pub MayBecome : Formal → Formal → Type 0
MayBecome old new = IsOpen new → IsOpen old

pub no_more_open : (p : ProgramTree) (rs : List (List Formal)) (k i : ℕ) (f : Formal) → MayBecome (formal_of rs k i) f → IsNoMoreOpen p rs (rows_with rs k i f)
no_more_open p rs k i f may at x is = by_change (changed rs k i f is.0 is.1)
  where
    by_change : IsChanged rs k i f is.0 is.1 → IsOpenAt p rs at x
    by_change (inl e) = (is.0, is.1, is.2, subst IsOpen e is.3)
    by_change (inr e) = (is.0, is.1, is.2, subst IsOpen (ap (λ k. formal_of rs k i) (sym e.0) ∙ ap (formal_of rs is.0) (sym e.1)) (may (subst IsOpen e.2 is.3)))

pub still_sized : (p : ProgramTree) (rs : List (List Formal)) (k i : ℕ) (f : Formal) (spot : ℕ) (at : FlatInstance) → IsSized p rs spot at → IsSized p (rows_with rs k i f) spot at
still_sized p rs k i f spot at h = by_row (set_get rs k spot (slice_set (row_or (slice_get rs k)) i f))
  where
    by_row : (slice_get (rows_with rs k i f) spot ≡ slice_get rs spot) ⊎ ((spot ≡ k) × (slice_get (rows_with rs k i f) spot ≡ Some (slice_set (row_or (slice_get rs k)) i f))) → IsSized p (rows_with rs k i f) spot at
    by_row (inl e) = record { row = h.row; is = e ∙ h.is; size = h.size }
    by_row (inr e) = record {
      row = slice_set (row_or (slice_get rs k)) i f;
      is = e.1;
      size = length-set (row_or (slice_get rs k)) i f ∙ ap (λ n. length (row_or (slice_get rs n))) (sym e.0) ∙ ap (λ o. length (row_or o)) h.is ∙ h.size;
    }

-- a formal has its place in the rows
pub in_row : (p : ProgramTree) (rs : List (List Formal)) → AreTold p rs → (k i : ℕ) (at : Place) (x : Text) (f : Formal) → IsHead p k i at x → formal_of (rows_with rs k i f) k i ≡ f
in_row p rs are k i at x f head =
    ap (λ o. formal_or (slice_get (row_or o) i)) (set_own rs k (slice_set (row_or (slice_get rs k)) i f) (get_less rs k sized.row sized.is))
    ∙ ap formal_or (set_own (row_or (slice_get rs k)) i f within)
  where
    sized : IsSized p rs k head.instance
    sized = are.sized k head.instance head.is

    below : i < length head.tree.formals
    below = get_less head.tree.formals i x head.formal

    same : length (row_or (slice_get rs k)) ≡ length head.tree.formals
    same = ap (λ o. length (row_or o)) sized.is ∙ sized.size ∙ ap (λ o. length (formals_of o)) head.named

    within : i < length (row_or (slice_get rs k))
    within = omega (arith, same, below)

-- one formal is told
pub told_one : (p : ProgramTree) (rs : List (List Formal)) → AreTold p rs → (k i : ℕ) (f : Formal) → MayBecome (formal_of rs k i) f →
    ((at : Place) (x : Text) → IsHead p k i at x → IsTold p (rows_with rs k i f) at x f) → AreTold p (rows_with rs k i f)
told_one p rs are k i f may right = record {
  many = length-set rs k (slice_set (row_or (slice_get rs k)) i f) ∙ are.many;
  sized = λ spot at e. still_sized p rs k i f spot at (are.sized spot at e);
  told = λ k' i' at x head. by_change k' i' at x head (changed rs k i f k' i');
}
  where
    by_change : (k' i' : ℕ) (at : Place) (x : Text) → IsHead p k' i' at x → IsChanged rs k i f k' i' → IsTold p (rows_with rs k i f) at x (formal_of (rows_with rs k i f) k' i')
    by_change k' i' at x head (inl e) =
        subst (IsTold p (rows_with rs k i f) at x) (sym e)
        (told_on p rs (rows_with rs k i f) (no_more_open p rs k i f may) at x (formal_of rs k' i') (are.told k' i' at x head))
    by_change k' i' at x head (inr e) =
        subst (IsTold p (rows_with rs k i f) at x) (sym e.2)
        (right at x (subst (λ n. IsHead p n i at x) e.0 (subst (λ n. IsHead p k' n at x) e.1 head)))

-- a look-up that has begun
pub begun_one : (p : ProgramTree) (rs : List (List Formal)) → AreTold p rs → (k i : ℕ) → IsOpen (formal_of rs k i) → AreTold p (rows_with rs k i known.Begun)
begun_one p rs are k i open' = told_one p rs are k i known.Begun (λ h. open') (λ at x head. tt)

-- an answer of a formal whose look-up meets no open formal from its first step on
pub answered_one : (p : ProgramTree) → IsWalkable p → (rs : List (List Formal)) → AreTold p rs → (k i : ℕ) (at : Place) (x : Text) (f : Formal) → IsHead p k i at x → (IsOpen f → ⊥) →
    IsKnown p at x f → ShutBeyond p rs at (x ∷ []) → (told : IsKnown p at x f → Shut p (rows_with rs k i f) at (x ∷ []) → IsTold p (rows_with rs k i f) at x f) → AreTold p (rows_with rs k i f)
answered_one p walkable rs are k i at x f head answer right beyond told =
    told_one p rs are k i f (λ h. absurd (answer h))
    (λ at' x' head'. same_head (head_place p k i at at' x x' head head'))
  where
    less : IsNoMoreOpen p rs (rows_with rs k i f)
    less = no_more_open p rs k i f (λ h. absurd (answer h))

    own : IsOpenAt p (rows_with rs k i f) at x → ⊥
    own is =
        let same : (is.0 ≡ k) × (is.1 ≡ i) = head_numbers p walkable is.0 is.1 k i at x is.2 head in
        answer (subst IsOpen (ap (λ n. formal_of (rows_with rs k i f) n is.1) same.0 ∙ ap (formal_of (rows_with rs k i f) k) same.1 ∙ in_row p rs are k i at x f head) is.3)

    shut : Shut p (rows_with rs k i f) at (x ∷ [])
    shut zero = λ at' y rest e is.
        let l : record { place = at; name = x ∷ [] } ≡ record { place = at'; name = y ∷ rest } = of_some (record { place = at; name = x ∷ [] }) (record { place = at'; name = y ∷ rest }) e in
        own (subst (λ z. IsOpenAt p (rows_with rs k i f) at z) (sym (part (ap (λ (l : Look). l.name) l))) (subst (λ a. IsOpenAt p (rows_with rs k i f) a y) (sym (ap (λ (l : Look). l.place) l)) is))
      where
        part : {y : Text} {rest : Path} → x ∷ [] ≡ y ∷ rest → x ≡ y
        part e = cc
    shut (suc n) = shut_on p rs (rows_with rs k i f) less (look_after (suc n) p at (x ∷ [])) (beyond n)

    same_head : {at' : Place} {x' : Text} → (at ≡ at') × (x ≡ x') → IsTold p (rows_with rs k i f) at' x' f
    same_head {at'} {x'} s = subst (λ a. IsTold p (rows_with rs k i f) a x' f) s.0 (subst (λ y. IsTold p (rows_with rs k i f) at y f) s.1 (told right shut))
