-- What is found after some steps of a look-up is found at all, and which formals a look-up meets.
use Rattle.std.proofs.Common.{◌≡◌, ℕ, zero, suc, ◌+◌, ◌-◌, ◌<◌, ◌≤◌, arith, Bool, true, false, ltb, List, [], ◌∷◌, ◌++◌, Option, Some, None, refl, sym, ◌∙◌, ap, subst}
use Rattle.std.proofs.lemmas.Bool.{ltb-true, ltb-false}
use Rattle.smv_language.specs.Language.{Text, Path, ProgramTree, Place, Meaning, an_instance_at, means_in, Means}
use Rattle.smv_flat_laws.specs.Looks.{Look, look_after, ComesBack, MeetsLoop}
use Rattle.smv_flat_laws.proofs.LookLaws.{after_means, after_longer, meets_loop_nothing}
use Rattle.smv_flat_laws.proofs.EndLaws.{steps_more}
use Rattle.smv_flat_laws.proofs.Resolving.{means_on, same_meaning}
use Rattle.smv_scope.specs.SceneTree.{Denotes, IsFound}
use Rattle.smv_scope.specs.KnownFormals.{IsOpenAt, ShutAt, Shut, ShutBeyond}
use Rattle.smv_scope.specs.declared.walk.Meaning.{Meaning as Found}
use Rattle.smv_scope.specs.declared.walk.Meaning.TheVariants as found
use Rattle.smv_scope.specs.declared.names.Formal.{Formal}
use Rattle.smv_scope.proofs.LookSplit.{never, HasPart, with_more, named_look, Split, within, beyond, split}
use Rattle.smv_scope.proofs.LookFound.{same_part, look_at}
use Rattle.std.proofs.lemmas.Option.{same_Some as of_some}

-- a loop that is met early is met late
abbrev MeetsAt : ProgramTree → Place → Path → ℕ → Type 0
MeetsAt p at name n = (at' : Place) × (x : Text) × (rest : Path) × (look_after n p at name ≡ Some (look_at at' (x ∷ rest))) × ComesBack p at' x

around : (p : ProgramTree) (at : Place) (name : Path) (n : ℕ) → (m : MeetsAt p at name n) → MeetsAt p at name (suc m.4.0 + n)
around p at name n m = (
  m.0,
  m.1,
  m.4.1 ++ m.2,
  steps_more (suc m.4.0) n p at name (look_at m.0 (m.1 ∷ m.2)) m.3
      ∙ after_longer (suc m.4.0) m.2 p m.0 (m.1 ∷ []) (look_at m.0 (m.1 ∷ m.4.1)) m.4.2,
  m.4,
)

later : (fuel : ℕ) (p : ProgramTree) (at : Place) (name : Path) (d n : ℕ) → d ≤ fuel + n → MeetsAt p at name n → (k : ℕ) × MeetsAt p at name (k + d)
later zero p at name d n le m =
    let same : n ≡ (n - d) + d = omega (arith, le) in (n - d, subst (MeetsAt p at name) same m)
later (suc fuel) p at name d n le m = later fuel p at name d (suc m.4.0 + n) (omega (arith, le)) (around p at name n m)

no_loop_after : (d : ℕ) (p : ProgramTree) (at : Place) (name : Path) (l : Look) → look_after d p at name ≡ Some l → (MeetsLoop p l.place l.name → ⊥) → MeetsLoop p at name → ⊥
no_loop_after d p at name l e none loop =
    let m : (k : ℕ) × MeetsAt p at name (k + d) = later d p at name d loop.0 (omega arith) (loop.1, loop.2, loop.3, loop.4, loop.5) in
    none (m.0, m.1.0, m.1.1, m.1.2, sym (steps_more m.0 d p at name l e) ∙ m.1.3, m.1.4)

means_after : (d : ℕ) (p : ProgramTree) (at : Place) (name : Path) (l : Look) (m : Meaning) → look_after d p at name ≡ Some l → Means p l.place l.name m → Means p at name m
means_after d p at name l m e means = (d + means.0, after_means d means.0 p at name l e ∙ means.1)

pub found_after : (d : ℕ) (p : ProgramTree) (at : Place) (name : Path) (l : Look) (f : Found) → look_after d p at name ≡ Some l → IsFound p l.place l.name f → IsFound p at name f
found_after d p at name l (found.Variable number role) e h = (h.0, means_after d p at name l h.0 e h.1, h.2)
found_after d p at name l (found.Instance k) e h = (h.0, means_after d p at name l h.0 e h.1, h.2)
found_after d p at name l (found.Definition k) e h = (h.0, means_after d p at name l h.0 e h.1, h.2)
found_after d p at name l (found.Symbol k) e h = (h.0, means_after d p at name l h.0 e h.1, h.2)
found_after d p at name l found.Loop e h = (h.0 + d, h.1, h.2, h.3, steps_more h.0 d p at name l e ∙ h.4, h.5)
found_after d p at name l found.Nothing e h = record {
  no_meaning = λ n. by_meaning n (means_in n p at name) refl;
  no_loop = no_loop_after d p at name l e h.no_loop;
}
  where
    by_meaning : (n : ℕ) (o : Option Meaning) → means_in n p at name ≡ o → o ≡ None
    by_meaning n None is = refl
    by_meaning n (Some m) is =
        let more : n + d ≡ d + n = omega arith in
        let on : means_in (d + n) p at name ≡ Some m = means_on d n (d + n) p at name m more is in
        never m (sym (h.no_meaning n) ∙ sym (after_means d n p at name l e) ∙ on)

-- the same formal is met, whatever parts follow
pub shut_longer : (p : ProgramTree) (rs : List (List Formal)) (l : Look) (more : Path) → HasPart l → ShutAt p rs (Some l) → ShutAt p rs (Some (with_more l more))
shut_longer p rs l more part h = λ at y rest e is.
    let same : (l.place ≡ at) × (part.0 ≡ y) = same_part l more at y rest (of_some (with_more l more) (look_at at (y ∷ rest)) e) part in
    h l.place part.0 part.1 (ap (λ ws. Some (look_at l.place ws)) part.2)
    (subst (λ a. IsOpenAt p rs a part.0) (sym same.0) (subst (λ z. IsOpenAt p rs at z) (sym same.1) is))

pub shut_same : (p : ProgramTree) (rs : List (List Formal)) (o o' : Option Look) → o ≡ o' → ShutAt p rs o → ShutAt p rs o'
shut_same p rs o o' e h = subst (ShutAt p rs) e h

-- with further parts, where the first one means no instance
pub shut_more : (p : ProgramTree) (rs : List (List Formal)) (at : Place) (x y : Text) (rest : Path) → ((inside : Place) → Means p at (x ∷ []) (an_instance_at inside) → ⊥) → Shut p rs at (x ∷ []) → Shut p rs at (x ∷ y ∷ rest)
shut_more p rs at x y rest none h n = λ at' z r e is. by_split at' z r is (split n p at x y rest (look_at at' (z ∷ r)) e)
  where
    by_split : (at' : Place) (z : Text) (r : Path) → IsOpenAt p rs at' z → Split p at x y rest n (look_at at' (z ∷ r)) → ⊥
    by_split at' z r is (within k e same) =
        shut_longer p rs k (y ∷ rest) (named_look n p at x [] k e) (shut_same p rs (look_after n p at (x ∷ [])) (Some k) e (h n)) at' z r (ap Some same) is
    by_split at' z r is (beyond inside k means e) = none inside means

-- as long as the first part's own look-up goes on
pub shut_own : (p : ProgramTree) (rs : List (List Formal)) (at : Place) (x : Text) (more : Path) (k : ℕ) (l : Look) → look_after k p at (x ∷ []) ≡ Some l → Shut p rs at (x ∷ []) → ShutAt p rs (look_after k p at (x ∷ more))
shut_own p rs at x more k l e h =
    shut_same p rs (Some (with_more l more)) (look_after k p at (x ∷ more)) (sym (after_longer k more p at (x ∷ []) l e))
    (shut_longer p rs l more (named_look k p at x [] l e) (shut_same p rs (look_after k p at (x ∷ [])) (Some l) e (h k)))

-- first some steps, and then others
pub beyond_from : (p : ProgramTree) (rs : List (List Formal)) (at : Place) (name : Path) (steps : ℕ) (l : Look) → look_after (suc steps) p at name ≡ Some l →
    ((n : ℕ) → n < steps → ShutAt p rs (look_after (suc n) p at name)) → Shut p rs l.place l.name → ShutBeyond p rs at name
beyond_from p rs at name steps l e first then' n = by_order (ltb n steps) refl
  where
    by_order : (b : Bool) → ltb n steps ≡ b → ShutAt p rs (look_after (suc n) p at name)
    by_order true is = first n (ltb-true n steps is)
    by_order false is =
        let le : steps ≤ n = ltb-false n steps is in
        let same : (n - steps) + suc steps ≡ suc n = omega (arith, le) in
        shut_same p rs (look_after (n - steps) p l.place l.name) (look_after (suc n) p at name)
        (sym (steps_more (n - steps) (suc steps) p at name l e) ∙ ap (λ k. look_after k p at name) same) (then' (n - steps))

-- what is found to be no instance means none
pub no_instance : (p : ProgramTree) (at : Place) (name : Path) (f : Found) → IsFound p at name f → ((k : ℕ) → f ≡ found.Instance k → ⊥) → (inside : Place) → Means p at name (an_instance_at inside) → ⊥
no_instance p at name (found.Variable number role) h other inside means =
    subst (Denotes p (found.Variable number role)) (same_meaning h.1.0 means.0 p at name h.0 (an_instance_at inside) h.1.1 means.1) h.2
no_instance p at name (found.Instance k) h other inside means = other k refl
no_instance p at name (found.Definition k) h other inside means =
    subst (Denotes p (found.Definition k)) (same_meaning h.1.0 means.0 p at name h.0 (an_instance_at inside) h.1.1 means.1) h.2
no_instance p at name (found.Symbol k) h other inside means =
    subst (Denotes p (found.Symbol k)) (same_meaning h.1.0 means.0 p at name h.0 (an_instance_at inside) h.1.1 means.1) h.2
no_instance p at name found.Nothing h other inside means = never (an_instance_at inside) (sym (h.no_meaning means.0) ∙ means.1)
no_instance p at name found.Loop h other inside means = never (an_instance_at inside) (sym (meets_loop_nothing p at name h means.0) ∙ means.1)
