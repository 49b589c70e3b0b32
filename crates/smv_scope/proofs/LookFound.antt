-- What is found for a name with further parts, from what is found for its first part and for the others.
use Rattle.std.proofs.Common.{◌≡◌, ℕ, zero, suc, ◌+◌, [], ◌∷◌, ◌++◌, Option, Some, None, refl, sym, ◌∙◌, ap, subst, ◌⊎◌, inl, inr}
use Rattle.std.specs.Prelude.{slice_get}
use Rattle.smv_language.specs.Language.{Text, Path, ProgramTree, Place, Meaning, a_variable_at, an_expression_at, an_instance_at, means_in, Means, FlatInstance}
use Rattle.smv_language.specs.Scope.{a_symbol}
use Rattle.smv_flat_laws.specs.Items.{instances_of}
use Rattle.smv_flat_laws.specs.Looks.{Look, look_after, step_on, ComesBack, MeetsLoop, MeansNothing}
use Rattle.smv_flat_laws.proofs.LookLaws.{after_longer, meets_loop_nothing}
use Rattle.smv_flat_laws.proofs.EndLaws.{steps_more}
use Rattle.smv_flat_laws.proofs.Resolving.{same_meaning}
use Rattle.smv_flat_laws.proofs.Through.{Through, through, through_back}
use Rattle.smv_scope.specs.SceneTree.{Denotes, IsFound}
use Rattle.smv_scope.specs.TableLookUps.{found_inside}
use Rattle.smv_scope.specs.declared.walk.Meaning.{Meaning as Found}
use Rattle.smv_scope.specs.declared.walk.Meaning.TheVariants as found
use Rattle.smv_scope.proofs.LookSplit.{never, HasPart, with_more, named_look, Split, within, beyond, split, Reach, reach}

-- a name with no part
none_at_all : (n : ℕ) (p : ProgramTree) (at : Place) → means_in n p at [] ≡ None
none_at_all zero p at = refl
none_at_all (suc n) p at = refl

ends_at_once : (n : ℕ) (p : ProgramTree) (at : Place) → look_after (suc n) p at [] ≡ None
ends_at_once zero p at = refl
ends_at_once (suc n) p at = ap (step_on p) (ends_at_once n p at)

name_of : Option Look → Path
name_of None = []
name_of (Some l) = l.name

no_part : (n : ℕ) (p : ProgramTree) (at at' : Place) (x : Text) (rest : Path) → look_after n p at [] ≡ Some (record { place = at'; name = x ∷ rest }) → ⊥
unfolding name_of
no_part zero p at at' x rest e = let bad : [] ≡ x ∷ rest = ap name_of e in cc
no_part (suc n) p at at' x rest e = never (record { place = at'; name = x ∷ rest }) (sym (ends_at_once n p at) ∙ e)

pub nothing_at_all : (p : ProgramTree) (at : Place) → MeansNothing p at []
nothing_at_all p at = record { no_meaning = λ n. none_at_all n p at; no_loop = λ loop. no_part loop.0 p at loop.1 loop.2 loop.3 loop.4 }

-- a loop that the first part alone meets
abbrev pub look_at : Place → Path → Look
look_at at name = record { place = at; name = name }

first_part : (w z : Text) (ws r more : Path) → (w ∷ ws) ++ more ≡ z ∷ r → w ≡ z
first_part w z ws r more e = cc

pub same_part : (k : Look) (more : Path) (at' : Place) (z : Text) (r : Path) → with_more k more ≡ look_at at' (z ∷ r) → (part : HasPart k) → (k.place ≡ at') × (part.0 ≡ z)
same_part k more at' z r same part = (
  ap (λ (l : Look). l.place) same,
  first_part part.0 z part.1 r more (ap (λ ws. ws ++ more) (sym part.2) ∙ ap (λ (l : Look). l.name) same),
)

short_loop : (p : ProgramTree) (at : Place) (x : Text) (more : Path) (n : ℕ) (k : Look) (at' : Place) (z : Text) (r : Path) → look_after n p at (x ∷ []) ≡ Some k →
    with_more k more ≡ look_at at' (z ∷ r) → ComesBack p at' z → MeetsLoop p at (x ∷ [])
short_loop p at x more n k at' z r e same back =
    let part : HasPart k = named_look n p at x [] k e in
    let is : (k.place ≡ at') × (part.0 ≡ z) = same_part k more at' z r same part in
    (n, k.place, part.0, part.1, e ∙ ap (λ ws. Some (look_at k.place ws)) part.2, subst (λ w. ComesBack p k.place w) (sym is.1) (subst (λ a. ComesBack p a z) (sym is.0) back))

abbrev pub LoopsInside : ProgramTree → Place → Text → Path → Type 0
LoopsInside p at x more = (inside : Place) × Means p at (x ∷ []) (an_instance_at inside) × MeetsLoop p inside more

pub split_loop : (p : ProgramTree) (at : Place) (x y : Text) (rest : Path) → MeetsLoop p at (x ∷ y ∷ rest) → MeetsLoop p at (x ∷ []) ⊎ LoopsInside p at x (y ∷ rest)
split_loop p at x y rest loop = by_split (split loop.0 p at x y rest (look_at loop.1 (loop.2 ∷ loop.3)) loop.4)
  where
    by_split : Split p at x y rest loop.0 (look_at loop.1 (loop.2 ∷ loop.3)) → MeetsLoop p at (x ∷ []) ⊎ LoopsInside p at x (y ∷ rest)
    by_split (within k e same) = inl (short_loop p at x (y ∷ rest) loop.0 k loop.1 loop.2 loop.3 e same loop.5)
    by_split (beyond inside k means e) = inr (inside, means, (k, loop.1, loop.2, loop.3, e, loop.5))

pub loop_longer : (p : ProgramTree) (at : Place) (x : Text) (more : Path) → MeetsLoop p at (x ∷ []) → MeetsLoop p at (x ∷ more)
loop_longer p at x more loop =
    (loop.0, loop.1, loop.2, loop.3 ++ more, after_longer loop.0 more p at (x ∷ []) (look_at loop.1 (loop.2 ∷ loop.3)) loop.4, loop.5)

-- where the first part means no instance, and no loop is to blame
pub nothing_longer : (p : ProgramTree) (at : Place) (x y : Text) (rest : Path) → ((inside : Place) → Means p at (x ∷ []) (an_instance_at inside) → ⊥) → (MeetsLoop p at (x ∷ []) → ⊥) →
    MeansNothing p at (x ∷ y ∷ rest)
nothing_longer p at x y rest outside plain = record {
  no_meaning = λ n. by_meaning n (means_in n p at (x ∷ y ∷ rest)) refl;
  no_loop = λ loop. by_loop (split_loop p at x y rest loop);
}
  where
    by_meaning : (n : ℕ) (o : Option Meaning) → means_in n p at (x ∷ y ∷ rest) ≡ o → o ≡ None
    by_meaning n None e = refl
    by_meaning n (Some m) e =
        let t : Through n p at (x ∷ []) (y ∷ rest) m = through n p at x [] y rest m e in absurd (outside t.inside (n, t.means))

    by_loop : MeetsLoop p at (x ∷ []) ⊎ LoopsInside p at x (y ∷ rest) → ⊥
    by_loop (inl loop) = plain loop
    by_loop (inr inner) = outside inner.0 inner.1

pub no_loop_meant : (p : ProgramTree) (at : Place) (name : Path) (m : Meaning) → Means p at name m → MeetsLoop p at name → ⊥
no_loop_meant p at name m means loop = never m (sym (meets_loop_nothing p at name loop means.0) ∙ means.1)

meant : (p : ProgramTree) (at : Place) (x y : Text) (rest : Path) (m : Meaning) → Means p at (x ∷ []) m → ((inside : Place) → m ≡ an_instance_at inside → ⊥) → MeansNothing p at (x ∷ y ∷ rest)
meant p at x y rest m means other =
    nothing_longer p at x y rest (λ inside there. other inside (same_meaning means.0 there.0 p at (x ∷ []) m (an_instance_at inside) means.1 there.1)) (no_loop_meant p at (x ∷ []) m means)

-- inside the instance that the first part means
same_place : (a b : Place) → an_instance_at a ≡ an_instance_at b → a ≡ b
same_place a b e = cc

back_found : (p : ProgramTree) (at : Place) (x y : Text) (rest : Path) (inside : Place) (m : Meaning) → Means p at (x ∷ []) (an_instance_at inside) → Means p inside (y ∷ rest) m → Means p at (x ∷ y ∷ rest) m
back_found p at x y rest inside m means inner = (means.0 + inner.0, through_back inner.0 p inside y rest m inner.1 means.0 at (x ∷ []) means.1)

pub more_found : (p : ProgramTree) (at : Place) (x y : Text) (rest : Path) (inside : Place) (f : Found) → Means p at (x ∷ []) (an_instance_at inside) → IsFound p inside (y ∷ rest) f → IsFound p at (x ∷ y ∷ rest) f
more_found p at x y rest inside (found.Variable number role) means h = (h.0, back_found p at x y rest inside h.0 means h.1, h.2)
more_found p at x y rest inside (found.Instance k) means h = (h.0, back_found p at x y rest inside h.0 means h.1, h.2)
more_found p at x y rest inside (found.Definition k) means h = (h.0, back_found p at x y rest inside h.0 means h.1, h.2)
more_found p at x y rest inside (found.Symbol k) means h = (h.0, back_found p at x y rest inside h.0 means h.1, h.2)
more_found p at x y rest inside found.Loop means h =
    let r : Reach p at (x ∷ []) inside y rest = reach means.0 p at (x ∷ []) inside y rest means.1 in
    (h.0 + suc r.steps, h.1, h.2, h.3, steps_more h.0 (suc r.steps) p at (x ∷ y ∷ rest) (look_at inside (y ∷ rest)) r.there ∙ h.4, h.5)
more_found p at x y rest inside found.Nothing means h = record {
  no_meaning = λ n. by_meaning n (means_in n p at (x ∷ y ∷ rest)) refl;
  no_loop = λ loop. by_loop (split_loop p at x y rest loop);
}
  where
    in_it : (other : Place) → Means p at (x ∷ []) (an_instance_at other) → other ≡ inside
    in_it other there = same_place other inside (same_meaning there.0 means.0 p at (x ∷ []) (an_instance_at other) (an_instance_at inside) there.1 means.1)

    by_meaning : (n : ℕ) (o : Option Meaning) → means_in n p at (x ∷ y ∷ rest) ≡ o → o ≡ None
    by_meaning n None e = refl
    by_meaning n (Some m) e =
        let t : Through n p at (x ∷ []) (y ∷ rest) m = through n p at x [] y rest m e in
        let inner : means_in n p inside (y ∷ rest) ≡ Some m = subst (λ a. means_in n p a (y ∷ rest) ≡ Some m) (in_it t.inside (n, t.means)) t.rest_means in
        never m (sym (h.no_meaning n) ∙ inner)

    by_loop : MeetsLoop p at (x ∷ []) ⊎ LoopsInside p at x (y ∷ rest) → ⊥
    by_loop (inl loop) = no_loop_meant p at (x ∷ []) (an_instance_at inside) means loop
    by_loop (inr inner) = h.no_loop (subst (λ a. MeetsLoop p a (y ∷ rest)) (in_it inner.0 inner.1) inner.2)

-- the parts after a first one are looked up inside what it means
instance_found : (p : ProgramTree) (at : Place) (x y : Text) (rest : Path) (k : ℕ) (f : Found) (m : Meaning) → Means p at (x ∷ []) m → Denotes p (found.Instance k) m →
    ((i : FlatInstance) → slice_get (instances_of p) k ≡ Some i → IsFound p i.place (y ∷ rest) f) → IsFound p at (x ∷ y ∷ rest) f
instance_found p at x y rest k f (a_variable_at a z) means d inner = absurd d
instance_found p at x y rest k f (an_expression_at key a e) means d inner = absurd d
instance_found p at x y rest k f (an_instance_at inside) means d inner =
    more_found p at x y rest inside f means (subst (λ a. IsFound p a (y ∷ rest) f) d.2 (inner d.0 d.1))
instance_found p at x y rest k f (a_symbol z) means d inner = absurd d

pub found_parts : (p : ProgramTree) (at : Place) (x y : Text) (rest : Path) (look : ℕ → Found) (f : Found) → IsFound p at (x ∷ []) f →
    ((k : ℕ) (i : FlatInstance) → f ≡ found.Instance k → slice_get (instances_of p) k ≡ Some i → IsFound p i.place (y ∷ rest) (look k)) →
    IsFound p at (x ∷ y ∷ rest) (found_inside look f)
found_parts p at x y rest look (found.Variable number role) h inner = meant p at x y rest h.0 h.1 (λ inside e. subst (Denotes p (found.Variable number role)) e h.2)
found_parts p at x y rest look (found.Instance k) h inner = instance_found p at x y rest k (look k) h.0 h.1 h.2 (λ i e. inner k i refl e)
found_parts p at x y rest look (found.Definition k) h inner = meant p at x y rest h.0 h.1 (λ inside e. subst (Denotes p (found.Definition k)) e h.2)
found_parts p at x y rest look (found.Symbol k) h inner = meant p at x y rest h.0 h.1 (λ inside e. subst (Denotes p (found.Symbol k)) e h.2)
found_parts p at x y rest look found.Nothing h inner = nothing_longer p at x y rest (λ inside there. never (an_instance_at inside) (sym (h.no_meaning there.0) ∙ there.1)) h.no_loop
found_parts p at x y rest look found.Loop h inner = loop_longer p at x (y ∷ rest) h
