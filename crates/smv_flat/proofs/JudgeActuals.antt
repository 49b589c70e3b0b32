-- What is known of the formals of an instance tells what is wrong with its actuals.
use Rattle.std.proofs.Common.{◌≡◌, ℕ, zero, suc, ◌+◌, arith, true, false, List, [], ◌∷◌, Option, Some, None, refl, sym, ◌∙◌, ap, subst}
use Rattle.std.specs.Prelude.{◌↔◌, slice_get}
use Rattle.std.proofs.lemmas.List.{append-nil}
use Rattle.smv_language.specs.Language.{leaf, Text, Path, Formula, ModuleTree, ProgramTree, Place, a_formal, an_instance, Key, actual_key, Meaning, an_expression_at, Means, means_in, find_module, kind_after_formals, kind_in_sections, kind_at, module_of_kind, module_at, actual_of_kind, plain_name, through_actual, through_plain, by_kind}
use Rattle.smv_flat_laws.specs.Looks.{Look, at_actual, plain_of, step_kind, step_of, look_after, ComesBack, MeetsLoop, MeansNothing}
use Rattle.smv_flat_laws.specs.NameResolution.{has_next}
use Rattle.smv_flat_laws.specs.Rules.{has_twice, ActualHasNoMeaning, ActualLoops}
use Rattle.smv_flat_laws.proofs.EndLaws.{steps_more, ended_stays, ended_meets_none, stuck_means}
use Rattle.smv_flat_laws.proofs.LookLaws.{step_means}
use Rattle.smv_scope.specs.SceneTree.{Denotes, IsKnown}
use Rattle.smv_scope.specs.NeedsTree.{AreNeeds, HasCircle}
use Rattle.smv_flat.specs.ValueJudgement.{IsJudged}
use Rattle.smv_flat.specs.Verdicts.{is_circle_found, is_nothing_known, is_circle_known, is_circle_meant, LoopsAt, IsActualJudged}
use Rattle.smv_flat.specs.declared.values.JudgedValue.{JudgedValue}
use Rattle.smv_scope.specs.declared.names.Formal.{Formal}
use Rattle.smv_scope.specs.declared.names.Formal.TheVariants as known
use Rattle.smv_scope.specs.declared.needs.Needs.{Needs}
use Rattle.smv_scope.specs.declared.walk.Meaning.{Meaning as Found}
use Rattle.smv_scope.specs.declared.walk.Meaning.TheVariants as found
use Rattle.smv_flat.proofs.JudgeNames.{not_nothing, definition_circles}
use Rattle.smv_flat.proofs.JudgeLists.{never}
use Rattle.smv_scope.proofs.KeyLaws.{same_means}
use Rattle.smv_scope.proofs.LookFound.{no_loop_meant}
use Rattle.std.proofs.lemmas.Option.{none-some as none_some, same_Some as some_same}
use Rattle.smv_scope.proofs.HeadKinds.{formal_first as formal_place}
use Rattle.smv_scope.proofs.Frames.{actual_there as nth_get}

-- What is known of a formal, and what its name means.
back_loops : (p : ProgramTree) (at : Place) (x : Text) → ComesBack p at x → MeetsLoop p at (x ∷ [])
back_loops p at x back = (0, at, x, [], refl, back)

pub known_nothing : (p : ProgramTree) (at : Place) (x : Text) (f : Formal) → IsKnown p at x f → (is_nothing_known f ≡ true) ↔ MeansNothing p at (x ∷ [])
known_nothing p at x (known.Means found.Nothing) h = (λ e. h.0, λ k. refl)
known_nothing p at x (known.Means found.Loop) h = (λ e. never e, λ k. absurd (k.no_loop h.0))
known_nothing p at x (known.Means (found.Instance i)) h = (λ e. never e, λ k. absurd (not_nothing p at (x ∷ []) h.0.0 h.0.1 k))
known_nothing p at x (known.Means (found.Variable i role)) h = (λ e. never e, λ k. absurd (not_nothing p at (x ∷ []) h.0.0 h.0.1 k))
known_nothing p at x (known.Means (found.Definition i)) h = (λ e. never e, λ k. absurd (not_nothing p at (x ∷ []) h.0.0 h.0.1 k))
known_nothing p at x (known.Means (found.Symbol i)) h = (λ e. never e, λ k. absurd (not_nothing p at (x ∷ []) h.0.0 h.0.1 k))
known_nothing p at x known.Circle h = (λ e. never e, λ k. absurd (k.no_loop (back_loops p at x h)))
known_nothing p at x known.Begun h = absurd h
known_nothing p at x known.Unknown h = absurd h

pub known_circle : (p : ProgramTree) (at : Place) (x : Text) (f : Formal) → IsKnown p at x f → (is_circle_known f ≡ true) ↔ ComesBack p at x
known_circle p at x (known.Means f) h = (λ e. never e, λ k. absurd (h.1 k))
known_circle p at x known.Circle h = (λ e. h, λ k. refl)
known_circle p at x known.Begun h = absurd h
known_circle p at x known.Unknown h = absurd h

found_definition : (p : ProgramTree) (n : Needs) → AreNeeds p n → (f : Found) (key : Key) (at : Place) (e : Formula) → Denotes p f (an_expression_at key at e) → HasCircle p key (is_circle_found n f)
found_definition p n needs (found.Definition k) key at e d = definition_circles p n needs k key at e d
found_definition p n needs (found.Variable k role) key at e d = absurd d
found_definition p n needs (found.Instance k) key at e d = absurd d
found_definition p n needs (found.Symbol k) key at e d = absurd d
found_definition p n needs found.Nothing key at e d = absurd d
found_definition p n needs found.Loop key at e d = absurd d

meant : (p : ProgramTree) (n : Needs) → AreNeeds p n → (at : Place) (name : Path) (f : Found) (m : Meaning) → Means p at name m → Denotes p f m → (key : Key) (place : Place) (e : Formula) →
    Means p at name (an_expression_at key place e) → HasCircle p key (is_circle_found n f)
meant p n needs at name f m h d key place e k =
    found_definition p n needs f key place e (subst (Denotes p f) (same_means p at name m (an_expression_at key place e) h k) d)

pub known_definition : (p : ProgramTree) (n : Needs) → AreNeeds p n → (at : Place) (x : Text) (f : Formal) → IsKnown p at x f → (key : Key) (place : Place) (e : Formula) →
    Means p at (x ∷ []) (an_expression_at key place e) → HasCircle p key (is_circle_meant n f)
known_definition p n needs at x (known.Means found.Nothing) h key place e k = absurd (not_nothing p at (x ∷ []) (an_expression_at key place e) k h.0)
known_definition p n needs at x (known.Means found.Loop) h key place e k = absurd (no_loop_meant p at (x ∷ []) (an_expression_at key place e) k h.0)
known_definition p n needs at x (known.Means (found.Instance i)) h key place e k = meant p n needs at (x ∷ []) (found.Instance i) h.0.0 h.0.1 h.0.2 key place e k
known_definition p n needs at x (known.Means (found.Variable i role)) h key place e k = meant p n needs at (x ∷ []) (found.Variable i role) h.0.0 h.0.1 h.0.2 key place e k
known_definition p n needs at x (known.Means (found.Definition i)) h key place e k = meant p n needs at (x ∷ []) (found.Definition i) h.0.0 h.0.1 h.0.2 key place e k
known_definition p n needs at x (known.Means (found.Symbol i)) h key place e k = meant p n needs at (x ∷ []) (found.Symbol i) h.0.0 h.0.1 h.0.2 key place e k
known_definition p n needs at x known.Circle h key place e k = absurd (no_loop_meant p at (x ∷ []) (an_expression_at key place e) k (back_loops p at x h))
known_definition p n needs at x known.Begun h key place e k = absurd h
known_definition p n needs at x known.Unknown h key place e k = absurd h

-- An actual with its formal.
pub record IsFormalOf (p : ProgramTree) (at : Place) (own : Text) (index : ℕ) (x : Text) (e : Formula) : Type 0 where
  pub kind : kind_at (module_at p (own ∷ at)) x ≡ a_formal index
  pub actual : actual_of_kind (kind_at (module_at p at) own) index ≡ Some e

pub formal_of : (p : ProgramTree) (at : Place) (own name : Text) (m : ModuleTree) (actuals : List Formula) (index : ℕ) (x : Text) (e : Formula) →
    kind_at (module_at p at) own ≡ an_instance name actuals → find_module p name ≡ Some m → has_twice m.formals ≡ false → slice_get m.formals index ≡ Some x →
    slice_get actuals index ≡ Some e → IsFormalOf p at own index x e
formal_of p at own name m actuals index x e kind named apart formal actual = record {
  kind = ap (λ o. kind_at o x) (ap (module_of_kind p) kind ∙ named) ∙ ap (λ o. kind_after_formals o (kind_in_sections m.sections x)) (formal_place 0 m.formals index x apart formal ∙ ap (λ n. Some n) from_none);
  actual = ap (λ k. actual_of_kind k index) kind ∙ nth_get actuals index e actual;
}
  where
    from_none : 0 + index ≡ index
    from_none = omega arith

-- what is looked up at a formal is looked up at its actual
steps_to : (p : ProgramTree) (at : Place) (own : Text) (index : ℕ) (x : Text) (e : Formula) → IsFormalOf p at own index x e → step_of p (own ∷ at) (x ∷ []) ≡ at_actual at (plain_name e) []
steps_to p at own index x e h = ap (λ k. step_kind p (own ∷ at) k x []) h.kind ∙ ap (λ o. at_actual at (plain_of o) []) h.actual

once : (k : ℕ) (p : ProgramTree) (at : Place) (own : Text) (index : ℕ) (x : Text) (e : Formula) → IsFormalOf p at own index x e →
    means_in (suc k) p (own ∷ at) (x ∷ []) ≡ through_plain (means_in k p) (actual_key (own ∷ at) index) at e (plain_name e) []
once k p at own index x e h =
    ap (λ q. by_kind (means_in k p) p (own ∷ at) q x []) h.kind ∙ ap (λ o. through_actual (means_in k p) (actual_key (own ∷ at) index) at o []) h.actual

-- an actual that is no plain name is a definition
definition_meant : (p : ProgramTree) (at : Place) (own : Text) (index : ℕ) (x : Text) (e : Formula) → IsFormalOf p at own index x e → plain_name e ≡ None →
    Means p (own ∷ at) (x ∷ []) (an_expression_at (actual_key (own ∷ at) index) at e)
definition_meant p at own index x e h none = (1, once 0 p at own index x e h ∙ ap (λ o. through_plain (means_in 0 p) (actual_key (own ∷ at) index) at e o []) none)

-- a plain one with no part means nothing
module _ (p : ProgramTree) (inside at : Place) (x : Text) where
  empty_nothing : MeansNothing p at []
  empty_nothing = record { no_meaning = no_meaning; no_loop = λ h. no_loop h.0 h.1 h.2 h.3 h.4 }
    where
      no_meaning : (n : ℕ) → means_in n p at [] ≡ None
      no_meaning zero = refl
      no_meaning (suc n) = refl

      name_of : Option Look → Path
      name_of None = []
      name_of (Some l) = l.name

      no_loop : (n : ℕ) (at' : Place) (y : Text) (rest : Path) → look_after n p at [] ≡ Some (record { place = at'; name = y ∷ rest }) → ⊥
      no_loop zero at' y rest e = differ (ap name_of e)
        where
          differ : [] ≡ y ∷ rest → ⊥
          differ q = cc
      no_loop (suc n) at' y rest e =
          let one : n + 1 ≡ suc n = omega arith in
          none_some _ (sym (ap (λ k. look_after k p at []) (sym one) ∙ ended_stays n 1 p at [] refl) ∙ e)

  ended_nothing : step_of p inside (x ∷ []) ≡ None → means_in 1 p inside (x ∷ []) ≡ None → MeansNothing p inside (x ∷ [])
  ended_nothing step first = record { no_meaning = no_meaning; no_loop = ended_meets_none 1 p inside (x ∷ []) step }
    where
      no_meaning : (n : ℕ) → means_in n p inside (x ∷ []) ≡ None
      no_meaning zero = refl
      no_meaning (suc n) = stuck_means n 0 p inside (x ∷ []) step ∙ first

  -- a plain one with parts means what it is
  module _ (name : Path) (step : step_of p inside (x ∷ []) ≡ Some (record { place = at; name = name })) where
    looks : (n : ℕ) → look_after (suc n) p inside (x ∷ []) ≡ look_after n p at name
    looks n =
        let one : suc n ≡ n + 1 = omega arith in
        ap (λ k. look_after k p inside (x ∷ [])) one ∙ steps_more n 1 p inside (x ∷ []) (record { place = at; name = name }) step

    means : (n : ℕ) → means_in (suc n) p inside (x ∷ []) ≡ means_in n p at name
    means n = step_means n p inside (x ∷ []) (record { place = at; name = name }) step

    nothing_at : MeansNothing p inside (x ∷ []) → MeansNothing p at name
    nothing_at h = record { no_meaning = λ n. sym (means n) ∙ h.no_meaning (suc n); no_loop = λ l. h.no_loop (suc l.0, l.1, l.2, l.3, looks l.0 ∙ l.4, l.5) }

    nothing_inside : MeansNothing p at name → MeansNothing p inside (x ∷ [])
    nothing_inside h = record { no_meaning = no_meaning; no_loop = λ l. no_loop l.0 l.1 l.2 l.3 l.4 l.5 }
      where
        no_meaning : (n : ℕ) → means_in n p inside (x ∷ []) ≡ None
        no_meaning zero = refl
        no_meaning (suc n) = means n ∙ h.no_meaning n

        place_in : Option Look → Place
        place_in None = []
        place_in (Some l) = l.place

        text_in : Path → Text
        text_in [] = []
        text_in (y ∷ rest) = y

        name_in : Option Look → Text
        name_in None = []
        name_in (Some l) = text_in l.name

        no_loop : (n : ℕ) (at' : Place) (y : Text) (rest : Path) → look_after n p inside (x ∷ []) ≡ Some (record { place = at'; name = y ∷ rest }) → ComesBack p at' y → ⊥
        no_loop zero at' y rest e b =
            let back : ComesBack p inside x = subst (λ a. ComesBack p a x) (sym (ap place_in e)) (subst (λ z. ComesBack p at' z) (sym (ap name_in e)) b) in
            h.no_loop (back.0, inside, x, back.1, sym (looks back.0) ∙ back.2, back)
        no_loop (suc n) at' y rest e b = h.no_loop (n, at', y, rest, sym (looks n) ∙ e, b)

pub plain_nothing : (p : ProgramTree) (at : Place) (own : Text) (index : ℕ) (x : Text) (e : Formula) → IsFormalOf p at own index x e → (name : Path) → plain_name e ≡ Some name →
    MeansNothing p (own ∷ at) (x ∷ []) ↔ MeansNothing p at name
plain_nothing p at own index x e h [] plain = (λ k. empty_nothing p (own ∷ at) at x, λ k. ended_nothing p (own ∷ at) at x step first)
  where
    step : step_of p (own ∷ at) (x ∷ []) ≡ None
    step = steps_to p at own index x e h ∙ ap (λ o. at_actual at o []) plain

    first : means_in 1 p (own ∷ at) (x ∷ []) ≡ None
    first = once 0 p at own index x e h ∙ ap (λ o. through_plain (means_in 0 p) (actual_key (own ∷ at) index) at e o []) plain
plain_nothing p at own index x e h (y ∷ ys) plain = (nothing_at p (own ∷ at) at x (y ∷ ys) step, nothing_inside p (own ∷ at) at x (y ∷ ys) step)
  where
    step : step_of p (own ∷ at) (x ∷ []) ≡ Some (record { place = at; name = y ∷ ys })
    step = steps_to p at own index x e h ∙ ap (λ o. at_actual at o []) plain ∙ ap (λ zs. Some (record { place = at; name = y ∷ zs })) (append-nil ys)

-- What is judged of an actual.
pub plain_told : (p : ProgramTree) (at : Place) (own : Text) (index : ℕ) (x : Text) (m : ModuleTree) (e : Formula) → IsFormalOf p at own index x e → slice_get m.formals index ≡ Some x →
    (name : Path) → plain_name e ≡ Some name → (f : Formal) → IsKnown p (own ∷ at) x f →
    IsActualJudged p at (own ∷ at) m index e (record { no_value = is_nothing_known f; circle = is_circle_known f; next = false })
plain_told p at own index x m e h formal name plain f k = record {
  no_value = subst (λ o. (is_nothing_known f ≡ true) ↔ ActualHasNoMeaning p at e o) (sym plain)
      (λ t. (plain_nothing p at own index x e h name plain).0 ((known_nothing p (own ∷ at) x f k).0 t), λ t. (known_nothing p (own ∷ at) x f k).1 ((plain_nothing p at own index x e h name plain).1 t));
  circle = (λ t. (x, formal, subst (λ o. ActualLoops p (own ∷ at) index x o) (sym plain) ((known_circle p (own ∷ at) x f k).0 t)), λ l. (known_circle p (own ∷ at) x f k).1 (back l));
  next = sym (no_next e name plain);
}
  where
    back : LoopsAt p (own ∷ at) m index e → ComesBack p (own ∷ at) x
    back l =
        let same : l.0 ≡ x = some_same l.0 x (sym l.1 ∙ formal) in
        subst (ComesBack p (own ∷ at)) same (subst (λ o. ActualLoops p (own ∷ at) index l.0 o) plain l.2)

    no_next : (e : Formula) (name : Path) → plain_name e ≡ Some name → has_next e ≡ false
    no_next (leaf l) name q = refl
    no_next e name q = absurd (none_some name q)

pub value_told : (p : ProgramTree) (n : Needs) → AreNeeds p n → (at : Place) (own : Text) (index : ℕ) (x : Text) (m : ModuleTree) (e : Formula) → IsFormalOf p at own index x e → slice_get m.formals index ≡ Some x →
    plain_name e ≡ None → (f : Formal) → IsKnown p (own ∷ at) x f → (j : JudgedValue) → IsJudged p at e j →
    IsActualJudged p at (own ∷ at) m index e (record { no_value = j.no_value; circle = is_circle_meant n f; next = j.next })
value_told p n needs at own index x m e h formal none f k j judged = record {
  no_value = subst (λ o. (j.no_value ≡ true) ↔ ActualHasNoMeaning p at e o) (sym none) judged.no_value;
  circle = (λ t. (x, formal, subst (λ o. ActualLoops p (own ∷ at) index x o) (sym none) (law.0 t)), λ l. law.1 (subst (λ o. ActualLoops p (own ∷ at) index l.0 o) none l.2));
  next = judged.next;
}
  where
    law : HasCircle p (actual_key (own ∷ at) index) (is_circle_meant n f)
    law = known_definition p n needs (own ∷ at) x f k (actual_key (own ∷ at) index) at e (definition_meant p at own index x e h none)
