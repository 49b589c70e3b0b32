-- Each look-up of an accepted program ends, and so it is decided what a name means.
use Rattle.std.proofs.Common.{◌≡◌, ℕ, zero, suc, ◌+◌, arith, List, [], ◌∷◌, ◌++◌, Option, Some, None, refl, sym, ◌∙◌, ap, subst, inl, inr}
use Rattle.std.specs.Prelude.{slice_get, map, flat_map, ◌⊎◌}
use Rattle.std.proofs.lemmas.Option.{none-some as never_some}
use Rattle.smv_language.specs.Language.{Text, Path, ModuleTree, ProgramTree, Place, Kind, a_formal, a_variable, an_instance, undeclared, Meaning, Means, means_in, find_module, kind_in, kind_at, module_at, actual_of_kind, IsInstance, FlatInstance}
use Rattle.smv_language.specs.Scope.{a_define}
use Rattle.smv_flat_laws.specs.Items.{instances_of}
use Rattle.smv_flat_laws.specs.Looks.{Look, at_actual, plain_of, step_kind, step_of, step_on, look_after, MeansNothing}
use Rattle.smv_flat_laws.specs.Rules.{IsAccepted}
use Rattle.smv_flat_laws.proofs.LookLaws.{after_longer, after_means, one_later}
use Rattle.smv_flat_laws.proofs.EndLaws.{steps_more, ended_meets_none, stuck_means}
use Rattle.smv_flat_laws.proofs.Flattening.{all_instances}
use Rattle.smv_flat_laws.proofs.Listed.{map_has}
use Rattle.smv_flat_laws.proofs.Meant.{no_step, there, in_formals, none_comes_back}
use Rattle.smv_flat_laws.proofs.NoCircles.{by_steps}
use Rattle.smv_flat_laws.proofs.Places.{In, in_flat}
use Rattle.smv_flat_laws.proofs.Sections.{one_tree}
use Rattle.smv_flat_laws.proofs.Walkable.{accepted_walkable}

-- With more parts after a name whose look-up takes no step, it takes none, or comes to what is left of the name.
plain_passes : (caller : Place) (o : Option Path) (rest more : Path) → at_actual caller o rest ≡ None → at_actual caller o (rest ++ more) ≡ None
plain_passes caller None rest more h = refl
plain_passes caller (Some []) rest more h = refl
plain_passes caller (Some (x ∷ name)) rest more h = cc

abbrev Passes : Option Look → Path → Type 0
Passes o more = (o ≡ None) ⊎ ((bt : Place) × (o ≡ Some (record { place = bt; name = more })))

kind_passes : (p : ProgramTree) (at : Place) (k : Kind) (x : Text) (rest more : Path) → step_kind p at k x rest ≡ None → Passes (step_kind p at k x (rest ++ more)) more
kind_passes p [] (a_formal i) x rest more h = inl refl
kind_passes p (own ∷ caller) (a_formal i) x rest more h = inl (plain_passes caller (plain_of (actual_of_kind (kind_at (module_at p caller) own) i)) rest more h)
kind_passes p at (a_variable role what) x rest more h = inl refl
kind_passes p at (a_define e) x rest more h = inl refl
kind_passes p at (an_instance m actuals) x [] [] h = inl refl
kind_passes p at (an_instance m actuals) x [] (y ∷ more) h = inr (x ∷ at, refl)
kind_passes p at (an_instance m actuals) x (y ∷ rest) more h = cc
kind_passes p at undeclared x rest more h = inl refl

module _ (p : ProgramTree) where
  abbrev pub Ends : Place → Path → Type 0
  Ends at name = (n : ℕ) × (look_after n p at name ≡ None)

  -- where a look-up that ends stands last
  record Last (at : Place) (name : Path) : Type 0 where
    pub steps : ℕ
    pub look : Look
    pub is : look_after steps p at name ≡ Some look
    pub stuck : step_of p look.place look.name ≡ None

  last_look : (at : Place) (name : Path) (n : ℕ) → look_after n p at name ≡ None → Last at name
  last_look at name zero h = cc
  last_look at name (suc n) h = by_look (look_after n p at name) refl (last_look at name n)
    where
      by_look : (o : Option Look) → look_after n p at name ≡ o → (look_after n p at name ≡ None → Last at name) → Last at name
      by_look None e rest = rest e
      by_look (Some l) e rest = record { steps = n; look = l; is = e; stuck = sym (ap (step_on p) e) ∙ h }

  -- from where a look-up of one part stands last, that of more parts ends or comes to these
  record Passed (at : Place) (name more : Path) : Type 0 where
    pub steps : ℕ
    pub place : Place
    pub is : look_after steps p at name ≡ Some (record { place = place; name = more })

  passed : (at : Place) (y : Text) (more : Path) → Last at (y ∷ []) → Ends at (y ∷ more) ⊎ Passed at (y ∷ more) more
  passed at y more last = by_name last.look.name refl
    where
      longer : look_after last.steps p at (y ∷ more) ≡ Some (record { place = last.look.place; name = last.look.name ++ more })
      longer = after_longer last.steps more p at (y ∷ []) last.look last.is

      by_step : (x : Text) (rest : Path) → last.look.name ≡ x ∷ rest → Passes (step_of p last.look.place (last.look.name ++ more)) more → Ends at (y ∷ more) ⊎ Passed at (y ∷ more) more
      by_step x rest e (inl none) = inl (suc last.steps, ap (step_on p) longer ∙ none)
      by_step x rest e (inr on) = inr (record { steps = suc last.steps; place = on.0; is = ap (step_on p) longer ∙ on.1 })

      by_name : (name : Path) → last.look.name ≡ name → Ends at (y ∷ more) ⊎ Passed at (y ∷ more) more
      by_name [] e = inr (record { steps = last.steps; place = last.look.place; is = longer ∙ ap (λ (n : Path). Some (record { place = last.look.place; name = n ++ more })) e })
      by_name (x ∷ rest) e =
          let stuck : step_of p last.look.place (x ∷ rest) ≡ None = ap (step_of p last.look.place) (sym e) ∙ last.stuck in
          by_step x rest e
          (subst (λ n. Passes (step_of p last.look.place (n ++ more)) more) (sym e) (kind_passes p last.look.place (kind_at (module_at p last.look.place) x) x rest more stuck))

  -- A look-up ends where that of each part ends, of which it is known where it stands.
  module _ (Q : Place → Path → Type 0) (moves : (at bt : Place) (name next : Path) (d : ℕ) → Q at name → look_after d p at name ≡ Some (record { place = bt; name = next }) → Q bt next)
      (ends : (at : Place) (y : Text) (rest : Path) → Q at (y ∷ rest) → Ends at (y ∷ [])) where
    on_more : (at : Place) (y : Text) (more rest : Path) → Q at (y ∷ (more ++ rest)) → ((bt : Place) → Q bt (more ++ rest) → Ends bt more) →
        Ends at (y ∷ more) ⊎ Passed at (y ∷ more) more → Ends at (y ∷ more)
    on_more at y more rest q go (inl end) = end
    on_more at y more rest q go (inr on) =
        let next : Q on.place (more ++ rest) =
        moves at on.place (y ∷ (more ++ rest)) (more ++ rest) on.steps q (after_longer on.steps rest p at (y ∷ more) (record { place = on.place; name = more }) on.is) in
        let end : Ends on.place more = go on.place next in
        (end.0 + on.steps, steps_more end.0 on.steps p at (y ∷ more) (record { place = on.place; name = more }) on.is ∙ end.1)

    paths_end : (name : Path) (at : Place) (rest : Path) → Q at (name ++ rest) → Ends at name
    paths_end [] at rest q = (1, refl)
    paths_end (y ∷ more) at rest q =
        let first : Ends at (y ∷ []) = ends at y (more ++ rest) q in
        on_more at y more rest q (λ bt. paths_end more bt rest) (passed at y more (last_look at (y ∷ []) first.0 first.1))

module _ (p : ProgramTree) (accepted : IsAccepted p) where
  -- a name at an instance
  abbrev Head : Type 0
  Head = Place × Text

  -- the look-up of one name comes to another
  abbrev Comes : Head → Head → Type 0
  Comes s t = (n : ℕ) × (rest : Path) × (look_after (suc n) p s.0 (s.1 ∷ []) ≡ Some (record { place = t.0; name = t.1 ∷ rest }))

  further : (s t u : Head) → Comes s t → Comes t u → Comes s u
  further s t u a b =
      let one : suc b.0 + suc a.0 ≡ suc (b.0 + suc a.0) = omega arith in (
        b.0 + suc a.0,
        b.1 ++ a.1,
        ap (λ k. look_after k p s.0 (s.1 ∷ [])) (sym one) ∙ steps_more (suc b.0) (suc a.0) p s.0 (s.1 ∷ []) (record { place = t.0; name = t.1 ∷ a.1 }) a.2
            ∙ after_longer (suc b.0) a.1 p t.0 (t.1 ∷ []) (record { place = u.0; name = u.1 ∷ b.1 }) b.2,
      )

  -- the formals of the instances
  abbrev formals_of : Option ModuleTree → List Text
  formals_of None = []
  formals_of (Some m) = m.formals

  abbrev heads_at : FlatInstance → List Head
  heads_at at = map (λ x. (at.place, x)) (formals_of (find_module p at.module_name))

  abbrev heads : List Head
  heads = flat_map heads_at (instances_of p)

  formal_there : (at : Place) (x : Text) (i : ℕ) → kind_at (module_at p at) x ≡ a_formal i → In (at, x) heads
  formal_there at x i kind =
      let t : (m : ModuleTree) × IsInstance p at m × (kind_in m x ≡ a_formal i) = there p accepted at x i kind in
      let l : (i : ℕ) × (y : FlatInstance) × (slice_get (instances_of p) i ≡ Some y) × (y.place ≡ at) = (all_instances p (accepted_walkable p accepted)).all at t.0 t.1 in
      let r : (k : ModuleTree) × IsInstance p l.1.place k × (find_module p l.1.module_name ≡ Some k) = (all_instances p (accepted_walkable p accepted)).real l.0 l.1 l.2 in
      let same : r.0 ≡ t.0 = one_tree p at r.0 t.0 (subst (λ a. IsInstance p a r.0) l.3 r.1) t.1 in
      let formal : In x (formals_of (find_module p l.1.module_name)) = subst (λ o. In x (formals_of o)) (sym (r.2 ∙ ap Some same)) (i, in_formals p accepted t.0 x i t.2) in
      in_flat heads_at l.1 (at, x) (instances_of p) l.0 l.2
      (subst (λ a. In (a, x) (heads_at l.1)) l.3 (map_has (λ y. (l.1.place, y)) (formals_of (find_module p l.1.module_name)) x formal))

  covers : (s t : Head) → Comes s t → In s heads
  covers s t c = by_kind (kind_at (module_at p s.0) s.1) refl
    where
      goes : step_of p s.0 (s.1 ∷ []) ≡ None → ⊥
      goes e = never_some _ (sym (no_step p s.0 s.1 c.0 e) ∙ c.2)

      by_kind : (k : Kind) → kind_at (module_at p s.0) s.1 ≡ k → In s heads
      by_kind (a_formal i) e = formal_there s.0 s.1 i e
      by_kind (a_variable role what) e = absurd (goes (ap (λ k. step_kind p s.0 k s.1 []) e))
      by_kind (a_define f) e = absurd (goes (ap (λ k. step_kind p s.0 k s.1 []) e))
      by_kind (an_instance m actuals) e = absurd (goes (ap (λ k. step_kind p s.0 k s.1 []) e))
      by_kind undeclared e = absurd (goes (ap (λ k. step_kind p s.0 k s.1 []) e))

  -- where the look-up of a name comes
  abbrev From : Head → Place → Path → Type 0
  From s at name = (n : ℕ) × (look_after (suc n) p s.0 (s.1 ∷ []) ≡ Some (record { place = at; name = name }))

  from_moves : (s : Head) (at bt : Place) (name next : Path) (d : ℕ) → From s at name → look_after d p at name ≡ Some (record { place = bt; name = next }) → From s bt next
  from_moves s at bt name next d f h =
      let one : d + suc f.0 ≡ suc (d + f.0) = omega arith in
      (d + f.0, ap (λ k. look_after k p s.0 (s.1 ∷ [])) (sym one) ∙ steps_more d (suc f.0) p s.0 (s.1 ∷ []) (record { place = at; name = name }) f.1 ∙ h)

  step : (s : Head) → ((t : Head) → Comes s t → Ends p t.0 (t.1 ∷ [])) → Ends p s.0 (s.1 ∷ [])
  step s inner = by_step (step_of p s.0 (s.1 ∷ [])) refl
    where
      nil : (xs : Path) → xs ++ [] ≡ xs
      nil [] = refl
      nil (x ∷ xs) = ap (λ ys. x ∷ ys) (nil xs)

      by_step : (o : Option Look) → step_of p s.0 (s.1 ∷ []) ≡ o → Ends p s.0 (s.1 ∷ [])
      by_step None e = (1, e)
      by_step (Some l) e =
          let end : Ends p l.place l.name =
          paths_end p (From s) (from_moves s) (λ at y rest q. inner (at, y) (q.0, rest, q.1)) l.name l.place [] (subst (From s l.place) (sym (nil l.name)) (0, e)) in
          (end.0 + 1, steps_more end.0 1 p s.0 (s.1 ∷ []) l e ∙ end.1)

  -- each look-up ends
  pub all_end : (name : Path) (at : Place) → Ends p at name
  all_end name at = paths_end p (λ bt n. Unit {0}) (λ bt ct n m d q h. tt) one_ends name at [] tt
    where
      one_ends : (at : Place) (y : Text) (rest : Path) → Unit {0} → Ends p at (y ∷ [])
      one_ends at y rest q = by_steps Head Comes (λ s. Ends p s.0 (s.1 ∷ [])) further (λ s c. none_comes_back p accepted s.0 s.1 c) step heads covers (at, y)

  -- a name means something or nothing
  pub decided : (at : Place) (name : Path) → ((m : Meaning) × Means p at name m) ⊎ MeansNothing p at name
  decided at name = by_last (last_look p at name end.0 end.1)
    where
      end : Ends p at name
      end = all_end name at

      by_last : Last p at name → ((m : Meaning) × Means p at name m) ⊎ MeansNothing p at name
      by_last last = by_meaning (means_in 1 p last.look.place last.look.name) refl
        where
          nothing : means_in 1 p last.look.place last.look.name ≡ None → (n : ℕ) → means_in n p at name ≡ None
          nothing e n =
              let later : suc last.steps + n ≡ last.steps + suc n = omega arith in
              one_later n (suc last.steps) p at name (means_in n p at name)
              (ap (λ k. means_in k p at name) later ∙ after_means last.steps (suc n) p at name last.look last.is
              ∙ stuck_means n 0 p last.look.place last.look.name last.stuck ∙ e) refl

          by_meaning : (o : Option Meaning) → means_in 1 p last.look.place last.look.name ≡ o → ((m : Meaning) × Means p at name m) ⊎ MeansNothing p at name
          by_meaning (Some m) e = inl (m, (last.steps + 1, after_means last.steps 1 p at name last.look last.is ∙ e))
          by_meaning None e = inr (record { no_meaning = nothing e; no_loop = ended_meets_none end.0 p at name end.1 })
