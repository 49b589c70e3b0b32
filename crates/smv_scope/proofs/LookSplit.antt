-- The look-up of a name with further parts: that of its first parts, and then that of the others in the instance that those mean.
use Rattle.std.proofs.Common.{◌≡◌, ℕ, zero, suc, ◌+◌, ◌≤◌, arith, Bool, true, false, [], ◌∷◌, ◌++◌, Option, Some, None, refl, sym, ◌∙◌, ap, subst}
use Rattle.std.specs.Prelude.{if◌then◌else◌}
use Rattle.smv_language.specs.ProgramTree.{Text, Path, Formula, ProgramTree}
use Rattle.smv_language.specs.Scope.{Place, Key, actual_key, Kind, a_formal, a_variable, a_define, an_instance, undeclared, an_instance_at, a_symbol, LookUp, plain_name, through_plain, through_actual, by_kind, kind_at, module_at, actual_of_kind, means_in, is_symbol, Means}
use Rattle.smv_flat_laws.specs.Looks.{Look, at_actual, plain_of, step_kind, step_of, step_on, look_after}
use Rattle.smv_flat_laws.proofs.LookLaws.{step_means, after_means, after_longer, step_some}
use Rattle.smv_flat_laws.proofs.EndLaws.{steps_more}
use Rattle.std.proofs.lemmas.Option.{same_Some as of_some}

pub never : {A B : Type 0} (x : A) → None ≡ Some x → B
never x e = absurd (bad e)
  where
    bad : None ≡ Some x → ⊥
    bad h = cc

-- a look-up with more parts after its name
abbrev pub with_more : Look → Path → Look
with_more l more = record { place = l.place; name = l.name ++ more }

-- a look-up stands at some part
abbrev pub HasPart : Look → Type 0
HasPart l = (w : Text) × (ws : Path) × (l.name ≡ w ∷ ws)

pub at_part : (at : Place) (x : Text) (ws : Path) (l : Look) → Some (record { place = at; name = x ∷ ws }) ≡ Some l → HasPart l
at_part at x ws l h = (x, ws, sym (ap (λ (k : Look). k.name) (of_some (record { place = at; name = x ∷ ws }) l h)))

plain_part : (caller : Place) (o : Option Path) (rest : Path) (l : Look) → at_actual caller o rest ≡ Some l → HasPart l
plain_part caller None rest l h = never l h
plain_part caller (Some []) rest l h = never l h
plain_part caller (Some (x ∷ name)) rest l h = at_part caller x (name ++ rest) l h

kind_part : (p : ProgramTree) (at : Place) (k : Kind) (x : Text) (rest : Path) (l : Look) → step_kind p at k x rest ≡ Some l → HasPart l
kind_part p [] (a_formal i) x rest l h = never l h
kind_part p (own ∷ caller) (a_formal i) x rest l h = plain_part caller (plain_of (actual_of_kind (kind_at (module_at p caller) own) i)) rest l h
kind_part p at (a_variable role what) x rest l h = never l h
kind_part p at (a_define e) x rest l h = never l h
kind_part p at (an_instance m actuals) x [] l h = never l h
kind_part p at (an_instance m actuals) x (y ∷ rest) l h = at_part (x ∷ at) y rest l h
kind_part p at undeclared x rest l h = never l h

step_part : (p : ProgramTree) (at : Place) (name : Path) (l : Look) → step_of p at name ≡ Some l → HasPart l
step_part p at [] l h = never l h
step_part p at (x ∷ rest) l h = kind_part p at (kind_at (module_at p at) x) x rest l h

pub named_look : (n : ℕ) (p : ProgramTree) (at : Place) (x : Text) (more : Path) (l : Look) → look_after n p at (x ∷ more) ≡ Some l → HasPart l
named_look zero p at x more l h = at_part at x more l h
named_look (suc n) p at x more l h =
    let s : (k : Look) × (look_after n p at (x ∷ more) ≡ Some k) × (step_of p k.place k.name ≡ Some l) = step_some p (look_after n p at (x ∷ more)) l h in
    step_part p s.0.place s.0.name l s.2

-- the look-up ends, but goes on with a further part: it stands at an instance
pub record Enters (p : ProgramTree) (at : Place) (kind : Kind) (w : Text) (ws : Path) (y : Text) (rest : Path) (l : Look) : Type 0 where
  pub means : by_kind (means_in 0 p) p at kind w ws ≡ Some (an_instance_at (w ∷ at))
  pub look : record { place = w ∷ at; name = y ∷ rest } ≡ l

plain_enters : (caller : Place) (o : Option Path) (ws more : Path) (l : Look) → at_actual caller o ws ≡ None → at_actual caller o (ws ++ more) ≡ Some l → ⊥
plain_enters caller None ws more l h g = never l g
plain_enters caller (Some []) ws more l h g = never l g
plain_enters caller (Some (x ∷ name)) ws more l h g = never (record { place = caller; name = x ∷ (name ++ ws) }) (sym h)

kind_enters : (p : ProgramTree) (at : Place) (kind : Kind) (w : Text) (ws : Path) (y : Text) (rest : Path) (l : Look) → step_kind p at kind w ws ≡ None → step_kind p at kind w (ws ++ y ∷ rest) ≡ Some l →
    Enters p at kind w ws y rest l
kind_enters p [] (a_formal i) w ws y rest l h g = never l g
kind_enters p (own ∷ caller) (a_formal i) w ws y rest l h g = absurd (plain_enters caller (plain_of (actual_of_kind (kind_at (module_at p caller) own) i)) ws (y ∷ rest) l h g)
kind_enters p at (a_variable role what) w ws y rest l h g = never l g
kind_enters p at (a_define e) w ws y rest l h g = never l g
kind_enters p at (an_instance m actuals) w [] y rest l h g = record { means = refl; look = of_some (record { place = w ∷ at; name = y ∷ rest }) l g }
kind_enters p at (an_instance m actuals) w (z ∷ ws) y rest l h g = never (record { place = w ∷ at; name = z ∷ ws }) (sym h)
kind_enters p at undeclared w ws y rest l h g = never l g

-- where the look-up of a name with further parts stands after some steps
pub data Split (p : ProgramTree) (at : Place) (x y : Text) (rest : Path) (n : ℕ) (l : Look) : Type 0 where
  -- where that of the first part alone stands
  within : (k : Look) → look_after n p at (x ∷ []) ≡ Some k → with_more k (y ∷ rest) ≡ l → Split p at x y rest n l
  -- inside the instance that the first part means
  beyond : (inside : Place) (k : ℕ) → Means p at (x ∷ []) (an_instance_at inside) → look_after k p inside (y ∷ rest) ≡ Some l → Split p at x y rest n l

pub split : (n : ℕ) (p : ProgramTree) (at : Place) (x y : Text) (rest : Path) (l : Look) → look_after n p at (x ∷ y ∷ rest) ≡ Some l → Split p at x y rest n l
split zero p at x y rest l h = within (record { place = at; name = x ∷ [] }) refl (of_some (record { place = at; name = x ∷ y ∷ rest }) l h)
split (suc n) p at x y rest l h =
    let s : (k : Look) × (look_after n p at (x ∷ y ∷ rest) ≡ Some k) × (step_of p k.place k.name ≡ Some l) = step_some p (look_after n p at (x ∷ y ∷ rest)) l h in
    by_before s.0 s.1 s.2 (split n p at x y rest s.0 s.1)
  where
    enters : (k : Look) → look_after n p at (x ∷ []) ≡ Some k → step_of p k.place k.name ≡ None → step_of p k.place (k.name ++ y ∷ rest) ≡ Some l → HasPart k → Split p at x y rest (suc n) l
    enters k e none on part =
        let kind : Kind = kind_at (module_at p k.place) part.0 in
        let none' : step_kind p k.place kind part.0 part.1 ≡ None = subst (λ ws. step_of p k.place ws ≡ None) part.2 none in
        let on' : step_kind p k.place kind part.0 (part.1 ++ y ∷ rest) ≡ Some l = subst (λ (ws : Path). step_of p k.place (ws ++ y ∷ rest) ≡ Some l) part.2 on in
        let in_it : Enters p k.place kind part.0 part.1 y rest l = kind_enters p k.place kind part.0 part.1 y rest l none' on' in
        let there : means_in 1 p k.place k.name ≡ Some (an_instance_at (part.0 ∷ k.place)) = subst (λ ws. means_in 1 p k.place ws ≡ Some (an_instance_at (part.0 ∷ k.place))) (sym part.2) in_it.means in
        beyond (part.0 ∷ k.place) 0 (n + 1, after_means n 1 p at (x ∷ []) k e ∙ there) (ap Some in_it.look)

    by_step : (k : Look) → look_after n p at (x ∷ []) ≡ Some k → step_of p k.place (k.name ++ y ∷ rest) ≡ Some l → (o : Option Look) → step_of p k.place k.name ≡ o → Split p at x y rest (suc n) l
    by_step k e on None none = enters k e none on (named_look n p at x [] k e)
    by_step k e on (Some k') one =
        within k' (ap (step_on p) e ∙ one)
        (of_some (with_more k' (y ∷ rest)) l (sym (after_longer 1 (y ∷ rest) p k.place k.name k' one) ∙ on))

    by_before : (k : Look) → look_after n p at (x ∷ y ∷ rest) ≡ Some k → step_of p k.place k.name ≡ Some l → Split p at x y rest n k → Split p at x y rest (suc n) l
    by_before k e on (within k' e' same) =
        by_step k' e' (subst (λ (j : Look). step_of p j.place j.name ≡ Some l) (sym same) on) (step_of p k'.place k'.name) refl
    by_before k e on (beyond inside i means e') = beyond inside (suc i) means (ap (step_on p) e' ∙ on)

-- Where a name means an instance, its look-up ends after some steps, and with further parts the next step goes inside.
pub record Reach (p : ProgramTree) (at : Place) (name : Path) (inside : Place) (y : Text) (rest : Path) : Type 0 where
  pub steps : ℕ
  pub own : (k : ℕ) → k ≤ steps → (l : Look) × (look_after k p at name ≡ Some l)
  pub there : look_after (suc steps) p at (name ++ y ∷ rest) ≡ Some (record { place = inside; name = y ∷ rest })

-- an instance is met, and no step is left
abbrev pub Met : ProgramTree → Place → Kind → Text → Path → Place → Text → Path → Type 0
Met p at kind w ws inside y rest = step_kind p at kind w (ws ++ y ∷ rest) ≡ Some (record { place = inside; name = y ∷ rest })

same_inside : (a b : Place) → Some (an_instance_at a) ≡ Some (an_instance_at b) → a ≡ b
same_inside a b e = cc

plain_met : (f : LookUp) (key : Key) (caller : Place) (e : Formula) (o : Option Path) (ws : Path) (inside : Place) → at_actual caller o ws ≡ None →
    through_plain f key caller e o ws ≡ Some (an_instance_at inside) → ⊥
plain_met f key caller e None [] inside h g = cc
plain_met f key caller e None (z ∷ ws) inside h g = cc
plain_met f key caller e (Some []) ws inside h g = cc
plain_met f key caller e (Some (x ∷ name)) ws inside h g = never (record { place = caller; name = x ∷ (name ++ ws) }) (sym h)

actual_met : (f : LookUp) (key : Key) (caller : Place) (o : Option Formula) (ws : Path) (inside : Place) → at_actual caller (plain_of o) ws ≡ None →
    through_actual f key caller o ws ≡ Some (an_instance_at inside) → ⊥
actual_met f key caller None ws inside h g = cc
actual_met f key caller (Some e) ws inside h g = plain_met f key caller e (plain_name e) ws inside h g

kind_met : (f : LookUp) (p : ProgramTree) (at : Place) (kind : Kind) (w : Text) (ws : Path) (inside : Place) (y : Text) (rest : Path) → step_kind p at kind w ws ≡ None →
    by_kind f p at kind w ws ≡ Some (an_instance_at inside) → Met p at kind w ws inside y rest
kind_met f p [] (a_formal i) w ws inside y rest h g = never _ g
kind_met f p (own ∷ caller) (a_formal i) w ws inside y rest h g =
    absurd (actual_met f (actual_key (own ∷ caller) i) caller (actual_of_kind (kind_at (module_at p caller) own) i) ws inside h g)
kind_met f p at (a_variable role what) w [] inside y rest h g = cc
kind_met f p at (a_variable role what) w (z ∷ ws) inside y rest h g = cc
kind_met f p at (a_define e) w [] inside y rest h g = cc
kind_met f p at (a_define e) w (z ∷ ws) inside y rest h g = cc
kind_met f p at (an_instance m actuals) w [] inside y rest h g = ap (λ (q : Place). Some (record { place = q; name = y ∷ rest })) (same_inside (w ∷ at) inside g)
kind_met f p at (an_instance m actuals) w (z ∷ ws) inside y rest h g = never (record { place = w ∷ at; name = z ∷ ws }) (sym h)
kind_met f p at undeclared w [] inside y rest h g = no_symbol (is_symbol p w) g
  where
    no_symbol : (b : Bool) → (if b then Some (a_symbol w) else None) ≡ Some (an_instance_at inside) → Met p at undeclared w [] inside y rest
    no_symbol true h = cc
    no_symbol false h = cc
kind_met f p at undeclared w (z ∷ ws) inside y rest h g = cc

after_one : (n : ℕ) (p : ProgramTree) (at : Place) (name : Path) (l : Look) → step_of p at name ≡ Some l → look_after (suc n) p at name ≡ look_after n p l.place l.name
after_one n p at name l e =
    let one : suc n ≡ n + 1 = omega arith in
    ap (λ k. look_after k p at name) one ∙ steps_more n 1 p at name l e

pub reach : (n : ℕ) (p : ProgramTree) (at : Place) (name : Path) (inside : Place) (y : Text) (rest : Path) → means_in n p at name ≡ Some (an_instance_at inside) → Reach p at name inside y rest
reach zero p at name inside y rest h = never _ h
reach (suc n) p at [] inside y rest h = never _ h
reach (suc n) p at (w ∷ ws) inside y rest h = by_step (step_of p at (w ∷ ws)) refl (λ l e. reach n p l.place l.name inside y rest (sym (step_means n p at (w ∷ ws) l e) ∙ h))
  where
    by_step : (o : Option Look) → step_of p at (w ∷ ws) ≡ o → ((l : Look) → step_of p at (w ∷ ws) ≡ Some l → Reach p l.place l.name inside y rest) → Reach p at (w ∷ ws) inside y rest
    by_step None none go = record {
      steps = 0;
      own = λ k le. let is : 0 ≡ k = omega arith in (record { place = at; name = w ∷ ws }, ap (λ j. look_after j p at (w ∷ ws)) (sym is));
      there = kind_met (means_in n p) p at (kind_at (module_at p at) w) w ws inside y rest none h;
    }
    by_step (Some l) one go =
        let r : Reach p l.place l.name inside y rest = go l one in
        record {
          steps = suc r.steps;
          own = λ k le. of_step l one r k le;
          there =
              after_one (suc r.steps) p at ((w ∷ ws) ++ y ∷ rest) (with_more l (y ∷ rest)) (after_longer 1 (y ∷ rest) p at (w ∷ ws) l one)
              ∙ r.there;
        }
      where
        of_step : (l : Look) → step_of p at (w ∷ ws) ≡ Some l → (r : Reach p l.place l.name inside y rest) → (k : ℕ) → k ≤ suc r.steps → (j : Look) × (look_after k p at (w ∷ ws) ≡ Some j)
        of_step l one r zero le = (record { place = at; name = w ∷ ws }, refl)
        of_step l one r (suc k) le = let o : (j : Look) × (look_after k p l.place l.name ≡ Some j) = r.own k (omega arith) in (o.0, after_one k p at (w ∷ ws) l one ∙ o.1)
