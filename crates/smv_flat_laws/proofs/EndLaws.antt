-- A look-up that ends: it meets no loop, and what it finds is what is found where it stands last.
use Rattle.std.proofs.Common.{◌≡◌, ℕ, zero, suc, ◌+◌, arith, [], ◌∷◌, ◌++◌, Option, Some, None, refl, sym, ◌∙◌, ap}
use Rattle.smv_language.specs.ProgramTree.{Text, Path, Formula, ProgramTree}
use Rattle.smv_language.specs.Scope.{Place, Key, actual_key, Kind, a_formal, a_variable, a_define, an_instance, undeclared, LookUp, plain_name, through_plain, through_actual, by_kind, kind_at, module_at, actual_of_kind, means_in}
use Rattle.smv_flat_laws.specs.Looks.{Look, at_actual, plain_of, step_kind, step_of, step_on, look_after, ComesBack, MeetsLoop}
use Rattle.smv_flat_laws.proofs.LookLaws.{after_longer}
use Rattle.std.proofs.lemmas.Option.{none-some as never_some}

-- after some steps, and then some more
pub steps_more : (b a : ℕ) (p : ProgramTree) (at : Place) (name : Path) (l : Look) → look_after a p at name ≡ Some l → look_after (b + a) p at name ≡ look_after b p l.place l.name
steps_more zero a p at name l h = let same : zero + a ≡ a = omega arith in ap (λ n. look_after n p at name) same ∙ h
steps_more (suc b) a p at name l h =
    let one : suc b + a ≡ suc (b + a) = omega arith in
    ap (λ n. look_after n p at name) one ∙ ap (step_on p) (steps_more b a p at name l h)

-- what has ended stays so
pub ended_stays : (d n : ℕ) (p : ProgramTree) (at : Place) (name : Path) → look_after n p at name ≡ None → look_after (d + n) p at name ≡ None
ended_stays zero n p at name h = let same : zero + n ≡ n = omega arith in ap (λ k. look_after k p at name) same ∙ h
ended_stays (suc d) n p at name h =
    let one : suc d + n ≡ suc (d + n) = omega arith in ap (λ k. look_after k p at name) one ∙ ap (step_on p) (ended_stays d n p at name h)

-- the look-up of a formal that comes back never ends
pub goes_on : (n : ℕ) (p : ProgramTree) (at : Place) (x : Text) → ComesBack p at x → (more : Path) → look_after n p at (x ∷ more) ≡ None → ⊥
goes_on zero p at x back more h = never_some _ (sym h)
goes_on (suc n) p at x back more h = goes_on n p at x back (back.1 ++ more) (sym around ∙ ap (λ k. look_after k p at (x ∷ more)) same ∙ ended_stays back.0 (suc n) p at (x ∷ more) h)
  where
    around : look_after (n + suc back.0) p at (x ∷ more) ≡ look_after n p at (x ∷ (back.1 ++ more))
    around = steps_more n (suc back.0) p at (x ∷ more) (record { place = at; name = x ∷ (back.1 ++ more) })
        (after_longer (suc back.0) more p at (x ∷ []) (record { place = at; name = x ∷ back.1 }) back.2)

    same : n + suc back.0 ≡ back.0 + suc n
    same = omega arith

pub ended_meets_none : (n : ℕ) (p : ProgramTree) (at : Place) (name : Path) → look_after n p at name ≡ None → MeetsLoop p at name → ⊥
ended_meets_none n p at name h loop =
    goes_on n p loop.1 loop.2 loop.5 loop.3
    (sym (steps_more n loop.0 p at name (record { place = loop.1; name = loop.2 ∷ loop.3 }) loop.4)
    ∙ ap (λ k. look_after k p at name) same ∙ ended_stays loop.0 n p at name h)
  where
    same : n + loop.0 ≡ loop.0 + n
    same = omega arith

-- where no step is taken, the answer doesn't depend on the depth
plain_stuck : (f g : LookUp) (key : Key) (caller : Place) (e : Formula) (o : Option Path) (rest : Path) → at_actual caller o rest ≡ None →
    through_plain f key caller e o rest ≡ through_plain g key caller e o rest
plain_stuck f g key caller e None rest h = refl
plain_stuck f g key caller e (Some []) rest h = refl
plain_stuck f g key caller e (Some (x ∷ name)) rest h = absurd (never_some _ (sym h))

actual_stuck : (f g : LookUp) (key : Key) (caller : Place) (o : Option Formula) (rest : Path) → at_actual caller (plain_of o) rest ≡ None →
    through_actual f key caller o rest ≡ through_actual g key caller o rest
actual_stuck f g key caller None rest h = refl
actual_stuck f g key caller (Some e) rest h = plain_stuck f g key caller e (plain_name e) rest h

kind_stuck : (f g : LookUp) (p : ProgramTree) (at : Place) (k : Kind) (x : Text) (rest : Path) → step_kind p at k x rest ≡ None → by_kind f p at k x rest ≡ by_kind g p at k x rest
kind_stuck f g p [] (a_formal i) x rest h = refl
kind_stuck f g p (own ∷ caller) (a_formal i) x rest h = actual_stuck f g (actual_key (own ∷ caller) i) caller (actual_of_kind (kind_at (module_at p caller) own) i) rest h
kind_stuck f g p at (a_variable role what) x [] h = refl
kind_stuck f g p at (a_variable role what) x (y ∷ rest) h = refl
kind_stuck f g p at (a_define e) x [] h = refl
kind_stuck f g p at (a_define e) x (y ∷ rest) h = refl
kind_stuck f g p at (an_instance m actuals) x [] h = refl
kind_stuck f g p at (an_instance m actuals) x (y ∷ rest) h = absurd (never_some _ (sym h))
kind_stuck f g p at undeclared x [] h = refl
kind_stuck f g p at undeclared x (y ∷ rest) h = refl

pub stuck_means : (n k : ℕ) (p : ProgramTree) (at : Place) (name : Path) → step_of p at name ≡ None → means_in (suc n) p at name ≡ means_in (suc k) p at name
stuck_means n k p at [] h = refl
stuck_means n k p at (x ∷ rest) h = kind_stuck (means_in n p) (means_in k p) p at (kind_at (module_at p at) x) x rest h
