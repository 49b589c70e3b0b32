-- A look-up is its steps: what is found after some steps is found at all, and what comes back finds nothing.
use Rattle.std.proofs.Common.{◌≡◌, ℕ, zero, suc, ◌+◌, arith, [], ◌∷◌, ◌++◌, Option, Some, None, refl, sym, ◌∙◌, ap}
use Rattle.smv_language.specs.ProgramTree.{Text, Path, Formula, ProgramTree}
use Rattle.smv_language.specs.Scope.{Place, Key, actual_key, Kind, a_formal, a_variable, a_define, an_instance, undeclared, Meaning, plain_name, through_plain, through_actual, by_kind, kind_at, module_at, actual_of_kind, means_in}
use Rattle.smv_flat_laws.specs.Looks.{Look, at_actual, plain_of, step_kind, step_of, step_on, look_after, ComesBack, MeetsLoop}
use Rattle.smv_flat_laws.proofs.Through.{joined_again}
use Rattle.smv_flat_laws.proofs.Resolving.{means_on}

-- what is found from where a look-up stands
abbrev found_at : ℕ → ProgramTree → Option Look → Option Meaning
found_at n p None = None
found_at n p (Some l) = means_in n p l.place l.name

-- one step
plain_step : (n : ℕ) (p : ProgramTree) (key : Key) (caller : Place) (e : Formula) (o : Option Path) (rest : Path) (l : Look) →
    at_actual caller o rest ≡ Some l → through_plain (means_in n p) key caller e o rest ≡ means_in n p l.place l.name
plain_step n p key caller e None rest l h = cc
plain_step n p key caller e (Some []) rest l h = cc
plain_step n p key caller e (Some (x ∷ name)) rest l h = ap (found_at n p) h

actual_step : (n : ℕ) (p : ProgramTree) (key : Key) (caller : Place) (o : Option Formula) (rest : Path) (l : Look) →
    at_actual caller (plain_of o) rest ≡ Some l → through_actual (means_in n p) key caller o rest ≡ means_in n p l.place l.name
actual_step n p key caller None rest l h = cc
actual_step n p key caller (Some e) rest l h = plain_step n p key caller e (plain_name e) rest l h

kind_step : (n : ℕ) (p : ProgramTree) (at : Place) (k : Kind) (x : Text) (rest : Path) (l : Look) → step_kind p at k x rest ≡ Some l →
    by_kind (means_in n p) p at k x rest ≡ means_in n p l.place l.name
kind_step n p [] (a_formal i) x rest l h = cc
kind_step n p (own ∷ caller) (a_formal i) x rest l h = actual_step n p (actual_key (own ∷ caller) i) caller (actual_of_kind (kind_at (module_at p caller) own) i) rest l h
kind_step n p at (a_variable role what) x rest l h = cc
kind_step n p at (a_define e) x rest l h = cc
kind_step n p at (an_instance m actuals) x [] l h = cc
kind_step n p at (an_instance m actuals) x (y ∷ rest) l h = ap (found_at n p) h
kind_step n p at undeclared x rest l h = cc

pub step_means : (n : ℕ) (p : ProgramTree) (at : Place) (name : Path) (l : Look) → step_of p at name ≡ Some l → means_in (suc n) p at name ≡ means_in n p l.place l.name
step_means n p at [] l h = cc
step_means n p at (x ∷ rest) l h = kind_step n p at (kind_at (module_at p at) x) x rest l h

-- after some steps
pub step_some : (p : ProgramTree) (o : Option Look) (l : Look) → step_on p o ≡ Some l → (k : Look) × (o ≡ Some k) × (step_of p k.place k.name ≡ Some l)
step_some p None l h = cc
step_some p (Some k) l h = (k, refl, h)

pub after_means : (d n : ℕ) (p : ProgramTree) (at : Place) (name : Path) (l : Look) → look_after d p at name ≡ Some l → means_in (d + n) p at name ≡ means_in n p l.place l.name
after_means zero n p at name l h = let same : zero + n ≡ n = omega arith in ap (λ j. means_in j p at name) same ∙ ap (found_at n p) h
after_means (suc d) n p at name l h =
    let s : (k : Look) × (look_after d p at name ≡ Some k) × (step_of p k.place k.name ≡ Some l) = step_some p (look_after d p at name) l h in
    let one : suc d + n ≡ d + suc n = omega arith in
    ap (λ j. means_in j p at name) one ∙ after_means d (suc n) p at name s.0 s.1 ∙ step_means n p s.0.place s.0.name l s.2

-- with more parts after the name, the same steps are taken
abbrev longer : Path → Option Look → Option Look
longer more None = None
longer more (Some l) = Some (record { place = l.place; name = l.name ++ more })

plain_longer : (more : Path) (caller : Place) (o : Option Path) (rest : Path) (l : Look) → at_actual caller o rest ≡ Some l →
    at_actual caller o (rest ++ more) ≡ longer more (Some l)
plain_longer more caller None rest l h = cc
plain_longer more caller (Some []) rest l h = cc
plain_longer more caller (Some (x ∷ name)) rest l h =
    ap (λ ws. Some (record { place = caller; name = x ∷ ws })) (sym (joined_again name rest more)) ∙ ap (longer more) h

kind_longer : (more : Path) (p : ProgramTree) (at : Place) (k : Kind) (x : Text) (rest : Path) (l : Look) → step_kind p at k x rest ≡ Some l →
    step_kind p at k x (rest ++ more) ≡ longer more (Some l)
kind_longer more p [] (a_formal i) x rest l h = cc
kind_longer more p (own ∷ caller) (a_formal i) x rest l h = plain_longer more caller (plain_of (actual_of_kind (kind_at (module_at p caller) own) i)) rest l h
kind_longer more p at (a_variable role what) x rest l h = cc
kind_longer more p at (a_define e) x rest l h = cc
kind_longer more p at (an_instance m actuals) x [] l h = cc
kind_longer more p at (an_instance m actuals) x (y ∷ rest) l h = ap (longer more) h
kind_longer more p at undeclared x rest l h = cc

step_longer : (more : Path) (p : ProgramTree) (at : Place) (name : Path) (l : Look) → step_of p at name ≡ Some l → step_of p at (name ++ more) ≡ longer more (Some l)
step_longer more p at [] l h = cc
step_longer more p at (x ∷ rest) l h = kind_longer more p at (kind_at (module_at p at) x) x rest l h

pub after_longer : (d : ℕ) (more : Path) (p : ProgramTree) (at : Place) (name : Path) (l : Look) → look_after d p at name ≡ Some l →
    look_after d p at (name ++ more) ≡ longer more (Some l)
after_longer zero more p at name l h = ap (longer more) h
after_longer (suc d) more p at name l h =
    let s : (k : Look) × (look_after d p at name ≡ Some k) × (step_of p k.place k.name ≡ Some l) = step_some p (look_after d p at name) l h in
    ap (step_on p) (after_longer d more p at name s.0 s.1) ∙ step_longer more p s.0.place s.0.name l s.2

-- a formal that rule 11 refuses means nothing, whatever follows it
pub one_later : (n d : ℕ) (p : ProgramTree) (at : Place) (name : Path) (m : Option Meaning) → means_in (d + n) p at name ≡ None → means_in n p at name ≡ m → m ≡ None
one_later n d p at name None h e = refl
one_later n d p at name (Some m) h e =
    let on : means_in (d + n) p at name ≡ Some m = means_on d n (d + n) p at name m (omega arith) e in
    sym on ∙ h

pub comes_back_nothing : (n : ℕ) (p : ProgramTree) (at : Place) (x : Text) → ComesBack p at x → (more : Path) → means_in n p at (x ∷ more) ≡ None
comes_back_nothing zero p at x back more = refl
comes_back_nothing (suc n) p at x back more =
    let around : means_in (suc back.0 + n) p at (x ∷ more) ≡ means_in n p at (x ∷ (back.1 ++ more)) =
    after_means (suc back.0) n p at (x ∷ more) (record { place = at; name = x ∷ (back.1 ++ more) })
    (after_longer (suc back.0) more p at (x ∷ []) (record { place = at; name = x ∷ back.1 }) back.2) in
    let later : suc back.0 + n ≡ back.0 + suc n = omega arith in
    let none : means_in (back.0 + suc n) p at (x ∷ more) ≡ None =
    ap (λ j. means_in j p at (x ∷ more)) (sym later) ∙ around ∙ comes_back_nothing n p at x back (back.1 ++ more) in
    one_later (suc n) back.0 p at (x ∷ more) (means_in (suc n) p at (x ∷ more)) none refl

-- and so does a name that meets one
pub meets_loop_nothing : (p : ProgramTree) (at : Place) (name : Path) → MeetsLoop p at name → (n : ℕ) → means_in n p at name ≡ None
meets_loop_nothing p at name h n =
    one_later n h.0 p at name (means_in n p at name)
    (after_means h.0 n p at name (record { place = h.1; name = h.2 ∷ h.3 }) h.4 ∙ comes_back_nothing n p h.1 h.2 h.5 h.3) refl
