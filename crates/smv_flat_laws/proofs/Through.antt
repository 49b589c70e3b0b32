-- A look-up with further parts goes through the instance that the first parts mean.
use Rattle.std.proofs.Common.{◌≡◌, ℕ, zero, suc, ◌+◌, arith, Bool, true, false, [], ◌∷◌, ◌++◌, Option, Some, None, refl, sym, ap, subst}
use Rattle.std.specs.Prelude.{if◌then◌else◌}
use Rattle.smv_language.specs.ProgramTree.{Text, Path, Formula, ProgramTree}
use Rattle.smv_language.specs.Scope.{Place, Key, actual_key, Kind, a_formal, a_variable, a_define, an_instance, undeclared, Meaning, an_instance_at, plain_name, through_plain, through_actual, by_kind, kind_at, module_at, actual_of_kind, means_in, is_symbol, a_symbol}
use Rattle.smv_flat_laws.proofs.Resolving.{means_on}

pub joined_again : (xs ys zs : Path) → (xs ++ ys) ++ zs ≡ xs ++ (ys ++ zs)
joined_again [] ys zs = refl
joined_again (x ∷ xs) ys zs = ap (λ ws. x ∷ ws) (joined_again xs ys zs)

-- the first parts mean an instance, and the rest is looked up in it
pub record Through (n : ℕ) (p : ProgramTree) (at : Place) (name rest : Path) (meaning : Meaning) : Type 0 where
  pub inside : Place
  pub means : means_in n p at name ≡ Some (an_instance_at inside)
  pub rest_means : means_in n p inside rest ≡ Some meaning

one_more : (n : ℕ) (p : ProgramTree) (at : Place) (name : Path) (m : Meaning) → means_in n p at name ≡ Some m → means_in (suc n) p at name ≡ Some m
one_more n p at name m h = means_on 1 n (suc n) p at name m (omega arith) h

module _ (n : ℕ) (p : ProgramTree) (goes : (at : Place) (x : Text) (more : Path) (y : Text) (rest : Path) (m : Meaning) → means_in n p at (x ∷ (more ++ y ∷ rest)) ≡ Some m → Through n p at (x ∷ more) (y ∷ rest) m) where
  -- what a look-up of this kind finds
  abbrev Finds : Place → Kind → Text → Path → Text → Path → Meaning → Type 0
  Finds at k x more y rest m =
      (inside : Place) × (by_kind (means_in n p) p at k x more ≡ Some (an_instance_at inside)) × (means_in (suc n) p inside (y ∷ rest) ≡ Some m)

  by_plain : (key : Key) (caller : Place) (e : Formula) (o : Option Path) (more : Path) (y : Text) (rest : Path) (m : Meaning) →
      through_plain (means_in n p) key caller e o (more ++ y ∷ rest) ≡ Some m →
      (inside : Place) × (through_plain (means_in n p) key caller e o more ≡ Some (an_instance_at inside)) × (means_in (suc n) p inside (y ∷ rest) ≡ Some m)
  by_plain key caller e (Some []) more y rest m h = cc
  by_plain key caller e (Some (z ∷ name)) more y rest m h =
      let t : Through n p caller (z ∷ (name ++ more)) (y ∷ rest) m =
      goes caller z (name ++ more) y rest m (subst (λ ws. means_in n p caller (z ∷ ws) ≡ Some m) (sym (joined_again name more (y ∷ rest))) h) in
      (t.inside, t.means, one_more n p t.inside (y ∷ rest) m t.rest_means)
  by_plain key caller e None [] y rest m h = cc
  by_plain key caller e None (x ∷ more) y rest m h = cc

  by_actual : (key : Key) (caller : Place) (o : Option Formula) (more : Path) (y : Text) (rest : Path) (m : Meaning) →
      through_actual (means_in n p) key caller o (more ++ y ∷ rest) ≡ Some m →
      (inside : Place) × (through_actual (means_in n p) key caller o more ≡ Some (an_instance_at inside)) × (means_in (suc n) p inside (y ∷ rest) ≡ Some m)
  by_actual key caller None more y rest m h = cc
  by_actual key caller (Some e) more y rest m h = by_plain key caller e (plain_name e) more y rest m h

  by_kinds : (at : Place) (k : Kind) (x : Text) (more : Path) (y : Text) (rest : Path) (m : Meaning) → by_kind (means_in n p) p at k x (more ++ y ∷ rest) ≡ Some m → Finds at k x more y rest m
  by_kinds [] (a_formal i) x more y rest m h = cc
  by_kinds (own ∷ caller) (a_formal i) x more y rest m h = by_actual (actual_key (own ∷ caller) i) caller (actual_of_kind (kind_at (module_at p caller) own) i) more y rest m h
  by_kinds at (a_variable role what) x [] y rest m h = cc
  by_kinds at (a_variable role what) x (z ∷ more) y rest m h = cc
  by_kinds at (a_define e) x [] y rest m h = cc
  by_kinds at (a_define e) x (z ∷ more) y rest m h = cc
  by_kinds at (an_instance l actuals) x [] y rest m h = (x ∷ at, refl, one_more n p (x ∷ at) (y ∷ rest) m h)
  by_kinds at (an_instance l actuals) x (z ∷ more) y rest m h =
      let t : Through n p (x ∷ at) (z ∷ more) (y ∷ rest) m = goes (x ∷ at) z more y rest m h in
      (t.inside, t.means, one_more n p t.inside (y ∷ rest) m t.rest_means)
  by_kinds at undeclared x [] y rest m h = cc
  by_kinds at undeclared x (z ∷ more) y rest m h = cc

pub through : (n : ℕ) (p : ProgramTree) (at : Place) (x : Text) (more : Path) (y : Text) (rest : Path) (m : Meaning) →
    means_in n p at (x ∷ (more ++ y ∷ rest)) ≡ Some m → Through n p at (x ∷ more) (y ∷ rest) m
through zero p at x more y rest m h = cc
through (suc n) p at x more y rest m h =
    let f : (inside : Place) × (by_kind (means_in n p) p at (kind_at (module_at p at) x) x more ≡ Some (an_instance_at inside)) × (means_in (suc n) p inside (y ∷ rest) ≡ Some m) =
    by_kinds n p (through n p) at (kind_at (module_at p at) x) x more y rest m h in
    record { inside = f.0; means = f.1; rest_means = f.2 }

-- and back: what is looked up in the instance that the first parts mean is what the whole name means
module _ (k : ℕ) (p : ProgramTree) (inside : Place) (y : Text) (rest : Path) (m : Meaning) (inner : means_in k p inside (y ∷ rest) ≡ Some m) where
  abbrev Comes : ℕ → Type 0
  Comes n = (at : Place) (name : Path) → means_in n p at name ≡ Some (an_instance_at inside) → means_in (n + k) p at (name ++ y ∷ rest) ≡ Some m

  plain_back : (n : ℕ) → Comes n → (key : Key) (caller : Place) (e : Formula) (o : Option Path) (more : Path) →
      through_plain (means_in n p) key caller e o more ≡ Some (an_instance_at inside) → through_plain (means_in (n + k) p) key caller e o (more ++ y ∷ rest) ≡ Some m
  plain_back n comes key caller e (Some []) more h = cc
  plain_back n comes key caller e (Some (z ∷ name)) more h =
      subst (λ ws. means_in (n + k) p caller (z ∷ ws) ≡ Some m) (joined_again name more (y ∷ rest)) (comes caller (z ∷ (name ++ more)) h)
  plain_back n comes key caller e None [] h = cc
  plain_back n comes key caller e None (z ∷ more) h = cc

  actual_back : (n : ℕ) → Comes n → (key : Key) (caller : Place) (o : Option Formula) (more : Path) →
      through_actual (means_in n p) key caller o more ≡ Some (an_instance_at inside) → through_actual (means_in (n + k) p) key caller o (more ++ y ∷ rest) ≡ Some m
  actual_back n comes key caller None more h = cc
  actual_back n comes key caller (Some e) more h = plain_back n comes key caller e (plain_name e) more h

  same_inside : (at : Place) → Some (an_instance_at at) ≡ Some (an_instance_at inside) → inside ≡ at
  same_inside at e = cc

  kind_back : (n : ℕ) → Comes n → (at : Place) (kind : Kind) (x : Text) (more : Path) →
      by_kind (means_in n p) p at kind x more ≡ Some (an_instance_at inside) → by_kind (means_in (n + k) p) p at kind x (more ++ y ∷ rest) ≡ Some m
  kind_back n comes [] (a_formal i) x more h = cc
  kind_back n comes (own ∷ caller) (a_formal i) x more h = actual_back n comes (actual_key (own ∷ caller) i) caller (actual_of_kind (kind_at (module_at p caller) own) i) more h
  kind_back n comes at (a_variable role what) x [] h = cc
  kind_back n comes at (a_variable role what) x (z ∷ more) h = cc
  kind_back n comes at (a_define e) x [] h = cc
  kind_back n comes at (a_define e) x (z ∷ more) h = cc
  kind_back n comes at (an_instance l actuals) x [] h =
      subst (λ a. means_in (n + k) p a (y ∷ rest) ≡ Some m) (same_inside (x ∷ at) h) (means_on n k (n + k) p inside (y ∷ rest) m (omega arith) inner)
  kind_back n comes at (an_instance l actuals) x (z ∷ more) h = comes (x ∷ at) (z ∷ more) h
  kind_back n comes at undeclared x [] h = no_symbol (is_symbol p x) h
    where
      no_symbol : (b : Bool) → (if b then Some (a_symbol x) else None) ≡ Some (an_instance_at inside) → by_kind (means_in (n + k) p) p at undeclared x (y ∷ rest) ≡ Some m
      no_symbol true h = cc
      no_symbol false h = cc
  kind_back n comes at undeclared x (z ∷ more) h = cc

  pub through_back : (n : ℕ) (at : Place) (name : Path) → means_in n p at name ≡ Some (an_instance_at inside) → means_in (n + k) p at (name ++ y ∷ rest) ≡ Some m
  through_back zero at name h = cc
  through_back (suc n) at [] h = cc
  through_back (suc n) at (x ∷ more) h =
      let one : suc (n + k) ≡ suc n + k = omega arith in
      subst (λ j. means_in j p at (x ∷ (more ++ y ∷ rest)) ≡ Some m) one (kind_back n (through_back n) at (kind_at (module_at p at) x) x more h)
