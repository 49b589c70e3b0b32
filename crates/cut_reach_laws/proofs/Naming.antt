-- Variables and symbols with new names: the variables keep different names, and the symbols stay different.
use Rattle.std.proofs.Common.{◌≡◌, ◌≢◌, ◌⊎◌, inl, inr, ℕ, zero, suc, ◌+◌, ◌≤◌, List, [], ◌∷◌, ◌++◌, length, Some, reverse, refl, sym, ◌∙◌, ap, subst, arith}
use Rattle.std.specs.Prelude.{slice_get, pos}
use Rattle.smv_language.specs.declared.program.Member.TheVariants as member
use Rattle.smv_language.specs.Language.{Text, DeclaredTree, boolean, range, members, IsName, AreNames, Each, IsWritableType, FlatVariable, FlatFormula, FlatModel, AreApart}
use Rattle.smv_flat_laws.specs.History.{Mode}
use Rattle.smv_flat_laws.proofs.Conditions.{each_at}
use Rattle.fault_cause_laws.specs.Additions.{with_addition}
use Rattle.fault_cause_laws.proofs.Columns.{one_added}
use Rattle.cut_text_laws.specs.Laws.{IsNamed}
use Rattle.fault_cause_laws.specs.Causes.{CommonCause}
use Rattle.fault_cause_laws.specs.StagedModel.{age_name, event_name, quiet_name, now_name, hit_name, own_name, none_name, self_name, added_variable, stands_of, age_at_first, age_at_step, with_age, event_at_each, with_event, hit_at_first, landed_at_each, hit_at_step, with_hit, with_hits, with_cause, with_each_cause, age_numbers, windows_on, joined, own_at_first, own_at_step, with_own, with_owns, with_causes}
use Rattle.cut_reach_laws.specs.Names.{AreDistinct, IsNewName, hit_names_of, names_added_by, names_of_each, own_names_from, names_added, AreNewNames}
use Rattle.base_values.proofs.ListLaws.{push_get}

-- ---- places of lists

join_get : {A : Type 0} (xs ys : List A) (i : ℕ) (x : A) → slice_get (xs ++ ys) i ≡ Some x → (slice_get xs i ≡ Some x) ⊎ ((k : ℕ) × (i ≡ length xs + k) × (slice_get ys k ≡ Some x))
join_get [] ys i x e = inr (i, omega arith, e)
join_get (y ∷ xs) ys zero x e = inl e
join_get (y ∷ xs) ys (suc i) x e = elim (join_get xs ys i x e) [ inl h ↦ inl h | inr h ↦ inr (h.0, (let g : suc i ≡ suc (length xs) + h.0 = omega (arith, h.1) in g), h.2) ]

pub each_of : {A : Type 0} (P : A → Type 0) (xs ys : List A) → Each P (xs ++ ys) → Each P xs × Each P ys
each_of P [] ys h = (tt, h)
each_of P (x ∷ xs) ys h = let rest = each_of P xs ys h.1 in ((h.0, rest.0), rest.1)

-- ---- different texts

distinct_first : (xs ys : List Text) → AreDistinct (xs ++ ys) → AreDistinct xs
distinct_first [] ys h = tt
distinct_first (x ∷ xs) ys h = ((each_of (λ y. x ≢ y) xs ys h.0).0, distinct_first xs ys h.1)

distinct_second : (xs ys : List Text) → AreDistinct (xs ++ ys) → AreDistinct ys
distinct_second [] ys h = h
distinct_second (x ∷ xs) ys h = distinct_second xs ys h.1

-- none of the first is one of the second
distinct_between : (xs ys : List Text) (i : ℕ) (x : Text) → AreDistinct (xs ++ ys) → slice_get xs i ≡ Some x → Each (λ y. x ≢ y) ys
distinct_between [] ys i x h e = cc
distinct_between (z ∷ xs) ys zero x h e = let same : z ≡ x = cc in subst (λ t. Each (λ y. t ≢ y) ys) same (each_of (λ y. z ≢ y) xs ys h.0).1
distinct_between (z ∷ xs) ys (suc i) x h e = distinct_between xs ys i x h.1 e

distinct_apart : (xs : List Text) → AreDistinct xs → AreApart xs
distinct_apart [] h i j x e g = cc
distinct_apart (y ∷ xs) h zero zero x e g = refl
distinct_apart (y ∷ xs) h zero (suc j) x e g = let same : y ≡ x = cc in absurd (each_at (λ z. y ≢ z) xs j x h.0 g same)
distinct_apart (y ∷ xs) h (suc i) zero x e g = let same : y ≡ x = cc in absurd (each_at (λ z. y ≢ z) xs i x h.0 e same)
distinct_apart (y ∷ xs) h (suc i) (suc j) x e g = ap suc (distinct_apart xs h.1 i j x e g)

-- ---- one variable more, with symbols

-- the model's variables have names, its symbols differ, and these names are left
pub record NamedWith (n : FlatModel) (left : List Text) : Type 0 where
  pub named : IsNamed n
  pub apart : AreApart n.symbols
  pub new : AreNewNames n left

module _ (n : FlatModel) (x : Text) (d : DeclaredTree) (ys : List Text) (f g h : List FlatFormula) (left : List Text) (is : NamedWith n (x ∷ (ys ++ left))) (type : IsWritableType d) where
  abbrev variable : FlatVariable
  variable = added_variable x d

  abbrev made : FlatModel
  made = with_addition n (one_added variable ys f g h)

  the_new : IsNewName n x
  the_new = is.new.new.0

  rest_new : Each (IsNewName n) ys × Each (IsNewName n) left
  rest_new = each_of (IsNewName n) ys left is.new.new.1

  made_named : IsNamed made
  made_named = record {
    names = λ i v e. names i v (push_get n.variables variable i v e);
    apart = λ i j v w e k place name. apart i j v w (push_get n.variables variable i v e) (push_get n.variables variable j w k) place name;
    types = λ i v e. types i v (push_get n.variables variable i v e);
  }
    where
      names : (i : ℕ) (v : FlatVariable) → (slice_get n.variables i ≡ Some v) ⊎ ((i ≡ length n.variables) × (variable ≡ v)) → AreNames (reverse (v.name ∷ v.place))
      names i v (inl e) = is.named.names i v e
      names i v (inr e) = subst (λ (w : FlatVariable). AreNames (reverse (w.name ∷ w.place))) e.1 (is.new.words.0, tt)

      types : (i : ℕ) (v : FlatVariable) → (slice_get n.variables i ≡ Some v) ⊎ ((i ≡ length n.variables) × (variable ≡ v)) → IsWritableType v.declared
      types i v (inl e) = is.named.types i v e
      types i v (inr e) = subst (λ (w : FlatVariable). IsWritableType w.declared) e.1 type

      apart : (i j : ℕ) (v w : FlatVariable) → (slice_get n.variables i ≡ Some v) ⊎ ((i ≡ length n.variables) × (variable ≡ v)) → (slice_get n.variables j ≡ Some w) ⊎ ((j ≡ length n.variables) × (variable ≡ w)) →
          v.place ≡ w.place → v.name ≡ w.name → i ≡ j
      apart i j v w (inl e) (inl k) place name = is.named.apart i j v w e k place name
      apart i j v w (inl e) (inr k) place name =
          absurd (the_new.no_variable i v e (place ∙ sym (ap (λ (u : FlatVariable). u.place) k.1)) (name ∙ sym (ap (λ (u : FlatVariable). u.name) k.1)))
      apart i j v w (inr e) (inl k) place name =
          absurd (the_new.no_variable j w k (sym place ∙ sym (ap (λ (u : FlatVariable). u.place) e.1)) (sym name ∙ sym (ap (λ (u : FlatVariable). u.name) e.1)))
      apart i j v w (inr e) (inr k) place name = e.0 ∙ sym k.0

  made_apart : AreApart made.symbols
  made_apart i j y e k = by (join_get n.symbols ys i y e) (join_get n.symbols ys j y k)
    where
      by : (slice_get n.symbols i ≡ Some y) ⊎ ((l : ℕ) × (i ≡ length n.symbols + l) × (slice_get ys l ≡ Some y)) → (slice_get n.symbols j ≡ Some y) ⊎ ((l : ℕ) × (j ≡ length n.symbols + l) × (slice_get ys l ≡ Some y)) → i ≡ j
      by (inl a) (inl b) = is.apart i j y a b
      by (inl a) (inr b) = absurd ((each_at (IsNewName n) ys b.0 y rest_new.0 b.2).no_symbol i a)
      by (inr a) (inl b) = absurd ((each_at (IsNewName n) ys a.0 y rest_new.0 a.2).no_symbol j b)
      by (inr a) (inr b) =
          let same : a.0 ≡ b.0 = distinct_apart ys (distinct_first ys left is.new.distinct.1) a.0 b.0 y a.2 b.2 in
          omega (arith, same, a.1, b.1)

  still_new : (y : Text) → IsNewName n y → x ≢ y → ((l : ℕ) → slice_get ys l ≡ Some y → ⊥) → IsNewName made y
  still_new y new other none = record {
    no_variable = λ i v e place name. variable_case i v (push_get n.variables variable i v e) place name;
    no_symbol = λ i e. symbol_case i (join_get n.symbols ys i y e);
  }
    where
      variable_case : (i : ℕ) (v : FlatVariable) → (slice_get n.variables i ≡ Some v) ⊎ ((i ≡ length n.variables) × (variable ≡ v)) → v.place ≡ [] → v.name ≡ y → ⊥
      variable_case i v (inl e) place name = new.no_variable i v e place name
      variable_case i v (inr e) place name = other (ap (λ (u : FlatVariable). u.name) e.1 ∙ name)

      symbol_case : (i : ℕ) → (slice_get n.symbols i ≡ Some y) ⊎ ((l : ℕ) × (i ≡ length n.symbols + l) × (slice_get ys l ≡ Some y)) → ⊥
      symbol_case i (inl e) = new.no_symbol i e
      symbol_case i (inr e) = none e.0 e.2

  all_still_new : (zs : List Text) → Each (IsNewName n) zs → Each (λ y. x ≢ y) zs → ((l : ℕ) (y : Text) → slice_get ys l ≡ Some y → Each (λ z. y ≢ z) zs) → Each (IsNewName made) zs
  all_still_new [] new other none = tt
  all_still_new (z ∷ zs) new other none =
      (still_new z new.0 other.0 (λ l e. (none l z e).0 refl), all_still_new zs new.1 other.1 (λ l y e. (none l y e).1))

  pub named_more : NamedWith made left
  named_more = record {
    named = made_named;
    apart = made_apart;
    new = record {
      new = all_still_new left rest_new.1 (each_of (λ y. x ≢ y) ys left is.new.distinct.0).1 (λ l y e. distinct_between ys left l y is.new.distinct.1 e);
      distinct = distinct_second ys left is.new.distinct.1;
      words = (each_of IsName ys left is.new.words.1).1;
    };
  }

-- ---- the names of causes, one after another

two_writable : (x y : Text) → IsName x → IsName y → IsWritableType (members (member.Symbol x ∷ member.Symbol y ∷ []))
two_writable x y h g = ((λ e. cc), (h, (g, tt)))

module _ (fs : List Mode) (c : CommonCause) (small : c.to ≤ 100) where
  aged_named : (n : FlatModel) (left : List Text) → NamedWith n (age_name c.name ∷ left) → NamedWith (with_age n c) left
  aged_named n left is =
      named_more n (age_name c.name) (range (pos 0) (pos (c.to + 2))) [] (age_at_first (length n.variables) ∷ []) [] (age_at_step c (length n.variables) ∷ []) left is (omega arith, omega (arith, small))

  evented_named : (n : FlatModel) (age : ℕ) (left : List Text) → NamedWith n (event_name c.name ∷ quiet_name c.name ∷ now_name c.name ∷ left) → NamedWith (with_event n c age) left
  evented_named n age left is =
      named_more n (event_name c.name) (members (member.Symbol (quiet_name c.name) ∷ member.Symbol (now_name c.name) ∷ [])) (quiet_name c.name ∷ now_name c.name ∷ []) []
      (event_at_each (length n.variables) age (length n.symbols) ∷ []) [] left is (two_writable (quiet_name c.name) (now_name c.name) is.new.words.1.0 is.new.words.1.1.0)

  hits_named : (is : List ℕ) (n : FlatModel) (age k : ℕ) (left : List Text) → NamedWith n (hit_names_of c.name k is ++ left) → NamedWith (with_hits fs c age k is n) left
  hits_named [] n age k left all = all
  hits_named (i ∷ is) n age k left all =
      hits_named is (with_hit fs c age k i n) age (suc k) left
      (named_more n (hit_name c.name k) boolean [] (hit_at_first fs c (length n.variables) age i ∷ []) (landed_at_each c (length n.variables) age ∷ []) (hit_at_step fs c (length n.variables) age i ∷ [])
      (hit_names_of c.name (suc k) is ++ left) all tt)

  cause_named : (n : FlatModel) (left : List Text) → NamedWith n (names_added_by c ++ left) → NamedWith (with_cause fs n c) left
  cause_named n left is =
      hits_named c.strikes (with_event (with_age n c) c (length n.variables)) (length n.variables) 1 left
      (evented_named (with_age n c) (length n.variables) (hit_names_of c.name 1 c.strikes ++ left) (aged_named n (event_name c.name ∷ quiet_name c.name ∷ now_name c.name ∷ (hit_names_of c.name 1 c.strikes ++ left)) is))

module _ (fs : List Mode) where
  causes_named : (cs : List CommonCause) (n : FlatModel) (left : List Text) → Each (λ c. c.to ≤ 100) cs → NamedWith n (names_of_each cs left) → NamedWith (with_each_cause fs n cs) left
  causes_named [] n left small is = is
  causes_named (c ∷ cs) n left small is = causes_named cs (with_cause fs n c) left small.1 (cause_named fs c small.0 n (names_of_each cs left) is)

  module _ (cs : List CommonCause) (ages : List ℕ) where
    owns_named : (more : List Mode) (n : FlatModel) (i : ℕ) → NamedWith n (own_names_from i more) → NamedWith (with_owns fs cs ages i more n) []
    owns_named [] n i is = is
    owns_named (f ∷ more) n i is =
        owns_named more (with_own fs cs ages i n) (suc i)
        (named_more n (own_name i) (members (member.Symbol (none_name i) ∷ member.Symbol (self_name i) ∷ [])) (none_name i ∷ self_name i ∷ [])
        (own_at_first (stands_of fs i) (joined (windows_on i cs ages)) (length n.variables) (length n.symbols) ∷ []) []
        (own_at_step (stands_of fs i) (joined (windows_on i cs ages)) (length n.variables) (length n.symbols) ∷ []) (own_names_from (suc i) more) is
        (two_writable (none_name i) (self_name i) is.new.words.1.0 is.new.words.1.1.0))

  pub staged_named : (m : FlatModel) (cs : List CommonCause) → Each (λ c. c.to ≤ 100) cs → NamedWith m (names_added fs cs) → NamedWith (with_causes m fs cs) []
  staged_named m cs small is = owns_named cs (age_numbers (length m.variables) cs) fs (with_each_cause fs m cs) 1 (causes_named cs m (own_names_from 1 fs) small is)
