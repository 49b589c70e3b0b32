-- Least values lie in their types.
use Rattle.std.proofs.Common.{◌≡◌, ℕ, ◌<◌, ℤ, pos, negsuc, nat_lt, Bool, true, false, ◌||◌, List, [], ◌∷◌, refl, ap, arith, eq-eqb, ltb-true}
use Rattle.std.specs.Prelude.{IsTrue, if◌then◌else◌}
use Rattle.smv_language.specs.declared.program.Member.{Member}
use Rattle.smv_language.specs.declared.program.Member.TheVariants as member
use Rattle.smv_language.specs.Language.{Text, DeclaredTree, boolean, range, members, instance, symbol, opposite, same_int, at_most, same_text, Role, state, input, frozen_role, is_member, in_domain, value_of_member}
use Rattle.smv_language.specs.Values.{number}
use Rattle.smv_language.proofs.ValueLaws.{same_text_refl}
use Rattle.smv_flat_laws.specs.FlatTrace.{AreInDomains}
use Rattle.smv_type_laws.specs.LeastValues.{is_less, least_member, least_value, least_values, HasValues, by_role, LeastValuesLie, MixedValuesLie, LeastInputsServe}
use Rattle.std.proofs.lemmas.Bool.{or_left, or_right}

pub same_int_self : (n : ℤ) → same_int n n ≡ true
same_int_self (pos k) = eq-eqb k k refl
same_int_self (negsuc k) = eq-eqb k k refl

not_below_itself : (k : ℕ) → nat_lt k k ≡ false
not_below_itself k = by_test (nat_lt k k) refl
  where
    by_test : (b : Bool) → nat_lt k k ≡ b → nat_lt k k ≡ false
    by_test true e = let l : k < k = ltb-true k k e in absurd (omega (arith, l))
    by_test false e = e

at_most_itself : (n : ℤ) → at_most n n ≡ true
at_most_itself (pos k) = ap opposite (not_below_itself k)
at_most_itself (negsuc k) = ap opposite (not_below_itself k)

-- a member's value is one of the members'
is_one : (m : Member) (ms : List Member) → is_member (m ∷ ms) (value_of_member m) ≡ true
is_one (member.Number n) ms = or_left (same_int n n) (is_member ms (number n)) (same_int_self n)
is_one (member.Symbol x) ms = or_left (same_text x x) (is_member ms (symbol x)) (same_text_refl x)

-- and one of more members'
is_one_more : (m k : Member) (ms : List Member) → is_member ms (value_of_member k) ≡ true → is_member (m ∷ ms) (value_of_member k) ≡ true
is_one_more (member.Number n) (member.Number j) ms h = or_right (same_int n j) (is_member ms (number j)) h
is_one_more (member.Number n) (member.Symbol y) ms h = h
is_one_more (member.Symbol x) (member.Number j) ms h = h
is_one_more (member.Symbol x) (member.Symbol y) ms h = or_right (same_text x y) (is_member ms (symbol y)) h

-- passing over the second of three
is_one_beside : (m k l : Member) (ms : List Member) → is_member (m ∷ ms) (value_of_member l) ≡ true → is_member (m ∷ k ∷ ms) (value_of_member l) ≡ true
is_one_beside (member.Number n) k (member.Number j) ms h = by_first (same_int n j) h
  where
    by_first : (b : Bool) → (b || is_member ms (number j)) ≡ true → (b || is_member (k ∷ ms) (number j)) ≡ true
    by_first true e = refl
    by_first false e = is_one_more k (member.Number j) ms e
is_one_beside (member.Number n) k (member.Symbol y) ms h = is_one_more k (member.Symbol y) ms h
is_one_beside (member.Symbol x) k (member.Number j) ms h = is_one_more k (member.Number j) ms h
is_one_beside (member.Symbol x) k (member.Symbol y) ms h = by_first (same_text x y) h
  where
    by_first : (b : Bool) → (b || is_member ms (symbol y)) ≡ true → (b || is_member (k ∷ ms) (symbol y)) ≡ true
    by_first true e = refl
    by_first false e = is_one_more k (member.Symbol y) ms e

least_is_one : (symbols : List Text) (m : Member) (ms : List Member) → is_member (m ∷ ms) (value_of_member (least_member symbols m ms)) ≡ true
least_is_one symbols m [] = is_one m []
least_is_one symbols m (k ∷ ks) = by_test (is_less symbols m k) (least_is_one symbols k ks) (least_is_one symbols m ks)
  where
    by_test : (b : Bool) → is_member (k ∷ ks) (value_of_member (least_member symbols k ks)) ≡ true → is_member (m ∷ ks) (value_of_member (least_member symbols m ks)) ≡ true →
        is_member (m ∷ k ∷ ks) (value_of_member (if b then least_member symbols k ks else least_member symbols m ks)) ≡ true
    by_test true h g = is_one_more m (least_member symbols k ks) (k ∷ ks) h
    by_test false h g = is_one_beside m k (least_member symbols m ks) ks g

least_lies : (symbols : List Text) (d : DeclaredTree) → HasValues d → in_domain d (least_value symbols d) ≡ true
least_lies symbols boolean h = refl
least_lies symbols (range lo hi) h = rw (at_most_itself lo, h) refl
least_lies symbols (members []) h = absurd (omega (arith, h))
least_lies symbols (members (m ∷ ms)) h = least_is_one symbols m ms
least_lies symbols (instance m actuals) h = absurd h

pub least_values_lie : LeastValuesLie
least_values_lie symbols [] h = tt
least_values_lie symbols (x ∷ xs) h = (least_lies symbols x.declared h.0, least_values_lie symbols xs h.1)

pub mixed_values_lie : MixedValuesLie
mixed_values_lie [] [] [] h g = tt
mixed_values_lie [] [] (b ∷ w) h g = absurd g
mixed_values_lie [] (a ∷ v) w h g = absurd h
mixed_values_lie (x ∷ xs) [] w h g = absurd h
mixed_values_lie (x ∷ xs) (a ∷ v) [] h g = absurd g
mixed_values_lie (x ∷ xs) (a ∷ v) (b ∷ w) h g = (by x.role h.0 g.0, mixed_values_lie xs v w h.1 g.1)
  where
    by : (role : Role) → IsTrue (in_domain x.declared a) → IsTrue (in_domain x.declared b) → IsTrue (in_domain x.declared (by_role role a b))
    by state p q = p
    by frozen_role p q = p
    by input p q = q

pub least_inputs_serve : LeastInputsServe
least_inputs_serve m state_of inputs_of roles values v dom =
    let least : AreInDomains m.variables (least_values m.symbols m.variables) = least_values_lie m.symbols m.variables values in
    (mixed_values_lie m.variables v (least_values m.symbols m.variables) dom least, roles.state v (least_values m.symbols m.variables) dom least)
