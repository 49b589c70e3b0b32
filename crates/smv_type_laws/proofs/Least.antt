-- The least of rules.
use Rattle.std.proofs.Common.{slice_get, ◌≡◌, ℕ, Bool, true, false, cond, nat_lt, List, [], ◌∷◌, ◌++◌, Option, Some, None, refl, sym, ap, ◌∙◌, arith}
use Rattle.std.proofs.lemmas.Bool.{ltb-true, ltb-false}
use Rattle.smv_type_laws.specs.ExpressionKinds.{KindRule, number_of}
use Rattle.smv_type_laws.specs.Models.{lesser, least_after, least}

-- the least of two answers
abbrev pub least_of_both : Option KindRule → Option KindRule → Option KindRule
least_of_both None b = b
least_of_both (Some r) b = least_after r b

second : (r q : KindRule) → nat_lt (number_of q) (number_of r) ≡ true → lesser r q ≡ q
second r q e = ap (λ t. cond t q r) e

first : (r q : KindRule) → nat_lt (number_of q) (number_of r) ≡ false → lesser r q ≡ r
first r q e = ap (λ t. cond t q r) e

lesser_again : (r q p : KindRule) → lesser r (lesser q p) ≡ lesser (lesser r q) p
lesser_again r q p = by (nat_lt (number_of q) (number_of r)) refl (nat_lt (number_of p) (number_of q)) refl (nat_lt (number_of p) (number_of r)) refl
  where
    by : (a : Bool) → nat_lt (number_of q) (number_of r) ≡ a → (b : Bool) → nat_lt (number_of p) (number_of q) ≡ b → (c : Bool) → nat_lt (number_of p) (number_of r) ≡ c →
        lesser r (lesser q p) ≡ lesser (lesser r q) p
    by true e true f true g = ap (lesser r) (second q p f) ∙ second r p g ∙ sym (ap (λ z. lesser z p) (second r q e) ∙ second q p f)
    by true e true f false g = absurd (omega (arith, ltb-true _ _ e, ltb-true _ _ f, ltb-false _ _ g))
    by true e false f c g = ap (lesser r) (first q p f) ∙ second r q e ∙ sym (ap (λ z. lesser z p) (second r q e) ∙ first q p f)
    by false e true f c g = ap (lesser r) (second q p f) ∙ sym (ap (λ z. lesser z p) (first r q e))
    by false e false f true g = absurd (omega (arith, ltb-false _ _ e, ltb-false _ _ f, ltb-true _ _ g))
    by false e false f false g = ap (lesser r) (first q p f) ∙ first r q e ∙ sym (ap (λ z. lesser z p) (first r q e) ∙ first r p g)

after_both : (r : KindRule) (a b : Option KindRule) → least_after r (least_of_both a b) ≡ least_of_both (least_after r a) b
after_both r None b = refl
after_both r (Some q) None = refl
after_both r (Some q) (Some p) = ap Some (lesser_again r q p)

-- the least of joined lists is the least of both
pub least_join : (rs qs : List KindRule) → least (rs ++ qs) ≡ least_of_both (least rs) (least qs)
least_join [] qs = refl
least_join (r ∷ rs) qs = ap (least_after r) (least_join rs qs) ∙ after_both r (least rs) (least qs)

-- no rule is the least exactly where there is none
pub least_none : (rs : List KindRule) → least rs ≡ None → rs ≡ []
least_none [] e = refl
least_none (r ∷ rs) e = by (least rs) e
  where
    by : (o : Option KindRule) → least_after r o ≡ None → r ∷ rs ≡ []
    by None e' = cc
    by (Some q) e' = cc
