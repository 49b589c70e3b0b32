-- Steps of the loop that adds stages.
use Rattle.std.proofs.Common.{◌≡◌, ℕ, suc, ◌+◌, ◌-◌, ◌<◌, Bool, refl, sym, ◌∙◌, ap, arith}
use Rattle.fault_generator.specs.Generator.{next_number, is_on_rail_a, rails_after, Rails, with_stage, with_stages}

rest_of : (i stages : ℕ) → i < stages → stages - i ≡ suc (stages - (i + 1))
rest_of i stages h = omega (arith, h)

next_place : (j : ℕ) → j + 1 ≡ suc j
next_place j = omega arith

-- so many stages are one and those after it
one_more : (k seed j : ℕ) (rails : Rails) → with_stages (rails_after (suc k) seed) j rails ≡ with_stages (rails_after k (next_number seed)) (suc j) (with_stage (is_on_rail_a (next_number seed)) j rails)
one_more k seed j rails = refl

-- with a stage, those that are left after it are all of them
pub stage_on : (i stages seed next : ℕ) (on_a : Bool) (rails now whole : Rails) → i < stages → next ≡ next_number seed → on_a ≡ is_on_rail_a next → now ≡ with_stage on_a (i + 1) rails →
    with_stages (rails_after (stages - i) seed) (i + 1) rails ≡ whole → with_stages (rails_after (stages - (i + 1)) next) (i + 1 + 1) now ≡ whole
stage_on i stages seed next on_a rails now whole h n o e w =
    let on : on_a ≡ is_on_rail_a (next_number seed) = o ∙ ap is_on_rail_a n in
    let here : now ≡ with_stage (is_on_rail_a (next_number seed)) (i + 1) rails = e ∙ ap (λ b. with_stage b (i + 1) rails) on in
    let left : with_stages (rails_after (stages - (i + 1)) next) (i + 1 + 1) now ≡ with_stages (rails_after (stages - (i + 1)) (next_number seed)) (suc (i + 1)) (with_stage (is_on_rail_a (next_number seed)) (i + 1) rails) =
    ap (λ m. with_stages (rails_after (stages - (i + 1)) m) (i + 1 + 1) now) n ∙ ap (with_stages (rails_after (stages - (i + 1)) (next_number seed)) (i + 1 + 1)) here
    ∙ ap (λ k. with_stages (rails_after (stages - (i + 1)) (next_number seed)) k (with_stage (is_on_rail_a (next_number seed)) (i + 1) rails)) (next_place (i + 1)) in
    let all : with_stages (rails_after (suc (stages - (i + 1))) seed) (i + 1) rails ≡ whole = ap (λ k. with_stages (rails_after k seed) (i + 1) rails) (sym (rest_of i stages h)) ∙ w in
    left ∙ (sym (one_more (stages - (i + 1)) seed (i + 1) rails) ∙ all)
