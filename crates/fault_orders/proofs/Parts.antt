-- What adding a boolean leaves as it was, and the parts of a set one by one.
use Rattle.std.proofs.Common.{◌≡◌, ℕ, zero, suc, ◌+◌, ◌-◌, ◌<◌, Bool, List, ◌++◌, [], if◌then◌else◌, ap, ◌∙◌, arith}
use Rattle.std.proofs.lemmas.List.{append-nil}
use Rattle.smv_language.specs.declared.expr.Op.TheVariants as op
use Rattle.smv_language.specs.Language.{Tree, binary, not_of, FlatLeaf}
use Rattle.cut_right_laws.specs.Sets.{has_number}
use Rattle.fault_orders.specs.Stage.{with_set, now_of}

pub nothing_more : {A : Type 0} (l : List A) → l ++ [] ≡ l
nothing_more l = append-nil l

-- of one fault more
pub with_more : (bit i n : ℕ) (set : List ℕ) (e : Tree FlatLeaf) → 0 < n →
    with_set (bit + 1) (i + 1) (n - 1) set (binary op.And e (if has_number set i then now_of bit else not_of (now_of bit))) ≡ with_set bit i n set e
with_more bit i zero set e some = absurd (omega arith)
with_more bit i (suc n) set e some =
    let at : bit + 1 ≡ suc bit = omega arith in
    let number : i + 1 ≡ suc i = omega arith in
    let left : suc n - 1 ≡ n = omega arith in
    let part : Tree FlatLeaf = if has_number set i then now_of bit else not_of (now_of bit) in
    ap (λ b. with_set b (i + 1) (suc n - 1) set (binary op.And e part)) at
    ∙ ap (λ j. with_set (suc bit) j (suc n - 1) set (binary op.And e part)) number
    ∙ ap (λ k. with_set (suc bit) (suc i) k set (binary op.And e part)) left

-- what the loop over the faults makes of one fault more, by what its calls answer
pub part_more : (bit faults k number : ℕ) (set : List ℕ) (b : Bool) (e part made whole : Tree FlatLeaf) → k < faults → number ≡ k → b ≡ has_number set (number + 1) →
    part ≡ (if b then now_of (bit + k) else not_of (now_of (bit + k))) → made ≡ binary op.And e part →
    with_set (bit + k) (1 + k) (faults - k) set e ≡ whole → with_set (bit + (k + 1)) (1 + (k + 1)) (faults - (k + 1)) set made ≡ whole
part_more bit faults k number set b e part made whole within is_number is_b is_part is_made so_far =
    let at : bit + (k + 1) ≡ bit + k + 1 = omega arith in
    let next : 1 + (k + 1) ≡ 1 + k + 1 = omega arith in
    let left : faults - (k + 1) ≡ faults - k - 1 = omega arith in
    let some : 0 < faults - k = omega (arith, within) in
    let counted : number + 1 ≡ 1 + k = omega (arith, is_number) in
    let here : made ≡ binary op.And e (if has_number set (1 + k) then now_of (bit + k) else not_of (now_of (bit + k))) =
    is_made ∙ ap (binary op.And e) (is_part ∙ ap (λ (c : Bool). if c then now_of (bit + k) else not_of (now_of (bit + k))) (is_b ∙ ap (has_number set) counted)) in
    ap (λ x. with_set x (1 + (k + 1)) (faults - (k + 1)) set made) at
    ∙ ap (λ x. with_set (bit + k + 1) x (faults - (k + 1)) set made) next
    ∙ ap (λ x. with_set (bit + k + 1) (1 + k + 1) x set made) left
    ∙ ap (with_set (bit + k + 1) (1 + k + 1) (faults - k - 1) set) here
    ∙ with_more (bit + k) (1 + k) (faults - k) set e some
    ∙ so_far
