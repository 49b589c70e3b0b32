-- What the expression against a claim gives, over known bits.
use Rattle.std.proofs.Common.{◌≡◌, ℕ, zero, suc, ◌+◌, ◌<◌, Bool, true, false, cond, ◌&&◌, ◌||◌, List, Option, Some, None, refl, ap, ◌∙◌, subst, arith}
use Rattle.std.specs.Prelude.{◌↔◌}
use Rattle.smv_language.specs.declared.expr.Op.TheVariants as op
use Rattle.smv_language.specs.Language.{Tree, binary, not_of, one, opposite, Leaves, evaluate, FlatLeaf, flat_variable}
use Rattle.smv_language.specs.Values.{truth}
use Rattle.cut_right_laws.specs.Sets.{has_number}
use Rattle.fault_cause_laws.proofs.AddedReadings.{gives_and, gives_opposite}
use Rattle.fault_orders.specs.declared.Relation.{Relation}
use Rattle.fault_orders.specs.declared.Relation.TheVariants.{Before, After, Together}
use Rattle.fault_orders.specs.Stage.{now_of, with_set, with_claim}
use Rattle.fault_orders.proofs.Begins.{against_claim}
use Rattle.smv_flat_laws.proofs.HistoryTraces.{applied_or as gives_or}
use Rattle.std.proofs.lemmas.Bool.{and_parts, and_from}

-- each bit from a number on says whether the fault is in the set
abbrev pub all_match : (ℕ → Bool) → List ℕ → ℕ → ℕ → Bool → Bool
all_match failed set i zero b = b
all_match failed set i (suc n) b = all_match failed set (suc i) n (b && cond (has_number set i) (failed i) (opposite (failed i)))

-- with what speaks against the claim, if there is one
abbrev pub claimed : Option Relation → Bool → Bool → Bool → Bool
claimed None e a b = e
claimed (Some r) e a b = e && against_claim r a b

module _ (g : Leaves FlatLeaf) where
  pub set_gives : (failed : ℕ → Bool) (set : List ℕ) (n bit i : ℕ) → ((j : ℕ) → j < n → g (flat_variable (bit + j)) ≡ Some (one (truth (failed (i + j))))) → (e : Tree FlatLeaf) (b : Bool) → evaluate g g e ≡ Some (one (truth b)) →
      evaluate g g (with_set bit i n set e) ≡ Some (one (truth (all_match failed set i n b)))
  set_gives failed set zero bit i reads e b is = is
  set_gives failed set (suc n) bit i reads e b is =
      set_gives failed set n (suc bit) (suc i)
      (λ j l.
      let x : bit + suc j ≡ suc bit + j = omega arith in
      let y : i + suc j ≡ suc i + j = omega arith in
      subst (λ z. g (flat_variable z) ≡ Some (one (truth (failed (suc i + j))))) x (reads (suc j) (omega arith) ∙ ap (λ z. Some (one (truth (failed z)))) y))
      (binary op.And e (cond (has_number set i) (now_of bit) (not_of (now_of bit)))) (b && cond (has_number set i) (failed i) (opposite (failed i)))
      (here (has_number set i))
    where
      read : g (flat_variable bit) ≡ Some (one (truth (failed i)))
      read =
          let x : bit + 0 ≡ bit = omega arith in
          let y : i + 0 ≡ i = omega arith in
          subst (λ z. g (flat_variable z) ≡ Some (one (truth (failed i)))) x (reads 0 (omega arith) ∙ ap (λ z. Some (one (truth (failed z)))) y)

      here : (h : Bool) → evaluate g g (binary op.And e (cond h (now_of bit) (not_of (now_of bit)))) ≡ Some (one (truth (b && cond h (failed i) (opposite (failed i)))))
      here true = gives_and (evaluate g g e) (g (flat_variable bit)) b (failed i) is read
      here false = gives_and (evaluate g g e) (evaluate g g (not_of (now_of bit))) b (opposite (failed i)) is (gives_opposite (g (flat_variable bit)) (failed i) read)

  pub claim_gives : (claim : Option Relation) (ahead : ℕ) (e : Tree FlatLeaf) (t a b : Bool) → evaluate g g e ≡ Some (one (truth t)) → g (flat_variable ahead) ≡ Some (one (truth a)) → g (flat_variable (suc ahead)) ≡ Some (one (truth b)) →
      evaluate g g (with_claim ahead claim e) ≡ Some (one (truth (claimed claim t a b)))
  claim_gives None ahead e t a b is x y = is
  claim_gives (Some Before) ahead e t a b is x y = gives_and (evaluate g g e) (evaluate g g (not_of (now_of ahead))) t (opposite a) is (gives_opposite (g (flat_variable ahead)) a x)
  claim_gives (Some After) ahead e t a b is x y = gives_and (evaluate g g e) (evaluate g g (not_of (now_of (suc ahead)))) t (opposite b) is (gives_opposite (g (flat_variable (suc ahead))) b y)
  claim_gives (Some Together) ahead e t a b is x y =
      gives_and (evaluate g g e) (evaluate g g (binary op.Or (now_of ahead) (now_of (suc ahead)))) t (a || b) is (gives_or (g (flat_variable ahead)) (g (flat_variable (suc ahead))) a b x y)

pub matches_iff : (failed : ℕ → Bool) (set : List ℕ) (n i : ℕ) (b : Bool) → (all_match failed set i n b ≡ true) ↔ ((b ≡ true) × ((j : ℕ) → j < n → failed (i + j) ≡ has_number set (i + j)))
matches_iff failed set zero i b = ((λ h. (h, λ j l. absurd (omega arith))), (λ h. h.0))
matches_iff failed set (suc n) i b =
    let rest : (all_match failed set (suc i) n (b && cond (has_number set i) (failed i) (opposite (failed i))) ≡ true)
    ↔ (((b && cond (has_number set i) (failed i) (opposite (failed i))) ≡ true) × ((j : ℕ) → j < n → failed (suc i + j) ≡ has_number set (suc i + j))) =
    matches_iff failed set n (suc i) (b && cond (has_number set i) (failed i) (opposite (failed i))) in (
      (λ h.
          let x : ((b && cond (has_number set i) (failed i) (opposite (failed i))) ≡ true) × ((j : ℕ) → j < n → failed (suc i + j) ≡ has_number set (suc i + j)) = rest.0 h in
          let y : (b ≡ true) × (cond (has_number set i) (failed i) (opposite (failed i)) ≡ true) = and_parts b (cond (has_number set i) (failed i) (opposite (failed i))) x.0 in
          (y.0, all_of (same (has_number set i) (failed i) y.1) x.1)),
      (λ h. rest.1 (
        and_from b (cond (has_number set i) (failed i) (opposite (failed i))) h.0
            (back (has_number set i) (failed i) (let z : i + 0 ≡ i = omega arith in subst (λ x. failed x ≡ has_number set x) z (h.1 0 (omega arith)))),
        λ j l. let z : i + suc j ≡ suc i + j = omega arith in subst (λ x. failed x ≡ has_number set x) z (h.1 (suc j) (omega arith)),
      )),
    )
  where
    same : (s f : Bool) → cond s f (opposite f) ≡ true → f ≡ s
    same true f e = e
    same false true e = let bad : false ≡ true = e in cc
    same false false e = refl

    back : (s f : Bool) → f ≡ s → cond s f (opposite f) ≡ true
    back true f e = e
    back false f e = rw e refl

    all_of : failed i ≡ has_number set i → ((j : ℕ) → j < n → failed (suc i + j) ≡ has_number set (suc i + j)) → (j : ℕ) → j < suc n → failed (i + j) ≡ has_number set (i + j)
    all_of here more zero l = let z : i ≡ i + 0 = omega arith in subst (λ x. failed x ≡ has_number set x) z here
    all_of here more (suc j) l = let z : suc i + j ≡ i + suc j = omega arith in subst (λ x. failed x ≡ has_number set x) z (more j (omega arith))
