-- A program has one list of faults under instructions.
use Rattle.std.proofs.Common.{◌≡◌, ℕ, zero, suc, List, [], ◌∷◌, ◌++◌, Option, Some, None, refl, sym, ◌∙◌, ap}
use Rattle.std.specs.Prelude.{flat_map}
use Rattle.smv_language.specs.Language.{Text, ModuleTree, ProgramTree, Place, module_at}
use Rattle.fault_instructions.specs.Instructions.{InstructionTree}
use Rattle.fault_weave.specs.Faults.{Fault, instance_names, joined, each_joined, below, instances_in, place_faults, HasFaults}

-- lists that are joined were given
record AreJoined {A : Type 0} (a b : Option (List A)) (all : List A) : Type 0 where
  pub left : List A
  pub right : List A
  pub first : a ≡ Some left
  pub second : b ≡ Some right
  pub is : all ≡ left ++ right

are_joined : {A : Type 0} (a b : Option (List A)) (all : List A) → joined a b ≡ Some all → AreJoined a b all
are_joined (Some xs) (Some ys) all e = let same : xs ++ ys ≡ all = cc in record { left = xs; right = ys; first = refl; second = refl; is = sym same }
are_joined (Some xs) None all e = cc
are_joined None b all e = cc

pub same_given : {A : Type 0} {o : Option A} {x y : A} → o ≡ Some x → o ≡ Some y → x ≡ y
same_given e f = cc

-- where two readings agree on what both give, so do what they join
module _ (f g : Place → Option (List Place)) (one : (at : Place) (xs ys : List Place) → f at ≡ Some xs → g at ≡ Some ys → xs ≡ ys) where
  each_one : (at : Place) (names : List Text) (xs ys : List Place) → each_joined (λ x. f (x ∷ at)) names ≡ Some xs → each_joined (λ x. g (x ∷ at)) names ≡ Some ys → xs ≡ ys
  each_one at [] xs ys e h = same_given e h
  each_one at (x ∷ names) xs ys e h =
      let a = are_joined (f (x ∷ at)) (each_joined (λ y. f (y ∷ at)) names) xs e in
      let b = are_joined (g (x ∷ at)) (each_joined (λ y. g (y ∷ at)) names) ys h in
      a.is ∙ (λ i. one (x ∷ at) a.left b.left a.first b.first i ++ each_one at names a.right b.right a.second b.second i) ∙ sym b.is

  below_one : (at : Place) (m : Option ModuleTree) (xs ys : List Place) → below f at m ≡ Some xs → below g at m ≡ Some ys → xs ≡ ys
  below_one at None xs ys e h = same_given e h
  below_one at (Some m) xs ys e h =
      let a = are_joined (Some (at ∷ [])) (each_joined (λ y. f (y ∷ at)) (instance_names m.sections)) xs e in
      let b = are_joined (Some (at ∷ [])) (each_joined (λ y. g (y ∷ at)) (instance_names m.sections)) ys h in
      a.is ∙ (λ i. same_given a.first b.first i ++ each_one at (instance_names m.sections) a.right b.right a.second b.second i) ∙ sym b.is

instances_one : (p : ProgramTree) (n k : ℕ) (at : Place) (xs ys : List Place) → instances_in n p at ≡ Some xs → instances_in k p at ≡ Some ys → xs ≡ ys
instances_one p zero k at xs ys e h = cc
instances_one p (suc n) zero at xs ys e h = cc
instances_one p (suc n) (suc k) at xs ys e h = below_one (instances_in n p) (instances_in k p) (instances_one p n k) at (module_at p at) xs ys e h

pub one_list : (p : ProgramTree) (i : InstructionTree) (faults others : List Fault) → HasFaults p i faults → HasFaults p i others → faults ≡ others
one_list p i faults others a b = a.2 ∙ ap (flat_map (place_faults p i)) (instances_one p a.1.0 b.1.0 [] a.0 b.0 a.1.1 b.1.1) ∙ sym b.2
