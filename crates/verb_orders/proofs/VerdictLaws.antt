-- What the last values of a trace tell, and its first ones.
use Rattle.std.proofs.Common.{◌≡◌, ℕ, zero, suc, ◌+◌, ◌-◌, ◌<◌, ◌≤◌, Bool, true, false, List, [], ◌∷◌, ◌++◌, length, take, min, Some, refl, sym, ap, ◌∙◌, arith}
use Rattle.std.specs.Prelude.{slice_get}
use Rattle.std.proofs.lemmas.List.{append_assoc, take_more}
use Rattle.std.proofs.lemmas.Option.{slice_get_past, get_or_from_slice_get}
use Rattle.base_values.specs.declared.value.Value.{Value as Numbered}
use Rattle.fault_orders.specs.declared.Relation.TheVariants.{Before, After, Together}
use Rattle.fault_orders.specs.RelationValues.{told_relation}
use Rattle.verb_orders.specs.ClaimSearch.{is_true_value, relation_at, relation_of_last, relation_in}

-- no moment tells that both come together
pub no_moment : (trace : List (List Numbered)) → length trace ≡ 0 → Together ≡ relation_in trace
no_moment [] e = refl
no_moment (v ∷ vs) e = absurd (omega (arith, e))

-- the last moment tells it
pub last_moment : (trace : List (List Numbered)) (at : ℕ) (v : List Numbered) → at ≡ length trace - 1 → slice_get trace at ≡ Some v → relation_at v ≡ relation_in trace
last_moment trace at v is there = sym (ap (λ n. relation_of_last (slice_get trace n)) (sym is) ∙ ap relation_of_last there)

pub told_before : (a b : Bool) → a ≡ true → Before ≡ told_relation a b
told_before true b e = refl
told_before false b e = cc

pub told_after : (a b : Bool) → a ≡ false → b ≡ true → After ≡ told_relation a b
told_after true b e h = cc
told_after false true e h = refl
told_after false false e h = cc

pub told_together : (a b : Bool) → a ≡ false → b ≡ false → Together ≡ told_relation a b
told_together true b e h = cc
told_together false true e h = cc
told_together false false e h = refl

-- a value that is not there is not TRUE
pub not_there : (v : List Numbered) (at i : ℕ) → at ≡ i → length v ≤ at → false ≡ is_true_value (slice_get v i)
not_there v at i is past = sym (ap is_true_value (slice_get_past v i (omega (arith, is, past))))

pub is_there : (v : List Numbered) (at i : ℕ) (x : Numbered) → at ≡ i → slice_get v at ≡ Some x → is_true_value (Some x) ≡ is_true_value (slice_get v i)
is_there v at i x is there = sym (ap (λ n. is_true_value (slice_get v n)) (sym is) ∙ ap is_true_value there)

-- one value more
pub one_more : (v cut now : List Numbered) (i : ℕ) (x : Numbered) → i < length v → slice_get v i ≡ Some x → cut ≡ take i v → now ≡ cut ++ x ∷ [] → now ≡ take (i + 1) v
one_more v cut now i x within there so_far pushed =
    pushed ∙ ap (λ xs. xs ++ x ∷ []) so_far ∙ ap (λ y. take i v ++ y ∷ []) (sym (get_or_from_slice_get v i x x there)) ∙ sym (take_more v i x within)

-- as many as there are, and no more than asked for
pub all_taken : (v : List Numbered) (n i : ℕ) → i ≡ min n (length v) → take i v ≡ take n v
all_taken v n i e = ap (λ k. take k v) e ∙ both n v
  where
    both : (n : ℕ) (v : List Numbered) → take (min n (length v)) v ≡ take n v
    both zero v = let none : min 0 (length v) ≡ 0 = omega arith in ap (λ k. take k v) none
    both (suc n) [] = let none : min (suc n) (length {A = Numbered} []) ≡ 0 = omega arith in ap (λ k. take {A = Numbered} k []) none
    both (suc n) (x ∷ v) = let more : min (suc n) (length (x ∷ v)) ≡ suc (min n (length v)) = omega arith in ap (λ k. take k (x ∷ v)) more ∙ ap (λ xs. x ∷ xs) (both n v)

-- a text that is appended piece by piece to the line of a pair
module _ (p i s j : List ℕ) where
  abbrev line : List ℕ
  line = p ++ (i ++ (s ++ (j ++ s)))

  joined : (rest : List ℕ) → line ++ rest ≡ p ++ (i ++ (s ++ (j ++ (s ++ rest))))
  joined rest =
      append_assoc p (i ++ (s ++ (j ++ s))) rest
      ∙ ap (λ x. p ++ x) (append_assoc i (s ++ (j ++ s)) rest ∙ ap (λ x. i ++ x) (append_assoc s (j ++ s) rest ∙ ap (λ x. s ++ x) (append_assoc j s rest)))

  pub appended : (e n t said worded ended whole : List ℕ) → said ≡ line → worded ≡ said ++ e → ended ≡ worded ++ n → whole ≡ ended ++ t → whole ≡ p ++ (i ++ (s ++ (j ++ (s ++ (e ++ (n ++ t))))))
  appended e n t said worded ended whole h word end rest =
      rest ∙ ap (λ x. x ++ t) (end ∙ ap (λ x. x ++ n) (word ∙ ap (λ x. x ++ e) h) ∙ append_assoc line e n) ∙ append_assoc line (e ++ n) t ∙ ap (λ x. line ++ x) (append_assoc e n t) ∙ joined (e ++ (n ++ t))
