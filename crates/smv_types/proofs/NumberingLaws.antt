-- The numbers of symbols, one place before those of a map, and the number of one text.
use lib.Pointwise.{pointwise}
use Rattle.std.proofs.Common.{◌≡◌, ℕ, suc, ◌+◌, ◌-◌, ◌<◌, ◌≤◌, Bool, true, false, cond, List, [], ◌∷◌, length, drop, get_or, Some, None, refl, sym, ap, ◌∙◌, subst, nat_eq, arith, Bor}
use Rattle.std.specs.Prelude.{if◌then◌else◌}
use Rattle.std.proofs.lemmas.List.{drop_more}
use Rattle.indexmap.specs.IndexMap.{IndexMap, get}
use Rattle.smv_language.specs.Language.{same_text, same_borrowed}
use Rattle.smv_type_laws.specs.Costs.{symbol_number}
use Rattle.smv_types.specs.SymbolNumbering.{number_from, AreNumbered}
use Rattle.smv_language.proofs.AmongLaws.{pointwise_is}

-- an insertion of the text at a place numbers the texts from that place on
pub numbered_more : {S : Type 0} (texts : List (List ℕ)) (i : ℕ) (d : List ℕ) (key : Bor (List ℕ)) (before after : IndexMap (Bor (List ℕ)) ℕ S) → i < length texts → key.now ≡ get_or texts i d →
    AreNumbered (i + 1) (drop (i + 1) texts) before → ((x : Bor (List ℕ)) → get same_borrowed after x ≡ cond (same_borrowed key x) (Some i) (get same_borrowed before x)) →
    AreNumbered i (drop i texts) after
numbered_more texts i d key before after h is numbered updated x =
    updated x ∙ ap (λ b. cond b (Some i) (get same_borrowed before x)) (ap (λ k. pointwise nat_eq k x.now) is ∙ pointwise_is (get_or texts i d) x.now)
    ∙ ap (λ o. cond (same_text (get_or texts i d) x.now) (Some i) o) (numbered x) ∙ sym (ap (λ ts. number_from i ts x.now) (drop_more texts i d h))

pub numbered_before : {S : Type 0} (texts : List (List ℕ)) (p : ℕ) (d : List ℕ) (key : Bor (List ℕ)) (before after : IndexMap (Bor (List ℕ)) ℕ S) → 0 < p → p ≤ length texts → key.now ≡ get_or texts (p - 1) d →
    AreNumbered p (drop p texts) before → ((x : Bor (List ℕ)) → get same_borrowed after x ≡ cond (same_borrowed key x) (Some (p - 1)) (get same_borrowed before x)) →
    AreNumbered (p - 1) (drop (p - 1) texts) after
numbered_before texts p d key before after some within is numbered updated =
    let e : p ≡ p - 1 + 1 = omega arith in
    numbered_more texts (p - 1) d key before after (omega arith) is (subst (λ q. AreNumbered q (drop q texts) before) e numbered) updated

-- the number that is found, or the number after the last
pub number_told : (i : ℕ) (texts : List (List ℕ)) (x : List ℕ) (n : ℕ) → number_from i texts x ≡ Some n → n ≡ i + symbol_number texts x
number_told i [] x n e = cc
number_told i (t ∷ texts) x n e = by (same_text t x) e (λ f. number_told (i + 1) texts x n f)
  where
    by : (b : Bool) → (if b then Some i else number_from (i + 1) texts x) ≡ Some n → (number_from (i + 1) texts x ≡ Some n → n ≡ i + 1 + symbol_number texts x) →
        n ≡ i + (elim b [ true ↦ 0 | false ↦ suc (symbol_number texts x) ])
    by true f more = let same : i ≡ n = cc in omega (arith, same)
    by false f more = omega (arith, more f)

pub number_after : (i : ℕ) (texts : List (List ℕ)) (x : List ℕ) → number_from i texts x ≡ None → length texts ≡ symbol_number texts x
number_after i [] x e = refl
number_after i (t ∷ texts) x e = by (same_text t x) e (λ f. number_after (i + 1) texts x f)
  where
    by : (b : Bool) → (if b then Some i else number_from (i + 1) texts x) ≡ None → (number_from (i + 1) texts x ≡ None → length texts ≡ symbol_number texts x) →
        suc (length texts) ≡ (elim b [ true ↦ 0 | false ↦ suc (symbol_number texts x) ])
    by true f more = cc
    by false f more = ap suc (more f)
