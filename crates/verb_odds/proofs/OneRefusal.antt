-- What is refused of odds is refused for one reason, and nothing is where they were found.
use Rattle.std.proofs.Common.{◌≡◌, ℕ, suc, List, [], ◌∷◌, ◌++◌, Option, Some, None, length, refl, sym, ap, subst, ◌∙◌}
use Rattle.base_files.specs.declared.files.NamedFile.{NamedFile}
use Rattle.smv_language.specs.Language.{Text, Each}
use Rattle.fault_instructions.specs.Instructions.{InstructionTree}
use Rattle.fault_odds.specs.declared.mode_marks.MarkFault.{MarkFault}
use Rattle.fault_odds.specs.Marks.{IsFirstMarkFault, HasProbabilities}
use Rattle.verb_loading.specs.declared.status.Refusal.TheVariants as refusal
use Rattle.verb_loading.specs.Inputs.{RefusesFaults}
use Rattle.verb_loading.specs.Cases.{IsWrongWord}
use Rattle.verb_loading.proofs.OneExtending.{one_refused_faults}
use Rattle.verb_loading.proofs.OneModelFault.{one_refused_model, held_not_refused, one_held_model}
use Rattle.verb_loading.proofs.OneCase.{case_not_refused, one_case}
use Rattle.verb_loading.proofs.OneTop.{one_wrong_word, word_not_wrong}
use Rattle.verb_loading.specs.declared.status.Refusal.{Refusal}
use Rattle.verb_odds.specs.Odds.{mark_refusal, RefusesOdds, at_model, at_faults, at_mark, at_top, HoldsMarked}
use Rattle.std.proofs.lemmas.Option.{same_Some as same_first}

module _ {A : Type 0} where
  heads : (x y : Option A) (xs ys : List (Option A)) → (x ∷ xs) ≡ (y ∷ ys) → x ≡ y
  heads x y xs ys e = cc

  tails : (x y : Option A) (xs ys : List (Option A)) → (x ∷ xs) ≡ (y ∷ ys) → xs ≡ ys
  tails x y xs ys e = cc

  first_one : (before others : List (Option A)) (x y : A) (after rest : List (Option A)) → Each (λ o. o ≡ None) before → Each (λ o. o ≡ None) others → before ++ Some x ∷ after ≡ others ++ Some y ∷ rest →
      (x ≡ y) × (length before ≡ length others)
  first_one [] [] x y after rest none also e = (same_first x y (heads (Some x) (Some y) after rest e), refl)
  first_one [] (o ∷ others) x y after rest none also e = let bad : Some x ≡ None = heads (Some x) o after (others ++ Some y ∷ rest) e ∙ also.0 in cc
  first_one (o ∷ before) [] x y after rest none also e = let bad : None ≡ Some y = sym none.0 ∙ heads o (Some y) (before ++ Some x ∷ after) rest e in cc
  first_one (o ∷ before) (q ∷ others) x y after rest none also e =
      let more = first_one before others x y after rest none.1 also.1 (tails o q (before ++ Some x ∷ after) (others ++ Some y ∷ rest) e) in (more.0, ap suc more.1)

  not_first : (before : List (Option A)) (x : A) (after : List (Option A)) → Each (λ o. o ≡ None) (before ++ Some x ∷ after) → ⊥
  not_first [] x after none = let bad : Some x ≡ None = none.0 in cc
  not_first (o ∷ before) x after none = not_first before x after none.1

-- one mark is told
one_mark : (i : InstructionTree) (f g : MarkFault) (n k : ℕ) → IsFirstMarkFault i f n → IsFirstMarkFault i g k → mark_refusal f n ≡ mark_refusal g k
one_mark i f g n k h also =
    let same = first_one h.before also.before f g h.after also.after h.none_before also.none_before (sym h.in_order ∙ also.in_order) in
    let items : n ≡ k = h.at_item ∙ ap suc same.1 ∙ sym also.at_item in ap (λ fault. mark_refusal fault n) same.0 ∙ ap (mark_refusal g) items

no_mark : (i : InstructionTree) (f : MarkFault) (n : ℕ) → HasProbabilities i → IsFirstMarkFault i f n → ⊥
no_mark i f n all h = not_first h.before f h.after (subst (Each (λ o. o ≡ None)) h.in_order all)

module _ (files : List NamedFile) (model faults top : Text) where
  pub one_refused_odds : (r s : Refusal) → RefusesOdds files model faults top r → RefusesOdds files model faults top s → r ≡ s
  one_refused_odds r s (at_model bad) (at_model also) = one_refused_model files model r s bad also
  one_refused_odds r s (at_model bad) (at_faults p holds wrong) = absurd (held_not_refused files model p r holds bad)
  one_refused_odds r s (at_model bad) (at_mark c f n was held mark) = absurd (held_not_refused files model c.program r held.program bad)
  one_refused_odds r s (at_model bad) (at_top c f was held all wrong) = absurd (held_not_refused files model c.program r held.program bad)
  one_refused_odds r s (at_faults p holds wrong) (at_model bad) = absurd (held_not_refused files model p s holds bad)
  one_refused_odds r s (at_faults p holds wrong) (at_faults q other also) =
      one_refused_faults files faults p holds.flat holds.lawful r s wrong (subst (λ u. RefusesFaults files faults u s) (one_held_model files model p q holds other) also)
  one_refused_odds r s (at_faults p holds wrong) (at_mark c f n was held mark) =
      absurd (case_not_refused files model faults c p r held (one_held_model files model p c.program holds held.program) wrong)
  one_refused_odds r s (at_faults p holds wrong) (at_top c f was held all bad) =
      absurd (case_not_refused files model faults c p r held (one_held_model files model p c.program holds held.program) wrong)
  one_refused_odds r s (at_mark c f n is held mark) (at_model gone) = absurd (held_not_refused files model c.program s held.program gone)
  one_refused_odds r s (at_mark c f n is held mark) (at_faults p holds wrong) =
      absurd (case_not_refused files model faults c p s held (one_held_model files model p c.program holds held.program) wrong)
  one_refused_odds r s (at_mark c f n is held mark) (at_mark d g k was other also) =
      is ∙ one_mark c.instructions f g n k mark (subst (λ e. IsFirstMarkFault e.instructions g k) (one_case files model faults d c other held) also) ∙ sym was
  one_refused_odds r s (at_mark c f n is held mark) (at_top d g was other all bad) =
      absurd (no_mark c.instructions f n (subst (λ e. HasProbabilities e.instructions) (one_case files model faults d c other held) all) mark)
  one_refused_odds r s (at_top c f is held all wrong) (at_model gone) = absurd (held_not_refused files model c.program s held.program gone)
  one_refused_odds r s (at_top c f is held all wrong) (at_faults p holds bad) =
      absurd (case_not_refused files model faults c p s held (one_held_model files model p c.program holds held.program) bad)
  one_refused_odds r s (at_top c f is held all wrong) (at_mark d g k was other mark) =
      absurd (no_mark d.instructions g k (subst (λ e. HasProbabilities e.instructions) (one_case files model faults c d held other) all) mark)
  one_refused_odds r s (at_top c f is held all wrong) (at_top d g was other also bad) =
      is
      ∙ ap (λ z. refusal.Top z)
      (one_wrong_word c.program held.program.lawful.accepted top f g wrong (subst (λ p. IsWrongWord p top g) (one_held_model files model c.program d.program held.program other.program) bad))
      ∙ sym was

  pub marked_not_refused : (r : Refusal) → HoldsMarked files model faults top → RefusesOdds files model faults top r → ⊥
  marked_not_refused r h (at_model gone) = held_not_refused files model h.c.program r h.holds.program gone
  marked_not_refused r h (at_faults p holds bad) = case_not_refused files model faults h.c p r h.holds (one_held_model files model p h.c.program holds h.holds.program) bad
  marked_not_refused r h (at_mark d g k was other mark) =
      no_mark d.instructions g k (subst (λ e. HasProbabilities e.instructions) (one_case files model faults h.c d h.holds other) h.all) mark
  marked_not_refused r h (at_top d g was other also bad) =
      word_not_wrong h.c.program h.holds.program.lawful.accepted top h.event g h.is_event (subst (λ p. IsWrongWord p top g) (one_held_model files model h.c.program d.program h.holds.program other.program) bad)
