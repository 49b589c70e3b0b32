-- The first fault of marks means what is said of it, and units that are found are those of the mode.
use Rattle.std.proofs.Common.{◌≡◌, ℕ, suc, ◌+◌, List, [], ◌∷◌, ◌++◌, length, Option, Some, None, Result, Ok, Err, inl, inr, refl, sym, ◌∙◌, ap, subst, arith}
use Rattle.std.specs.Result.{OnOk, IfErr}
use Rattle.std.proofs.lemmas.Result.{IfOk-weaker}
use Rattle.std.proofs.lemmas.List.{append_assoc, append-nil, map-append}
use Rattle.smv_language.specs.Trace.{Each}
use Rattle.fault_instructions.specs.Instructions.{InstructionTree}
use Rattle.fault_odds.specs.declared.mode_marks.MarkFault.{MarkFault}
use Rattle.fault_odds.specs.declared.mode_marks.MarkFault.TheVariants as wrong
use Rattle.fault_odds.specs.declared.mode_marks.OddsFault.{OddsFault}
use Rattle.fault_odds.specs.Marks.{item_marks, IsFirstMarkFault, HasProbabilities}
use Rattle.fault_odds.specs.FirstMark.{IsFaultOf, fault_at, first_of, IsMarkFault}

pub ruleset list_rules = (append_assoc, append-nil, map-append)

-- where none is first, there is none
pub none_wrong : (n : ℕ) (fs : List (Option MarkFault)) → first_of n fs ≡ None → Each (λ f. f ≡ None) fs
none_wrong n [] h = tt
none_wrong n (None ∷ fs) h = (refl, none_wrong (suc n) fs h)
none_wrong n (Some f ∷ fs) h = cc

record First (n : ℕ) (fs : List (Option MarkFault)) (w : ℕ × MarkFault) : Type 0 where
  before : List (Option MarkFault)
  after : List (Option MarkFault)
  in_order : fs ≡ before ++ Some w.1 ∷ after
  none_before : Each (λ f. f ≡ None) before
  is_at : w.0 ≡ suc (n + length before)

first_is : (n : ℕ) (fs : List (Option MarkFault)) (w : ℕ × MarkFault) → first_of n fs ≡ Some w → First n fs w
first_is n [] w h = cc
first_is n (None ∷ fs) w h =
    let later = first_is (suc n) fs w h in
    record {
      before = None ∷ later.before;
      after = later.after;
      in_order = ap (λ l. None ∷ l) later.in_order;
      none_before = (refl, later.none_before);
      is_at = later.is_at ∙ ap suc (shifted n (length later.before));
    }
  where
    shifted : (n k : ℕ) → suc n + k ≡ n + suc k
    shifted n k = omega arith
first_is n (Some f ∷ fs) w h = subst (First n (Some f ∷ fs)) (same (suc n, f) w h) (record { before = []; after = fs; in_order = refl; none_before = tt; is_at = ap suc (none n) })
  where
    same : (a b : ℕ × MarkFault) → ◌≡◌ {A = Option (ℕ × MarkFault)} (Some a) (Some b) → a ≡ b
    same a b e = cc

    none : (n : ℕ) → n ≡ n + 0
    none n = omega arith

-- the first wrong mark of the items is the first fault of the marks
first_means : (i : InstructionTree) (w : ℕ × MarkFault) → first_of 0 (item_marks i) ≡ Some w → IsFirstMarkFault i w.1 w.0
first_means i w h = told (first_is 0 (item_marks i) w h)
  where
    none_more : (n : ℕ) → suc (0 + n) ≡ suc n
    none_more n = omega arith

    told : First 0 (item_marks i) w → IsFirstMarkFault i w.1 w.0
    told first = record { before = first.before; after = first.after; in_order = first.in_order; none_before = first.none_before; at_item = first.is_at ∙ none_more (length first.before) }

of_fault : (i : InstructionTree) (f : MarkFault) (n : ℕ) → IsFirstMarkFault i f n → IsMarkFault i (fault_at f n)
of_fault i wrong.NoMark n is = is
of_fault i wrong.BadMark n is = is

fault_means : (i : InstructionTree) (first : Option (ℕ × MarkFault)) (e : OddsFault) → first ≡ first_of 0 (item_marks i) → IsFaultOf first e → IsMarkFault i e
fault_means i None e f h = absurd h
fault_means i (Some w) e f (inl want) = subst (IsMarkFault i) (sym want) tt
fault_means i (Some w) e f (inr is) = subst (IsMarkFault i) (sym is) (of_fault i w.1 w.0 (first_means i w (sym f)))

module _ {T : Type 0} (i : InstructionTree) (r : Result T OddsFault) (first : Option (ℕ × MarkFault)) (slice marks : List (Option MarkFault)) where
  pub judged_all : OnOk r (first ≡ None) → first ≡ first_of 0 slice → slice ≡ marks → marks ≡ item_marks i → OnOk r (HasProbabilities i)
  judged_all h e f g = IfOk-weaker r (λ _. first ≡ None) (λ _. HasProbabilities i) (λ _ none. none_wrong 0 (item_marks i) (sym (e ∙ ap (first_of 0) (f ∙ g)) ∙ none)) h

  fault_at_err : (s : Result T OddsFault) → first ≡ first_of 0 (item_marks i) → IfErr s (IsFaultOf first) → IfErr s (IsMarkFault i)
  fault_at_err (Ok x) e h = tt
  fault_at_err (Err f) e h = fault_means i first f e h

  pub judged_fault : IfErr r (IsFaultOf first) → first ≡ first_of 0 slice → slice ≡ marks → marks ≡ item_marks i → IfErr r (IsMarkFault i)
  judged_fault h e f g = fault_at_err r (e ∙ ap (first_of 0) (f ∙ g)) h
