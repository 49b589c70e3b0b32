-- The two faults of a set, as they are tested.
use Rattle.std.proofs.Common.{◌≡◌, ◌⊎◌, inl, inr, ⊎_elim, ℕ, ◌+◌, Bool, true, false, not, List, [], ◌∷◌, ◌++◌, map, Option, Some, None, codes, if◌then◌else◌, sym, subst, ap, ◌∙◌, refl, append_assoc, arith}
use Rattle.std.specs.Prelude.{nat_eq}
use Rattle.std.proofs.lemmas.Bool.Decides.{nat_tests}
use Rattle.std.proofs.lemmas.List.{append-nil}
use Rattle.std.proofs.lemmas.Bool.{false≢true, and_parts, and_from, or_cases, or_left, or_right, not-true, false_from_ne_true}
use Rattle.base_values.specs.declared.limits.TheConstants.{MOST_FAULTS}
use Rattle.verb_command_line.specs.declared.choice.OptionKind.TheVariants as kind
use Rattle.verb_command_line.specs.declared.fault.WordFault.{WordFault}
use Rattle.verb_command_line.specs.declared.fault.WordFault.TheVariants as fault
use Rattle.verb_command_line.specs.Commands.{Text, Given}
use Rattle.verb_command_line.specs.Sets.{Each, number_of, IsNumeral, words_of, IsSet}
use Rattle.verb_command_line.specs.Table.{Choice, kind_in, IsWithin, Fits, options_of}
use Rattle.verb_command_line.specs.Meaning.{Gives, IsGiven, IsLawful, AreLawful, AreThere, option_place, IsOneOf, IsOfPair, IsOutside, not_of_set, both_one, IsInside, AreInside}
use Rattle.verb_command_line.specs.WordReading.{number_in, value_in, text_in, first_of, same_number, has_number, is_second, is_of_pair, is_outside, outside_here, outside_from, set_fault_by, set_fault}
use Rattle.verb_command_line.proofs.ListLemmas.{bytes_same, Each-append}
use Rattle.verb_command_line.proofs.NumberLemmas.{numbered, true-is_numeral}
use Rattle.verb_command_line.proofs.PairLemmas.{value-given, given-value}
use Rattle.verb_command_line.proofs.SoundLemmas.{first_none, different_by}
use Rattle.verb_command_line.proofs.ValueLemmas.{fits_given, text_given, text_is}
use Rattle.verb_command_line.specs.declared.verb.Verb.{Verb}
use Rattle.verb_command_line.specs.declared.verb.Verb.TheVariants as verb
use Rattle.base_values.proofs.ListLaws.{same_bytes}

number_is : (w : Text) → IsNumeral w → number_in w ≡ Some (number_of w)
number_is w n = numbered w (true-is_numeral w n)

same_is : (v w : Text) → IsNumeral v → IsNumeral w → same_number (number_in v) (number_in w) ≡ nat_eq (number_of v) (number_of w)
same_is v w m n = ap (λ o. same_number o (number_in w)) (number_is v m) ∙ ap (λ o. same_number (Some (number_of v)) o) (number_is w n)

equal_tests : (m n : ℕ) → nat_eq m n ≡ true → m ≡ n
equal_tests m n e = grind (arith, nat_tests)

tests_equal : (m n : ℕ) → m ≡ n → nat_eq m n ≡ true
tests_equal m n e = grind (arith, nat_tests)

-- one of the words spells the number
has_sound : (ws : List Text) (v : Text) → Each IsNumeral ws → IsNumeral v → has_number ws (number_in v) ≡ true → IsOneOf (map number_of ws) (number_of v)
has_sound [] v ns n e = absurd (false≢true e)
has_sound (w ∷ ws) v ns n e =
    ⊎_elim (λ here. inl (equal_tests (number_of w) (number_of v) (sym (same_is w v ns.0 n) ∙ here))) (λ more. inr (has_sound ws v ns.1 n more))
    (or_cases (same_number (number_in w) (number_in v)) (has_number ws (number_in v)) e)

has_complete : (ws : List Text) (v : Text) → Each IsNumeral ws → IsNumeral v → IsOneOf (map number_of ws) (number_of v) → has_number ws (number_in v) ≡ true
has_complete [] v ns n h = absurd h
has_complete (w ∷ ws) v ns n (inl e) = or_left _ _ (same_is w v ns.0 n ∙ tests_equal (number_of w) (number_of v) e)
has_complete (w ∷ ws) v ns n (inr more) = or_right _ _ (has_complete ws v ns.1 n more)

-- an option is one of the two
pair_sound : (option : Text) → is_of_pair option ≡ true → IsOfPair option
pair_sound option e = ⊎_elim (λ h. inl (bytes_same option (codes "--first") h)) (λ h. inr (bytes_same option (codes "--second") h)) (or_cases _ _ e)

pair_complete : (option : Text) → IsOfPair option → is_of_pair option ≡ true
pair_complete option (inl e) = or_left _ _ (same_bytes option (codes "--first") e)
pair_complete option (inr e) = or_right _ _ (same_bytes option (codes "--second") e)

true_not : (t : Bool) → t ≡ false → not t ≡ true
true_not t e = ap not e

-- Pairs of which the faults are numbers.
abbrev IsNumbered : Given → Type 0
IsNumbered p = IsOfPair p.option → IsNumeral p.value

module _ (set first : Text) (ns : Each IsNumeral (words_of set)) (n : IsNumeral first) where
  outside_sound : (p : Given) → IsNumbered p → is_outside set first p.option p.value ≡ true → IsOutside set first p
  outside_sound p is e =
      ⊎_elim
      (λ h. let both = and_parts (is_of_pair p.option) (not (has_number (words_of set) (number_in p.value))) h in
      let pair = pair_sound p.option both.0 in
      not_of_set pair (λ has. false≢true (sym (not-true (has_number (words_of set) (number_in p.value)) both.1) ∙ has_complete (words_of set) p.value ns (is pair) has)))
      (λ h. let both = and_parts (is_second p.option) (same_number (number_in first) (number_in p.value)) h in
      let second : p.option ≡ codes "--second" = bytes_same p.option (codes "--second") both.0 in
      both_one second (equal_tests (number_of first) (number_of p.value) (sym (same_is first p.value n (is (inr second))) ∙ both.1)))
      (or_cases _ _ e)

  outside_complete : (p : Given) → IsNumbered p → IsOutside set first p → is_outside set first p.option p.value ≡ true
  outside_complete p is (not_of_set pair none) =
      or_left _ _ (and_from _ _ (pair_complete p.option pair)
      (true_not (has_number (words_of set) (number_in p.value)) (false_from_ne_true (has_number (words_of set) (number_in p.value)) (λ e. none (has_sound (words_of set) p.value ns (is pair) e)))))
  outside_complete p is (both_one second same) =
      or_right _ _ (and_from _ _ (same_bytes p.option (codes "--second") second) (same_is first p.value n (is (inr second)) ∙ tests_equal (number_of first) (number_of p.value) same))

  here_none : (before : List Given) (p : Given) → IsNumbered p → IsInside set first p → outside_here set first before p ≡ None
  here_none before p is inside =
      ap (λ t. if t then Some (fault.NotInSet (option_place before + 1)) else None) (false_from_ne_true (is_outside set first p.option p.value) (λ e. inside (outside_sound p is e)))

  from_none : (before ps : List Given) → Each IsNumbered ps → outside_from set first before ps ≡ None → Each (IsInside set first) ps
  from_none before [] is e = tt
  from_none before (p ∷ ps) is e =
      let both = first_none (outside_here set first before p) (outside_from set first (before ++ p ∷ []) ps) e in (
        λ out. false≢true (sym (different_by (is_outside set first p.option p.value) (fault.NotInSet (option_place before + 1)) both.0) ∙ outside_complete p is.0 out),
        from_none (before ++ p ∷ []) ps is.1 both.1,
      )

  none_from : (before ps : List Given) → Each IsNumbered ps → Each (IsInside set first) ps → outside_from set first before ps ≡ None
  none_from before [] is inside = refl
  none_from before (p ∷ ps) is inside =
      ap (λ f. first_of f (outside_from set first (before ++ p ∷ []) ps)) (here_none before p is.0 inside.0) ∙ none_from (before ++ p ∷ []) ps is.1 inside.1

  record Comes (all : List Given) (f : WordFault) : Type 0 where
    pub before : List Given
    pub pair : Given
    pub after : List Given
    pub split : all ≡ before ++ pair ∷ after
    pub inside : Each (IsInside set first) before
    pub outside : IsOutside set first pair
    pub is : f ≡ fault.NotInSet (option_place before + 1)

  from_some : (before ps all : List Given) (f : WordFault) → all ≡ before ++ ps → Each (IsInside set first) before → Each IsNumbered ps → outside_from set first before ps ≡ Some f → Comes all f
  from_some before [] all f split inside is e = cc
  from_some before (p ∷ ps) all f split inside is e =
      by_test (is_outside set first p.option p.value) refl
      (λ off. from_some (before ++ p ∷ []) ps all f (split ∙ sym (append_assoc before (p ∷ []) ps)) (Each-append (IsInside set first) before (p ∷ []) inside (off, tt)) is.1) e
    where
      by_test : (t : Bool) → is_outside set first p.option p.value ≡ t → (IsInside set first p → outside_from set first (before ++ p ∷ []) ps ≡ Some f → Comes all f) →
          first_of (if t then Some (fault.NotInSet (option_place before + 1)) else None) (outside_from set first (before ++ p ∷ []) ps) ≡ Some f → Comes all f
      by_test true it later e = record { before = before; pair = p; after = ps; split = split; inside = inside; outside = outside_sound p is.0 it; is = cc }
      by_test false it later e = later (λ out. false≢true (sym it ∙ outside_complete p is.0 out)) e

  some_from : (done before : List Given) (p : Given) (after : List Given) → Each IsNumbered (before ++ p ∷ after) → Each (IsInside set first) before → IsOutside set first p →
      outside_from set first done (before ++ p ∷ after) ≡ Some (fault.NotInSet (option_place (done ++ before) + 1))
  some_from done [] p after is inside out =
      ap (λ t. first_of (if t then Some (fault.NotInSet (option_place done + 1)) else None) (outside_from set first (done ++ p ∷ []) after)) (outside_complete p is.0 out)
      ∙ ap (λ b. Some (fault.NotInSet (option_place b + 1))) (sym (append-nil done))
  some_from done (q ∷ qs) p after is inside out =
      ap (λ f. first_of f (outside_from set first (done ++ q ∷ []) (qs ++ p ∷ after))) (here_none done q is.0 inside.0)
      ∙ some_from (done ++ q ∷ []) qs p after is.1 inside.1 out
      ∙ ap (λ b. Some (fault.NotInSet (option_place b + 1))) (append_assoc done (q ∷ []) qs)

-- The verbs of orders alone have a set and its two faults.
record HasPair (options : List Choice) (ps : List Given) : Type 0 where
  pub set : kind_in options (codes "--set") ≡ Some kind.Set
  pub first : kind_in options (codes "--first") ≡ Some (kind.Number 1 MOST_FAULTS)
  pub second : kind_in options (codes "--second") ≡ Some (kind.Number 1 MOST_FAULTS)
  pub there : IsGiven ps (codes "--first")

has_pair : (v : Verb) (ps : List Given) → AreThere (options_of v) ps → (kind_in (options_of v) (codes "--set") ≡ None) ⊎ HasPair (options_of v) ps
has_pair verb.Extend ps there = inl refl
has_pair verb.Replay ps there = inl refl
has_pair verb.Analyse ps there = inl refl
has_pair verb.Check ps there = inl refl
has_pair verb.Fmea ps there = inl refl
has_pair verb.Make ps there = inl refl
has_pair verb.Causes ps there = inl refl
has_pair verb.CheckCauses ps there = inl refl
has_pair verb.Orders ps there = inr (record { set = refl; first = refl; second = refl; there = there.1.1.1.1.0 refl })
has_pair verb.CheckOrders ps there = inr (record { set = refl; first = refl; second = refl; there = there.1.1.1.1.0 refl })
has_pair verb.Odds ps there = inl refl

-- an option that is none of the verb's is not given
unknown : (options : List Choice) (ps : List Given) (option value : Text) → Each (IsLawful options) ps → Gives ps option value → kind_in options option ≡ None → ⊥
unknown options [] option value law g none = absurd g
unknown options (p ∷ ps) option value law (inl here) none = let clash : Some law.0.kind ≡ None = sym law.0.known ∙ ap (λ o. kind_in options o) here.0 ∙ none in cc
unknown options (p ∷ ps) option value law (inr more) none = unknown options ps option value law.1 more none

numeral_of : (w : Text) → IsWithin 1 MOST_FAULTS w → IsNumeral w
numeral_of w h = h.numeral

module _ (options : List Choice) (ps : List Given) (law : AreLawful options ps) (pair : HasPair options ps) where
  each_numbered : (qs : List Given) → Each (IsLawful options) qs → Each IsNumbered qs
  each_numbered [] h = tt
  each_numbered (q ∷ qs) h = (by_option, each_numbered qs h.1)
    where
      fitting : (option : Text) → q.option ≡ option → kind_in options option ≡ Some (kind.Number 1 MOST_FAULTS) → IsNumeral q.value
      fitting option e known =
          let same : Some h.0.kind ≡ Some (kind.Number 1 MOST_FAULTS) = sym h.0.known ∙ ap (λ o. kind_in options o) e ∙ known in
          let is : h.0.kind ≡ kind.Number 1 MOST_FAULTS = cc in
          numeral_of q.value (subst (λ k. Fits k q.value) is h.0.fits)

      by_option : IsNumbered q
      by_option (inl e) = fitting (codes "--first") e pair.first
      by_option (inr e) = fitting (codes "--second") e pair.second

  set_numerals : (set : Text) → Gives ps (codes "--set") set → Each IsNumeral (words_of set)
  set_numerals set g = let fits : IsSet set = fits_given options ps (codes "--set") set kind.Set law.each g pair.set in fits.numerals

  abbrev first_text : Text
  first_text = text_in ps (codes "--first")

  first_given : Gives ps (codes "--first") first_text
  first_given = text_given options ps law (codes "--first") pair.there

  first_numeral : IsNumeral first_text
  first_numeral = numeral_of first_text (fits_given options ps (codes "--first") first_text (kind.Number 1 MOST_FAULTS) law.each first_given pair.first)

-- what is found of the two faults
pub record IsFoundOutside (ps : List Given) (f : WordFault) : Type 0 where
  pub set : Text
  pub first : Text
  pub before : List Given
  pub pair : Given
  pub after : List Given
  pub split : ps ≡ before ++ pair ∷ after
  pub given_set : Gives ps (codes "--set") set
  pub given_first : Gives ps (codes "--first") first
  pub inside : Each (IsInside set first) before
  pub outside : IsOutside set first pair
  pub is : f ≡ fault.NotInSet (option_place before + 1)

module _ (v : Verb) (ps : List Given) (law : AreLawful (options_of v) ps) (there : AreThere (options_of v) ps) where
  pub inside_sound : set_fault ps ≡ None → AreInside ps
  inside_sound e set first given_set given_first = ⊎_elim (λ none. absurd (unknown (options_of v) ps (codes "--set") set law.each given_set none)) by_pair (has_pair v ps there)
    where
      by_pair : HasPair (options_of v) ps → Each (IsInside set first) ps
      by_pair pair =
          let is : value_in ps (codes "--set") ≡ Some set = given-value ps (codes "--set") set law.once given_set in
          let same : text_in ps (codes "--first") ≡ first = text_is (options_of v) ps law (codes "--first") first given_first in
          let clear : outside_from set (text_in ps (codes "--first")) [] ps ≡ None = sym (ap (λ o. set_fault_by o ps) is) ∙ e in
          subst (λ (w : Text). Each (IsInside set w) ps) same
          (from_none set (text_in ps (codes "--first")) (set_numerals (options_of v) ps law pair set given_set) (first_numeral (options_of v) ps law pair) [] ps
          (each_numbered (options_of v) ps law pair ps law.each) clear)

  pub inside_complete : AreInside ps → set_fault ps ≡ None
  inside_complete inside = by_value (value_in ps (codes "--set")) refl
    where
      by_value : (o : Option Text) → value_in ps (codes "--set") ≡ o → set_fault_by o ps ≡ None
      by_value None is = refl
      by_value (Some set) is = ⊎_elim (λ none. absurd (unknown (options_of v) ps (codes "--set") set law.each (value-given ps (codes "--set") set is) none)) by_pair (has_pair v ps there)
        where
          by_pair : HasPair (options_of v) ps → outside_from set (text_in ps (codes "--first")) [] ps ≡ None
          by_pair pair =
              let g : Gives ps (codes "--set") set = value-given ps (codes "--set") set is in
              none_from set (text_in ps (codes "--first")) (set_numerals (options_of v) ps law pair set g) (first_numeral (options_of v) ps law pair) [] ps
              (each_numbered (options_of v) ps law pair ps law.each) (inside set (text_in ps (codes "--first")) g (first_given (options_of v) ps law pair))

  pub outside_found : (f : WordFault) → set_fault ps ≡ Some f → IsFoundOutside ps f
  outside_found f e = by_value (value_in ps (codes "--set")) refl e
    where
      by_value : (o : Option Text) → value_in ps (codes "--set") ≡ o → set_fault_by o ps ≡ Some f → IsFoundOutside ps f
      by_value None is e = cc
      by_value (Some set) is e = ⊎_elim (λ none. absurd (unknown (options_of v) ps (codes "--set") set law.each (value-given ps (codes "--set") set is) none)) by_pair (has_pair v ps there)
        where
          by_pair : HasPair (options_of v) ps → IsFoundOutside ps f
          by_pair pair =
              let g : Gives ps (codes "--set") set = value-given ps (codes "--set") set is in
              let found =
              from_some set (text_in ps (codes "--first")) (set_numerals (options_of v) ps law pair set g) (first_numeral (options_of v) ps law pair) [] ps ps f refl tt
              (each_numbered (options_of v) ps law pair ps law.each) e in
              record {
                set = set;
                first = text_in ps (codes "--first");
                before = found.before;
                pair = found.pair;
                after = found.after;
                split = found.split;
                given_set = g;
                given_first = first_given (options_of v) ps law pair;
                inside = found.inside;
                outside = found.outside;
                is = found.is;
              }

pub outside_told : (v : Verb) (before : List Given) (p : Given) (after : List Given) (set first : Text) → AreLawful (options_of v) (before ++ p ∷ after) → AreThere (options_of v) (before ++ p ∷ after) →
    Gives (before ++ p ∷ after) (codes "--set") set → Gives (before ++ p ∷ after) (codes "--first") first → Each (IsInside set first) before → IsOutside set first p →
    set_fault (before ++ p ∷ after) ≡ Some (fault.NotInSet (option_place before + 1))
outside_told v before p after set first law there given_set given_first inside out =
    ⊎_elim (λ none. absurd (unknown (options_of v) (before ++ p ∷ after) (codes "--set") set law.each given_set none)) by_pair (has_pair v (before ++ p ∷ after) there)
  where
    by_pair : HasPair (options_of v) (before ++ p ∷ after) → set_fault (before ++ p ∷ after) ≡ Some (fault.NotInSet (option_place before + 1))
    by_pair pair =
        let ps = before ++ p ∷ after in
        let is : value_in ps (codes "--set") ≡ Some set = given-value ps (codes "--set") set law.once given_set in
        let same : text_in ps (codes "--first") ≡ first = text_is (options_of v) ps law (codes "--first") first given_first in
        ap (λ o. set_fault_by o ps) is ∙ ap (λ w. outside_from set w [] ps) same
        ∙ some_from set first (set_numerals (options_of v) ps law pair set given_set) (subst IsNumeral same (first_numeral (options_of v) ps law pair)) [] before p after
        (each_numbered (options_of v) ps law pair ps law.each) inside out
