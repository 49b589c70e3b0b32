-- What the definitions say of options is what is read.
use Rattle.std.proofs.Common.{◌≡◌, ◌≢◌, inl, inr, ℕ, ◌+◌, ◌&&◌, Bool, true, false, List, [], ◌∷◌, ◌++◌, length, Some, None, if◌then◌else◌, sym, subst, ap, ◌∙◌, refl, arith, append_assoc}
use Rattle.std.specs.Str.{bytes_eq}
use Rattle.std.proofs.lemmas.List.{append-nil}
use Rattle.std.proofs.lemmas.Bool.{and_parts, and_from, or_left, or_right, false_from_ne_true}
use Rattle.verb_command_line.specs.declared.choice.OptionKind.{OptionKind}
use Rattle.verb_command_line.specs.declared.fault.WordFault.{WordFault}
use Rattle.verb_command_line.specs.declared.fault.WordFault.TheVariants as fault
use Rattle.verb_command_line.specs.Commands.{Text, Given, spread}
use Rattle.verb_command_line.specs.Table.{Choice, kind_in, Fits}
use Rattle.verb_command_line.specs.Meaning.{Each, Gives, IsNotGiven, IsLawful, AreLawful, IsThere, AreThere, IsFile, SameFile, AreDifferent, option_place, BreaksOption, unknown_option, comes_twice, no_value, bad_number, missing, same_name}
use Rattle.verb_command_line.specs.WordReading.{fits, pairs_of, value_in, first_of, fault_by, fault_here, pair_fault, missing_by, missing_from, is_file_of, is_file_in, has_file, same_here, same_from, option_fault}
use Rattle.verb_command_line.specs.CommandView.{rule_of, place_of}
use Rattle.verb_command_line.proofs.ListLemmas.{Each-back, EachTwo-at}
use Rattle.verb_command_line.proofs.FitLemmas.{fits-Fits, Fits-fits}
use Rattle.verb_command_line.proofs.PairLemmas.{pairs_of-spread, not-none, given-some}
use Rattle.verb_command_line.proofs.SoundLemmas.{next_of, has_sound, file_sound}
use Rattle.base_values.proofs.ListLaws.{same_bytes}

-- An option that fits is no fault.
here_clear : (options : List Choice) (before : List Given) (option value : Text) (k : OptionKind) → kind_in options option ≡ Some k → Fits k value → IsNotGiven before option →
    fault_here options before option (Some value) ≡ None
here_clear options before option value k known fit new =
    ap (λ o. fault_by o (value_in before option) (Some value) (option_place before)) known
    ∙ ap (λ e. fault_by (Some k) e (Some value) (option_place before)) (not-none before option new)
    ∙ ap (λ t. if t then None else Some (fault.BadNumber (option_place before + 1))) (Fits-fits k value fit)

-- Lawful pairs are passed over.
pub pair_on : (options : List Choice) (before ps : List Given) (rest : List Text) → AreLawful options (before ++ ps) →
    pair_fault options before (spread ps ++ rest) ≡ pair_fault options (before ++ ps) rest
pair_on options before [] rest law = ap (λ b. pair_fault options b rest) (sym (append-nil before))
pair_on options before (p ∷ ps) rest law =
    let lawful : IsLawful options p = (Each-back (IsLawful options) before (p ∷ ps) law.each).0 in
    let new : IsNotGiven before p.option = EachTwo-at (λ p q. p.option ≢ q.option) before p ps law.once in
    ap (λ f. first_of f (pair_fault options (before ++ p ∷ []) (spread ps ++ rest))) (here_clear options before p.option p.value lawful.kind lawful.known lawful.fits new)
    ∙ pair_on options (before ++ p ∷ []) ps rest (subst (AreLawful options) (sym (append_assoc before (p ∷ []) ps)) law)
    ∙ ap (λ b. pair_fault options b rest) (append_assoc before (p ∷ []) ps)

pub pair_clear : (options : List Choice) (ps : List Given) → AreLawful options ps → pair_fault options [] (spread ps) ≡ None
pair_clear options ps law = ap (λ words. pair_fault options [] words) (sym (append-nil (spread ps))) ∙ pair_on options [] ps [] law

pair_at : (options : List Choice) (before : List Given) (option : Text) (rest : List Text) (f : WordFault) → fault_here options before option (next_of rest) ≡ Some f →
    pair_fault options before (option ∷ rest) ≡ Some f
pair_at options before option [] f e = e
pair_at options before option (v ∷ after) f e = ap (λ g. first_of g (pair_fault options (before ++ record { option = option; value = v } ∷ []) after)) e

pub record Found (options : List Choice) (words : List Text) (rule place : ℕ) : Type 0 where
  pub fault : WordFault
  pub found : option_fault options words ≡ Some fault
  pub rule_is : rule_of fault ≡ rule
  pub place_is : place_of fault ≡ place

-- a fault of an option is found where it stands
found_at : (options : List Choice) (words : List Text) (before : List Given) (option : Text) (rest : List Text) (f : WordFault) → words ≡ spread before ++ option ∷ rest → AreLawful options before →
    fault_here options before option (next_of rest) ≡ Some f → option_fault options words ≡ Some f
found_at options words before option rest f spelled law e =
    let found : pair_fault options [] words ≡ Some f =
    ap (λ ws. pair_fault options [] ws) spelled ∙ pair_on options [] before (option ∷ rest) law ∙ pair_at options before option rest f e in
    ap (λ g. first_of g (first_of (missing_from 1 options (pairs_of words)) (same_from options [] (pairs_of words)))) found

-- Options that are there.
there_clear : (c : Choice) (pairs : List Given) (place : ℕ) → IsThere pairs c → missing_by c.required (value_in pairs c.name) place ≡ None
there_clear c pairs place there = by_test c.required refl where
  by_test : (r : Bool) → c.required ≡ r → missing_by r (value_in pairs c.name) place ≡ None
  by_test true is = let given = there is in ap (λ o. missing_by true o place) (given-some pairs c.name given.0 given.1).1
  by_test false is = refl

pub missing_clear : (options : List Choice) (pairs : List Given) (place : ℕ) → AreThere options pairs → missing_from place options pairs ≡ None
missing_clear [] pairs place there = refl
missing_clear (c ∷ cs) pairs place there = ap (λ f. first_of f (missing_from (place + 1) cs pairs)) (there_clear c pairs place there.0) ∙ missing_clear cs pairs (place + 1) there.1

missing_at : (front : List Choice) (c : Choice) (back : List Choice) (pairs : List Given) (place : ℕ) → Each (IsThere pairs) front → c.required ≡ true → IsNotGiven pairs c.name →
    missing_from place (front ++ c ∷ back) pairs ≡ Some (fault.Missing (length front + place))
missing_at [] c back pairs place there needed left_out =
    ap (λ r. first_of (missing_by r (value_in pairs c.name) place) (missing_from (place + 1) back pairs)) needed
    ∙ ap (λ o. first_of (missing_by true o place) (missing_from (place + 1) back pairs)) (not-none pairs c.name left_out)
    ∙ ap (λ n. Some (fault.Missing n)) (omega arith)
missing_at (b ∷ front) c back pairs place there needed left_out =
    ap (λ f. first_of f (missing_from (place + 1) (front ++ c ∷ back) pairs)) (there_clear b pairs place there.0)
    ∙ missing_at front c back pairs (place + 1) there.1 needed left_out
    ∙ ap (λ n. Some (fault.Missing n)) (omega arith)

-- Files.
given_pair : (P : Given → Type 0) (ps : List Given) (q : Given) → Each P ps → Gives ps q.option q.value → P q
given_pair P [] q f g = absurd g
given_pair P (p ∷ ps) q f (inl here) =
    let same : p ≡ q = ap (λ (o : Text). record { option = o; value = p.value }) here.0 ∙ ap (λ (v : Text). record { option = q.option; value = v }) here.1 in subst P same f.0
given_pair P (p ∷ ps) q f (inr more) = given_pair P ps q f.1 more

different_clear : (options : List Choice) (before : List Given) (p : Given) → Each (λ q. SameFile options q p → ⊥) before → same_here options before p ≡ None
different_clear options before p different =
    let off : (is_file_in options p.option && has_file options before p.value) ≡ false = false_from_ne_true (is_file_in options p.option && has_file options before p.value) clash in
    ap (λ t. if t then Some (fault.SameName (option_place before + 1)) else None) off where
      clash : (is_file_in options p.option && has_file options before p.value) ≡ true → ⊥
      clash e =
          let both = and_parts (is_file_in options p.option) (has_file options before p.value) e in
          let has = has_sound options before p.value both.1 in
          given_pair (λ q. SameFile options q p → ⊥) before has.file different has.given (record { first = has.is_file; second = file_sound options p both.0; same = has.named })

pub same_on : (options : List Choice) (before ps rest : List Given) → AreDifferent options (before ++ ps) → same_from options before (ps ++ rest) ≡ same_from options (before ++ ps) rest
same_on options before [] rest different = ap (λ b. same_from options b rest) (sym (append-nil before))
same_on options before (p ∷ ps) rest different =
    ap (λ f. first_of f (same_from options (before ++ p ∷ []) (ps ++ rest)))
    (different_clear options before p (EachTwo-at (λ q r. SameFile options q r → ⊥) before p ps different))
    ∙ same_on options (before ++ p ∷ []) ps rest (subst (AreDifferent options) (sym (append_assoc before (p ∷ []) ps)) different)
    ∙ ap (λ b. same_from options b rest) (append_assoc before (p ∷ []) ps)

pub same_clear : (options : List Choice) (ps : List Given) → AreDifferent options ps → same_from options [] ps ≡ None
same_clear options ps different = ap (λ qs. same_from options [] qs) (sym (append-nil ps)) ∙ same_on options [] ps [] different

has_given : (options : List Choice) (ps : List Given) (q : Given) (name : Text) → Gives ps q.option q.value → IsFile options q → q.value ≡ name → has_file options ps name ≡ true
has_given options [] q name g file named = absurd g
has_given options (p ∷ ps) q name (inl here) file named =
    or_left (is_file_in options p.option && bytes_eq p.value name) (has_file options ps name)
    (and_from (is_file_in options p.option) (bytes_eq p.value name) (ap (λ o. is_file_in options o) here.0 ∙ ap is_file_of file) (same_bytes p.value name (here.1 ∙ named)))
has_given options (p ∷ ps) q name (inr more) file named =
    or_right (is_file_in options p.option && bytes_eq p.value name) (has_file options ps name) (has_given options ps q name more file named)

same_at : (options : List Choice) (before : List Given) (p : Given) (after : List Given) (q : Given) → AreDifferent options before → Gives before q.option q.value → SameFile options q p →
    same_from options [] (before ++ p ∷ after) ≡ Some (fault.SameName (option_place before + 1))
same_at options before p after q different given same =
    let on : (is_file_in options p.option && has_file options before p.value) ≡ true =
    and_from (is_file_in options p.option) (has_file options before p.value) (ap is_file_of same.second) (has_given options before q p.value given same.first same.same) in
    same_on options [] before (p ∷ after) different
    ∙ ap (λ t. first_of (if t then Some (fault.SameName (option_place before + 1)) else None) (same_from options (before ++ p ∷ []) after)) on

-- What is broken first is found.
pub option_complete : (options : List Choice) (words : List Text) (rule place : ℕ) → BreaksOption options words rule place → Found options words rule place
option_complete options words rule place (unknown_option before option after spelled law unknown) = record {
  fault = fault.UnknownOption (option_place before);
  found = found_at options words before option after (fault.UnknownOption (option_place before)) spelled law
      (ap (λ o. fault_by o (value_in before option) (next_of after) (option_place before)) unknown);
  rule_is = refl;
  place_is = refl;
}
option_complete options words rule place (comes_twice before option after k spelled law known given) = record {
  fault = fault.Twice (option_place before);
  found = found_at options words before option after (fault.Twice (option_place before)) spelled law
      (ap (λ o. fault_by o (value_in before option) (next_of after) (option_place before)) known
      ∙ ap (λ e. fault_by (Some k) e (next_of after) (option_place before)) (given-some before option given.0 given.1).1);
  rule_is = refl;
  place_is = refl;
}
option_complete options words rule place (no_value before option k spelled law known new) = record {
  fault = fault.NoValue (option_place before);
  found = found_at options words before option [] (fault.NoValue (option_place before)) spelled law
      (ap (λ o. fault_by o (value_in before option) None (option_place before)) known ∙ ap (λ e. fault_by (Some k) e None (option_place before)) (not-none before option new));
  rule_is = refl;
  place_is = refl;
}
option_complete options words rule place (bad_number before option value after k spelled law known new unfit) = record {
  fault = fault.BadNumber (option_place before + 1);
  found = found_at options words before option (value ∷ after) (fault.BadNumber (option_place before + 1)) spelled law
      (ap (λ o. fault_by o (value_in before option) (Some value) (option_place before)) known
      ∙ ap (λ e. fault_by (Some k) e (Some value) (option_place before)) (not-none before option new)
      ∙ ap (λ t. if t then None else Some (fault.BadNumber (option_place before + 1))) (false_from_ne_true (fits k value) (λ e. unfit (fits-Fits k value e))));
  rule_is = refl;
  place_is = refl;
}
option_complete options words rule place (missing pairs front c back spelled law split there needed left_out) = record {
  fault = fault.Missing (length front + 1);
  found =
      let pairs_are : pairs_of words ≡ pairs = ap pairs_of spelled ∙ pairs_of-spread pairs in
      let none : pair_fault options [] words ≡ None = ap (λ ws. pair_fault options [] ws) spelled ∙ pair_clear options pairs law in
      let lacks : missing_from 1 options (pairs_of words) ≡ Some (fault.Missing (length front + 1)) =
      ap (λ ps. missing_from 1 options ps) pairs_are ∙ ap (λ cs. missing_from 1 cs pairs) split ∙ missing_at front c back pairs 1 there needed left_out in
      ap (λ f. first_of f (first_of (missing_from 1 options (pairs_of words)) (same_from options [] (pairs_of words)))) none
      ∙ ap (λ f. first_of f (same_from options [] (pairs_of words))) lacks;
  rule_is = refl;
  place_is = refl;
}
option_complete options words rule place (same_name before p after q spelled law there different given same) = record {
  fault = fault.SameName (option_place before + 1);
  found =
      let pairs_are : pairs_of words ≡ before ++ p ∷ after = ap pairs_of spelled ∙ pairs_of-spread (before ++ p ∷ after) in
      let none : pair_fault options [] words ≡ None = ap (λ ws. pair_fault options [] ws) spelled ∙ pair_clear options (before ++ p ∷ after) law in
      let full : missing_from 1 options (pairs_of words) ≡ None = ap (λ ps. missing_from 1 options ps) pairs_are ∙ missing_clear options (before ++ p ∷ after) 1 there in
      ap (λ f. first_of f (first_of (missing_from 1 options (pairs_of words)) (same_from options [] (pairs_of words)))) none
      ∙ ap (λ f. first_of f (same_from options [] (pairs_of words))) full
      ∙ ap (λ ps. same_from options [] ps) pairs_are ∙ same_at options before p after q different given same;
  rule_is = refl;
  place_is = refl;
}

-- And lawful, complete and different pairs have no fault.
pub option_clear : (options : List Choice) (ps : List Given) → AreLawful options ps → AreThere options ps → AreDifferent options ps → option_fault options (spread ps) ≡ None
option_clear options ps law there different =
    ap (λ f. first_of f (first_of (missing_from 1 options (pairs_of (spread ps))) (same_from options [] (pairs_of (spread ps))))) (pair_clear options ps law)
    ∙ ap (λ qs. first_of (missing_from 1 options qs) (same_from options [] qs)) (pairs_of-spread ps)
    ∙ ap (λ f. first_of f (same_from options [] ps)) (missing_clear options ps 1 there) ∙ same_clear options ps different
