-- What is read of options, their values and their files is so.
use Rattle.std.proofs.Common.{◌≡◌, ◌≢◌, ◌⊎◌, inl, inr, ⊎_elim, ℕ, ◌+◌, ◌&&◌, Bool, true, false, List, [], ◌∷◌, ◌++◌, length, Option, Some, None, if◌then◌else◌, sym, subst, ap, ◌∙◌, refl, arith, append_assoc}
use Rattle.std.specs.Str.{bytes_eq}
use Rattle.std.proofs.lemmas.List.{append-nil}
use Rattle.std.proofs.lemmas.Bool.{false≢true, and_parts, and_from, and_cases, or_cases, or_parts}
use Rattle.verb_command_line.specs.declared.choice.OptionKind.{OptionKind}
use Rattle.verb_command_line.specs.declared.choice.OptionKind.TheVariants as kind
use Rattle.verb_command_line.specs.declared.fault.WordFault.{WordFault}
use Rattle.verb_command_line.specs.declared.fault.WordFault.TheVariants as fault
use Rattle.verb_command_line.specs.Commands.{Text, Given, spread}
use Rattle.verb_command_line.specs.Table.{Choice, kind_in}
use Rattle.verb_command_line.specs.Meaning.{Each, Gives, IsNotGiven, IsLawful, AreLawful, IsThere, AreThere, IsFile, SameFile, AreDifferent, option_place, BreaksOption, unknown_option, comes_twice, no_value, bad_number, missing, same_name}
use Rattle.verb_command_line.specs.WordReading.{fits, pairs_of, value_in, first_of, fault_by, fault_here, pair_fault, missing_by, missing_from, is_file_of, is_file_in, has_file, same_here, same_from, option_fault}
use Rattle.verb_command_line.specs.CommandView.{rule_of, place_of}
use Rattle.verb_command_line.proofs.ListLemmas.{bytes_same, Each-append, EachTwo-push}
use Rattle.verb_command_line.proofs.FitLemmas.{fits-Fits, Fits-fits}
use Rattle.verb_command_line.proofs.PairLemmas.{spread-append, value-given, none-not}
use Rattle.base_values.proofs.ListLaws.{same_bytes}

-- Two outcomes one after another.
pub first_cases : (a b : Option WordFault) (f : WordFault) → first_of a b ≡ Some f → (a ≡ Some f) ⊎ ((a ≡ None) × (b ≡ Some f))
first_cases None b f e = inr (refl, e)
first_cases (Some g) b f e = inl e

pub first_none : (a b : Option WordFault) → first_of a b ≡ None → (a ≡ None) × (b ≡ None)
first_none None b e = (refl, e)
first_none (Some g) b e = cc

-- An option and its value in which no fault is found.
pub record Passes (options : List Choice) (before : List Given) (option value : Text) : Type 0 where
  pub kind : OptionKind
  pub known : kind_in options option ≡ Some kind
  pub new : value_in before option ≡ None
  pub fits : fits kind value ≡ true

test_passes : (t : Bool) (f : WordFault) → (if t then None else Some f) ≡ None → t ≡ true
test_passes true f e = refl
test_passes false f e = cc

passes_by : (options : List Choice) (before : List Given) (option value : Text) (at : ℕ) (k : Option OptionKind) → kind_in options option ≡ k → (e : Option Text) → value_in before option ≡ e →
    fault_by k e (Some value) at ≡ None → Passes options before option value
passes_by options before option value at None ik e ie is = cc
passes_by options before option value at (Some k) ik (Some e) ie is = cc
passes_by options before option value at (Some k) ik None ie is = record { kind = k; known = ik; new = ie; fits = test_passes (fits k value) (fault.BadNumber (at + 1)) is }

pub passed : (options : List Choice) (before : List Given) (option value : Text) (at : ℕ) → fault_by (kind_in options option) (value_in before option) (Some value) at ≡ None →
    Passes options before option value
passed options before option value at is = passes_by options before option value at (kind_in options option) refl (value_in before option) refl is

pub lawful_none : (options : List Choice) → AreLawful options []
lawful_none options = record { each = tt; once = tt }

pub lawful_more : (options : List Choice) (before : List Given) (option value : Text) → AreLawful options before → Passes options before option value →
    AreLawful options (before ++ record { option = option; value = value } ∷ [])
lawful_more options before option value law p = record {
  each = Each-append (IsLawful options) before (record { option = option; value = value } ∷ []) law.each (record { kind = p.kind; known = p.known; fits = fits-Fits p.kind value p.fits }, tt);
  once = EachTwo-push (λ p q. p.option ≢ q.option) before (record { option = option; value = value }) law.once (none-not before option p.new);
}

pub spread_push : (before : List Given) (p : Given) (rest : List Text) → spread (before ++ p ∷ []) ++ rest ≡ spread before ++ p.option ∷ p.value ∷ rest
spread_push before p rest = ap (λ words. words ++ rest) (spread-append before (p ∷ [])) ∙ append_assoc (spread before) (p.option ∷ p.value ∷ []) rest

-- The word after an option.
abbrev pub next_of : List Text → Option Text
next_of [] = None
next_of (w ∷ ws) = Some w

told : (options : List Choice) (all : List Text) (g f : WordFault) → BreaksOption options all (rule_of g) (place_of g) → Some g ≡ Some f → BreaksOption options all (rule_of f) (place_of f)
told options all g f broken e = let same : g ≡ f = cc in subst (λ (h : WordFault). BreaksOption options all (rule_of h) (place_of h)) same broken

number_told : (options : List Choice) (before : List Given) (all : List Text) (option value : Text) (after : List Text) (law : AreLawful options before) →
    all ≡ spread before ++ option ∷ value ∷ after → (k : OptionKind) → kind_in options option ≡ Some k → IsNotGiven before option → (t : Bool) → fits k value ≡ t → (f : WordFault) →
    (if t then None else Some (fault.BadNumber (option_place before + 1))) ≡ Some f → BreaksOption options all (rule_of f) (place_of f)
number_told options before all option value after law spelled k ik new true it f e = cc
number_told options before all option value after law spelled k ik new false it f e =
    told options all (fault.BadNumber (option_place before + 1)) f
    (bad_number before option value after k spelled law ik new (λ fit. false≢true (sym it ∙ Fits-fits k value fit))) e

told_by : (options : List Choice) (before : List Given) (all : List Text) (option : Text) (rest : List Text) (law : AreLawful options before) → all ≡ spread before ++ option ∷ rest →
    (k : Option OptionKind) → kind_in options option ≡ k → (e : Option Text) → value_in before option ≡ e → (f : WordFault) → fault_by k e (next_of rest) (option_place before) ≡ Some f →
    BreaksOption options all (rule_of f) (place_of f)
told_by options before all option rest law spelled None ik e ie f is = told options all (fault.UnknownOption (option_place before)) f (unknown_option before option rest spelled law ik) is
told_by options before all option rest law spelled (Some k) ik (Some e) ie f is =
    told options all (fault.Twice (option_place before)) f (comes_twice before option rest k spelled law ik (e, value-given before option e ie)) is
told_by options before all option [] law spelled (Some k) ik None ie f is =
    told options all (fault.NoValue (option_place before)) f (no_value before option k spelled law ik (none-not before option ie)) is
told_by options before all option (v ∷ after) law spelled (Some k) ik None ie f is =
    number_told options before all option v after law spelled k ik (none-not before option ie) (fits k v) refl f is

-- The fault that is found at an option is broken there.
pub here_sound : (options : List Choice) (before : List Given) (all : List Text) (option : Text) (rest : List Text) (f : WordFault) → AreLawful options before →
    all ≡ spread before ++ option ∷ rest → fault_here options before option (next_of rest) ≡ Some f → BreaksOption options all (rule_of f) (place_of f)
here_sound options before all option rest f law spelled is =
    told_by options before all option rest law spelled (kind_in options option) refl (value_in before option) refl f is

-- From left to right.
pub pair_sound : (options : List Choice) (before : List Given) (words all : List Text) (f : WordFault) → AreLawful options before → all ≡ spread before ++ words →
    pair_fault options before words ≡ Some f → BreaksOption options all (rule_of f) (place_of f)
pair_sound options before [] all f law spelled e = cc
pair_sound options before (o ∷ []) all f law spelled e = here_sound options before all o [] f law spelled e
pair_sound options before (o ∷ v ∷ rest) all f law spelled e =
    ⊎_elim
    (λ here. here_sound options before all o (v ∷ rest) f law spelled here)
    (λ later. pair_sound options (before ++ record { option = o; value = v } ∷ []) rest all f
    (lawful_more options before o v law (passed options before o v (option_place before) later.0))
    (spelled ∙ sym (spread_push before (record { option = o; value = v }) rest)) later.1)
    (first_cases (fault_here options before o (Some v)) (pair_fault options (before ++ record { option = o; value = v } ∷ []) rest) f e)

-- Words in which no fault is found are lawful pairs.
pub record ArePairs (options : List Choice) (before : List Given) (words : List Text) : Type 0 where
  pub spelled : words ≡ spread (pairs_of words)
  pub lawful : AreLawful options (before ++ pairs_of words)

not_alone : (k : Option OptionKind) (e : Option Text) (at : ℕ) → fault_by k e None at ≡ None → ⊥
not_alone None e at is = cc
not_alone (Some k) (Some e) at is = cc
not_alone (Some k) None at is = cc

pub pairs_sound : (options : List Choice) (before : List Given) (words : List Text) → AreLawful options before → pair_fault options before words ≡ None → ArePairs options before words
pairs_sound options before [] law e = record { spelled = refl; lawful = subst (AreLawful options) (sym (append-nil before)) law }
pairs_sound options before (o ∷ []) law e = absurd (not_alone (kind_in options o) (value_in before o) (option_place before) e)
pairs_sound options before (o ∷ v ∷ rest) law e =
    let both = first_none (fault_here options before o (Some v)) (pair_fault options (before ++ record { option = o; value = v } ∷ []) rest) e in
    let more : ArePairs options (before ++ record { option = o; value = v } ∷ []) rest =
    pairs_sound options (before ++ record { option = o; value = v } ∷ []) rest (lawful_more options before o v law (passed options before o v (option_place before) both.0)) both.1 in
    record {
      spelled = ap (λ words. o ∷ v ∷ words) more.spelled;
      lawful = subst (AreLawful options) (append_assoc before (record { option = o; value = v } ∷ []) (pairs_of rest)) more.lawful;
    }

-- A missing option.
pub record Misses (options : List Choice) (pairs : List Given) (place : ℕ) (f : WordFault) : Type 0 where
  pub front : List Choice
  pub choice : Choice
  pub back : List Choice
  pub split : options ≡ front ++ choice ∷ back
  pub there : Each (IsThere pairs) front
  pub needed : choice.required ≡ true
  pub left_out : IsNotGiven pairs choice.name
  pub is : f ≡ fault.Missing (length front + place)

misses_later : (c : Choice) (cs : List Choice) (pairs : List Given) (place : ℕ) (f : WordFault) → IsThere pairs c → Misses cs pairs (place + 1) f → Misses (c ∷ cs) pairs place f
misses_later c cs pairs place f there m = record {
  front = c ∷ m.front;
  choice = m.choice;
  back = m.back;
  split = ap (λ ds. c ∷ ds) m.split;
  there = (there, m.there);
  needed = m.needed;
  left_out = m.left_out;
  is = m.is ∙ ap (λ n. fault.Missing n) (omega arith);
}

misses_by : (c : Choice) (cs : List Choice) (pairs : List Given) (place : ℕ) (f : WordFault) (r : Bool) → c.required ≡ r → (v : Option Text) → value_in pairs c.name ≡ v →
    (missing_from (place + 1) cs pairs ≡ Some f → Misses cs pairs (place + 1) f) → first_of (missing_by r v place) (missing_from (place + 1) cs pairs) ≡ Some f → Misses (c ∷ cs) pairs place f
misses_by c cs pairs place f true ir None iv more e = record {
  front = [];
  choice = c;
  back = cs;
  split = refl;
  there = tt;
  needed = ir;
  left_out = none-not pairs c.name iv;
  is = let same : f ≡ fault.Missing place = cc in same ∙ ap (λ n. fault.Missing n) (omega arith);
}
misses_by c cs pairs place f true ir (Some v) iv more e = misses_later c cs pairs place f (λ _. (v, value-given pairs c.name v iv)) (more e)
misses_by c cs pairs place f false ir v iv more e = misses_later c cs pairs place f (λ needed. absurd (false≢true (sym ir ∙ needed))) (more e)

pub missing_sound : (options : List Choice) (pairs : List Given) (place : ℕ) (f : WordFault) → missing_from place options pairs ≡ Some f → Misses options pairs place f
missing_sound [] pairs place f e = cc
missing_sound (c ∷ cs) pairs place f e = misses_by c cs pairs place f c.required refl (value_in pairs c.name) refl (missing_sound cs pairs (place + 1) f) e

there_by : (c : Choice) (pairs : List Given) (place : ℕ) (r : Bool) → c.required ≡ r → (v : Option Text) → value_in pairs c.name ≡ v → missing_by r v place ≡ None → IsThere pairs c
there_by c pairs place true ir None iv e = cc
there_by c pairs place true ir (Some v) iv e = λ _. (v, value-given pairs c.name v iv)
there_by c pairs place false ir v iv e = λ needed. absurd (false≢true (sym ir ∙ needed))

pub there_sound : (options : List Choice) (pairs : List Given) (place : ℕ) → missing_from place options pairs ≡ None → AreThere options pairs
there_sound [] pairs place e = tt
there_sound (c ∷ cs) pairs place e =
    let both = first_none (missing_by c.required (value_in pairs c.name) place) (missing_from (place + 1) cs pairs) e in
    (there_by c pairs place c.required refl (value_in pairs c.name) refl both.0, there_sound cs pairs (place + 1) both.1)

-- Files.
file_by : (k : Option OptionKind) → is_file_of k ≡ true → k ≡ Some kind.File
file_by None e = absurd (false≢true e)
file_by (Some kind.File) e = refl
file_by (Some kind.Event) e = absurd (false≢true e)
file_by (Some (kind.Number least most)) e = absurd (false≢true e)
file_by (Some kind.Set) e = absurd (false≢true e)
file_by (Some kind.Claim) e = absurd (false≢true e)

pub file_sound : (options : List Choice) (p : Given) → is_file_in options p.option ≡ true → IsFile options p
file_sound options p e = file_by (kind_in options p.option) e

pub record HasFile (options : List Choice) (pairs : List Given) (name : Text) : Type 0 where
  pub file : Given
  pub given : Gives pairs file.option file.value
  pub is_file : IsFile options file
  pub named : file.value ≡ name

pub has_sound : (options : List Choice) (ps : List Given) (name : Text) → has_file options ps name ≡ true → HasFile options ps name
has_sound options [] name e = absurd (false≢true e)
has_sound options (p ∷ ps) name e =
    ⊎_elim
    (λ here. let both = and_parts (is_file_in options p.option) (bytes_eq p.value name) here in
    record { file = p; given = inl (refl, refl); is_file = file_sound options p both.0; named = bytes_same p.value name both.1 })
    (λ later. let more = has_sound options ps name later in record { file = more.file; given = inr more.given; is_file = more.is_file; named = more.named })
    (or_cases (is_file_in options p.option && bytes_eq p.value name) (has_file options ps name) e)

no_file : (options : List Choice) (ps : List Given) (p : Given) → is_file_in options p.option ≡ false → Each (λ q. SameFile options q p → ⊥) ps
no_file options [] p e = tt
no_file options (q ∷ qs) p e = (λ s. false≢true (sym e ∙ ap is_file_of s.second), no_file options qs p e)

no_name : (options : List Choice) (ps : List Given) (p : Given) → has_file options ps p.value ≡ false → Each (λ q. SameFile options q p → ⊥) ps
no_name options [] p e = tt
no_name options (q ∷ qs) p e =
    let both = or_parts (is_file_in options q.option && bytes_eq q.value p.value) (has_file options qs p.value) e in
    (λ s. false≢true (sym both.0 ∙ and_from (is_file_in options q.option) (bytes_eq q.value p.value) (ap is_file_of s.first) (same_bytes q.value p.value s.same)), no_name options qs p both.1)

pub differs : (options : List Choice) (ps : List Given) (p : Given) → (is_file_in options p.option && has_file options ps p.value) ≡ false → Each (λ q. SameFile options q p → ⊥) ps
differs options ps p e =
    ⊎_elim (λ other. no_file options ps p other) (λ none. no_name options ps p none) (and_cases (is_file_in options p.option) (has_file options ps p.value) e)

pub record Repeats (options : List Choice) (pairs : List Given) (f : WordFault) : Type 0 where
  pub front : List Given
  pub pair : Given
  pub back : List Given
  pub file : Given
  pub split : pairs ≡ front ++ pair ∷ back
  pub different : AreDifferent options front
  pub given : Gives front file.option file.value
  pub same : SameFile options file pair
  pub is : f ≡ fault.SameName (option_place front + 1)

repeats_by : (options : List Choice) (before : List Given) (p : Given) (ps : List Given) (all : List Given) (f : WordFault) (t : Bool) → all ≡ before ++ p ∷ ps → AreDifferent options before →
    (is_file_in options p.option && has_file options before p.value) ≡ t →
    (AreDifferent options (before ++ p ∷ []) → same_from options (before ++ p ∷ []) ps ≡ Some f → Repeats options all f) →
    first_of (if t then Some (fault.SameName (option_place before + 1)) else None) (same_from options (before ++ p ∷ []) ps) ≡ Some f → Repeats options all f
repeats_by options before p ps all f true split different it more e =
    let both = and_parts (is_file_in options p.option) (has_file options before p.value) it in
    let has = has_sound options before p.value both.1 in
    record {
      front = before;
      pair = p;
      back = ps;
      file = has.file;
      split = split;
      different = different;
      given = has.given;
      same = record { first = has.is_file; second = file_sound options p both.0; same = has.named };
      is = cc;
    }
repeats_by options before p ps all f false split different it more e =
    more (EachTwo-push (λ q r. SameFile options q r → ⊥) before p different (differs options before p it)) e

pub same_sound : (options : List Choice) (before ps all : List Given) (f : WordFault) → all ≡ before ++ ps → AreDifferent options before → same_from options before ps ≡ Some f → Repeats options all f
same_sound options before [] all f split different e = cc
same_sound options before (p ∷ ps) all f split different e =
    repeats_by options before p ps all f (is_file_in options p.option && has_file options before p.value) split different refl
    (λ d. same_sound options (before ++ p ∷ []) ps all f (split ∙ sym (append_assoc before (p ∷ []) ps)) d) e

pub different_by : (t : Bool) (f : WordFault) → (if t then Some f else None) ≡ None → t ≡ false
different_by true f e = cc
different_by false f e = refl

pub different_sound : (options : List Choice) (before ps : List Given) → AreDifferent options before → same_from options before ps ≡ None → AreDifferent options (before ++ ps)
different_sound options before [] different e = subst (AreDifferent options) (sym (append-nil before)) different
different_sound options before (p ∷ ps) different e =
    let both = first_none (same_here options before p) (same_from options (before ++ p ∷ []) ps) e in
    let off : (is_file_in options p.option && has_file options before p.value) ≡ false =
    different_by (is_file_in options p.option && has_file options before p.value) (fault.SameName (option_place before + 1)) both.0 in
    subst (AreDifferent options) (append_assoc before (p ∷ []) ps)
    (different_sound options (before ++ p ∷ []) ps (EachTwo-push (λ q r. SameFile options q r → ⊥) before p different (differs options before p off)) both.1)

past_pairs : (options : List Choice) (words : List Text) (f : WordFault) → ArePairs options [] words →
    first_of (missing_from 1 options (pairs_of words)) (same_from options [] (pairs_of words)) ≡ Some f → BreaksOption options words (rule_of f) (place_of f)
past_pairs options words f are e =
    ⊎_elim
    (λ here. let m = missing_sound options (pairs_of words) 1 f here in
    subst (λ (g : WordFault). BreaksOption options words (rule_of g) (place_of g)) (sym m.is)
    (missing (pairs_of words) m.front m.choice m.back are.spelled are.lawful m.split m.there m.needed m.left_out))
    (λ later. let r = same_sound options [] (pairs_of words) (pairs_of words) f refl tt later.1 in
    subst (λ (g : WordFault). BreaksOption options words (rule_of g) (place_of g)) (sym r.is)
    (same_name r.front r.pair r.back r.file (are.spelled ∙ ap spread r.split) (subst (AreLawful options) r.split are.lawful)
    (subst (AreThere options) r.split (there_sound options (pairs_of words) 1 later.0)) r.different r.given r.same))
    (first_cases (missing_from 1 options (pairs_of words)) (same_from options [] (pairs_of words)) f e)

-- All rules of the words after a verb.
pub option_sound : (options : List Choice) (words : List Text) (f : WordFault) → option_fault options words ≡ Some f → BreaksOption options words (rule_of f) (place_of f)
option_sound options words f e =
    ⊎_elim
    (λ here. pair_sound options [] words words f (lawful_none options) refl here)
    (λ later. past_pairs options words f (pairs_sound options [] words (lawful_none options) later.0) later.1)
    (first_cases (pair_fault options [] words) (first_of (missing_from 1 options (pairs_of words)) (same_from options [] (pairs_of words))) f e)

pub record Holds (options : List Choice) (words : List Text) : Type 0 where
  pub spelled : words ≡ spread (pairs_of words)
  pub lawful : AreLawful options (pairs_of words)
  pub there : AreThere options (pairs_of words)
  pub different : AreDifferent options (pairs_of words)

pub option_holds : (options : List Choice) (words : List Text) → option_fault options words ≡ None → Holds options words
option_holds options words e =
    let both = first_none (pair_fault options [] words) (first_of (missing_from 1 options (pairs_of words)) (same_from options [] (pairs_of words))) e in
    let rest = first_none (missing_from 1 options (pairs_of words)) (same_from options [] (pairs_of words)) both.1 in
    let are = pairs_sound options [] words (lawful_none options) both.0 in
    record {
      spelled = are.spelled;
      lawful = are.lawful;
      there = there_sound options (pairs_of words) 1 rest.0;
      different = different_sound options [] (pairs_of words) tt rest.1;
    }
