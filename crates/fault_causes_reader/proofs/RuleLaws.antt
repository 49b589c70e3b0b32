-- The first rule that is found is the first that is broken.
use Rattle.std.proofs.Common.{◌≡◌, ℕ, suc, ◌+◌, ◌-◌, Bool, true, false, List, [], ◌∷◌, ◌++◌, Option, Some, None, length, map, refl, sym, ap, ◌∙◌}
use Rattle.std.specs.Prelude.{nat_lt, not, ◌||◌, flat_map, slice_get, option_map}
use Rattle.std.specs.List.{list_any}
use Rattle.std.proofs.lemmas.Grind.{flat_map-append}
use Rattle.std.proofs.lemmas.List.{length-map, append-nil, append_assoc}
use Rattle.std.proofs.lemmas.Option.{slice_get-map, same_Some as some_same}
use Rattle.base_values.specs.declared.limits.TheConstants.{MOST_EVENTS, LONGEST_WINDOW}
use Rattle.smv_language.specs.Language.{Text, Path, ProgramTree, same_text, is_among, EachBoth}
use Rattle.fault_weave.specs.Faults.{Fault}
use Rattle.fault_rules.specs.KeyedLists.{with_texts}
use Rattle.fault_rules.specs.Rules.{is_program_name}
use Rattle.fault_cause_laws.specs.Causes.{CommonCause}
use Rattle.fault_cause_laws.specs.CausesText.{WrittenCause}
use Rattle.fault_cause_laws.specs.CauseRules.{fault_path, is_path_among, has_double, names_of_cause, own_names, is_any_taken, CauseRule, no_such_fault, double_cause, double_strike, empty_window, too_wide, too_many, name_taken, first_of, broken_at, AllKept, are_owns_taken, IsBrokenAt, AreOwnsTaken, IsStrikeOf, AreReadAs}
use Rattle.fault_causes_reader.specs.BrokenRules.{is_any_among, broken_by, told_at, first_broken, are_owns_among, owns_told, taken_in}
use Rattle.fault_causes_reader.specs.CausesFile.{IsNumberOf, IsReadIn}
use Rattle.fault_rules.proofs.KeyedLaws.{among_texts}
use Rattle.fault_rules.proofs.LocalLaws.{program_has}
use Rattle.smv_language.proofs.BoolLaws.{or_assoc}
use Rattle.smv_language.proofs.AmongLaws.{among_joined}

any_same : {A : Type 0} (t u : A → Bool) → ((a : A) → t a ≡ u a) → (xs : List A) → list_any t xs ≡ list_any u xs
any_same t u same [] = refl
any_same t u same (x ∷ xs) = λ i. same x i || any_same t u same xs i

module _ (faults : List Fault) (w : ProgramTree) where
  abbrev paths : List Path
  paths = map fault_path faults

  -- the texts are those of the program and of what these causes add
  abbrev Taken : List Text → List WrittenCause → Type 0
  Taken taken before = (x : Text) → is_among taken x ≡ (is_program_name w x || is_among (flat_map names_of_cause before) x)

  pub taken_at_first : Taken (taken_in w) []
  taken_at_first x = program_has x w ∙ sym (by (is_program_name w x))
    where
      by : (b : Bool) → (b || false) ≡ b
      by true = refl
      by false = refl

  taken_more : (taken : List Text) (before : List WrittenCause) (c : WrittenCause) → Taken taken before → Taken (with_texts taken (names_of_cause c)) (before ++ c ∷ [])
  taken_more taken before c are x =
      among_texts taken (names_of_cause c) x ∙ ap (λ b. b || is_among (names_of_cause c) x) (are x)
      ∙ or_assoc (is_program_name w x) (is_among (flat_map names_of_cause before) x) (is_among (names_of_cause c) x)
      ∙ ap (λ b. is_program_name w x || b) (sym (among_joined (flat_map names_of_cause before) (names_of_cause c) x)
      ∙ ap (λ z. is_among (flat_map names_of_cause before ++ z) x) (sym (append-nil (names_of_cause c)))
      ∙ ap (λ z. is_among z x) (sym (flat_map-append names_of_cause before (c ∷ []))))

  -- the rules with what they are told of the number of faults and of names
  abbrev rules : ℕ → Bool → List WrittenCause → WrittenCause → Option CauseRule
  rules n named before c =
      first_of ((list_any (λ p. not (is_path_among paths p)) c.strikes, no_such_fault)
      ∷ (list_any (λ (b : WrittenCause). same_text b.name c.name) before, double_cause)
      ∷ (has_double c.strikes, double_strike)
      ∷ (nat_lt c.to c.from, empty_window)
      ∷ (nat_lt LONGEST_WINDOW c.to, too_wide)
      ∷ (nat_lt MOST_EVENTS (n + (length before + 1)), too_many)
      ∷ (named, name_taken)
      ∷ [])

  any_taken : (taken : List Text) (before : List WrittenCause) (names : List Text) → Taken taken before → is_any_among taken names ≡ is_any_taken w (flat_map names_of_cause before) names
  any_taken taken before names are = any_same (λ x. is_among taken x) (λ x. is_program_name w x || is_among (flat_map names_of_cause before) x) are names

  same_rule : (taken : List Text) (before : List WrittenCause) (c : WrittenCause) → Taken taken before → broken_by paths taken before c ≡ broken_at faults w before c
  same_rule taken before c are =
      ap (λ n. rules n (is_any_among taken (names_of_cause c)) before c) (length-map faults fault_path)
      ∙ ap (λ b. rules (length faults) b before c) (any_taken taken before (names_of_cause c) are)

  none_told : (o : Option CauseRule) (n : ℕ) (more : Option (CauseRule × ℕ)) → told_at o n more ≡ None → (o ≡ None) × (more ≡ None)
  none_told None n more e = (refl, e)
  none_told (Some r) n more e = cc

  -- where none is found, none is broken
  kept : (taken : List Text) (before cs : List WrittenCause) → Taken taken before → first_broken paths taken before cs ≡ None → AllKept faults w before cs
  kept taken before [] are e = tt
  kept taken before (c ∷ cs) are e =
      let both = none_told (broken_by paths taken before c) (suc (length before)) (first_broken paths (with_texts taken (names_of_cause c)) (before ++ c ∷ []) cs) e in
      (sym (same_rule taken before c are) ∙ both.0, kept (with_texts taken (names_of_cause c)) (before ++ c ∷ []) cs (taken_more taken before c are) both.1)

  pub all_kept : (cs : List WrittenCause) → first_broken paths (taken_in w) [] cs ≡ None → AllKept faults w [] cs
  all_kept cs e = kept (taken_in w) [] cs taken_at_first e

  -- the first one that breaks a rule, among others that stand behind some
  record Breaks (before cs : List WrittenCause) (rule : CauseRule) (number : ℕ) : Type 0 where
    between : List WrittenCause
    cause : WrittenCause
    after : List WrittenCause
    in_order : cs ≡ between ++ cause ∷ after
    kept_between : AllKept faults w before between
    broken : broken_at faults w (before ++ between) cause ≡ Some rule
    at_cause : number ≡ suc (length (before ++ between))

  breaks_here : (before : List WrittenCause) (c : WrittenCause) (cs : List WrittenCause) (rule : CauseRule) (number : ℕ) → broken_at faults w before c ≡ Some rule → number ≡ suc (length before) →
      Breaks before (c ∷ cs) rule number
  breaks_here before c cs rule number e n = record {
    between = [];
    cause = c;
    after = cs;
    in_order = refl;
    kept_between = tt;
    broken = ap (λ z. broken_at faults w z c) (append-nil before) ∙ e;
    at_cause = n ∙ ap (λ z. suc (length z)) (sym (append-nil before));
  }

  breaks_later : (before : List WrittenCause) (c : WrittenCause) (cs : List WrittenCause) (rule : CauseRule) (number : ℕ) → broken_at faults w before c ≡ None → Breaks (before ++ c ∷ []) cs rule number →
      Breaks before (c ∷ cs) rule number
  breaks_later before c cs rule number e b = record {
    between = c ∷ b.between;
    cause = b.cause;
    after = b.after;
    in_order = ap (λ z. c ∷ z) b.in_order;
    kept_between = (e, b.kept_between);
    broken = ap (λ z. broken_at faults w z b.cause) (sym (append_assoc before (c ∷ []) b.between)) ∙ b.broken;
    at_cause = b.at_cause ∙ ap (λ z. suc (length z)) (append_assoc before (c ∷ []) b.between);
  }

  breaks : (taken : List Text) (before cs : List WrittenCause) (rule : CauseRule) (number : ℕ) → Taken taken before → first_broken paths taken before cs ≡ Some (rule, number) → Breaks before cs rule number
  breaks taken before [] rule number are e = cc
  breaks taken before (c ∷ cs) rule number are e =
      go (broken_by paths taken before c) (same_rule taken before c are) (λ h. breaks (with_texts taken (names_of_cause c)) (before ++ c ∷ []) cs rule number (taken_more taken before c are) h) e
    where
      go : (o : Option CauseRule) → o ≡ broken_at faults w before c →
          (first_broken paths (with_texts taken (names_of_cause c)) (before ++ c ∷ []) cs ≡ Some (rule, number) → Breaks (before ++ c ∷ []) cs rule number) →
          told_at o (suc (length before)) (first_broken paths (with_texts taken (names_of_cause c)) (before ++ c ∷ []) cs) ≡ Some (rule, number) → Breaks before (c ∷ cs) rule number
      go None same more h = breaks_later before c cs rule number (sym same) (more h)
      go (Some r) same more h =
          let is = some_same (r, suc (length before)) (rule, number) h in
          let is_rule : r ≡ rule = ap (λ z. z.0) is in
          let is_number : number ≡ suc (length before) = sym (ap (λ z. z.1) is) in
          breaks_here before c cs rule number (sym same ∙ ap Some is_rule) is_number

  pub is_broken : (cs : List WrittenCause) (rule : CauseRule) (number : ℕ) → first_broken paths (taken_in w) [] cs ≡ Some (rule, number) → IsBrokenAt faults w cs rule number
  is_broken cs rule number e =
      let b = breaks (taken_in w) [] cs rule number taken_at_first e in
      record { before = b.between; cause = b.cause; after = b.after; in_order = b.in_order; kept_before = b.kept_between; broken = b.broken; at_cause = b.at_cause }

  -- what is taken once all causes were read
  taken_all : (cs : List WrittenCause) → Taken (with_texts (taken_in w) (flat_map names_of_cause cs)) cs
  taken_all cs x =
      among_texts (taken_in w) (flat_map names_of_cause cs) x ∙ ap (λ b. b || is_among (flat_map names_of_cause cs) x) (program_has x w)

  pub owns_same : (cs : List WrittenCause) → are_owns_among (with_texts (taken_in w) (flat_map names_of_cause cs)) (length paths) ≡ are_owns_taken faults w cs
  owns_same cs =
      ap (are_owns_among (with_texts (taken_in w) (flat_map names_of_cause cs))) (length-map faults fault_path)
      ∙ any_taken (with_texts (taken_in w) (flat_map names_of_cause cs)) cs (own_names 1 (length faults)) (taken_all cs)

  owns_of : (b : Bool) (rule : CauseRule) (number : ℕ) → owns_told b ≡ Some (rule, number) → (b ≡ true) × (rule ≡ name_taken) × (number ≡ 0)
  owns_of true rule number e = let is = some_same (name_taken, 0) (rule, number) e in (refl, sym (ap (λ z. z.0) is), sym (ap (λ z. z.1) is))
  owns_of false rule number e = cc

  pub owns_taken : (cs : List WrittenCause) (rule : CauseRule) (number : ℕ) → first_broken paths (taken_in w) [] cs ≡ None →
      owns_told (are_owns_among (with_texts (taken_in w) (flat_map names_of_cause cs)) (length paths)) ≡ Some (rule, number) → AreOwnsTaken faults w cs rule number
  owns_taken cs rule number none e =
      let h = owns_of (are_owns_among (with_texts (taken_in w) (flat_map names_of_cause cs)) (length paths)) rule number e in
      record { kept = all_kept cs none; taken = sym (owns_same cs) ∙ h.0; at_none = h.2; is_taken = h.1 }

  -- numbers of paths are numbers of faults
  strike_of : (p : Path) (i : ℕ) → IsNumberOf paths p i → IsStrikeOf faults w p i
  strike_of p i n = go (slice_get faults (i - 1)) refl
    where
      go : (o : Option Fault) → slice_get faults (i - 1) ≡ o → IsStrikeOf faults w p i
      go None e = let clash : None ≡ Some p = sym (slice_get-map fault_path faults (i - 1) ∙ ap (option_map fault_path) e) ∙ n.1 in cc
      go (Some f) e =
          let both : Some (fault_path f) ≡ Some p = sym (slice_get-map fault_path faults (i - 1) ∙ ap (option_map fault_path) e) ∙ n.1 in
          let same : fault_path f ≡ p = cc in (f, n.0, e, same)

  strikes_of : (ps : List Path) (is : List ℕ) → EachBoth (IsNumberOf paths) ps is → EachBoth (IsStrikeOf faults w) ps is
  strikes_of [] [] h = tt
  strikes_of (p ∷ ps) (i ∷ is) h = (strike_of p i h.0, strikes_of ps is h.1)
  strikes_of [] (i ∷ is) h = absurd h
  strikes_of (p ∷ ps) [] h = absurd h

  pub read_as : (written : List WrittenCause) (cs : List CommonCause) → EachBoth (IsReadIn paths) written cs → AreReadAs faults w written cs
  read_as [] [] h = tt
  read_as (x ∷ xs) (c ∷ cs) h =
      (record { name = h.0.name; from = h.0.from; to = h.0.to; strikes = strikes_of x.strikes c.strikes h.0.strikes }, read_as xs cs h.1)
  read_as [] (c ∷ cs) h = absurd h
  read_as (x ∷ xs) [] h = absurd h
