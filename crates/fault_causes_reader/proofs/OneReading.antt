-- Bytes are read as causes in one way, and the first rule that they break is one.
use Rattle.std.proofs.Common.{arith, ◌≡◌, ◌⊎◌, ⊎_elim, inl, inr, ℕ, zero, suc, ◌-◌, ◌<◌, true, false, List, [], ◌∷◌, ◌++◌, Some, None, length, map, take, refl, sym, ap, ◌∙◌, subst, append_assoc, append-nil}
use Rattle.std.specs.Prelude.{slice_get}
use Rattle.std.proofs.lemmas.Bool.{cases_lt, and_from as both_true, or_left as or_first, or_right as or_second}
use Rattle.smv_lexer.specs.declared.token.Token.{Token}
use Rattle.smv_lexer.proofs.SplitLemmas.{one_answer}
use Rattle.smv_language.specs.Language.{Path, ProgramTree, same_text, lexemes_of, EachBoth}
use Rattle.smv_language.proofs.ValueLaws.{same_text_refl}
use Rattle.fault_weave.specs.Faults.{Fault}
use Rattle.fault_cause_laws.specs.Causes.{CommonCause}
use Rattle.fault_cause_laws.specs.CausesText.{WrittenCause, SpellsCauses, BytesSpellCauses}
use Rattle.fault_cause_laws.specs.CauseRules.{fault_path, same_path, is_path_among, CauseRule, broken_at, AllKept, IsBrokenAt, AreOwnsTaken, AreLawful, IsReadAs, AreReadAs}
use Rattle.fault_causes_reader.specs.CauseStages.{start, so_far}
use Rattle.fault_causes_reader.specs.CausesFile.{IsNumberOf, AreStrikes, AreRead, BreakRule}
use Rattle.fault_causes_reader.proofs.CausesReads.{causes_are_read}
use Rattle.std.proofs.lemmas.Option.{same_Some as some_same}

-- the bytes spell one list of causes
pub one_written : (bytes : List ℕ) (cs ds : List WrittenCause) → BytesSpellCauses bytes cs → BytesSpellCauses bytes ds → cs ≡ ds
one_written bytes cs ds h g =
    let there : SpellsCauses (lexemes_of bytes h.0) ds = subst (λ (ts : List Token). SpellsCauses (lexemes_of bytes ts) ds) (one_answer bytes h.0 g.0 h.1 g.1) g.2 in
    ap (λ r. r.causes) (some_same (so_far start cs) (so_far start ds) (sym (causes_are_read [] h.2) ∙ causes_are_read [] there))

same_itself : (p : Path) → same_path p p ≡ true
same_itself [] = refl
same_itself (x ∷ xs) = both_true (same_text x x) (same_path xs xs) (same_text_refl x) (same_itself xs)

among_those : (paths : List Path) (k n : ℕ) (p : Path) → k < n → slice_get paths k ≡ Some p → is_path_among (take n paths) p ≡ true
among_those [] k n p less e = let bad : None ≡ Some p = e in cc
among_those (x ∷ paths) k zero p less e = absurd (omega (arith, less))
among_those (x ∷ paths) zero (suc n) p less e =
    let same : x ≡ p = some_same x p e in or_first (same_path x p) (is_path_among (take n paths) p) (subst (λ z. same_path z p ≡ true) (sym same) (same_itself p))
among_those (x ∷ paths) (suc k) (suc n) p less e = or_second (same_path x p) (is_path_among (take n paths) p) (among_those paths k n p (omega (arith, less)) e)

no_earlier : (paths : List Path) (p : Path) (i j : ℕ) → IsNumberOf paths p i → IsNumberOf paths p j → i - 1 < j - 1 → ⊥
no_earlier paths p i j h g less = let bad : true ≡ false = sym (among_those paths (i - 1) (j - 1) p less h.1) ∙ g.2 in cc

one_number : (paths : List Path) (p : Path) (i j : ℕ) → IsNumberOf paths p i → IsNumberOf paths p j → i ≡ j
one_number paths p i j h g =
    ⊎_elim (λ less. absurd (no_earlier paths p i j h g less))
    (λ most. ⊎_elim (λ less. absurd (no_earlier paths p j i g h less)) (λ least. omega (arith, most, least, h.0, g.0)) (cases_lt (j - 1) (i - 1))) (cases_lt (i - 1) (j - 1))

one_numbers : (paths ps : List Path) (is js : List ℕ) → EachBoth (IsNumberOf paths) ps is → EachBoth (IsNumberOf paths) ps js → is ≡ js
one_numbers paths [] [] [] h g = refl
one_numbers paths [] [] (j ∷ js) h g = absurd g
one_numbers paths [] (i ∷ is) js h g = absurd h
one_numbers paths (p ∷ ps) [] js h g = absurd h
one_numbers paths (p ∷ ps) (i ∷ is) [] h g = absurd g
one_numbers paths (p ∷ ps) (i ∷ is) (j ∷ js) h g =
    let first = one_number paths p i j h.0 g.0 in
    let rest = one_numbers paths ps is js h.1 g.1 in
    (λ k. first k ∷ rest k)

module _ (faults : List Fault) (w : ProgramTree) where
  same_cause : (a b : CommonCause) → a.name ≡ b.name → a.from ≡ b.from → a.to ≡ b.to → a.strikes ≡ b.strikes → a ≡ b
  same_cause a b name from to strikes = λ k. record { name = name k; from = from k; to = to k; strikes = strikes k }

  one_cause : (x : WrittenCause) (a b : CommonCause) → IsReadAs faults w x a → AreStrikes (map fault_path faults) x a → IsReadAs faults w x b → AreStrikes (map fault_path faults) x b → a ≡ b
  one_cause x a b h g i j =
      same_cause a b (h.name ∙ sym i.name) (h.from ∙ sym i.from) (h.to ∙ sym i.to) (one_numbers (map fault_path faults) x.strikes a.strikes b.strikes g j)

  one_list : (xs : List WrittenCause) (cs ds : List CommonCause) → AreReadAs faults w xs cs → EachBoth (AreStrikes (map fault_path faults)) xs cs → AreReadAs faults w xs ds →
      EachBoth (AreStrikes (map fault_path faults)) xs ds → cs ≡ ds
  one_list [] [] [] h g i j = refl
  one_list [] [] (b ∷ ds) h g i j = absurd i
  one_list [] (a ∷ cs) ds h g i j = absurd h
  one_list (x ∷ xs) [] ds h g i j = absurd h
  one_list (x ∷ xs) (a ∷ cs) [] h g i j = absurd i
  one_list (x ∷ xs) (a ∷ cs) (b ∷ ds) h g i j =
      let first = one_cause x a b h.0 g.0 i.0 j.0 in
      let rest = one_list xs cs ds h.1 g.1 i.1 j.1 in
      (λ k. first k ∷ rest k)

  -- where all causes keep the rules, each does after those before it
  kept_at : (pre before : List WrittenCause) (x : WrittenCause) (after : List WrittenCause) → AllKept faults w pre (before ++ x ∷ after) → broken_at faults w (pre ++ before) x ≡ None
  kept_at pre [] x after kept = ap (λ xs. broken_at faults w xs x) (append-nil pre) ∙ kept.0
  kept_at pre (y ∷ before) x after kept = sym (ap (λ xs. broken_at faults w xs x) (append_assoc pre (y ∷ []) before)) ∙ kept_at (pre ++ y ∷ []) before x after kept.1

  -- the first cause that breaks a rule is one
  pub record AreSame (before others : List WrittenCause) (x y : WrittenCause) : Type 0 where
    pub befores : before ≡ others
    pub causes : x ≡ y

  heads : (x y : WrittenCause) (xs ys : List WrittenCause) → (x ∷ xs) ≡ (y ∷ ys) → x ≡ y
  heads x y xs ys e = cc

  tails : (x y : WrittenCause) (xs ys : List WrittenCause) → (x ∷ xs) ≡ (y ∷ ys) → xs ≡ ys
  tails x y xs ys e = cc

  one_place : (pre before others : List WrittenCause) (x y : WrittenCause) (after rest : List WrittenCause) (r q : CauseRule) → AllKept faults w pre before → AllKept faults w pre others →
      broken_at faults w (pre ++ before) x ≡ Some r → broken_at faults w (pre ++ others) y ≡ Some q → before ++ x ∷ after ≡ others ++ y ∷ rest → AreSame before others x y
  one_place pre [] [] x y after rest r q kept also bad broken e = record { befores = refl; causes = heads x y after rest e }
  one_place pre [] (b ∷ others) x y after rest r q kept also bad broken e =
      let same : x ≡ b = heads x b after (others ++ y ∷ rest) e in
      let clash : None ≡ Some r = sym (ap (broken_at faults w pre) same ∙ also.0) ∙ sym (ap (λ xs. broken_at faults w xs x) (append-nil pre)) ∙ bad in cc
  one_place pre (a ∷ before) [] x y after rest r q kept also bad broken e =
      let same : a ≡ y = heads a y (before ++ x ∷ after) rest e in
      let clash : None ≡ Some q = sym (ap (broken_at faults w pre) (sym same) ∙ kept.0) ∙ sym (ap (λ xs. broken_at faults w xs y) (append-nil pre)) ∙ broken in cc
  one_place pre (a ∷ before) (b ∷ others) x y after rest r q kept also bad broken e =
      let same : a ≡ b = heads a b (before ++ x ∷ after) (others ++ y ∷ rest) e in
      let more = one_place (pre ++ a ∷ []) before others x y after rest r q kept.1 (subst (λ z. AllKept faults w (pre ++ z ∷ []) others) (sym same) also.1)
      (ap (λ xs. broken_at faults w xs x) (append_assoc pre (a ∷ []) before) ∙ bad)
      (ap (λ xs. broken_at faults w xs y) (append_assoc pre (a ∷ []) others) ∙ ap (λ z. broken_at faults w (pre ++ z ∷ others) y) same ∙ broken) (tails a b (before ++ x ∷ after) (others ++ y ∷ rest) e) in
      record { befores = (λ k. same k ∷ more.befores k); causes = more.causes }

  one_broken_at : (xs : List WrittenCause) (r q : CauseRule) (n k : ℕ) → IsBrokenAt faults w xs r n → IsBrokenAt faults w xs q k → (r ≡ q) × (n ≡ k)
  one_broken_at xs r q n k h g =
      let same = one_place [] h.before g.before h.cause g.cause h.after g.after r q h.kept_before g.kept_before h.broken g.broken (sym h.in_order ∙ g.in_order) in
      let rules : Some r ≡ Some q = sym h.broken ∙ ap (λ zs. broken_at faults w zs h.cause) same.befores ∙ ap (broken_at faults w g.before) same.causes ∙ g.broken in
      (some_same r q rules, h.at_cause ∙ ap (λ zs. suc (length zs)) same.befores ∙ sym g.at_cause)

  none_broken_at : (xs : List WrittenCause) (r : CauseRule) (n : ℕ) → AllKept faults w [] xs → IsBrokenAt faults w xs r n → ⊥
  none_broken_at xs r n kept h =
      let none = kept_at [] h.before h.cause h.after (subst (AllKept faults w []) h.in_order kept) in
      let clash : None ≡ Some r = sym none ∙ h.broken in cc

  one_of_both : (xs : List WrittenCause) (r q : CauseRule) (n k : ℕ) → IsBrokenAt faults w xs r n ⊎ AreOwnsTaken faults w xs r n → IsBrokenAt faults w xs q k ⊎ AreOwnsTaken faults w xs q k → (r ≡ q) × (n ≡ k)
  one_of_both xs r q n k (inl h) (inl g) = one_broken_at xs r q n k h g
  one_of_both xs r q n k (inl h) (inr g) = absurd (none_broken_at xs r n g.kept h)
  one_of_both xs r q n k (inr h) (inl g) = absurd (none_broken_at xs q k h.kept g)
  one_of_both xs r q n k (inr h) (inr g) = (h.is_taken ∙ sym g.is_taken, h.at_none ∙ sym g.at_none)

  none_of_both : (xs : List WrittenCause) (r : CauseRule) (n : ℕ) → AreLawful faults w xs → IsBrokenAt faults w xs r n ⊎ AreOwnsTaken faults w xs r n → ⊥
  none_of_both xs r n lawful (inl h) = none_broken_at xs r n lawful.kept h
  none_of_both xs r n lawful (inr h) = let clash : false ≡ true = sym lawful.free ∙ h.taken in cc

  module _ (bytes : List ℕ) where
    pub one_reading : (cs ds : List CommonCause) → AreRead faults w bytes cs → AreRead faults w bytes ds → cs ≡ ds
    one_reading cs ds h g =
        let same : g.written ≡ h.written = one_written bytes g.written h.written g.spelled h.spelled in
        one_list h.written cs ds h.read_as h.strikes (subst (λ xs. AreReadAs faults w xs ds) same g.read_as) (subst (λ xs. EachBoth (AreStrikes (map fault_path faults)) xs ds) same g.strikes)

    pub one_broken : (r q : CauseRule) (n k : ℕ) → BreakRule faults w bytes r n → BreakRule faults w bytes q k → (r ≡ q) × (n ≡ k)
    one_broken r q n k h g =
        let same : g.written ≡ h.written = one_written bytes g.written h.written g.spelled h.spelled in
        one_of_both h.written r q n k h.broken (subst (λ xs. IsBrokenAt faults w xs q k ⊎ AreOwnsTaken faults w xs q k) same g.broken)

    pub read_unbroken : (cs : List CommonCause) (r : CauseRule) (n : ℕ) → AreRead faults w bytes cs → BreakRule faults w bytes r n → ⊥
    read_unbroken cs r n h g =
        let same : h.written ≡ g.written = one_written bytes h.written g.written h.spelled g.spelled in
        none_of_both g.written r n (subst (AreLawful faults w) same h.lawful) g.broken
