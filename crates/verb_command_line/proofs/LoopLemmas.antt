-- What stands while pairs are read from left to right.
use Rattle.std.proofs.Common.{◌≡◌, ◌≢◌, ℕ, suc, ◌+◌, ◌*◌, ◌≤◌, ◌&&◌, Bool, true, false, List, [], ◌∷◌, ◌++◌, length, take, Option, Some, None, if◌then◌else◌, sym, subst, ap, ◌∙◌, refl, arith, length-append}
use Rattle.std.specs.Str.{bytes_eq}
use Rattle.std.proofs.lemmas.List.{take_at}
use Rattle.verb_command_line.specs.declared.fault.WordFault.{WordFault}
use Rattle.verb_command_line.specs.declared.fault.WordFault.TheVariants as fault
use Rattle.verb_command_line.specs.Commands.{Text, Given, spread}
use Rattle.verb_command_line.specs.Table.{Choice, kind_in}
use Rattle.verb_command_line.specs.Meaning.{Each, EachTwo, IsLawful, AreLawful}
use Rattle.verb_command_line.specs.WordReading.{pairs_of, value_in, first_of, fault_by, fault_here, pair_fault, is_file_in, has_file, same_here, same_from}
use Rattle.verb_command_line.proofs.ListLemmas.{bytes_same}
use Rattle.verb_command_line.proofs.PairLemmas.{pairs_of-spread}
use Rattle.verb_command_line.proofs.SoundLemmas.{passed, lawful_none, lawful_more, spread_push, pairs_sound}

-- The pairs whose option has another name.
abbrev others : Text → List Given → List Given
others name [] = []
others name (p ∷ ps) = if bytes_eq name p.option then others name ps else p ∷ others name ps

others_all : (name : Text) (ps : List Given) → Each (λ q. name ≢ q.option) ps → others name ps ≡ ps
others_all name [] f = refl
others_all name (p ∷ ps) f = by_test (bytes_eq name p.option) refl (others_all name ps f.1) where
  by_test : (t : Bool) → bytes_eq name p.option ≡ t → others name ps ≡ ps → (if t then others name ps else p ∷ others name ps) ≡ p ∷ ps
  by_test true is e = absurd (f.0 (bytes_same name p.option is))
  by_test false is e = ap (λ qs. p ∷ qs) e

-- at most one pair has the name
one_less : (name : Text) (ps : List Given) → EachTwo (λ p q. p.option ≢ q.option) ps → length ps ≤ length (others name ps) + 1
one_less name [] once = omega arith
one_less name (p ∷ ps) once = by_test (bytes_eq name p.option) refl (one_less name ps once.1) where
  by_test : (t : Bool) → bytes_eq name p.option ≡ t → length ps ≤ length (others name ps) + 1 → suc (length ps) ≤ length (if t then others name ps else p ∷ others name ps) + 1
  by_test true is more =
      let all : others name ps ≡ ps = others_all name ps (subst (λ (n : Text). Each (λ q. n ≢ q.option) ps) (sym (bytes_same name p.option is)) once.0) in
      let same : length (others name ps) ≡ length ps = ap (λ qs. length qs) all in omega (arith, same)
  by_test false is more = omega (arith, more)

others_each : (P Q : Given → Type 0) (name : Text) → ((p : Given) → bytes_eq name p.option ≡ false → P p → Q p) → (ps : List Given) → Each P ps → Each Q (others name ps)
others_each P Q name step [] f = tt
others_each P Q name step (p ∷ ps) f = by_test (bytes_eq name p.option) refl (others_each P Q name step ps f.1) where
  by_test : (t : Bool) → bytes_eq name p.option ≡ t → Each Q (others name ps) → Each Q (if t then others name ps else p ∷ others name ps)
  by_test true is more = more
  by_test false is more = (step p is f.0, more)

others_once : (name : Text) (ps : List Given) → EachTwo (λ p q. p.option ≢ q.option) ps → EachTwo (λ p q. p.option ≢ q.option) (others name ps)
others_once name [] once = tt
others_once name (p ∷ ps) once = by_test (bytes_eq name p.option) (others_each (λ q. p.option ≢ q.option) (λ q. p.option ≢ q.option) name (λ q _ d. d) ps once.0) (others_once name ps once.1) where
  by_test : (t : Bool) → Each (λ q. p.option ≢ q.option) (others name ps) → EachTwo (λ p q. p.option ≢ q.option) (others name ps) →
      EachTwo (λ p q. p.option ≢ q.option) (if t then others name ps else p ∷ others name ps)
  by_test true apart more = more
  by_test false apart more = (apart, more)

-- there are no more pairs than options
few_pairs : (options : List Choice) (ps : List Given) → EachTwo (λ p q. p.option ≢ q.option) ps → Each (λ p. kind_in options p.option ≢ None) ps → length ps ≤ length options
few_pairs [] [] once known = omega arith
few_pairs [] (p ∷ ps) once known = absurd (known.0 refl)
few_pairs (c ∷ cs) ps once known =
    let more : length (others c.name ps) ≤ length cs = few_pairs cs (others c.name ps) (others_once c.name ps once)
    (others_each (λ p. kind_in (c ∷ cs) p.option ≢ None) (λ p. kind_in cs p.option ≢ None) c.name
    (λ p is d e. d (ap (λ t. if t then Some c.kind else kind_in cs p.option) is ∙ e)) ps known) in
    let most = one_less c.name ps once in omega (arith, more, most)

known_each : (options : List Choice) (ps : List Given) → Each (IsLawful options) ps → Each (λ p. kind_in options p.option ≢ None) ps
known_each options [] f = tt
known_each options (p ∷ ps) f = (λ e. let bad : Some f.0.kind ≡ None = sym f.0.known ∙ e in cc, known_each options ps f.1)

pub lawful_few : (options : List Choice) (ps : List Given) → AreLawful options ps → length ps ≤ length options
lawful_few options ps law = few_pairs options ps law.once (known_each options ps law.each)

pub length-spread : (ps : List Given) → length (spread ps) ≡ 2 * length ps
length-spread [] = refl
length-spread (p ∷ ps) = let more = length-spread ps in omega (arith, more)

-- So many words were read, and these are left: what was read are pairs.
pub record Read (words : List Text) (at : ℕ) (rest : List Text) : Type 0 where
  pub pairs : List Given
  pub split : words ≡ spread pairs ++ rest
  pub count : at ≡ 2 * length pairs

-- the words that were read are those pairs
pub read_pairs : (words : List Text) (at : ℕ) (rest : List Text) (r : Read words at rest) → pairs_of (take at words) ≡ r.pairs
read_pairs words at rest r =
    ap (λ ws. pairs_of (take at ws)) r.split ∙ ap (λ ws. pairs_of ws) (take_at (spread r.pairs) rest at (length-spread r.pairs ∙ sym r.count)) ∙ pairs_of-spread r.pairs

abbrev pub read_none : (words : List Text) → Read words 0 words
read_none words = record { pairs = []; split = refl; count = refl }

abbrev pub read_more : (words : List Text) (at : ℕ) (option value : Text) (rest : List Text) (r : Read words at (option ∷ value ∷ rest)) → Read words (at + 2) rest
read_more words at option value rest r = record {
  pairs = r.pairs ++ record { option = option; value = value } ∷ [];
  split = r.split ∙ sym (spread_push r.pairs (record { option = option; value = value }) rest);
  count = let more = length-append r.pairs (record { option = option; value = value } ∷ []) in let now = r.count in omega (arith, more, now);
}

-- The words that were read are within all words.
pub read_within : (words : List Text) (at : ℕ) (rest : List Text) → Read words at rest → at + length rest ≡ length words
read_within words at rest r =
    let all = ap (λ ws. length ws) r.split in let both = length-append (spread r.pairs) rest in let pairs = length-spread r.pairs in let now = r.count in
    omega (arith, all, both, pairs, now)

-- What stands of the search for the first fault: what was read are lawful pairs, and what is left has the fault of all.
pub record Searched (options : List Choice) (words : List Text) (at : ℕ) (rest : List Text) : Type 0 where
  pub read : Read words at rest
  pub lawful : AreLawful options read.pairs
  pub left : pair_fault options read.pairs rest ≡ pair_fault options [] words

pub searched_none : (options : List Choice) (words : List Text) → Searched options words 0 words
searched_none options words = record { read = read_none words; lawful = lawful_none options; left = refl }

-- what the code finds at an option is what is found there
at_option : (options : List Choice) (words : List Text) (at : ℕ) (rest : List Text) (r : Read words at rest) (option : Text) (value : Option Text) →
    fault_by (kind_in options option) (value_in (pairs_of (take at words)) option) value (at + 2) ≡ fault_here options r.pairs option value
at_option options words at rest r option value =
    ap (λ ps. fault_by (kind_in options option) (value_in ps option) value (at + 2)) (read_pairs words at rest r)
    ∙ ap (λ n. fault_by (kind_in options option) (value_in r.pairs option) value (n + 2)) r.count

pub searched_more : (options : List Choice) (words : List Text) (at : ℕ) (option value : Text) (rest : List Text) (s : Searched options words at (option ∷ value ∷ rest)) →
    fault_by (kind_in options option) (value_in (pairs_of (take at words)) option) (Some value) (at + 2) ≡ None → Searched options words (at + 2) rest
searched_more options words at option value rest s e =
    let here : fault_here options s.read.pairs option (Some value) ≡ None = sym (at_option options words at (option ∷ value ∷ rest) s.read option (Some value)) ∙ e in
    record {
      read = read_more words at option value rest s.read;
      lawful = lawful_more options s.read.pairs option value s.lawful (passed options s.read.pairs option value (2 * length s.read.pairs + 2) here);
      left = sym (ap (λ f. first_of f (pair_fault options (s.read.pairs ++ record { option = option; value = value } ∷ []) rest)) here) ∙ s.left;
    }

pub searched_fault : (options : List Choice) (words : List Text) (at : ℕ) (option value : Text) (rest : List Text) (f : WordFault) (s : Searched options words at (option ∷ value ∷ rest)) →
    fault_by (kind_in options option) (value_in (pairs_of (take at words)) option) (Some value) (at + 2) ≡ Some f → Some f ≡ pair_fault options [] words
searched_fault options words at option value rest f s e =
    let here : fault_here options s.read.pairs option (Some value) ≡ Some f = sym (at_option options words at (option ∷ value ∷ rest) s.read option (Some value)) ∙ e in
    sym (ap (λ g. first_of g (pair_fault options (s.read.pairs ++ record { option = option; value = value } ∷ []) rest)) here) ∙ s.left

pub searched_last : (options : List Choice) (words : List Text) (at : ℕ) (option : Text) (s : Searched options words at (option ∷ [])) →
    fault_by (kind_in options option) (value_in (pairs_of (take at words)) option) None (at + 2) ≡ pair_fault options [] words
searched_last options words at option s = at_option options words at (option ∷ []) s.read option None ∙ s.left

pub searched_all : (options : List Choice) (words : List Text) (at : ℕ) (s : Searched options words at []) → None ≡ pair_fault options [] words
searched_all options words at s = s.left

pub searched_few : (options : List Choice) (words : List Text) (at : ℕ) (rest : List Text) → Searched options words at rest → at ≤ 2 * length options
searched_few options words at rest s = let few = lawful_few options s.read.pairs s.lawful in let now = s.read.count in omega (arith, few, now)

-- Words without a fault at their pairs are few.
pub few_words : (options : List Choice) (words : List Text) → pair_fault options [] words ≡ None → length words ≤ 2 * length options
few_words options words e =
    let are = pairs_sound options [] words (lawful_none options) e in
    let few = lawful_few options (pairs_of words) are.lawful in let all = ap (λ ws. length ws) are.spelled in let pairs = length-spread (pairs_of words) in
    omega (arith, few, all, pairs)

-- The same for the names of files.
pub record Compared (options : List Choice) (words : List Text) (at : ℕ) (rest : List Text) : Type 0 where
  pub read : Read words at rest
  pub left : same_from options read.pairs (pairs_of rest) ≡ same_from options [] (pairs_of words)

pub compared_none : (options : List Choice) (words : List Text) → Compared options words 0 words
compared_none options words = record { read = read_none words; left = refl }

at_file : (options : List Choice) (words : List Text) (at : ℕ) (rest : List Text) (r : Read words at rest) (option value : Text) (t : Bool) →
    (is_file_in options option && has_file options (pairs_of (take at words)) value) ≡ t →
    same_here options r.pairs (record { option = option; value = value }) ≡ (if t then Some (fault.SameName (at + 3)) else None)
at_file options words at rest r option value t e =
    let place : 2 * length r.pairs + 2 + 1 ≡ at + 3 = let now = r.count in omega (arith, now) in
    let test : (is_file_in options option && has_file options r.pairs value) ≡ t = sym (ap (λ ps. is_file_in options option && has_file options ps value) (read_pairs words at rest r)) ∙ e in
    ap (λ b. if b then Some (fault.SameName (2 * length r.pairs + 2 + 1)) else None) test ∙ ap (λ n. if t then Some (fault.SameName n) else None) place

pub compared_more : (options : List Choice) (words : List Text) (at : ℕ) (option value : Text) (rest : List Text) (s : Compared options words at (option ∷ value ∷ rest)) →
    (is_file_in options option && has_file options (pairs_of (take at words)) value) ≡ false → Compared options words (at + 2) rest
compared_more options words at option value rest s e = record {
  read = read_more words at option value rest s.read;
  left = sym (ap (λ f. first_of f (same_from options (s.read.pairs ++ record { option = option; value = value } ∷ []) (pairs_of rest)))
      (at_file options words at (option ∷ value ∷ rest) s.read option value false e)) ∙ s.left;
}

pub compared_fault : (options : List Choice) (words : List Text) (at : ℕ) (option value : Text) (rest : List Text) (s : Compared options words at (option ∷ value ∷ rest)) →
    (is_file_in options option && has_file options (pairs_of (take at words)) value) ≡ true → Some (fault.SameName (at + 3)) ≡ same_from options [] (pairs_of words)
compared_fault options words at option value rest s e =
    sym (ap (λ f. first_of f (same_from options (s.read.pairs ++ record { option = option; value = value } ∷ []) (pairs_of rest)))
    (at_file options words at (option ∷ value ∷ rest) s.read option value true e)) ∙ s.left

pub compared_all : (options : List Choice) (words : List Text) (at : ℕ) (rest : List Text) (s : Compared options words at rest) → pairs_of rest ≡ [] → None ≡ same_from options [] (pairs_of words)
compared_all options words at rest s e = sym (ap (λ ps. same_from options s.read.pairs ps) e) ∙ s.left
