-- What the words of a line say, as it is read word by word.
use Rattle.std.proofs.Common.{◌≡◌, ℕ, Bool, true, false, nat_eq, List, [], ◌∷◌, ◌++◌, length, Option, Some, None, refl, sym, ◌∙◌, ap, codes}
use Rattle.std.specs.Prelude.{if◌then◌else◌}
use Rattle.std.specs.Option.{option_map}
use Rattle.sat_clauses.specs.Literal.{Literal}
use Rattle.sat_clauses.specs.declared.step.Step.{Step}
use Rattle.cut_text_laws.specs.Lines.{Line}
use Rattle.cert_laws.specs.LineReading.{words_in, after_word, one_number}
use Rattle.cert_laws.specs.CertificateText.{version_one, version_two}
use Rattle.cert_laws.specs.CertificateText.{Version as Named}
use Rattle.cert_laws.specs.ExpectedLines.{numbers_from, small_in, size_of}
use Rattle.cert_laws.proofs.LineReading.{not_same, some_words}
use Rattle.cert_text.specs.LineWords.{words_after, LacksWord, IsAfterWord}
use Rattle.cert_text.specs.Words.{LacksName, one_small, after_bits}
use Rattle.cert_text.specs.declared.lines.Version.{Version}
use Rattle.cert_text.specs.declared.lines.Version.TheVariants as version
use Rattle.cert_text.specs.CertificateReading.{version_in}
use Rattle.smv_language.proofs.BoolLaws.{if_true, if_false}
use Rattle.smv_language.specs.Texts.{same_text}
use Rattle.smv_language.proofs.ValueLaws.{same_text_equal, same_text_refl}

-- A line that begins with a word, and one that doesn't.
pub said_after : {A : Type 0} (word : Line) (f : List Line → Option A) (line rest : Line) → IsAfterWord line word rest → after_word word f (words_in line) ≡ f (words_after rest)
said_after word f line rest e = ap (after_word word f) e ∙ if_true (same_text word word) (f (words_after rest)) None (same_text_refl word)

pub not_after : {A : Type 0} (word : Line) (f : List Line → Option A) (line : Line) → LacksWord line word → after_word word f (words_in line) ≡ None
not_after {A = A} word f line h = by (words_in line) refl
  where
    by_test : (w : Line) (words : List Line) → words_in line ≡ w ∷ words → (t : Bool) → same_text w word ≡ t → ◌≡◌ {A = Option A} (if t then f words else None) None
    by_test w words e true s = absurd (h words (e ∙ ap (λ x. x ∷ words) (same_text_equal w word s)))
    by_test w words e false s = refl

    by : (words : List Line) → words_in line ≡ words → after_word word f words ≡ None
    by [] e = refl
    by (w ∷ words) e = by_test w words e (same_text w word) refl

pub not_empty : (bytes : List ℕ) (t : Bool) → t ≡ nat_eq (length bytes) 0 → t ≡ false → bytes ≡ [] → ⊥
not_empty bytes t e h n = let bad : true ≡ false = sym (ap (λ b. nat_eq (length b) 0) n) ∙ sym e ∙ h in cc

pub more_numbers : (words word more : List ℕ) → words_after words ≡ word ∷ words_after more → (more ≡ [] → ⊥) → one_number (words_after words) ≡ None
more_numbers words word [] e n = absurd (n refl)
more_numbers words word (b ∷ more) e n = ap one_number (e ∙ ap (λ ws. word ∷ ws) (some_words more).2)

pub more_smalls : (words word more : List ℕ) → words_after words ≡ word ∷ words_after more → (more ≡ [] → ⊥) → one_small (words_after words) ≡ None
more_smalls words word [] e n = absurd (n refl)
more_smalls words word (b ∷ more) e n = ap one_small (e ∙ ap (λ ws. word ∷ ws) (some_words more).2)

-- Each word in turn: those so far, and what the others say.
abbrev pub joined : {A : Type 0} → List A → Option (List A) → Option (List A)
joined xs o = option_map (λ ys. xs ++ ys) o

-- The words of a step: the literals so far, and what the others say.
abbrev pub stepped : List Literal → Option Step → Option Step
stepped lits o = option_map (λ (s : Step). record s { clause = lits ++ s.clause }) o

-- The version, and the numbers of the second line.
pub other_versions : (line : Line) → (line ≡ codes "xsap-certificate 1" → ⊥) → (line ≡ codes "xsap-certificate 2" → ⊥) → None ≡ version_in line
other_versions line one two = sym (by (same_text line (codes "xsap-certificate 1")) (not_same line (codes "xsap-certificate 1") one) (same_text line (codes "xsap-certificate 2")) (not_same line (codes "xsap-certificate 2") two))
  where
    by : (t : Bool) → t ≡ false → (u : Bool) → u ≡ false → ◌≡◌ {A = Option Version} (if t then Some version.One else (if u then Some version.Two else None)) None
    by true e u f = cc
    by false e true f = cc
    by false e false f = refl

pub no_faults : (v : Named) (b : ℕ) (words : List Line) → LacksName words (codes "faults") → None ≡ after_bits v b words
no_faults v b [] h = refl
no_faults v b (f ∷ []) h = refl
no_faults v b (f ∷ n ∷ words) h =
    sym (if_false (same_text f (codes "faults")) (numbers_from (Some b) (small_in n) (size_of v (small_in n) words)) None (not_same f (codes "faults") (λ e. h (n ∷ words) (ap (λ x. x ∷ n ∷ words) e))))

pub size_too_much : (f : ℕ) (words : List ℕ) → (words ≡ [] → ⊥) → None ≡ size_of version_one (Some f) (words_after words)
size_too_much f [] n = absurd (n refl)
size_too_much f (c ∷ bytes) n = sym (ap (size_of version_one (Some f)) (some_words bytes).2)

pub unnamed_size : (words : List Line) (faults : Option ℕ) → LacksName words (codes "size") → None ≡ size_of version_two faults words
unnamed_size [] faults h = refl
unnamed_size (z ∷ []) faults h = refl
unnamed_size (z ∷ s ∷ []) faults h = sym (if_false (same_text z (codes "size")) (small_in s) None (not_same z (codes "size") (λ e. h (s ∷ []) (ap (λ x. x ∷ s ∷ []) e))))
unnamed_size (z ∷ s ∷ t ∷ words) faults h = refl
