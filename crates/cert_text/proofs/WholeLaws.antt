-- The whole text: the certificate that it spells, or what is wrong first.
use Rattle.std.proofs.Common.{◌≡◌, ◌≢◌, inl, inr, ℕ, suc, ◌+◌, ◌<◌, ◌≤◌, List, [], ◌∷◌, ◌++◌, length, Some, None, Result, Ok, Err, refl, sym, ◌∙◌, ap, subst, arith, length-append, append-nil, IfOk, IfErr, IsErrOf}
use Rattle.std.specs.Option.{option_map}
use Rattle.std.specs.List.{AllByRecursion}
use Rattle.cut_text_laws.specs.Lines.{Line, fed, IsLine}
use Rattle.cut_text_laws.proofs.Cuts.{line_lies, length_more, fed_long, rest_shorter}
use Rattle.cert_laws.specs.Certificate.{Certificate}
use Rattle.cert_laws.specs.CertificateText.{AreLinesOf, SpellsCertificate, BeginsOne, IsBadLine, EndsBefore}
use Rattle.cert_laws.specs.ExpectedLines.{Expect as Awaited, after_lines, a_version, no_line}
use Rattle.cert_laws.proofs.Expecting.{not_done}
use Rattle.cert_laws.proofs.Judged.{taken_lines_begin}
use Rattle.cert_text.specs.declared.certificate.Certificate.{Certificate as Read}
use Rattle.cert_text.specs.declared.certificate.CertFault.{CertFault}
use Rattle.cert_text.specs.declared.certificate.CertFault.TheVariants as fault
use Rattle.cert_text.specs.declared.reading.Expect.{Expect}
use Rattle.cert_text.specs.declared.reading.Expect.TheVariants as expect
use Rattle.cert_text.specs.declared.reading.LineRefusal.{LineRefusal}
use Rattle.cert_text.specs.declared.reading.LineRefusal.TheVariants as refusal
use Rattle.cert_text.specs.declared.reading.CertificateReading.{CertificateReading}
use Rattle.base_values.specs.Separators.{IsLineThen}
use Rattle.cert_text.specs.Faults.{IsFaultOf, IsRefused, fault_at}
use Rattle.cert_text.specs.CertificateReading.{then_read, read_line, read_lines, unread}
use Rattle.cert_text.specs.CertificateView.{seen}
use Rattle.cert_text.specs.Expectations.{told}
use Rattle.cert_text.proofs.ReadingLaws.{reading_expects, read_joined, wholly_read, whole_read}
use Rattle.std.proofs.lemmas.Option.{none-some as never, same_Some as some_same}
use Rattle.base_values.proofs.ListLaws.{all_joined}

-- The text up to a line.
pub record IsRead (bytes rest : List ℕ) (number : ℕ) (r : CertificateReading) : Type 0 where
  pub lines : List Line
  pub lie : bytes ≡ fed lines ++ rest
  pub are_lines : AllByRecursion IsLine lines
  pub after : read_lines (Some unread) lines ≡ Some r
  pub count : number ≡ suc (length lines)

pub read_start : (bytes : List ℕ) (r : CertificateReading) → r ≡ unread → IsRead bytes bytes 1 r
read_start bytes r e = record { lines = []; lie = refl; are_lines = tt; after = ap (λ q. Some q) (sym e); count = refl }

pub read_more : (bytes rest line after : List ℕ) (number : ℕ) (old new : CertificateReading) → IsRead bytes rest number old → IsLineThen rest line after → read_line old line ≡ Some new → IsRead bytes after (number + 1) new
read_more bytes rest line after number old new h l step = record {
  lines = h.lines ++ line ∷ [];
  lie = line_lies bytes rest line after h.lines h.lie l;
  are_lines = all_joined IsLine h.lines (line ∷ []) h.are_lines (l.is_line, tt);
  after = read_joined (Some unread) h.lines (line ∷ []) ∙ ap (λ o. then_read o line) h.after ∙ step;
  count = let longer : length (h.lines ++ line ∷ []) ≡ suc (length h.lines) = length_more h.lines line in omega (arith, longer, h.count);
}

pub read_few : (bytes rest line after : List ℕ) (number : ℕ) (r : CertificateReading) → IsRead bytes rest number r → IsLineThen rest line after → number ≤ length bytes
read_few bytes rest line after number r h l =
    let whole : length bytes ≡ length (fed h.lines ++ rest) = ap length h.lie in
    let sum : length (fed h.lines ++ rest) ≡ length (fed h.lines) + length rest = length-append (fed h.lines) rest in
    let long : length h.lines ≤ length (fed h.lines) = fed_long h.lines in
    let less : length after < length rest = rest_shorter rest line after l in
    omega (arith, whole, sum, long, less, h.count)

begun : (lines : List Line) (r : CertificateReading) → AllByRecursion IsLine lines → read_lines (Some unread) lines ≡ Some r → BeginsOne lines
begun lines r ls e = (taken_lines_begin lines ls).0.0 (told r.expect, reading_expects lines ∙ ap (option_map (λ (q : CertificateReading). told q.expect)) e)

-- A line that is refused.
not_begun : (lines : List Line) → AllByRecursion IsLine lines → read_lines (Some unread) lines ≡ None → BeginsOne lines → ⊥
not_begun lines ls e b =
    let more : (e : Awaited) × (after_lines (Some a_version) lines ≡ Some e) = (taken_lines_begin lines ls).0.1 b in
    never more.0 (ap (option_map (λ (q : CertificateReading). told q.expect)) (sym e) ∙ sym (reading_expects lines) ∙ more.1)

bad_line : (bytes rest line after : List ℕ) (number : ℕ) (r : CertificateReading) → IsRead bytes rest number r → IsLineThen rest line after → read_line r line ≡ None → IsBadLine bytes number
bad_line bytes rest line after number r h l e = record {
  before = h.lines;
  line = line;
  after = 10 ∷ after;
  is_line = l.is_line;
  lie = h.lie ∙ ap (λ bs. fed h.lines ++ bs) l.lie;
  begun = begun h.lines r h.are_lines h.after;
  place = h.count;
  cause = inl (after, refl, not_begun (h.lines ++ line ∷ []) (all_joined IsLine h.lines (line ∷ []) h.are_lines (l.is_line, tt)) (read_joined (Some unread) h.lines (line ∷ []) ∙ ap (λ o. then_read o line) h.after ∙ e));
}

pub read_refused : (bytes rest line after : List ℕ) (number : ℕ) (r : CertificateReading) (made : LineRefusal) → IsRead bytes rest number r → IsLineThen rest line after → IsRefused (read_line r line) made → IsFaultOf bytes (fault_at made number)
read_refused bytes rest line after number r refusal.BadLine h l e = bad_line bytes rest line after number r h l e
read_refused bytes rest line after number r refusal.OutOfMemory h l e = tt

-- Bytes after the last line feed.
pub read_tail : (bytes rest : List ℕ) (number : ℕ) (r : CertificateReading) → IsRead bytes rest number r → IsLine rest → rest ≢ [] → IsFaultOf bytes (fault.BadLine number)
read_tail bytes rest number r h l some = record {
  before = h.lines;
  line = rest;
  after = [];
  is_line = l;
  lie = h.lie ∙ ap (λ bs. fed h.lines ++ bs) (sym (append-nil rest));
  begun = begun h.lines r h.are_lines h.after;
  place = h.count;
  cause = inr (refl, some);
}

-- The end.
all_lines : (bytes rest : List ℕ) (number : ℕ) (r : CertificateReading) (h : IsRead bytes rest number r) → rest ≡ [] → bytes ≡ fed h.lines
all_lines bytes rest number r h e = h.lie ∙ ap (λ bs. fed h.lines ++ bs) e ∙ append-nil (fed h.lines)

told_done : (e : Expect) → told e ≡ no_line → e ≡ expect.NoLine
told_done expect.NoLine f = refl
told_done expect.Version f = absurd (not_done (told expect.Version) refl (ap (λ x. Some x) f))
told_done (expect.Numbers v) f = absurd (not_done (told (expect.Numbers v)) refl (ap (λ x. Some x) f))
told_done expect.SetsCount f = absurd (not_done (told expect.SetsCount) refl (ap (λ x. Some x) f))
told_done (expect.SetLine k) f = absurd (not_done (told (expect.SetLine k)) refl (ap (λ x. Some x) f))
told_done (expect.TraceCount k) f = absurd (not_done (told (expect.TraceCount k)) refl (ap (λ x. Some x) f))
told_done (expect.TextLine n k) f = absurd (not_done (told (expect.TextLine n k)) refl (ap (λ x. Some x) f))
told_done expect.ClausesCount f = absurd (not_done (told expect.ClausesCount) refl (ap (λ x. Some x) f))
told_done (expect.ClauseLine n) f = absurd (not_done (told (expect.ClauseLine n)) refl (ap (λ x. Some x) f))
told_done (expect.StepsCount p) f = absurd (not_done (told (expect.StepsCount p)) refl (ap (λ x. Some x) f))
told_done (expect.StepLine p n) f = absurd (not_done (told (expect.StepLine p n)) refl (ap (λ x. Some x) f))
told_done expect.End f = absurd (not_done (told expect.End) refl (ap (λ x. Some x) f))

pub read_ends : (bytes rest : List ℕ) (number : ℕ) (r : CertificateReading) → IsRead bytes rest number r → rest ≡ [] → r.expect ≢ expect.NoLine → IsFaultOf bytes (fault.Ends number)
read_ends bytes rest number r h e more = record {
  lines = h.lines;
  lie = all_lines bytes rest number r h e;
  begun = begun h.lines r h.are_lines h.after;
  unfinished = λ c are. more (told_done r.expect (some_same (told r.expect) no_line (sym (reading_expects h.lines ∙ ap (option_map (λ (q : CertificateReading). told q.expect)) h.after) ∙ (taken_lines_begin h.lines h.are_lines).1.1 (c, are))));
  place = h.count;
}

pub read_spells : (bytes rest : List ℕ) (number : ℕ) (r : CertificateReading) → IsRead bytes rest number r → rest ≡ [] → r.expect ≡ expect.NoLine → SpellsCertificate bytes (seen r.certificate)
read_spells bytes rest number r h e done =
    let is : (c : Certificate) × AreLinesOf h.lines c = (taken_lines_begin h.lines h.are_lines).1.0 (reading_expects h.lines ∙ ap (option_map (λ (q : CertificateReading). told q.expect)) h.after ∙ ap (λ x. Some (told x)) done) in
    by is.0 is.1
  where
    by : (c : Certificate) → AreLinesOf h.lines c → SpellsCertificate bytes (seen r.certificate)
    by c are =
        let same : wholly_read c ≡ r = some_same (wholly_read c) r (sym (whole_read are.1.0 c are.0 are.1.1) ∙ ap (read_lines (Some unread)) (sym are.1.2) ∙ h.after) in
        (h.lines, all_lines bytes rest number r h e, subst (AreLinesOf h.lines) (ap (λ (q : CertificateReading). seen q.certificate) same) are)

-- One fault of each kind.
pub fault_bad : {A : Type 0} (bytes : List ℕ) (r : Result A CertFault) (n : ℕ) → IfErr r (IsFaultOf bytes) → IsErrOf r (fault.BadLine n) → IsBadLine bytes n
fault_bad bytes r n h e = subst (λ q. IfErr q (IsFaultOf bytes)) e h

pub fault_ends : {A : Type 0} (bytes : List ℕ) (r : Result A CertFault) (n : ℕ) → IfErr r (IsFaultOf bytes) → IsErrOf r (fault.Ends n) → EndsBefore bytes n
fault_ends bytes r n h e = subst (λ q. IfErr q (IsFaultOf bytes)) e h

-- What the end of the text gives.
pub read_given : (bytes rest : List ℕ) (number : ℕ) (r : CertificateReading) → IsRead bytes rest number r → rest ≡ [] → (o : Result Read CertFault) → IfOk o (λ c. (r.expect ≡ expect.NoLine) × (c ≡ r.certificate)) → IfOk o (λ c. SpellsCertificate bytes (seen c))
read_given bytes rest number r h e (Ok c) f = subst (λ d. SpellsCertificate bytes (seen d)) (sym f.1) (read_spells bytes rest number r h e f.0)
read_given bytes rest number r h e (Err x) f = tt

pub read_wanting : (bytes rest : List ℕ) (number : ℕ) (r : CertificateReading) → IsRead bytes rest number r → rest ≡ [] → (o : Result Read CertFault) → IfErr o (λ f. (f ≡ fault.Ends number) × (r.expect ≢ expect.NoLine)) → IfErr o (IsFaultOf bytes)
read_wanting bytes rest number r h e (Ok c) f = tt
read_wanting bytes rest number r h e (Err x) f = subst (IsFaultOf bytes) (sym f.0) (read_ends bytes rest number r h e f.1)
