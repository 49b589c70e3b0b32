-- Moments that a text gives can be replayed, and which rule is broken where it gives none.
use Rattle.std.proofs.Common.{arith, ◌≡◌, ◌≢◌, ◌≤◌, ◌<◌, ℕ, suc, Bool, true, List, [], ◌∷◌, ◌++◌, length, Option, Some, None, refl, ap, subst}
use Rattle.std.specs.Prelude.{slice_get, IsTrue}
use Rattle.std.proofs.lemmas.List.{length-append}
use Rattle.smv_language.specs.declared.program.Member.{Member}
use Rattle.smv_language.specs.declared.program.Member.TheVariants as member
use Rattle.smv_language.specs.Language.{Text, DeclaredTree, boolean, range, members, instance, Each, in_domain, is_member, IsWritableType, IsWritableMember, FlatVariable, FlatModel, told_value, told_moment, told_trace, text_or_none}
use Rattle.smv_language.specs.Values as told
use Rattle.base_values.specs.declared.value.Value.{Value}
use Rattle.base_values.specs.declared.value.Value.TheVariants.{Bool as ABool, Num, Sym}
use Rattle.smv_flat_laws.specs.FlatTrace.{AreInDomains}
use Rattle.cut_text_laws.specs.Lines.{Line, fed}
use Rattle.smv_evaluation.specs.EvaluableModels.{IsPlaceOf, IsNumbered, IsLawful, CanBeReplayed}
use Rattle.cut_text_laws.specs.TraceOfText.{IsPrintable, GivesMoments, GivesTrace, BytesGive}
use Rattle.std.specs.List.{AllByRecursion}
use Rattle.cut_text_laws.specs.Lines.{IsLine}
use Rattle.cut_text_laws.proofs.Cuts.{same_fed}
use Rattle.cut_text_laws.specs.TraceFaults.{wrong_line, missing_value, bad_line, unknown_name, outside, twice}
use Rattle.cut_text_laws.proofs.GivenHasNone.{given_has_none}
use Rattle.cut_report.specs.Faults.{IsFaultOf}
use Rattle.cut_report.specs.declared.fault.TraceFault.{TraceFault}
use Rattle.cut_report.specs.declared.fault.TraceFault.TheVariants as fault
use Rattle.cert_check.specs.Fit.{IsShortText}
use Rattle.cert_check.specs.Moments.{IsTextFault}

-- The empty text is no value of a type that can be written.
pub no_empty_member : (ms : List Member) → Each IsWritableMember ms → is_member ms (told.symbol []) ≡ true → ⊥
no_empty_member [] w e = cc
no_empty_member (member.Number n ∷ ms) w e = no_empty_member ms w.1 e
no_empty_member (member.Symbol [] ∷ ms) w e = w.0.1
no_empty_member (member.Symbol (b ∷ x) ∷ ms) w e = no_empty_member ms w.1 e

pub no_empty_symbol : (d : DeclaredTree) → IsWritableType d → in_domain d (told.symbol []) ≡ true → ⊥
no_empty_symbol boolean w e = cc
no_empty_symbol (range lo hi) w e = cc
no_empty_symbol (members ms) w e = no_empty_member ms w.1 e
no_empty_symbol (instance m actuals) w e = cc

pub is_true : (b : Bool) → IsTrue b → b ≡ true
is_true b h = h

-- A value of such a type has the number of a symbol, where it is one.
pub numbered : (symbols : List Text) (d : DeclaredTree) → IsWritableType d → (v : Value) → IsTrue (in_domain d (told_value symbols v)) → IsNumbered symbols v
numbered symbols d w (ABool b) h = tt
numbered symbols d w (Num n) h = tt
numbered symbols d w (Sym i) h = by_text (slice_get symbols i) refl (is_true (in_domain d (told_value symbols (Sym i))) h)
  where
    by_text : (o : Option Text) → slice_get symbols i ≡ o → in_domain d (told.symbol (text_or_none o)) ≡ true → IsPlaceOf symbols i
    by_text None e f = absurd (no_empty_symbol d w f)
    by_text (Some x) e f = record { text = x; there = e }

pub all_numbered : (symbols : List Text) (xs : List FlatVariable) → ((i : ℕ) (x : FlatVariable) → slice_get xs i ≡ Some x → IsWritableType x.declared) → (vs : List Value) →
    AreInDomains xs (told_moment symbols vs) → Each (IsNumbered symbols) vs
all_numbered symbols [] w [] h = tt
all_numbered symbols [] w (v ∷ vs) h = absurd h
all_numbered symbols (x ∷ xs) w [] h = absurd h
all_numbered symbols (x ∷ xs) w (v ∷ vs) h = (numbered symbols x.declared (w 0 x refl) v h.0, all_numbered symbols xs (λ i y e. w (suc i) y e) vs h.1)

module _ (m : FlatModel) (printable : IsPrintable m) where
  lawful_moment : (v : List Value) → AreInDomains m.variables (told_moment m.symbols v) → IsLawful m v
  lawful_moment v h = record { domains = h; numbered = all_numbered m.symbols m.variables printable.types v h }

  pub all_lawful : (n : ℕ) (lines : List Line) (trace : List (List Value)) → GivesMoments m n lines (told_trace m.symbols trace) → Each (IsLawful m) trace
  all_lawful n lines [] h = tt
  all_lawful n lines (v ∷ vs) h = (lawful_moment v h.3.domains, all_lawful (suc n) h.1 vs h.4)

  -- there are no more moments than lines
  pub few_moments : (n : ℕ) (lines : List Line) (trace : List (List Value)) → GivesMoments m n lines (told_trace m.symbols trace) → length trace ≤ length lines
  few_moments n lines [] h = omega arith
  few_moments n lines (v ∷ vs) h =
      let more = few_moments (suc n) h.1 vs h.4 in
      let whole : length lines ≡ suc (length (h.0 ++ h.1)) = ap length h.2 in
      let joined = length-append h.0 h.1 in
      omega (arith, more, whole, joined)

  pub some_moments : (trace : List (List Value)) → told_trace m.symbols trace ≢ [] → 0 < length trace
  some_moments [] h = absurd (h refl)
  some_moments (v ∷ vs) h = omega arith

  -- the lines of a short text are those that its bytes have
  pub lines_give : (text : List Line) (trace : List (List told.Value)) → AllByRecursion IsLine text → BytesGive m (fed text) trace → GivesTrace m text trace
  lines_give text trace are (lines, is, lie, gives) = subst (λ ls. GivesTrace m ls trace) (same_fed (fed text) lines text lie are is refl) gives

  pub can_be_replayed : (text : List Line) (trace : List (List Value)) → IsShortText text → GivesTrace m text (told_trace m.symbols trace) → CanBeReplayed m trace
  can_be_replayed text trace short gives =
      let moments = few_moments 0 gives.rest trace gives.moments in
      let rest : length text ≡ length (gives.blank ++ gives.rest) = ap length gives.lie in
      let joined = length-append gives.blank gives.rest in
      let limit = short.few in
      record { some = some_moments trace gives.some; few = omega (arith, moments, rest, joined, limit); lawful = all_lawful 0 gives.rest trace gives.moments }

  -- where something is wrong with the bytes the lines give no trace
  pub gives_none : (text : List Line) (f : TraceFault) → AllByRecursion IsLine text → IsTextFault f → IsFaultOf m (fed text) f → (trace : List (List told.Value)) → GivesTrace m text trace → ⊥
  gives_none text (fault.BadLine n) are is wrong trace g = given_has_none m printable (fed text) trace (wrong_line bad_line n) (text, refl, are, g) wrong
  gives_none text (fault.UnknownName n) are is wrong trace g = given_has_none m printable (fed text) trace (wrong_line unknown_name n) (text, refl, are, g) wrong
  gives_none text (fault.Outside n) are is wrong trace g = given_has_none m printable (fed text) trace (wrong_line outside n) (text, refl, are, g) wrong
  gives_none text (fault.MissingValue k) are is wrong trace g = given_has_none m printable (fed text) trace (missing_value k) (text, refl, are, g) wrong
  gives_none text (fault.Twice n) are is wrong trace g = given_has_none m printable (fed text) trace (wrong_line twice n) (text, refl, are, g) wrong
  gives_none text fault.OutOfMemory are is wrong trace g = is
