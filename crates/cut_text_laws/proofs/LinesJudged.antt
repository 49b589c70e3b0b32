-- Nothing is wrong with any line of a text, or one is the first with which something is.
use Rattle.std.proofs.Common.{◌≡◌, ◌⊎◌, inl, inr, ℕ, suc, List, [], ◌∷◌, ◌++◌, length, refl, sym, ◌∙◌, ap, subst, append_assoc}
use Rattle.std.specs.List.{AllByRecursion}
use Rattle.smv_language.specs.Flat.{FlatModel}
use Rattle.cut_text_laws.specs.Lines.{Line, fed, IsLine}
use Rattle.cut_text_laws.proofs.Cuts.{Cut, cut, fed_joined}
use Rattle.cut_text_laws.specs.TraceOfText.{IsPrintable}
use Rattle.cut_text_laws.specs.TraceFaults.{LineFault, bad_line, AreSound, IsLeast, IsWrongLine}
use Rattle.cut_text_laws.specs.Laws.{LinesAreJudged}
use Rattle.cut_text_laws.proofs.OneTrace.{no_items}
use Rattle.cut_text_laws.proofs.GivenHasNone.{SoundFrom, no_lines, one_more}
use Rattle.cut_text_laws.proofs.LineJudged.{LineIs, line_sound, judge_line, AllAre, Stops}
use Rattle.std.proofs.lemmas.List.{append-nil as append_none}
use Rattle.cut_text_laws.proofs.Separators.{all_at, all_front, grouped}

pub all_sound : (m : FlatModel) → IsPrintable m → (done lines : List Line) → AllAre m done lines → SoundFrom m done lines
all_sound m p done [] h = no_lines m done
all_sound m p done (l ∷ lines) h = one_more m done l lines (line_sound m p done l h.0) (all_sound m p (done ++ l ∷ []) lines h.1)

pub judge_lines : (m : FlatModel) → IsPrintable m → (done lines : List Line) → AllByRecursion IsLine lines → AllAre m done lines ⊎ Stops m done lines
judge_lines m p done [] h = inl tt
judge_lines m p done (l ∷ lines) h = by_line (judge_line m p done l h.0) (judge_lines m p (done ++ l ∷ []) lines h.1)
  where
    by_line : LineIs m done l ⊎ ((f : LineFault) × IsLeast m done l f) → AllAre m (done ++ l ∷ []) lines ⊎ Stops m (done ++ l ∷ []) lines → AllAre m done (l ∷ lines) ⊎ Stops m done (l ∷ lines)
    by_line (inr h) more = inr (record { front = []; line = l; back = lines; lie = refl; are = tt; fault = h.0; is_least = subst (λ d. IsLeast m d l h.0) (sym (append_none done)) h.1 })
    by_line (inl is) (inl more) = inl (is, more)
    by_line (inl is) (inr s) = inr (record {
      front = l ∷ s.front;
      line = s.line;
      back = s.back;
      lie = ap (λ ls. l ∷ ls) s.lie;
      are = (is, s.are);
      fault = s.fault;
      is_least = subst (λ d. IsLeast m d s.line s.fault) (append_assoc done (l ∷ []) s.front) s.is_least;
    })

-- lines that are each as they should be, or a wrong line
pub text_lines : (m : FlatModel) → IsPrintable m → (bytes : List ℕ) → ((lines : List Line) × (bytes ≡ fed lines) × AllByRecursion IsLine lines × AllAre m [] lines) ⊎ ((f : LineFault) × (n : ℕ) × IsWrongLine m bytes f n)
text_lines m p bytes = by_cut (cut bytes)
  where
    stopped : (c : Cut bytes) → Stops m [] c.lines → (f : LineFault) × (n : ℕ) × IsWrongLine m bytes f n
    stopped c s = (
      s.fault,
      suc (length s.front),
      record {
        before = s.front;
        line = s.line;
        after = 10 ∷ (fed s.back ++ c.tail);
        lie = c.lie ∙ ap (λ ls. fed ls ++ c.tail) s.lie ∙ ap (λ bs. bs ++ c.tail) (fed_joined s.front (s.line ∷ s.back)) ∙ append_assoc (fed s.front) (fed (s.line ∷ s.back)) c.tail
            ∙ ap (λ bs. fed s.front ++ bs) (grouped s.line s.back c.tail);
        are_lines = all_front IsLine s.front (s.line ∷ s.back) (subst (AllByRecursion IsLine) s.lie c.are_lines);
        is_line = all_at IsLine s.front s.line s.back (subst (AllByRecursion IsLine) s.lie c.are_lines);
        sound = all_sound m p [] s.front s.are;
        place = refl;
        cause = inl (fed s.back ++ c.tail, refl, s.is_least);
      },
    )

    by_tail : (lines : List Line) (tail : Line) → bytes ≡ fed lines ++ tail → AllByRecursion IsLine lines → IsLine tail → AllAre m [] lines →
        ((lines : List Line) × (bytes ≡ fed lines) × AllByRecursion IsLine lines × AllAre m [] lines) ⊎ ((f : LineFault) × (n : ℕ) × IsWrongLine m bytes f n)
    by_tail lines [] lie ls l are = inl (lines, lie ∙ append_none (fed lines), ls, are)
    by_tail lines (t ∷ tail) lie ls l are = inr (
      bad_line,
      suc (length lines),
      record {
        before = lines;
        line = t ∷ tail;
        after = [];
        lie = lie ∙ ap (λ bs. fed lines ++ bs) (sym (append_none (t ∷ tail)));
        are_lines = ls;
        is_line = l;
        sound = all_sound m p [] lines are;
        place = refl;
        cause = inr (refl, λ e. no_items t tail (t ∷ tail) e refl, refl);
      },
    )

    by_lines : (c : Cut bytes) → AllAre m [] c.lines ⊎ Stops m [] c.lines → ((lines : List Line) × (bytes ≡ fed lines) × AllByRecursion IsLine lines × AllAre m [] lines) ⊎ ((f : LineFault) × (n : ℕ) × IsWrongLine m bytes f n)
    by_lines c (inl are) = by_tail c.lines c.tail c.lie c.are_lines c.is_line are
    by_lines c (inr s) = inr (stopped c s)

    by_cut : Cut bytes → ((lines : List Line) × (bytes ≡ fed lines) × AllByRecursion IsLine lines × AllAre m [] lines) ⊎ ((f : LineFault) × (n : ℕ) × IsWrongLine m bytes f n)
    by_cut c = by_lines c (judge_lines m p [] c.lines c.are_lines)

pub lines_are_judged : LinesAreJudged
lines_are_judged m p bytes = by_side (text_lines m p bytes)
  where
    by_side : ((lines : List Line) × (bytes ≡ fed lines) × AllByRecursion IsLine lines × AllAre m [] lines) ⊎ ((f : LineFault) × (n : ℕ) × IsWrongLine m bytes f n) →
        ((lines : List Line) × (bytes ≡ fed lines) × AllByRecursion IsLine lines × AreSound m lines) ⊎ ((f : LineFault) × (n : ℕ) × IsWrongLine m bytes f n)
    by_side (inl h) = inl (h.0, h.1, h.2, all_sound m p [] h.0 h.3)
    by_side (inr h) = inr h
