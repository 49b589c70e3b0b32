-- The whole text: what is wrong first with it, or the trace that it gives.
use Rattle.std.proofs.Common.{◌≡◌, ◌≢◌, ◌⊎◌, inl, inr, ℕ, zero, suc, ◌+◌, ◌-◌, ◌<◌, ◌≤◌, List, [], ◌∷◌, ◌++◌, length, refl, sym, ◌∙◌, ap, subst, arith, length-append, replicate, Bool, true, false, Some}
use Rattle.std.specs.Prelude.{slice_get, IsTrue, if◌then◌else◌}
use Rattle.std.specs.List.{AllByRecursion}
use Rattle.std.proofs.lemmas.Option.{slice_get_within, none-some as never, same_Some as some_same}
use Rattle.std.proofs.lemmas.List.{length-replicate, append-nil as append_none}
use Rattle.smv_language.specs.Language.{Text, same_text, Value, value_text, in_domain, FlatVariable, FlatModel, told_value, told_moment, told_trace}
use Rattle.smv_flat_laws.specs.FlatTrace.{AreInDomains}
use Rattle.cut_text_laws.specs.Lines.{Line, fed, IsLine}
use Rattle.cut_text_laws.proofs.Cuts.{line_lies, length_more, fed_long, rest_shorter}
use Rattle.cut_text_laws.specs.TraceText.{moment_line}
use Rattle.cut_text_laws.specs.TraceOfText.{IsPrintable, GivesMoments, BytesGive}
use Rattle.cut_text_laws.specs.TraceFaults.{moments_after, Lacks, Misses}
use Rattle.cut_text_laws.proofs.OneTrace.{no_items}
use Rattle.cut_text_laws.proofs.Moments.{after_both, none_begins, no_fewer, next_begins}
use Rattle.cut_text_laws.proofs.LineJudged.{AllAre}
use Rattle.cut_text_laws.proofs.TextJudged.{Own, cut_own, all_bare}
use Rattle.base_values.specs.declared.value.Value.{Value as Numbered}
use Rattle.cut_report.specs.declared.fault.TraceFault.{TraceFault}
use Rattle.cut_report.specs.declared.fault.TraceFault.TheVariants as fault
use Rattle.cut_report.specs.declared.reading.Slot.{Slot}
use Rattle.cut_report.specs.declared.reading.TraceReading.{TraceReading}
use Rattle.base_values.specs.Separators.{IsLineThen}
use Rattle.cut_report.specs.Faults.{IsFaultOf}
use Rattle.cut_report.specs.TraceReading.{IsGiven, IsSaid, IsAfter, with_last, ended, IsUnfinished, IsFinished}
use Rattle.cut_report.proofs.Positions.{sound_are}
use Rattle.cut_report.proofs.LookupLaws.{IsImage, image}
use Rattle.cut_report.proofs.Steps.{IsEnded, moment_ended}
use Rattle.cut_report.proofs.Collected.{IsTold, moments_collected}
use Rattle.base_values.proofs.ListLaws.{get_within}

-- Before the first line.
pub before_all : (m : FlatModel) (r : TraceReading) → r.begun ≡ 0 → r.moments ≡ [] → length r.slots.items ≡ length m.variables → ((i : ℕ) (s : Slot) → slice_get r.slots.items i ≡ Some s → s.moment ≡ 0) → IsAfter m [] r
before_all m r none nothing many fresh = record {
  sound = λ front line back f e b. no_line front line back e;
  begun = none;
  many = many;
  last = λ i x s at is. record { early = omega (arith, fresh i s is); given = λ some now. absurd (omega (arith, some, none)); silent = λ some now. absurd (omega (arith, some, none)) };
  kept = λ k v e. absurd (never v (ap (λ ms. slice_get ms k) (sym nothing) ∙ e));
  few = subst (λ ms. length ms ≤ r.begun - 1) (sym nothing) (omega arith);
  lacking = λ past. absurd (omega (arith, past, none));
}
  where
    no_line : (front : List Line) (line : Line) (back : List Line) → [] ≡ front ++ line ∷ back → ⊥
    no_line [] line back e = no_items line back [] refl e
    no_line (x ∷ front) line back e = no_items x (front ++ line ∷ back) [] refl e

-- as many slots as variables, none of which was given a value
pub first_after : (m : FlatModel) (r : TraceReading) (n : ℕ) (s : Slot) → r.begun ≡ 0 → r.moments ≡ [] → r.slots.items ≡ replicate n s → s.moment ≡ 0 → n ≡ length m.variables → IsAfter m [] r
first_after m r n s none nothing same zeroth many =
    before_all m r none nothing (ap length same ∙ length-replicate n s ∙ many) (λ i t e. ap (λ (u : Slot). u.moment) (all_same n i t (ap (λ ss. slice_get ss i) (sym same) ∙ e)) ∙ zeroth)
  where
    all_same : (n i : ℕ) (t : Slot) → slice_get (replicate n s) i ≡ Some t → t ≡ s
    all_same zero i t e = absurd (never t e)
    all_same (suc n) zero t e = sym (some_same s t e)
    all_same (suc n) (suc i) t e = all_same n i t e

-- bytes after the last line feed
pub tail_wrong : (m : FlatModel) (bytes rest : List ℕ) (lines : List Line) (r : TraceReading) (number : ℕ) → IsAfter m lines r → bytes ≡ fed lines ++ rest → AllByRecursion IsLine lines → IsLine rest → rest ≢ [] → number ≡ suc (length lines) →
    IsFaultOf m bytes (fault.BadLine number)
tail_wrong m bytes rest lines r number h e ls l some count = subst (λ n. IsFaultOf m bytes (fault.BadLine n)) (sym count) (inl (record {
  before = lines;
  line = rest;
  after = [];
  lie = e ∙ ap (λ bs. fed lines ++ bs) (sym (append_none rest));
  are_lines = ls;
  is_line = l;
  sound = h.sound;
  place = refl;
  cause = inr (refl, some, refl);
}))

-- one line more
pub are_more : (lines : List Line) (line : Line) → AllByRecursion IsLine lines → IsLine line → AllByRecursion IsLine (lines ++ line ∷ [])
are_more [] line ls l = (l, tt)
are_more (x ∷ lines) line ls l = (ls.0, are_more lines line ls.1 l)

-- the values of a moment as they are told
in_domains : (symbols : List Text) (xs : List FlatVariable) (v : List Numbered) → length v ≡ length xs → ((i : ℕ) (x : FlatVariable) (w : Numbered) → slice_get xs i ≡ Some x → slice_get v i ≡ Some w → IsTrue (in_domain x.declared (told_value symbols w))) →
    AreInDomains xs (told_moment symbols v)
in_domains symbols [] [] e h = tt
in_domains symbols [] (w ∷ v) e h = absurd (omega (arith, e))
in_domains symbols (x ∷ xs) [] e h = absurd (omega (arith, e))
in_domains symbols (x ∷ xs) (w ∷ v) e h = (h 0 x w refl refl, in_domains symbols xs v (omega (arith, e)) (λ i. h (suc i)))

said_told : (m : FlatModel) (lines : List Line) (v : List Numbered) (k : ℕ) → IsSaid m lines v k → IsTold m lines (told_moment m.symbols v) k
said_told m lines v k s = record {
  domains = in_domains m.symbols m.variables v s.many (λ i x w at is. (s.each i x w at is).inside);
  each = λ i x w at is. of_image i x w at (image (told_value m.symbols) v i w is);
}
  where
    of_image : (i : ℕ) (x : FlatVariable) (w : Value) → slice_get m.variables i ≡ Some x → IsImage (told_value m.symbols) v i w → IsGiven lines x w k
    of_image i x w at u = subst (λ z. IsGiven lines x z k) u.same (s.each i x u.item at u.is)

-- The end of the text.
module _ (m : FlatModel) (p : IsPrintable m) (lines : List Line) (r : TraceReading) (h : IsAfter m lines r) (ls : AllByRecursion IsLine lines) where
  are : AllAre m [] lines
  are = sound_are m p lines ls h.sound

  cut : Own m [] lines
  cut = cut_own m p [] lines are

  abbrev moments : List (List Numbered)
  moments = with_last r.begun r.slots.items r.moments

  done : IsEnded m lines r.begun (with_last r.begun r.slots.items r.moments)
  done = moment_ended m lines r h

  none_in_own : (o : Own m [] lines) → moments_after 0 o.own ≡ 0
  none_in_own o = none_begins 0 o.own o.quiet

  blank_own : (o : Own m [] lines) → AllByRecursion (λ line. line ≡ []) o.own
  blank_own o = all_bare m [] o.own refl o.own_are o.quiet

  -- the moments after the empty lines
  at_first : (o : Own m [] lines) → (o.rest ≡ []) ⊎ ((more : List Line) × (o.rest ≡ moment_line 0 ∷ more))
  at_first o = subst (λ k. (o.rest ≡ []) ⊎ ((more : List Line) × (o.rest ≡ moment_line k ∷ more))) (none_in_own o) o.at

  -- where no moment has begun all lines are empty
  all_blank : r.begun ≡ 0 → AllByRecursion (λ line. line ≡ []) lines
  all_blank none = by (at_first cut)
    where
      by : (cut.rest ≡ []) ⊎ ((more : List Line) × (cut.rest ≡ moment_line 0 ∷ more)) → AllByRecursion (λ line. line ≡ []) lines
      by (inl e) = subst (AllByRecursion (λ line. line ≡ [])) (sym (cut.lie ∙ ap (λ ls. cut.own ++ ls) e ∙ append_none cut.own)) (blank_own cut)
      by (inr e) =
          let all : moments_after 0 lines ≡ moments_after 1 e.0 = ap (moments_after 0) (cut.lie ∙ ap (λ ls. cut.own ++ ls) e.1) ∙ after_both 0 cut.own (moment_line 0 ∷ e.0) ∙ ap (λ k. moments_after k (moment_line 0 ∷ e.0)) (none_in_own cut) ∙ next_begins 0 e.0 in
          let high : 1 ≤ moments_after 1 e.0 = no_fewer 1 e.0 in
          absurd (omega (arith, all, high, none, h.begun))

  pub unfinished_wrong : (bytes : List ℕ) → bytes ≡ fed lines → (f : TraceFault) → IsUnfinished (ended r) f → IsFaultOf m bytes f
  unfinished_wrong bytes e (fault.BadLine n) u = inr ((lines, e, all_blank u.0), refl, u.1)
  unfinished_wrong bytes e (fault.MissingValue k) u = subst (Misses m bytes) (sym u.0) (record {
    lines = lines;
    lie = e;
    are_lines = ls;
    sound = h.sound;
    has = omega (arith, u.0, u.1, h.begun);
    lacks = done.lacking (omega (arith, u.0, u.1));
    least = least;
  })
    where
      least : (j : ℕ) → j < length moments → Lacks m lines j → ⊥
      least j less l = of_value (get_within moments j less)
        where
          of_value : (v : List Numbered) × (slice_get moments j ≡ Some v) → ⊥
          of_value v = of_item (get_within v.0 l.place (let within : l.place < length m.variables = slice_get_within m.variables l.place l.variable l.is_variable in omega (arith, within, said.many)))
            where
              said : IsSaid m lines v.0 (suc j)
              said = done.kept j v.0 v.1

              of_item : (w : Numbered) × (slice_get v.0 l.place ≡ Some w) → ⊥
              of_item w = of_given (said.each l.place l.variable w.0 l.is_variable w.1)
                where
                  of_given : IsGiven lines l.variable (told_value m.symbols w.0) (suc j) → ⊥
                  of_given g = l.elsewhere g.earlier (value_text (told_value m.symbols w.0)) g.later g.lie g.there
  unfinished_wrong bytes e fault.OutOfMemory u = tt
  unfinished_wrong bytes e (fault.UnknownName n) u = absurd u
  unfinished_wrong bytes e (fault.Outside n) u = absurd u
  unfinished_wrong bytes e (fault.Twice n) u = absurd u

  pub finished_gives : (bytes : List ℕ) → bytes ≡ fed lines → (trace : List (List Numbered)) → IsFinished (ended r) trace → BytesGive m bytes (told_trace m.symbols trace)
  finished_gives bytes e trace f = (lines, e, ls, record { blank = cut.own; rest = cut.rest; lie = cut.lie; empty = blank_own cut; some = some; moments = given })
    where
      count : length trace ≡ r.begun
      count = let same : length trace ≡ length moments = ap length f.same in omega (arith, same, f.all, done.few)

      length_told : (xs : List (List Numbered)) → length (told_trace m.symbols xs) ≡ length xs
      length_told [] = refl
      length_told (x ∷ xs) = ap suc (length_told xs)

      some : told_trace m.symbols trace ≢ []
      some e = let none : length (told_trace m.symbols trace) ≡ length {A = List Value} [] = ap (length {A = List Value}) e in let many : length (told_trace m.symbols trace) ≡ length trace = length_told trace in omega (arith, none, many, count, f.some)

      given : GivesMoments m 0 cut.rest (told_trace m.symbols trace)
      given = moments_collected m p (length cut.rest) lines cut.own cut.rest 0 cut.lie (omega arith) (none_in_own cut) cut.rest_are (at_first cut) (told_trace m.symbols trace) (omega (arith, length_told trace, count, h.begun)) told
        where
          told : (k : ℕ) (v : List Value) → slice_get (told_trace m.symbols trace) k ≡ Some v → IsTold m lines v (suc (0 + k))
          told k v at = of_moment (image (told_moment m.symbols) trace k v at)
            where
              of_moment : IsImage (told_moment m.symbols) trace k v → IsTold m lines v (suc (0 + k))
              of_moment u = subst (λ n. IsTold m lines v n) (omega arith) (subst (λ w. IsTold m lines w (suc k)) u.same (said_told m lines u.item (suc k) (done.kept k u.item (ap (λ ms. slice_get ms k) (sym f.same) ∙ u.is))))

-- The text up to a line.
pub record IsRead (m : FlatModel) (bytes rest : List ℕ) (number : ℕ) (r : TraceReading) : Type 0 where
  pub lines : List Line
  pub lie : bytes ≡ fed lines ++ rest
  pub are_lines : AllByRecursion IsLine lines
  pub after : IsAfter m lines r
  pub count : number ≡ suc (length lines)

pub read_start : (m : FlatModel) (bytes : List ℕ) (r : TraceReading) → IsAfter m [] r → IsRead m bytes bytes 1 r
read_start m bytes r h = record { lines = []; lie = refl; are_lines = tt; after = h; count = refl }

pub read_more : (m : FlatModel) (bytes rest line after : List ℕ) (number : ℕ) (old new : TraceReading) → IsRead m bytes rest number old → IsLineThen rest line after →
    ((lines : List Line) → IsAfter m lines old → IsAfter m (lines ++ line ∷ []) new) → IsRead m bytes after (number + 1) new
read_more m bytes rest line after number old new h l step = record {
  lines = h.lines ++ line ∷ [];
  lie = line_lies bytes rest line after h.lines h.lie l;
  are_lines = are_more h.lines line h.are_lines l.is_line;
  after = step h.lines h.after;
  count = let longer : length (h.lines ++ line ∷ []) ≡ suc (length h.lines) = length_more h.lines line in omega (arith, longer, h.count);
}

-- a moment takes a line, and a line a byte
begun_few : (n : ℕ) (lines : List Line) → moments_after n lines ≤ n + length lines
begun_few n [] = omega arith
begun_few n (l ∷ lines) = by (same_text l (moment_line n)) (begun_few (suc n) lines) (begun_few n lines)
  where
    by : (b : Bool) → moments_after (suc n) lines ≤ suc n + length lines → moments_after n lines ≤ n + length lines → moments_after (if b then suc n else n) lines ≤ n + suc (length lines)
    by true h g = omega (arith, h)
    by false h g = omega (arith, g)

pub read_few : (m : FlatModel) (bytes rest line after : List ℕ) (number : ℕ) (r : TraceReading) → IsRead m bytes rest number r → IsLineThen rest line after → number ≤ length bytes
read_few m bytes rest line after number r h l =
    let whole : length bytes ≡ length (fed h.lines ++ rest) = ap length h.lie in
    let sum : length (fed h.lines ++ rest) ≡ length (fed h.lines) + length rest = length-append (fed h.lines) rest in
    let long : length h.lines ≤ length (fed h.lines) = fed_long h.lines in
    let less : length after < length rest = rest_shorter rest line after l in
    omega (arith, whole, sum, long, less, h.count)

pub begun_fewer : (m : FlatModel) (bytes rest : List ℕ) (number : ℕ) (r : TraceReading) → IsRead m bytes rest number r → r.begun < number
begun_fewer m bytes rest number r h = let few : moments_after 0 h.lines ≤ 0 + length h.lines = begun_few 0 h.lines in omega (arith, few, h.count, h.after.begun)

pub read_tail : (m : FlatModel) (bytes rest : List ℕ) (number : ℕ) (r : TraceReading) → IsRead m bytes rest number r → IsLine rest → rest ≢ [] → IsFaultOf m bytes (fault.BadLine number)
read_tail m bytes rest number r h l some = tail_wrong m bytes rest h.lines r number h.after h.lie h.are_lines l some h.count

pub read_fault : (m : FlatModel) → IsPrintable m → (bytes rest : List ℕ) (number : ℕ) (r : TraceReading) (f : TraceFault) → IsRead m bytes rest number r → rest ≡ [] → IsUnfinished (ended r) f → IsFaultOf m bytes f
read_fault m p bytes rest number r f h none u = unfinished_wrong m p h.lines r h.after h.are_lines bytes (h.lie ∙ ap (λ b. fed h.lines ++ b) none ∙ append_none (fed h.lines)) f u

pub read_gives : (m : FlatModel) → IsPrintable m → (bytes rest : List ℕ) (number : ℕ) (r : TraceReading) (trace : List (List Numbered)) → IsRead m bytes rest number r → rest ≡ [] → IsFinished (ended r) trace → BytesGive m bytes (told_trace m.symbols trace)
read_gives m p bytes rest number r trace h none f = finished_gives m p h.lines r h.after h.are_lines bytes (h.lie ∙ ap (λ b. fed h.lines ++ b) none ∙ append_none (fed h.lines)) trace f
