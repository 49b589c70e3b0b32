-- What stands after one more line.
use Rattle.std.proofs.Common.{◌≡◌, ◌≢◌, ◌⊎◌, inl, inr, ℕ, zero, suc, ◌+◌, ◌-◌, ◌<◌, ◌≤◌, Bool, true, false, ◌&&◌, nat_eq, nat_lt, List, [], ◌∷◌, ◌++◌, length, Some, refl, sym, ◌∙◌, ap, subst, arith, append_assoc, length-append, eqb-true, eq-eqb, ltb-true}
use Rattle.std.specs.Prelude.{slice_get, slice_set, IsTrue, if◌then◌else◌}
use Rattle.std.specs.List.{list_all}
use Rattle.std.proofs.lemmas.Bool.Decides.{nat_tests}
use Rattle.std.proofs.lemmas.Option.{slice_get_within, same_Some as some_same, none-some as never}
use Rattle.std.proofs.lemmas.List.{length-set}
use Rattle.smv_language.specs.Language.{Text, Value, value_text, in_domain, FlatVariable, FlatModel, told_value}
use Rattle.smv_flat_laws.proofs.OneOfTwo.{set_get, set_own}
use Rattle.cut_text_laws.specs.Lines.{Line}
use Rattle.cut_text_laws.proofs.Separators.{same_front}
use Rattle.cut_text_laws.specs.TraceText.{variable_text, moment_line, equation, value_line}
use Rattle.cut_text_laws.specs.TraceOfText.{IsLineWord, IsPrintable}
use Rattle.cut_text_laws.specs.TraceFaults.{moments_after, IsEquation, WasSaid, Breaks, Lacks}
use Rattle.cut_text_laws.proofs.OneTrace.{some_moment, no_moment, equation_some}
use Rattle.cut_text_laws.proofs.OneFault.{empty_breaks}
use Rattle.cut_text_laws.proofs.GivenHasNone.{moment_sound}
use Rattle.cut_text_laws.proofs.LineJudged.{LineIs, says, line_sound}
use Rattle.base_values.specs.declared.value.Value.{Value as Numbered}
use Rattle.cut_report.specs.declared.reading.Slot.{Slot}
use Rattle.cut_report.specs.declared.reading.TraceReading.{TraceReading}
use Rattle.cut_report.specs.TraceReading.{IsGiven, IsSilent, IsLast, IsSaid, AreSaid, IsAfter, values_of, with_last, Gives}
use Rattle.cut_report.proofs.Positions.{last_or_in, sound_more, still, one_begins, front_begun, lacks_more, lacks_at_moment}
use Rattle.std.proofs.lemmas.Bool.{and_parts as first_true}
use Rattle.base_values.proofs.ListLaws.{push_get, get_within}

-- What was said stays said.
given_more : (lines : List Line) (l : Line) (x : FlatVariable) (w : Value) (k : ℕ) → IsGiven lines x w k → IsGiven (lines ++ l ∷ []) x w k
given_more lines l x w k g = record {
  inside = g.inside;
  earlier = g.earlier;
  later = g.later ++ l ∷ [];
  lie = ap (λ ls. ls ++ l ∷ []) g.lie ∙ append_assoc g.earlier (value_line x w ∷ g.later) (l ∷ []);
  there = g.there;
}

said_more : (m : FlatModel) (lines : List Line) (l : Line) (moments : List (List Numbered)) → AreSaid m lines moments → AreSaid m (lines ++ l ∷ []) moments
said_more m lines l moments h k v e = record { many = (h k v e).many; each = λ i x w at is. given_more lines l x (told_value m.symbols w) (suc k) ((h k v e).each i x w at is) }

-- and what was not is not said by another line
silent_more : (lines : List Line) (l : Line) (name : Line) (k : ℕ) → IsSilent lines name k → ((value : Line) → l ≡ equation name value → moments_after 0 lines ≡ k → ⊥) → IsSilent (lines ++ l ∷ []) name k
silent_more lines l name k silent other earlier value later e there = by_side (last_or_in lines l earlier (equation name value) later e)
  where
    by_side : ((more : List Line) × (lines ≡ earlier ++ equation name value ∷ more) × (later ≡ more ++ l ∷ [])) ⊎ ((earlier ≡ lines) × (equation name value ≡ l) × (later ≡ [])) → ⊥
    by_side (inl i) = silent earlier value i.0 i.1 there
    by_side (inr i) = other value (sym i.1) (ap (moments_after 0) (sym i.0) ∙ there)

last_more : (symbols : List Text) (lines : List Line) (l : Line) (begun : ℕ) (x : FlatVariable) (s : Slot) → IsLast symbols lines begun x s → ((value : Line) → l ≢ equation (variable_text x) value) → IsLast symbols (lines ++ l ∷ []) begun x s
last_more symbols lines l begun x s h other = record {
  early = h.early;
  given = λ some is. given_more lines l x (told_value symbols s.value) begun (h.given some is);
  silent = λ some is. silent_more lines l (variable_text x) begun (h.silent some is) (λ value e there. other value e);
}

lacking_more : (m : FlatModel) (lines : List Line) (l : Line) (begun k : ℕ) → begun ≡ moments_after 0 lines → (k + 1 < begun → Lacks m lines k) → k + 1 < begun → Lacks m (lines ++ l ∷ []) k
lacking_more m lines l begun k e h past = lacks_more m lines l k (h past) (omega (arith, e, past))

-- An empty line.
pub after_empty : (m : FlatModel) (lines : List Line) (l : Line) (r : TraceReading) → l ≡ [] → IsAfter m lines r → IsAfter m (lines ++ l ∷ []) r
after_empty m lines l r e h = record {
  sound = sound_more m lines l h.sound (λ f b. empty_breaks m lines f (subst (λ x. Breaks m lines x f) e b));
  begun = h.begun ∙ sym (still lines l (λ f. some_moment (moments_after 0 lines) (sym f ∙ e)));
  many = h.many;
  last = λ i x s at is. last_more m.symbols lines l r.begun x s (h.last i x s at is) (λ value f. equation_some (variable_text x) value (sym f ∙ e));
  kept = said_more m lines l r.moments h.kept;
  few = h.few;
  lacking = lacking_more m lines l r.begun (length r.moments) h.begun h.lacking;
}

-- A value's line.
pub after_value : (m : FlatModel) → IsPrintable m → (lines : List Line) (l name text : Line) (old new : TraceReading) → IsAfter m lines old → IsEquation name text l → 0 < old.begun → Gives m old new name text → IsAfter m (lines ++ l ∷ []) new
after_value m p lines l name text old new h q some g = record {
  sound = sound_more m lines l h.sound (line_sound m p lines l is_line);
  begun = g.given.begun ∙ h.begun ∙ sym (still lines l (λ f. no_moment (variable_text x) (value_text w) (moments_after 0 lines) word (sym line ∙ f)));
  many = ap length g.given.slots ∙ length-set old.slots.items g.place (record { moment = old.begun; value = g.value }) ∙ h.many;
  last = last;
  kept = subst (AreSaid m (lines ++ l ∷ [])) (sym g.given.moments) (said_more m lines l old.moments h.kept);
  few = subst (λ ms. length ms ≤ new.begun - 1) (sym g.given.moments) (subst (λ b. length old.moments ≤ b - 1) (sym g.given.begun) h.few);
  lacking = subst (λ ms. length ms + 1 < new.begun → Lacks m (lines ++ l ∷ []) (length ms)) (sym g.given.moments)
      (subst (λ b. length old.moments + 1 < b → Lacks m (lines ++ l ∷ []) (length old.moments)) (sym g.given.begun) (lacking_more m lines l old.begun (length old.moments) h.begun h.lacking));
}
  where
    x : FlatVariable
    x = g.named.variable

    w : Value
    w = told_value m.symbols g.value

    word : IsLineWord (variable_text x)
    word = p.words g.place x g.named.is_variable

    line : l ≡ value_line x w
    line = q.is_line ∙ ap (λ n. equation n text) (sym g.named.is_name) ∙ ap (equation (variable_text x)) (sym g.valued.is_text)

    inside : IsTrue (in_domain x.declared w)
    inside = g.valued.inside x g.named.is_variable

    slot : (s : Slot) × (slice_get old.slots.items g.place ≡ Some s)
    slot = let within : g.place < length m.variables = slice_get_within m.variables g.place x g.named.is_variable in get_within old.slots.items g.place (omega (arith, within, h.many))

    new_there : WasSaid lines (variable_text x) → ⊥
    new_there s = (h.last g.place x slot.0 g.named.is_variable slot.1).silent some (g.given.free slot.0 slot.1) s.earlier s.value s.later s.lie (s.same_moment ∙ sym h.begun)

    is_line : LineIs m lines l
    is_line = says g.place x w g.named.is_variable inside line (omega (arith, some, h.begun)) new_there

    given : IsGiven (lines ++ l ∷ []) x w old.begun
    given = record { inside = inside; earlier = lines; later = []; lie = ap (λ k. lines ++ k ∷ []) line; there = sym h.begun }

    own_slot : (y : FlatVariable) (s : Slot) → x ≡ y → (let s : Slot = record { moment = old.begun; value = g.value } in s) ≡ s → IsLast m.symbols (lines ++ l ∷ []) old.begun y s
    own_slot y s e f = subst (IsLast m.symbols (lines ++ l ∷ []) old.begun y) f (subst (λ z. IsLast m.symbols (lines ++ l ∷ []) old.begun z (record { moment = old.begun; value = g.value })) e
        (record { early = omega arith; given = λ a b. given; silent = λ a b. absurd (b refl) }))

    other_slot : (j : ℕ) (y : FlatVariable) (s : Slot) → slice_get m.variables j ≡ Some y → j ≢ g.place → slice_get old.slots.items j ≡ Some s → IsLast m.symbols (lines ++ l ∷ []) old.begun y s
    other_slot j y s at apart is = last_more m.symbols lines l old.begun y s (h.last j y s at is) (λ value e. apart (p.apart j g.place y x at g.named.is_variable (same_name value (sym line ∙ e))))
      where
        same_name : (value : Line) → value_line x w ≡ equation (variable_text y) value → variable_text y ≡ variable_text x
        same_name value e = sym (same_front 32 (variable_text x) (variable_text y) (61 ∷ 32 ∷ value_text w) (61 ∷ 32 ∷ value) word.free (p.words j y at).free e).0

    last : (j : ℕ) (y : FlatVariable) (s : Slot) → slice_get m.variables j ≡ Some y → slice_get new.slots.items j ≡ Some s → IsLast m.symbols (lines ++ l ∷ []) new.begun y s
    last j y s at is = subst (λ b. IsLast m.symbols (lines ++ l ∷ []) b y s) (sym g.given.begun) (by_place (nat_eq j g.place) refl (ap (λ ss. slice_get ss j) (sym g.given.slots) ∙ is))
      where
        placed : Slot
        placed = record { moment = old.begun; value = g.value }

        differ : nat_eq j g.place ≡ false → j ≢ g.place
        differ f e = let clash : true ≡ false = sym (eq-eqb j g.place e) ∙ f in cc

        by_place : (b : Bool) → nat_eq j g.place ≡ b → slice_get (slice_set old.slots.items g.place placed) j ≡ Some s → IsLast m.symbols (lines ++ l ∷ []) old.begun y s
        by_place true f e =
            let same : j ≡ g.place = eqb-true j g.place f in
            own_slot y s (some_same x y (sym g.named.is_variable ∙ ap (slice_get m.variables) (sym same) ∙ at))
            (some_same placed s (sym (set_own old.slots.items g.place placed (slice_get_within old.slots.items g.place slot.0 slot.1)) ∙ ap (slice_get (slice_set old.slots.items g.place placed)) (sym same) ∙ e))
        by_place false f e = by_slot (set_get old.slots.items g.place j placed)
          where
            by_slot : (slice_get (slice_set old.slots.items g.place placed) j ≡ slice_get old.slots.items j) ⊎ ((j ≡ g.place) × (slice_get (slice_set old.slots.items g.place placed) j ≡ Some placed)) → IsLast m.symbols (lines ++ l ∷ []) old.begun y s
            by_slot (inl same) = other_slot j y s at (differ f) (sym same ∙ e)
            by_slot (inr same) = absurd (differ f same.0)

-- The end of a moment.
-- what is kept where the last moment has ended
pub record IsEnded (m : FlatModel) (lines : List Line) (begun : ℕ) (moments : List (List Numbered)) : Type 0 where
  pub kept : AreSaid m lines moments
  pub few : length moments ≤ begun
  pub lacking : length moments < begun → Lacks m lines (length moments)

-- a slot whose moment is another
record IsOther (begun : ℕ) (slots : List Slot) : Type 0 where
  place : ℕ
  slot : Slot
  is : slice_get slots place ≡ Some slot
  other : slot.moment ≢ begun

is_other : (begun : ℕ) (slots : List Slot) → list_all (λ s. nat_eq s.moment begun) slots ≡ false → IsOther begun slots
is_other begun [] e = cc
is_other begun (s ∷ slots) e = by (nat_eq s.moment begun) refl e (is_other begun slots)
  where
    by : (b : Bool) → nat_eq s.moment begun ≡ b → (b && list_all (λ s. nat_eq s.moment begun) slots) ≡ false → (list_all (λ s. nat_eq s.moment begun) slots ≡ false → IsOther begun slots) → IsOther begun (s ∷ slots)
    by false f e more = record { place = 0; slot = s; is = refl; other = λ g. let clash : true ≡ false = sym (eq-eqb s.moment begun g) ∙ f in cc }
    by true f e more = let o : IsOther begun slots = more e in record { place = suc o.place; slot = o.slot; is = o.is; other = o.other }

none_other : (begun : ℕ) (slots : List Slot) → list_all (λ s. nat_eq s.moment begun) slots ≡ true → (i : ℕ) (s : Slot) → slice_get slots i ≡ Some s → s.moment ≡ begun
none_other begun [] e i s f = absurd (never s f)
none_other begun (t ∷ slots) e zero s f = eqb-true s.moment begun (ap (λ (u : Slot). nat_eq u.moment begun) (sym (some_same t s f)) ∙ (first_true (nat_eq t.moment begun) (list_all (λ s. nat_eq s.moment begun) slots) e).0)
none_other begun (t ∷ slots) e (suc i) s f = none_other begun slots (first_true (nat_eq t.moment begun) (list_all (λ s. nat_eq s.moment begun) slots) e).1 i s f

-- a value of the slots
record IsValueOf (slots : List Slot) (i : ℕ) (w : Numbered) : Type 0 where
  slot : Slot
  is : slice_get slots i ≡ Some slot
  same : slot.value ≡ w

value_of : (slots : List Slot) (i : ℕ) (w : Numbered) → slice_get (values_of slots) i ≡ Some w → IsValueOf slots i w
value_of [] i w e = absurd (never w e)
value_of (s ∷ slots) zero w e = record { slot = s; is = refl; same = some_same s.value w e }
value_of (s ∷ slots) (suc i) w e = let more : IsValueOf slots i w = value_of slots i w e in record { slot = more.slot; is = more.is; same = more.same }

length_values : (slots : List Slot) → length (values_of slots) ≡ length slots
length_values [] = refl
length_values (s ∷ slots) = ap suc (length_values slots)

pub moment_ended : (m : FlatModel) (lines : List Line) (r : TraceReading) → IsAfter m lines r → IsEnded m lines r.begun (with_last r.begun r.slots.items r.moments)
moment_ended m lines r h = by_tests (nat_lt 0 r.begun) (nat_eq (length r.moments) (r.begun - 1)) (list_all (λ s. nat_eq s.moment r.begun) r.slots.items) refl refl refl
  where
    complete : 0 < r.begun → length r.moments ≡ r.begun - 1 → ((i : ℕ) (s : Slot) → slice_get r.slots.items i ≡ Some s → s.moment ≡ r.begun) → IsEnded m lines r.begun (r.moments ++ values_of r.slots.items ∷ [])
    complete some count all = record { kept = kept; few = omega (arith, longer, count, some); lacking = λ less. absurd (omega (arith, less, longer, count, some)) }
      where
        longer : length (r.moments ++ values_of r.slots.items ∷ []) ≡ length r.moments + 1
        longer = length-append r.moments (values_of r.slots.items ∷ [])

        own : IsSaid m lines (values_of r.slots.items) (suc (length r.moments))
        own = record { many = length_values r.slots.items ∙ h.many; each = each }
          where
            each : (i : ℕ) (x : FlatVariable) (w : Numbered) → slice_get m.variables i ≡ Some x → slice_get (values_of r.slots.items) i ≡ Some w → IsGiven lines x (told_value m.symbols w) (suc (length r.moments))
            each i x w at is =
                let v : IsValueOf r.slots.items i w = value_of r.slots.items i w is in
                subst (λ k. IsGiven lines x (told_value m.symbols w) k) (omega (arith, count, some))
                (subst (λ (u : Numbered). IsGiven lines x (told_value m.symbols u) r.begun) v.same ((h.last i x v.slot at v.is).given some (all i v.slot v.is)))

        kept : AreSaid m lines (r.moments ++ values_of r.slots.items ∷ [])
        kept k v e = by_side (push_get r.moments (values_of r.slots.items) k v e)
          where
            by_side : (slice_get r.moments k ≡ Some v) ⊎ ((k ≡ length r.moments) × (values_of r.slots.items ≡ v)) → IsSaid m lines v (suc k)
            by_side (inl f) = h.kept k v f
            by_side (inr f) = subst (λ j. IsSaid m lines v (suc j)) (sym f.0) (subst (λ u. IsSaid m lines u (suc (length r.moments))) f.1 own)

    partial : (length r.moments < r.begun → Lacks m lines (length r.moments)) → IsEnded m lines r.begun r.moments
    partial lacking = record { kept = h.kept; few = omega (arith, h.few); lacking = lacking }

    lacks : 0 < r.begun → length r.moments ≡ r.begun - 1 → IsOther r.begun r.slots.items → Lacks m lines (length r.moments)
    lacks some count o = record { place = o.place; variable = x.0; is_variable = x.1; elsewhere = elsewhere }
      where
        x : (x : FlatVariable) × (slice_get m.variables o.place ≡ Some x)
        x = let within : o.place < length r.slots.items = slice_get_within r.slots.items o.place o.slot o.is in get_within m.variables o.place (omega (arith, within, h.many))

        elsewhere : (before : List Line) (value : Line) (after : List Line) → lines ≡ before ++ equation (variable_text x.0) value ∷ after → moments_after 0 before ≢ suc (length r.moments)
        elsewhere before value after lie there = (h.last o.place x.0 o.slot x.1 o.is).silent some o.other before value after lie (omega (arith, there, count, some))

    positive : nat_lt 0 r.begun ≡ true → 0 < r.begun
    positive e = ltb-true 0 r.begun e

    none_begun : nat_lt 0 r.begun ≡ false → length r.moments < r.begun → ⊥
    none_begun e less = grind (arith, nat_tests)

    fewer : nat_eq (length r.moments) (r.begun - 1) ≡ false → length r.moments < r.begun → length r.moments + 1 < r.begun
    fewer e less = let most : length r.moments ≤ r.begun - 1 = h.few in let differ : length r.moments ≢ r.begun - 1 = λ f. apart (sym (eq-eqb (length r.moments) (r.begun - 1) f) ∙ e) in omega (arith, most, less, differ)
      where
        apart : true ≡ false → ⊥
        apart e = cc

    by_tests : (a b c : Bool) → nat_lt 0 r.begun ≡ a → nat_eq (length r.moments) (r.begun - 1) ≡ b → list_all (λ s. nat_eq s.moment r.begun) r.slots.items ≡ c →
        IsEnded m lines r.begun (if a && (b && c) then r.moments ++ values_of r.slots.items ∷ [] else r.moments)
    by_tests true true true e f g = complete (positive e) (eqb-true (length r.moments) (r.begun - 1) f) (none_other r.begun r.slots.items g)
    by_tests true true false e f g = partial (λ less. lacks (positive e) (eqb-true (length r.moments) (r.begun - 1) f) (is_other r.begun r.slots.items g))
    by_tests true false c e f g = partial (λ less. h.lacking (fewer f less))
    by_tests false b c e f g = partial (λ less. absurd (none_begun e less))

-- The line of the next moment.
pub after_moment : (m : FlatModel) → IsPrintable m → (lines : List Line) (l : Line) (old new : TraceReading) → IsAfter m lines old → l ≡ moment_line old.begun → new.begun ≡ old.begun + 1 → new.slots.items ≡ old.slots.items →
    new.moments ≡ with_last old.begun old.slots.items old.moments → IsAfter m (lines ++ l ∷ []) new
after_moment m p lines l old new h e begun slots moments = record {
  sound = sound_more m lines l h.sound (λ f b. moment_sound m lines (moments_after 0 lines) refl f (subst (λ x. Breaks m lines x f) line b));
  begun = begun ∙ counted;
  many = ap length slots ∙ h.many;
  last = λ i x s at is. last i x s at (ap (λ ss. slice_get ss i) (sym slots) ∙ is);
  kept = subst (AreSaid m (lines ++ l ∷ [])) (sym moments) (said_more m lines l (with_last old.begun old.slots.items old.moments) done.kept);
  few = subst (λ ms. length ms ≤ new.begun - 1) (sym moments) (omega (arith, done.few, begun));
  lacking = subst (λ ms. length ms + 1 < new.begun → Lacks m (lines ++ l ∷ []) (length ms)) (sym moments)
      (λ past. lacks_at_moment m p lines l old.begun (length (with_last old.begun old.slots.items old.moments)) (done.lacking (omega (arith, past, begun))) e);
}
  where
    done : IsEnded m lines old.begun (with_last old.begun old.slots.items old.moments)
    done = moment_ended m lines old h

    line : l ≡ moment_line (moments_after 0 lines)
    line = e ∙ ap moment_line h.begun

    counted : old.begun + 1 ≡ moments_after 0 (lines ++ l ∷ [])
    counted = let more : moments_after 0 (lines ++ l ∷ []) ≡ suc (moments_after 0 lines) = one_begins lines l line in omega (arith, more, h.begun)

    last : (i : ℕ) (x : FlatVariable) (s : Slot) → slice_get m.variables i ≡ Some x → slice_get old.slots.items i ≡ Some s → IsLast m.symbols (lines ++ l ∷ []) new.begun x s
    last i x s at is = record {
      early = omega (arith, (h.last i x s at is).early, begun);
      given = λ some now. absurd (omega (arith, (h.last i x s at is).early, begun, now));
      silent = λ some now. silent_more lines l (variable_text x) new.begun
          (λ earlier value later lie there. let few : moments_after 0 earlier ≤ moments_after 0 lines = front_begun lines earlier (equation (variable_text x) value) later lie in omega (arith, few, there, begun, h.begun))
          (λ value f there. no_moment (variable_text x) value old.begun (p.words i x at) (sym f ∙ e));
    }
