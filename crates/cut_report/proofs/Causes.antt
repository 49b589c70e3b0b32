-- What is wrong with a line.
use Rattle.std.proofs.Common.{◌≡◌, ◌≢◌, inl, inr, ℕ, ◌<◌, ◌≤◌, List, [], ◌∷◌, ◌++◌, length, Some, sym, ◌∙◌, ap, subst, arith}
use Rattle.std.specs.Prelude.{slice_get, IsTrue}
use Rattle.smv_language.specs.Language.{Value, value_text, in_domain, FlatVariable, FlatModel, told_value}
use Rattle.std.proofs.lemmas.Option.{slice_get_within, same_Some as some_same}
use Rattle.cut_text_laws.specs.Lines.{Line}
use Rattle.cut_text_laws.specs.TraceText.{moment_line, equation}
use Rattle.cut_text_laws.specs.TraceOfText.{IsPrintable}
use Rattle.cut_text_laws.specs.TraceFaults.{LineFault, bad_line, unknown_name, outside, twice, number_of, moments_after, IsEquation, IsNameIn, WasSaid, Breaks, IsLeast}
use Rattle.cut_text_laws.proofs.OneTrace.{same_equation}
use Rattle.cut_report.specs.declared.fault.LineCause.{LineCause}
use Rattle.cut_report.specs.declared.fault.LineCause.TheVariants as cause
use Rattle.cut_report.specs.declared.reading.Slot.{Slot}
use Rattle.cut_report.specs.declared.reading.TraceReading.{TraceReading}
use Rattle.cut_report.specs.Cuts.{IsNoEquation}
use Rattle.cut_report.specs.Faults.{IsCauseOf}
use Rattle.cut_report.specs.Lookups.{IsNamedAt, HasNoValue}
use Rattle.cut_report.specs.TraceReading.{IsGiven, IsAfter, IsTaken, IsRefusal, IsRefusedLine}
use Rattle.cut_text_laws.proofs.LineJudged.{number_least}
use Rattle.base_values.proofs.ListLaws.{get_within}

-- a bad line has the smallest number
pub bad_is_least : (m : FlatModel) (lines : List Line) (l : Line) → l ≢ [] → l ≢ moment_line (moments_after 0 lines) → ((name value : Line) → IsEquation name value l → moments_after 0 lines ≡ 0) → IsLeast m lines l bad_line
bad_is_least m lines l a b c = record { breaks = (a, b, c); least = λ g d. number_least g }

pub no_equation_bad : (m : FlatModel) (lines : List Line) (l : Line) (r : TraceReading) → IsAfter m lines r → l ≢ [] → l ≢ moment_line r.begun → IsNoEquation l → IsCauseOf m lines l cause.BadLine
no_equation_bad m lines l r h some other none = bad_is_least m lines l some (λ e. other (e ∙ ap moment_line (sym h.begun))) (λ n v q. absurd (none n v q))

pub too_early_bad : (m : FlatModel) (lines : List Line) (l : Line) (r : TraceReading) → IsAfter m lines r → l ≢ [] → l ≢ moment_line r.begun → r.begun ≡ 0 → IsCauseOf m lines l cause.BadLine
too_early_bad m lines l r h some other none = bad_is_least m lines l some (λ e. other (e ∙ ap moment_line (sym h.begun))) (λ n v q. sym h.begun ∙ none)

module _ (m : FlatModel) (p : IsPrintable m) (lines : List Line) (l name text : Line) (q : IsEquation name text l) (some : 0 < moments_after 0 lines) where
  -- the words of the line
  words : (n v : Line) → IsEquation n v l → (name ≡ n) × (text ≡ v)
  words n v r = same_equation name text n v q.name_word r.name_word (sym q.is_line ∙ r.is_line)

  abbrev is_in : (i : ℕ) → IsNamedAt m name i → IsNameIn m name
  is_in i x = record { place = i; variable = x.variable; is_variable = x.is_variable; is_name = x.is_name }

  unknown_least : (IsNameIn m name → ⊥) → IsLeast m lines l unknown_name
  unknown_least none = record { breaks = (name, text, q, none); least = least }
    where
      least : (g : LineFault) → Breaks m lines l g → 2 ≤ number_of g
      least bad_line b = let zero : moments_after 0 lines ≡ 0 = b.2 name text q in absurd (omega (arith, zero, some))
      least unknown_name b = omega arith
      least outside b = omega arith
      least twice b = omega arith

  outside_least : (i : ℕ) → IsNamedAt m name i → HasNoValue m i text → IsLeast m lines l outside
  outside_least i x none = record { breaks = (name, text, q, is_in i x, none x.variable x.is_variable); least = least }
    where
      least : (g : LineFault) → Breaks m lines l g → 3 ≤ number_of g
      least bad_line b = let zero : moments_after 0 lines ≡ 0 = b.2 name text q in absurd (omega (arith, zero, some))
      least unknown_name b = absurd (b.3 (record { place = i; variable = x.variable; is_variable = x.is_variable; is_name = x.is_name ∙ (words b.0 b.1 b.2).0 }))
      least outside b = omega arith
      least twice b = omega arith

  twice_least : (i : ℕ) (x : IsNamedAt m name i) (w : Value) → IsTrue (in_domain x.variable.declared w) → value_text w ≡ text → WasSaid lines name → IsLeast m lines l twice
  twice_least i x w inside is s = record { breaks = (name, text, q, s); least = least }
    where
      least : (g : LineFault) → Breaks m lines l g → 5 ≤ number_of g
      least bad_line b = let zero : moments_after 0 lines ≡ 0 = b.2 name text q in absurd (omega (arith, zero, some))
      least unknown_name b = absurd (b.3 (record { place = i; variable = x.variable; is_variable = x.is_variable; is_name = x.is_name ∙ (words b.0 b.1 b.2).0 }))
      least outside b =
          let its : (name ≡ b.0) × (text ≡ b.1) = words b.0 b.1 b.2 in
          let place : i ≡ b.3.place = p.apart i b.3.place x.variable b.3.variable x.is_variable b.3.is_variable (x.is_name ∙ its.0 ∙ sym b.3.is_name) in
          let same : x.variable ≡ b.3.variable = some_same x.variable b.3.variable (sym x.is_variable ∙ ap (slice_get m.variables) place ∙ b.3.is_variable) in
          absurd (b.4 w (subst (λ (y : FlatVariable). IsTrue (in_domain y.declared w)) same inside) (is ∙ its.1))
      least twice b = omega arith

-- why a variable is given no value is what is wrong with the line
pub refusal_cause : (m : FlatModel) → IsPrintable m → (lines : List Line) (l name text : Line) (r : TraceReading) (c : LineCause) → IsAfter m lines r → IsEquation name text l → 0 < r.begun → IsRefusal m r name text c → IsCauseOf m lines l c
refusal_cause m p lines l name text r c h q some f = by c f
  where
    begun : 0 < moments_after 0 lines
    begun = omega (arith, some, h.begun)

    said : (i : ℕ) (x : IsNamedAt m name i) → IsTaken r i → WasSaid lines name
    said i x taken = of_given ((h.last i x.variable slot.0 x.is_variable slot.1).given some (taken slot.0 slot.1))
      where
        slot : (s : Slot) × (slice_get r.slots.items i ≡ Some s)
        slot = let within : i < length m.variables = slice_get_within m.variables i x.variable x.is_variable in get_within r.slots.items i (omega (arith, within, h.many))

        of_given : IsGiven lines x.variable (told_value m.symbols slot.0.value) r.begun → WasSaid lines name
        of_given g = record {
          earlier = g.earlier;
          value = value_text (told_value m.symbols slot.0.value);
          later = g.later;
          lie = g.lie ∙ ap (λ n. g.earlier ++ equation n (value_text (told_value m.symbols slot.0.value)) ∷ g.later) x.is_name;
          same_moment = g.there ∙ h.begun;
        }

    by : (c : LineCause) → IsRefusal m r name text c → IsCauseOf m lines l c
    by cause.BadLine f = absurd f
    by cause.UnknownName f = unknown_least m p lines l name text q begun f
    by cause.Outside f = outside_least m p lines l name text q begun f.0 f.1 f.2
    by cause.Twice f = twice_least m p lines l name text q begun f.0 f.2 (told_value m.symbols f.1) (f.3.inside f.2.variable f.2.is_variable) f.3.is_text (said f.0 f.2 f.4)
    by cause.OutOfMemory f = tt

pub line_cause : (m : FlatModel) → IsPrintable m → (lines : List Line) (l : Line) (r : TraceReading) (c : LineCause) → IsAfter m lines r → l ≢ [] → l ≢ moment_line r.begun → IsRefusedLine m r l c → IsCauseOf m lines l c
line_cause m p lines l r cause.BadLine h some other (inl none) = no_equation_bad m lines l r h some other none
line_cause m p lines l r cause.BadLine h some other (inr none) = too_early_bad m lines l r h some other none
line_cause m p lines l r cause.UnknownName h some other f = refusal_cause m p lines l f.name f.text r cause.UnknownName h f.words f.some f.refusal
line_cause m p lines l r cause.Outside h some other f = refusal_cause m p lines l f.name f.text r cause.Outside h f.words f.some f.refusal
line_cause m p lines l r cause.Twice h some other f = refusal_cause m p lines l f.name f.text r cause.Twice h f.words f.some f.refusal
line_cause m p lines l r cause.OutOfMemory h some other f = tt
