-- A report of an answer prints the analysis that it tells.
use Rattle.std.proofs.Common.{◌≡◌, ℕ, zero, suc, List, [], ◌∷◌, map, refl, ap}
use Rattle.std.specs.Prelude.{slice_get, slice_index_or}
use Rattle.smv_language.specs.Language.{Text, symbol, told_value, told_moment, told_trace, text_or_none}
use Rattle.base_values.specs.declared.value.Value.{Value}
use Rattle.base_values.specs.declared.value.Value.TheVariants.{Bool as ABool, Num, Sym}
use Rattle.cut_report.specs.AnalysisView.{told_traces}
use Rattle.cut_search.specs.Values.{value_of, values_of, trace_of}
use Rattle.cut_report_laws.specs.Laws.{AnswersArePrinted}

pub same_text_at : (xs : List Text) (i : ℕ) → text_or_none (slice_get xs i) ≡ slice_index_or xs i []
same_text_at [] i = refl
same_text_at (x ∷ xs) zero = refl
same_text_at (x ∷ xs) (suc i) = same_text_at xs i

pub same_value : (symbols : List Text) (v : Value) → told_value symbols v ≡ value_of symbols v
same_value symbols (ABool b) = refl
same_value symbols (Num n) = refl
same_value symbols (Sym i) = ap symbol (same_text_at symbols i)

pub map_same : {A B : Type 0} (f g : A → B) → ((x : A) → f x ≡ g x) → (xs : List A) → map f xs ≡ map g xs
map_same f g h [] = refl
map_same f g h (x ∷ xs) = (λ j. h x j ∷ map_same f g h xs j)

same_traces : (symbols : List Text) (traces : List (List (List Value))) → told_traces symbols traces ≡ map (trace_of symbols) traces
same_traces symbols traces =
    map_same (told_trace symbols) (trace_of symbols) (λ t. map_same (told_moment symbols) (values_of symbols) (λ v. map_same (told_value symbols) (value_of symbols) (same_value symbols) v) t) traces

pub answers_printed : AnswersArePrinted
answers_printed symbols a ending e = (λ j. record { sets = a.sets; shown = same_traces symbols a.traces j; first = a.first; ending = e j })
