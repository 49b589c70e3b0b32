-- Text that is appended piece by piece.
use Rattle.std.proofs.Common.{◌≡◌, ℕ, suc, ◌+◌, ◌<◌, ◌≤◌, List, [], ◌∷◌, ◌++◌, length, drop, Some, refl, sym, ◌∙◌, ap, arith, add-one, reverse}
use Rattle.std.specs.Prelude.{slice_get, map}
use Rattle.std.proofs.lemmas.List.{append_assoc, append-nil, length-map, length-reverse, reverse-reverse}
use Rattle.smv_language.specs.Language.{Text, dotted_text, FlatVariable, FlatModel, name_in, place_in, variable_tree, told_value, told_moment, told_trace}
use Rattle.cut_text_laws.specs.Lines.{fed}
use Rattle.smv_language.specs.declared.model.Variable.{Variable}
use Rattle.base_values.specs.declared.value.Value.{Value as Numbered}
use Rattle.cut_text_laws.specs.TraceText.{value_line, value_lines, trace_lines}
use Rattle.cut_report.specs.Names.{printed_name}
use Rattle.smv_language.proofs.ListLaws.{drop_past, drop_item}

pub ruleset text_rules = (append_assoc, append-nil, length-map)

-- a variable is printed by its path
pub path_text : (x : Variable) → 0 < length x.path → printed_name x ≡ dotted_text x.path
path_text x some = ap dotted_text (ap reverse (both (reverse x.path) many) ∙ reverse-reverse x.path)
  where
    both : (xs : List Text) → 0 < length xs → name_in xs ∷ place_in xs ≡ xs
    both [] h = absurd (omega (arith, h))
    both (y ∷ xs) h = refl

    many : 0 < length (reverse x.path)
    many = let same : length (reverse x.path) ≡ length x.path = length-reverse x.path in omega (arith, same, some)

no_lines : (xs : List FlatVariable) → value_lines xs [] ≡ []
no_lines [] = refl
no_lines (x ∷ xs) = refl

-- the lines of a moment from a variable on
abbrev pub lines_from : List Text → List Variable → List Numbered → ℕ → List ℕ
lines_from symbols xs v i = fed (value_lines (map variable_tree (drop i xs)) (told_moment symbols (drop i v)))

pub line_more : (symbols : List Text) (xs : List Variable) (v : List Numbered) (i : ℕ) (x : Variable) (w : Numbered) → slice_get xs i ≡ Some x → slice_get v i ≡ Some w →
    lines_from symbols xs v i ≡ (value_line (variable_tree x) (told_value symbols w) ++ 10 ∷ []) ++ lines_from symbols xs v (suc i)
line_more symbols xs v i x w e f =
    ap (λ ys. fed (value_lines (map variable_tree ys) (told_moment symbols (drop i v)))) (drop_item xs i x e)
    ∙ ap (λ u. fed (value_lines (map variable_tree (x ∷ drop (suc i) xs)) (told_moment symbols u))) (drop_item v i w f)

pub line_past : (symbols : List Text) (xs : List Variable) (v : List Numbered) (i : ℕ) → length v ≤ i → lines_from symbols xs v i ≡ []
line_past symbols xs v i h = ap (λ u. fed (value_lines (map variable_tree (drop i xs)) (told_moment symbols u))) (drop_past v i h) ∙ ap fed (no_lines (map variable_tree (drop i xs)))

-- the lines of a trace from a moment on
abbrev pub moments_from : FlatModel → List Text → List (List Numbered) → ℕ → List ℕ
moments_from m symbols trace i = fed (trace_lines m i (told_trace symbols (drop i trace)))

-- one line on, and past the last value
pub values_on : (symbols : List Text) (xs : List Variable) (v : List Numbered) (i : ℕ) (x : Variable) (w : Numbered) (before after whole : List ℕ) → slice_get xs i ≡ Some x → slice_get v i ≡ Some w →
    after ≡ before ++ (value_line (variable_tree x) (told_value symbols w) ++ 10 ∷ []) → before ++ lines_from symbols xs v i ≡ whole → after ++ lines_from symbols xs v (i + 1) ≡ whole
values_on symbols xs v i x w before after whole e f a b =
    ap (λ k. after ++ lines_from symbols xs v k) (add-one i) ∙ ap (λ t. t ++ lines_from symbols xs v (suc i)) a ∙ append_assoc before (value_line (variable_tree x) (told_value symbols w) ++ 10 ∷ []) (lines_from symbols xs v (suc i))
    ∙ ap (λ t. before ++ t) (sym (line_more symbols xs v i x w e f)) ∙ b

pub values_past : (symbols : List Text) (xs : List Variable) (v : List Numbered) (i : ℕ) (before whole : List ℕ) → length v ≤ i → before ++ lines_from symbols xs v i ≡ whole → before ++ lines_from symbols xs v (i + 1) ≡ whole
values_past symbols xs v i before whole h b = ap (λ t. before ++ t) (line_past symbols xs v (i + 1) (omega (arith, h)) ∙ sym (line_past symbols xs v i h)) ∙ b
