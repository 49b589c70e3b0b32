-- A line cut into the words of an equation.
use Rattle.std.proofs.Common.{◌≡◌, ◌≢◌, ℕ, List, [], ◌∷◌, ◌++◌, sym, ◌∙◌, ap, subst}
use Rattle.cut_text_laws.specs.Lines.{Line, IsLine}
use Rattle.cut_text_laws.proofs.Separators.{same_front, no_separator}
use Rattle.cut_text_laws.specs.TraceText.{equation}
use Rattle.cut_text_laws.specs.TraceFaults.{IsEquation}
use Rattle.base_values.specs.Separators.{Lacks, BeginsWith}
use Rattle.cut_report.specs.Cuts.{IsNoEquation, IsSpaceless}
use Rattle.std.proofs.lemmas.List.{append-nil as append_none}
use Rattle.cut_text_laws.proofs.LineJudged.{line_front}

tail_of : (x y : ℕ) (xs ys : List ℕ) → (x ∷ xs) ≡ (y ∷ ys) → xs ≡ ys
tail_of x y xs ys e = cc

pub equation_made : (line name rest value : Line) → IsLine line → line ≡ name ++ rest → rest ≡ 32 ∷ 61 ∷ 32 ∷ value → IsSpaceless name → IsSpaceless value → IsEquation name value line
equation_made line name rest value l e r n v =
    let whole : line ≡ equation name value = e ∙ ap (λ x. name ++ x) r in
    let parts : IsLine name × IsLine (32 ∷ 61 ∷ 32 ∷ value) = line_front name (32 ∷ 61 ∷ 32 ∷ value) (subst IsLine whole l) in
    record {
      name_word = record { some = n.0; free = n.1; line = parts.0 };
      value_word = record { some = v.0; free = v.1; line = parts.1.1.1.1 };
      is_line = whole;
    }

-- the words of an equation are those at which the line is cut
same_words : (line name rest n w : Line) → line ≡ name ++ rest → Lacks 32 name → BeginsWith 32 rest → IsEquation n w line → (name ≡ n) × (rest ≡ 32 ∷ 61 ∷ 32 ∷ w)
same_words line name [] n w e f b q = absurd (no_separator 32 name n (61 ∷ 32 ∷ w) f (sym (append_none name) ∙ sym e ∙ q.is_line))
same_words line name (c ∷ rest) n w e f b q =
    let parts : (name ≡ n) × (rest ≡ 61 ∷ 32 ∷ w) = same_front 32 name n rest (61 ∷ 32 ∷ w) f q.name_word.free (ap (λ x. name ++ x ∷ rest) (sym b) ∙ sym e ∙ q.is_line) in
    (parts.0, ap (λ x. x ∷ rest) b ∙ ap (λ r. 32 ∷ r) parts.1)

pub no_equals : (line name rest : Line) → line ≡ name ++ rest → Lacks 32 name → BeginsWith 32 rest → ((value : Line) → rest ≢ 32 ∷ 61 ∷ 32 ∷ value) → IsNoEquation line
no_equals line name rest e f b none n w q = none w (same_words line name rest n w e f b q).1

pub no_words : (line name rest value : Line) → line ≡ name ++ rest → Lacks 32 name → BeginsWith 32 rest → rest ≡ 32 ∷ 61 ∷ 32 ∷ value → (IsSpaceless name → IsSpaceless value → ⊥) → IsNoEquation line
no_words line name rest value e f b r none n w q =
    let same : (name ≡ n) × (rest ≡ 32 ∷ 61 ∷ 32 ∷ w) = same_words line name rest n w e f b q in
    let values : w ≡ value = tail_of 32 32 w value (tail_of 61 61 (32 ∷ w) (32 ∷ value) (tail_of 32 32 (61 ∷ 32 ∷ w) (61 ∷ 32 ∷ value) (sym same.1 ∙ r))) in
    none (subst IsSpaceless (sym same.0) (q.name_word.some, q.name_word.free)) (subst IsSpaceless values (q.value_word.some, q.value_word.free))
