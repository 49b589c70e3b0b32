-- A text of lines, each with its line feed.
use Rattle.std.proofs.Common.{◌≡◌, ◌≢◌, ℕ, suc, ◌≤◌, Bool, true, false, nat_eq, List, [], ◌∷◌, ◌++◌, length, refl, sym, ◌∙◌, ap, arith, append_assoc, append-nil}
use Rattle.std.proofs.lemmas.Bool.{ne_eqb, eqb-false}
use Rattle.std.specs.Prelude.{if◌then◌else◌}
use Rattle.std.specs.List.{AllByRecursion}
use Rattle.base_values.proofs.ListLaws.{all_joined}
use Rattle.cut_text_laws.specs.Lines.{Line, fed, IsLine}
use Rattle.cut_text_laws.proofs.Separators.{fed_end}
use Rattle.cut_text_laws.proofs.Cuts.{length_more, fed_long}
use Rattle.cert_text.specs.LinesIn.{begun_with, lines_in}

-- the lines of a text that begins with a line
line_first : (line : Line) (rest : List ℕ) → IsLine line → lines_in (line ++ 10 ∷ rest) ≡ line ∷ lines_in rest
line_first [] rest f = refl
line_first (b ∷ line) rest f =
    ap (λ t. if t then [] ∷ lines_in (line ++ 10 ∷ rest) else begun_with b (lines_in (line ++ 10 ∷ rest))) (ne_eqb b 10 f.0)
    ∙ ap (begun_with b) (line_first line rest f.1)

-- the lines of a text that was made of lines are these
pub lines_fed : (lines : List Line) → AllByRecursion IsLine lines → lines_in (fed lines) ≡ lines
lines_fed [] h = refl
lines_fed (line ∷ lines) h =
    ap lines_in (append_assoc line (10 ∷ []) (fed lines)) ∙ line_first line (fed lines) h.0 ∙ ap (λ ls. line ∷ ls) (lines_fed lines h.1)

-- no line of a text has a line feed
begun_are_lines : (b : ℕ) (lines : List Line) → b ≢ 10 → AllByRecursion IsLine lines → AllByRecursion IsLine (begun_with b lines)
begun_are_lines b [] f h = tt
begun_are_lines b (line ∷ lines) f h = ((f, h.0), h.1)

pub are_lines : (bytes : List ℕ) → AllByRecursion IsLine (lines_in bytes)
are_lines [] = tt
are_lines (b ∷ bytes) = by (nat_eq b 10) refl (are_lines bytes)
  where
    by : (t : Bool) → nat_eq b 10 ≡ t → AllByRecursion IsLine (lines_in bytes) → AllByRecursion IsLine (if t then [] ∷ lines_in bytes else begun_with b (lines_in bytes))
    by true e h = (tt, h)
    by false e h = begun_are_lines b (lines_in bytes) (eqb-false b 10 e) h

-- one more line at the end
module _ (text line : List ℕ) (whole : text ≡ fed (lines_in text)) (is_line : IsLine line) where
  longer : (text ++ line) ++ 10 ∷ [] ≡ fed (lines_in text ++ line ∷ [])
  longer =
      append_assoc text line (10 ∷ []) ∙ ap (λ t. t ++ (line ++ 10 ∷ [])) whole ∙ fed_end (lines_in text) line []
      ∙ append-nil (fed (lines_in text ++ line ∷ []))

  pub line_added : lines_in ((text ++ line) ++ 10 ∷ []) ≡ lines_in text ++ line ∷ []
  line_added = ap lines_in longer ∙ lines_fed (lines_in text ++ line ∷ []) (all_joined IsLine (lines_in text) (line ∷ []) (are_lines text) (is_line, tt))

  pub whole_added : (text ++ line) ++ 10 ∷ [] ≡ fed (lines_in ((text ++ line) ++ 10 ∷ []))
  whole_added = longer ∙ ap fed (sym line_added)

  pub one_added : length (lines_in ((text ++ line) ++ 10 ∷ [])) ≡ suc (length (lines_in text))
  one_added = ap length line_added ∙ length_more (lines_in text) line

-- a text has no more lines than bytes
pub few_lines : (text : List ℕ) → text ≡ fed (lines_in text) → length (lines_in text) ≤ length text
few_lines text whole = let same : length text ≡ length (fed (lines_in text)) = ap length whole in omega (arith, same, fed_long (lines_in text))
