-- A text cut at its line feeds.
use Rattle.std.proofs.Common.{◌≡◌, ◌⊎◌, inl, inr, ℕ, List, [], ◌∷◌, ◌++◌, sym, ◌∙◌}
use Rattle.std.specs.List.{AllByRecursion}
use Rattle.cut_text_laws.specs.Lines.{Line, fed, IsLine}
use Rattle.cut_text_laws.proofs.Separators.{comparable}
use Rattle.cut_text_laws.proofs.Cuts.{no_feed}
use Rattle.cut_model_search.specs.Texts.{AreLinesIn}
use Rattle.std.proofs.lemmas.List.{append-nil as append_none}

-- the lines of a text that is lines with their feeds are these
pub lines_are : (bytes : List ℕ) (texts lines : List Line) → AllByRecursion IsLine texts → bytes ≡ fed texts → AreLinesIn bytes lines → lines ≡ texts
lines_are bytes texts lines are e cut = by_side (comparable texts lines [] cut.rest are cut.are_lines (append_none (fed texts) ∙ sym e ∙ cut.lie))
  where
    no_more : (zs : List Line) → lines ≡ texts ++ zs → [] ≡ fed zs ++ cut.rest → lines ≡ texts
    no_more [] h f = h ∙ append_none texts
    no_more (z ∷ zs) h f = absurd (no_feed [] z zs cut.rest tt f)

    no_other : (zs : List Line) → texts ≡ lines ++ zs → cut.rest ≡ fed zs ++ [] → lines ≡ texts
    no_other [] h f = sym (h ∙ append_none lines)
    no_other (z ∷ zs) h f = absurd (no_feed cut.rest z zs [] cut.is_line f)

    by_side : ((zs : List Line) × (lines ≡ texts ++ zs) × ([] ≡ fed zs ++ cut.rest)) ⊎ ((zs : List Line) × (texts ≡ lines ++ zs) × (cut.rest ≡ fed zs ++ [])) → lines ≡ texts
    by_side (inl h) = no_more h.0 h.1 h.2
    by_side (inr h) = no_other h.0 h.1 h.2
