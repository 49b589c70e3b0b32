-- The pieces of a certificate's text, as they are appended.
use Rattle.std.specs.Prelude.{ℕ, List, [], ◌∷◌, ◌++◌, flat_map, length, map, codes}
use Rattle.std.specs.Fmt.{decimal}
use Rattle.sat_clauses.specs.Literal.{Literal}
use Rattle.sat_clauses.specs.declared.step.Step.{Step}
use Rattle.cut_text_laws.specs.Lines.{Line, counted}
use Rattle.cert_laws.specs.CertificateText.{set_line, set_lines, clause_line, part_lines}

-- words with a space before each
abbrev pub after_spaces : List Line → Line
after_spaces words = flat_map (λ word. 32 ∷ word) words

-- the first two lines, with their line feeds
abbrev pub head_text : ℕ → ℕ → ℕ → List ℕ
head_text bits faults size =
    codes "xsap-certificate 2\nbits "
    ++ (decimal bits ++ (codes " faults " ++ (decimal faults ++ (codes " size " ++ (decimal size ++ 10 ∷ [])))))

-- a set with its trace
abbrev pub traced_lines : List ℕ → List Line → List Line
traced_lines set text = set_line set ∷ counted (codes "trace") (length text) ∷ text

-- the listed sets with their traces, after their number
abbrev pub listed_lines : List (List ℕ) → List (List Line) → List Line
listed_lines sets texts = counted (codes "sets") (length sets) ∷ set_lines sets texts

-- the clauses of an invariant, after their number
abbrev pub invariant_lines : List (List Literal) → List Line
invariant_lines clauses = counted (codes "invariant") (length clauses) ∷ map clause_line clauses

-- the three derivations and the last line
abbrev pub derived_lines : List Step → List Step → List Step → List Line
derived_lines first next bad =
    part_lines (codes "first") first ++ (part_lines (codes "next") next ++ (part_lines (codes "bad") bad ++ codes "end" ∷ []))
