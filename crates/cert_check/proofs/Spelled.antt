-- A certificate that fewer than 2^32 bytes spell can be checked.
use Rattle.std.proofs.Common.{◌≡◌, ℕ, suc, ◌<◌, ◌^◌, List, [], ◌∷◌, ◌++◌, length, map, codes, refl, ap, ◌∙◌, arith}
use Rattle.std.specs.List.{AllByRecursion}
use Rattle.std.proofs.lemmas.List.{length-append, length-map}
use Rattle.cut_text_laws.specs.Lines.{Line, fed, counted}
use Rattle.sat_clauses.specs.declared.step.Step.{Step}
use Rattle.cert_laws.specs.Certificate.{Certificate, part_bad, an_end, line_of, lines_of_sets}
use Rattle.cert_laws.specs.CertificateText.{Version, lines_of, set_lines, part_lines, clause_line, step_line, IsWritableText}
use Rattle.cert_check.specs.Fit.{IsShortText, SpelledAreCheckable}
use Rattle.cut_text_laws.proofs.Cuts.{fed_long as few_lines}
use Rattle.cert_laws.proofs.Sites.{lines_first}

set_length : (sets : List (List ℕ)) (texts : List (List Line)) → length texts ≡ length sets → length (set_lines sets texts) ≡ lines_of_sets texts
set_length [] [] e = refl
set_length [] (text ∷ texts) e = absurd (omega (arith, e))
set_length (set ∷ sets) [] e = absurd (omega (arith, e))
set_length (set ∷ sets) (text ∷ texts) e =
    let more = set_length sets texts (omega (arith, e)) in
    let joined = length-append text (set_lines sets texts) in
    let first = lines_first text texts in
    omega (arith, more, joined, first)

part_length : (word : Line) (steps : List Step) → length (part_lines word steps) ≡ suc (length steps)
part_length word steps = ap suc (length-map steps step_line)

all_lines : (version : Version) (c : Certificate) → length c.traces ≡ length c.sets → length (lines_of version c) ≡ line_of c (an_end part_bad)
all_lines version c one =
    let bads = part_lines (codes "bad") c.bad ++ codes "end" ∷ [] in
    let nexts = part_lines (codes "next") c.next ++ bads in
    let firsts = part_lines (codes "first") c.first ++ nexts in
    let clauses = map clause_line c.invariant ++ firsts in
    let a = length-append (set_lines c.sets c.traces) (counted (codes "invariant") (length c.invariant) ∷ clauses) in
    let b = length-append (map clause_line c.invariant) firsts in
    let d = length-append (part_lines (codes "first") c.first) nexts in
    let e = length-append (part_lines (codes "next") c.next) bads in
    let f = length-append (part_lines (codes "bad") c.bad) (codes "end" ∷ []) in
    let g = set_length c.sets c.traces one in
    let h = length-map c.invariant clause_line in
    let i = part_length (codes "first") c.first in
    let j = part_length (codes "next") c.next in
    let k = part_length (codes "bad") c.bad in
    omega (arith, a, b, d, e, f, g, h, i, j, k)

short_texts : (texts : List (List Line)) → AllByRecursion IsWritableText texts → lines_of_sets texts < 2 ^ 32 → AllByRecursion IsShortText texts
short_texts [] w l = tt
short_texts (text ∷ texts) w l =
    let first = lines_first text texts in
    (record { few = omega (arith, first, l); lines = w.0.each }, short_texts texts w.1 (omega (arith, first, l)))

pub spelled_checkable : SpelledAreCheckable
spelled_checkable bytes c short (lines, is, (w, (version, says, are))) =
    let whole : length lines ≡ line_of c (an_end part_bad) = ap length are ∙ all_lines version c w.one_each in
    let fewer = few_lines lines in
    let all : length bytes ≡ length (fed lines) = ap length is in
    let below : line_of c (an_end part_bad) < 2 ^ 32 = omega (arith, whole, fewer, all, short) in
    record { one_each = w.one_each; texts = short_texts c.traces w.traces (omega (arith, below)); few = wide (line_of c (an_end part_bad)) below }
  where
    wide : (n : ℕ) → n < 2 ^ 32 → n < 2 ^ 64
    wide n l = omega (arith, l)
