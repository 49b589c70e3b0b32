-- A clause at the end of a store leaves the others as they were.
use Rattle.std.proofs.Common.{◌≡◌, ◌+◌, ◌-◌, ◌≤◌, List, [], ◌∷◌, ◌++◌, All, length, map, drop, take, refl, ap, ◌∙◌, arith, length-drop}
use Rattle.std.proofs.lemmas.List.{drop-append-le, take-append-le, drop_at, take_all, map_push}
use Rattle.std.proofs.lemmas.List.Elements.{All-head, All-tail}
use Rattle.sat_clauses.specs.Literal.{Literal}
use Rattle.sat_clauses.specs.declared.clause_store.LiteralSpan.{LiteralSpan}
use Rattle.sat_clauses.specs.DeriveStore.{spanned, LiesIn}

-- a span of the old literals has the same ones in the longer list
spanned-append : (lits new : List Literal) (span : LiteralSpan) → LiesIn lits span → spanned (lits ++ new) span ≡ spanned lits span
spanned-append lits new span lies =
    let starts : span.start ≤ length lits = omega arith in
    let fits : span.end - span.start ≤ length (drop span.start lits) = omega (arith, length-drop span.start lits) in
    rw (drop-append-le, take-append-le)

-- the span of the new literals has them
spanned_new : (lits new : List Literal) (span : LiteralSpan) → span.start ≡ length lits → span.end ≡ length lits + length new → spanned (lits ++ new) span ≡ new
spanned_new lits new span starts ends =
    ap (take (span.end - span.start)) (drop_at lits new span.start (omega arith)) ∙ take_all (span.end - span.start) new (omega arith)

map_spanned-append : (lits new : List Literal) (spans : List LiteralSpan) → All (LiesIn lits) spans → map (spanned (lits ++ new)) spans ≡ map (spanned lits) spans
map_spanned-append lits new [] lie = refl
map_spanned-append lits new (span ∷ spans) lie =
    let here = spanned-append lits new span (All-head (LiesIn lits) span spans lie) in
    let others = map_spanned-append lits new spans (All-tail (LiesIn lits) span spans lie) in
    rw (here, others)

pub spans_push : (lits new all : List Literal) (spans : List LiteralSpan) (span : LiteralSpan) → All (LiesIn lits) spans → all ≡ lits ++ new → span.start ≡ length lits → span.end ≡ length lits + length new → map (spanned all) (spans ++ span ∷ []) ≡ map (spanned lits) spans ++ new ∷ []
spans_push lits new all spans span lie e starts ends =
    rw e (map_push (spanned (lits ++ new)) spans span ∙ rw (map_spanned-append lits new spans lie, spanned_new lits new span starts ends))
