-- One more entry in an analysis.
use Rattle.std.proofs.Common.{◌≡◌, ℕ, ◌+◌, Bool, true, false, cond, List, [], ◌∷◌, length, get_or, set, replicate, Option, Some, None, refl, sym, ap, ◌∙◌}
use Rattle.std.specs.Prelude.{slice_get}
use Rattle.std.proofs.lemmas.List.{length-set, length-replicate}
use Rattle.sat_clauses.specs.Literal.{Literal}
use Rattle.sat_solver.specs.declared.trail.TrailEntry.{TrailEntry}
use Rattle.sat_solver.specs.Trail.{below}
use Rattle.sat_solver.specs.AnalysisRecord.{AnalysisValue}
use Rattle.sat_solver.specs.Analysis.{marked, numbered, is_decision, is_alone, may_resolve, visited, visited_by, passed, resolver, analysed, begun}
use Rattle.sat_solver.proofs.TrailLemmas.{below_more}

pub length-marked : (m : List Bool) (c : List Literal) → length (marked m c) ≡ length m
length-marked m [] = refl
length-marked m (l ∷ ls) = length-marked (set m l.var true) ls ∙ length-set m l.var true

pub length-visited : (cs : List (List Literal)) (f : Bool) (s : AnalysisValue) (e : TrailEntry) (es : List TrailEntry) → length (visited cs f s e es).marks ≡ length s.marks
length-visited cs f s e es = either (get_or s.marks e.lit.var false) (resolver e.reason (may_resolve f s es)) where
  either : (b : Bool) (o : Option ℕ) → length (cond b (visited_by cs s e (length es) o) (passed s e (length es))).marks ≡ length s.marks
  either false o = refl
  either true None = refl
  either true (Some number) = length-marked s.marks (numbered cs number)

pub analysed_step : (cs : List (List Literal)) (f : Bool) (s t : AnalysisValue) (xs : List TrailEntry) (i : ℕ) (e : TrailEntry) → slice_get xs i ≡ Some e → t ≡ visited cs f s e (below xs i) → analysed cs f t (below xs i) ≡ analysed cs f s (below xs (i + 1))
analysed_step cs f s t xs i e h is = ap (λ u. analysed cs f u (below xs i)) is ∙ ap (analysed cs f s) (sym (below_more xs i e h))

pub alone_step : (m : List Bool) (xs : List TrailEntry) (i : ℕ) (e : TrailEntry) → slice_get xs i ≡ Some e → get_or m e.lit.var false ≡ false → is_decision e.reason ≡ false → is_alone m (below xs (i + 1)) ≡ is_alone m (below xs i)
alone_step m xs i e h unmarked implied =
    ap (is_alone m) (below_more xs i e h)
    ∙ (ap (λ b. cond b false (cond (is_decision e.reason) true (is_alone m (below xs i)))) unmarked
    ∙ ap (λ b. cond b true (is_alone m (below xs i))) implied)

pub alone_marked : (m : List Bool) (xs : List TrailEntry) (i : ℕ) (e : TrailEntry) → slice_get xs i ≡ Some e → get_or m e.lit.var false ≡ true → is_alone m (below xs (i + 1)) ≡ false
alone_marked m xs i e h mark = ap (is_alone m) (below_more xs i e h) ∙ ap (λ b. cond b false (cond (is_decision e.reason) true (is_alone m (below xs i)))) mark

pub alone_decision : (m : List Bool) (xs : List TrailEntry) (i : ℕ) (e : TrailEntry) → slice_get xs i ≡ Some e → get_or m e.lit.var false ≡ false → is_decision e.reason ≡ true → is_alone m (below xs (i + 1)) ≡ true
alone_decision m xs i e h unmarked decision =
    ap (is_alone m) (below_more xs i e h)
    ∙ (ap (λ b. cond b false (cond (is_decision e.reason) true (is_alone m (below xs i)))) unmarked
    ∙ ap (λ b. cond b true (is_alone m (below xs i))) decision)

pub length-begun : (n : ℕ) (cs : List (List Literal)) (conflict : ℕ) → length (begun n cs conflict).marks ≡ n
length-begun n cs conflict = length-marked (replicate n false) (numbered cs conflict) ∙ length-replicate n false
