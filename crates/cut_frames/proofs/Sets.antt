-- Clauses as sets of literals, and frames as sets of clauses.
use Rattle.std.proofs.Common.{◌≡◌, suc, Bool, true, false, List, ◌∷◌, refl, arith}
use Rattle.std.specs.Prelude.{slice_index_or, Contains, filter}
use Rattle.std.proofs.lemmas.List.Elements.{All-contains, All-contains_itself}
use Rattle.sat_clauses.specs.Literal.{Literal}
use Rattle.cut_frames.specs.Chain.{IsPart, Stands}

pub stands_itself : (frame : List (List Literal)) (c : List Literal) → Contains frame c → Stands frame c
stands_itself frame c m = (m.0, c, m.1, m.2, (All-contains_itself c, All-contains_itself c))

-- a clause is a part of itself, and a part of a part of a clause is one of the clause
pub part_itself : (c : List Literal) → IsPart c c
part_itself c = All-contains_itself c

pub part_more : (a b c : List Literal) → IsPart a b → IsPart b c → IsPart a c
part_more a b c p q = λ k d lt. All-contains (Contains c) b (slice_index_or a k d) q (p k d lt)
