-- How many variables stand before a visit.
use Rattle.std.proofs.Common.{◌≡◌, ◌+◌, List, [], ◌∷◌, ◌++◌, length, ap, arith}
use Rattle.std.specs.Prelude.{flat_map}
use Rattle.std.proofs.lemmas.List.{length-append, append-nil}
use Rattle.smv_flat_laws.specs.Items.{Visit, variable_declared}
use Rattle.smv_flat_laws.specs.Rules.{variables_before}

pub variables_and : (vs : List Visit) (v : Visit) → variables_before (vs ++ v ∷ []) ≡ variables_before vs + length (variable_declared v v.decl.what)
variables_and [] v = let same = ap length (append-nil (variable_declared v v.decl.what)) in omega (arith, same)
variables_and (w ∷ vs) v =
    let one = length-append (variable_declared w w.decl.what) (flat_map (λ x. variable_declared x x.decl.what) (vs ++ v ∷ [])) in
    let two = length-append (variable_declared w w.decl.what) (flat_map (λ x. variable_declared x x.decl.what) vs) in
    let rest = variables_and vs v in
    omega (arith, one, two, rest)
