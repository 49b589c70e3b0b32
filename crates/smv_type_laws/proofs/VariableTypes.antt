-- Variables without a breach have types without one.
use Rattle.std.proofs.Common.{◌≡◌, List, [], ◌∷◌}
use Rattle.smv_language.specs.Language.{Each, FlatVariable}
use Rattle.smv_type_laws.specs.DeclaredKinds.{judged_declared}
use Rattle.smv_type_laws.specs.Models.{breaches_at, variable_breaches}
use Rattle.smv_type_laws.proofs.Parts.{none_first, none_second}
use Rattle.smv_type_laws.proofs.Typed.{none_at as no_breach}

pub types_right : (xs : List FlatVariable) → variable_breaches xs ≡ [] → Each (λ x. (judged_declared x.declared).broken ≡ []) xs
types_right [] h = tt
types_right (x ∷ xs) h =
    let here = breaches_at x.number x.item (judged_declared x.declared).broken in
    (no_breach x.number x.item (judged_declared x.declared).broken (none_first here (variable_breaches xs) h), types_right xs (none_second here (variable_breaches xs) h))
