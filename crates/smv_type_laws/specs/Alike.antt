-- Instances of one module without formals, at which written expressions are judged alike.
use Rattle.std.specs.Prelude.{◌≡◌, ◌++◌, Bool}
use Rattle.smv_language.specs.Language.{Tree, Formula, ProgramTree, Place, FlatLeaf, FlatModel}
use Rattle.smv_flat_laws.specs.Alike.{AreAlike}
use Rattle.smv_flat_laws.specs.NameResolution.{Resolver, IsSound, IsResolved}
use Rattle.smv_flat_laws.specs.Rules.{IsWalkable}
use Rattle.smv_flat_laws.specs.Model.{IsFlatOf}
use Rattle.smv_type_laws.specs.Models.{judged_in}

-- what is judged of an expression in the one, or at an instance inside it, is judged of it in the other, whatever resolves it
abbrev pub AlikeJudgeAlike : Type 0
AlikeJudgeAlike =
    (p : ProgramTree) (m : FlatModel) → IsWalkable p → (is : IsFlatOf p m) → (a b : Place) → AreAlike p a b →
    (r s : Resolver) → IsSound p m is.written r → IsSound p m is.written s →
    (inside : Place) (e : Formula) (first second : Tree FlatLeaf) → IsResolved (r (inside ++ a)) e first →
    IsResolved (s (inside ++ b)) e second → (sets : Bool) → judged_in m sets first ≡ judged_in m sets second
