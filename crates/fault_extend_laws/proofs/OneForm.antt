-- An expression has one flat form at an instance.
use Rattle.std.proofs.Common.{◌≡◌, Option, Some, None, sym, ◌∙◌, ap, subst}
use Rattle.smv_language.specs.Language.{Tree, Path, Formula, ProgramTree, Place, FlatLeaf, FlatModel}
use Rattle.smv_flat_laws.specs.NameResolution.{StandsFor, IsLeafOf, Resolver, IsSound, IsResolved}
use Rattle.smv_flat_laws.specs.ResolvedAt.{IsResolvedAt}
use Rattle.smv_flat_laws.specs.Rules.{IsAccepted}
use Rattle.smv_flat_laws.specs.Model.{IsFlatOf}
use Rattle.smv_flat_laws.proofs.OneModel.{one_stands}
use Rattle.smv_flat_laws.proofs.OneTree.{one_tree}
use Rattle.smv_flat_laws.proofs.Resolving.{same_meaning}
use Rattle.smv_flat_laws.proofs.Walkable.{accepted_walkable}
use Rattle.fault_extend_laws.specs.Expressions.{IsForm}
use Rattle.fault_extend_laws.proofs.KeysOnce.{keys_differ}

module _ (p : ProgramTree) (m : FlatModel) (accepted : IsAccepted p) (is : IsFlatOf p m) where
  one_leaf : (r q : Resolver) → IsSound p m is.written r → IsSound p m is.written q → (at : Place) (name : Path) (l k : FlatLeaf) → r at name ≡ Some l → q at name ≡ Some k → l ≡ k
  one_leaf r q sound other at name l k e f =
      let a : IsLeafOf p m is.written at name l = sound at name l e in
      let b : IsLeafOf p m is.written at name k = other at name k f in
      let same : b.0 ≡ a.0 = same_meaning b.1.0 a.1.0 p at name b.0 a.0 b.1.1 a.1.1 in
      one_stands p (accepted_walkable p accepted) m m is is (keys_differ p m is) a.0 l k a.2 (subst (StandsFor m is.written k) same b.2)

  one_form : (at : Place) (e : Formula) (flat other : Tree FlatLeaf) → IsResolvedAt p m at e flat → IsResolvedAt p m at e other → flat ≡ other
  one_form at e flat other h g =
      let a : (r : Resolver) × IsSound p m is.written r × IsResolved (r at) e flat = h is in
      let b : (r : Resolver) × IsSound p m is.written r × IsResolved (r at) e other = g is in
      one_tree (a.0 at) (b.0 at) e flat other (one_leaf a.0 b.0 a.1 b.1 at) a.2 b.2

  -- the same where there is an expression
  pub same_form : (at : Place) (e : Option Formula) (flat other : Option (Tree FlatLeaf)) → IsForm p m at e flat → IsForm p m at e other → flat ≡ other
  same_form at None flat other h g = h ∙ sym g
  same_form at (Some e) None other h g = absurd h
  same_form at (Some e) (Some t) None h g = absurd g
  same_form at (Some e) (Some t) (Some u) h g = ap Some (one_form at e t u h g)
