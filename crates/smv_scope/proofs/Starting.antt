-- A scene before and after its definitions have numbers.
use Rattle.std.proofs.Common.{◌≡◌, ◌<◌, [], length, Vec, sym, ◌∙◌, ap, subst}
use Rattle.std.specs.declared.alloc.Global.{Global}
use Rattle.smv_language.specs.Language.{ProgramTree, Each, EachBoth, texts}
use Rattle.smv_flat_laws.specs.Items.{NumberedItem, items_named, instances_of}
use Rattle.smv_flat_laws.specs.Rules.{IsWalkable}
use Rattle.smv_flat_laws.specs.Model.{symbols_of}
use Rattle.smv_scope.specs.SceneTree.{AreModules, IsWalked, IsSpotWalked, program_of}
use Rattle.smv_scope.specs.KnownFormals.{rows, AreTold, IsActualTold, IsSameButFormals}
use Rattle.smv_scope.specs.NumberedScenes.{IsLaidSpot, IsLaid, IsNamedTo}
use Rattle.smv_scope.specs.WaitingLookUps.{IsReady}
use Rattle.smv_scope.specs.declared.walk.Spot.{Spot}
use Rattle.smv_scope.specs.declared.names.Defined.{Defined}
use Rattle.smv_scope.specs.declared.names.Scene.{Scene}
use Rattle.smv_scope.proofs.SceneItems.{both_more}
use Rattle.smv_scope.proofs.Naming.{program_same}
use Rattle.smv_scope.proofs.NamingItems.{all_roots, none_named, named_set}
use Rattle.smv_flat_laws.proofs.BothLaws.{both_long}

pub laid_start : (s : Scene) → AreModules s.modules → IsWalkable (program_of s) → EachBoth (IsSpotWalked (program_of s)) (instances_of (program_of s)) s.spots.items → IsLaid s
laid_start s modules walkable spots = record {
  modules = modules;
  walkable = walkable;
  spots =
      both_more (IsSpotWalked (program_of s)) (IsLaidSpot (program_of s)) (instances_of (program_of s)) s.spots.items
      (λ at own h. record { placed = h.placed; count = both_long (λ (n : NumberedItem). IsWalked (program_of s) at.place n.item) (items_named (program_of s) at.module_name) own.own.items h.own })
      spots;
}

pub named_start : (old new : Scene) → IsSameButFormals old new → AreModules old.modules → IsWalkable (program_of old) → EachBoth (IsSpotWalked (program_of old)) (instances_of (program_of old)) old.spots.items →
    old.definitions.items ≡ [] → AreTold (program_of old) (rows new) → IsNamedTo new 0
named_start old new same modules walkable spots none told =
    none_named new (subst AreModules (sym same.modules) modules) (subst IsWalkable same_p walkable)
    (subst (λ (v : Vec Spot Global). EachBoth (IsSpotWalked (program_of new)) (instances_of (program_of new)) v.items) (sym same.spots)
    (subst (λ (p : ProgramTree). EachBoth (IsSpotWalked p) (instances_of p) old.spots.items) same_p spots))
    (ap (λ (v : Vec Defined Global). v.items) same.definitions ∙ none)
    (subst (λ p. AreTold p (rows new)) same_p told)
  where
    same_p : program_of old ≡ program_of new
    same_p = sym (program_same old new same.modules)

pub ready_start : (s : Scene) → IsNamedTo s (length (instances_of (program_of s))) → texts s.symbols.keys ≡ symbols_of (program_of s) → length s.symbols.keys < 4294967296 → IsReady s
ready_start s named symbols few = record {
  set = named_set s named symbols few;
  told = named.naming.told;
  actuals = subst (Each (IsActualTold (program_of s) (rows s))) (sym (all_roots s named)) named.naming.left.actuals;
}

-- the symbols stay
pub symbols_by : (s : Scene) (q : _) → q ≡ s.symbols → q.keys ≡ s.symbols.keys
symbols_by s q e = ap (λ r. r.keys) e

pub keys_stay : (a b c : Scene) → b.symbols ≡ a.symbols → c.symbols ≡ b.symbols → c.symbols.keys ≡ a.symbols.keys
keys_stay a b c e f = symbols_by b c.symbols f ∙ symbols_by a b.symbols e

pub program_stays : (a b c : Scene) → b.modules ≡ a.modules → c.modules ≡ b.modules → program_of c ≡ program_of a
program_stays a b c e f = program_same b c f ∙ program_same a b e
