-- Definitions get their numbers one after another.
use Rattle.std.proofs.Common.{◌≡◌, ℕ, zero, suc, List, [], ◌∷◌, ◌++◌, length, Option, Some, None, Vec, refl, sym, ◌∙◌, ap, subst}
use Rattle.std.specs.Prelude.{slice_get}
use Rattle.std.specs.Borrow.{Bor}
use Rattle.std.specs.declared.alloc.Global.{Global}
use Rattle.smv_language.specs.declared.expr.Expr.{Expr}
use Rattle.smv_language.specs.Language.{Text, Path, Formula, ProgramTree, program_tree, tree_of, Place, a_formal, actual_key, Meaning, an_expression_at, plain_name, through_plain, through_actual, by_kind, kind_at, module_at, actual_of_kind, means_in, Means, Each, EachBoth, FlatInstance}
use Rattle.smv_flat_laws.specs.Items.{instances_of}
use Rattle.smv_flat_laws.specs.Looks.{Look, at_actual, plain_of, step_kind, step_of, step_on, look_after, ComesBack}
use Rattle.smv_flat_laws.specs.Rules.{IsWalkable, expression_of, expression_in}
use Rattle.smv_flat_laws.specs.Model.{Root, root_of_actual, roots_of}
use Rattle.smv_flat_laws.proofs.LookLaws.{comes_back_nothing}
use Rattle.smv_scope.specs.SceneTree.{AreModules, Denotes, IsKnown, IsDefined, program_of}
use Rattle.smv_scope.specs.KnownFormals.{rows, rows_with, formal_of, IsHead, IsOpen, IsTold, ShutAt, ShutBeyond, AreTold, IsActualTold, IsSameButFormals}
use Rattle.smv_scope.specs.NumberedScenes.{IsLaidSpot, IsLaid, IsLeft, IsNaming, IsSameProgram, IsActualAt, NamesActual}
use Rattle.smv_scope.specs.WaitingLookUps.{AreSettled}
use Rattle.smv_scope.specs.declared.modules.Modules.{Modules}
use Rattle.smv_scope.specs.declared.walk.Meaning.{Meaning as Found}
use Rattle.smv_scope.specs.declared.walk.Meaning.TheVariants as found
use Rattle.smv_scope.specs.declared.walk.Spot.{Spot}
use Rattle.smv_scope.specs.declared.names.Formal.{Formal}
use Rattle.smv_scope.specs.declared.names.Formal.TheVariants as known
use Rattle.smv_scope.specs.declared.names.Defined.{Defined}
use Rattle.smv_scope.specs.declared.names.Scene.{Scene}
use Rattle.smv_scope.proofs.LookSplit.{never}
use Rattle.smv_scope.proofs.Told.{told_one, answered_one, in_row, told_there}
use Rattle.smv_scope.proofs.Work.{settled_with}
use Rattle.smv_scope.proofs.HeadKinds.{head_kind}
use Rattle.smv_flat_laws.proofs.Conditions.{each_join}
use Rattle.smv_flat_laws.proofs.KeysApart.{one_number}
use Rattle.smv_flat_laws.proofs.KindLaws.{joined_more}
use Rattle.smv_flat_laws.proofs.Lists.{each_more}
use Rattle.std.proofs.lemmas.Option.{same_Some as of_some}
use Rattle.smv_scope.proofs.EnterLaws.{get_here as get_mid}
use Rattle.smv_flat_laws.proofs.BothLaws.{both_push, both_long}

-- formals whose actuals are definitions keep their answers
pub still_answered : (p : ProgramTree) (rs rs' : List (List Formal)) (roots : List Root) → AreSettled rs rs' → Each (IsActualTold p rs) roots → Each (IsActualTold p rs') roots
still_answered p rs rs' roots settled told = each_more (IsActualTold p rs) (IsActualTold p rs') roots (λ r h spot i at e key is. h spot i at e key (settled spot i is)) told

pub left_one : (p : ProgramTree) (rs rs' : List (List Formal)) (ds : List Defined) (r : Root) (rest : List Root) (d : Defined) → IsLeft p rs ds (r ∷ rest) → IsDefined p r d →
    AreSettled rs rs' → IsActualTold p rs' r → IsLeft p rs' (ds ++ d ∷ []) rest
left_one p rs rs' ds r rest d left is settled told = record {
  before = left.before ++ r ∷ [];
  roots = left.roots ∙ joined_more left.before r rest;
  numbered = both_push (IsDefined p) left.before ds r d left.numbered is;
  actuals = each_join (IsActualTold p rs') left.before (r ∷ []) (still_answered p rs rs' left.before settled left.actuals) (told, tt);
}

pub left_number : (p : ProgramTree) (rs : List (List Formal)) (ds : List Defined) (r : Root) (rest : List Root) → IsLeft p rs ds (r ∷ rest) → slice_get (roots_of p) (length ds) ≡ Some r
left_number p rs ds r rest left =
    ap (λ rs. slice_get rs (length ds)) left.roots
    ∙ ap (λ n. slice_get (left.before ++ r ∷ rest) n) (both_long (IsDefined p) left.before ds left.numbered)
    ∙ get_mid left.before r rest

pub program_same : (old new : Scene) → new.modules ≡ old.modules → program_of new ≡ program_of old
program_same old new same = ap (λ (m : Modules). program_tree m.program.now) same

pub laid_same : (old new : Scene) → IsSameProgram old new → IsLaid old → IsLaid new
laid_same old new same laid = record {
  modules = subst AreModules (sym same.modules) laid.modules;
  walkable = subst IsWalkable (sym (program_same old new same.modules)) laid.walkable;
  spots =
      subst (λ (v : Vec Spot Global). EachBoth (IsLaidSpot (program_of new)) (instances_of (program_of new)) v.items) (sym same.spots)
      (subst (λ (p : ProgramTree). EachBoth (IsLaidSpot p) (instances_of p) old.spots.items) (sym (program_same old new same.modules)) laid.spots);
}

-- what is known of the old program is known of the new one
pub naming_at : (old new : Scene) → new.modules ≡ old.modules → IsLaid new → (ds : List Defined) (rs : List (List Formal)) (rest : List Root) → new.definitions.items ≡ ds → rows new ≡ rs →
    IsLeft (program_of old) rs ds rest → AreTold (program_of old) rs → IsNaming new rest
naming_at old new same laid ds rs rest are_ds are_rs left told = record {
  laid = laid;
  left =
      subst (λ p. IsLeft p (rows new) new.definitions.items rest) (sym (program_same old new same))
      (subst (λ r. IsLeft (program_of old) r new.definitions.items rest) (sym are_rs) (subst (λ xs. IsLeft (program_of old) rs xs rest) (sym are_ds) left));
  told = subst (λ p. AreTold p (rows new)) (sym (program_same old new same)) (subst (AreTold (program_of old)) (sym are_rs) told);
}

pub naming_made : (old new : Scene) → IsSameProgram old new → IsLaid old → (ds : List Defined) (rs : List (List Formal)) (rest : List Root) → new.definitions.items ≡ ds → rows new ≡ rs →
    IsLeft (program_of old) rs ds rest → AreTold (program_of old) rs → IsNaming new rest
naming_made old new same laid ds rs rest = naming_at old new same.modules (laid_same old new same laid) ds rs rest

pub naming_pushed : (old new : Scene) → IsSameProgram old new → rows new ≡ rows old → (d : Defined) → new.definitions.items ≡ old.definitions.items ++ d ∷ [] → (r : Root) (rest : List Root) →
    IsNaming old (r ∷ rest) → IsDefined (program_of old) r d → IsActualTold (program_of old) (rows old) r → IsNaming new rest
naming_pushed old new same are_rows d pushed r rest n is told =
    naming_made old new same n.laid (old.definitions.items ++ d ∷ []) (rows old) rest pushed are_rows
    (left_one (program_of old) (rows old) (rows old) old.definitions.items r rest d n.left is (λ k i open'. open') told) n.told

-- a formal whose actual is no plain name means that actual
module _ (p : ProgramTree) (own : Text) (caller : Place) (i : ℕ) (x : Text) (e : Formula) (kind : kind_at (module_at p (own ∷ caller)) x ≡ a_formal i)
    (actual : actual_of_kind (kind_at (module_at p caller) own) i ≡ Some e) (none : plain_name e ≡ None) where
  actual_means : means_in 1 p (own ∷ caller) (x ∷ []) ≡ Some (an_expression_at (actual_key (own ∷ caller) i) caller e)
  actual_means =
      ap (λ k. by_kind (means_in 0 p) p (own ∷ caller) k x []) kind
      ∙ ap (λ o. through_actual (means_in 0 p) (actual_key (own ∷ caller) i) caller o []) actual
      ∙ ap (λ o. through_plain (means_in 0 p) (actual_key (own ∷ caller) i) caller e o []) none

  actual_ends : step_of p (own ∷ caller) (x ∷ []) ≡ None
  actual_ends =
      ap (λ k. step_kind p (own ∷ caller) k x []) kind
      ∙ ap (λ o. at_actual caller (plain_of o) []) actual
      ∙ ap (λ o. at_actual caller o []) none

pub ended : (p : ProgramTree) (at : Place) (name : Path) → step_of p at name ≡ None → (n : ℕ) → look_after (suc n) p at name ≡ None
ended p at name e zero = e
ended p at name e (suc n) = ap (step_on p) (ended p at name e n)

pub shut_ended : (p : ProgramTree) (rs : List (List Formal)) (o : Option Look) → o ≡ None → ShutAt p rs o
shut_ended p rs o none = λ at x rest e is. never (record { place = at; name = x ∷ rest }) (sym none ∙ e)

pub meant_stays : (p : ProgramTree) (at : Place) (x : Text) (m : Meaning) → Means p at (x ∷ []) m → ComesBack p at x → ⊥
meant_stays p at x m means back = never m (sym (comes_back_nothing means.0 p at x back []) ∙ means.1)

module _ (old mid new : Scene) (spot item inner formal made : ℕ) (value : Bor (Expr Path)) (same : IsSameProgram old mid) (same_rows : rows mid ≡ rows old)
    (pushed : mid.definitions.items ≡ old.definitions.items ++ record { spot = spot; item = item; value = value } ∷ []) (number : made ≡ length old.definitions.items)
    (but : IsSameButFormals mid new) (set : rows new ≡ rows_with (rows mid) inner formal (known.Means (found.Definition made)))
    (none : plain_name (tree_of value.now) ≡ None) where
  all_same : IsSameProgram old new
  all_same = record { modules = but.modules ∙ same.modules; spots = but.spots ∙ same.spots; symbols = but.symbols ∙ same.symbols }

  abbrev e : Formula
  e = tree_of value.now

  abbrev f : Found
  f = found.Definition made

  abbrev root : FlatInstance → Root
  root inside = record { key = actual_key inside.place formal; item = item }

  expression : (at inside : FlatInstance) → IsActualAt (program_of old) spot inner formal e at inside → expression_of (program_of old) (actual_key inside.place formal) ≡ Some (at.place, e)
  expression at inside a = ap (λ q. expression_of (program_of old) (actual_key q formal)) a.below ∙ ap (expression_in at.place) a.actual

  denotes : (at inside : FlatInstance) (rest : List Root) → IsActualAt (program_of old) spot inner formal e at inside → IsLeft (program_of old) (rows old) old.definitions.items (root inside ∷ rest) →
      Denotes (program_of old) f (an_expression_at (actual_key inside.place formal) at.place e)
  denotes at inside rest a left =
      (root inside, ap (slice_get (roots_of (program_of old))) number ∙ left_number (program_of old) (rows old) old.definitions.items (root inside) rest left, refl, expression at inside a)

  told_here : (at inside : FlatInstance) (rest : List Root) → IsActualAt (program_of old) spot inner formal e at inside → IsNaming old (root inside ∷ rest) → (x : Text) → IsHead (program_of old) inner formal inside.place x →
      IsKnown (program_of old) inside.place x (known.Means f) × ShutBeyond (program_of old) (rows old) inside.place (x ∷ [])
  told_here at inside rest a n x head =
      let kind : kind_at (module_at (program_of old) (a.own ∷ at.place)) x ≡ a_formal formal =
      ap (λ q. kind_at (module_at (program_of old) q) x) (sym a.below) ∙ head_kind (program_of old) n.laid.walkable inner formal inside.place x head in
      let means : Means (program_of old) inside.place (x ∷ []) (an_expression_at (actual_key inside.place formal) at.place e) = (
        1,
        subst (λ q. means_in 1 (program_of old) q (x ∷ []) ≡ Some (an_expression_at (actual_key q formal) at.place e)) (sym a.below)
            (actual_means (program_of old) a.own at.place formal x e kind a.actual none),
      ) in
      let ends : step_of (program_of old) inside.place (x ∷ []) ≡ None =
      subst (λ q. step_of (program_of old) q (x ∷ []) ≡ None) (sym a.below) (actual_ends (program_of old) a.own at.place formal x e kind a.actual none) in (
        (
          (an_expression_at (actual_key inside.place formal) at.place e, means, denotes at inside rest a n.left),
          meant_stays (program_of old) inside.place x (an_expression_at (actual_key inside.place formal) at.place e) means,
        ),
        λ k. shut_ended (program_of old) (rows old) (look_after (suc k) (program_of old) inside.place (x ∷ [])) (ended (program_of old) inside.place (x ∷ []) ends k),
      )

  told_all : (at inside : FlatInstance) (rest : List Root) → IsActualAt (program_of old) spot inner formal e at inside → IsNaming old (root inside ∷ rest) →
      AreTold (program_of old) (rows_with (rows old) inner formal (known.Means f))
  told_all at inside rest a n =
      told_one (program_of old) (rows old) n.told inner formal (known.Means f) (λ h. absurd h)
      (λ at' x head.
      let here : inside.place ≡ at' = ap (λ (i : FlatInstance). i.place) (of_some inside head.instance (sym a.instance ∙ head.is)) ∙ head.place in
      let head' : IsHead (program_of old) inner formal inside.place x = subst (λ q. IsHead (program_of old) inner formal q x) (sym here) head in
      let t : IsKnown (program_of old) inside.place x (known.Means f) × ShutBeyond (program_of old) (rows old) inside.place (x ∷ []) = told_here at inside rest a n x head' in
      let are : AreTold (program_of old) (rows_with (rows old) inner formal (known.Means f)) =
      answered_one (program_of old) n.laid.walkable (rows old) n.told inner formal inside.place x (known.Means f) head' (λ h. h) t.0 t.1 (λ k s. (k, s)) in
      subst (IsTold (program_of old) (rows_with (rows old) inner formal (known.Means f)) at' x) (in_row (program_of old) (rows old) n.told inner formal at' x (known.Means f) head)
      (are.told inner formal at' x head))

  -- its formal has an answer
  told_root : (at inside : FlatInstance) (rest : List Root) → IsActualAt (program_of old) spot inner formal e at inside → IsNaming old (root inside ∷ rest) →
      IsActualTold (program_of old) (rows_with (rows old) inner formal (known.Means f)) (root inside)
  told_root at inside rest a n k i at' is key open' =
      let same_place : at'.place ≡ inside.place = cc in
      let same_formal : i ≡ formal = cc in
      let same_spot : k ≡ inner = one_number (program_of old) n.laid.walkable k inner at' inside is a.instance same_place in
      told_there (rows old) inner formal f
      (subst (λ j. IsOpen (formal_of (rows_with (rows old) inner formal (known.Means f)) inner j)) same_formal
      (subst (λ j. IsOpen (formal_of (rows_with (rows old) inner formal (known.Means f)) j i)) same_spot open'))

  pub actual_named : NamesActual old new spot item inner formal e
  actual_named at inside rest a n =
      let n' : IsNaming old (root inside ∷ rest) = subst (λ o. IsNaming old (root_of_actual inside.place formal item o ++ rest)) none n in
      let defined : IsDefined (program_of old) (root inside) (record { spot = spot; item = item; value = value }) =
      record { item = refl; at = at; is = a.caller; expression = expression at inside a } in
      naming_made old new all_same n.laid (old.definitions.items ++ record { spot = spot; item = item; value = value } ∷ []) (rows_with (rows old) inner formal (known.Means f)) rest
      (ap (λ (v : Vec Defined Global). v.items) but.definitions ∙ pushed)
      (set ∙ ap (λ rs. rows_with rs inner formal (known.Means f)) same_rows)
      (left_one (program_of old) (rows old) (rows_with (rows old) inner formal (known.Means f)) old.definitions.items (root inside) rest (record { spot = spot; item = item; value = value }) n'.left defined
      (settled_with (rows old) inner formal (known.Means f) (λ h. absurd h)) (told_root at inside rest a n'))
      (told_all at inside rest a n')

pub same_start : (s : Scene) → IsSameProgram s s
same_start s = record { modules = refl; spots = refl; symbols = refl }

pub same_then : (a b c : Scene) → IsSameProgram a b → IsSameProgram b c → IsSameProgram a c
same_then a b c h k = record { modules = k.modules ∙ h.modules; spots = k.spots ∙ h.spots; symbols = k.symbols ∙ h.symbols }
