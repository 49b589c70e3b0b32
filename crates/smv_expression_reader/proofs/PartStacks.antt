-- A vector of parts as a stack.
use Rattle.std.proofs.Common.{◌≡◌, ℕ, true, false, List, [], ◌∷◌, ◌++◌, Some, None, refl, sym, ap}
use Rattle.smv_language.specs.declared.expr.Op.{Op}
use Rattle.smv_expression_reader.specs.declared.parts.Pending.{Pending}
use Rattle.smv_language.specs.Language.{Tree, Path}
use Rattle.smv_expression_reader.specs.TreeBuilder as machine
use Rattle.smv_expression_reader.specs.PartViews.{part_view, parts_onto, parts_of, held}
use Rattle.smv_expression_reader.specs.declared.machine.TokenRole.{TokenRole as Role}

onto : (s : List machine.Part) (xs : List Pending) (x : Pending) → parts_onto s (xs ++ x ∷ []) ≡ part_view x ∷ parts_onto s xs
onto s [] x = refl
onto s (y ∷ xs) x = onto (part_view y ∷ s) xs x

pub pushed_part : (xs : List Pending) (x : Pending) → parts_of (xs ++ x ∷ []) ≡ part_view x ∷ parts_of xs
unfolding parts_of
pushed_part xs x = onto [] xs x

pub no_parts : parts_of [] ≡ []
unfolding parts_of
no_parts = refl

pub stays : (l : ℕ) (t : Tree Path) (p : machine.Part) (ps : List machine.Part) → machine.takes_operand l p ≡ false → machine.reduce l t (p ∷ ps) ≡ held t (p ∷ ps)
stays l t p ps h = rw h refl

pub takes : (l : ℕ) (t : Tree Path) (p : machine.Part) (ps : List machine.Part) → machine.takes_operand l p ≡ true → machine.reduce l t (p ∷ ps) ≡ machine.reduce l (machine.joined p t) ps
takes l t p ps h = rw h refl

pub left_from : (o : Op) (t : Tree Path) (ps : List machine.Part) (h : machine.Held) → held t ps ≡ h → machine.ready (machine.left_part o t ∷ ps) ≡ machine.left_held o h
left_from o t ps h e = ap (machine.left_held o) e

pub asked_from : (t : Tree Path) (ps : List machine.Part) (h : machine.Held) → held t ps ≡ h → machine.ready (machine.asked t ∷ ps) ≡ machine.asked_held h
asked_from t ps h e = ap machine.asked_held e

pub shut_from : (t : Tree Path) (ps : List machine.Part) (h : machine.Held) (c : Role) → held t ps ≡ h → machine.shut t ps c ≡ machine.shut_held h c
shut_from t ps h c e = ap (λ z. machine.shut_held z c) e

pub finished_from : (t : Tree Path) (h : machine.Held) → held t [] ≡ h → machine.finished h ≡ Some t
finished_from t h e = ap machine.finished (sym e)

pub unfinished_from : (t : Tree Path) (p : machine.Part) (ps : List machine.Part) (h : machine.Held) → held t (p ∷ ps) ≡ h → machine.finished h ≡ None
unfinished_from t p ps h e = ap machine.finished (sym e)

pub ruleset part_rules = (left_from, asked_from, shut_from)

pub ruleset finished_rules = (finished_from, unfinished_from)
