-- The printed text of a tree spells it.
use Rattle.std.proofs.Common.{◌≡◌, ◌≢◌, ℕ, zero, suc, ◌+◌, ◌-◌, ◌<◌, ◌≤◌, ℤ, true, false, List, [], ◌∷◌, ◌++◌, Some, refl, arith, subst, append-nil}
use Rattle.std.specs.Prelude.{pos, negsuc}
use Rattle.smv_language.specs.declared.expr.Op.{Op}
use Rattle.smv_language.specs.declared.expr.Op.TheVariants as op
use Rattle.smv_language.specs.Tree.{Tree, Trees, Branches, truth, number, leaf, not_of, negate, next_of, binary, choice, case_of, set_of, span, no_tree, tree_then, no_branch, branch_then}
use Rattle.smv_language.specs.ProgramTree.{Path}
use Rattle.smv_language.specs.Lexemes.{Lexeme}
use Rattle.smv_language.specs.Spells.{at_expr, at_iff, at_choice, at_or, at_and, at_rel, at_within, at_uni, at_sum, at_prod, at_neg, at_not, line_of, operator, SpellsInt, plain_int, minus_int, SpellsDotted, one_name, more_names, begins_span, is_repeated, Spells, only_iff, implies, repeated, only_or, chooses, only_not, negates, only_atom, inverts, SpellsMore, no_operator, one_operator, SpellsAtom, is_true, is_false, is_number, is_span, is_name, in_parentheses, is_next, is_set, is_case, SpellsTrees, one_tree, more_trees, SpellsBranches, one_branch, more_branches}
use Rattle.smv_language.specs.PrintedTokens.{printed_int, printed_path, under_minus, printed, printed_trees, printed_branches, AreNames, IsWritable, AreWritable, AreWritableBranches}

-- a line that repeats an operator may have none
pub without_operator : {l : ℕ} {ts : List Lexeme} {t : Tree Path} → is_repeated l ≡ true → Spells (suc l) ts t → Spells l ts t
without_operator {l} {ts} {t} h s = subst (λ us. Spells l us t) (append-nil ts) (repeated h s no_operator)

-- an expression of the next line is one of each line but the last
pub looser : (l : ℕ) {ts : List Lexeme} {t : Tree Path} → l < at_not → Spells (suc l) ts t → Spells l ts t
looser zero h s = only_iff s
looser (suc zero) h s = without_operator refl s
looser (suc (suc zero)) h s = only_or s
looser (suc (suc (suc zero))) h s = without_operator refl s
looser (suc (suc (suc (suc zero)))) h s = without_operator refl s
looser (suc (suc (suc (suc (suc zero))))) h s = without_operator refl s
looser (suc (suc (suc (suc (suc (suc zero)))))) h s = without_operator refl s
looser (suc (suc (suc (suc (suc (suc (suc zero))))))) h s = without_operator refl s
looser (suc (suc (suc (suc (suc (suc (suc (suc zero)))))))) h s = without_operator refl s
looser (suc (suc (suc (suc (suc (suc (suc (suc (suc zero))))))))) h s = without_operator refl s
looser (suc (suc (suc (suc (suc (suc (suc (suc (suc (suc zero)))))))))) h s = only_not s
looser (suc (suc (suc (suc (suc (suc (suc (suc (suc (suc (suc l))))))))))) h s = absurd (omega (arith, h))

-- an expression of line m stands in each looser line l
pub loosened : (d l m : ℕ) {ts : List Lexeme} {t : Tree Path} → l + d ≡ m → m ≤ at_not → Spells m ts t → Spells l ts t
loosened zero l m {ts} {t} e h s = let same : m ≡ l = omega arith in subst (λ n. Spells n ts t) same s
loosened (suc d) l m e h s = looser l (omega arith) (loosened d (suc l) m (omega arith) h s)

-- an atom in line l
pub atom_in : (l : ℕ) {ts : List Lexeme} {t : Tree Path} → l ≤ at_not → SpellsAtom ts t → Spells l ts t
atom_in l h s = loosened (at_not - l) l at_not (omega arith) (omega arith) (only_atom s)

pub an_expr : {ts : List Lexeme} {t : Tree Path} → SpellsAtom ts t → Spells at_expr ts t
an_expr s = atom_in at_expr (omega arith) s

-- a left-grouped operator between two atoms
pub between_atoms : (o : Op) (l : ℕ) {xs ys : List Lexeme} {a b : Tree Path} → line_of o ≡ Some l → is_repeated l ≡ true → l < at_neg → SpellsAtom xs a → SpellsAtom ys b →
    Spells at_expr (xs ++ operator o ∷ ys) (binary o a b)
between_atoms o l {xs} {ys} {a} {b} e r h sa sb =
    let one : SpellsMore l (operator o ∷ (ys ++ [])) a (binary o a b) = one_operator e (atom_in (suc l) (omega arith) sb) no_operator in
    let more : SpellsMore l (operator o ∷ ys) a (binary o a b) = subst (λ us. SpellsMore l (operator o ∷ us) a (binary o a b)) (append-nil ys) one in
    loosened l at_expr l (omega arith) (omega arith) (repeated r (atom_in (suc l) (omega arith) sa) more)

pub binary_spells : (o : Op) {xs ys : List Lexeme} {a b : Tree Path} → SpellsAtom xs a → SpellsAtom ys b →
    Spells at_expr (xs ++ operator o ∷ ys) (binary o a b)
binary_spells op.Times sa sb = between_atoms op.Times at_prod refl refl (omega arith) sa sb
binary_spells op.Over sa sb = between_atoms op.Over at_prod refl refl (omega arith) sa sb
binary_spells op.Mod sa sb = between_atoms op.Mod at_prod refl refl (omega arith) sa sb
binary_spells op.Plus sa sb = between_atoms op.Plus at_sum refl refl (omega arith) sa sb
binary_spells op.Minus sa sb = between_atoms op.Minus at_sum refl refl (omega arith) sa sb
binary_spells op.Union sa sb = between_atoms op.Union at_uni refl refl (omega arith) sa sb
binary_spells op.Within sa sb = between_atoms op.Within at_within refl refl (omega arith) sa sb
binary_spells op.Equal sa sb = between_atoms op.Equal at_rel refl refl (omega arith) sa sb
binary_spells op.Differs sa sb = between_atoms op.Differs at_rel refl refl (omega arith) sa sb
binary_spells op.Less sa sb = between_atoms op.Less at_rel refl refl (omega arith) sa sb
binary_spells op.Greater sa sb = between_atoms op.Greater at_rel refl refl (omega arith) sa sb
binary_spells op.AtMost sa sb = between_atoms op.AtMost at_rel refl refl (omega arith) sa sb
binary_spells op.AtLeast sa sb = between_atoms op.AtLeast at_rel refl refl (omega arith) sa sb
binary_spells op.And sa sb = between_atoms op.And at_and refl refl (omega arith) sa sb
binary_spells op.Or sa sb = between_atoms op.Or at_or refl refl (omega arith) sa sb
binary_spells op.Xor sa sb = between_atoms op.Xor at_or refl refl (omega arith) sa sb
binary_spells op.Xnor sa sb = between_atoms op.Xnor at_or refl refl (omega arith) sa sb
binary_spells op.Iff sa sb = between_atoms op.Iff at_iff refl refl (omega arith) sa sb
binary_spells op.Implies sa sb = implies (atom_in at_iff (omega arith) sa) (an_expr sb)

pub int_spells : (n : ℤ) → SpellsInt (printed_int n) n
int_spells (pos n) = plain_int
int_spells (negsuc n) = minus_int

pub path_spells : (x : List ℕ) (p : Path) → AreNames (x ∷ p) → SpellsDotted (printed_path (x ∷ p)) (x ∷ p)
path_spells x [] h = one_name h.0.0
path_spells x (y ∷ p) h = more_names h.0.0 (path_spells y p h.1)

-- what stands under a minus begins no span
pub no_span : (t : Tree Path) → begins_span (under_minus t (printed t)) ≡ false
no_span (truth true) = refl
no_span (truth false) = refl
no_span (number (pos n)) = refl
no_span (number (negsuc n)) = refl
no_span (leaf []) = refl
no_span (leaf (x ∷ [])) = refl
no_span (leaf (x ∷ y ∷ p)) = refl
no_span (not_of a) = refl
no_span (negate a) = refl
no_span (next_of a) = refl
no_span (binary o a b) = refl
no_span (choice c a b) = refl
no_span (case_of bs) = refl
no_span (set_of ts) = refl
no_span (span lo hi) = refl

-- under a minus the operand stands as printed, or in parentheses
pub minus_spells : (t : Tree Path) → SpellsAtom (printed t) t → SpellsAtom (under_minus t (printed t)) t
minus_spells (truth b) s = s
minus_spells (number n) s = s
minus_spells (leaf p) s = s
minus_spells (not_of a) s = s
minus_spells (negate a) s = s
minus_spells (next_of a) s = s
minus_spells (binary o a b) s = s
minus_spells (choice c a b) s = s
minus_spells (case_of bs) s = s
minus_spells (set_of ts) s = s
minus_spells (span lo hi) s = in_parentheses (an_expr s)

mutual
  pub printed_spells : (t : Tree Path) → IsWritable t → SpellsAtom (printed t) t
  printed_spells (truth true) h = is_true
  printed_spells (truth false) h = is_false
  printed_spells (number (pos n)) h = is_number
  printed_spells (number (negsuc n)) h = absurd h
  printed_spells (leaf []) h = absurd (h.0 refl)
  printed_spells (leaf (x ∷ p)) h = is_name (path_spells x p h.1)
  printed_spells (not_of a) h =
      in_parentheses (loosened at_not at_expr at_not refl (omega arith) (inverts (only_atom (printed_spells a h))))
  printed_spells (negate a) h =
      in_parentheses (loosened at_neg at_expr at_neg refl (omega arith)
      (negates (no_span a) (atom_in at_neg (omega arith) (minus_spells a (printed_spells a h)))))
  printed_spells (next_of a) h = is_next (an_expr (printed_spells a h))
  printed_spells (binary o a b) h = in_parentheses (binary_spells o (printed_spells a h.0) (printed_spells b h.1))
  printed_spells (choice c a b) h =
      in_parentheses (loosened at_choice at_expr at_choice refl (omega arith)
      (chooses (atom_in at_or (omega arith) (printed_spells c h.0)) (an_expr (printed_spells a h.1)) (atom_in at_choice (omega arith) (printed_spells b h.2))))
  printed_spells (case_of bs) h = is_case (branches_spell bs h.0 h.1)
  printed_spells (set_of ts) h = is_set (trees_spell ts h.0 h.1)
  printed_spells (span lo hi) h = is_span (int_spells lo) (int_spells hi)

  pub trees_spell : (ts : Trees Path) → ts ≢ no_tree → AreWritable ts → SpellsTrees (printed_trees ts) ts
  trees_spell no_tree some h = absurd (some refl)
  trees_spell (tree_then t no_tree) some h = one_tree (an_expr (printed_spells t h.0))
  trees_spell (tree_then t (tree_then u us)) some h =
      more_trees (an_expr (printed_spells t h.0)) (trees_spell (tree_then u us) (λ e. cc) h.1)

  pub branches_spell : (bs : Branches Path) → bs ≢ no_branch → AreWritableBranches bs → SpellsBranches (printed_branches bs) bs
  branches_spell no_branch some h = absurd (some refl)
  branches_spell (branch_then c a no_branch) some h = one_branch (an_expr (printed_spells c h.0)) (an_expr (printed_spells a h.1))
  branches_spell (branch_then c a (branch_then d b bs)) some h =
      more_branches (an_expr (printed_spells c h.0)) (an_expr (printed_spells a h.1)) (branches_spell (branch_then d b bs) (λ e. cc) h.2)
