-- No tree that the machine holds is higher than the one that it ends with.
use Rattle.std.proofs.Common.{◌≡◌, ◌+◌, length, drop, get_or, ℕ, suc, ◌≤◌, ◌<◌, Bool, true, false, List, [], ◌∷◌, Some, refl, sym, ◌∙◌, ap, subst, arith}
use Rattle.std.proofs.lemmas.List.{drop_more}
use Rattle.std.specs.Prelude.{pos, max, if◌then◌else◌}
use Rattle.base_values.specs.declared.limits.TheConstants.{MOST_HEIGHT}
use Rattle.smv_language.specs.declared.expr.Op.{Op}
use Rattle.smv_language.specs.Language.{Tree, leaf, not_of, negate, next_of, binary, choice, case_of, set_of, span, height_of, branches_height, branches_from, Lexeme, Path, at_expr, at_or, at_sum, line_of}
use Rattle.smv_language.specs.Tree.{truth, number}
use Rattle.smv_expression_reader.specs.Recogniser.{role_of}
use Rattle.smv_expression_reader.specs.TreeBuilder.{Part, minus_part, bang_part, left_part, answered, asked, group_part, next_part, set_part, condition_part, outcome_part, Hand, number_hand, name_hand, other_hand, Build, ready, name_on, high_on, minus_high_on, next_on, branch_on, holds, broken, value, takes_operand, joined, Held, reduce, shut, level, left_held, asked_held, shut_held, go_on, span_from, after_hand, open_operand, build_step, build, finished, finish, built}
use Rattle.smv_expression_reader.specs.Heights.{part_height, parts_height, tallest, held_height, highest, is_whole, TooHigh}
use Rattle.smv_expression_reader.proofs.Heights.{trees_more, branches_more}
use Rattle.smv_expression_reader.specs.declared.machine.TokenRole.{TokenRole as Role}
use Rattle.smv_expression_reader.specs.declared.machine.TokenRole.TheVariants as role

joined_grows : (l : ℕ) (p : Part) (t : Tree Path) → takes_operand l p ≡ true → max (part_height p) (height_of t) ≤ height_of (joined p t)
joined_grows l minus_part t e = omega arith
joined_grows l bang_part t e = omega arith
joined_grows l (left_part o a) t e = omega arith
joined_grows l (answered c a) t e = omega arith
joined_grows l p t e = cc

reduce_grows : (l : ℕ) (t : Tree Path) (ps : List Part) → max (height_of t) (parts_height ps) ≤ held_height (reduce l t ps)
reduce_grows l t [] = omega arith
reduce_grows l t (p ∷ ps) = go (takes_operand l p) refl (reduce_grows l (joined p t) ps)
  where
    go : (b : Bool) → takes_operand l p ≡ b → max (height_of (joined p t)) (parts_height ps) ≤ held_height (reduce l (joined p t) ps) →
        max (height_of t) (max (part_height p) (parts_height ps)) ≤ held_height (if b then reduce l (joined p t) ps else record { tree = t; parts = p ∷ ps })
    go true e rec = let grows = joined_grows l p t e in omega (arith, grows, rec)
    go false e rec = omega arith

-- a step keeps the highest tree, or makes a higher one
Grows : ℕ → Build → Type 0
Grows n st = is_whole st ≡ true → n ≤ tallest st

shut_grows : (t : Tree Path) (ps : List Part) (c : Role) (n : ℕ) → n ≤ max (height_of t) (parts_height ps) → Grows n (shut t ps c)
unfolding Grows
shut_grows t (group_part ∷ ps) role.Closes n h = λ e. omega (arith, h)
shut_grows t (next_part ∷ ps) role.Closes n h = λ e. omega (arith, h)
shut_grows t (set_part ts ∷ ps) role.Comma n h = λ e. let more = trees_more ts t in omega (arith, h, more)
shut_grows t (set_part ts ∷ ps) role.ClosesSet n h = λ e. let more = trees_more ts t in omega (arith, h, more)
shut_grows t (asked c ∷ ps) role.Colon n h = λ e. omega (arith, h)
shut_grows t (condition_part bs ∷ ps) role.Colon n h = λ e. omega (arith, h)
shut_grows t (outcome_part bs c ∷ ps) role.Semicolon n h = λ e. let more = branches_more bs c t in omega (arith, h, more)
shut_grows t ps c n h = λ e. cc

go_on_grows : (t : Tree Path) (ps : List Part) (c : Role) (n : ℕ) → n ≤ max (height_of t) (parts_height ps) → Grows n (go_on t ps c)
unfolding Grows
go_on_grows t ps (role.Joins o) n h = λ e. let grows = reduce_grows (level (line_of o)) t ps in omega (arith, h, grows)
go_on_grows t ps role.Minus n h = λ e. let grows = reduce_grows at_sum t ps in omega (arith, h, grows)
go_on_grows t ps role.Asks n h = λ e. let grows = reduce_grows at_or t ps in omega (arith, h, grows)
go_on_grows t ps c n h = shut_grows (reduce at_expr t ps).tree (reduce at_expr t ps).parts c n (let grows = reduce_grows at_expr t ps in omega (arith, h, grows))

span_grows : (n : ℕ) (ps : List Part) (m : ℕ) → m ≤ parts_height ps → m ≤ tallest (span_from n ps)
span_grows n (minus_part ∷ ps) m h = omega (arith, h)
span_grows n ps m h = h

open_grows : (ps : List Part) (t : Lexeme) (c : Role) (n : ℕ) → n ≤ parts_height ps → Grows n (open_operand ps t c)
unfolding Grows
open_grows ps t (role.Truth b) n h = λ e. omega (arith, h)
open_grows ps t role.Name n h = λ e. omega (arith, h)
open_grows ps t role.Number n h = λ e. omega (arith, h)
open_grows ps t role.Next n h = λ e. h
open_grows ps t role.Case n h = λ e. omega (arith, h)
open_grows ps t role.Minus n h = λ e. omega (arith, h)
open_grows ps t role.Bang n h = λ e. omega (arith, h)
open_grows ps t role.Opens n h = λ e. omega (arith, h)
open_grows ps t role.OpensSet n h = λ e. omega (arith, h)
open_grows ps t c n h = λ e. cc

hand_grows : (h : Hand) (ps : List Part) (c : Role) → Grows (highest (holds h ps)) (after_hand h ps c)
unfolding Grows
hand_grows (number_hand n) ps role.Dots = λ e. span_grows n ps (parts_height ps) (omega arith)
hand_grows (name_hand p) ps role.Dot = λ e. omega arith
hand_grows (number_hand n) ps c = go_on_grows (number (pos n)) ps c (parts_height ps) (omega arith)
hand_grows (name_hand p) ps c = go_on_grows (leaf p) ps c (parts_height ps) (omega arith)
hand_grows (other_hand t) ps c = go_on_grows t ps c (max (height_of t) (parts_height ps)) (omega arith)

step_grows : (st : Build) (t : Lexeme) (c : Role) → Grows (highest st) (build_step st t c)
unfolding Grows
step_grows (ready ps) t c = open_grows ps t c (parts_height ps) (omega arith)
step_grows (name_on p ps) t role.Name = λ e. omega arith
step_grows (name_on p ps) t c = λ e. cc
step_grows (high_on lo ps) t role.Minus = λ e. omega arith
step_grows (high_on lo ps) t role.Number = λ e. omega arith
step_grows (high_on lo ps) t c = λ e. cc
step_grows (minus_high_on lo ps) t role.Number = λ e. omega arith
step_grows (minus_high_on lo ps) t c = λ e. cc
step_grows (next_on ps) t role.Opens = λ e. omega arith
step_grows (next_on ps) t c = λ e. cc
step_grows (branch_on bs ps) t role.Esac = λ e. omega arith
step_grows (branch_on bs ps) t c = open_grows (condition_part bs ∷ ps) t c (max (branches_height (branches_from bs)) (parts_height ps)) (omega arith)
step_grows (holds h ps) t c = hand_grows h ps c
step_grows broken t c = λ e. cc

-- an operand that may become longer has height 1, and each tree has
height_some : (t : Tree Path) → 1 ≤ height_of t
height_some (truth b) = omega arith
height_some (number n) = omega arith
height_some (leaf l) = omega arith
height_some (not_of a) = omega arith
height_some (negate a) = omega arith
height_some (next_of a) = omega arith
height_some (binary o a b) = omega arith
height_some (choice c a b) = omega arith
height_some (case_of bs) = omega arith
height_some (set_of ts) = omega arith
height_some (span lo hi) = omega arith

tallest_highest : (st : Build) → tallest st ≤ max 1 (highest st)
tallest_highest (holds (other_hand t) ps) = omega arith
tallest_highest (holds (number_hand n) ps) = omega arith
tallest_highest (holds (name_hand p) ps) = omega arith
tallest_highest st = omega arith

finished_tallest : (h : Held) (t : Tree Path) → finished h ≡ Some t → held_height h ≤ height_of t
finished_tallest h t e = go h.parts h.tree e
  where
    go : (ps : List Part) (u : Tree Path) → finished (record { tree = u; parts = ps }) ≡ Some t → max (height_of u) (parts_height ps) ≤ height_of t
    go [] u e = let same : u ≡ t = cc in subst (λ z. max (height_of u) 0 ≤ height_of z) same (omega arith)
    go (p ∷ ps) u e = cc

finish_tallest : (st : Build) (t : Tree Path) → finish st ≡ Some t → highest st ≤ height_of t
finish_tallest (holds (other_hand u) ps) t e = let a = reduce_grows at_expr u ps in let b = finished_tallest (reduce at_expr u ps) t e in omega (arith, a, b)
finish_tallest (holds (number_hand n) ps) t e = let a = reduce_grows at_expr (number (pos n)) ps in let b = finished_tallest (reduce at_expr (number (pos n)) ps) t e in omega (arith, a, b)
finish_tallest (holds (name_hand p) ps) t e = let a = reduce_grows at_expr (leaf p) ps in let b = finished_tallest (reduce at_expr (leaf p) ps) t e in omega (arith, a, b)
finish_tallest st t e = cc

finish_broken : (ts : List Lexeme) (t : Tree Path) → finish (build broken ts) ≡ Some t → ⊥
finish_broken [] t e = cc
finish_broken (x ∷ ts) t e = finish_broken ts t e

build_tallest : (st : Build) (ts : List Lexeme) (t : Tree Path) → finish (build st ts) ≡ Some t → highest st ≤ height_of t
unfolding Grows
build_tallest st [] t e = finish_tallest st t e
build_tallest st (x ∷ ts) t e =
    go (build_step st x (role_of x)) refl (build_tallest (build_step st x (role_of x)) ts t e) (step_grows st x (role_of x))
  where
    go : (new : Build) → build_step st x (role_of x) ≡ new → highest (build_step st x (role_of x)) ≤ height_of t → Grows (highest st) (build_step st x (role_of x)) → highest st ≤ height_of t
    go broken f a b =
        let stops : finish (build broken ts) ≡ Some t = subst (λ z. finish (build z ts) ≡ Some t) f e in absurd (finish_broken ts t stops)
    go new f a b =
        let some = height_some t in
        let grown = b (ap is_whole f) in
        let top = tallest_highest (build_step st x (role_of x)) in
        omega (arith, some, grown, top, a)

-- an operand that was made too high by what waits for it
pub reduced_high : (l : ℕ) (p : Part) (t : Tree Path) (ps : List Part) → MOST_HEIGHT < height_of (joined p t) → MOST_HEIGHT < held_height (reduce l (joined p t) ps)
reduced_high l p t ps h = let grows = reduce_grows l (joined p t) ps in omega (arith, h, grows)

pub left_high : (o : Op) (h : Held) → MOST_HEIGHT < held_height h → TooHigh (left_held o h)
left_high o h high = λ e. omega (arith, high)

pub asked_high : (h : Held) → MOST_HEIGHT < held_height h → TooHigh (asked_held h)
asked_high h high = λ e. omega (arith, high)

pub shut_high : (h : Held) (c : Role) → MOST_HEIGHT < held_height h → TooHigh (shut_held h c)
unfolding Grows
shut_high h c high = λ e. let grows = shut_grows h.tree h.parts c (suc MOST_HEIGHT) (omega (arith, high)) e in omega (arith, grows)

-- a list that makes too high a tree spells none within the limit
pub step_high : (st : Build) (x : Lexeme) (ts : List Lexeme) (t : Tree Path) → TooHigh (build_step st x (role_of x)) → finish (build st (x ∷ ts)) ≡ Some t → MOST_HEIGHT < height_of t
step_high st x ts t high e = go (build_step st x (role_of x)) refl high (build_tallest (build_step st x (role_of x)) ts t e)
  where
    go : (new : Build) → build_step st x (role_of x) ≡ new → TooHigh (build_step st x (role_of x)) → highest (build_step st x (role_of x)) ≤ height_of t → MOST_HEIGHT < height_of t
    go broken f high top = let stops : finish (build broken ts) ≡ Some t = subst (λ z. finish (build z ts) ≡ Some t) f e in absurd (finish_broken ts t stops)
    go new f high top =
        let here = high (ap is_whole f) in
        let bound = tallest_highest (build_step st x (role_of x)) in
        omega (arith, here, bound, top)

pub finish_high : (h : Hand) (ps : List Part) (t : Tree Path) → MOST_HEIGHT < held_height (reduce at_expr (value h) ps) → finish (holds h ps) ≡ Some t → MOST_HEIGHT < height_of t
finish_high h ps t high e = let top = finished_tallest (reduce at_expr (value h) ps) t e in omega (arith, high, top)

-- the same at a lexeme in the midst of a list
pub tree_high : (st : Build) (ts : List Lexeme) (i : ℕ) (x : Lexeme) (r : Role) (t : Tree Path) → i < length ts → x ≡ get_or ts i x → r ≡ role_of x →
    build st (drop i ts) ≡ build (ready []) ts → TooHigh (build_step st x r) → built ts ≡ Some t → MOST_HEIGHT < height_of t
tree_high st ts i x r t h is role path high e =
    let here : TooHigh (build_step st x (role_of x)) = subst (λ z. TooHigh (build_step st x z)) role high in
    let split : drop i ts ≡ x ∷ drop (i + 1) ts = drop_more ts i x h ∙ ap (λ z. z ∷ drop (i + 1) ts) (sym is) in
    step_high st x (drop (i + 1) ts) t here (ap finish (ap (build st) (sym split) ∙ path) ∙ e)

pub ruleset high_rules = (left_high, asked_high, shut_high)
