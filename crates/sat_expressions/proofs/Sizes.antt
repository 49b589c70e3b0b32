-- Each part of an expression has fewer nodes than the whole.
use Rattle.std.proofs.Common.{◌≡◌, ℕ, ◌+◌, ◌*◌, ◌<◌, ◌≤◌, List, [], ◌∷◌, ◌++◌, length, get_or, take, drop, take-append-drop, refl, ap, arith}
use Rattle.std.specs.declared.boxed.Box.{Box}
use Rattle.std.specs.declared.alloc.Global.{Global}
use Rattle.smv_language.specs.declared.expr.Op.{Op}
use Rattle.smv_language.specs.declared.expr.Expr.{Expr}
use Rattle.smv_language.specs.declared.expr.Expr.TheVariants.{Not, Negate, Next, Binary, Choice, Case, SetOf}
use Rattle.smv_language.specs.Language.{size_of, trees_size, branches_size, trees_of, branches_of, trees_map, branches_map, leaf_of, flat_tree}
use Rattle.smv_language.specs.declared.model.Flat.{Flat}
use Rattle.sat_expressions.proofs.Forms.{form_not, form_negate, form_next, form_binary, form_choice, form_case, form_set}
use Rattle.sat_expressions.proofs.Members.{members_more}
use Rattle.sat_expressions.proofs.BranchLoop.{branches_more}

abbrev pub nodes : Expr Flat → ℕ
nodes e = size_of (flat_tree e)

abbrev pub members_nodes : List (Expr Flat) → ℕ
members_nodes ts = trees_size (trees_map leaf_of (trees_of ts))

abbrev pub branches_nodes : List (Expr Flat × Expr Flat) → ℕ
branches_nodes bs = branches_size (branches_map leaf_of (branches_of bs))

pub in_not : (e d : Expr Flat) (a : Box (Expr Flat) Global) → d ≡ a.value → e ≡ Not a → 2 * nodes d < 2 * nodes e
in_not e d a f is = let size : nodes e ≡ nodes d + 1 = ap size_of (form_not e d a f is) in omega (arith, size)

pub in_negate : (e d : Expr Flat) (a : Box (Expr Flat) Global) → d ≡ a.value → e ≡ Negate a → 2 * nodes d < 2 * nodes e
in_negate e d a f is = let size : nodes e ≡ nodes d + 1 = ap size_of (form_negate e d a f is) in omega (arith, size)

pub in_next : (e d : Expr Flat) (a : Box (Expr Flat) Global) → d ≡ a.value → e ≡ Next a → 2 * nodes d < 2 * nodes e
in_next e d a f is = let size : nodes e ≡ nodes d + 1 = ap size_of (form_next e d a f is) in omega (arith, size)

pub on_left : (e d : Expr Flat) (o : Op) (a b : Box (Expr Flat) Global) → d ≡ a.value → e ≡ Binary o a b → 2 * nodes d < 2 * nodes e
on_left e d o a b f is = let size : nodes e ≡ nodes d + nodes b.value + 1 = ap size_of (form_binary e d b.value o a b f refl is) in omega (arith, size)

pub on_right : (e d : Expr Flat) (o : Op) (a b : Box (Expr Flat) Global) → d ≡ b.value → e ≡ Binary o a b → 2 * nodes d < 2 * nodes e
on_right e d o a b f is = let size : nodes e ≡ nodes a.value + nodes d + 1 = ap size_of (form_binary e a.value d o a b refl f is) in omega (arith, size)

pub in_condition : (e d : Expr Flat) (c a b : Box (Expr Flat) Global) → d ≡ c.value → e ≡ Choice c a b → 2 * nodes d < 2 * nodes e
in_condition e d c a b f is =
    let size : nodes e ≡ nodes d + nodes a.value + nodes b.value + 1 = ap size_of (form_choice e d a.value b.value c a b f refl refl is) in omega (arith, size)

pub in_first : (e d : Expr Flat) (c a b : Box (Expr Flat) Global) → d ≡ a.value → e ≡ Choice c a b → 2 * nodes d < 2 * nodes e
in_first e d c a b f is =
    let size : nodes e ≡ nodes c.value + nodes d + nodes b.value + 1 = ap size_of (form_choice e c.value d b.value c a b refl f refl is) in omega (arith, size)

pub in_second : (e d : Expr Flat) (c a b : Box (Expr Flat) Global) → d ≡ b.value → e ≡ Choice c a b → 2 * nodes d < 2 * nodes e
in_second e d c a b f is =
    let size : nodes e ≡ nodes c.value + nodes a.value + nodes d + 1 = ap size_of (form_choice e c.value a.value d c a b refl refl f is) in omega (arith, size)

pub in_case : (e : Expr Flat) (bs cs : List (Expr Flat × Expr Flat)) → cs ≡ bs → e ≡ Case bs → 2 * branches_nodes cs + 1 < 2 * nodes e
in_case e bs cs f is = let size : nodes e ≡ branches_nodes cs + 1 = ap size_of (form_case e bs cs f is) in omega (arith, size)

pub in_set : (e : Expr Flat) (ts us : List (Expr Flat)) → us ≡ ts → e ≡ SetOf ts → 2 * members_nodes us + 1 < 2 * nodes e
in_set e ts us f is = let size : nodes e ≡ members_nodes us + 1 = ap size_of (form_set e ts us f is) in omega (arith, size)

-- ---- one of several

members_joined : (xs ys : List (Expr Flat)) → members_nodes (xs ++ ys) ≡ members_nodes xs + members_nodes ys
members_joined [] ys = omega arith
members_joined (x ∷ xs) ys =
    let rest : members_nodes (xs ++ ys) ≡ members_nodes xs + members_nodes ys = members_joined xs ys in
    let all : members_nodes (x ∷ (xs ++ ys)) ≡ nodes x + members_nodes (xs ++ ys) = refl in
    let first : members_nodes (x ∷ xs) ≡ nodes x + members_nodes xs = refl in
    omega (arith, rest, all, first)

branches_joined : (xs ys : List (Expr Flat × Expr Flat)) → branches_nodes (xs ++ ys) ≡ branches_nodes xs + branches_nodes ys
branches_joined [] ys = omega arith
branches_joined (x ∷ xs) ys =
    let rest : branches_nodes (xs ++ ys) ≡ branches_nodes xs + branches_nodes ys = branches_joined xs ys in
    let all : branches_nodes (x ∷ (xs ++ ys)) ≡ nodes x.0 + nodes x.1 + branches_nodes (xs ++ ys) = refl in
    let first : branches_nodes (x ∷ xs) ≡ nodes x.0 + nodes x.1 + branches_nodes xs = refl in
    omega (arith, rest, all, first)

pub of_members : (ts : List (Expr Flat)) (i : ℕ) (x : Expr Flat) → i < length ts → x ≡ get_or ts i x → 2 * nodes x < 2 * members_nodes ts + 1
of_members ts i x h is =
    let parts : members_nodes (take i ts ++ drop i ts) ≡ members_nodes ts = ap members_nodes (take-append-drop i ts) in
    let both : members_nodes (take i ts ++ drop i ts) ≡ members_nodes (take i ts) + members_nodes (drop i ts) = members_joined (take i ts) (drop i ts) in
    let here : members_nodes (drop i ts) ≡ nodes x + members_nodes (drop (i + 1) ts) = ap trees_size (members_more ts i x h is) in
    omega (arith, parts, both, here)

branch_here : (bs : List (Expr Flat × Expr Flat)) (i : ℕ) (b : Expr Flat × Expr Flat) → i < length bs → b ≡ get_or bs i b → nodes b.0 + nodes b.1 ≤ branches_nodes bs
branch_here bs i b h is =
    let parts : branches_nodes (take i bs ++ drop i bs) ≡ branches_nodes bs = ap branches_nodes (take-append-drop i bs) in
    let both : branches_nodes (take i bs ++ drop i bs) ≡ branches_nodes (take i bs) + branches_nodes (drop i bs) = branches_joined (take i bs) (drop i bs) in
    let here : branches_nodes (drop i bs) ≡ nodes b.0 + nodes b.1 + branches_nodes (drop (i + 1) bs) = ap branches_size (branches_more bs i b h is) in
    omega (arith, parts, both, here)

pub of_conditions : (bs : List (Expr Flat × Expr Flat)) (i : ℕ) (b : Expr Flat × Expr Flat) → i < length bs → b ≡ get_or bs i b → 2 * nodes b.0 < 2 * branches_nodes bs + 1
of_conditions bs i b h is = omega (arith, branch_here bs i b h is)

pub of_values : (bs : List (Expr Flat × Expr Flat)) (i : ℕ) (b : Expr Flat × Expr Flat) → i < length bs → b ≡ get_or bs i b → 2 * nodes b.1 < 2 * branches_nodes bs + 1
of_values bs i b h is = omega (arith, branch_here bs i b h is)
