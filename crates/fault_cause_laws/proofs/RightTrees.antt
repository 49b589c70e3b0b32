-- Expressions of a model that name what it has, break no rule, and have a class.
use Rattle.std.proofs.Common.{◌≡◌, ℕ, ◌<◌, ◌≤◌, ◌^◌, Bool, true, false, lt-ltb, [], ◌∷◌, ◌++◌, length, Some, pos, refl, ◌∙◌, ap, arith}
use Rattle.std.specs.Prelude.{slice_get, flat_map, not, ◌||◌}
use Rattle.std.proofs.lemmas.Option.{slice_get_within as within_of}
use Rattle.smv_language.specs.declared.expr.Op.TheVariants as op
use Rattle.smv_language.specs.declared.program.Member.TheVariants as member
use Rattle.smv_language.specs.Language.{Tree, leaf, not_of, next_of, binary, choice, Text, DeclaredTree, members, same_text, FlatLeaf, flat_variable, flat_symbol, FlatVariable, FlatModel}
use Rattle.smv_flat_laws.specs.History.{Mode, added, stands_now}
use Rattle.smv_type_laws.specs.Intervals.{just, fits_number}
use Rattle.smv_type_laws.specs.ExpressionKinds.{Class, truth_class, number_class, symbol_class, Kind, too_wide, mixed_enum, double_member, rule_if, wide, one_value, unlike_first, hull_of, Judged}
use Rattle.smv_type_laws.specs.DeclaredKinds.{member_kind, judged_declared}
use Rattle.smv_type_laws.specs.Models.{kind_at, kind_of_leaf, judged_in}
use Rattle.smv_type_laws.specs.Laws.{ReadsOwn}
use Rattle.sat_encoding_laws.proofs.HistoryTyped.{got_judged}
use Rattle.fault_woven_laws.specs.Modes.{HasSymbols}
use Rattle.fault_woven_laws.proofs.Rightly.{Rightly, condition_right, not_right, connective_right, order_right, same_right, choice_right, set_right}
use Rattle.fault_woven_laws.proofs.Numbers.{numbers_in, both_fit}
use Rattle.fault_cause_laws.specs.StagedModel.{value_of, whole, only, zero_or_one}
use Rattle.fault_cause_laws.proofs.AddedKinds.{IsRightFormula, Grows}

-- ---- types

-- a number up to 200 is one of a signed word
pub fits_small : (n : ℕ) → n ≤ 200 → fits_number (pos n) ≡ true
fits_small n h = let below : n < 2 ^ 31 = omega (arith, h) in lt-ltb n (2 ^ 31) below

-- a type of two different symbols breaks no rule
pub two_symbols_right : (x y : Text) → same_text x y ≡ false → (judged_declared (members (member.Symbol x ∷ member.Symbol y ∷ []))).broken ≡ []
two_symbols_right x y e =
    ap
    (λ b. (one_value
    (unlike_first mixed_enum (member_kind (member.Symbol x) ∷ member_kind (member.Symbol y) ∷ [])
    ++ (rule_if ((b || false) || (false || false)) double_member ++ flat_map (λ (k : Kind). wide k.interval) (member_kind (member.Symbol x) ∷ member_kind (member.Symbol y) ∷ [])))
    symbol_class (hull_of (member_kind (member.Symbol x) ∷ member_kind (member.Symbol y) ∷ [])) []).broken) e

-- the number is that of a variable of this type
pub record HasType (n : FlatModel) (i : ℕ) (d : DeclaredTree) : Type 0 where
  pub variable : FlatVariable
  pub is_variable : slice_get n.variables i ≡ Some variable
  pub declared : variable.declared ≡ d

-- the mode's variable has symbols, and the mode is one
pub record HasMode (n : FlatModel) (f : Mode) : Type 0 where
  pub symbols : HasSymbols n f
  pub is_symbol : f.symbol < length n.symbols

pub symbols_grown : (n n' : FlatModel) → Grows n n' → (f : Mode) → HasSymbols n f → HasSymbols n' f
symbols_grown n n' g f h = record { variable = h.variable; is_variable = g.variables f.variable h.variable h.is_variable; symbols = h.symbols }

pub mode_grown : (n n' : FlatModel) → Grows n n' → (f : Mode) → HasMode n f → HasMode n' f
mode_grown n n' g f h =
    let a = h.is_symbol in
    let b = g.symbols in
    record { symbols = symbols_grown n n' g f h.symbols; is_symbol = omega (arith, a, b) }

pub type_grown : (n n' : FlatModel) → Grows n n' → (i : ℕ) (d : DeclaredTree) → HasType n i d → HasType n' i d
type_grown n n' g i d h = record { variable = h.variable; is_variable = g.variables i h.variable h.is_variable; declared = h.declared }

-- ---- expressions

pub record IsRightTree (n : FlatModel) (sets : Bool) (c : Class) (e : Tree FlatLeaf) : Type 0 where
  pub own : ReadsOwn n e
  pub right : Rightly c (judged_in n sets e)

module _ (n : FlatModel) where
  -- as a condition
  pub as_formula : (e : Tree FlatLeaf) → IsRightTree n false truth_class e → IsRightFormula n (added e)
  as_formula e h = record { own = h.own; right = condition_right (judged_in n false e) h.right }

  pub variable_kind : (i : ℕ) (d : DeclaredTree) → HasType n i d → kind_of_leaf n (flat_variable i) ≡ (judged_declared d).kind
  variable_kind i d h = ap kind_at (got_judged n.variables i h.variable h.is_variable) ∙ ap (λ t. (judged_declared t).kind) h.declared

  pub variable_right : (sets : Bool) (c : Class) (i : ℕ) (d : DeclaredTree) → HasType n i d → (judged_declared d).kind.class ≡ c → IsRightTree n sets c (value_of i)
  variable_right sets c i d h e =
      record {
        own = within_of n.variables i h.variable h.is_variable;
        right = record { kept = refl; class = ap (λ (k : Kind). k.class) (variable_kind i d h) ∙ e };
      }

  pub symbol_right : (sets : Bool) (i : ℕ) → i < length n.symbols → IsRightTree n sets symbol_class (leaf (flat_symbol i))
  symbol_right sets i h = record { own = h; right = record { kept = refl; class = refl } }

  pub literal : (sets : Bool) (k : ℕ) → k ≤ 200 → judged_in n sets (whole k) ≡ numbers_in (just (pos k))
  literal sets k h =
      let e = fits_small k h in
      ap (λ b. one_value (rule_if (not b) too_wide) number_class (Some (just (pos k))) []) (both_fit (pos k) (pos k) e e)

  pub number_right : (sets : Bool) (k : ℕ) → k ≤ 200 → IsRightTree n sets number_class (whole k)
  number_right sets k h = record { own = tt; right = record { kept = ap (λ (j : Judged). j.broken) (literal sets k h); class = refl } }

  pub not_tree : (sets : Bool) (a : Tree FlatLeaf) → IsRightTree n false truth_class a → IsRightTree n sets truth_class (not_of a)
  not_tree sets a h = record { own = h.own; right = not_right (judged_in n false a) h.right }

  pub next_tree : (sets : Bool) (c : Class) (a : Tree FlatLeaf) → IsRightTree n false c a → IsRightTree n sets c (next_of a)
  next_tree sets c a h = record { own = h.own; right = h.right }

  pub and_tree : (sets : Bool) (a b : Tree FlatLeaf) → IsRightTree n false truth_class a → IsRightTree n false truth_class b → IsRightTree n sets truth_class (binary op.And a b)
  and_tree sets a b h g = record { own = (h.own, g.own); right = connective_right (judged_in n false a) (judged_in n false b) h.right g.right }

  pub or_tree : (sets : Bool) (a b : Tree FlatLeaf) → IsRightTree n false truth_class a → IsRightTree n false truth_class b → IsRightTree n sets truth_class (binary op.Or a b)
  or_tree sets a b h g = record { own = (h.own, g.own); right = connective_right (judged_in n false a) (judged_in n false b) h.right g.right }

  pub implies_tree : (sets : Bool) (a b : Tree FlatLeaf) → IsRightTree n false truth_class a → IsRightTree n false truth_class b → IsRightTree n sets truth_class (binary op.Implies a b)
  implies_tree sets a b h g = record { own = (h.own, g.own); right = connective_right (judged_in n false a) (judged_in n false b) h.right g.right }

  pub least_tree : (sets : Bool) (a b : Tree FlatLeaf) → IsRightTree n false number_class a → IsRightTree n false number_class b → IsRightTree n sets truth_class (binary op.AtLeast a b)
  least_tree sets a b h g = record { own = (h.own, g.own); right = order_right (judged_in n false a) (judged_in n false b) h.right g.right }

  pub most_tree : (sets : Bool) (a b : Tree FlatLeaf) → IsRightTree n false number_class a → IsRightTree n false number_class b → IsRightTree n sets truth_class (binary op.AtMost a b)
  most_tree sets a b h g = record { own = (h.own, g.own); right = order_right (judged_in n false a) (judged_in n false b) h.right g.right }

  pub equal_tree : (sets : Bool) (c : Class) (a b : Tree FlatLeaf) → IsRightTree n false c a → IsRightTree n false c b → IsRightTree n sets truth_class (binary op.Equal a b)
  equal_tree sets c a b h g = record { own = (h.own, g.own); right = same_right c (judged_in n false a) (judged_in n false b) h.right g.right }

  pub within_tree : (sets : Bool) (c : Class) (a b : Tree FlatLeaf) → IsRightTree n false c a → IsRightTree n true c b → IsRightTree n sets truth_class (binary op.Within a b)
  within_tree sets c a b h g = record { own = (h.own, g.own); right = same_right c (judged_in n false a) (judged_in n true b) h.right g.right }

  pub choice_tree : (c : Class) (p a b : Tree FlatLeaf) → IsRightTree n false truth_class p → IsRightTree n true c a → IsRightTree n true c b → IsRightTree n true c (choice p a b)
  choice_tree c p a b q h g =
      record { own = (q.own, h.own, g.own); right = choice_right c (judged_in n false p) (judged_in n true a) (judged_in n true b) q.right h.right g.right }

  pub only_tree : (c : Class) (e : Tree FlatLeaf) → IsRightTree n false c e → IsRightTree n true c (only e)
  only_tree c e h = record { own = (h.own, tt); right = set_right c (judged_in n false e ∷ []) (h.right, tt) h.right.class }

  pub two_numbers_tree : IsRightTree n true number_class zero_or_one
  two_numbers_tree = record { own = (tt, (tt, tt)); right = record { kept = refl; class = refl } }

  pub mode_right : (sets : Bool) (f : Mode) → HasMode n f → IsRightTree n sets symbol_class (value_of f.variable)
  mode_right sets f h =
      let s = h.symbols in
      record {
        own = within_of n.variables f.variable s.variable s.is_variable;
        right = record { kept = refl; class = ap (λ (k : Kind). k.class) (ap kind_at (got_judged n.variables f.variable s.variable s.is_variable)) ∙ s.symbols };
      }

  -- so that it may stand
  pub stands_tree : (sets : Bool) (f : Mode) → HasMode n f → IsRightTree n sets truth_class (stands_now f)
  stands_tree sets f h = equal_tree sets symbol_class (value_of f.variable) (leaf (flat_symbol f.symbol)) (mode_right false f h) (symbol_right false f.symbol h.is_symbol)
