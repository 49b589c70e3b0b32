-- Worked examples: values by computation, and the traces of a lamp.
use Rattle.std.proofs.Common.{◌≡◌, ℕ, zero, suc, Bool, true, false, List, [], ◌∷◌, Option, Some, None, refl, sym, ◌∙◌}
use Rattle.std.specs.Prelude.{pos, negsuc, codes, IsTrue}
use Rattle.smv_language.specs.declared.expr.Op.TheVariants as op
use Rattle.smv_language.specs.declared.program.Moment.TheVariants.{First, After}
use Rattle.smv_language.specs.Tree.{truth as is_truth, number as is_number, leaf, binary, choice, set_of, no_tree, tree_then}
use Rattle.smv_language.specs.ProgramTree.{Text, Path, boolean, range, instance, var, frozen, define, assign, ProgramTree, ModuleTree}
use Rattle.smv_language.specs.Values.{apply, Value, truth, number, Values, one, either, no_value, has}
use Rattle.smv_language.specs.Texts.{same_text}
use Rattle.smv_language.specs.Scope.{Place, a_variable_at, an_expression_at, actual_key, means_in, module_at, module_of_kind, kind_in}
use Rattle.smv_language.specs.Text.{program_text}
use Rattle.smv_language.specs.May.{Valuation, May, name_values}
use Rattle.smv_language.specs.Evaluate.{evaluate}
use Rattle.smv_language.proofs.ValueLaws.{same_value_equal}
use Rattle.smv_language.specs.Trace.{IsTrace, IsFirst, IsMoment, InDomains, IsInvariant, DomainSection, in_domain, IsStep, IsInstance, Each, EachPair, FirstSection, EachSection, StepSection}

-- MODULE M(p) VAR s : boolean; n : 0..3; DEFINE d := p ? {n, 2} : n; MODULE main VAR a : M(b.s); b : M(TRUE);
abbrev relay : ModuleTree
relay = record {
  name = codes "M";
  formals = codes "p" ∷ [];
  sections =
      var (record { name = codes "s"; what = boolean } ∷ record { name = codes "n"; what = range (pos 0) (pos 3) } ∷ []) ∷
      define (record {
        name = codes "d";
        value = choice (leaf (codes "p" ∷ [])) (set_of (tree_then (leaf (codes "n" ∷ [])) (tree_then (is_number (pos 2)) no_tree))) (leaf (codes "n" ∷ []));
      } ∷ []) ∷ [];
}

abbrev two : ProgramTree
two =
    relay ∷
    record {
      name = codes "main";
      formals = [];
      sections =
          var (
          record { name = codes "a"; what = instance (codes "M") (leaf (codes "b" ∷ codes "s" ∷ []) ∷ []) } ∷
          record { name = codes "b"; what = instance (codes "M") (is_truth true ∷ []) } ∷ []) ∷ [];
    } ∷ []

at_a : Place
at_a = codes "a" ∷ []

-- the formal p of a means the variable s of b, and that of b an expression at main
p_of_a : means_in 5 two (codes "a" ∷ []) (codes "p" ∷ []) ≡ Some (a_variable_at (codes "b" ∷ []) (codes "s"))
p_of_a = refl

p_of_b : means_in 5 two (codes "b" ∷ []) (codes "p" ∷ []) ≡ Some (an_expression_at (actual_key (codes "b" ∷ []) 0) [] (is_truth true))
p_of_b = refl

-- a.d means the define of a, which asks through the formal p for b.s: two instances and a define
d_of_a : name_values 5 two [] (λ at x. truth true) (λ at x. truth true) (codes "a" ∷ codes "d" ∷ []) ≡ Some (either (one (truth true)) (either (one (number (pos 2))) no_value))
d_of_a = refl

two_may : (v : Valuation) → v (codes "b" ∷ []) (codes "s") ≡ truth true → v (codes "a" ∷ []) (codes "n") ≡ number (pos 1) → May two [] v v (leaf (codes "a" ∷ codes "d" ∷ [])) (number (pos 2))
two_may v s n = (5, either (one (v (codes "a" ∷ []) (codes "n"))) (either (one (number (pos 2))) no_value), rw s refl, rw n refl)

-- MODULE main VAR on : boolean; ASSIGN init(on) := TRUE; next(on) := on;
abbrev lamp_main : ModuleTree
lamp_main = record {
  name = codes "main";
  formals = [];
  sections =
      var (record { name = codes "on"; what = boolean } ∷ []) ∷
      assign (
      record { when = First; target = codes "on" ∷ []; value = is_truth true } ∷
      record { when = After; target = codes "on" ∷ []; value = leaf (codes "on" ∷ []) } ∷ []) ∷ [];
}

abbrev lamp : ProgramTree
lamp = lamp_main ∷ []

abbrev IsLit : Valuation → Type 0
IsLit v = v [] (codes "on") ≡ truth true

-- no declaration of the lamp is an instance
no_instance : (x : Text) → module_of_kind lamp (kind_in lamp_main x) ≡ None
no_instance x = go (same_text (codes "on") x) refl
  where
    go : (b : Bool) → same_text (codes "on") x ≡ b → module_of_kind lamp (kind_in lamp_main x) ≡ None
    go true e = rw e refl
    go false e = rw e refl

-- main is the only instance
only_main : (at : Place) (m : ModuleTree) → IsInstance lamp at m → (at ≡ []) × (m ≡ lamp_main)
only_main [] m h = (refl, cc)
only_main (x ∷ at) m h = go (module_at lamp at) refl (λ m' e. (only_main at m' e).1)
  where
    go : (o : Option ModuleTree) → module_at lamp at ≡ o → ((m' : ModuleTree) → IsInstance lamp at m' → m' ≡ lamp_main) → (x ∷ at ≡ []) × (m ≡ lamp_main)
    go None e above = let none : None ≡ Some m = rw e at h in cc
    go (Some m') e above =
        let found : module_of_kind lamp (kind_in m' x) ≡ Some m = rw e at h in
        let in_main : module_of_kind lamp (kind_in lamp_main x) ≡ Some m = rw (above m' e) at found in
        let none : None ≡ Some m = rw no_instance at in_main in cc

-- a value among one is that one
is_that : (vs : Values) (w v : Value) → Some (one w) ≡ Some vs → IsTrue (has vs v) → w ≡ v
is_that vs w v e h = let same : one w ≡ vs = cc in same_value_equal w v (rw (← same) at h)

-- the first valuation of a trace of the lamp has it on
lit_first : (v : Valuation) (more : List Valuation) → IsTrace lamp (v ∷ more) → IsLit v
lit_first v more t = let may : May lamp [] v v (is_truth true) (v [] (codes "on")) = (t.first [] lamp_main refl).1.0.0 in sym (is_that _ _ _ may.2 may.3)

-- a lamp that is on stays on
lit_next : (v w : Valuation) → IsStep lamp v w → IsLit v → IsLit w
lit_next v w s h = go may.0 may.1 may.2 may.3
  where
    may : May lamp [] v w (leaf (codes "on" ∷ [])) (w [] (codes "on"))
    may = (s [] lamp_main refl).1.0.1.0

    go : (n : ℕ) (vs : Values) → evaluate (name_values n lamp [] v w) (name_values n lamp [] w w) (leaf (codes "on" ∷ [])) ≡ Some vs → IsTrue (has vs (w [] (codes "on"))) → IsLit w
    go zero vs e among = cc
    go (suc n) vs e among = sym (is_that vs _ _ e among) ∙ h

-- on in a first moment and staying on is all that a trace of the lamp asks
on_is_boolean : (v : Valuation) → IsLit v → IsTrue (in_domain boolean (v [] (codes "on")))
on_is_boolean v h = rw h refl

lit_domains : (v : Valuation) → IsLit v → InDomains lamp v
lit_domains v h at m i = go at m (only_main at m i).0 (only_main at m i).1
  where
    go : (at : Place) (m : ModuleTree) → at ≡ [] → m ≡ lamp_main → Each (DomainSection at v) m.sections
    go at m ea em = rw (ea, em) ((on_is_boolean v h, tt), (tt, tt))

lit_invariant : (v : Valuation) → IsInvariant lamp v
lit_invariant v at m i = go at m (only_main at m i).0 (only_main at m i).1
  where
    go : (at : Place) (m : ModuleTree) → at ≡ [] → m ≡ lamp_main → Each (EachSection lamp at v) m.sections
    go at m ea em = rw (ea, em) ((tt, ((tt, (tt, tt)), tt)))

lit_moment : (v : Valuation) → IsLit v → IsMoment lamp v
lit_moment v h = (lit_domains v h, lit_invariant v)

lit_is_first : (v : Valuation) → IsLit v → IsFirst lamp v
lit_is_first v h at m i = go at m (only_main at m i).0 (only_main at m i).1
  where
    go : (at : Place) (m : ModuleTree) → at ≡ [] → m ≡ lamp_main → Each (FirstSection lamp at v) m.sections
    go at m ea em = rw (ea, em) ((tt, (((0, one (truth true), refl, rw h refl), (tt, tt)), tt)))

lit_is_step : (v w : Valuation) → IsLit v → IsLit w → IsStep lamp v w
lit_is_step v w h k at m i = go at m (only_main at m i).0 (only_main at m i).1
  where
    go : (at : Place) (m : ModuleTree) → at ≡ [] → m ≡ lamp_main → Each (StepSection lamp at v w) m.sections
    go at m ea em = rw (ea, em) ((tt, ((tt, ((1, one (v [] (codes "on")), refl, rw (h, k) refl), tt)), tt)))

lit_moments : (trace : List Valuation) → Each IsLit trace → Each (IsMoment lamp) trace
lit_moments [] h = tt
lit_moments (v ∷ more) h = (lit_moment v h.0, lit_moments more h.1)

lit_steps : (trace : List Valuation) → Each IsLit trace → EachPair (IsStep lamp) trace
lit_steps [] h = tt
lit_steps (v ∷ []) h = tt
lit_steps (v ∷ w ∷ more) h = (lit_is_step v w h.0 h.1.0, lit_steps (w ∷ more) h.1)

-- the lists that are not empty and have the lamp on throughout are its traces, and there are no others
pub lit_trace : (v : Valuation) (more : List Valuation) → Each IsLit (v ∷ more) → IsTrace lamp (v ∷ more)
lit_trace v more h = record { first = lit_is_first v h.0; moments = lit_moments (v ∷ more) h; steps = lit_steps (v ∷ more) h }

lit_on : (v : Valuation) (more : List Valuation) → IsLit v → EachPair (IsStep lamp) (v ∷ more) → Each IsLit (v ∷ more)
lit_on v [] h s = (h, tt)
lit_on v (w ∷ more) h s = (h, lit_on w more (lit_next v w s.0 h) s.1)

pub trace_lit : (v : Valuation) (more : List Valuation) → IsTrace lamp (v ∷ more) → Each IsLit (v ∷ more)
trace_lit v more t = lit_on v more (lit_first v more t) t.steps

-- `/` and `mod` truncate toward zero: -7 / 2 is -3, and -7 mod 2 is -1
quotient : apply op.Over (number (negsuc 6)) (number (pos 2)) ≡ Some (number (negsuc 2))
quotient = refl

remainder : apply op.Mod (number (negsuc 6)) (number (pos 2)) ≡ Some (number (negsuc 0))
remainder = refl

-- a set under `in`: 1 in {1, 2}
within_set :
    evaluate {L = Path} (λ name. None) (λ name. None) (binary op.Within (is_number (pos 1)) (set_of (tree_then (is_number (pos 1)) (tree_then (is_number (pos 2)) no_tree)))) ≡
    Some (one (truth true))
within_set = refl

-- MODULE main FROZENVAR f : boolean;
abbrev fixed_main : ModuleTree
fixed_main = record { name = codes "main"; formals = []; sections = frozen (record { name = codes "f"; what = boolean } ∷ []) ∷ [] }

abbrev fixed : ProgramTree
fixed = fixed_main ∷ []

-- a frozen variable keeps its value: no trace has it TRUE and then FALSE
pub frozen_keeps : (v w : Valuation) (more : List Valuation) → IsTrace fixed (v ∷ w ∷ more) → v [] (codes "f") ≡ truth true → w [] (codes "f") ≡ truth false → ⊥
frozen_keeps v w more t before now =
    let same : w [] (codes "f") ≡ v [] (codes "f") = (t.steps.0 [] fixed_main refl).0.0 in
    let clash : truth true ≡ truth false = sym before ∙ sym same ∙ now in cc

-- the text of the lamp
lamp_text : program_text lamp ≡ codes "MODULE main\nVAR\n  on : boolean;\nASSIGN\n  init(on) := TRUE;\n  next(on) := on;\n"
lamp_text = refl
