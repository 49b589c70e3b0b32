-- Worked examples: other rules broken at a place.
use Rattle.std.proofs.Common.{true, List, [], ◌∷◌, refl, inl, inr}
use Rattle.std.specs.Prelude.{codes}
use Rattle.smv_language.specs.declared.program.Moment.TheVariants.{Always, First}
use Rattle.smv_language.specs.Language.{leaf, next_of, boolean, instance, var, ivar, define, assign, init, ModuleTree, ProgramTree, state, define_key}
use Rattle.smv_language.specs.Tree.{truth as is_truth}
use Rattle.smv_flat_laws.specs.Items.{Item, an_assignment, an_init, main_instance}
use Rattle.smv_flat_laws.specs.Rules.{main_has_parameters, double_module, no_such_module, wrong_count, not_a_target, double_assign, next_here, input_here, a_header, a_visit, a_use, Breaks}

abbrev with_formal : ModuleTree
with_formal = record { name = codes "main"; formals = codes "p" ∷ []; sections = [] }

two_breaks : Breaks (with_formal ∷ []) main_has_parameters (a_header (record { number = 1; before = []; tree = with_formal }))
two_breaks = refl

three_breaks : Breaks (with_formal ∷ with_formal ∷ []) double_module (a_header (record { number = 2; before = with_formal ∷ []; tree = with_formal }))
three_breaks = refl

-- MODULE main VAR a : M; with no M, and with MODULE M(p)
abbrev calls : ModuleTree
calls = record { name = codes "main"; formals = []; sections = var (record { name = codes "a"; what = instance (codes "M") [] } ∷ []) ∷ [] }

five_breaks : Breaks (calls ∷ []) no_such_module (a_visit [] (record { place = []; on_path = codes "main" ∷ []; number = 2; role = state; decl = record { name = codes "a"; what = instance (codes "M") [] } }))
five_breaks = refl

six_breaks : Breaks (calls ∷ record { name = codes "M"; formals = codes "p" ∷ []; sections = [] } ∷ []) wrong_count
    (a_visit [] (record { place = []; on_path = codes "main" ∷ []; number = 2; role = state; decl = record { name = codes "a"; what = instance (codes "M") [] } }))
six_breaks = refl

-- MODULE main VAR x : boolean; IVAR i : boolean; DEFINE d := i; ASSIGN init(x) := TRUE; x := TRUE; init(d) := TRUE; INIT next(x) INIT i INIT d
abbrev busy_main : ModuleTree
busy_main = record {
  name = codes "main";
  formals = [];
  sections =
      var (record { name = codes "x"; what = boolean } ∷ []) ∷
      ivar (record { name = codes "i"; what = boolean } ∷ []) ∷
      define (record { name = codes "d"; value = leaf (codes "i" ∷ []) } ∷ []) ∷
      assign (
      record { when = First; target = codes "x" ∷ []; value = is_truth true } ∷
      record { when = Always; target = codes "x" ∷ []; value = is_truth true } ∷
      record { when = First; target = codes "d" ∷ []; value = is_truth true } ∷ []) ∷
      init (next_of (leaf (codes "x" ∷ []))) ∷ init (leaf (codes "i" ∷ [])) ∷ init (leaf (codes "d" ∷ [])) ∷ [];
}

abbrev busy : ProgramTree
busy = busy_main ∷ []

nine_breaks : (before : List Item) → Breaks busy not_a_target (a_use main_instance (record { number = 7; before = before; item = an_assignment (record { when = First; target = codes "d" ∷ []; value = is_truth true }) }))
nine_breaks before = refl

ten_breaks : Breaks busy double_assign (a_use main_instance (record {
  number = 6;
  before = an_assignment (record { when = First; target = codes "x" ∷ []; value = is_truth true }) ∷ [];
  item = an_assignment (record { when = Always; target = codes "x" ∷ []; value = is_truth true });
}))
ten_breaks = inl (refl, refl)

twelve_breaks : (before : List Item) → Breaks busy next_here (a_use main_instance (record { number = 8; before = before; item = an_init (next_of (leaf (codes "x" ∷ []))) }))
twelve_breaks before = refl

-- an input itself, and through a define
thirteen_breaks : (before : List Item) → Breaks busy input_here (a_use main_instance (record { number = 9; before = before; item = an_init (leaf (codes "i" ∷ [])) }))
thirteen_breaks before = inl (inl ([], codes "i", (1, refl), refl))

thirteen_through : (before : List Item) → Breaks busy input_here (a_use main_instance (record { number = 10; before = before; item = an_init (leaf (codes "d" ∷ [])) }))
thirteen_through before = inl (inr (record {
  first = define_key [] (codes "d");
  place = [];
  written = leaf (codes "i" ∷ []);
  means = (1, refl);
  steps = 0;
  last = define_key [] (codes "d");
  leads = refl;
  last_place = [];
  last_written = leaf (codes "i" ∷ []);
  is = refl;
  names_input = inl ([], codes "i", (1, refl), refl);
}))
