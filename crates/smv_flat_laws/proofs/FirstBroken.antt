-- Worked examples: the first broken rules of small programs.
use Rattle.std.proofs.Common.{◌≡◌, ℕ, zero, suc, ◌<◌, arith, true, false, [], ◌∷◌, Option, Some, None, refl, sym, ◌∙◌, ap, subst, inl}
use Rattle.std.specs.Prelude.{codes}
use Rattle.smv_language.specs.Language.{leaf, Text, Path, boolean, instance, var, define, init, ModuleTree, ProgramTree, Place, define_key, means_in, state}
use Rattle.smv_flat_laws.specs.Items.{a_declaration, a_definition, an_init, visits, NumberedItem, NumberedModule}
use Rattle.smv_flat_laws.specs.Looks.{Look, look_after, step_on, ComesBack, MeansNothing}
use Rattle.smv_flat_laws.specs.Rules.{Rule, number_of, no_main, main_has_parameters, double_module, double_name, module_loop, no_such_name, define_loop, the_program, a_header, an_item, a_visit, a_use, nothing, Needs, Breaks, IsKept, IsFirstBroken}
use Rattle.std.proofs.lemmas.Option.{none-some as never_some}

-- no module: rule 1 at item 0
empty_breaks : IsFirstBroken [] no_main 0
empty_breaks = record { before = []; site = the_program; after = _; in_order = refl; kept_before = tt; broken = refl; lowest = low; at_item = refl }
  where
    low : (other : Rule) → number_of other < 1 → Breaks [] other the_program → ⊥
    low no_main h b = omega (arith, h)
    low other h b = b

-- VAR x : boolean; x : boolean;
abbrev twice_main : ModuleTree
twice_main = record { name = codes "main"; formals = []; sections = var (record { name = codes "x"; what = boolean } ∷ record { name = codes "x"; what = boolean } ∷ []) ∷ [] }

abbrev twice : ProgramTree
twice = twice_main ∷ []

abbrev twice_numbered : NumberedModule
twice_numbered = record { number = 1; before = []; tree = twice_main }

abbrev first_x : NumberedItem
first_x = record { number = 2; before = []; item = a_declaration state (record { name = codes "x"; what = boolean }) }

abbrev second_x : NumberedItem
second_x = record { number = 3; before = a_declaration state (record { name = codes "x"; what = boolean }) ∷ []; item = a_declaration state (record { name = codes "x"; what = boolean }) }

program_kept : (m : ModuleTree) → (rule : Rule) → m.name ≡ codes "main" → Breaks (m ∷ []) rule the_program → ⊥
program_kept m no_main e b = let bad : false ≡ true = rw e at b in cc
program_kept m main_has_parameters e b = b
program_kept m other e b = b

twice_header : IsKept twice (a_header twice_numbered)
twice_header main_has_parameters b = cc
twice_header double_module b = cc
twice_header double_name b = cc
twice_header other b = b

twice_first : IsKept twice (an_item twice_numbered first_x)
twice_first double_name b = cc
twice_first other b = b

-- rule 4 at item 3
twice_breaks : IsFirstBroken twice double_name 3
twice_breaks = record {
  before = the_program ∷ a_header twice_numbered ∷ an_item twice_numbered first_x ∷ [];
  site = an_item twice_numbered second_x;
  after = _;
  in_order = refl;
  kept_before = ((λ rule b. program_kept twice_main rule refl b), (twice_header, (twice_first, tt)));
  broken = refl;
  lowest = low;
  at_item = refl;
}
  where
    low : (other : Rule) → number_of other < 4 → Breaks twice other (an_item twice_numbered second_x) → ⊥
    low double_name h b = omega (arith, h)
    low other h b = b

-- the first site of a program that breaks rule 7 is found by the walk: MODULE main VAR a : main;
abbrev round_main : ModuleTree
round_main = record { name = codes "main"; formals = []; sections = var (record { name = codes "a"; what = instance (codes "main") [] } ∷ []) ∷ [] }

round_visits : visits (round_main ∷ []) ≡ record { place = []; on_path = codes "main" ∷ []; number = 2; role = state; decl = record { name = codes "a"; what = instance (codes "main") [] } } ∷ []
round_visits = refl

round_breaks : Breaks (round_main ∷ []) module_loop (a_visit [] (record { place = []; on_path = codes "main" ∷ []; number = 2; role = state; decl = record { name = codes "a"; what = instance (codes "main") [] } }))
round_breaks = refl

-- MODULE M(p) MODULE main VAR a : M(a.p.v); the look-up of p comes back to p, and grows
abbrev grows : ProgramTree
grows =
    record { name = codes "M"; formals = codes "p" ∷ []; sections = [] } ∷
    record { name = codes "main"; formals = []; sections = var (record { name = codes "a"; what = instance (codes "M") (leaf (codes "a" ∷ codes "p" ∷ codes "v" ∷ []) ∷ []) } ∷ []) ∷ [] } ∷ []

grows_back : ComesBack grows (codes "a" ∷ []) (codes "p")
grows_back = (1, codes "v" ∷ [], refl)

-- MODULE main DEFINE d := d; e := d; VAR-free: d needs itself, e does not
abbrev selfish_main : ModuleTree
selfish_main = record {
  name = codes "main";
  formals = [];
  sections = define (record { name = codes "e"; value = leaf (codes "d" ∷ []) } ∷ record { name = codes "d"; value = leaf (codes "d" ∷ []) } ∷ []) ∷ [];
}

abbrev selfish : ProgramTree
selfish = selfish_main ∷ []

d_needs_d : Needs selfish (define_key [] (codes "d")) (define_key [] (codes "d"))
d_needs_d = record { place = []; written = leaf (codes "d" ∷ []); is = refl; named = inl ([], leaf (codes "d" ∷ []), (1, refl)) }

d_loops : Breaks selfish define_loop (a_use (record { place = []; module_name = codes "main" })
    (record { number = 3; before = a_definition (record { name = codes "e"; value = leaf (codes "d" ∷ []) }) ∷ []; item = a_definition (record { name = codes "d"; value = leaf (codes "d" ∷ []) }) }))
d_loops = (0, (define_key [] (codes "d"), d_needs_d, refl))

-- MODULE main INIT y
abbrev nameless_main : ModuleTree
nameless_main = record { name = codes "main"; formals = []; sections = init (leaf (codes "y" ∷ [])) ∷ [] }

abbrev nameless : ProgramTree
nameless = nameless_main ∷ []

abbrev place_of : Option Look → Place
place_of None = []
place_of (Some l) = l.place

abbrev first_of : Path → Text
first_of [] = []
first_of (x ∷ rest) = x

abbrev head_of : Option Look → Text
head_of None = []
head_of (Some l) = first_of l.name

y_means_nothing : MeansNothing nameless [] (codes "y" ∷ [])
y_means_nothing = record { no_meaning = never; no_loop = λ h. go h.0 h.1 h.2 h.3 h.4 h.5 }
  where
    never : (n : ℕ) → means_in n nameless [] (codes "y" ∷ []) ≡ None
    never zero = refl
    never (suc n) = refl

    ends : (n : ℕ) → look_after (suc n) nameless [] (codes "y" ∷ []) ≡ None
    ends zero = refl
    ends (suc n) = ap (step_on nameless) (ends n)

    go : (n : ℕ) (at : Place) (x : Text) (rest : Path) → look_after n nameless [] (codes "y" ∷ []) ≡ Some (record { place = at; name = x ∷ rest }) → ComesBack nameless at x → ⊥
    go zero at x rest e b =
        let same : x ≡ codes "y" = ap head_of (sym e) in
        let here : at ≡ [] = ap place_of (sym e) in
        back (subst (λ y. ComesBack nameless [] y) same (subst (λ a. ComesBack nameless a x) here b))
      where
        back : ComesBack nameless [] (codes "y") → ⊥
        back c = never_some _ (sym (ends c.0) ∙ c.2)
    go (suc n) at x rest e b = never_some _ (sym (ends n) ∙ e)

-- rule 8 at its INIT
y_breaks : Breaks nameless no_such_name (a_use (record { place = []; module_name = codes "main" }) (record { number = 2; before = []; item = an_init (leaf (codes "y" ∷ [])) }))
y_breaks = inl (nothing y_means_nothing)
