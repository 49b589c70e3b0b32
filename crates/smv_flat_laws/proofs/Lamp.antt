-- Worked example: a program that is accepted, with its flat model: VAR on : boolean; DEFINE d := !on; ASSIGN init(on) := TRUE; next(on) := d;
use Rattle.std.proofs.Common.{◌≡◌, ℕ, zero, suc, arith, Bool, true, false, [], ◌∷◌, Option, Some, None, refl, sym, subst, inl, inr}
use Rattle.std.specs.Prelude.{codes, slice_get, if◌then◌else◌}
use Rattle.smv_language.specs.declared.expr.Op.TheVariants as op
use Rattle.smv_language.specs.declared.program.Moment.TheVariants.{First, After}
use Rattle.smv_language.specs.Language.{leaf, not_of, next_of, binary, Text, Formula, boolean, var, define, assign, ModuleTree, ProgramTree, Place, state, Key, define_key, a_variable_at, an_expression_at, an_instance_at, Means, means_in, Each, AtSome, FlatLeaf, flat_variable, flat_definition, FlatFormula, FlatModel, same_text}
use Rattle.smv_language.specs.Tree.{truth as is_truth}
use Rattle.smv_flat_laws.specs.NameResolution.{leaves_in, has_next, IsResolved, IsBefore, Definition, IsLeafOf, Resolver, IsSound, AreDefinitions}
use Rattle.smv_flat_laws.specs.Items.{Item, a_declaration, a_definition, an_assignment, NumberedModule, main_instance}
use Rattle.smv_flat_laws.specs.Rules.{no_main, main_has_parameters, double_module, double_name, no_such_module, wrong_count, module_loop, no_such_name, not_a_target, double_assign, define_loop, next_here, too_many, the_program, a_header, an_item, a_visit, a_use, HasNoValue, nothing, only_an_instance, Needs, IsKept, IsAccepted}
use Rattle.smv_flat_laws.specs.Model.{IsFlatOf, comes, no_more, one_more}
use Rattle.smv_language.proofs.OneTree.{same_text_equal}
use Rattle.std.proofs.lemmas.Option.{none-some as never_some}

abbrev lamp_main : ModuleTree
lamp_main = record {
  name = codes "main";
  formals = [];
  sections =
      var (record { name = codes "on"; what = boolean } ∷ []) ∷
      define (record { name = codes "d"; value = not_of (leaf (codes "on" ∷ [])) } ∷ []) ∷
      assign (
      record { when = First; target = codes "on" ∷ []; value = is_truth true } ∷
      record { when = After; target = codes "on" ∷ []; value = leaf (codes "d" ∷ []) } ∷ []) ∷ [];
}

abbrev lamp : ProgramTree
lamp = lamp_main ∷ []

abbrev model : FlatModel
model = record {
  instances = record { place = []; module_name = codes "main" } ∷ [];
  variables = record { place = []; name = codes "on"; role = state; declared = boolean; item = 2; number = 0 } ∷ [];
  definitions = record { value = not_of (leaf (flat_variable 0)); item = 3; number = 0 } ∷ [];
  symbols = [];
  at_first = record { value = binary op.Within (leaf (flat_variable 0)) (is_truth true); item = 4; number = 0 } ∷ [];
  at_each = [];
  at_step = record { value = binary op.Within (next_of (leaf (flat_variable 0))) (leaf (flat_definition 0)); item = 5; number = 0 } ∷ [];
}

abbrev definition_d : Definition
definition_d = record { key = define_key [] (codes "d"); place = []; written = not_of (leaf (codes "on" ∷ [])) }

abbrev by_name : Text → Option FlatLeaf
by_name x = if same_text x (codes "on") then Some (flat_variable 0) else if same_text x (codes "d") then Some (flat_definition 0) else None

abbrev resolver : Resolver
resolver [] (x ∷ []) = by_name x
resolver _ _ = None

on_is : IsLeafOf lamp model (definition_d ∷ []) [] (codes "on" ∷ []) (flat_variable 0)
on_is = (a_variable_at [] (codes "on"), (1, refl), (record { place = []; name = codes "on"; role = state; declared = boolean; item = 2; number = 0 }, refl, refl, refl))

d_is : IsLeafOf lamp model (definition_d ∷ []) [] (codes "d" ∷ []) (flat_definition 0)
d_is = (an_expression_at (define_key [] (codes "d")) [] (not_of (leaf (codes "on" ∷ []))), (1, refl), refl)

one_leaf : (a b : FlatLeaf) → Some a ≡ Some b → a ≡ b
one_leaf a b e = cc

sound_one : (x : Text) (l : FlatLeaf) → by_name x ≡ Some l → IsLeafOf lamp model (definition_d ∷ []) [] (x ∷ []) l
sound_one x l h = at_on (same_text x (codes "on")) refl
  where
    at_d : (b : Bool) → same_text x (codes "on") ≡ false → same_text x (codes "d") ≡ b → IsLeafOf lamp model (definition_d ∷ []) [] (x ∷ []) l
    at_d true n e =
        let found : Some (flat_definition 0) ≡ Some l = rw (n, e) at h in
        subst (λ y. IsLeafOf lamp model (definition_d ∷ []) [] (y ∷ []) l) (sym (same_text_equal x (codes "d") e))
        (subst (IsLeafOf lamp model (definition_d ∷ []) [] (codes "d" ∷ [])) (one_leaf (flat_definition 0) l found) d_is)
    at_d false n e = let found : None ≡ Some l = rw (n, e) at h in absurd (never_some l found)

    at_on : (b : Bool) → same_text x (codes "on") ≡ b → IsLeafOf lamp model (definition_d ∷ []) [] (x ∷ []) l
    at_on true e =
        let found : Some (flat_variable 0) ≡ Some l = rw e at h in
        subst (λ y. IsLeafOf lamp model (definition_d ∷ []) [] (y ∷ []) l) (sym (same_text_equal x (codes "on") e))
        (subst (IsLeafOf lamp model (definition_d ∷ []) [] (codes "on" ∷ [])) (one_leaf (flat_variable 0) l found) on_is)
    at_on false e = at_d (same_text x (codes "d")) e refl

sound : IsSound lamp model (definition_d ∷ []) resolver
sound [] (x ∷ []) l h = sound_one x l h
sound [] [] l h = absurd (never_some l h)
sound [] (x ∷ y ∷ more) l h = absurd (never_some l h)
sound (z ∷ at) [] l h = absurd (never_some l h)
sound (z ∷ at) (x ∷ more) l h = absurd (never_some l h)

one_definition : (d e : Definition) → Some d ≡ Some e → d ≡ e
one_definition d e h = cc

definitions : AreDefinitions lamp model (definition_d ∷ []) resolver
definitions zero d h =
    subst (λ (e : Definition). (f : FlatFormula) × (slice_get model.definitions zero ≡ Some f) × IsResolved (resolver e.place) e.written f.value
    × Each (IsBefore zero) (leaves_in f.value) × (has_next e.written ≡ false))
    (one_definition definition_d d h) (record { value = not_of (leaf (flat_variable 0)); item = 3; number = 0 }, refl, refl, (tt, tt), refl)
definitions (suc k) d h = absurd (never_some d h)

pub lamp_is_flat : IsFlatOf lamp model
lamp_is_flat = record {
  resolver = resolver;
  written = definition_d ∷ [];
  sound = sound;
  instances = refl;
  variables = (record { place = refl; name = refl; role = refl; declared = refl; item = refl; number = (record { place = []; module_name = codes "main" }, refl, refl) }, tt);
  symbols = refl;
  order = one_more (comes {needs = []} refl refl (a_variable_at [] (codes "on"), [], (1, refl), refl, refl) no_more) no_more;
  placed = (
    record {
      expression = refl;
      root = (record { key = define_key [] (codes "d"); item = 3 }, (0, refl), refl, refl);
      number = (record { place = []; module_name = codes "main" }, refl, refl);
    },
    tt,
  );
  definitions = definitions;
  at_first = (
    record {
      tree = record {
        number = 0;
        is_number = record { variable = record { place = []; name = codes "on"; role = state; declared = boolean; item = 2; number = 0 }; is = refl; same_place = refl; same_name = refl };
        value = is_truth true;
        resolved = refl;
        is = refl;
      };
      item = refl;
      number = (record { place = []; module_name = codes "main" }, refl, refl);
    },
    tt,
  );
  at_each = tt;
  at_step = (
    record {
      tree = record {
        number = 0;
        is_number = record { variable = record { place = []; name = codes "on"; role = state; declared = boolean; item = 2; number = 0 }; is = refl; same_place = refl; same_name = refl };
        value = leaf (flat_definition 0);
        resolved = refl;
        is = refl;
      };
      item = refl;
      number = (record { place = []; module_name = codes "main" }, refl, refl);
    },
    tt,
  );
}

-- The lamp is accepted.
abbrev lamp_numbered : NumberedModule
lamp_numbered = record { number = 1; before = []; tree = lamp_main }

abbrev item_on : Item
item_on = a_declaration state (record { name = codes "on"; what = boolean })

abbrev item_d : Item
item_d = a_definition (record { name = codes "d"; value = not_of (leaf (codes "on" ∷ [])) })

abbrev item_first : Item
item_first = an_assignment (record { when = First; target = codes "on" ∷ []; value = is_truth true })

abbrev item_after : Item
item_after = an_assignment (record { when = After; target = codes "on" ∷ []; value = leaf (codes "d" ∷ []) })

program_kept : IsKept lamp the_program
program_kept no_main b = cc
program_kept other b = b

header_kept : IsKept lamp (a_header lamp_numbered)
header_kept main_has_parameters b = cc
header_kept double_module b = cc
header_kept double_name b = cc
header_kept other b = b

visit_kept : IsKept lamp (a_visit [] (record { place = []; on_path = codes "main" ∷ []; number = 2; role = state; decl = record { name = codes "on"; what = boolean } }))
visit_kept no_such_module b = cc
visit_kept wrong_count b = cc
visit_kept module_loop b = cc
visit_kept too_many b = omega (arith, b)
visit_kept other b = b

on_use : IsKept lamp (a_use main_instance (record { number = 2; before = []; item = item_on }))
on_use next_here b = cc
on_use other b = b

has_on : HasNoValue lamp [] (codes "on" ∷ []) → ⊥
has_on (nothing m) = never_some (a_variable_at [] (codes "on")) (sym (m.no_meaning 1))
has_on (only_an_instance inside m) = at_depth m.0 m.1
  where
    at_depth : (n : ℕ) → means_in n lamp [] (codes "on" ∷ []) ≡ Some (an_instance_at inside) → ⊥
    at_depth zero e = cc
    at_depth (suc n) e = cc

has_d : HasNoValue lamp [] (codes "d" ∷ []) → ⊥
has_d (nothing m) = never_some (an_expression_at (define_key [] (codes "d")) [] (not_of (leaf (codes "on" ∷ [])))) (sym (m.no_meaning 1))
has_d (only_an_instance inside m) = at_depth m.0 m.1
  where
    at_depth : (n : ℕ) → means_in n lamp [] (codes "d" ∷ []) ≡ Some (an_instance_at inside) → ⊥
    at_depth zero e = cc
    at_depth (suc n) e = cc

-- d needs no definition
abbrev NamesKey : Key → Option (Place × Formula) → Type 0
NamesKey key None = ⊥
NamesKey key (Some at_e) = AtSome (λ name. (at : Place) × (e : Formula) × Means lamp at_e.0 name (an_expression_at key at e)) (leaves_in at_e.1)

d_needs_none : (key : Key) → Needs lamp (define_key [] (codes "d")) key → ⊥
d_needs_none key n = from_names (subst (NamesKey key) (sym n.is) n.named)
  where
    at_depth : (k : ℕ) (at : Place) (e : Formula) → means_in k lamp [] (codes "on" ∷ []) ≡ Some (an_expression_at key at e) → ⊥
    at_depth zero at e h = cc
    at_depth (suc k) at e h = cc

    from_names : NamesKey key (Some ([], not_of (leaf (codes "on" ∷ [])))) → ⊥
    from_names (inl x) = at_depth x.2.0 x.0 x.1 x.2.1
    from_names (inr x) = x

d_use : IsKept lamp (a_use main_instance (record { number = 3; before = item_on ∷ []; item = item_d }))
d_use no_such_name (inl b) = has_on b
d_use no_such_name (inr b) = b
d_use define_loop b = d_needs_none b.1.0 b.1.1
d_use next_here b = cc
d_use other b = b

first_use : IsKept lamp (a_use main_instance (record { number = 4; before = item_on ∷ item_d ∷ []; item = item_first }))
first_use not_a_target b = cc
first_use double_assign (inl b) = b
first_use double_assign (inr (inl b)) = b
first_use double_assign (inr (inr b)) = b
first_use next_here b = cc
first_use other b = b

after_use : IsKept lamp (a_use main_instance (record { number = 5; before = item_on ∷ item_d ∷ item_first ∷ []; item = item_after }))
after_use no_such_name (inl b) = has_d b
after_use no_such_name (inr b) = b
after_use not_a_target b = cc
after_use double_assign (inl b) = b
after_use double_assign (inr (inl b)) = b
after_use double_assign (inr (inr (inl b))) = let bad : false ≡ true = b.1 in cc
after_use double_assign (inr (inr (inr b))) = b
after_use next_here b = cc
after_use other b = b

on_kept : IsKept lamp (an_item lamp_numbered (record { number = 2; before = []; item = item_on }))
on_kept double_name b = cc
on_kept other b = b

d_kept : IsKept lamp (an_item lamp_numbered (record { number = 3; before = item_on ∷ []; item = item_d }))
d_kept double_name b = cc
d_kept other b = b

first_kept : IsKept lamp (an_item lamp_numbered (record { number = 4; before = item_on ∷ item_d ∷ []; item = item_first }))
first_kept double_name b = cc
first_kept other b = b

after_kept : IsKept lamp (an_item lamp_numbered (record { number = 5; before = item_on ∷ item_d ∷ item_first ∷ []; item = item_after }))
after_kept double_name b = cc
after_kept other b = b

pub lamp_accepted : IsAccepted lamp
lamp_accepted = (program_kept, (header_kept, (on_kept, (d_kept, (first_kept, (after_kept, (visit_kept, (on_use, (d_use, (first_use, (after_use, tt)))))))))))
