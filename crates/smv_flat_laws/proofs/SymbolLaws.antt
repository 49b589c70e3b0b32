-- The symbols by first appearance are the program's symbols.
use Rattle.std.proofs.Common.{◌≡◌, Bool, true, false, ◌||◌, List, [], ◌∷◌, ◌++◌, refl, sym, ◌∙◌, ap}
use Rattle.std.specs.Prelude.{map, flat_map, if◌then◌else◌}
use Rattle.smv_language.specs.declared.program.Member.{Member}
use Rattle.smv_language.specs.declared.program.Member.TheVariants as member
use Rattle.smv_language.specs.Language.{Text, DeclaredTree, boolean, range, members, instance, DeclTree, DefineTree, AssignmentTree, SectionTree, var, ivar, frozen, define, constants, assign, init, invar, trans, ModuleTree, ProgramTree, same_text, is_among, Role, state, input, frozen_role, is_symbol_of_members, is_symbol_of_type, is_symbol_of_decls, is_symbol_of_sections, is_symbol}
use Rattle.smv_flat_laws.specs.Items.{Item, a_declaration, a_definition, an_assignment, items_of_section, items_of}
use Rattle.smv_flat_laws.specs.Model.{symbols_of_members, symbols_of_type, symbols_of_item, first_appearances, symbols_of}
use Rattle.smv_language.proofs.OneTree.{same_text_equal}
use Rattle.smv_language.proofs.BoolLaws.{or_assoc}
use Rattle.smv_language.proofs.AmongLaws.{among_joined}

exchanged : (a b : Bool) → (a || b) ≡ (b || a)
exchanged true true = refl
exchanged true false = refl
exchanged false true = refl
exchanged false false = refl

-- one that is there already adds none
absorbed : (seen y : Bool) (rest : Bool) → (y ≡ true → seen ≡ true) → (seen || (y || rest)) ≡ (seen || rest)
absorbed true y rest h = refl
absorbed false false rest h = refl
absorbed false true rest h = let bad : false ≡ true = h refl in cc

same_among : (xs : List Text) (y x : Text) → is_among xs y ≡ true → same_text y x ≡ true → is_among xs x ≡ true
same_among xs y x there same = ap (is_among xs) (sym (same_text_equal y x same)) ∙ there

pub appearances_among : (seen xs : List Text) (x : Text) → is_among (first_appearances seen xs) x ≡ (is_among seen x || is_among xs x)
appearances_among seen [] x = exchanged false (is_among seen x)
appearances_among seen (y ∷ xs) x = by_seen (is_among seen y) refl (appearances_among seen xs x) (appearances_among (seen ++ y ∷ []) xs x)
  where
    by_seen : (b : Bool) → is_among seen y ≡ b → is_among (first_appearances seen xs) x ≡ (is_among seen x || is_among xs x) →
        is_among (first_appearances (seen ++ y ∷ []) xs) x ≡ (is_among (seen ++ y ∷ []) x || is_among xs x) →
        is_among (first_appearances (if is_among seen y then seen else seen ++ y ∷ []) xs) x ≡ (is_among seen x || (same_text y x || is_among xs x))
    by_seen true t kept more = rw t (kept ∙ sym (absorbed (is_among seen x) (same_text y x) (is_among xs x) (same_among seen y x t)))
    by_seen false t kept more =
        rw t
        (more
        ∙ ap (λ b. b || is_among xs x) (among_joined seen (y ∷ []) x ∙ ap (λ b. is_among seen x || b) (exchanged (same_text y x) false))
        ∙ or_assoc (is_among seen x) (same_text y x) (is_among xs x))

members_among : (ms : List Member) (x : Text) → is_among (symbols_of_members ms) x ≡ is_symbol_of_members ms x
members_among [] x = refl
members_among (member.Number n ∷ ms) x = members_among ms x
members_among (member.Symbol y ∷ ms) x = ap (λ b. same_text y x || b) (members_among ms x)

type_among : (what : DeclaredTree) (x : Text) → is_among (symbols_of_type what) x ≡ is_symbol_of_type what x
type_among boolean x = refl
type_among (range lo hi) x = refl
type_among (members ms) x = members_among ms x
type_among (instance m actuals) x = refl

abbrev among_items : List Item → Text → Bool
among_items is x = is_among (flat_map symbols_of_item is) x

decls_among : (role : Role) (ds : List DeclTree) (rest : List Item) (x : Text) → among_items (map (a_declaration role) ds ++ rest) x ≡ (is_symbol_of_decls ds x || among_items rest x)
decls_among role [] rest x = refl
decls_among role (d ∷ ds) rest x =
    among_joined (symbols_of_type d.what) (flat_map symbols_of_item (map (a_declaration role) ds ++ rest)) x
    ∙ ap (λ b. b || among_items (map (a_declaration role) ds ++ rest) x) (type_among d.what x)
    ∙ ap (λ b. is_symbol_of_type d.what x || b) (decls_among role ds rest x)
    ∙ sym (or_assoc (is_symbol_of_type d.what x) (is_symbol_of_decls ds x) (among_items rest x))

defines_among : (ds : List DefineTree) (rest : List Item) (x : Text) → among_items (map a_definition ds ++ rest) x ≡ among_items rest x
defines_among [] rest x = refl
defines_among (d ∷ ds) rest x = defines_among ds rest x

assigns_among : (xs : List AssignmentTree) (rest : List Item) (x : Text) → among_items (map an_assignment xs ++ rest) x ≡ among_items rest x
assigns_among [] rest x = refl
assigns_among (a ∷ xs) rest x = assigns_among xs rest x

sections_among : (ss : List SectionTree) (x : Text) → among_items (flat_map items_of_section ss) x ≡ is_symbol_of_sections ss x
sections_among [] x = refl
sections_among (var ds ∷ ss) x = decls_among state ds (flat_map items_of_section ss) x ∙ ap (λ b. is_symbol_of_decls ds x || b) (sections_among ss x)
sections_among (ivar ds ∷ ss) x = decls_among input ds (flat_map items_of_section ss) x ∙ ap (λ b. is_symbol_of_decls ds x || b) (sections_among ss x)
sections_among (frozen ds ∷ ss) x = decls_among frozen_role ds (flat_map items_of_section ss) x ∙ ap (λ b. is_symbol_of_decls ds x || b) (sections_among ss x)
sections_among (define ds ∷ ss) x = defines_among ds (flat_map items_of_section ss) x ∙ sections_among ss x
sections_among (constants xs ∷ ss) x = among_joined xs (flat_map symbols_of_item (flat_map items_of_section ss)) x ∙ ap (λ b. is_among xs x || b) (sections_among ss x)
sections_among (assign xs ∷ ss) x = assigns_among xs (flat_map items_of_section ss) x ∙ sections_among ss x
sections_among (init e ∷ ss) x = sections_among ss x
sections_among (invar e ∷ ss) x = sections_among ss x
sections_among (trans e ∷ ss) x = sections_among ss x

modules_among : (p : ProgramTree) (x : Text) → is_among (flat_map (λ (m : ModuleTree). flat_map symbols_of_item (items_of m)) p) x ≡ is_symbol p x
modules_among [] x = refl
modules_among (m ∷ ms) x =
    among_joined (flat_map symbols_of_item (items_of m)) (flat_map (λ (m : ModuleTree). flat_map symbols_of_item (items_of m)) ms) x
    ∙ ap (λ b. b || is_among (flat_map (λ (m : ModuleTree). flat_map symbols_of_item (items_of m)) ms) x) (sections_among m.sections x)
    ∙ ap (λ b. is_symbol_of_sections m.sections x || b) (modules_among ms x)

pub symbols_among : (p : ProgramTree) (x : Text) → is_among (symbols_of p) x ≡ is_symbol p x
symbols_among p x = appearances_among [] (flat_map (λ (m : ModuleTree). flat_map symbols_of_item (items_of m)) p) x ∙ modules_among p x
