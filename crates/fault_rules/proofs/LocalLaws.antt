-- What names are in their modules, by the lists that the code keeps.
use Rattle.std.proofs.Common.{◌≡◌, ℕ, suc, Bool, true, false, List, [], ◌∷◌, ◌++◌, Some, map, refl, sym, ◌∙◌, ap}
use Rattle.std.specs.Prelude.{if◌then◌else◌, flat_map, is_some, ◌||◌}
use Rattle.std.specs.List.{list_any}
use Rattle.smv_language.specs.declared.program.Member.{Member}
use Rattle.smv_language.specs.declared.program.Member.TheVariants as member
use Rattle.smv_language.specs.Language.{Text, DeclaredTree, boolean, range, members, instance, DeclTree, DefineTree, SectionTree, var, ivar, frozen as frozen_section, define, constants, assign, init, invar, trans, ModuleTree, ProgramTree, same_text, is_among, first_with, Role, state, input, frozen_role, Kind, find_module, kind_in, kind_in_decls, kind_in_defines, kind_in_sections, kind_after_formals, formal_from, kind_declared, kind_at, is_symbol_of_type, is_symbol_of_members, is_missing, opposite}
use Rattle.smv_language.specs.Scope.{a_define}
use Rattle.fault_rules.specs.Rules.{is_name_of_decls, is_name_of_defines, is_name_of_section, is_name_of_module, is_program_name}
use Rattle.fault_rules.specs.KeyedLists.{with_texts, with_entries}
use Rattle.fault_rules.specs.Locals.{LocalTree, formal, other, seen_kind, declared_local, formal_entry, define_entry, section_locals, locals_of, scopes_of, local_in}
use Rattle.fault_rules.specs.Names.{member_names, type_names, decl_names, define_name, section_names, module_names, program_names}
use Rattle.fault_rules.proofs.KeyedLaws.{first_entries, among_texts}
use Rattle.smv_language.proofs.AmongLaws.{among_joined}

module _ (x : Text) (rest : List (Text × LocalTree)) where
  formals_first : (i : ℕ) (fs : List Text) (k : Kind) → first_with rest x ≡ seen_kind k →
      first_with (map formal_entry fs ++ rest) x ≡ seen_kind (kind_after_formals (formal_from i fs x) k)
  formals_first i [] k h = h
  formals_first i (f ∷ fs) k h = go (same_text f x) (formals_first (suc i) fs k h)
    where
      go : (b : Bool) → first_with (map formal_entry fs ++ rest) x ≡ seen_kind (kind_after_formals (formal_from (suc i) fs x) k) →
          (if b then Some formal else first_with (map formal_entry fs ++ rest) x) ≡ seen_kind (kind_after_formals (if b then Some i else formal_from (suc i) fs x) k)
      go true more = refl
      go false more = more

  state_seen : (what : DeclaredTree) → Some (declared_local what) ≡ seen_kind (kind_declared state what)
  state_seen boolean = refl
  state_seen (range lo hi) = refl
  state_seen (members ms) = refl
  state_seen (instance m actuals) = refl

  input_seen : (what : DeclaredTree) → Some other ≡ seen_kind (kind_declared input what)
  input_seen boolean = refl
  input_seen (range lo hi) = refl
  input_seen (members ms) = refl
  input_seen (instance m actuals) = refl

  frozen_seen : (what : DeclaredTree) → Some other ≡ seen_kind (kind_declared frozen_role what)
  frozen_seen boolean = refl
  frozen_seen (range lo hi) = refl
  frozen_seen (members ms) = refl
  frozen_seen (instance m actuals) = refl

  decls_first : (role : Role) (entry : DeclTree → LocalTree) → ((d : DeclTree) → Some (entry d) ≡ seen_kind (kind_declared role d.what)) → (ds : List DeclTree) (k : Kind) →
      first_with rest x ≡ seen_kind k → first_with (map (λ d. (d.name, entry d)) ds ++ rest) x ≡ seen_kind (kind_in_decls role ds x k)
  decls_first role entry one [] k h = h
  decls_first role entry one (d ∷ ds) k h = go (same_text d.name x) (decls_first role entry one ds k h)
    where
      go : (b : Bool) → first_with (map (λ d. (d.name, entry d)) ds ++ rest) x ≡ seen_kind (kind_in_decls role ds x k) →
          (if b then Some (entry d) else first_with (map (λ d. (d.name, entry d)) ds ++ rest) x) ≡ seen_kind (if b then kind_declared role d.what else kind_in_decls role ds x k)
      go true more = one d
      go false more = more

  defines_first : (ds : List DefineTree) (k : Kind) → first_with rest x ≡ seen_kind k → first_with (map define_entry ds ++ rest) x ≡ seen_kind (kind_in_defines ds x k)
  defines_first [] k h = h
  defines_first (d ∷ ds) k h = go (same_text d.name x) (defines_first ds k h)
    where
      go : (b : Bool) → first_with (map define_entry ds ++ rest) x ≡ seen_kind (kind_in_defines ds x k) →
          (if b then Some other else first_with (map define_entry ds ++ rest) x) ≡ seen_kind (if b then a_define d.value else kind_in_defines ds x k)
      go true more = refl
      go false more = more

module _ (x : Text) where
  sections_first : (ss : List SectionTree) → first_with (flat_map section_locals ss) x ≡ seen_kind (kind_in_sections ss x)
  sections_first [] = refl
  sections_first (var ds ∷ ss) = decls_first x (flat_map section_locals ss) state (λ d. declared_local d.what) (λ d. state_seen x [] d.what) ds (kind_in_sections ss x) (sections_first ss)
  sections_first (ivar ds ∷ ss) = decls_first x (flat_map section_locals ss) input (λ d. other) (λ d. input_seen x [] d.what) ds (kind_in_sections ss x) (sections_first ss)
  sections_first (frozen_section ds ∷ ss) = decls_first x (flat_map section_locals ss) frozen_role (λ d. other) (λ d. frozen_seen x [] d.what) ds (kind_in_sections ss x) (sections_first ss)
  sections_first (define ds ∷ ss) = defines_first x (flat_map section_locals ss) ds (kind_in_sections ss x) (sections_first ss)
  sections_first (constants xs ∷ ss) = sections_first ss
  sections_first (assign xs ∷ ss) = sections_first ss
  sections_first (init t ∷ ss) = sections_first ss
  sections_first (invar t ∷ ss) = sections_first ss
  sections_first (trans t ∷ ss) = sections_first ss

  -- what a name is in a module
  pub local_is : (m : ModuleTree) → first_with (with_entries [] (locals_of m)) x ≡ seen_kind (kind_in m x)
  local_is m = first_entries [] (locals_of m) x ∙ formals_first x (flat_map section_locals m.sections) 0 m.formals (kind_in_sections m.sections x) (sections_first m.sections)

  scopes_first : (p : ProgramTree) (owner : Text) → local_in (first_with (scopes_of p) owner) x ≡ seen_kind (kind_at (find_module p owner) x)
  scopes_first [] owner = refl
  scopes_first (m ∷ p) owner = go (same_text m.name owner) (scopes_first p owner)
    where
      go : (b : Bool) → local_in (first_with (scopes_of p) owner) x ≡ seen_kind (kind_at (find_module p owner) x) →
          local_in (if b then Some (with_entries [] (locals_of m)) else first_with (scopes_of p) owner) x ≡ seen_kind (kind_at (if b then Some m else find_module p owner) x)
      go true more = local_is m
      go false more = more

  -- and in the module of a name
  pub local_there : (p : ProgramTree) (owner : Text) → local_in (first_with (with_entries [] (scopes_of p)) owner) x ≡ seen_kind (kind_at (find_module p owner) x)
  local_there p owner = ap (λ o. local_in o x) (first_entries [] (scopes_of p) owner) ∙ scopes_first p owner

-- whether a module has the name
missing_first : (p : ProgramTree) (owner : Text) → is_missing (find_module p owner) ≡ opposite (is_some (first_with (scopes_of p) owner))
missing_first [] owner = refl
missing_first (m ∷ p) owner = go (same_text m.name owner) (missing_first p owner)
  where
    go : (b : Bool) → is_missing (find_module p owner) ≡ opposite (is_some (first_with (scopes_of p) owner)) →
        is_missing (if b then Some m else find_module p owner) ≡ opposite (is_some (if b then Some (with_entries [] (locals_of m)) else first_with (scopes_of p) owner))
    go true more = refl
    go false more = more

pub missing_is : (p : ProgramTree) (owner : Text) → is_missing (find_module p owner) ≡ opposite (is_some (first_with (with_entries [] (scopes_of p)) owner))
missing_is p owner = missing_first p owner ∙ ap (λ o. opposite (is_some o)) (sym (first_entries [] (scopes_of p) owner))

-- the names of a program
module _ (x : Text) where
  flat_names : {A : Type 0} (f : A → List Text) (test : A → Bool) → ((a : A) → is_among (f a) x ≡ test a) → (xs : List A) → is_among (flat_map f xs) x ≡ list_any test xs
  flat_names f test one [] = refl
  flat_names f test one (a ∷ xs) = among_joined (f a) (flat_map f xs) x ∙ (λ i. one a i || flat_names f test one xs i)

  members_have : (ms : List Member) → is_among (flat_map member_names ms) x ≡ is_symbol_of_members ms x
  members_have [] = refl
  members_have (member.Number n ∷ ms) = members_have ms
  members_have (member.Symbol y ∷ ms) = ap (λ b. same_text y x || b) (members_have ms)

  type_has : (what : DeclaredTree) → is_among (type_names what) x ≡ is_symbol_of_type what x
  type_has boolean = refl
  type_has (range lo hi) = refl
  type_has (members ms) = members_have ms
  type_has (instance m actuals) = refl

  decls_have : (ds : List DeclTree) → is_among (flat_map decl_names ds) x ≡ is_name_of_decls ds x
  decls_have ds = flat_names decl_names (λ d. same_text d.name x || is_symbol_of_type d.what x) (λ d. ap (λ b. same_text d.name x || b) (type_has d.what)) ds

  defines_have : (ds : List DefineTree) → is_among (map define_name ds) x ≡ is_name_of_defines ds x
  defines_have [] = refl
  defines_have (d ∷ ds) = ap (λ b. same_text d.name x || b) (defines_have ds)

  section_has : (s : SectionTree) → is_among (section_names s) x ≡ is_name_of_section x s
  section_has (var ds) = decls_have ds
  section_has (ivar ds) = decls_have ds
  section_has (frozen_section ds) = decls_have ds
  section_has (define ds) = defines_have ds
  section_has (constants xs) = refl
  section_has (assign xs) = refl
  section_has (init t) = refl
  section_has (invar t) = refl
  section_has (trans t) = refl

  module_has : (m : ModuleTree) → is_among (module_names m) x ≡ is_name_of_module x m
  module_has m =
      ap (λ b. same_text m.name x || b) (among_joined m.formals (flat_map section_names m.sections) x
      ∙ ap (λ b. is_among m.formals x || b) (flat_names section_names (is_name_of_section x) section_has m.sections))

  pub program_has : (p : ProgramTree) → is_among (with_texts [] (program_names p)) x ≡ is_program_name p x
  program_has p = among_texts [] (program_names p) x ∙ flat_names module_names (is_name_of_module x) module_has p
