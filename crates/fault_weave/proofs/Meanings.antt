-- Names mean in the woven program what they mean in the program.
use Rattle.std.proofs.Common.{◌≡◌, ◌⊎◌, inl, inr, ℕ, zero, suc, Bool, true, false, List, [], ◌∷◌, ◌++◌, Option, Some, None, refl, sym, ◌∙◌, ap, subst}
use Rattle.std.specs.Prelude.{map, option_map, ◌||◌, if◌then◌else◌, codes}
use Rattle.smv_language.specs.Language.{Text, Path, Formula, SectionTree, var, ivar, frozen, define, constants, assign, init, invar, trans, ModuleTree, ProgramTree, IsType, Place, Key, actual_key, Kind, a_formal, a_variable, an_instance, undeclared, kind_in_sections, kind_in, kind_at, module_of_kind, module_at, actual_of_kind, is_symbol, is_symbol_of_sections, is_symbol_of_decls, Meaning, LookUp, plain_name, through_plain, through_actual, through_formal, by_kind, means_in, is_among, IsInstance}
use Rattle.smv_language.specs.Scope.{a_define, a_symbol}
use Rattle.fault_instructions.specs.Instructions.{SliceTree, InstructionTree, slices_of, is_affected}
use Rattle.fault_instructions.specs.AddedNames.{own_name, mode_variable}
use Rattle.fault_weave.specs.WovenProgram.{woven_section, added_sections, woven_module, woven}
use Rattle.fault_instructions.specs.KindTypes.{type_of_kind}
use Rattle.fault_instructions.specs.Weavable.{Among, IsLawfulSlice, IsWeavable}
use Rattle.fault_weave.proofs.WovenKinds.{kind_woven, IsPlain, plain_no_module, plain_no_actual, added_plain, find_woven, Adds, IsAddedBy, added_or_not}

-- symbols stay symbols
or_left : (a b c : Bool) → (a ≡ true → b ≡ true) → (a || c) ≡ true → (b || c) ≡ true
or_left true b c h e = rw (h refl) refl
or_left false true c h e = refl
or_left false false c h e = e

or_right : (a b c : Bool) → (b ≡ true → c ≡ true) → (a || b) ≡ true → (a || c) ≡ true
or_right true b c h e = refl
or_right false b c h e = h e

sections_symbol : (affected : Text → Bool) (ss ts : List SectionTree) (x : Text) → is_symbol_of_sections ss x ≡ true →
    is_symbol_of_sections (map (woven_section affected) ss ++ ts) x ≡ true
sections_symbol affected [] ts x h = cc
sections_symbol affected (var ds ∷ ss) ts x h = or_right (is_symbol_of_decls ds x) _ _ (sections_symbol affected ss ts x) h
sections_symbol affected (ivar ds ∷ ss) ts x h = or_right (is_symbol_of_decls ds x) _ _ (sections_symbol affected ss ts x) h
sections_symbol affected (frozen ds ∷ ss) ts x h = or_right (is_symbol_of_decls ds x) _ _ (sections_symbol affected ss ts x) h
sections_symbol affected (define ds ∷ ss) ts x h = sections_symbol affected ss ts x h
sections_symbol affected (constants xs ∷ ss) ts x h = or_right (is_among xs x) _ _ (sections_symbol affected ss ts x) h
sections_symbol affected (assign xs ∷ ss) ts x h = sections_symbol affected ss ts x h
sections_symbol affected (init e ∷ ss) ts x h = sections_symbol affected ss ts x h
sections_symbol affected (invar e ∷ ss) ts x h = sections_symbol affected ss ts x h
sections_symbol affected (trans e ∷ ss) ts x h = sections_symbol affected ss ts x h

pub symbol_stays : (q : ProgramTree) (i : InstructionTree) (x : Text) → is_symbol q x ≡ true → is_symbol (woven q i) x ≡ true
symbol_stays [] i x h = cc
symbol_stays (m ∷ q) i x h =
    or_left (is_symbol_of_sections m.sections x) _ _ (sections_symbol (is_affected i m.name) m.sections (added_sections i m) x)
    (or_right (is_symbol_of_sections m.sections x) _ _ (symbol_stays q i x) h)

-- what a name is in the program and in the woven one: the same, or in the program nothing
abbrev pub Kept : ProgramTree → ProgramTree → Text → Kind → Kind → Type 0
Kept p w x undeclared k' = (is_symbol p x ≡ true → k' ≡ undeclared) × (module_of_kind w k' ≡ None) × ((j : ℕ) → actual_of_kind k' j ≡ None)
Kept p w x k k' = k' ≡ k

module _ (p : ProgramTree) (i : InstructionTree) (ok : IsWeavable p i) where
  added_kept : (m : ModuleTree) (ss : List SliceTree) (x : Text) → ((s : SliceTree) → Among ss s → (at : Place) × IsInstance p at m × Among (slices_of i m.name) s) →
      Adds ss x → is_symbol p x ≡ true → ⊥
  added_kept m ss x h adds e = go adds.0 adds.1 adds.2
    where
      go : (s : SliceTree) → Among ss s → IsAddedBy s x → ⊥
      go s a (inl same) =
          let there : (at : Place) × IsInstance p at m × Among (slices_of i m.name) s = h s a in
          let no : is_symbol p (own_name s.target) ≡ false = (ok.slices there.0 m s there.1 there.2).own_no_symbol in
          let no' : is_symbol p x ≡ false = subst (λ y. is_symbol p y ≡ false) same no in cc
      go s a (inr same) =
          let there : (at : Place) × IsInstance p at m × Among (slices_of i m.name) s = h s a in
          let no : is_symbol p (mode_variable s.name) ≡ false = (ok.slices there.0 m s there.1 there.2).mode_no_symbol in
          let no' : is_symbol p x ≡ false = subst (λ y. is_symbol p y ≡ false) same no in cc

  slice_finite : (at : Place) (m : ModuleTree) → IsInstance p at m → (s : SliceTree) → Among (slices_of i m.name) s → IsType (type_of_kind (kind_in m s.target))
  slice_finite at m is s a =
      let lawful : IsLawfulSlice p at m s = ok.slices at m s is a in
      subst (λ k. IsType (type_of_kind k)) (sym lawful.target_kind) lawful.finite

  pub module_kept : (at : Place) (m : ModuleTree) (x : Text) → IsInstance p at m → Kept p (woven p i) x (kind_in m x) (kind_in (woven_module i m) x)
  module_kept at m x is = go (kind_in m x) refl
    where
      go : (k : Kind) → kind_in m x ≡ k → Kept p (woven p i) x k (kind_in (woven_module i m) x)
      go (a_formal j) e = kind_woven i m x ∙ rw e refl
      go (a_variable role what) e = kind_woven i m x ∙ rw e refl
      go (a_define f) e = kind_woven i m x ∙ rw e refl
      go (an_instance n actuals) e = kind_woven i m x ∙ rw e refl
      go undeclared e =
          let is_added : kind_in (woven_module i m) x ≡ kind_in_sections (added_sections i m) x = kind_woven i m x ∙ rw e refl in
          let plain : IsPlain (kind_in (woven_module i m) x) = subst IsPlain (sym is_added) (added_plain m (slices_of i m.name) x (slice_finite at m is)) in
          (symbol_case is_added (added_or_not m (slices_of i m.name) x), plain_no_module (woven p i) _ plain, plain_no_actual _ plain)
        where
          symbol_case : kind_in (woven_module i m) x ≡ kind_in_sections (added_sections i m) x →
              (kind_in_sections (added_sections i m) x ≡ undeclared) ⊎ Adds (slices_of i m.name) x → is_symbol p x ≡ true → kind_in (woven_module i m) x ≡ undeclared
          symbol_case same (inl none) s = same ∙ none
          symbol_case same (inr adds) s = absurd (added_kept m (slices_of i m.name) x (λ s' a. (at, is, a)) adds s)

  module_of_kept : (x : Text) (k k' : Kind) → Kept p (woven p i) x k k' → module_of_kind (woven p i) k' ≡ option_map (woven_module i) (module_of_kind p k)
  module_of_kept x (a_formal j) k' e = rw e refl
  module_of_kept x (a_variable role what) k' e = rw e refl
  module_of_kept x (a_define f) k' e = rw e refl
  module_of_kept x (an_instance n actuals) k' e = rw e (find_woven p i n)
  module_of_kept x undeclared k' e = e.1

  pub module_woven : (at : Place) → module_at (woven p i) at ≡ option_map (woven_module i) (module_at p at)
  module_woven [] = find_woven p i (codes "main")
  module_woven (x ∷ at) = go (module_at p at) refl (module_woven at)
    where
      go : (o : Option ModuleTree) → module_at p at ≡ o → module_at (woven p i) at ≡ option_map (woven_module i) (module_at p at) →
          module_of_kind (woven p i) (kind_at (module_at (woven p i) at) x) ≡ option_map (woven_module i) (module_of_kind p (kind_at (module_at p at) x))
      go None e h = rw (h, e) refl
      go (Some m) e h = rw (h, e) (module_of_kept x (kind_in m x) (kind_in (woven_module i m) x) (module_kept at m x e))

  -- at every place, also where there is no instance
  pub kind_kept : (at : Place) (x : Text) → Kept p (woven p i) x (kind_at (module_at p at) x) (kind_at (module_at (woven p i) at) x)
  kind_kept at x = subst (λ o. Kept p (woven p i) x (kind_at (module_at p at) x) (kind_at o x)) (sym (module_woven at)) (go (module_at p at) refl)
    where
      go : (o : Option ModuleTree) → module_at p at ≡ o → Kept p (woven p i) x (kind_at o x) (kind_at (option_map (woven_module i) o) x)
      go None e = ((λ s. refl), refl, (λ j. refl))
      go (Some m) e = module_kept at m x e

  actual_kept : (x : Text) (k k' : Kind) (j : ℕ) → Kept p (woven p i) x k k' → actual_of_kind k' j ≡ actual_of_kind k j
  actual_kept x (a_formal n) k' j e = rw e refl
  actual_kept x (a_variable role what) k' j e = rw e refl
  actual_kept x (a_define f) k' j e = rw e refl
  actual_kept x (an_instance n actuals) k' j e = rw e refl
  actual_kept x undeclared k' j e = e.2 j

  abbrev Same : LookUp → LookUp → LookUp → Type 0
  Same found look look' = (at : Place) (name : Path) (meaning : Meaning) → found at name ≡ Some meaning → look' at name ≡ look at name

  plain_same : (found look look' : LookUp) (key : Key) (caller : Place) (e : Formula) (o : Option Path) (rest : Path) (meaning : Meaning) → Same found look look' →
      through_plain found key caller e o rest ≡ Some meaning → through_plain look' key caller e o rest ≡ through_plain look key caller e o rest
  plain_same found look look' key caller e (Some []) rest meaning h q = refl
  plain_same found look look' key caller e (Some (x ∷ name)) rest meaning h q = h caller (x ∷ (name ++ rest)) meaning q
  plain_same found look look' key caller e None rest meaning h q = refl

  actual_same : (found look look' : LookUp) (key : Key) (caller : Place) (o : Option Formula) (rest : Path) (meaning : Meaning) → Same found look look' →
      through_actual found key caller o rest ≡ Some meaning → through_actual look' key caller o rest ≡ through_actual look key caller o rest
  actual_same found look look' key caller None rest meaning h q = refl
  actual_same found look look' key caller (Some e) rest meaning h q = plain_same found look look' key caller e (plain_name e) rest meaning h q

  formal_same : (found look look' : LookUp) (at : Place) (j : ℕ) (rest : Path) (meaning : Meaning) → Same found look look' →
      through_formal found p at j rest ≡ Some meaning → through_formal look' (woven p i) at j rest ≡ through_formal look p at j rest
  formal_same found look look' [] j rest meaning h q = refl
  formal_same found look look' (own ∷ caller) j rest meaning h q =
      ap (λ o. through_actual look' (actual_key (own ∷ caller) j) caller o rest) (actual_kept own _ _ j (kind_kept caller own))
      ∙ actual_same found look look' (actual_key (own ∷ caller) j) caller _ rest meaning h q

  if_true : (b : Bool) (x : Text) (meaning : Meaning) → (if b then Some (a_symbol x) else None) ≡ Some meaning → b ≡ true
  if_true true x meaning e = refl
  if_true false x meaning e = cc

  kind_same : (found look look' : LookUp) (at : Place) (k k' : Kind) (x : Text) (rest : Path) (meaning : Meaning) → Same found look look' → Kept p (woven p i) x k k' →
      by_kind found p at k x rest ≡ Some meaning → by_kind look' (woven p i) at k' x rest ≡ by_kind look p at k x rest
  kind_same found look look' at (a_formal j) k' x rest meaning h e q = rw e (formal_same found look look' at j rest meaning h q)
  kind_same found look look' at (a_variable role what) k' x [] meaning h e q = rw e refl
  kind_same found look look' at (a_variable role what) k' x (y ∷ rest) meaning h e q = rw e refl
  kind_same found look look' at (a_define f) k' x [] meaning h e q = rw e refl
  kind_same found look look' at (a_define f) k' x (y ∷ rest) meaning h e q = rw e refl
  kind_same found look look' at (an_instance n actuals) k' x [] meaning h e q = rw e refl
  kind_same found look look' at (an_instance n actuals) k' x (y ∷ rest) meaning h e q = rw e (h (x ∷ at) (y ∷ rest) meaning q)
  kind_same found look look' at undeclared k' x [] meaning h e q =
      let is : is_symbol p x ≡ true = if_true (is_symbol p x) x meaning q in
      rw (e.0 is, is, symbol_stays p i x is) refl
  kind_same found look look' at undeclared k' x (y ∷ rest) meaning h e q = cc

  -- a name that means something in the program means the same in the woven one, found in as many steps
  pub same_meaning : (n k : ℕ) (at : Place) (name : Path) (meaning : Meaning) → means_in k p at name ≡ Some meaning → means_in n (woven p i) at name ≡ means_in n p at name
  same_meaning zero k at name meaning h = refl
  same_meaning (suc n) zero at name meaning h = cc
  same_meaning (suc n) (suc k) at [] meaning h = refl
  same_meaning (suc n) (suc k) at (x ∷ rest) meaning h =
      kind_same (means_in k p) (means_in n p) (means_in n (woven p i)) at _ _ x rest meaning (same_meaning n k) (kind_kept at x) h
