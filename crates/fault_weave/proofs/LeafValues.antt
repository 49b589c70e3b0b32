-- What the names of a slice's templates give at an instance of the woven program.
use Rattle.std.proofs.Common.{◌≡◌, ◌⊎◌, inl, inr, ◌↔◌, ℕ, suc, true, List, [], ◌∷◌, Some, refl, sym, ◌∙◌, ap, subst}
use Rattle.std.specs.Prelude.{IsTrue}
use Rattle.smv_language.specs.declared.program.Member.{Member}
use Rattle.smv_language.specs.declared.program.Member.TheVariants as member
use Rattle.smv_language.specs.Language.{Text, Formula, DeclaredTree, boolean, range, members, instance, ModuleTree, ProgramTree, IsType, Value, symbol, Values, one, has, evaluate, Place, Role, state, Kind, a_variable, an_instance, undeclared, kind_declared, kind_in_sections, kind_in, kind_at, module_of_kind, module_at, is_symbol, is_symbol_of_members, is_symbol_of_type, Valuation, name_values, May, Each, IsInstance, same_text}
use Rattle.smv_language.proofs.Monotone.{evaluate_below, name_values_more, same_values}
use Rattle.fault_instructions.specs.Instructions.{SliceTree, InstructionTree, slices_of}
use Rattle.fault_instructions.specs.AddedNames.{ModeState}
use Rattle.fault_instructions.specs.AddedNames.{own_name, mode_variable, mode_symbol}
use Rattle.fault_weave.specs.WovenProgram.{mode_type, added_sections, woven}
use Rattle.fault_instructions.specs.KindTypes.{type_of_kind}
use Rattle.fault_instructions.specs.Weavable.{Among, IsFreeMember, SymbolsAreFree, IsLawfulSlice, IsWeavable}
use Rattle.fault_instructions.specs.Types.{IsKnown}
use Rattle.fault_weave.proofs.WovenKinds.{kind_or, kind_woven, Adds, IsAddedBy, added_or_not}
use Rattle.fault_weave.proofs.Meanings.{module_woven, symbol_stays, kind_kept, Kept}
use Rattle.smv_language.proofs.ValueLaws.{same_text_refl}
use Rattle.fault_weave.proofs.Declared.{or_true, variable_symbol}
use Rattle.fault_instructions.specs.EffectLaw.{SliceLeaves}
use Rattle.fault_weave.proofs.Added.{own_kind, mode_kind, slices_symbol, woven_symbol}
use Rattle.fault_instructions.proofs.FoundModules.{found_among}
use Rattle.fault_instructions.proofs.OwnNames.{own_not_mode}

-- what an expression gives at one depth decides what it may be
pub may_value : (n : ℕ) (q : ProgramTree) (at : Place) (now next : Valuation) (e : Formula) (vs : Values) (x : Value) →
    evaluate (name_values n q at now next) (name_values n q at next next) e ≡ Some vs → (May q at now next e x ↔ IsTrue (has vs x))
may_value n q at now next e vs x h =
    ((λ k. subst (λ ws. IsTrue (has ws x)) (same_values k.0 n q at now next e k.1 vs k.2 h) k.3), (λ k. (n, vs, h, k)))

-- expressions that give the same at each depth but 0 may be the same
pub may_same : (q : ProgramTree) (at : Place) (now next : Valuation) (e f : Formula) (x : Value) →
    ((n : ℕ) → evaluate (name_values (suc n) q at now next) (name_values (suc n) q at next next) e ≡ evaluate (name_values (suc n) q at now next) (name_values (suc n) q at next next) f) →
    (May q at now next e x ↔ May q at now next f x)
may_same q at now next e f x h = (to e f h, to f e (λ n. sym (h n)))
  where
    to : (e f : Formula) → ((n : ℕ) → evaluate (name_values (suc n) q at now next) (name_values (suc n) q at next next) e ≡ evaluate (name_values (suc n) q at now next) (name_values (suc n) q at next next) f) →
        May q at now next e x → May q at now next f x
    to e f h k =
        (suc k.0, k.1, sym (h k.0) ∙ evaluate_below e _ _ _ _ (name_values_more k.0 q at now next) (name_values_more k.0 q at next next) k.1 k.2, k.3)

pub variable_leaf : (n : ℕ) (w : ProgramTree) (at : Place) (now next : Valuation) (x : Text) (role : Role) (type : DeclaredTree) →
    kind_at (module_at w at) x ≡ a_variable role type → name_values (suc n) w at now next (x ∷ []) ≡ Some (one (now at x))
variable_leaf n w at now next x role type e = rw e refl

pub symbol_leaf : (n : ℕ) (w : ProgramTree) (at : Place) (now next : Valuation) (x : Text) →
    kind_at (module_at w at) x ≡ undeclared → is_symbol w x ≡ true → name_values (suc n) w at now next (x ∷ []) ≡ Some (one (symbol x))
symbol_leaf n w at now next x e s = rw (e, s) refl

module _ (p : ProgramTree) (i : InstructionTree) (ok : IsWeavable p i) where
  pub instance_among : (at : Place) (m : ModuleTree) → IsInstance p at m → Among p m
  instance_among [] m is = found_among p _ m is
  instance_among (x ∷ at) m is = go (kind_at (module_at p at) x) is
    where
      go : (k : Kind) → module_of_kind p k ≡ Some m → Among p m
      go (an_instance n es) e = found_among p n m e
      go _ e = cc

  pub kind_at_woven : (at : Place) (m : ModuleTree) (x : Text) → IsInstance p at m → kind_at (module_at (woven p i) at) x ≡ kind_or (kind_in m x) (kind_in_sections (added_sections i m) x)
  kind_at_woven at m x is = rw (module_woven p i ok at, is) (kind_woven i m x)

  pub own_variable : (at : Place) (m : ModuleTree) (s : SliceTree) → IsInstance p at m → Among (slices_of i m.name) s →
      kind_at (module_at (woven p i) at) (own_name s.target) ≡ kind_declared state (type_of_kind (kind_in m s.target))
  own_variable at m s is a =
      kind_at_woven at m (own_name s.target) is ∙ ap (λ k. kind_or k (kind_in_sections (added_sections i m) (own_name s.target))) (ok.slices at m s is a).own_new
      ∙ own_kind m (slices_of i m.name) s a (λ t b. ok.targets_differ m s t a b) (λ t b. own_not_mode s.target t.name)

  pub mode_variable_kind : (at : Place) (m : ModuleTree) (s : SliceTree) → IsInstance p at m → Among (slices_of i m.name) s →
      kind_at (module_at (woven p i) at) (mode_variable s.name) ≡ a_variable state (mode_type s)
  mode_variable_kind at m s is a =
      kind_at_woven at m (mode_variable s.name) is ∙ ap (λ k. kind_or k (kind_in_sections (added_sections i m) (mode_variable s.name))) (ok.slices at m s is a).mode_new
      ∙ mode_kind m (slices_of i m.name) s a (λ t b. ok.names_differ m t s b a) (λ t b. own_not_mode t.target s.name)

  pub symbol_kind : (at : Place) (m : ModuleTree) (s : SliceTree) (st : ModeState) → IsInstance p at m → Among (slices_of i m.name) s → IsKnown s st →
      kind_at (module_at (woven p i) at) (mode_symbol s.name st) ≡ undeclared
  symbol_kind at m s st is a known =
      kind_at_woven at m (mode_symbol s.name st) is ∙ ap (λ k. kind_or k (kind_in_sections (added_sections i m) (mode_symbol s.name st))) ((ok.slices at m s is a).symbol_new st known)
      ∙ go (added_or_not m (slices_of i m.name) (mode_symbol s.name st))
    where
      go : (kind_in_sections (added_sections i m) (mode_symbol s.name st) ≡ undeclared) ⊎ Adds (slices_of i m.name) (mode_symbol s.name st) → kind_in_sections (added_sections i m) (mode_symbol s.name st) ≡ undeclared
      go (inl e) = e
      go (inr adds) = absurd (by adds.0 adds.1 adds.2)
        where
          by : (t : SliceTree) → Among (slices_of i m.name) t → IsAddedBy t (mode_symbol s.name st) → ⊥
          by t b (inl e) = ok.symbol_not_own m s t st a b known (sym e)
          by t b (inr e) = ok.symbol_not_mode m s t st a b known (sym e)

  pub read_variable : (at : Place) (m : ModuleTree) (x : Text) (role : Role) (type : DeclaredTree) → IsInstance p at m → kind_in m x ≡ a_variable role type →
      kind_at (module_at (woven p i) at) x ≡ a_variable role type
  read_variable at m x role type is e = kind_at_woven at m x is ∙ rw e refl

  -- a symbol of the program that is undeclared at the instance is undeclared in the woven one
  free_symbol : (at : Place) (m : ModuleTree) (x : Text) → IsInstance p at m → kind_in m x ≡ undeclared → is_symbol p x ≡ true → kind_at (module_at (woven p i) at) x ≡ undeclared
  free_symbol at m x is e s =
      let here : kind_at (module_at p at) x ≡ undeclared = rw is e in
      (subst (λ k. Kept p (woven p i) x k (kind_at (module_at (woven p i) at) x)) here (kind_kept p i ok at x)).0 s

  pub slice_leaves : (n : ℕ) (at : Place) (m : ModuleTree) (s : SliceTree) (v v' : Valuation) (own : Value) (st : ModeState) → (is : IsInstance p at m) → (a : Among (slices_of i m.name) s) →
      v at (own_name s.target) ≡ own → v at (mode_variable s.name) ≡ symbol (mode_symbol s.name st) →
      SliceLeaves s (ok.slices at m s is a).type (name_values (suc n) (woven p i) at v v') (v at s.target) own st
  slice_leaves n at m s v v' own st is a same_own same_mode =
      let lawful : IsLawfulSlice p at m s = ok.slices at m s is a in
      record {
        read_leaf = variable_leaf n (woven p i) at v v' s.target state lawful.type (read_variable at m s.target state lawful.type is lawful.target_kind);
        own_leaf = finite lawful.type lawful.finite lawful.target_kind ∙ ap (λ x. Some (one x)) same_own;
        mode_leaf = variable_leaf n (woven p i) at v v' (mode_variable s.name) state (mode_type s) (mode_variable_kind at m s is a) ∙ ap (λ x. Some (one x)) same_mode;
        symbol_leaves = λ st' known. symbol_leaf n (woven p i) at v v' (mode_symbol s.name st') (symbol_kind at m s st' is a known)
            (woven_symbol p i m (mode_symbol s.name st') (instance_among at m is) (slices_symbol m (slices_of i m.name) s st' a known));
        type_leaves = λ ms e. free ms (subst (SymbolsAreFree m) e lawful.symbols_free) (λ y h. variable_symbol p m s.target state lawful.type y (instance_among at m is) lawful.target_kind (subst (λ t. is_symbol_of_type t y ≡ true) (sym e) h));
      }
    where
      finite : (type : DeclaredTree) → IsType type → kind_in m s.target ≡ a_variable state type → name_values (suc n) (woven p i) at v v' (own_name s.target ∷ []) ≡ Some (one (v at (own_name s.target)))
      finite boolean f e = variable_leaf n (woven p i) at v v' (own_name s.target) state boolean (own_variable at m s is a ∙ rw e refl)
      finite (range lo hi) f e = variable_leaf n (woven p i) at v v' (own_name s.target) state (range lo hi) (own_variable at m s is a ∙ rw e refl)
      finite (members ms) f e = variable_leaf n (woven p i) at v v' (own_name s.target) state (members ms) (own_variable at m s is a ∙ rw e refl)
      finite (instance n es) f e = absurd f

      free : (ms : List Member) → Each (IsFreeMember m) ms → ((y : Text) → is_symbol_of_members ms y ≡ true → is_symbol p y ≡ true) →
          Each (λ d. (x : Text) → d ≡ member.Symbol x → name_values (suc n) (woven p i) at v v' (x ∷ []) ≡ Some (one (symbol x))) ms
      free [] f known = tt
      free (member.Number k ∷ ms) f known = ((λ x e. cc), free ms f.1 known)
      free (member.Symbol y ∷ ms) f known =
          let is_one : is_symbol p y ≡ true = known y (or_true (same_text y y) _ (inl (same_text_refl y))) in (
            (λ x e. let same : y ≡ x = cc in subst (λ z. name_values (suc n) (woven p i) at v v' (z ∷ []) ≡ Some (one (symbol z))) same
                (symbol_leaf n (woven p i) at v v' y (free_symbol at m y is f.0 is_one) (symbol_stays p i y is_one))),
            free ms f.1 (λ z h. known z (or_true (same_text y z) _ (inr h))),
          )
