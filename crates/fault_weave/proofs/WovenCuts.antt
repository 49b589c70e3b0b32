-- Each trace of the woven program can be cut, and each extended trace is the cut of a list of valuations.
use Rattle.std.proofs.Common.{◌≡◌, ◌≢◌, ◌⊎◌, inl, inr, Bool, true, false, List, [], ◌∷◌, ◌++◌, Option, Some, None, refl, sym, ◌∙◌, ap, subst, eq-eqb}
use Rattle.std.specs.Prelude.{IsTrue, map, codes, nat_eq, if◌then◌else◌, ◌||◌}
use Rattle.smv_language.specs.declared.program.Member.TheVariants as member
use Rattle.smv_language.specs.Language.{Text, Formula, DeclaredTree, ModuleTree, ProgramTree, Value, symbol, same_text, Place, Role, a_variable, undeclared, kind_in, module_at, Valuation, May, Each, EachPair, AtSome, AtFirst, IsInstance, IsVariable, in_domain, is_member, DomainSection, IsMoment, IsTrace}
use Rattle.smv_language.specs.Values.{truth, number}
use Rattle.smv_language.proofs.ValueLaws.{same_text_refl}
use Rattle.fault_instructions.specs.Instructions.{ModeTree, SliceTree, InstructionTree, slices_of}
use Rattle.fault_instructions.specs.AddedNames.{ModeState}
use Rattle.fault_weave.specs.Moves.{Starts, Moves, Guarded, Stays}
use Rattle.fault_instructions.specs.declared.instructions.Dynamics.{Dynamics}
use Rattle.fault_instructions.specs.declared.instructions.Dynamics.TheVariants.{Permanent, Transient}
use Rattle.fault_instructions.specs.declared.instructions.Start.{Start}
use Rattle.fault_instructions.specs.declared.instructions.Start.TheVariants.{Nominal, Any}
use Rattle.fault_weave.specs.ExtensionTraces as extended
use Rattle.fault_weave.specs.ExtensionTraces.{Moment, IsExtended, FirstSlice, StepSlice}
use Rattle.fault_instructions.specs.AddedNames.{own_name, mode_variable, mode_symbol}
use Rattle.fault_weave.specs.Conservative.{IsSlice, IsStateOf, IsCutMoment, IsCut}
use Rattle.fault_weave.specs.WovenProgram.{mode_type, slice_sections, woven_module, woven}
use Rattle.fault_instructions.specs.Weavable.{Among, IsLawfulMode, IsWeavable}
use Rattle.fault_instructions.specs.Types.{IsKnown}
use Rattle.fault_instructions.proofs.AmongLaws.{each_at}
use Rattle.fault_weave.proofs.Added.{among_contains, own_name_same, mode_variable_same}
use Rattle.fault_instructions.proofs.OwnNames.{own_not_mode}
use Rattle.fault_weave.proofs.WovenSlices.{known_mode}
use Rattle.fault_weave.proofs.WovenMoments.{all_instances, split}
use Rattle.smv_language.proofs.OneTree.{same_text_equal}
use Rattle.fault_weave.specs.Faults.{module_slices}

-- what follows a beginning of a text
abbrev pub without : Text → Text → Option Text
without [] t = Some t
without (c ∷ cs) [] = None
without (c ∷ cs) (d ∷ ds) = if nat_eq c d then without cs ds else None

without_append : (x t : Text) → without x (x ++ t) ≡ Some t
without_append [] t = refl
without_append (c ∷ cs) t = rw (eq-eqb c c refl) (without_append cs t)

abbrev pub state_named : Option Text → ModeState
state_named None = None
state_named (Some t) = if same_text t (codes "nominal") then None else Some t

-- the mode whose symbol a value is
abbrev pub state_of : Text → Value → ModeState
state_of slice (symbol t) = state_named (without (slice ++ codes "#") t)
state_of slice (number n) = None
state_of slice (truth b) = None

nominal_text : (s : Text) → s ++ codes "#nominal" ≡ (s ++ codes "#") ++ codes "nominal"
nominal_text [] = refl
nominal_text (c ∷ s) = ap (λ l. c ∷ l) (nominal_text s)

state_of_symbol : (s : Text) (st : ModeState) → ((n : Text) → st ≡ Some n → n ≢ codes "nominal") → state_of s (symbol (mode_symbol s st)) ≡ st
state_of_symbol s None h = ap (λ t. state_named (without (s ++ codes "#") t)) (nominal_text s) ∙ ap state_named (without_append (s ++ codes "#") (codes "nominal"))
state_of_symbol s (Some n) h = ap state_named (without_append (s ++ codes "#") n) ∙ go (same_text n (codes "nominal")) refl
  where
    go : (b : Bool) → same_text n (codes "nominal") ≡ b → (if b then None else Some n) ≡ Some n
    go true e = absurd (h n refl (same_text_equal n (codes "nominal") e))
    go false e = refl

modes_have : (s : Text) (ms : List ModeTree) (y : Value) → is_member (map (λ k. member.Symbol (mode_symbol s (Some k.name))) ms) y ≡ true →
    (n : Text) × AtSome (λ k. k.name ≡ n) ms × (y ≡ symbol (mode_symbol s (Some n)))
modes_have s [] y h = cc
modes_have s (k ∷ ms) (truth b) h = let more : (n : Text) × AtSome (λ k. k.name ≡ n) ms × (truth b ≡ symbol (mode_symbol s (Some n))) = modes_have s ms (truth b) h in (more.0, inr more.1, more.2)
modes_have s (k ∷ ms) (number n) h = let more : (z : Text) × AtSome (λ k. k.name ≡ z) ms × (number n ≡ symbol (mode_symbol s (Some z))) = modes_have s ms (number n) h in (more.0, inr more.1, more.2)
modes_have s (k ∷ ms) (symbol t) h = go (same_text (mode_symbol s (Some k.name)) t) refl h (modes_have s ms (symbol t))
  where
    go : (b : Bool) → same_text (mode_symbol s (Some k.name)) t ≡ b → (b || is_member (map (λ k. member.Symbol (mode_symbol s (Some k.name))) ms) (symbol t)) ≡ true →
        (is_member (map (λ k. member.Symbol (mode_symbol s (Some k.name))) ms) (symbol t) ≡ true → (n : Text) × AtSome (λ k. k.name ≡ n) ms × (symbol t ≡ symbol (mode_symbol s (Some n)))) →
        (n : Text) × AtSome (λ z. z.name ≡ n) (k ∷ ms) × (symbol t ≡ symbol (mode_symbol s (Some n)))
    go true e h more = (k.name, inl refl, ap symbol (sym (same_text_equal _ _ e)))
    go false e h more = let found : (n : Text) × AtSome (λ k. k.name ≡ n) ms × (symbol t ≡ symbol (mode_symbol s (Some n))) = more h in (found.0, inr found.1, found.2)

type_has : (s : SliceTree) (y : Value) → IsTrue (in_domain (mode_type s) y) → (st : ModeState) × IsKnown s st × (y ≡ symbol (mode_symbol s.name st))
type_has s (truth b) h = let found : (n : Text) × AtSome (λ k. k.name ≡ n) s.modes × (truth b ≡ symbol (mode_symbol s.name (Some n))) = modes_have s.name s.modes (truth b) h in (Some found.0, found.1, found.2)
type_has s (number n) h = let found : (z : Text) × AtSome (λ k. k.name ≡ z) s.modes × (number n ≡ symbol (mode_symbol s.name (Some z))) = modes_have s.name s.modes (number n) h in (Some found.0, found.1, found.2)
type_has s (symbol t) h = go (same_text (mode_symbol s.name None) t) refl h
  where
    go : (b : Bool) → same_text (mode_symbol s.name None) t ≡ b → (b || is_member (map (λ k. member.Symbol (mode_symbol s.name (Some k.name))) s.modes) (symbol t)) ≡ true →
        (st : ModeState) × IsKnown s st × (symbol t ≡ symbol (mode_symbol s.name st))
    go true e h = (None, tt, ap symbol (sym (same_text_equal _ _ e)))
    go false e h = let found : (n : Text) × AtSome (λ k. k.name ≡ n) s.modes × (symbol t ≡ symbol (mode_symbol s.name (Some n))) = modes_have s.name s.modes (symbol t) h in (Some found.0, found.1, found.2)

state_known : (p : ProgramTree) (i : InstructionTree) (s : SliceTree) (st : ModeState) → IsKnown s st → IsStateOf p i s st
state_known p i s None h = tt
state_known p i s (Some n) h = h

-- the moment that a valuation of the woven program is cut to
abbrev pub cut_of : Valuation → Moment
cut_of v = record { read = v; own = λ at x. v at (own_name x); mode = λ at n. state_of n (v at (mode_variable n)) }

-- a valuation of the woven program that is cut to a moment
abbrev pub joined_in : List SliceTree → Place → Moment → Text → Value
joined_in [] at mo x = mo.read at x
joined_in (s ∷ ss) at mo x =
    if same_text (own_name s.target) x then mo.own at s.target else (if same_text (mode_variable s.name) x then symbol (mode_symbol s.name (mo.mode at s.name)) else joined_in ss at mo x)

abbrev pub joined : ProgramTree → InstructionTree → Moment → Valuation
joined p i mo at x = joined_in (module_slices i (module_at p at)) at mo x

module _ (p : ProgramTree) (i : InstructionTree) (ok : IsWeavable p i) where
  never_nominal : (at : Place) (m : ModuleTree) (is : IsInstance p at m) (s : SliceTree) → Among (slices_of i m.name) s → (st : ModeState) → IsKnown s st → (n : Text) → st ≡ Some n → n ≢ codes "nominal"
  never_nominal at m is s a None known n e = cc
  never_nominal at m is s a (Some k) known n e =
      let found : (mode : ModeTree) × Among s.modes mode × (mode.name ≡ k) = known_mode s.modes k known in
      let same : k ≡ n = cc in
      λ q. (each_at (IsLawfulMode p at m (ok.slices at m s is a).type) s.modes found.0 (ok.slices at m s is a).modes found.1).not_nominal (found.2 ∙ same ∙ q)

  slice_state : (v : Valuation) → IsMoment (woven p i) v → (at : Place) (m : ModuleTree) (is : IsInstance p at m) (s : SliceTree) → Among (slices_of i m.name) s →
      (st : ModeState) × IsKnown s st × (v at (mode_variable s.name) ≡ symbol (mode_symbol s.name st))
  slice_state v h at m is s a =
      let domains : Each (DomainSection at v) (woven_module i m).sections = (all_instances p i ok (λ at m. Each (DomainSection at v) m.sections)).0 h.0 at m is in
      let here : Each (DomainSection at v) (slice_sections m s) = each_at (λ s. Each (DomainSection at v) (slice_sections m s)) (slices_of i m.name) s ((split p i ok (DomainSection at v) m).0 domains).1 a in
      type_has s (v at (mode_variable s.name)) here.0.1.0

  pub cut_is : (v : Valuation) → IsMoment (woven p i) v → IsCutMoment p i v (cut_of v)
  cut_is v h = record {
    read = λ at x role type is. refl;
    own = λ at s is. refl;
    known = λ at s is. (both at s is).0;
    mode = λ at s is. (both at s is).1;
  }
    where
      both : (at : Place) (s : SliceTree) → IsSlice p i at s → IsStateOf p i s (state_of s.name (v at (mode_variable s.name)))
          × (v at (mode_variable s.name) ≡ symbol (mode_symbol s.name (state_of s.name (v at (mode_variable s.name)))))
      both at s is =
          let a : Among (slices_of i is.0.name) s = among_contains (slices_of i is.0.name) s is.2 in
          let st : (st : ModeState) × IsKnown s st × (v at (mode_variable s.name) ≡ symbol (mode_symbol s.name st)) = slice_state v h at is.0 is.1 s a in
          let same : state_of s.name (v at (mode_variable s.name)) ≡ st.0 = ap (state_of s.name) st.2 ∙ state_of_symbol s.name st.0 (never_nominal at is.0 is.1 s a st.0 st.1) in
          (subst (IsStateOf p i s) (sym same) (state_known p i s st.0 st.1), st.2 ∙ ap (λ t. symbol (mode_symbol s.name t)) (sym same))

  cut_all : (vs : List Valuation) → Each (IsMoment (woven p i)) vs → IsCut p i vs (map cut_of vs)
  cut_all [] h = tt
  cut_all (v ∷ vs) h = (cut_is v h.0, cut_all vs h.1)

  pub cut_exists : (vs : List Valuation) → IsTrace (woven p i) vs → (trace : List Moment) × IsCut p i vs trace
  cut_exists vs h = (map cut_of vs, cut_all vs h.moments)

  -- what the joined valuation gives
  joined_own : (ss : List SliceTree) (at : Place) (mo : Moment) (s : SliceTree) → Among ss s → ((t : SliceTree) → Among ss t → own_name s.target ≢ mode_variable t.name) →
      joined_in ss at mo (own_name s.target) ≡ mo.own at s.target
  joined_own [] at mo s a other = absurd a
  joined_own (t ∷ ss) at mo s a other = go (same_text (own_name t.target) (own_name s.target)) refl (same_text (mode_variable t.name) (own_name s.target)) refl a (λ b. joined_own ss at mo s b (λ u c. other u (inr c)))
    where
      go : (b : Bool) → same_text (own_name t.target) (own_name s.target) ≡ b → (c : Bool) → same_text (mode_variable t.name) (own_name s.target) ≡ c → Among (t ∷ ss) s →
          (Among ss s → joined_in ss at mo (own_name s.target) ≡ mo.own at s.target) →
          (if b then mo.own at t.target else (if c then symbol (mode_symbol t.name (mo.mode at t.name)) else joined_in ss at mo (own_name s.target))) ≡ mo.own at s.target
      go true e c f a more = ap (mo.own at) (own_name_same t.target s.target (same_text_equal _ _ e))
      go false e true f a more = absurd (other t (inl refl) (sym (same_text_equal _ _ f)))
      go false e false f (inl q) more = let equal : same_text (own_name t.target) (own_name s.target) ≡ true = subst (λ u. same_text (own_name t.target) (own_name u.target) ≡ true) q (same_text_refl (own_name t.target)) in cc
      go false e false f (inr b) more = more b

  joined_mode : (ss : List SliceTree) (at : Place) (mo : Moment) (s : SliceTree) → Among ss s → ((t : SliceTree) → Among ss t → own_name t.target ≢ mode_variable s.name) →
      joined_in ss at mo (mode_variable s.name) ≡ symbol (mode_symbol s.name (mo.mode at s.name))
  joined_mode [] at mo s a other = absurd a
  joined_mode (t ∷ ss) at mo s a other = go (same_text (own_name t.target) (mode_variable s.name)) refl (same_text (mode_variable t.name) (mode_variable s.name)) refl a (λ b. joined_mode ss at mo s b (λ u c. other u (inr c)))
    where
      go : (b : Bool) → same_text (own_name t.target) (mode_variable s.name) ≡ b → (c : Bool) → same_text (mode_variable t.name) (mode_variable s.name) ≡ c → Among (t ∷ ss) s →
          (Among ss s → joined_in ss at mo (mode_variable s.name) ≡ symbol (mode_symbol s.name (mo.mode at s.name))) →
          (if b then mo.own at t.target else (if c then symbol (mode_symbol t.name (mo.mode at t.name)) else joined_in ss at mo (mode_variable s.name))) ≡ symbol (mode_symbol s.name (mo.mode at s.name))
      go true e c f a more = absurd (other t (inl refl) (same_text_equal _ _ e))
      go false e true f a more = ap (λ n. symbol (mode_symbol n (mo.mode at n))) (mode_variable_same t.name s.name (same_text_equal _ _ f))
      go false e false f (inl q) more = let equal : same_text (mode_variable t.name) (mode_variable s.name) ≡ true = subst (λ u. same_text (mode_variable t.name) (mode_variable u.name) ≡ true) q (same_text_refl (mode_variable t.name)) in cc
      go false e false f (inr b) more = more b

  joined_read : (ss : List SliceTree) (at : Place) (mo : Moment) (x : Text) → ((t : SliceTree) → Among ss t → (own_name t.target ≢ x) × (mode_variable t.name ≢ x)) → joined_in ss at mo x ≡ mo.read at x
  joined_read [] at mo x other = refl
  joined_read (t ∷ ss) at mo x other = go (same_text (own_name t.target) x) refl (same_text (mode_variable t.name) x) refl (joined_read ss at mo x (λ u c. other u (inr c)))
    where
      go : (b : Bool) → same_text (own_name t.target) x ≡ b → (c : Bool) → same_text (mode_variable t.name) x ≡ c → joined_in ss at mo x ≡ mo.read at x →
          (if b then mo.own at t.target else (if c then symbol (mode_symbol t.name (mo.mode at t.name)) else joined_in ss at mo x)) ≡ mo.read at x
      go true e c f more = absurd ((other t (inl refl)).0 (same_text_equal _ _ e))
      go false e true f more = absurd ((other t (inl refl)).1 (same_text_equal _ _ f))
      go false e false f more = more

  abbrev AllKnown : Moment → Type 0
  AllKnown mo = (at : Place) (s : SliceTree) → IsSlice p i at s → IsStateOf p i s (mo.mode at s.name)

  pub joined_cut : (mo : Moment) → AllKnown mo → IsCutMoment p i (joined p i mo) mo
  joined_cut mo known = record { read = reads; own = owns; known = known; mode = modes }
    where
      slices_here : (at : Place) (m : ModuleTree) (x : Text) → IsInstance p at m → joined p i mo at x ≡ joined_in (slices_of i m.name) at mo x
      slices_here at m x is = ap (λ o. joined_in (module_slices i o) at mo x) is

      reads : (at : Place) (x : Text) (role : Role) (type : DeclaredTree) → IsVariable p at x role type → joined p i mo at x ≡ mo.read at x
      reads at x role type h =
          slices_here at h.0 x h.1 ∙ joined_read (slices_of i h.0.name) at mo x (λ t b. (
            (λ e. let new : kind_in h.0 x ≡ undeclared = subst (λ y. kind_in h.0 y ≡ undeclared) e (ok.slices at h.0 t h.1 b).own_new in let both : undeclared ≡ a_variable role type = sym new ∙ h.2 in cc),
            (λ e. let new : kind_in h.0 x ≡ undeclared = subst (λ y. kind_in h.0 y ≡ undeclared) e (ok.slices at h.0 t h.1 b).mode_new in let both : undeclared ≡ a_variable role type = sym new ∙ h.2 in cc),
          ))

      owns : (at : Place) (s : SliceTree) → IsSlice p i at s → joined p i mo at (own_name s.target) ≡ mo.own at s.target
      owns at s h =
          let a : Among (slices_of i h.0.name) s = among_contains (slices_of i h.0.name) s h.2 in
          slices_here at h.0 (own_name s.target) h.1 ∙ joined_own (slices_of i h.0.name) at mo s a (λ t b. own_not_mode s.target t.name)

      modes : (at : Place) (s : SliceTree) → IsSlice p i at s → joined p i mo at (mode_variable s.name) ≡ symbol (mode_symbol s.name (mo.mode at s.name))
      modes at s h =
          let a : Among (slices_of i h.0.name) s = among_contains (slices_of i h.0.name) s h.2 in
          slices_here at h.0 (mode_variable s.name) h.1 ∙ joined_mode (slices_of i h.0.name) at mo s a (λ t b. own_not_mode t.target s.name)

  -- in an extended trace each mode is one of its slice's
  starts_known : (s : SliceTree) (start : Start) (st : ModeState) → Starts start s.modes st → IsStateOf p i s st
  starts_known s Nominal st e = subst (IsStateOf p i s) (sym e) tt
  starts_known s Any st h = go h
    where
      of_mode : (ms : List ModeTree) → AtSome (λ m. st ≡ Some m.name) ms → (n : Text) × (st ≡ Some n) × AtSome (λ k. k.name ≡ n) ms
      of_mode [] h = absurd h
      of_mode (m ∷ ms) (inl e) = (m.name, e, inl refl)
      of_mode (m ∷ ms) (inr h) = let more : (n : Text) × (st ≡ Some n) × AtSome (λ k. k.name ≡ n) ms = of_mode ms h in (more.0, more.1, inr more.2)

      go : (st ≡ None) ⊎ AtSome (λ m. st ≡ Some m.name) s.modes → IsStateOf p i s st
      go (inl e) = subst (IsStateOf p i s) (sym e) tt
      go (inr h) = let found : (n : Text) × (st ≡ Some n) × AtSome (λ k. k.name ≡ n) s.modes = of_mode s.modes h in subst (IsStateOf p i s) (sym found.1) found.2

  moves_known : (s : SliceTree) (holds : Formula → Type 0) (st st' : ModeState) → Moves s.modes holds st st' → IsStateOf p i s st'
  moves_known s holds None st' h = go h
    where
      enters : (ms : List ModeTree) → AtSome (λ m. (st' ≡ Some m.name) × Guarded holds m.guard) ms → (n : Text) × (st' ≡ Some n) × AtSome (λ k. k.name ≡ n) ms
      enters [] h = absurd h
      enters (m ∷ ms) (inl h) = (m.name, h.0, inl refl)
      enters (m ∷ ms) (inr h) = let more : (n : Text) × (st' ≡ Some n) × AtSome (λ k. k.name ≡ n) ms = enters ms h in (more.0, more.1, inr more.2)

      go : (st' ≡ None) ⊎ AtSome (λ m. (st' ≡ Some m.name) × Guarded holds m.guard) s.modes → IsStateOf p i s st'
      go (inl e) = subst (IsStateOf p i s) (sym e) tt
      go (inr h) = let found : (n : Text) × (st' ≡ Some n) × AtSome (λ k. k.name ≡ n) s.modes = enters s.modes h in subst (IsStateOf p i s) (sym found.1) found.2
  moves_known s holds (Some n) st' h = go s.modes (λ k a. a) h
    where
      stays : (d : Dynamics) → Stays d n st' → AtSome (λ k. k.name ≡ n) s.modes → IsStateOf p i s st'
      stays Permanent e a = subst (IsStateOf p i s) (sym e) a
      stays Transient (inl e) a = subst (IsStateOf p i s) (sym e) a
      stays Transient (inr e) a = subst (IsStateOf p i s) (sym e) tt

      put : (ms : List ModeTree) (m : ModeTree) → Among ms m → m.name ≡ n → AtSome (λ k. k.name ≡ n) ms
      put [] m a e = absurd a
      put (k ∷ ms) m (inl q) e = inl (ap (λ z. z.name) q ∙ e)
      put (k ∷ ms) m (inr a) e = inr (put ms m a e)

      go : (ms : List ModeTree) → ((k : ModeTree) → Among ms k → Among s.modes k) → AtSome (λ m. (m.name ≡ n) × Stays m.dynamics n st') ms → IsStateOf p i s st'
      go [] among h = absurd h
      go (m ∷ ms) among (inl h) = stays m.dynamics h.1 (put s.modes m (among m (inl refl)) h.0)
      go (m ∷ ms) among (inr h) = go ms (λ k a. among k (inr a)) h

  step_known : (mo mo' : Moment) → extended.IsStep p i mo mo' → AllKnown mo'
  step_known mo mo' h at s is =
      let a : Among (slices_of i is.0.name) s = among_contains (slices_of i is.0.name) s is.2 in
      moves_known s (λ g. May p at mo.read mo.read g (truth true)) (mo.mode at s.name) (mo'.mode at s.name) (each_at (StepSlice p i at is.0 mo mo') (slices_of i is.0.name) s (h at is.0 is.1).1 a).0

  first_known : (mo : Moment) → extended.IsFirst p i mo → AllKnown mo
  first_known mo h at s is =
      let a : Among (slices_of i is.0.name) s = among_contains (slices_of i is.0.name) s is.2 in
      starts_known s s.start (mo.mode at s.name) (each_at (FirstSlice p i at is.0 mo) (slices_of i is.0.name) s (h at is.0 is.1).1 a).0

  joined_all : (trace : List Moment) → AtFirst AllKnown trace → EachPair (extended.IsStep p i) trace → IsCut p i (map (joined p i) trace) trace
  joined_all [] known h = absurd known
  joined_all (mo ∷ []) known h = (joined_cut mo known, tt)
  joined_all (mo ∷ mo' ∷ trace) known h = (joined_cut mo known, joined_all (mo' ∷ trace) (step_known mo mo' h.0) h.1)

  pub whole_exists : (trace : List Moment) → IsExtended p i trace → (vs : List Valuation) × IsCut p i vs trace
  whole_exists [] h = absurd h.first
  whole_exists (mo ∷ trace) h = (map (joined p i) (mo ∷ trace), joined_all (mo ∷ trace) (first_known mo h.first) h.steps)
