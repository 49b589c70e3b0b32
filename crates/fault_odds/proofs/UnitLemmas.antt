-- The units of a mode, found by its slice and name, are those of its mark.
use Rattle.std.proofs.Common.{◌≡◌, ℕ, Bool, true, false, ◌≤◌, List, [], ◌∷◌, ◌++◌, map, Option, Some, None, ◌⊎◌, inl, inr, refl, sym, ◌∙◌, ap, subst, arith}
use Rattle.std.specs.Prelude.{flat_map, if◌then◌else◌}
use Rattle.smv_language.specs.Language.{Text, ModuleTree, ProgramTree, Place, module_at, same_text, Each, AtSome}
use Rattle.smv_language.proofs.ValueLaws.{same_text_equal}
use Rattle.fault_instructions.specs.Instructions.{ModeTree, SliceTree, ExtensionTree, InstructionTree, slices_from, slices_of}
use Rattle.fault_weave.specs.Faults.{Fault, slice_faults, module_slices, place_faults, HasFaults}
use Rattle.smv_flat_laws.proofs.Conditions.{each_flat, each_mapped}
use Rattle.std.specs.Prelude.{nat_le, ◌&&◌, codes}
use Rattle.std.proofs.lemmas.Bool.Decides.{nat_tests}
use Rattle.fault_extend.specs.declared.faults.WovenFault.{WovenFault}
use Rattle.fault_extend.specs.WovenFaults.{fault_tree}
use Rattle.fault_odds.specs.Units.{one_in_units, is_fraction, whole_units, at_most_one, with_fraction, units_of}
use Rattle.fault_odds.specs.Marks.{fault_of_units, fault_of_mark, slice_marks, extension_marks, HasProbabilities, HasUnits, AreOdds}
use Rattle.fault_odds.specs.Laws.{AreAtMostOne}
use Rattle.fault_odds.specs.FirstMark.{mark_units, or_else, mode_units, units_in_slice, slice_units, extension_units, or_zero, units_at}
use Rattle.smv_flat_laws.proofs.Lists.{each_more}
use Rattle.smv_flat_laws.proofs.Conditions.{each_join}
use Rattle.smv_language.proofs.AmongLaws.{not_itself}
use Rattle.smv_language.proofs.EachLaws.{some_kept}

-- where no mark is wrong, a mark gives units
mark_there : (mark : Option (List Text)) → fault_of_mark mark ≡ None → (u : ℕ) × (mark_units mark ≡ Some u)
mark_there None h = cc
mark_there (Some mark) h = by_units (units_of mark) refl h
  where
    by_units : (units : Option ℕ) → units_of mark ≡ units → fault_of_units units ≡ None → (u : ℕ) × (units_of mark ≡ Some u)
    by_units None e h = cc
    by_units (Some u) e h = (u, e)

abbrev GoodModes : List ModeTree → Type 0
GoodModes ms = Each (λ m. fault_of_mark m.mark ≡ None) ms

abbrev HasNamed : Text → List ModeTree → Type 0
HasNamed mode ms = AtSome (λ m. m.name ≡ mode) ms

mode_there : (mode : Text) (ms : List ModeTree) → GoodModes ms → HasNamed mode ms → (u : ℕ) × (mode_units mode ms ≡ Some u)
mode_there mode [] good at = absurd at
mode_there mode (m ∷ ms) good at = by_test (same_text m.name mode) refl (mode_there mode ms good.1)
  where
    other : same_text m.name mode ≡ false → HasNamed mode ms
    other f = elim at [ inl e ↦ absurd (not_itself m.name mode f e) | inr later ↦ later ]

    by_test : (b : Bool) → same_text m.name mode ≡ b → (HasNamed mode ms → (u : ℕ) × (mode_units mode ms ≡ Some u)) → (u : ℕ) × ((if b then mark_units m.mark else mode_units mode ms) ≡ Some u)
    by_test true e more = mark_there m.mark good.0
    by_test false e more = more (other e)

abbrev GoodSlices : List SliceTree → Type 0
GoodSlices ss = Each (λ s. GoodModes s.modes) ss

abbrev IsNamedSlice : Text → Text → SliceTree → Type 0
IsNamedSlice slice mode s = (s.name ≡ slice) × HasNamed mode s.modes

in_slice : (slice mode : Text) (s : SliceTree) → GoodModes s.modes → IsNamedSlice slice mode s → (u : ℕ) × (units_in_slice slice mode s ≡ Some u)
in_slice slice mode s good is = by_test (same_text s.name slice) refl
  where
    by_test : (b : Bool) → same_text s.name slice ≡ b → (u : ℕ) × ((if b then mode_units mode s.modes else None) ≡ Some u)
    by_test true e = mode_there mode s.modes good is.1
    by_test false e = absurd (not_itself s.name slice e is.0)

-- the first of two, where one of them has units
first_or : (first other : Option ℕ) → ((u : ℕ) × (first ≡ Some u)) ⊎ ((u : ℕ) × (other ≡ Some u)) → (u : ℕ) × (or_else first other ≡ Some u)
first_or (Some n) other h = (n, refl)
first_or None other (inl h) = absurd (no h.0 h.1)
  where
    no : (n : ℕ) → None ≡ Some n → ⊥
    no n e = cc
first_or None other (inr h) = h

slice_there : (slice mode : Text) (ss : List SliceTree) → GoodSlices ss → AtSome (IsNamedSlice slice mode) ss → (u : ℕ) × (slice_units slice mode ss ≡ Some u)
slice_there slice mode [] good at = absurd at
slice_there slice mode (s ∷ ss) good (inl is) = first_or (units_in_slice slice mode s) (slice_units slice mode ss) (inl (in_slice slice mode s good.0 is))
slice_there slice mode (s ∷ ss) good (inr later) = first_or (units_in_slice slice mode s) (slice_units slice mode ss) (inr (slice_there slice mode ss good.1 later))

abbrev GoodExtensions : List ExtensionTree → Type 0
GoodExtensions xs = Each (λ x. GoodSlices x.slices) xs

-- some extension has a slice of the name with a mode of the name
abbrev ModeThere : List ExtensionTree → Text → Text → Type 0
ModeThere xs slice mode = AtSome (λ x. AtSome (IsNamedSlice slice mode) x.slices) xs

extension_there : (slice mode : Text) (xs : List ExtensionTree) → GoodExtensions xs → ModeThere xs slice mode → (u : ℕ) × (extension_units slice mode xs ≡ Some u)
extension_there slice mode [] good at = absurd at
extension_there slice mode (x ∷ xs) good (inl is) = first_or (slice_units slice mode x.slices) (extension_units slice mode xs) (inl (slice_there slice mode x.slices good.0 is))
extension_there slice mode (x ∷ xs) good (inr later) = first_or (slice_units slice mode x.slices) (extension_units slice mode xs) (inr (extension_there slice mode xs good.1 later))

good_slice : (s : SliceTree) → Each (λ f. f ≡ None) (slice_marks s) → GoodModes s.modes
good_slice s h = (each_mapped (λ f. f ≡ None) (λ m. fault_of_mark m.mark) s.modes).0 h.1

good_extension : (x : ExtensionTree) → Each (λ f. f ≡ None) (extension_marks x) → GoodSlices x.slices
good_extension x h =
    each_more (λ s. Each (λ f. f ≡ None) (slice_marks s)) (λ s. GoodModes s.modes) x.slices good_slice
    ((each_flat (λ f. f ≡ None) slice_marks x.slices).0 h.1)

good_all : (i : InstructionTree) → HasProbabilities i → GoodExtensions i.extensions
good_all i h =
    each_more (λ x. Each (λ f. f ≡ None) (extension_marks x)) (λ x. GoodSlices x.slices) i.extensions good_extension
    ((each_flat (λ f. f ≡ None) extension_marks i.extensions).0 h)

-- a place of a list
record At {A : Type 0} (P : A → Type 0) (xs : List A) : Type 0 where
  before : List A
  it : A
  after : List A
  in_order : xs ≡ before ++ it ∷ after
  holds : P it

here : {A : Type 0} (P : A → Type 0) (x : A) (xs : List A) → P x → At P (x ∷ xs)
here P x xs p = record { before = []; it = x; after = xs; in_order = refl; holds = p }

later : {A : Type 0} (P : A → Type 0) (x : A) (xs : List A) → At P xs → At P (x ∷ xs)
later P x xs a = record { before = x ∷ a.before; it = a.it; after = a.after; in_order = ap (λ l. x ∷ l) a.in_order; holds = a.holds }

abbrev IsModeWith : Text → ℕ → ModeTree → Type 0
IsModeWith mode u m = (m.name ≡ mode) × (mark_units m.mark ≡ Some u)

mode_found : (mode : Text) (u : ℕ) (ms : List ModeTree) → mode_units mode ms ≡ Some u → At (IsModeWith mode u) ms
mode_found mode u [] h = cc
mode_found mode u (m ∷ ms) h = by_test (same_text m.name mode) refl (mode_found mode u ms) h
  where
    by_test : (b : Bool) → same_text m.name mode ≡ b → (mode_units mode ms ≡ Some u → At (IsModeWith mode u) ms) → (if b then mark_units m.mark else mode_units mode ms) ≡ Some u → At (IsModeWith mode u) (m ∷ ms)
    by_test true e more g = here (IsModeWith mode u) m ms (same_text_equal m.name mode e, g)
    by_test false e more g = later (IsModeWith mode u) m ms (more g)

abbrev IsSliceWith : Text → Text → ℕ → SliceTree → Type 0
IsSliceWith slice mode u s = (s.name ≡ slice) × At (IsModeWith mode u) s.modes

within_slice : (slice mode : Text) (u : ℕ) (s : SliceTree) → units_in_slice slice mode s ≡ Some u → IsSliceWith slice mode u s
within_slice slice mode u s h = by_test (same_text s.name slice) refl h
  where
    by_test : (b : Bool) → same_text s.name slice ≡ b → (if b then mode_units mode s.modes else None) ≡ Some u → IsSliceWith slice mode u s
    by_test true e g = (same_text_equal s.name slice e, mode_found mode u s.modes g)
    by_test false e g = cc

which : (first other : Option ℕ) (u : ℕ) → or_else first other ≡ Some u → (first ≡ Some u) ⊎ (other ≡ Some u)
which (Some n) other u h = inl h
which None other u h = inr h

slice_found : (slice mode : Text) (u : ℕ) (ss : List SliceTree) → slice_units slice mode ss ≡ Some u → At (IsSliceWith slice mode u) ss
slice_found slice mode u [] h = cc
slice_found slice mode u (s ∷ ss) h = elim (which (units_in_slice slice mode s) (slice_units slice mode ss) u h) [
  | inl e ↦ here (IsSliceWith slice mode u) s ss (within_slice slice mode u s e)
  | inr e ↦ later (IsSliceWith slice mode u) s ss (slice_found slice mode u ss e)
]

extension_found : (slice mode : Text) (u : ℕ) (xs : List ExtensionTree) → extension_units slice mode xs ≡ Some u → At (λ x. At (IsSliceWith slice mode u) x.slices) xs
extension_found slice mode u [] h = cc
extension_found slice mode u (x ∷ xs) h = elim (which (slice_units slice mode x.slices) (extension_units slice mode xs) u h) [
  | inl e ↦ here (λ y. At (IsSliceWith slice mode u) y.slices) x xs (slice_found slice mode u x.slices e)
  | inr e ↦ later (λ y. At (IsSliceWith slice mode u) y.slices) x xs (extension_found slice mode u xs e)
]

mark_of : (mark : Option (List Text)) (u : ℕ) → mark_units mark ≡ Some u → (texts : List Text) × (mark ≡ Some texts) × (units_of texts ≡ Some u)
mark_of None u h = cc
mark_of (Some texts) u h = (texts, refl, h)

found_units : (i : InstructionTree) (slice mode : Text) (u : ℕ) → extension_units slice mode i.extensions ≡ Some u → HasUnits i slice mode u
found_units i slice mode u h =
    let x = extension_found slice mode u i.extensions h in
    let s = x.holds in
    let m = s.holds.1 in
    let mark = mark_of m.it.mark u m.holds.1 in
    record {
      extension = x.it;
      of_slice = s.it;
      of_mode = m.it;
      mark = mark.0;
      is_extension = (x.before, x.after, x.in_order);
      is_slice = (s.before, s.after, s.in_order);
      is_mode = (m.before, m.after, m.in_order);
      slice_name = s.holds.0;
      mode_name = m.holds.0;
      has_mark = mark.1;
      has_units = mark.2;
    }

units_right : (i : InstructionTree) (slice mode : Text) → HasProbabilities i → ModeThere i.extensions slice mode → HasUnits i slice mode (units_at i slice mode)
units_right i slice mode good at =
    let u = extension_there slice mode i.extensions (good_all i good) at in
    subst (HasUnits i slice mode) (sym (ap or_zero u.1)) (found_units i slice mode u.0 u.1)

odds_right : (i : InstructionTree) (faults : List Fault) → HasProbabilities i → Each (λ f. ModeThere i.extensions f.slice f.mode) faults → AreOdds i faults (map (λ f. units_at i f.slice f.mode) faults)
odds_right i [] good at = tt
odds_right i (f ∷ faults) good at = (units_right i f.slice f.mode good at.0, odds_right i faults good at.1)

-- each fault of a program's instructions is of one of their modes
all_in : {A : Type 0} (P : A → Type 0) (xs : List A) → ((x : A) → AtSome (λ y. y ≡ x) xs → P x) → Each P xs
all_in P [] h = tt
all_in P (x ∷ xs) h = (h x (inl refl), all_in P xs (λ y a. h y (inr a)))

module _ (xs : List ExtensionTree) where
  abbrev AllThere : SliceTree → Type 0
  AllThere s = Each (λ m. ModeThere xs s.name m.name) s.modes

  mode_is : (x : ExtensionTree) → AtSome (λ y. y ≡ x) xs → (s : SliceTree) → AtSome (λ t. t ≡ s) x.slices → (m : ModeTree) → AtSome (λ n. n ≡ m) s.modes → ModeThere xs s.name m.name
  mode_is x a s b m c =
      some_kept (λ y. y ≡ x) (λ y. AtSome (IsNamedSlice s.name m.name) y.slices) xs
      (λ y e. subst (λ z. AtSome (IsNamedSlice s.name m.name) z.slices) (sym e)
      (some_kept (λ t. t ≡ s) (IsNamedSlice s.name m.name) x.slices
      (λ t f. subst (IsNamedSlice s.name m.name) (sym f) (refl, some_kept (λ n. n ≡ m) (λ n. n.name ≡ m.name) s.modes (λ n g. ap (λ k. k.name) g) c)) b)) a

  slices_there : Each (λ x. Each AllThere x.slices) xs
  slices_there = all_in (λ x. Each AllThere x.slices) xs (λ x a. all_in AllThere x.slices (λ s b. all_in (λ m. ModeThere xs s.name m.name) s.modes (mode_is x a s b)))

from_all : (P : SliceTree → Type 0) (xs : List ExtensionTree) (m : Text) → Each (λ x. Each P x.slices) xs → Each P (slices_from xs m)
from_all P [] m h = tt
from_all P (x ∷ xs) m h = by_test (same_text x.of_module m) (from_all P xs m h.1)
  where
    by_test : (b : Bool) → Each P (slices_from xs m) → Each P (if b then x.slices ++ slices_from xs m else slices_from xs m)
    by_test true more = each_join P x.slices (slices_from xs m) h.0 more
    by_test false more = more

module _ (p : ProgramTree) (i : InstructionTree) where
  abbrev FaultThere : Fault → Type 0
  FaultThere f = ModeThere i.extensions f.slice f.mode

  of_slice : (at : Place) (s : SliceTree) → AllThere i.extensions s → Each FaultThere (slice_faults at s)
  of_slice at s h = (each_mapped FaultThere (λ m. record { place = at; slice = s.name; mode = m.name }) s.modes).1 h

  of_slices : (at : Place) (ss : List SliceTree) → Each (AllThere i.extensions) ss → Each FaultThere (flat_map (slice_faults at) ss)
  of_slices at ss h = (each_flat FaultThere (slice_faults at) ss).1 (each_more (AllThere i.extensions) (λ s. Each FaultThere (slice_faults at s)) ss (of_slice at) h)

  of_module : (at : Place) (m : Option ModuleTree) → Each FaultThere (flat_map (slice_faults at) (module_slices i m))
  of_module at None = tt
  of_module at (Some m) = of_slices at (slices_of i m.name) (from_all (AllThere i.extensions) i.extensions m.name (slices_there i.extensions))

  of_places : (places : List Place) → Each (λ at. Each FaultThere (place_faults p i at)) places
  of_places [] = tt
  of_places (at ∷ places) = (of_module at (module_at p at), of_places places)

  faults_there : (faults : List Fault) → HasFaults p i faults → Each FaultThere faults
  faults_there faults has = subst (Each FaultThere) (sym has.2) ((each_flat FaultThere (place_faults p i) has.0).1 (of_places has.0))

pub odds_of_faults : (p : ProgramTree) (i : InstructionTree) (faults : List Fault) → HasFaults p i faults → HasProbabilities i → AreOdds i faults (map (λ f. units_at i f.slice f.mode) faults)
odds_of_faults p i faults has good = odds_right i faults good (faults_there p i faults has)

-- the odds of the code's faults
pub odds_of_woven : (p : ProgramTree) (i : InstructionTree) (ws : List WovenFault) (odds : List ℕ) → HasFaults p i (map fault_tree ws) → HasProbabilities i →
    odds ≡ map (λ f. units_at i f.slice f.mode) ws → AreOdds i (map fault_tree ws) odds
odds_of_woven p i ws odds has good e = subst (AreOdds i (map fault_tree ws)) (sym (e ∙ sym (mapped ws))) (odds_of_faults p i (map fault_tree ws) has good)
  where
    mapped : (ws : List WovenFault) → map (λ f. units_at i f.slice f.mode) (map fault_tree ws) ≡ map (λ w. units_at i w.slice w.mode) ws
    mapped [] = refl
    mapped (w ∷ ws) = ap (λ l. units_at i w.slice w.mode ∷ l) (mapped ws)

-- units that are found are at most one
abbrev IsSmall : Option ℕ → Type 0
IsSmall None = Unit {0}
IsSmall (Some n) = n ≤ one_in_units

small_if : (b : Bool) (x y : Option ℕ) → IsSmall x → IsSmall y → IsSmall (if b then x else y)
small_if true x y h k = h
small_if false x y h k = k

whole_small : (x : Text) → IsSmall (whole_units x)
whole_small x = small_if (same_text x (codes "0")) (Some 0) (if same_text x (codes "1") then Some one_in_units else None) (omega arith) (small_if (same_text x (codes "1")) (Some one_in_units) None (omega arith) tt)

capped_small : (n : ℕ) → IsSmall (at_most_one n)
capped_small n = by_test (nat_le n one_in_units) refl
  where
    by_test : (b : Bool) → nat_le n one_in_units ≡ b → IsSmall (if b then Some n else None)
    by_test true e = within n one_in_units e
      where
        within : (n u : ℕ) → nat_le n u ≡ true → n ≤ u
        within n u h = grind (arith, nat_tests)
    by_test false e = tt

fraction_small : (whole : Option ℕ) (digits : Text) → IsSmall (with_fraction whole digits)
fraction_small None digits = tt
fraction_small (Some n) digits = capped_small _

units_of_small : (mark : List Text) → IsSmall (units_of mark)
units_of_small [] = tt
units_of_small (x ∷ []) = whole_small x
units_of_small (x ∷ y ∷ []) = tt
units_of_small (x ∷ point ∷ digits ∷ []) = small_if (same_text point (codes ".") && is_fraction digits) (with_fraction (whole_units x) digits) None (fraction_small (whole_units x) digits) tt
units_of_small (x ∷ y ∷ z ∷ w ∷ more) = tt

mark_small : (mark : Option (List Text)) → IsSmall (mark_units mark)
mark_small None = tt
mark_small (Some mark) = units_of_small mark

mode_small : (mode : Text) (ms : List ModeTree) → IsSmall (mode_units mode ms)
mode_small mode [] = tt
mode_small mode (m ∷ ms) = small_if (same_text m.name mode) (mark_units m.mark) (mode_units mode ms) (mark_small m.mark) (mode_small mode ms)

or_small : (first other : Option ℕ) → IsSmall first → IsSmall other → IsSmall (or_else first other)
or_small (Some n) other h k = h
or_small None other h k = k

slices_small : (slice mode : Text) (ss : List SliceTree) → IsSmall (slice_units slice mode ss)
slices_small slice mode [] = tt
slices_small slice mode (s ∷ ss) =
    or_small (units_in_slice slice mode s) (slice_units slice mode ss) (small_if (same_text s.name slice) (mode_units mode s.modes) None (mode_small mode s.modes) tt) (slices_small slice mode ss)

extensions_small : (slice mode : Text) (xs : List ExtensionTree) → IsSmall (extension_units slice mode xs)
extensions_small slice mode [] = tt
extensions_small slice mode (x ∷ xs) = or_small (slice_units slice mode x.slices) (extension_units slice mode xs) (slices_small slice mode x.slices) (extensions_small slice mode xs)

zero_small : (units : Option ℕ) → IsSmall units → or_zero units ≤ one_in_units
zero_small None h = omega arith
zero_small (Some n) h = h

pub units_at_most_one : (i : InstructionTree) (slice mode : Text) → units_at i slice mode ≤ one_in_units
units_at_most_one i slice mode = zero_small (extension_units slice mode i.extensions) (extensions_small slice mode i.extensions)

-- so the units of faults are at most one
pub odds_at_most_one : (i : InstructionTree) (faults : List Fault) (odds : List ℕ) → AreOdds i faults odds → AreAtMostOne odds
odds_at_most_one i [] [] h = tt
odds_at_most_one i [] (n ∷ ns) h = absurd h
odds_at_most_one i (f ∷ fs) [] h = absurd h
odds_at_most_one i (f ∷ fs) (n ∷ ns) h = (subst IsSmall h.0.has_units (units_of_small h.0.mark), odds_at_most_one i fs ns h.1)
