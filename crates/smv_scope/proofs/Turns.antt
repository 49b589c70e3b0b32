-- One turn of the look-ups of formals.
use Rattle.std.proofs.Common.{◌≡◌, ℕ, ◌<◌, arith, true, false, List, [], ◌∷◌, ◌++◌, length, Option, Some, None, Vec, refl, sym, ◌∙◌, ap, subst, ◌⊎◌, inl, inr}
use Rattle.std.specs.Prelude.{slice_get, option_map}
use Rattle.std.specs.declared.alloc.Global.{Global}
use Rattle.std.proofs.lemmas.List.{length-map}
use Rattle.smv_language.specs.Language.{Text, ModuleTree, ProgramTree, Place, find_module, Each, EachBoth, FlatInstance, texts}
use Rattle.smv_flat_laws.specs.Items.{instances_of}
use Rattle.smv_flat_laws.specs.Rules.{IsWalkable}
use Rattle.smv_flat_laws.specs.Model.{roots_of, symbols_of}
use Rattle.smv_flat_laws.specs.Looks.{ComesBack}
use Rattle.smv_scope.specs.SceneTree.{AreModules, IsSpot, IsDefined, IsKnown, formals_of, AreKnown, program_of, IsSet, IsScene}
use Rattle.smv_scope.specs.TableLookUps.{formal_or, formal_at}
use Rattle.smv_scope.specs.Steps.{is_open, row_count_in, row_count}
use Rattle.smv_scope.specs.KnownFormals.{rows, row_or, rows_with, formal_of, IsHead, IsOpen, IsTold, IsSized, AreTold, IsActualTold, IsSameButFormals}
use Rattle.smv_scope.specs.WaitingLookUps.{IsFormal, IsFrame, LastWaits, IsStack, IsReady, has_frame, IsWaiting, IsAnswer, GoesOn, Waits, circled, IsCircled, AreSettled, IsRowAnswered, IsTurn}
use Rattle.smv_scope.specs.declared.walk.Meaning.{Meaning as Found}
use Rattle.smv_scope.specs.declared.walk.Spot.{Spot}
use Rattle.smv_scope.specs.declared.names.Formal.{Formal}
use Rattle.smv_scope.specs.declared.names.Formal.TheVariants as known
use Rattle.smv_scope.specs.declared.names.Defined.{Defined}
use Rattle.smv_scope.specs.declared.names.Scene.{Scene}
use Rattle.smv_scope.specs.declared.formals.LookUpFrame.{LookUpFrame}
use Rattle.smv_scope.proofs.LookSplit.{never}
use Rattle.smv_scope.proofs.SceneItems.{get_map}
use Rattle.smv_scope.proofs.Told.{IsNoMoreOpen, no_more_open, IsChanged, changed, in_row, begun_one, answered_one}
use Rattle.smv_scope.proofs.Naming.{still_answered, program_same}
use Rattle.smv_scope.proofs.NamingItems.{both_from}
use Rattle.smv_scope.proofs.Frames.{formal_by_rows}
use Rattle.smv_scope.proofs.Stacks.{frame_on, stack_on, stack_pop, stack_push, last_waits, circled_less, own_circle, circle_told}
use Rattle.smv_scope.proofs.Work.{SameShape, shape_same, shape_with, shape_circled, has_below, has_last, has_split, settled_with, settled_circled, popped_turn, begun_turn, closed_turn, turn_after}
use Rattle.smv_scope.proofs.Starting.{symbols_by}
use Rattle.std.proofs.lemmas.Option.{same_Some as of_some, slice_get_within as get_less}
use Rattle.std.proofs.lemmas.Bool.{false_from_ne_true as not_true}
use Rattle.smv_language.proofs.BoolLaws.{not_both}
use Rattle.base_values.proofs.ListLaws.{get_within}

pub set_same : (old new : Scene) → IsSameButFormals old new → IsSet old → IsSet new
set_same old new same set = record {
  modules = subst AreModules (sym same.modules) set.modules;
  walkable = subst IsWalkable same_p set.walkable;
  spots =
      subst (λ (v : Vec Spot Global). EachBoth (IsSpot (program_of new)) (instances_of (program_of new)) v.items) (sym same.spots)
      (subst (λ (p : ProgramTree). EachBoth (IsSpot p) (instances_of p) old.spots.items) same_p set.spots);
  symbols = ap (λ ks. texts ks) keys ∙ set.symbols ∙ ap symbols_of same_p;
  few_symbols = subst (λ ks. length ks < 4294967296) (sym keys) set.few_symbols;
  definitions =
      subst (λ (v : Vec Defined Global). EachBoth (IsDefined (program_of new)) (roots_of (program_of new)) v.items) (sym same.definitions)
      (subst (λ (p : ProgramTree). EachBoth (IsDefined p) (roots_of p) old.definitions.items) same_p set.definitions);
}
  where
    same_p : program_of old ≡ program_of new
    same_p = sym (program_same old new same.modules)

    keys : new.symbols.keys ≡ old.symbols.keys
    keys = symbols_by old new.symbols same.symbols

-- of the formals whose look-ups wait something is known
abbrev pub AreFresh : List (List Formal) → List LookUpFrame → Type 0
AreFresh rs fs = (k i : ℕ) → formal_of rs k i ≡ known.Unknown → has_frame fs k i ≡ false

fresh_with : (rs : List (List Formal)) (fs : List LookUpFrame) (k i : ℕ) (f : Formal) → AreFresh rs fs → (f ≡ known.Unknown → ⊥) → AreFresh (rows_with rs k i f) fs
fresh_with rs fs k i f fresh other k' i' unknown = by_change (changed rs k i f k' i')
  where
    by_change : IsChanged rs k i f k' i' → has_frame fs k' i' ≡ false
    by_change (inl e) = fresh k' i' (sym e ∙ unknown)
    by_change (inr e) = absurd (other (sym e.2 ∙ unknown))

fresh_circled : (rs : List (List Formal)) (fs : List LookUpFrame) (gs : List LookUpFrame) → AreFresh rs fs → AreFresh (circled rs gs) fs
fresh_circled rs fs [] fresh = fresh
fresh_circled rs fs (g ∷ gs) fresh = fresh_with (circled rs gs) fs g.spot g.formal known.Circle (fresh_circled rs fs gs fresh) (λ h. circle_known h)
  where
    circle_known : known.Circle ≡ known.Unknown → ⊥
    circle_known h = cc

fresh_below : (rs : List (List Formal)) (fs : List LookUpFrame) (f : LookUpFrame) → AreFresh rs (fs ++ f ∷ []) → AreFresh rs fs
fresh_below rs fs f fresh k i unknown = not_true (has_frame fs k i) (λ h. not_both (has_frame (fs ++ f ∷ []) k i) (has_below fs f k i h) (fresh k i unknown))

fresh_pushed : (rs : List (List Formal)) (fs : List LookUpFrame) (f : LookUpFrame) → AreFresh rs fs → (formal_of rs f.spot f.formal ≡ known.Unknown → ⊥) → AreFresh rs (fs ++ f ∷ [])
fresh_pushed rs fs f fresh other k i unknown = not_true (has_frame (fs ++ f ∷ []) k i) (λ h. by_split (has_split fs f k i h))
  where
    by_split : (has_frame fs k i ≡ true) ⊎ ((f.spot ≡ k) × (f.formal ≡ i)) → ⊥
    by_split (inl h) = not_both (has_frame fs k i) h (fresh k i unknown)
    by_split (inr e) = other (ap (λ n. formal_of rs n f.formal) e.0 ∙ ap (formal_of rs k) e.1 ∙ unknown)

fresh_after : (rs : List (List Formal)) (fs : List LookUpFrame) (f g : LookUpFrame) → g.spot ≡ f.spot → g.formal ≡ f.formal → AreFresh rs (fs ++ f ∷ []) → AreFresh rs (fs ++ g ∷ [])
fresh_after rs fs f g spot formal fresh =
    fresh_pushed rs fs g (fresh_below rs fs f fresh)
    (λ unknown. not_both (has_frame (fs ++ f ∷ []) g.spot g.formal) (has_last fs f g.spot g.formal (sym spot) (sym formal)) (fresh g.spot g.formal unknown))

pub waiting_made : (old new : Scene) → IsSameButFormals old new → IsReady old → (rs : List (List Formal)) → rows new ≡ rs → AreSettled (rows old) rs → AreTold (program_of old) rs →
    (fs : List LookUpFrame) → IsStack (program_of old) rs fs → AreFresh rs fs → IsWaiting new fs
waiting_made old new same ready rs are settled told fs stack fresh = record {
  ready = record {
    set = set_same old new same ready.set;
    told = subst (λ p. AreTold p (rows new)) same_p (subst (AreTold (program_of old)) (sym are) told);
    actuals =
        subst (λ p. Each (IsActualTold p (rows new)) (roots_of p)) same_p
        (subst (λ r. Each (IsActualTold (program_of old) r) (roots_of (program_of old))) (sym are) (still_answered (program_of old) (rows old) rs (roots_of (program_of old)) settled ready.actuals));
  };
  stack = subst (λ p. IsStack p (rows new) fs) same_p (subst (λ r. IsStack (program_of old) r fs) (sym are) stack);
  fresh = subst (λ r. AreFresh r fs) (sym are) fresh;
}
  where
    same_p : program_of old ≡ program_of new
    same_p = sym (program_same old new same.modules)

open_rows : (s : Scene) (k i : ℕ) → IsOpen (formal_at s k i) → IsOpen (formal_of (rows s) k i)
open_rows s k i h = subst IsOpen (formal_by_rows s k i) h

pub open_from : (f : Formal) → is_open f ≡ true → IsOpen f
open_from known.Unknown e = tt
open_from known.Begun e = tt
open_from known.Circle e = let bad : false ≡ true = e in cc
open_from (known.Means f) e = let bad : false ≡ true = e in cc

pub not_open : (f : Formal) → is_open f ≡ false → IsOpen f → ⊥
not_open known.Unknown e o = let bad : true ≡ false = e in cc
not_open known.Begun e o = let bad : true ≡ false = e in cc
not_open known.Circle e o = absurd o
not_open (known.Means f) e o = absurd o

-- a look-up begins
pub begun : (old new : Scene) (fs fs' : List LookUpFrame) (f : LookUpFrame) (k i : ℕ) → IsWaiting old fs → LastWaits (program_of old) fs k i → IsFormal (program_of old) k i → IsOpen (formal_at old k i) → IsFrame (program_of old) (rows old) f → f.spot ≡ k → f.formal ≡ i →
    IsSameButFormals old new → rows new ≡ rows_with (rows old) k i known.Begun → fs' ≡ fs ++ f ∷ [] → IsWaiting new fs'
begun old new fs fs' f k i waiting last formal open' frame at_spot at_formal same made pushed =
    subst (IsWaiting new) (sym pushed)
    (waiting_made old new same waiting.ready (rows_with (rows old) k i known.Begun) made (settled_with (rows old) k i known.Begun (λ h. open_row))
    (begun_one (program_of old) (rows old) waiting.ready.told k i open_row) (fs ++ f ∷ [])
    (stack_push (program_of old) (rows_with (rows old) k i known.Begun) fs f (stack_on (program_of old) (rows old) (rows_with (rows old) k i known.Begun) less fs waiting.stack)
    (subst (λ n. LastWaits (program_of old) fs n f.formal) (sym at_spot) (subst (λ n. LastWaits (program_of old) fs k n) (sym at_formal) last))
    (frame_on (program_of old) (rows old) (rows_with (rows old) k i known.Begun) less f frame))
    (fresh_pushed (rows_with (rows old) k i known.Begun) fs f (fresh_with (rows old) fs k i known.Begun waiting.fresh (λ h. begun_known h))
    (λ unknown. begun_known (sym (in_row (program_of old) (rows old) waiting.ready.told k i formal.0 formal.1 known.Begun formal.2)
    ∙ ap (λ n. formal_of (rows_with (rows old) k i known.Begun) n i) (sym at_spot) ∙ ap (formal_of (rows_with (rows old) k i known.Begun) f.spot) (sym at_formal) ∙ unknown))))
  where
    begun_known : known.Begun ≡ known.Unknown → ⊥
    begun_known h = cc

    open_row : IsOpen (formal_of (rows old) k i)
    open_row = open_rows old k i open'

    less : IsNoMoreOpen (program_of old) (rows old) (rows_with (rows old) k i known.Begun)
    less = no_more_open (program_of old) (rows old) k i known.Begun (λ h. open_row)

pub begun_turned : (old new : Scene) (fs fs' : List LookUpFrame) (f : LookUpFrame) (k i : ℕ) → IsOpen (formal_at old k i) → has_frame fs k i ≡ false → f.spot ≡ k → f.formal ≡ i → rows new ≡ rows_with (rows old) k i known.Begun →
    fs' ≡ fs ++ f ∷ [] → IsTurn (rows old) (rows new) fs fs'
begun_turned old new fs fs' f k i open' fresh at_spot at_formal made pushed =
    subst (IsTurn (rows old) (rows new) fs) (sym pushed) (begun_turn (rows old) (rows new) fs f k i made (open_rows old k i open') fresh at_spot at_formal)

pub begun_has : (fs fs' : List LookUpFrame) (f : LookUpFrame) (k i : ℕ) → f.spot ≡ k → f.formal ≡ i → fs' ≡ fs ++ f ∷ [] → has_frame fs' k i ≡ true
begun_has fs fs' f k i at_spot at_formal pushed = ap (λ gs. has_frame gs k i) pushed ∙ has_last fs f k i at_spot at_formal

-- a circle closes
pub circle_closed : (old new : Scene) (fs : List LookUpFrame) (k i : ℕ) → IsWaiting old fs → LastWaits (program_of old) fs k i → IsSameButFormals old new → IsCircled (rows old) (rows new) fs k i → IsWaiting new fs
circle_closed old new fs k i waiting last same c =
    waiting_made old new same waiting.ready (circled (rows old) (c.first ∷ c.circle)) c.made (settled_circled (rows old) (c.first ∷ c.circle))
    (circle_told (program_of old) (rows old) waiting.ready.told waiting.ready.set.walkable c.first c.circle c.before
    (subst (IsStack (program_of old) (rows old)) c.split waiting.stack)
    (subst (λ n. LastWaits (program_of old) (c.before ++ c.first ∷ c.circle) n c.first.formal) (sym c.first_spot)
    (subst (λ n. LastWaits (program_of old) (c.before ++ c.first ∷ c.circle) k n) (sym c.first_formal) (subst (λ xs. LastWaits (program_of old) xs k i) c.split last))))
    fs (stack_on (program_of old) (rows old) (circled (rows old) (c.first ∷ c.circle)) (circled_less (program_of old) (rows old) (c.first ∷ c.circle)) fs waiting.stack)
    (fresh_circled (rows old) fs (c.first ∷ c.circle) waiting.fresh)

pub circle_turned : (old new : Scene) (fs : List LookUpFrame) (k i : ℕ) → IsWaiting old fs → IsFormal (program_of old) k i → IsOpen (formal_at old k i) → has_frame fs k i ≡ true → IsCircled (rows old) (rows new) fs k i →
    IsTurn (rows old) (rows new) fs fs
circle_turned old new fs k i waiting formal open' there c =
    closed_turn (rows old) (rows new) fs k i (subst (SameShape (rows old)) (sym c.made) (shape_circled (rows old) (c.first ∷ c.circle)))
    (subst (AreSettled (rows old)) (sym c.made) (settled_circled (rows old) (c.first ∷ c.circle))) (open_rows old k i open') there
    (λ h. subst IsOpen (ap (λ rs. formal_of rs k i) c.made ∙ circle) h)
  where
    head : IsHead (program_of old) c.first.spot c.first.formal formal.0 formal.1
    head = subst (λ n. IsHead (program_of old) n c.first.formal formal.0 formal.1) (sym c.first_spot) (subst (λ n. IsHead (program_of old) k n formal.0 formal.1) (sym c.first_formal) formal.2)

    circle : formal_of (circled (rows old) (c.first ∷ c.circle)) k i ≡ known.Circle
    circle =
        ap (λ n. formal_of (circled (rows old) (c.first ∷ c.circle)) n i) (sym c.first_spot) ∙ ap (formal_of (circled (rows old) (c.first ∷ c.circle)) c.first.spot) (sym c.first_formal)
        ∙ own_circle (program_of old) (rows old) waiting.ready.told c.circle c.first formal.0 formal.1 head

-- the topmost look-up is taken off
pub taken : (s : Scene) (fs : List LookUpFrame) (f : LookUpFrame) → IsWaiting s (fs ++ f ∷ []) → IsWaiting s fs × IsFrame (program_of s) (rows s) f × LastWaits (program_of s) fs f.spot f.formal
taken s fs f w =
    let r : IsStack (program_of s) (rows s) fs × IsFrame (program_of s) (rows s) f × LastWaits (program_of s) fs f.spot f.formal = stack_pop (program_of s) (rows s) fs f w.stack in
    (record { ready = w.ready; stack = r.0; fresh = fresh_below (rows s) fs f w.fresh }, r.1, r.2)

pub taken_turn : (s : Scene) (fs : List LookUpFrame) (f : LookUpFrame) → (IsOpen (formal_at s f.spot f.formal) → ⊥) → IsTurn (rows s) (rows s) (fs ++ f ∷ []) fs
taken_turn s fs f told =
    popped_turn (rows s) (rows s) fs f (shape_same (rows s)) (λ k i is. is) (λ h. told (subst IsOpen (sym (formal_by_rows s f.spot f.formal)) h))

-- it goes on
pub gone_on : (s : Scene) (fs fs' : List LookUpFrame) (f g : LookUpFrame) → IsWaiting s (fs ++ f ∷ []) → GoesOn (program_of s) (rows s) f g → fs' ≡ fs ++ g ∷ [] → IsWaiting s fs'
gone_on s fs fs' f g w on pushed =
    let t : IsWaiting s fs × IsFrame (program_of s) (rows s) f × LastWaits (program_of s) fs f.spot f.formal = taken s fs f w in
    subst (IsWaiting s) (sym pushed)
    (record {
      ready = w.ready;
      stack =
          stack_push (program_of s) (rows s) fs g t.0.stack
          (subst (λ n. LastWaits (program_of s) fs n g.formal) (sym on.spot) (subst (λ n. LastWaits (program_of s) fs f.spot n) (sym on.formal) t.2)) on.frame;
      fresh = fresh_after (rows s) fs f g on.spot on.formal w.fresh;
    })

pub on_turned : (old new : Scene) (fs gs fs' : List LookUpFrame) (f g : LookUpFrame) → GoesOn (program_of old) (rows old) f g → gs ≡ fs ++ g ∷ [] → IsTurn (rows old) (rows new) gs fs' → IsTurn (rows old) (rows new) (fs ++ f ∷ []) fs'
on_turned old new fs gs fs' f g on pushed turn = turn_after (rows old) (rows new) fs fs' f g on.spot on.formal (subst (λ xs. IsTurn (rows old) (rows new) xs fs') pushed turn)

-- it waits
pub waits_last : (s : Scene) (fs fs' : List LookUpFrame) (f : LookUpFrame) (i : ℕ) → Waits (program_of s) (rows s) f i → fs' ≡ fs ++ f ∷ [] → LastWaits (program_of s) fs' f.here i
waits_last s fs fs' f i w pushed = subst (λ xs. LastWaits (program_of s) xs f.here i) (sym pushed) (last_waits (program_of s) (rows s) fs f f.here i w.waits)

pub waits_open : (s : Scene) (f : LookUpFrame) (i : ℕ) → Waits (program_of s) (rows s) f i → IsOpen (formal_at s f.here i)
waits_open s f i w = subst IsOpen (sym (formal_by_rows s f.here i)) w.unanswered

pub waits_formal : (s : Scene) (f : LookUpFrame) (i : ℕ) → Waits (program_of s) (rows s) f i → IsFormal (program_of s) f.here i
waits_formal s f i w = (w.waits.place, w.waits.part, w.waits.head)

-- it ends
pub ended_turn : (old new : Scene) (fs : List LookUpFrame) (f : LookUpFrame) (m : Found) → IsWaiting old (fs ++ f ∷ []) → IsOpen (formal_at old f.spot f.formal) → IsAnswer (program_of old) (rows old) f.spot f.formal m →
    IsSameButFormals old new → rows new ≡ rows_with (rows old) f.spot f.formal (known.Means m) → IsWaiting new fs
ended_turn old new fs f m w open' a same made =
    waiting_made old new same w.ready (rows_with (rows old) f.spot f.formal (known.Means m)) made (settled_with (rows old) f.spot f.formal (known.Means m) (λ h. absurd h))
    (answered_one (program_of old) w.ready.set.walkable (rows old) w.ready.told f.spot f.formal a.at a.name (known.Means m) a.head (λ h. h) (a.found, stays) a.shut (λ k s. (k, s)))
    fs (stack_on (program_of old) (rows old) (rows_with (rows old) f.spot f.formal (known.Means m)) less fs (taken old fs f w).0.stack)
    (fresh_with (rows old) fs f.spot f.formal (known.Means m) (taken old fs f w).0.fresh (λ h. means_known h))
  where
    means_known : known.Means m ≡ known.Unknown → ⊥
    means_known h = cc

    less : IsNoMoreOpen (program_of old) (rows old) (rows_with (rows old) f.spot f.formal (known.Means m))
    less = no_more_open (program_of old) (rows old) f.spot f.formal (known.Means m) (λ h. absurd h)

    stays : ComesBack (program_of old) a.at a.name → ⊥
    stays back = a.shut back.0 a.at a.name back.1 back.2 (f.spot, f.formal, a.head, open_rows old f.spot f.formal open')

pub ended_turned : (old new : Scene) (fs : List LookUpFrame) (f : LookUpFrame) (m : Found) → IsWaiting old (fs ++ f ∷ []) → IsAnswer (program_of old) (rows old) f.spot f.formal m →
    rows new ≡ rows_with (rows old) f.spot f.formal (known.Means m) → IsTurn (rows old) (rows new) (fs ++ f ∷ []) fs
ended_turned old new fs f m w a made =
    popped_turn (rows old) (rows new) fs f (subst (SameShape (rows old)) (sym made) (shape_with (rows old) f.spot f.formal (known.Means m)))
    (subst (AreSettled (rows old)) (sym made) (settled_with (rows old) f.spot f.formal (known.Means m) (λ h. absurd h)))
    (λ h. subst IsOpen (ap (λ rs. formal_of rs f.spot f.formal) made ∙ in_row (program_of old) (rows old) w.ready.told f.spot f.formal a.at a.name (known.Means m) a.head) h)

-- a formal of an instance
pub formal_there : (s : Scene) → IsReady s → (spot i : ℕ) → i < row_count s spot → IsFormal (program_of s) spot i
formal_there s ready spot i lt = by_row (slice_get s.formals.items spot) refl
  where
    by_module : (at : FlatInstance) → slice_get (instances_of (program_of s)) spot ≡ Some at → (o : Option ModuleTree) → find_module (program_of s) at.module_name ≡ o → i < length (formals_of o) → IsFormal (program_of s) spot i
    by_module at e None named within = absurd (omega (arith, within))
    by_module at e (Some m) named within =
        let x : (x : Text) × (slice_get m.formals i ≡ Some x) = get_within m.formals i within in
        (at.place, x.0, record { instance = at; is = e; place = refl; tree = m; named = named; formal = x.1 })

    by_row : (o : Option (Vec Formal Global)) → slice_get s.formals.items spot ≡ o → IsFormal (program_of s) spot i
    by_row None none = let bad : i < 0 = subst (λ o. i < row_count_in o) none lt in absurd (omega (arith, bad))
    by_row (Some v) is =
        let below : spot < length s.formals.items = get_less s.formals.items spot v is in
        let many : length (rows s) ≡ length s.formals.items = length-map s.formals.items (λ (v : Vec Formal Global). v.items) in
        let all : length (rows s) ≡ length (instances_of (program_of s)) = ready.told.many in
        let at : (at : FlatInstance) × (slice_get (instances_of (program_of s)) spot ≡ Some at) = get_within (instances_of (program_of s)) spot (omega (arith, below, many, all)) in
        let sized : IsSized (program_of s) (rows s) spot at.0 = ready.told.sized spot at.0 at.1 in
        let row : v.items ≡ sized.row =
        of_some v.items sized.row (sym (ap (λ o. option_map (λ (v : Vec Formal Global). v.items) o) is) ∙ sym (get_map (λ (v : Vec Formal Global). v.items) s.formals.items spot) ∙ sized.is) in
        let in_row : i < length v.items = subst (λ o. i < row_count_in o) is lt in
        by_module at.0 at.1 (find_module (program_of s) at.0.module_name) refl (subst (λ n. i < n) (ap (λ (r : List Formal). length r) row ∙ sized.size) in_row)

-- all formals are answered
known_of : (p : ProgramTree) (rs : List (List Formal)) (at : Place) (x : Text) (f : Formal) → (IsOpen f → ⊥) → IsTold p rs at x f → IsKnown p at x f
known_of p rs at x known.Unknown o h = absurd (o tt)
known_of p rs at x known.Begun o h = absurd (o tt)
known_of p rs at x known.Circle o h = h.0
known_of p rs at x (known.Means f) o h = h.0

pub scene_made : (s : Scene) → IsReady s → ((spot : ℕ) → IsRowAnswered (rows s) spot) → IsScene s
scene_made s ready all = record {
  set = ready.set;
  formals =
      both_from (λ (i : FlatInstance) (fs : Vec Formal Global). AreKnown (program_of s) i fs.items) (instances_of (program_of s)) s.formals.items many
      (λ j at e. row_known j at e);
}
  where
    many : length s.formals.items ≡ length (instances_of (program_of s))
    many = sym (length-map s.formals.items (λ (v : Vec Formal Global). v.items)) ∙ ready.told.many

    by_module : (j : ℕ) (at : FlatInstance) → slice_get (instances_of (program_of s)) j ≡ Some at → (v : Vec Formal Global) → slice_get s.formals.items j ≡ Some v → (o : Option ModuleTree) → find_module (program_of s) at.module_name ≡ o →
        length v.items ≡ length (formals_of o) → EachBoth (IsKnown (program_of s) at.place) (formals_of o) v.items
    by_module j at e v is None named size = both_from (IsKnown (program_of s) at.place) [] v.items size (λ i x h. never x h)
    by_module j at e v is (Some m) named size =
        both_from (IsKnown (program_of s) at.place) m.formals v.items size
        (λ i x h.
        let below : i < length m.formals = get_less m.formals i x h in
        let y : (y : Formal) × (slice_get v.items i ≡ Some y) = get_within v.items i (subst (λ n. i < n) (sym size) below) in
        let of_y : formal_of (rows s) j i ≡ y.0 =
        ap (λ o. formal_or (slice_get (row_or o) i)) (get_map (λ (v : Vec Formal Global). v.items) s.formals.items j ∙ ap (λ o. option_map (λ (v : Vec Formal Global). v.items) o) is) ∙ ap formal_or y.1 in
        let told : IsTold (program_of s) (rows s) at.place x y.0 =
        subst (IsTold (program_of s) (rows s) at.place x) of_y
        (ready.told.told j i at.place x (record { instance = at; is = e; place = refl; tree = m; named = named; formal = h })) in
        (y.0, y.1, known_of (program_of s) (rows s) at.place x y.0 (λ h. all j i (subst IsOpen (sym of_y) h)) told))

    row_known : (j : ℕ) (at : FlatInstance) → slice_get (instances_of (program_of s)) j ≡ Some at → (v : Vec Formal Global) × (slice_get s.formals.items j ≡ Some v) × AreKnown (program_of s) at v.items
    row_known j at e =
        let below : j < length (instances_of (program_of s)) = get_less (instances_of (program_of s)) j at e in
        let v : (v : Vec Formal Global) × (slice_get s.formals.items j ≡ Some v) = get_within s.formals.items j (subst (λ n. j < n) (sym many) below) in
        let sized : IsSized (program_of s) (rows s) j at = ready.told.sized j at e in
        let row : v.0.items ≡ sized.row =
        of_some v.0.items sized.row (sym (ap (λ o. option_map (λ (v : Vec Formal Global). v.items) o) v.1) ∙ sym (get_map (λ (v : Vec Formal Global). v.items) s.formals.items j) ∙ sized.is) in
        (v.0, v.1, by_module j at e v.0 v.1 (find_module (program_of s) at.module_name) refl (ap (λ (r : List Formal). length r) row ∙ sized.size))
