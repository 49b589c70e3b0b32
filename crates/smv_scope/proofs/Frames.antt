-- How a look-up goes on by one part.
use Rattle.std.proofs.Common.{◌≡◌, ℕ, zero, suc, ◌+◌, ◌-◌, ◌<◌, ◌≤◌, arith, Bool, true, false, ltb, eqb-true, eq-eqb, get_or, take, drop, ◌==◌, List, [], ◌∷◌, length, Option, Some, None, Vec, refl, sym, ◌∙◌, ap, subst, if◌then◌else◌}
use Rattle.std.specs.Prelude.{slice_get, map, option_map}
use Rattle.std.specs.Borrow.{Bor}
use Rattle.std.specs.declared.alloc.Global.{Global}
use Rattle.std.proofs.lemmas.Bool.{ltb-true, ltb-false}
use Rattle.std.proofs.lemmas.List.{append-nil, take_all}
use Rattle.smv_language.specs.declared.expr.Expr.{Expr}
use Rattle.smv_language.specs.Language.{Text, Path, Formula, instance, ProgramTree, tree_of, Place, Kind, a_formal, a_variable, an_instance, undeclared, Meaning, a_variable_at, an_expression_at, an_instance_at, Means, formal_from, kind_after_formals, kind_at, module_at, plain_name, actual_of_kind, nth_formula, FlatInstance}
use Rattle.smv_language.specs.Scope.{a_define, a_symbol}
use Rattle.smv_flat_laws.specs.Items.{items_of, instances_of}
use Rattle.smv_flat_laws.specs.Looks.{Look, at_actual, plain_of, step_kind, step_of, look_after}
use Rattle.smv_flat_laws.proofs.EndLaws.{steps_more}
use Rattle.smv_flat_laws.proofs.KindLaws.{kind_in_items}
use Rattle.smv_scope.specs.SceneTree.{item_from, local_after, Denotes, IsFound, IsCalled, program_of}
use Rattle.smv_scope.specs.TableLookUps.{formal_or, formal_in, formal_at, told, symbol_at, own_at, by_local, part_at, local_at, found_inside}
use Rattle.smv_scope.specs.Steps.{step_by_local, known_by, known_at, is_open, gone_inside}
use Rattle.smv_scope.specs.KnownFormals.{rows, row_or, formal_of, IsHead, IsOpen, ShutAt, Shut, IsTold}
use Rattle.smv_scope.specs.WaitingLookUps.{IsFormal, IsFrame, IsReady, IsAnswer, GoesOn, Waits, IsProgress}
use Rattle.smv_scope.specs.declared.walk.Meaning.{Meaning as Found}
use Rattle.smv_scope.specs.declared.walk.Meaning.TheVariants as found
use Rattle.smv_scope.specs.declared.walk.Spot.{Spot}
use Rattle.smv_scope.specs.declared.names.Formal.{Formal}
use Rattle.smv_scope.specs.declared.names.Formal.TheVariants as known
use Rattle.smv_scope.specs.declared.names.Scene.{Scene}
use Rattle.smv_scope.specs.declared.formals.LookUpFrame.{LookUpFrame}
use Rattle.smv_scope.specs.declared.formals.PartMeaning.TheVariants as part
use Rattle.smv_scope.proofs.LookSplit.{never, Reach, reach}
use Rattle.smv_scope.proofs.LookFound.{found_parts}
use Rattle.smv_scope.proofs.LookAfter.{found_after, shut_same, shut_more, shut_own, beyond_from, no_instance}
use Rattle.smv_scope.proofs.SceneFound.{Stand, stand, kind, one_found, told_found}
use Rattle.smv_scope.proofs.SceneItems.{get_map}
use Rattle.smv_scope.proofs.HeadKinds.{head_kind}
use Rattle.smv_scope.proofs.Naming.{ended, shut_ended}
use Rattle.std.proofs.lemmas.Option.{same_Some as of_some}
use Rattle.smv_flat_laws.proofs.Meant.{declares_no_formal as never_formal, formal_is as formal_named}

-- what is known of a formal, by the rows
pub formal_by_rows : (s : Scene) (k i : ℕ) → formal_at s k i ≡ formal_of (rows s) k i
formal_by_rows s k i = by_row (slice_get s.formals.items k) ∙ ap (λ o. formal_or (slice_get (row_or o) i)) (sym (get_map (λ (v : Vec Formal Global). v.items) s.formals.items k))
  where
    by_row : (o : Option (Vec Formal Global)) → formal_in o i ≡ formal_or (slice_get (row_or (option_map (λ (v : Vec Formal Global). v.items) o)) i)
    by_row None = refl
    by_row (Some v) = refl

step_none : (p : ProgramTree) (at : Place) (k : Kind) (x : Text) → ((i : ℕ) → k ≡ a_formal i → ⊥) → step_kind p at k x [] ≡ None
step_none p at (a_formal i) x h = absurd (h i refl)
step_none p at (a_variable role what) x h = refl
step_none p at (a_define e) x h = refl
step_none p at (an_instance m actuals) x h = refl
step_none p at undeclared x h = refl

part_same : (x y : Text) (rest : Path) → x ∷ [] ≡ y ∷ rest → x ≡ y
part_same x y rest e = cc

module _ (s : Scene) (ready : IsReady s) (spot : ℕ) (at : FlatInstance) (st : Stand s ready.set spot at) (x : Text) where
  p : ProgramTree
  p = program_of s

  not_formal_shut : formal_from 0 st.tree.formals x ≡ None → Shut (program_of s) (rows s) at.place (x ∷ [])
  not_formal_shut none zero = λ at' y rest e is.
      let l : record { place = at.place; name = x ∷ [] } ≡ record { place = at'; name = y ∷ rest } =
      of_some (record { place = at.place; name = x ∷ [] }) (record { place = at'; name = y ∷ rest }) e in
      let head : IsHead (program_of s) is.0 is.1 at.place x =
      subst (λ z. IsHead (program_of s) is.0 is.1 at.place z) (sym (part_same x y rest (ap (λ (l : Look). l.name) l)))
      (subst (λ a. IsHead (program_of s) is.0 is.1 a y) (sym (ap (λ (l : Look). l.place) l)) is.2) in
      never_formal (items_of st.tree) x is.1
      (sym (kind s ready.set spot at st x ∙ ap (λ o. kind_after_formals o (kind_in_items (items_of st.tree) x)) none)
      ∙ head_kind (program_of s) ready.set.walkable is.0 is.1 at.place x head)
  not_formal_shut none (suc n) = shut_ended (program_of s) (rows s) (look_after (suc n) (program_of s) at.place (x ∷ [])) (ended (program_of s) at.place (x ∷ []) ends n)
    where
      ends : step_of (program_of s) at.place (x ∷ []) ≡ None
      ends =
          ap (λ k. step_kind (program_of s) at.place k x []) (kind s ready.set spot at st x ∙ ap (λ o. kind_after_formals o (kind_in_items (items_of st.tree) x)) none)
          ∙ step_none (program_of s) at.place (kind_in_items (items_of st.tree) x) x (never_formal (items_of st.tree) x)

  -- what is known of a part is found, and its look-up meets no formal without an answer
  abbrev Judged : Found → Type 0
  Judged f = IsFound (program_of s) at.place (x ∷ []) f × Shut (program_of s) (rows s) at.place (x ∷ [])

  head_of : (i : ℕ) → slice_get (instances_of (program_of s)) spot ≡ Some at → formal_from 0 st.tree.formals x ≡ Some i → IsHead (program_of s) spot i at.place x
  head_of i e formal =
      let own : (j : ℕ) × (i ≡ 0 + j) × (slice_get st.tree.formals j ≡ Some x) = formal_named 0 st.tree.formals x i formal in
      let same : i ≡ own.0 = omega (arith, own.1) in
      record { instance = at; is = e; place = refl; tree = st.tree; named = st.named; formal = ap (slice_get st.tree.formals) same ∙ own.2 }

  told_judged : (k : Formal) → is_open k ≡ false → IsTold (program_of s) (rows s) at.place x k → Judged (told k)
  told_judged known.Unknown o h = let bad : true ≡ false = o in cc
  told_judged known.Begun o h = let bad : true ≡ false = o in cc
  told_judged known.Circle o h = (told_found (program_of s) at.place x known.Circle h.0, h.1)
  told_judged (known.Means f) o h = (told_found (program_of s) at.place x (known.Means f) h.0, h.1)

  same_known : (f g : Found) → part.Known f ≡ part.Known g → f ≡ g
  same_known f g e = cc

  locals_are : (o i : Option ℕ) → formal_from 0 st.tree.formals x ≡ o → item_from 0 (items_of st.tree) x ≡ i → local_at s spot x ≡ local_after o i
  locals_are o i eo ei = st.locals x ∙ ap (λ q. local_after q (item_from 0 (items_of st.tree) x)) eo ∙ ap (local_after o) ei

  pub part_judged : slice_get (instances_of (program_of s)) spot ≡ Some at → (f : Found) → known_at s spot x ≡ part.Known f → Judged f
  part_judged e f is = by_both (formal_from 0 st.tree.formals x) (item_from 0 (items_of st.tree) x) refl refl
    where
      by_open : (i : ℕ) (b : Bool) → is_open (formal_at s spot i) ≡ b → formal_from 0 st.tree.formals x ≡ Some i → (if b then part.Waits i else part.Known (told (formal_at s spot i))) ≡ part.Known f → Judged f
      by_open i true o formal h = cc
      by_open i false o formal h =
          subst Judged (same_known (told (formal_at s spot i)) f h)
          (told_judged (formal_at s spot i) o
          (subst (IsTold (program_of s) (rows s) at.place x) (sym (formal_by_rows s spot i)) (ready.told.told spot i at.place x (head_of i e formal))))

      by_item : (g : Found) → formal_from 0 st.tree.formals x ≡ None → part_at s spot true x ≡ g → part.Known g ≡ part.Known f → Judged f
      by_item g none is_g h = (
        subst (IsFound (program_of s) at.place (x ∷ [])) (is_g ∙ same_known g f h)
            (one_found s ready.set spot at st x (λ i formal. never i (sym none ∙ formal))),
        not_formal_shut none,
      )

      by_both : (o i : Option ℕ) → formal_from 0 st.tree.formals x ≡ o → item_from 0 (items_of st.tree) x ≡ i → Judged f
      by_both (Some i) j eo ei =
          by_open i (is_open (formal_at s spot i)) refl eo (ap (λ q. known_by s spot (step_by_local s spot true x q)) (sym (locals_are (Some i) j eo ei)) ∙ is)
      by_both None (Some k) eo ei =
          by_item (own_at s spot k) eo (ap (by_local s spot true x) (locals_are None (Some k) eo ei))
          (ap (λ q. known_by s spot (step_by_local s spot true x q)) (sym (locals_are None (Some k) eo ei)) ∙ is)
      by_both None None eo ei =
          by_item (symbol_at s x) eo (ap (by_local s spot true x) (locals_are None None eo ei))
          (ap (λ q. known_by s spot (step_by_local s spot true x q)) (sym (locals_are None None eo ei)) ∙ is)

  open_is : (k : Formal) → is_open k ≡ true → IsOpen k
  open_is known.Unknown o = tt
  open_is known.Begun o = tt
  open_is known.Circle o = let bad : false ≡ true = o in cc
  open_is (known.Means f) o = let bad : false ≡ true = o in cc

  pub part_waits : slice_get (instances_of (program_of s)) spot ≡ Some at → (i : ℕ) → known_at s spot x ≡ part.Waits i → IsHead (program_of s) spot i at.place x × IsOpen (formal_of (rows s) spot i)
  part_waits e i is = by_both (formal_from 0 st.tree.formals x) (item_from 0 (items_of st.tree) x) refl refl
    where
      same_wait : (j : ℕ) → part.Waits j ≡ part.Waits i → j ≡ i
      same_wait j h = cc

      by_open : (j : ℕ) (b : Bool) → is_open (formal_at s spot j) ≡ b → formal_from 0 st.tree.formals x ≡ Some j → (if b then part.Waits j else part.Known (told (formal_at s spot j))) ≡ part.Waits i →
          IsHead (program_of s) spot i at.place x × IsOpen (formal_of (rows s) spot i)
      by_open j true o formal h =
          let same : j ≡ i = same_wait j h in (
            head_of i e (formal ∙ ap Some same),
            subst (λ n. IsOpen (formal_of (rows s) spot n)) same (subst IsOpen (formal_by_rows s spot j) (open_is (formal_at s spot j) o)),
          )
      by_open j false o formal h = cc

      by_both : (o k : Option ℕ) → formal_from 0 st.tree.formals x ≡ o → item_from 0 (items_of st.tree) x ≡ k → IsHead (program_of s) spot i at.place x × IsOpen (formal_of (rows s) spot i)
      by_both (Some j) k eo ei =
          by_open j (is_open (formal_at s spot j)) refl eo (ap (λ q. known_by s spot (step_by_local s spot true x q)) (sym (locals_are (Some j) k eo ei)) ∙ is)
      by_both None (Some k) eo ei =
          let h : part.Known (own_at s spot k) ≡ part.Waits i = ap (λ q. known_by s spot (step_by_local s spot true x q)) (sym (locals_are None (Some k) eo ei)) ∙ is in cc
      by_both None None eo ei =
          let h : part.Known (symbol_at s x) ≡ part.Waits i = ap (λ q. known_by s spot (step_by_local s spot true x q)) (sym (locals_are None None eo ei)) ∙ is in cc

module _ (s : Scene) (ready : IsReady s) (f : LookUpFrame) (is : IsFrame (program_of s) (rows s) f) where
  st : Stand s ready.set f.here is.here
  st = stand s ready.set f.here is.here is.is_here

  -- the formal that the part is has no answer
  pub advance_waits : (i : ℕ) → known_at s f.here is.part ≡ part.Waits i → Waits (program_of s) (rows s) f i
  advance_waits i e =
      let w : IsHead (program_of s) f.here i is.here.place is.part × IsOpen (formal_of (rows s) f.here i) = part_waits s ready f.here is.here st is.part is.is_here i e in
      record { waits = record { spot_is = refl; part = is.part; more = is.more; rest = is.rest; place = is.here.place; head = w.0 }; unanswered = w.1 }

  answered : (m : Found) → IsFound (program_of s) is.here.place (is.part ∷ is.more) m → Shut (program_of s) (rows s) is.here.place (is.part ∷ is.more) → IsAnswer (program_of s) (rows s) f.spot f.formal m
  answered m found' shut' = record {
    at = is.at;
    name = is.name;
    head = is.head;
    found = found_after (suc is.steps) (program_of s) is.at (is.name ∷ []) (record { place = is.here.place; name = is.part ∷ is.more }) m is.after found';
    shut = beyond_from (program_of s) (rows s) is.at (is.name ∷ []) is.steps (record { place = is.here.place; name = is.part ∷ is.more }) is.after is.shut shut';
  }

  -- the part is the last one
  pub advance_last : (m : Found) → known_at s f.here is.part ≡ part.Known m → is.more ≡ [] → IsAnswer (program_of s) (rows s) f.spot f.formal m
  advance_last m e last =
      let j : IsFound (program_of s) is.here.place (is.part ∷ []) m × Shut (program_of s) (rows s) is.here.place (is.part ∷ []) = part_judged s ready f.here is.here st is.part is.is_here m e in
      answered m (subst (λ r. IsFound (program_of s) is.here.place (is.part ∷ r) m) (sym last) j.0)
      (subst (λ r. Shut (program_of s) (rows s) is.here.place (is.part ∷ r)) (sym last) j.1)

  -- the part means no instance, and others follow
  ends_here : (y : Text) (rest : Path) → is.more ≡ y ∷ rest → (m : Found) → known_at s f.here is.part ≡ part.Known m → ((k : ℕ) → m ≡ found.Instance k → ⊥) →
      IsAnswer (program_of s) (rows s) f.spot f.formal (found_inside (λ k. found.Nothing) m)
  ends_here y rest more m e other =
      let j : IsFound (program_of s) is.here.place (is.part ∷ []) m × Shut (program_of s) (rows s) is.here.place (is.part ∷ []) = part_judged s ready f.here is.here st is.part is.is_here m e in
      answered (found_inside (λ k. found.Nothing) m)
      (subst (λ r. IsFound (program_of s) is.here.place (is.part ∷ r) (found_inside (λ k. found.Nothing) m)) (sym more)
      (found_parts (program_of s) is.here.place is.part y rest (λ k. found.Nothing) m j.0 (λ k i h there. absurd (other k h))))
      (subst (λ r. Shut (program_of s) (rows s) is.here.place (is.part ∷ r)) (sym more)
      (shut_more (program_of s) (rows s) is.here.place is.part y rest (no_instance (program_of s) is.here.place (is.part ∷ []) m j.0 other) j.1))

  -- inside the instance that the part means
  goes_inside : (y : Text) (rest : Path) → is.more ≡ y ∷ rest → (k : ℕ) → known_at s f.here is.part ≡ part.Known (found.Instance k) → (left : Bor Path) → left.now ≡ y ∷ rest →
      GoesOn (program_of s) (rows s) f (record { spot = f.spot; formal = f.formal; here = k; rest = left })
  goes_inside y rest more k e left is_left =
      by_meaning j.0.0 j.0.1 j.0.2
    where
      j : IsFound (program_of s) is.here.place (is.part ∷ []) (found.Instance k) × Shut (program_of s) (rows s) is.here.place (is.part ∷ [])
      j = part_judged s ready f.here is.here st is.part is.is_here (found.Instance k) e

      Goal : Type 0
      Goal = GoesOn (program_of s) (rows s) f (record { spot = f.spot; formal = f.formal; here = k; rest = left })

      at_instance : (i : FlatInstance) → slice_get (instances_of (program_of s)) k ≡ Some i → Means (program_of s) is.here.place (is.part ∷ []) (an_instance_at i.place) →
          GoesOn (program_of s) (rows s) f (record { spot = f.spot; formal = f.formal; here = k; rest = left })
      at_instance i there means = record {
        frame = record {
          at = is.at;
          name = is.name;
          head = is.head;
          here = i;
          is_here = there;
          part = y;
          more = rest;
          rest = is_left;
          steps = r.steps + suc is.steps;
          after = ap (λ n. look_after n (program_of s) is.at (is.name ∷ [])) count ∙ steps_more (suc r.steps) (suc is.steps) (program_of s) is.at (is.name ∷ []) (record { place = is.here.place; name = is.part ∷ (y ∷ rest) }) after_here ∙ r.there;
          shut = λ n lt. by_order n lt (ltb n is.steps) refl;
        };
        spot = refl;
        formal = refl;
      }
        where
          r : Reach (program_of s) is.here.place (is.part ∷ []) i.place y rest
          r = reach means.0 (program_of s) is.here.place (is.part ∷ []) i.place y rest means.1

          after_here : look_after (suc is.steps) (program_of s) is.at (is.name ∷ []) ≡ Some (record { place = is.here.place; name = is.part ∷ (y ∷ rest) })
          after_here = is.after ∙ ap (λ ws. Some (record { place = is.here.place; name = is.part ∷ ws })) more

          count : suc (r.steps + suc is.steps) ≡ suc r.steps + suc is.steps
          count = omega arith

          by_order : (n : ℕ) → n < r.steps + suc is.steps → (b : Bool) → ltb n is.steps ≡ b → ShutAt (program_of s) (rows s) (look_after (suc n) (program_of s) is.at (is.name ∷ []))
          by_order n lt true o = is.shut n (ltb-true n is.steps o)
          by_order n lt false o =
              let le : is.steps ≤ n = ltb-false n is.steps o in
              let same : (n - is.steps) + suc is.steps ≡ suc n = omega (arith, le) in
              let within : n - is.steps ≤ r.steps = omega (arith, le, lt) in
              let own : (l : Look) × (look_after (n - is.steps) (program_of s) is.here.place (is.part ∷ []) ≡ Some l) = r.own (n - is.steps) within in
              shut_same (program_of s) (rows s) (look_after (n - is.steps) (program_of s) is.here.place (is.part ∷ (y ∷ rest))) (look_after (suc n) (program_of s) is.at (is.name ∷ []))
              (sym (steps_more (n - is.steps) (suc is.steps) (program_of s) is.at (is.name ∷ []) (record { place = is.here.place; name = is.part ∷ (y ∷ rest) }) after_here) ∙ ap (λ q. look_after q (program_of s) is.at (is.name ∷ [])) same)
              (shut_own (program_of s) (rows s) is.here.place is.part (y ∷ rest) (n - is.steps) own.0 own.1 j.1)

      by_meaning : (m : Meaning) → Means (program_of s) is.here.place (is.part ∷ []) m → Denotes (program_of s) (found.Instance k) m →
          GoesOn (program_of s) (rows s) f (record { spot = f.spot; formal = f.formal; here = k; rest = left })
      by_meaning (a_variable_at a z) means d = absurd d
      by_meaning (an_expression_at key a q) means d = absurd d
      by_meaning (an_instance_at inside) means d = at_instance d.0 d.1 (subst (λ a. Means (program_of s) is.here.place (is.part ∷ []) (an_instance_at a)) (sym d.2) means)
      by_meaning (a_symbol z) means d = absurd d

  shorter : (y : Text) (rest : Path) → is.more ≡ y ∷ rest → (left : Bor Path) → left.now ≡ y ∷ rest → length left.now < length f.rest.now
  shorter y rest more left is_left =
      let new : length left.now ≡ suc (length rest) = ap (λ (ws : Path). length ws) is_left in
      let old : length f.rest.now ≡ suc (suc (length rest)) = ap (λ (ws : Path). length ws) (is.rest ∙ ap (λ ws. is.part ∷ ws) more) in
      omega (arith, new, old)

  pub advance_more : (y : Text) (rest : Path) → is.more ≡ y ∷ rest → (m : Found) → known_at s f.here is.part ≡ part.Known m → (left : Bor Path) → left.now ≡ y ∷ rest →
      IsProgress (program_of s) (rows s) f (gone_inside f left m)
  advance_more y rest more (found.Instance k) e left is_left = (goes_inside y rest more k e left is_left, shorter y rest more left is_left)
  advance_more y rest more found.Loop e left is_left = ends_here y rest more found.Loop e (λ k h. loop_other k h)
    where
      loop_other : (k : ℕ) → found.Loop ≡ found.Instance k → ⊥
      loop_other k h = cc
  advance_more y rest more found.Nothing e left is_left = ends_here y rest more found.Nothing e (λ k h. nothing_other k h)
    where
      nothing_other : (k : ℕ) → found.Nothing ≡ found.Instance k → ⊥
      nothing_other k h = cc
  advance_more y rest more (found.Variable n r) e left is_left = ends_here y rest more (found.Variable n r) e (λ k h. variable_other k h)
    where
      variable_other : (k : ℕ) → found.Variable n r ≡ found.Instance k → ⊥
      variable_other k h = cc
  advance_more y rest more (found.Definition n) e left is_left = ends_here y rest more (found.Definition n) e (λ k h. definition_other k h)
    where
      definition_other : (k : ℕ) → found.Definition n ≡ found.Instance k → ⊥
      definition_other k h = cc
  advance_more y rest more (found.Symbol n) e left is_left = ends_here y rest more (found.Symbol n) e (λ k h. symbol_other k h)
    where
      symbol_other : (k : ℕ) → found.Symbol n ≡ found.Instance k → ⊥
      symbol_other k h = cc

-- the look-up of a formal begins at its actual
pub actual_there : (es : List Formula) (k : ℕ) (e : Formula) → slice_get es k ≡ Some e → nth_formula es k ≡ Some e
actual_there [] k e h = never e h
actual_there (x ∷ es) zero e h = h
actual_there (x ∷ es) (suc k) e h = actual_there es k e h

pub frame_made : (s : Scene) → IsReady s → (f : LookUpFrame) → IsFormal (program_of s) f.spot f.formal → (own : Spot) → slice_get s.spots.items f.spot ≡ Some own → f.here ≡ own.caller →
    (e : Expr Path) → slice_get own.actuals.now f.formal ≡ Some e → plain_name (tree_of e) ≡ Some f.rest.now → 0 < length f.rest.now → IsFrame (program_of s) (rows s) f
frame_made s ready f formal own is here e there plain some = by_place head.instance.place head.place called
  where
    p : ProgramTree
    p = program_of s

    head : IsHead (program_of s) f.spot f.formal formal.0 formal.1
    head = formal.2

    st : Stand s ready.set f.spot head.instance
    st = stand s ready.set f.spot head.instance head.is

    same_own : st.own ≡ own
    same_own = of_some st.own own (sym st.is ∙ is)

    called : IsCalled (program_of s) head.instance head.instance.place own.caller (map tree_of own.actuals.now)
    called = subst (λ (w : Spot). IsCalled (program_of s) head.instance head.instance.place w.caller (map tree_of w.actuals.now)) same_own st.fits.placed.called

    listed : slice_get (map tree_of own.actuals.now) f.formal ≡ Some (tree_of e)
    listed = get_map tree_of own.actuals.now f.formal ∙ ap (option_map tree_of) there

    by_parts : (caller : FlatInstance) (at' : Place) (x' : Text) → slice_get (instances_of (program_of s)) own.caller ≡ Some caller → (name : Path) → f.rest.now ≡ name → 0 < length name →
        step_of (program_of s) formal.0 (formal.1 ∷ []) ≡ at_actual caller.place (plain_of (Some (tree_of e))) [] → IsFrame (program_of s) (rows s) f
    by_parts caller at' x' is_caller [] is_name lt step = absurd (omega (arith, lt))
    by_parts caller at' x' is_caller (y ∷ more) is_name lt step = record {
      at = formal.0;
      name = formal.1;
      head = formal.2;
      here = caller;
      is_here = ap (slice_get (instances_of (program_of s))) here ∙ is_caller;
      part = y;
      more = more;
      rest = is_name;
      steps = 0;
      after =
          step ∙ ap (λ o. at_actual caller.place o []) (plain ∙ ap Some is_name)
          ∙ ap (λ ws. Some (record { place = caller.place; name = y ∷ ws })) (append-nil more);
      shut = λ n lt'. absurd (omega (arith, lt'));
    }

    by_place : (place : Place) → place ≡ formal.0 → IsCalled (program_of s) head.instance place own.caller (map tree_of own.actuals.now) → IsFrame (program_of s) (rows s) f
    by_place [] same none = never (tree_of e) (sym (ap (λ es. slice_get es f.formal) none) ∙ listed)
    by_place (o ∷ caller) same c =
        by_parts c.0.0 formal.0 formal.1 c.0.1 f.rest.now refl some
        (ap (λ a. step_of (program_of s) a (formal.1 ∷ [])) (sym same)
        ∙ ap (λ k. step_kind (program_of s) (o ∷ caller) k formal.1 [])
        (ap (λ a. kind_at (module_at (program_of s) a) formal.1) same ∙ head_kind (program_of s) ready.set.walkable f.spot f.formal formal.0 formal.1 formal.2)
        ∙ ap (λ k. at_actual caller (plain_of (actual_of_kind k f.formal)) []) c.1
        ∙ ap (λ q. at_actual caller (plain_of q) []) (actual_there (map tree_of own.actuals.now) f.formal (tree_of e) listed)
        ∙ ap (λ a. at_actual a (plain_of (Some (tree_of e))) []) (sym c.0.2))

-- the parts after the first one
pub first_is : (parts : Path) (x : Text) (more : Path) (r : Text) → parts ≡ x ∷ more → r ≡ get_or parts 0 r → r ≡ x
first_is parts x more r is e = e ∙ ap (λ ws. get_or ws 0 r) is

pub tail_taken : (parts : Path) (x : Text) (more : Path) → parts ≡ x ∷ more → take (length parts - 1) (drop 1 parts) ≡ more
tail_taken parts x more is =
    ap (λ (ws : Path). take (length ws - 1) (drop 1 ws)) is ∙ take_all (suc (length more) - 1) more (omega arith)

none_left : (xs : Path) → length xs ≡ 0 → xs ≡ []
none_left [] e = refl
none_left (x ∷ xs) e = absurd (omega (arith, e))

pub last_empty : (parts : Path) (x : Text) (more : Path) → parts ≡ x ∷ more → true ≡ (length (take (length parts - 1) (drop 1 parts)) == 0) → more ≡ []
last_empty parts x more is e = none_left more (ap (λ (ws : Path). length ws) (sym (tail_taken parts x more is)) ∙ eqb-true (length (take (length parts - 1) (drop 1 parts))) 0 (sym e))

pub some_more : (parts : Path) (x : Text) (more : Path) → parts ≡ x ∷ more → false ≡ (length (take (length parts - 1) (drop 1 parts)) == 0) → (y : Text) × (rest : Path) × (more ≡ y ∷ rest)
some_more parts x [] is e =
    absurd (not_both (e ∙ eq-eqb (length (take (length parts - 1) (drop 1 parts))) 0 (ap (λ (ws : Path). length ws) (tail_taken parts x [] is))))
  where
    not_both : false ≡ true → ⊥
    not_both h = cc
some_more parts x (y ∷ more) is e = (y, more, refl)
