-- Top events one after the other: what is so of each, and the first that is none.
use Rattle.std.proofs.Common.{arith, ◌≡◌, ⊎_elim, ℕ, zero, suc, ◌+◌, ◌<◌, ◌≤◌, ◌++◌, List, [], ◌∷◌, Option, Some, None, IfSome, length, map, take, get_or, refl, sym, ap, subst, ◌∙◌}
use Rattle.std.specs.Prelude.{slice_get}
use Rattle.std.proofs.lemmas.Bool.{cases_lt}
use Rattle.std.proofs.lemmas.List.{take_more, take_all}
use Rattle.base_files.specs.declared.files.NamedFile.{NamedFile}
use Rattle.smv_language.specs.Language.{Tree, Each, EachBoth, Text, Formula, ProgramTree, FlatLeaf}
use Rattle.fault_extend.proofs.EachItem.{item_there}
use Rattle.smv_flat_laws.proofs.Lists.{each_of_map}
use Rattle.verb_loading.specs.declared.status.InputFault.{InputFault}
use Rattle.verb_loading.specs.declared.status.Refusal.{Refusal}
use Rattle.verb_loading.specs.declared.status.Refusal.TheVariants as refusal
use Rattle.verb_loading.specs.declared.wrong.Wrong.{Wrong}
use Rattle.verb_loading.specs.declared.wrong.Wrong.TheVariants as wrong
use Rattle.verb_loading.specs.declared.input.Stop.TheVariants as stop
use Rattle.verb_loading.specs.Wrongs.{IfRefused}
use Rattle.verb_loading.specs.Inputs.{IsRefusedFile, HasBytes, RefusesModel, HoldsModel, RefusesFaults}
use Rattle.verb_loading.specs.Cases.{Case, HoldsCase, IsTop, IsWrongTop, by_names, by_kinds, HoldsTops}
use Rattle.verb_loading.specs.Tasks.{IsTopTree}
use Rattle.verb_loading.specs.declared.input.Input.TheVariants as input
use Rattle.verb_loading.specs.Inputs.{stop_at}
use Rattle.verb_run.specs.Tables.{IsEventOf, told_at, AreTopTexts, IsWrongTops, RefusesTops, tops_file, tops_bytes, RefusesTable, table_no_model, table_no_faults, table_no_tops}
use Rattle.verb_loading.proofs.OneFaults.{same_given as same_item}
use Rattle.smv_flat_laws.proofs.BothLaws.{both_push}

-- what is wrong with an event is told at any place
pub wrong_at : (p : ProgramTree) (e : Formula) (a : InputFault) (place : ℕ) → IsWrongTop p e 0 a → IsWrongTop p e place (record { part = a.part; number = a.number; place = place })
wrong_at p e a place (by_names r least is) = by_names r least (ap (λ (b : InputFault). record { part = b.part; number = b.number; place = place }) is)
wrong_at p e a place (by_kinds m t r none has resolved told is) = by_kinds m t r none has resolved told (ap (λ (b : InputFault). record { part = b.part; number = b.number; place = place }) is)

pub refused_at : (p : ProgramTree) (e : Formula) (place : ℕ) (w : Wrong) → IfRefused (IsWrongTop p e 0) w → IfRefused (IsWrongTop p e place) (told_at place w)
refused_at p e place (wrong.Refused a) bad = wrong_at p e a place bad
refused_at p e place wrong.Memory bad = tt

-- all before a place
abbrev pub AreBefore : {A : Type 0} → (A → Type 0) → List A → ℕ → Type 0
AreBefore {A} P xs n = (j : ℕ) (x : A) → j < n → slice_get xs j ≡ Some x → P x

pub one_more : {A B : Type 0} (P : B → Type 0) (f : A → B) (xs : List A) (i : ℕ) (x : A) → i < length xs → x ≡ get_or xs i x → AreBefore P (map f xs) i → P (f x) → AreBefore P (map f xs) (i + 1)
one_more P f xs i x below here before so j y less there =
    ⊎_elim (λ early. before j y early there)
    (λ late. let at : j ≡ i = omega (arith, late, less) in subst P (same_item (item_there f xs i x below here) (subst (λ k. slice_get (map f xs) k ≡ Some y) at there)) so)
    (cases_lt j i)

-- where all are so before the end, each is
pub each_of : {A : Type 0} (P : A → Type 0) (xs : List A) → AreBefore P xs (length xs) → Each P xs
each_of P [] h = tt
each_of P (x ∷ xs) h = (h 0 x (omega arith) refl, each_of P xs (λ j y less there. h (suc j) y (omega (arith, less)) there))

pub each_at : {A : Type 0} (P : A → Type 0) (xs : List A) (i : ℕ) (x : A) → Each P xs → i < length xs → x ≡ get_or xs i x → P x
each_at P [] i x h below here = absurd (omega (arith, below))
each_at P (y ∷ xs) zero x h below here = subst P (sym here) h.0
each_at P (y ∷ xs) (suc i) x h below here = each_at P xs i x h.1 (omega (arith, below)) here

-- one pair more, where the first list is read place by place
pub both_next : {A B : Type 0} (R : A → B → Type 0) (xs : List A) (ys more : List B) (i : ℕ) (x : A) (y : B) → i < length xs → x ≡ get_or xs i x → EachBoth R (take i xs) ys → R x y → more ≡ ys ++ y ∷ [] →
    EachBoth R (take (i + 1) xs) more
both_next R xs ys more i x y below here h is pushed =
    subst (EachBoth R (take (i + 1) xs)) (sym pushed)
    (subst (λ l. EachBoth R l (ys ++ y ∷ [])) (ap (λ z. take i xs ++ z ∷ []) here ∙ sym (take_more xs i x below)) (both_push R (take i xs) ys x y h is))

pub both_whole : {A B : Type 0} (R : A → B → Type 0) (xs : List A) (ys : List B) (i : ℕ) → length xs ≤ i → EachBoth R (take i xs) ys → EachBoth R xs ys
both_whole R xs ys i past h = subst (λ l. EachBoth R l ys) (take_all i xs past) h

pub both_back : {A B C : Type 0} (R : A → C → Type 0) (g : B → C) (xs : List A) (ys : List B) → EachBoth R xs (map g ys) → EachBoth (λ x y. R x (g y)) xs ys
both_back R g [] [] h = tt
both_back R g [] (b ∷ ys) h = absurd h
both_back R g (a ∷ xs) [] h = absurd h
both_back R g (a ∷ xs) (b ∷ ys) h = (h.0, both_back R g xs ys h.1)

pub both_of : {A B C D : Type 0} (R : C → D → Type 0) (f : A → C) (g : B → D) (xs : List A) (ys : List B) → EachBoth (λ x y. R (f x) (g y)) xs ys → EachBoth R (map f xs) (map g ys)
both_of R f g [] [] h = tt
both_of R f g [] (b ∷ ys) h = absurd h
both_of R f g (a ∷ xs) [] h = absurd h
both_of R f g (a ∷ xs) (b ∷ ys) h = (h.0, both_of R f g xs ys h.1)

pub both_zip : {A B : Type 0} (P : A → Type 0) (R S : A → B → Type 0) → ((x : A) (y : B) → P x → R x y → S x y) → (xs : List A) (ys : List B) → Each P xs → EachBoth R xs ys → EachBoth S xs ys
both_zip P R S so [] [] ps h = tt
both_zip P R S so [] (b ∷ ys) ps h = absurd h
both_zip P R S so (a ∷ xs) [] ps h = absurd h
both_zip P R S so (a ∷ xs) (b ∷ ys) ps h = (so a b ps.0 h.0, both_zip P R S so xs ys ps.1 h.1)

-- over the second list, what is so of each that pairs with one of the first
pub both_over : {A B C : Type 0} (R : A → B → Type 0) (S : B → C → Type 0) (T : A → C → Type 0) → ((x : A) (y : B) (z : C) → R x y → S y z → T x z) → (xs : List A) (ys : List B) (zs : List C) →
    EachBoth R xs ys → EachBoth S ys zs → EachBoth T xs zs
both_over R S T so [] [] [] h g = tt
both_over R S T so [] [] (c ∷ zs) h g = absurd g
both_over R S T so [] (b ∷ ys) zs h g = absurd h
both_over R S T so (a ∷ xs) [] zs h g = absurd h
both_over R S T so (a ∷ xs) (b ∷ ys) [] h g = absurd g
both_over R S T so (a ∷ xs) (b ∷ ys) (c ∷ zs) h g = (so a b c h.0 g.0, both_over R S T so xs ys zs h.1 g.1)

-- the second of a place has a first
pub first_at : {A B C : Type 0} (R : A → C → Type 0) (f : B → C) (xs : List A) (ys : List B) (i : ℕ) (y : B) → EachBoth R xs (map f ys) → i < length ys → y ≡ get_or ys i y → (x : A) × R x (f y)
first_at R f [] [] i y h below here = absurd (omega (arith, below))
first_at R f [] (b ∷ ys) i y h below here = absurd h
first_at R f (a ∷ xs) [] i y h below here = absurd (omega (arith, below))
first_at R f (a ∷ xs) (b ∷ ys) zero y h below here = (a, subst (λ c. R a (f c)) (sym here) h.0)
first_at R f (a ∷ xs) (b ∷ ys) (suc i) y h below here = first_at R f xs ys i y h.1 (omega (arith, below)) here

-- top events of the program, with their expressions over the flat model of the extension
pub are_events : (c : Case) {A B : Type 0} (f : A → Formula) (g : B → Tree FlatLeaf) (xs : List A) (ys : List B) → Each (IsTop c.program) (map f xs) → EachBoth (λ x y. IsTopTree c (f x) (g y)) xs ys →
    EachBoth (IsEventOf c) (map f xs) (map g ys)
are_events c f g xs ys tops trees =
    both_of (IsEventOf c) f g xs ys
    (both_zip (λ x. IsTop c.program (f x)) (λ x y. IsTopTree c (f x) (g y)) (λ x y. IsEventOf c (f x) (g y)) (λ x y top tree. record { is_top = top; is_tree = tree }) xs ys (each_of_map (IsTop c.program) f xs tops) trees)

-- The file.
pub refuses_tops_file : (told : Option (List NamedFile)) (name : Text) (p : ProgramTree) (r : Refusal) (a : InputFault) → r ≡ refusal.Top a → IfSome told (λ files. IsRefusedFile files name a) →
    IfSome told (λ files. RefusesTops files name p r)
refuses_tops_file None name p r a is refused = tt
refuses_tops_file (Some files) name p r a is refused = tops_file a is refused

pub refuses_tops_bytes : (told : Option (List NamedFile)) (name : Text) (p : ProgramTree) (bytes : List ℕ) (w : Wrong) (r : Refusal) → stop.Refused r ≡ stop_at input.Top w →
    IfSome told (λ files. HasBytes files name bytes) → IfRefused (IsWrongTops p bytes) w → IfSome told (λ files. RefusesTops files name p r)
refuses_tops_bytes None name p bytes w r is has bad = tt
refuses_tops_bytes (Some files) name p bytes (wrong.Refused a) r is has bad = let same : r ≡ refusal.Top a = cc in tops_bytes bytes a same has bad
refuses_tops_bytes (Some files) name p bytes wrong.Memory r is has bad = cc

pub holds_tops : (told : Option (List NamedFile)) (name : Text) (p : ProgramTree) (bytes : List ℕ) (es : List Formula) → IfSome told (λ files. HasBytes files name bytes) → AreTopTexts bytes es → Each (IsTop p) es →
    IfSome told (λ files. HoldsTops files name p es)
holds_tops None name p bytes es has texts tops = tt
holds_tops (Some files) name p bytes es has texts tops =
    record { bytes = bytes; has = has; spelled = texts.text.spelled; only = texts.text.only; depths = texts.text.depths; few = texts.few; are_tops = tops }

-- The three files.
module _ (model faults tops : Text) where
  pub table_model_refused : (told : Option (List NamedFile)) (r : Refusal) → IfSome told (λ files. RefusesModel files model r) → IfSome told (λ files. RefusesTable files model faults tops r)
  table_model_refused None r bad = tt
  table_model_refused (Some files) r bad = table_no_model bad

  pub table_faults_refused : (told mid : Option (List NamedFile)) (p : ProgramTree) (r : Refusal) → mid ≡ told → IfSome told (λ files. HoldsModel files model p) →
      IfSome mid (λ files. RefusesFaults files faults p r) → IfSome told (λ files. RefusesTable files model faults tops r)
  table_faults_refused told mid p r same holds bad = at_told told holds (subst (λ t. IfSome t (λ files. RefusesFaults files faults p r)) same bad) where
    at_told : (t : Option (List NamedFile)) → IfSome t (λ files. HoldsModel files model p) → IfSome t (λ files. RefusesFaults files faults p r) →
        IfSome t (λ files. RefusesTable files model faults tops r)
    at_told None holds bad = tt
    at_told (Some files) holds bad = table_no_faults p holds bad

  pub table_tops_refused : (told mid : Option (List NamedFile)) (c : Case) (r : Refusal) → mid ≡ told → IfSome told (λ files. HoldsCase files model faults c) →
      IfSome mid (λ files. RefusesTops files tops c.program r) → IfSome told (λ files. RefusesTable files model faults tops r)
  table_tops_refused told mid c r same holds bad = at_told told holds (subst (λ t. IfSome t (λ files. RefusesTops files tops c.program r)) same bad) where
    at_told : (t : Option (List NamedFile)) → IfSome t (λ files. HoldsCase files model faults c) → IfSome t (λ files. RefusesTops files tops c.program r) →
        IfSome t (λ files. RefusesTable files model faults tops r)
    at_told None holds bad = tt
    at_told (Some files) holds bad = table_no_tops c holds bad
