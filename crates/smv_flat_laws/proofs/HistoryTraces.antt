-- The traces of a model with history bits are those of the model, each with the bits of its history.
use Rattle.std.proofs.Common.{◌≡◌, ℕ, zero, suc, ◌<◌, Bool, true, ◌||◌, List, [], ◌∷◌, ◌++◌, length, map, Option, Some, refl, ap, ◌∙◌, sym, subst, arith}
use Rattle.std.proofs.lemmas.List.{append_assoc, length-map}
use Rattle.std.specs.Prelude.{slice_get, ◌↔◌, IsTrue}
use Rattle.smv_language.specs.declared.expr.Op.TheVariants as op
use Rattle.smv_language.specs.Language.{Text, boolean, Value, symbol, Values, one, evaluate, gives_within, gives_applied, Each, EachPair, in_domain, FlatLeaf, flat_variable, flat_symbol, flat_definition, FlatVariable, FlatFormula, FlatModel, one_of, symbol_of, flat_leaves, definition_gives, table_after, leaves_at, Holds}
use Rattle.smv_language.specs.Values.{truth, number}
use Rattle.smv_flat_laws.specs.NameResolution.{leaves_in}
use Rattle.smv_flat_laws.specs.History.{Mode, bit_variables, bit_at_first, bit_at_step, bits_at_first, bits_at_step, with_history}
use Rattle.smv_flat_laws.specs.FlatTrace.{AreInDomains, IsFlatMoment, IsFlatStep, IsFlatTrace, is_symbol_value, stands, stands_in_some, bits_after, told_from, IsOwnName, IsOwnFormula, NamesOwn, IsModeOf}
use Rattle.smv_flat_laws.proofs.Lists.{length_end, each_more}
use Rattle.smv_flat_laws.proofs.Reaches.{each_left, each_right}
use Rattle.smv_flat_laws.proofs.Conditions.{each_join, MayBe, within_iff, may_one}
use Rattle.smv_flat_laws.proofs.Now.{BothSame, same_on}
use Rattle.smv_language.proofs.BoolLaws.{iff_trans, or_false, or_grouped}
use Rattle.base_values.proofs.ListLaws.{get_left, get_within}

-- More values change nothing for formulas that do not read them.
pub get_before : {A : Type 0} (xs ys : List A) (i : ℕ) → i < length xs → slice_get (xs ++ ys) i ≡ slice_get xs i
get_before {A = A} xs ys i h = let x : (x : A) × (slice_get xs i ≡ Some x) = get_within xs i h in get_left xs ys i x.0 x.1 ∙ sym x.1

leaf_longer : (symbols : List Text) (v more : List Value) (table : List (Option Values)) (l : FlatLeaf) → IsOwnName (length v) l →
    flat_leaves symbols (v ++ more) table l ≡ flat_leaves symbols v table l
leaf_longer symbols v more table (flat_variable i) h = ap one_of (get_before v more i h)
leaf_longer symbols v more table (flat_symbol i) h = refl
leaf_longer symbols v more table (flat_definition i) h = refl

gives_longer : (symbols : List Text) (v more : List Value) (table : List (Option Values)) (d : FlatFormula) → IsOwnFormula (length v) d →
    definition_gives symbols (v ++ more) table d ≡ definition_gives symbols v table d
gives_longer symbols v more table d own =
    same_on d.value (flat_leaves symbols (v ++ more) table) (flat_leaves symbols (v ++ more) table) (flat_leaves symbols v table) (flat_leaves symbols v table)
    (each_more (IsOwnName (length v)) (BothSame FlatLeaf (flat_leaves symbols (v ++ more) table) (flat_leaves symbols (v ++ more) table) (flat_leaves symbols v table) (flat_leaves symbols v table)) (leaves_in d.value)
    (λ l h. record { now = leaf_longer symbols v more table l h; next = leaf_longer symbols v more table l h }) own)

table_longer : (symbols : List Text) (v more : List Value) (table : List (Option Values)) (ds : List FlatFormula) → Each (IsOwnFormula (length v)) ds →
    table_after symbols (v ++ more) table ds ≡ table_after symbols v table ds
table_longer symbols v more table [] own = refl
table_longer symbols v more table (d ∷ ds) own =
    ap (λ g. table_after symbols (v ++ more) (table ++ g ∷ []) ds) (gives_longer symbols v more table d own.0)
    ∙ table_longer symbols v more (table ++ definition_gives symbols v table d ∷ []) ds own.1

pub leaves_longer : (m : FlatModel) (v more : List Value) → Each (IsOwnFormula (length v)) m.definitions → (l : FlatLeaf) → IsOwnName (length v) l →
    leaves_at m (v ++ more) l ≡ leaves_at m v l
leaves_longer m v more own l h =
    ap (λ t. flat_leaves m.symbols (v ++ more) t l) (table_longer m.symbols v more [] m.definitions own)
    ∙ leaf_longer m.symbols v more (table_after m.symbols v [] m.definitions) l h

-- a formula of the model holds of longer valuations where it holds of those
pub holds_longer : (m : FlatModel) (v w bs cs : List Value) → length w ≡ length v → Each (IsOwnFormula (length v)) m.definitions → (f : FlatFormula) → IsOwnFormula (length v) f →
    evaluate (leaves_at m (v ++ bs)) (leaves_at m (w ++ cs)) f.value ≡ evaluate (leaves_at m v) (leaves_at m w) f.value
holds_longer m v w bs cs long own f reads =
    let own' : Each (IsOwnFormula (length w)) m.definitions = subst (λ n. Each (IsOwnFormula n) m.definitions) (sym long) own in
    same_on f.value (leaves_at m (v ++ bs)) (leaves_at m (w ++ cs)) (leaves_at m v) (leaves_at m w)
    (each_more (IsOwnName (length v)) (BothSame FlatLeaf (leaves_at m (v ++ bs)) (leaves_at m (w ++ cs)) (leaves_at m v) (leaves_at m w)) (leaves_in f.value)
    (λ l h. record {
      now = leaves_longer m v bs own l h;
      next = leaves_longer m w cs own' l (subst (λ n. IsOwnName n l) (sym long) h);
    }) reads)

all_longer : (m : FlatModel) (fs : List Mode) (v w bs cs : List Value) → length w ≡ length v → Each (IsOwnFormula (length v)) m.definitions → (gs : List FlatFormula) → Each (IsOwnFormula (length v)) gs →
    (Each (Holds (with_history m fs) (v ++ bs) (w ++ cs)) gs ↔ Each (Holds m v w) gs)
all_longer m fs v w bs cs long own [] reads = ((λ h. tt), (λ h. tt))
all_longer m fs v w bs cs long own (g ∷ gs) reads =
    let same : evaluate (leaves_at m (v ++ bs)) (leaves_at m (w ++ cs)) g.value ≡ evaluate (leaves_at m v) (leaves_at m w) g.value = holds_longer m v w bs cs long own g reads.0 in
    let rest : Each (Holds (with_history m fs) (v ++ bs) (w ++ cs)) gs ↔ Each (Holds m v w) gs = all_longer m fs v w bs cs long own gs reads.1 in
    ((λ h. (subst (λ o. MayBe o (truth true)) same h.0, rest.0 h.1)), (λ h. (subst (λ o. MayBe o (truth true)) (sym same) h.0, rest.1 h.1)))

-- What the formulas of bits ask.
-- the mode's variable has a symbol here, and the mode's symbol is one of the model
pub record IsRead (m : FlatModel) (u : List Value) (f : Mode) : Type 0 where
  pub text : Text
  pub wanted : Text
  pub has : slice_get u f.variable ≡ Some (symbol text)
  pub of_model : slice_get m.symbols f.symbol ≡ Some wanted

stands_gives : (m : FlatModel) (u : List Value) (f : Mode) → IsRead m u f →
    gives_applied op.Equal (one_of (slice_get u f.variable)) (symbol_of (slice_get m.symbols f.symbol)) ≡ Some (one (truth (stands m f u)))
stands_gives m u f r = rw (r.has, r.of_model) refl

-- `in` with one value on each side holds where they are the same
pub within_one : (a b : Option Values) (x y : Value) → a ≡ Some (one x) → b ≡ Some (one y) → (MayBe (gives_within a b) (truth true) ↔ (x ≡ y))
within_one a b x y e g =
    subst (λ o. MayBe (gives_within o b) (truth true) ↔ (x ≡ y)) (sym e)
    (subst (λ o. MayBe (gives_within (Some (one x)) o) (truth true) ↔ (x ≡ y)) (sym g) (iff_trans (within_iff (Some (one y)) x) (may_one y x)))

pub get_middle : {A : Type 0} (xs ys : List A) (x : A) → slice_get (xs ++ x ∷ ys) (length xs) ≡ Some x
get_middle [] ys x = refl
get_middle (y ∷ xs) ys x = get_middle xs ys x

pub joined : (a b : List Value) (as' bs : List (List Value)) → a ≡ b → as' ≡ bs → (a ∷ as') ≡ (b ∷ bs)
joined a b as' bs e g = cc

-- lists with a bit in front, put together and taken apart
both : (a b : Bool) (as' bs : List Bool) → truth a ≡ truth b → as' ≡ bs → (a ∷ as') ≡ (b ∷ bs)
both a b as' bs e g = cc

heads : (a b : Bool) (as' bs : List Bool) → (a ∷ as') ≡ (b ∷ bs) → a ≡ b
heads a b as' bs e = cc

tails : (a b : Bool) (as' bs : List Bool) → (a ∷ as') ≡ (b ∷ bs) → as' ≡ bs
tails a b as' bs e = cc

first_bits : (m : FlatModel) (all : List Mode) (u : List Value) (fs : List Mode) (pre : List Value) (ts : List Bool) → Each (IsRead m u) fs → length ts ≡ length fs →
    u ≡ pre ++ map truth ts → (Each (Holds (with_history m all) u u) (bits_at_first (length pre) fs) ↔ (ts ≡ map (λ f. stands m f u) fs))
first_bits m all u [] pre [] reads long is = ((λ h. refl), (λ h. tt))
first_bits m all u [] pre (t ∷ ts) reads long is = absurd (omega (arith, long))
first_bits m all u (f ∷ fs) pre [] reads long is = absurd (omega (arith, long))
first_bits m all u (f ∷ fs) pre (t ∷ ts) reads long is =
    let there : slice_get u (length pre) ≡ Some (truth t) = ap (λ x. slice_get x (length pre)) is ∙ get_middle pre (map truth ts) (truth t) in
    let here : Holds (with_history m all) u u (bit_at_first (length pre) f) ↔ (truth t ≡ truth (stands m f u)) =
    within_one (one_of (slice_get u (length pre))) (gives_applied op.Equal (one_of (slice_get u f.variable)) (symbol_of (slice_get m.symbols f.symbol)))
    (truth t) (truth (stands m f u)) (ap one_of there) (stands_gives m u f reads.0) in
    let shifted : u ≡ (pre ++ truth t ∷ []) ++ map truth ts = is ∙ sym (append_assoc pre (truth t ∷ []) (map truth ts)) in
    let rest : Each (Holds (with_history m all) u u) (bits_at_first (suc (length pre)) fs) ↔ (ts ≡ map (λ f. stands m f u) fs) =
    subst (λ n. Each (Holds (with_history m all) u u) (bits_at_first n fs) ↔ (ts ≡ map (λ f. stands m f u) fs)) (length_end pre (truth t))
    (first_bits m all u fs (pre ++ truth t ∷ []) ts reads.1 (omega (arith, long)) shifted) in (
      (λ h. both t (stands m f u) ts (map (λ f. stands m f u) fs) (here.0 h.0) (rest.0 h.1)),
      (λ e. (here.1 (ap truth (heads t (stands m f u) ts (map (λ f. stands m f u) fs) e)), rest.1 (tails t (stands m f u) ts (map (λ f. stands m f u) fs) e))),
    )

pub applied_or : (a b : Option Values) (x y : Bool) → a ≡ Some (one (truth x)) → b ≡ Some (one (truth y)) → gives_applied op.Or a b ≡ Some (one (truth (x || y)))
applied_or a b x y e g = rw (e, g) refl

step_bits : (m : FlatModel) (all : List Mode) (a : Mode → Bool) (u w : List Value) (fs : List Mode) (pre pre' : List Value) (ts : List Bool) → Each (IsRead m w) fs →
    length ts ≡ length fs → length pre' ≡ length pre → u ≡ pre ++ map (λ f. truth (a f)) fs → w ≡ pre' ++ map truth ts →
    (Each (Holds (with_history m all) u w) (bits_at_step (length pre) fs) ↔ (ts ≡ map (λ f. a f || stands m f w) fs))
step_bits m all a u w [] pre pre' [] reads long same is is' = ((λ h. refl), (λ h. tt))
step_bits m all a u w [] pre pre' (t ∷ ts) reads long same is is' = absurd (omega (arith, long))
step_bits m all a u w (f ∷ fs) pre pre' [] reads long same is is' = absurd (omega (arith, long))
step_bits m all a u w (f ∷ fs) pre pre' (t ∷ ts) reads long same is is' =
    let before : slice_get u (length pre) ≡ Some (truth (a f)) = ap (λ x. slice_get x (length pre)) is ∙ get_middle pre (map (λ f. truth (a f)) fs) (truth (a f)) in
    let after : slice_get w (length pre) ≡ Some (truth t) =
    ap (λ n. slice_get w n) (sym same) ∙ ap (λ x. slice_get x (length pre')) is' ∙ get_middle pre' (map truth ts) (truth t) in
    let here : Holds (with_history m all) u w (bit_at_step (length pre) f) ↔ (truth t ≡ truth (a f || stands m f w)) =
    within_one (one_of (slice_get w (length pre)))
    (gives_applied op.Or (one_of (slice_get u (length pre))) (gives_applied op.Equal (one_of (slice_get w f.variable)) (symbol_of (slice_get m.symbols f.symbol))))
    (truth t) (truth (a f || stands m f w)) (ap one_of after)
    (applied_or (one_of (slice_get u (length pre))) (gives_applied op.Equal (one_of (slice_get w f.variable)) (symbol_of (slice_get m.symbols f.symbol)))
    (a f) (stands m f w) (ap one_of before) (stands_gives m w f reads.0)) in
    let shifted : u ≡ (pre ++ truth (a f) ∷ []) ++ map (λ f. truth (a f)) fs = is ∙ sym (append_assoc pre (truth (a f) ∷ []) (map (λ f. truth (a f)) fs)) in
    let shifted' : w ≡ (pre' ++ truth t ∷ []) ++ map truth ts = is' ∙ sym (append_assoc pre' (truth t ∷ []) (map truth ts)) in
    let lengths : length (pre' ++ truth t ∷ []) ≡ length (pre ++ truth (a f) ∷ []) = length_end pre' (truth t) ∙ ap suc same ∙ sym (length_end pre (truth (a f))) in
    let rest : Each (Holds (with_history m all) u w) (bits_at_step (suc (length pre)) fs) ↔ (ts ≡ map (λ f. a f || stands m f w) fs) =
    subst (λ n. Each (Holds (with_history m all) u w) (bits_at_step n fs) ↔ (ts ≡ map (λ f. a f || stands m f w) fs)) (length_end pre (truth (a f)))
    (step_bits m all a u w fs (pre ++ truth (a f) ∷ []) (pre' ++ truth t ∷ []) ts reads.1 (omega (arith, long)) lengths shifted shifted') in (
      (λ h. both t (a f || stands m f w) ts (map (λ f. a f || stands m f w) fs) (here.0 h.0) (rest.0 h.1)),
      (λ e. (here.1 (ap truth (heads t (a f || stands m f w) ts (map (λ f. a f || stands m f w) fs) e)), rest.1 (tails t (a f || stands m f w) ts (map (λ f. a f || stands m f w) fs) e))),
    )

-- Valuations of the model with bits are those of the model with a truth value for each bit.
pub record Halves (xs : List FlatVariable) (fs : List Mode) (u : List Value) : Type 0 where
  pub own : List Value
  pub bits : List Bool
  pub is : u ≡ own ++ map truth bits
  pub domains : AreInDomains xs own
  pub many : length bits ≡ length fs

a_truth : (b : Value) → IsTrue (in_domain boolean b) → (t : Bool) × (b ≡ truth t)
a_truth (truth t) h = (t, refl)
a_truth (number n) h = cc
a_truth (symbol x) h = cc

halves : (xs : List FlatVariable) (i : ℕ) (fs : List Mode) (u : List Value) → AreInDomains (xs ++ bit_variables i fs) u → Halves xs fs u
halves [] i [] [] h = record { own = []; bits = []; is = refl; domains = tt; many = refl }
halves [] i [] (b ∷ u) h = absurd h
halves [] i (f ∷ fs) [] h = absurd h
halves [] i (f ∷ fs) (b ∷ u) h =
    let t : (t : Bool) × (b ≡ truth t) = a_truth b h.0 in
    let rest : Halves [] fs u = halves [] (suc i) fs u h.1 in
    let none : rest.own ≡ [] = no_value_of rest.own rest.domains in
    record {
      own = [];
      bits = t.0 ∷ rest.bits;
      is = joined b t.0 u (map truth rest.bits) t.1 (rest.is ∙ ap (λ o. o ++ map truth rest.bits) none);
      domains = tt;
      many = ap suc rest.many;
    }
  where
    no_value_of : (vs : List Value) → AreInDomains [] vs → vs ≡ []
    no_value_of [] h = refl
    no_value_of (v ∷ vs) h = absurd h

    joined : (b : Value) (t : Bool) (u us : List Value) → b ≡ truth t → u ≡ us → (b ∷ u) ≡ (truth t ∷ us)
    joined b t u us e g = cc
halves (x ∷ xs) i fs [] h = absurd h
halves (x ∷ xs) i fs (b ∷ u) h =
    let rest : Halves xs fs u = halves xs i fs u h.1 in
    record {
      own = b ∷ rest.own;
      bits = rest.bits;
      is = ap (λ us. b ∷ us) rest.is;
      domains = (h.0, rest.domains);
      many = rest.many;
    }

whole : (xs : List FlatVariable) (i : ℕ) (fs : List Mode) (v : List Value) (ts : List Bool) → AreInDomains xs v → length ts ≡ length fs →
    AreInDomains (xs ++ bit_variables i fs) (v ++ map truth ts)
whole [] i [] [] [] h long = tt
whole [] i [] [] (t ∷ ts) h long = absurd (omega (arith, long))
whole [] i (f ∷ fs) [] [] h long = absurd (omega (arith, long))
whole [] i (f ∷ fs) [] (t ∷ ts) h long = (refl, whole [] (suc i) fs [] ts tt (omega (arith, long)))
whole [] i fs (b ∷ v) ts h long = absurd h
whole (x ∷ xs) i fs [] ts h long = absurd h
whole (x ∷ xs) i fs (b ∷ v) ts h long = (h.0, whole xs i fs v ts h.1 long)

pub domains_length : (xs : List FlatVariable) (v : List Value) → AreInDomains xs v → length v ≡ length xs
domains_length [] [] h = refl
domains_length [] (b ∷ v) h = absurd h
domains_length (x ∷ xs) [] h = absurd h
domains_length (x ∷ xs) (b ∷ v) h = ap suc (domains_length xs v h.1)

pub domain_at : (xs : List FlatVariable) (v : List Value) (i : ℕ) (x : FlatVariable) → AreInDomains xs v → slice_get xs i ≡ Some x →
    (b : Value) × (slice_get v i ≡ Some b) × IsTrue (in_domain x.declared b)
domain_at [] v i x h e = cc
domain_at (y ∷ xs) [] i x h e = absurd h
domain_at (y ∷ xs) (b ∷ v) zero x h e = let same : y ≡ x = cc in (b, refl, subst (λ (z : FlatVariable). IsTrue (in_domain z.declared b)) same h.0)
domain_at (y ∷ xs) (b ∷ v) (suc i) x h e = domain_at xs v i x h.1 e

read_of : (m : FlatModel) (v more : List Value) (f : Mode) → AreInDomains m.variables v → IsModeOf m f → IsRead m (v ++ more) f
read_of m v more f h is =
    let b : (b : Value) × (slice_get v f.variable ≡ Some b) × IsTrue (in_domain is.variable.declared b) = domain_at m.variables v f.variable is.variable h is.is_variable in
    let x : (x : Text) × (b.0 ≡ symbol x) = is.symbols_alone b.0 b.2 in
    record { text = x.0; wanted = is.text; has = get_left v more f.variable b.0 b.1 ∙ ap Some x.1; of_model = is.is_symbol }

reads_of : (m : FlatModel) (v more : List Value) (fs : List Mode) → AreInDomains m.variables v → Each (IsModeOf m) fs → Each (IsRead m (v ++ more)) fs
reads_of m v more fs h = each_more (IsModeOf m) (IsRead m (v ++ more)) fs (λ f. read_of m v more f h)

-- The bits that are told.
same_maps : {B : Type 0} (P : Mode → Type 0) (a b : Mode → B) (fs : List Mode) → Each P fs → ((f : Mode) → P f → a f ≡ b f) → map a fs ≡ map b fs
same_maps P a b [] h k = refl
same_maps P a b (f ∷ fs) h k = rw (k f h.0, same_maps P a b fs h.1 k) refl

stands_longer : (m : FlatModel) (v more : List Value) (f : Mode) → AreInDomains m.variables v → IsModeOf m f → stands m f (v ++ more) ≡ stands m f v
stands_longer m v more f h is =
    let b : (b : Value) × (slice_get v f.variable ≡ Some b) × IsTrue (in_domain is.variable.declared b) = domain_at m.variables v f.variable is.variable h is.is_variable in
    ap (is_symbol_value (slice_get m.symbols f.symbol)) (get_left v more f.variable b.0 b.1 ∙ sym b.1)

stands_last : (m : FlatModel) (f : Mode) (vs : List (List Value)) (v : List Value) → stands_in_some m f (vs ++ v ∷ []) ≡ (stands_in_some m f vs || stands m f v)
stands_last m f [] v = or_false (stands m f v)
stands_last m f (w ∷ vs) v = ap (λ b. stands m f w || b) (stands_last m f vs v) ∙ or_grouped (stands m f w) (stands_in_some m f vs) (stands m f v)

map_truths : (a : Mode → Bool) (fs : List Mode) → map truth (map a fs) ≡ map (λ f. truth (a f)) fs
map_truths a [] = refl
map_truths a (f ∷ fs) = ap (λ more. truth (a f) ∷ more) (map_truths a fs)

-- With the bits, for a model that reads its own variables and modes that are its own.
module _ (m : FlatModel) (fs : List Mode) (own : NamesOwn m) (modes : Each (IsModeOf m) fs) where
  abbrev told : List (List Value) → Mode → Bool
  told moments f = stands_in_some m f moments

  sized : (v : List Value) (gs : List FlatFormula) → AreInDomains m.variables v → Each (IsOwnFormula (length m.variables)) gs → Each (IsOwnFormula (length v)) gs
  sized v gs dom h = subst (λ n. Each (IsOwnFormula n) gs) (sym (domains_length m.variables v dom)) h

  parts_hold : (v w : List Value) (bs cs : List Value) (gs : List FlatFormula) → AreInDomains m.variables v → AreInDomains m.variables w → Each (IsOwnFormula (length m.variables)) gs →
      (Each (Holds (with_history m fs) (v ++ bs) (w ++ cs)) gs ↔ Each (Holds m v w) gs)
  parts_hold v w bs cs gs dom dom' h =
      all_longer m fs v w bs cs (domains_length m.variables w dom' ∙ sym (domains_length m.variables v dom)) (sized v m.definitions dom own.definitions) gs (sized v gs dom h)

  moment_of : (v : List Value) (ts : List Bool) → length ts ≡ length fs → AreInDomains m.variables v → (IsFlatMoment (with_history m fs) (v ++ map truth ts) ↔ IsFlatMoment m v)
  moment_of v ts long dom =
      let same : Each (Holds (with_history m fs) (v ++ map truth ts) (v ++ map truth ts)) m.at_each ↔ Each (Holds m v v) m.at_each =
      parts_hold v v (map truth ts) (map truth ts) m.at_each dom dom own.at_each in (
        (λ h. record { domains = dom; holds = same.0 h.holds }),
        (λ h. record { domains = whole m.variables 0 fs v ts dom long; holds = same.1 h.holds }),
      )

  stands_alike : (v : List Value) (ts : List Bool) → AreInDomains m.variables v → map (λ f. stands m f (v ++ map truth ts)) fs ≡ map (λ f. stands m f v) fs
  stands_alike v ts dom = same_maps (IsModeOf m) (λ f. stands m f (v ++ map truth ts)) (λ f. stands m f v) fs modes (λ f is. stands_longer m v (map truth ts) f dom is)

  first_of : (v : List Value) (ts : List Bool) → length ts ≡ length fs → AreInDomains m.variables v →
      (Each (Holds (with_history m fs) (v ++ map truth ts) (v ++ map truth ts)) (m.at_first ++ bits_at_first (length m.variables) fs)
      ↔ (Each (Holds m v v) m.at_first × (ts ≡ map (told (v ∷ [])) fs)))
  first_of v ts long dom =
      let same : Each (Holds (with_history m fs) (v ++ map truth ts) (v ++ map truth ts)) m.at_first ↔ Each (Holds m v v) m.at_first =
      parts_hold v v (map truth ts) (map truth ts) m.at_first dom dom own.at_first in
      let bits : Each (Holds (with_history m fs) (v ++ map truth ts) (v ++ map truth ts)) (bits_at_first (length m.variables) fs) ↔ (ts ≡ map (λ f. stands m f (v ++ map truth ts)) fs) =
      subst (λ n. Each (Holds (with_history m fs) (v ++ map truth ts) (v ++ map truth ts)) (bits_at_first n fs) ↔ (ts ≡ map (λ f. stands m f (v ++ map truth ts)) fs))
      (domains_length m.variables v dom)
      (first_bits m fs (v ++ map truth ts) fs v ts (reads_of m v (map truth ts) fs dom modes) long refl) in
      let told_same : map (λ f. stands m f (v ++ map truth ts)) fs ≡ map (told (v ∷ [])) fs =
      stands_alike v ts dom ∙ same_maps (IsModeOf m) (λ f. stands m f v) (told (v ∷ [])) fs modes (λ f is. sym (or_false (stands m f v))) in (
        (λ h. (
          same.0 (each_left (Holds (with_history m fs) (v ++ map truth ts) (v ++ map truth ts)) m.at_first (bits_at_first (length m.variables) fs) h),
          bits.0 (each_right (Holds (with_history m fs) (v ++ map truth ts) (v ++ map truth ts)) m.at_first (bits_at_first (length m.variables) fs) h) ∙ told_same,
        )),
        (λ h. each_join (Holds (with_history m fs) (v ++ map truth ts) (v ++ map truth ts)) m.at_first (bits_at_first (length m.variables) fs) (same.1 h.0) (bits.1 (h.1 ∙ sym told_same))),
      )

  step_of : (moments : List (List Value)) (v w : List Value) (ts : List Bool) → length ts ≡ length fs → AreInDomains m.variables v → AreInDomains m.variables w →
      (Each (Holds (with_history m fs) (v ++ bits_after m fs moments) (w ++ map truth ts)) (m.at_step ++ bits_at_step (length m.variables) fs)
      ↔ (Each (Holds m v w) m.at_step × (ts ≡ map (told (moments ++ w ∷ [])) fs)))
  step_of moments v w ts long dom dom' =
      let same : Each (Holds (with_history m fs) (v ++ bits_after m fs moments) (w ++ map truth ts)) m.at_step ↔ Each (Holds m v w) m.at_step =
      parts_hold v w (bits_after m fs moments) (map truth ts) m.at_step dom dom' own.at_step in
      let bits : Each (Holds (with_history m fs) (v ++ bits_after m fs moments) (w ++ map truth ts)) (bits_at_step (length m.variables) fs)
      ↔ (ts ≡ map (λ f. told moments f || stands m f (w ++ map truth ts)) fs) =
      subst (λ n. Each (Holds (with_history m fs) (v ++ bits_after m fs moments) (w ++ map truth ts)) (bits_at_step n fs)
      ↔ (ts ≡ map (λ f. told moments f || stands m f (w ++ map truth ts)) fs))
      (domains_length m.variables v dom)
      (step_bits m fs (told moments) (v ++ bits_after m fs moments) (w ++ map truth ts) fs v w ts (reads_of m w (map truth ts) fs dom' modes) long
      (domains_length m.variables w dom' ∙ sym (domains_length m.variables v dom)) refl refl) in
      let told_same : map (λ f. told moments f || stands m f (w ++ map truth ts)) fs ≡ map (told (moments ++ w ∷ [])) fs =
      same_maps (IsModeOf m) (λ f. told moments f || stands m f (w ++ map truth ts)) (told (moments ++ w ∷ [])) fs modes
      (λ f is. ap (λ b. told moments f || b) (stands_longer m w (map truth ts) f dom' is) ∙ sym (stands_last m f moments w)) in (
        (λ h. (
          same.0 (each_left (Holds (with_history m fs) (v ++ bits_after m fs moments) (w ++ map truth ts)) m.at_step (bits_at_step (length m.variables) fs) h),
          bits.0 (each_right (Holds (with_history m fs) (v ++ bits_after m fs moments) (w ++ map truth ts)) m.at_step (bits_at_step (length m.variables) fs) h) ∙ told_same,
        )),
        (λ h. each_join (Holds (with_history m fs) (v ++ bits_after m fs moments) (w ++ map truth ts)) m.at_step (bits_at_step (length m.variables) fs) (same.1 h.0) (bits.1 (h.1 ∙ sym told_same))),
      )

  -- the truth values of a valuation's bits, as what is told
  told_bits : (moments : List (List Value)) → map truth (map (told moments) fs) ≡ bits_after m fs moments
  told_bits moments = map_truths (told moments) fs

  told_many : (moments : List (List Value)) → length (map (told moments) fs) ≡ length fs
  told_many moments = length-map fs (told moments)

  -- what follows a valuation of the longer trace
  record Shorter (before : List (List Value)) (v : List Value) (us : List (List Value)) : Type 0 where
    pub rest : List (List Value)
    pub moments : Each (IsFlatMoment m) rest
    pub steps : EachPair (IsFlatStep m) (v ∷ rest)
    pub is : us ≡ told_from m fs (before ++ v ∷ []) rest

  shorter : (before : List (List Value)) (v : List Value) → AreInDomains m.variables v → (us : List (List Value)) → Each (IsFlatMoment (with_history m fs)) us →
      EachPair (IsFlatStep (with_history m fs)) ((v ++ bits_after m fs (before ++ v ∷ [])) ∷ us) → Shorter before v us
  shorter before v dom [] moments steps = record { rest = []; moments = tt; steps = tt; is = refl }
  shorter before v dom (u ∷ us) moments steps =
      let cut : Halves m.variables fs u = halves m.variables 0 fs u moments.0.domains in
      let step : Each (Holds m v cut.own) m.at_step × (cut.bits ≡ map (told ((before ++ v ∷ []) ++ cut.own ∷ [])) fs) =
      (step_of (before ++ v ∷ []) v cut.own cut.bits cut.many dom cut.domains).0
      (subst (λ x. IsFlatStep (with_history m fs) (v ++ bits_after m fs (before ++ v ∷ [])) x) cut.is steps.0) in
      let is : u ≡ cut.own ++ bits_after m fs ((before ++ v ∷ []) ++ cut.own ∷ []) =
      cut.is ∙ ap (λ ts. cut.own ++ map truth ts) step.1 ∙ ap (λ bs. cut.own ++ bs) (told_bits ((before ++ v ∷ []) ++ cut.own ∷ [])) in
      let more : Shorter (before ++ v ∷ []) cut.own us =
      shorter (before ++ v ∷ []) cut.own cut.domains us moments.1 (subst (λ x. EachPair (IsFlatStep (with_history m fs)) (x ∷ us)) is steps.1) in
      let moment : IsFlatMoment m cut.own = (moment_of cut.own cut.bits cut.many cut.domains).0 (subst (IsFlatMoment (with_history m fs)) cut.is moments.0) in
      record {
        rest = cut.own ∷ more.rest;
        moments = (moment, more.moments);
        steps = (step.0, more.steps);
        is = joined u (cut.own ++ bits_after m fs ((before ++ v ∷ []) ++ cut.own ∷ [])) us (told_from m fs ((before ++ v ∷ []) ++ cut.own ∷ []) more.rest) is more.is;
      }

  -- what follows a valuation of the shorter trace
  record Longer (before : List (List Value)) (v : List Value) (vs : List (List Value)) : Type 0 where
    pub moments : Each (IsFlatMoment (with_history m fs)) (told_from m fs (before ++ v ∷ []) vs)
    pub steps : EachPair (IsFlatStep (with_history m fs)) ((v ++ bits_after m fs (before ++ v ∷ [])) ∷ told_from m fs (before ++ v ∷ []) vs)

  longer : (before : List (List Value)) (v : List Value) → AreInDomains m.variables v → (vs : List (List Value)) → Each (IsFlatMoment m) vs → EachPair (IsFlatStep m) (v ∷ vs) →
      Longer before v vs
  longer before v dom [] moments steps = record { moments = tt; steps = tt }
  longer before v dom (w ∷ vs) moments steps =
      let now : List (List Value) = (before ++ v ∷ []) ++ w ∷ [] in
      let more : Longer (before ++ v ∷ []) w vs = longer (before ++ v ∷ []) w moments.0.domains vs moments.1 steps.1 in
      let moment : IsFlatMoment (with_history m fs) (w ++ bits_after m fs now) =
      subst (λ bs. IsFlatMoment (with_history m fs) (w ++ bs)) (told_bits now) ((moment_of w (map (told now) fs) (told_many now) moments.0.domains).1 moments.0) in
      let step : IsFlatStep (with_history m fs) (v ++ bits_after m fs (before ++ v ∷ [])) (w ++ bits_after m fs now) =
      subst (λ bs. IsFlatStep (with_history m fs) (v ++ bits_after m fs (before ++ v ∷ [])) (w ++ bs)) (told_bits now)
      ((step_of (before ++ v ∷ []) v w (map (told now) fs) (told_many now) dom moments.0.domains).1 (steps.0, refl)) in
      record { moments = (moment, more.moments); steps = (step, more.steps) }

  pub history_exactly : (long : List (List Value)) →
      (IsFlatTrace (with_history m fs) long ↔ ((trace : List (List Value)) × IsFlatTrace m trace × (long ≡ told_from m fs [] trace)))
  history_exactly long = (forward long, λ h. subst (IsFlatTrace (with_history m fs)) (sym h.2) (backward h.0 h.1))
    where
      forward : (long : List (List Value)) → IsFlatTrace (with_history m fs) long → (trace : List (List Value)) × IsFlatTrace m trace × (long ≡ told_from m fs [] trace)
      forward [] h = absurd h.first
      forward (u ∷ us) h =
          let cut : Halves m.variables fs u = halves m.variables 0 fs u h.moments.0.domains in
          let first : Each (Holds m cut.own cut.own) m.at_first × (cut.bits ≡ map (told (cut.own ∷ [])) fs) =
          (first_of cut.own cut.bits cut.many cut.domains).0 (subst (λ x. Each (Holds (with_history m fs) x x) (m.at_first ++ bits_at_first (length m.variables) fs)) cut.is h.first) in
          let is : u ≡ cut.own ++ bits_after m fs (cut.own ∷ []) =
          cut.is ∙ ap (λ ts. cut.own ++ map truth ts) first.1 ∙ ap (λ bs. cut.own ++ bs) (told_bits (cut.own ∷ [])) in
          let more : Shorter [] cut.own us = shorter [] cut.own cut.domains us h.moments.1 (subst (λ x. EachPair (IsFlatStep (with_history m fs)) (x ∷ us)) is h.steps) in
          let moment : IsFlatMoment m cut.own = (moment_of cut.own cut.bits cut.many cut.domains).0 (subst (IsFlatMoment (with_history m fs)) cut.is h.moments.0) in (
            cut.own ∷ more.rest,
            record { first = first.0; moments = (moment, more.moments); steps = more.steps },
            joined u (cut.own ++ bits_after m fs (cut.own ∷ [])) us (told_from m fs (cut.own ∷ []) more.rest) is more.is,
          )

      backward : (trace : List (List Value)) → IsFlatTrace m trace → IsFlatTrace (with_history m fs) (told_from m fs [] trace)
      backward [] h = absurd h.first
      backward (v ∷ vs) h =
          let dom : AreInDomains m.variables v = h.moments.0.domains in
          let more : Longer [] v vs = longer [] v dom vs h.moments.1 h.steps in
          let ts : List Bool = map (told (v ∷ [])) fs in
          let first : Each (Holds (with_history m fs) (v ++ bits_after m fs (v ∷ [])) (v ++ bits_after m fs (v ∷ []))) (m.at_first ++ bits_at_first (length m.variables) fs) =
          subst (λ bs. Each (Holds (with_history m fs) (v ++ bs) (v ++ bs)) (m.at_first ++ bits_at_first (length m.variables) fs)) (told_bits (v ∷ []))
          ((first_of v ts (told_many (v ∷ [])) dom).1 (h.first, refl)) in
          let moment : IsFlatMoment (with_history m fs) (v ++ bits_after m fs (v ∷ [])) =
          subst (λ bs. IsFlatMoment (with_history m fs) (v ++ bs)) (told_bits (v ∷ [])) ((moment_of v ts (told_many (v ∷ [])) dom).1 h.moments.0) in
          record { first = first; moments = (moment, more.moments); steps = more.steps }
