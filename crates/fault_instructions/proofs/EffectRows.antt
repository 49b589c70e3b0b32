-- Each effect's branch and rule sections, and the row of what it allows.
use Rattle.std.proofs.Common.{◌≡◌, ◌≢◌, ◌↔◌, ℕ, ◌+◌, ◌<◌, Bool, true, false, List, [], ◌∷◌, ◌++◌, length, get_or, drop, Option, Some, refl, sym, ◌∙◌, ap, subst}
use Rattle.std.specs.Prelude.{ℤ, int_lt, ◌+ℤ◌, ◌-ℤ◌, IsTrue, if◌then◌else◌, codes, ◌||◌, ◌&&◌}
use Rattle.std.proofs.lemmas.List.{drop_more}
use Rattle.smv_lexer.specs.Bytes.{is_word_start}
use Rattle.smv_lexer.specs.Runs.{Runs, takes_word}
use Rattle.smv_lexer.specs.Tokens.{IsWord}
use Rattle.smv_language.specs.Language.{same_text, binary, next_of, Text, Path, Formula, DeclaredTree, boolean, range, members, instance, Value, symbol, Values, one, has, same_value, opposite, Leaves, evaluate, gives_choice, in_domain}
use Rattle.smv_language.specs.declared.expr.Op.TheVariants as op
use Rattle.smv_language.specs.Values.{truth, number}
use Rattle.smv_language.proofs.ValueLaws.{same_value_equal, same_value_refl, both_true}
use Rattle.fault_instructions.specs.declared.effects.PlainEffect.TheVariants.{Inverted, Random, Erroneous, Frozen, StuckAtPick}
use Rattle.fault_instructions.specs.declared.effects.ConstantEffect.TheVariants.{StuckAt}
use Rattle.fault_instructions.specs.declared.effects.ExpressionEffect.TheVariants.{Follows}
use Rattle.fault_instructions.specs.declared.effects.NumberEffect.TheVariants.{Offset}
use Rattle.fault_instructions.specs.declared.effects.NumbersEffect.TheVariants.{RampDown}
use Rattle.fault_instructions.specs.declared.effects.EffectKind.{EffectKind}
use Rattle.fault_instructions.specs.declared.effects.EffectKind.TheVariants as kind
use Rattle.fault_instructions.specs.declared.effects.EffectRule.{EffectRule}
use Rattle.fault_instructions.specs.declared.effects.EffectRule.TheVariants.{NotOwn, AsBefore, AsEntered, Falling}
use Rattle.fault_instructions.specs.Instructions.{EffectTree, plain, of_constant, of_expression, of_number, of_numbers, EachArgument, SliceTree}
use Rattle.fault_instructions.specs.EffectForms.{Branch, the_constant, the_formula, the_opposite, the_sum, any_value}
use Rattle.fault_instructions.specs.AllowedEffects.{offset_fits, ramp_fits}
use Rattle.fault_instructions.specs.AddedNames.{ModeState}
use Rattle.fault_instructions.specs.Effects.{keyword, effect_kinds, first_kind, row, branch_of, rule_of, Allows, clipped, IsOffset, IsRamp, IsInverse, IsPick}
use Rattle.fault_instructions.specs.AddedNames.{own_name}
use Rattle.fault_instructions.specs.Templates.{named, number_tree, clipped_tree, branch_tree, greater_tree, stands, stands_next, stays_tree, frozen_first, ramp_first}
use Rattle.fault_instructions.specs.Types.{IsKnown, IsUniform, IsBoolean, IsRange, Demanded}
use Rattle.fault_instructions.specs.EffectLaw.{SliceLeaves, stands_at}
use Rattle.fault_instructions.proofs.TemplateLaws.{one_has, same_state, number_value, domain_values, domain_has, domain_value, constant_gives, compared}

-- the read values that a branch leaves
abbrev pub BranchAllows : Branch → (Formula → Value → Type 0) → DeclaredTree → Value → Value → Type 0
BranchAllows (the_constant c) gives type own x = x ≡ c
BranchAllows (the_formula e) gives type own x = gives e x
BranchAllows the_opposite gives type own x = IsInverse own x
BranchAllows (the_sum d) gives type own x = IsOffset type d own x
BranchAllows any_value gives type own x = IsTrue (in_domain type x)

-- what a rule's INVAR says
abbrev pub RuleNow : Option EffectRule → Value → Value → Type 0
RuleNow (Some NotOwn) own x = x ≢ own
RuleNow _ own x = Unit {0}

-- and what its TRANS says
abbrev pub RuleStep : Option EffectRule → Value → Bool → Value → Type 0
RuleStep (Some AsBefore) before entered x = x ≡ before
RuleStep (Some AsEntered) before entered x = entered ≡ false → x ≡ before
RuleStep (Some (Falling d f)) before entered x = IsRamp d f before x
RuleStep _ before entered x = Unit {0}

-- what a branch asks of a type, given what is known of a constant, of truth values and of a range; a formula is judged apart
abbrev pub BranchAsks : (Value → Type 0) → Type 0 → ((ℤ → ℤ → Bool) → Type 0) → Branch → Type 0
BranchAsks V B R (the_constant c) = V c
BranchAsks V B R the_opposite = B
BranchAsks V B R (the_sum d) = R (offset_fits d)
BranchAsks V B R _ = Unit {0}

-- and what a rule asks
abbrev pub RuleAsks : ((ℤ → ℤ → Bool) → Type 0) → Option EffectRule → Type 0
RuleAsks R (Some (Falling d f)) = R (ramp_fits d f)
RuleAsks R _ = Unit {0}

-- the arguments in a branch
abbrev pub BranchHolds : (Value → Type 0) → (Formula → Type 0) → (ℤ → Type 0) → Branch → Type 0
BranchHolds V F N (the_constant c) = V c
BranchHolds V F N (the_formula e) = F e
BranchHolds V F N (the_sum d) = N d
BranchHolds V F N _ = Unit {0}

-- and in a rule
abbrev pub NumbersHold : (ℤ → Type 0) → Option EffectRule → Type 0
NumbersHold N (Some (Falling d f)) = N d × N f
NumbersHold N _ = Unit {0}

-- The law of a row: the branch and the rule leave the values that the effect allows, their arguments are the effect's, and
-- what they ask of a type is demanded.
pub record RowLaw (e : EffectTree) : Type 1 where
  pub allows : (gives : Formula → Value → Type 0) (type : DeclaredTree) (own before : Value) (entered : Bool) (x : Value) → IsTrue (in_domain type x) →
      Allows e gives type own before entered x ↔ (BranchAllows (branch_of e) gives type own x × RuleNow (rule_of e) own x × RuleStep (rule_of e) before entered x)
  pub asks : (V : Value → Type 0) (B : Type 0) (R : (ℤ → ℤ → Bool) → Type 0) → Demanded V B R (row e).demand → BranchAsks V B R (branch_of e) × RuleAsks R (rule_of e)
  pub holds : (V : Value → Type 0) (F : Formula → Type 0) (N : ℤ → Type 0) → EachArgument V F N e → BranchHolds V F N (branch_of e) × NumbersHold N (rule_of e)

-- a value picked where the mode is entered
picked : (type : DeclaredTree) (before : Value) (entered : Bool) (x : Value) → IsTrue (in_domain type x) →
    IsPick type entered before x ↔ (IsTrue (in_domain type x) × Unit {0} × (entered ≡ false → x ≡ before))
picked type before true x d = ((λ h. (h, tt, λ e. cc)), (λ h. h.0))
picked type before false x d = ((λ h. (d, tt, λ e. h)), (λ h. h.2 refl))

pub row_law : (e : EffectTree) → RowLaw e
row_law (of_constant StuckAt c) = record { allows = λ g t o b n x d. ((λ h. (h, tt, tt)), (λ h. h.0)); asks = λ V B R h. (h, tt); holds = λ V F N h. (h, tt) }
row_law (of_expression Follows e) = record { allows = λ g t o b n x d. ((λ h. (h, tt, tt)), (λ h. h.0)); asks = λ V B R h. (tt, tt); holds = λ V F N h. (h, tt) }
row_law (plain Inverted) = record { allows = λ g t o b n x d. ((λ h. (h, tt, tt)), (λ h. h.0)); asks = λ V B R h. (h, tt); holds = λ V F N h. (tt, tt) }
row_law (plain Random) = record { allows = λ g t o b n x d. ((λ h. (h, tt, tt)), (λ h. h.0)); asks = λ V B R h. (tt, tt); holds = λ V F N h. (tt, tt) }
row_law (plain Erroneous) = record { allows = λ g t o b n x d. ((λ h. (h.0, h.1, tt)), (λ h. (h.0, h.1))); asks = λ V B R h. (tt, tt); holds = λ V F N h. (tt, tt) }
row_law (plain Frozen) = record { allows = λ g t o b n x d. ((λ h. (d, tt, h)), (λ h. h.2)); asks = λ V B R h. (tt, tt); holds = λ V F N h. (tt, tt) }
row_law (plain StuckAtPick) = record { allows = λ g t o b n x d. picked t b n x d; asks = λ V B R h. (tt, tt); holds = λ V F N h. (tt, tt) }
row_law (of_number Offset d) = record { allows = λ g t o b n x i. ((λ h. (h, tt, tt)), (λ h. h.0)); asks = λ V B R h. (h, tt); holds = λ V F N h. (h, tt) }
row_law (of_numbers RampDown d f) = record { allows = λ g t o b n x i. ((λ h. (i, tt, h)), (λ h. h.2)); asks = λ V B R h. (tt, h); holds = λ V F N h. (tt, h) }

-- what passes a test on words is one
abbrev all_taken : Text → Bool
all_taken [] = true
all_taken (b ∷ bs) = takes_word (b ∷ (bs ++ [])) && all_taken bs

abbrev is_text_of_word : Text → Bool
is_text_of_word [] = false
is_text_of_word (b ∷ bs) = is_word_start b && all_taken bs

all_run : (bs : Text) → all_taken bs ≡ true → Runs takes_word bs []
all_run [] h = tt
all_run (b ∷ bs) h = let both = both_true (takes_word (b ∷ (bs ++ []))) (all_taken bs) h in (both.0, all_run bs both.1)

text_of_word : (x : Text) → is_text_of_word x ≡ true → IsWord x []
text_of_word [] h = cc
text_of_word (b ∷ bs) h = let both = both_true (is_word_start b) (all_taken bs) h in (both.0, all_run bs both.1)

-- the law of a word: it is one, and finds its effect
word_law : (k : EffectKind) → (is_text_of_word (keyword k) ≡ true) × (first_kind (same_text (keyword k)) effect_kinds ≡ Some k)
unfolding effect_kinds
word_law (kind.OfConstant StuckAt) = (refl, refl)
word_law (kind.OfExpression Follows) = (refl, refl)
word_law (kind.Plain Inverted) = (refl, refl)
word_law (kind.Plain Random) = (refl, refl)
word_law (kind.Plain Erroneous) = (refl, refl)
word_law (kind.Plain Frozen) = (refl, refl)
word_law (kind.Plain StuckAtPick) = (refl, refl)
word_law (kind.OfNumber Offset) = (refl, refl)
word_law (kind.OfNumbers RampDown) = (refl, refl)

pub keyword_word : (k : EffectKind) → IsWord (keyword k) []
keyword_word k = text_of_word (keyword k) (word_law k).0

pub keyword_finds : (k : EffectKind) → first_kind (same_text (keyword k)) effect_kinds ≡ Some k
keyword_finds k = (word_law k).1

-- the word of what is found passes
pub found_passes : (passes : Text → Bool) (ks : List EffectKind) (k : EffectKind) → first_kind passes ks ≡ Some k → passes (keyword k) ≡ true
found_passes passes [] k h = cc
found_passes passes (j ∷ ks) k h = go (passes (keyword j)) refl h (found_passes passes ks k)
  where
    go : (b : Bool) → passes (keyword j) ≡ b → (if b then Some j else first_kind passes ks) ≡ Some k → (first_kind passes ks ≡ Some k → passes (keyword k) ≡ true) → passes (keyword k) ≡ true
    go true e h more = let same : j ≡ k = cc in subst (λ i. passes (keyword i) ≡ true) same e
    go false e h more = more h

-- those of which some were tried
pub kinds_more : (passes : Text → Bool) (ks : List EffectKind) (i : ℕ) (d : EffectKind) → i < length ks →
    first_kind passes (drop i ks) ≡ (if passes (keyword (get_or ks i d)) then Some (get_or ks i d) else first_kind passes (drop (i + 1) ks))
kinds_more passes ks i d h = ap (first_kind passes) (drop_more ks i d h)

clipped_value : (now next : Leaves Path) (e : Formula) (z lo hi : ℤ) → evaluate now next e ≡ Some (one (number z)) →
    evaluate now next (clipped_tree (range lo hi) e) ≡ Some (one (number (clipped lo hi z)))
clipped_value now next e z lo hi h = rw (h, number_value now next hi, number_value now next lo) (go (int_lt hi z) (int_lt z lo))
  where
    go : (a b : Bool) → gives_choice (Some (one (truth a))) (Some (one (number hi))) (gives_choice (Some (one (truth b))) (Some (one (number lo))) (Some (one (number z))))
        ≡ Some (one (number (if a then hi else (if b then lo else z))))
    go true b = refl
    go false true = refl
    go false false = refl

greater_value : (now next : Leaves Path) (e : Formula) (z f : ℤ) → evaluate now next e ≡ Some (one (number z)) →
    evaluate now next (greater_tree e f) ≡ Some (one (number (if int_lt f z then z else f)))
greater_value now next e z f h = rw (h, number_value now next f) (go (int_lt f z))
  where
    go : (b : Bool) → gives_choice (Some (one (truth b))) (Some (one (number z))) (Some (one (number f))) ≡ Some (one (number (if b then z else f)))
    go true = refl
    go false = refl

module _ (s : SliceTree) (type : DeclaredTree) (now next : Leaves Path) (read own : Value) (st : ModeState) (l : SliceLeaves s type now read own st) (gives : Formula → Value → Type 0) where
  abbrev BranchGives : Branch → Type 0
  BranchGives b = (vs : Values) × (evaluate now next (branch_tree b type s.target) ≡ Some vs) × ((x : Value) → IsTrue (has vs x) ↔ BranchAllows b gives type own x)

  inverse : (t : DeclaredTree) (o : Value) → own ≡ o → IsBoolean t → IsTrue (in_domain t o) → BranchGives the_opposite
  inverse boolean (truth b) e f h = (one (truth (opposite b)), rw (l.own_leaf, e) refl, λ x. rw e (one_has (truth (opposite b)) x))
  inverse boolean (number n) e f h = cc
  inverse boolean (symbol y) e f h = cc
  inverse (range lo hi) o e f h = absurd f
  inverse (members ms) o e f h = absurd f
  inverse (instance m es) o e f h = absurd f

  clip : (d : ℤ) (t : DeclaredTree) (o : Value) → type ≡ t → own ≡ o → IsRange t → IsTrue (in_domain t o) → BranchGives (the_sum d)
  clip d (range lo hi) (number n) et e f h =
      let inner : evaluate now next (binary op.Plus (named (own_name s.target)) (number_tree d)) ≡ Some (one (number (n +ℤ d))) = rw (l.own_leaf, e, number_value now next d) refl in (
        one (number (clipped lo hi (n +ℤ d))),
        rw et (clipped_value now next (binary op.Plus (named (own_name s.target)) (number_tree d)) (n +ℤ d) lo hi inner),
        λ x. rw (et, e) (one_has (number (clipped lo hi (n +ℤ d))) x),
      )
  clip d (range lo hi) (truth b) et e f h = cc
  clip d (range lo hi) (symbol y) et e f h = cc
  clip d boolean o et e f h = absurd f
  clip d (members ms) o et e f h = absurd f
  clip d (instance m es) o et e f h = absurd f

  -- each branch but a formula, which is judged apart
  pub branch_gives : (b : Branch) → BranchAsks (λ c. IsTrue (in_domain type c)) (IsBoolean type) (λ passes. IsRange type) b → ((e : Formula) → b ≢ the_formula e) → IsTrue (in_domain type own) → BranchGives b
  branch_gives (the_constant c) f other h = (one c, constant_gives now next type c f l.type_leaves, λ x. one_has c x)
  branch_gives (the_formula e) f other h = absurd (other e refl)
  branch_gives the_opposite f other h = inverse type own refl f h
  branch_gives (the_sum d) f other h = clip d type own refl refl f h
  branch_gives any_value f other h = (domain_values type, domain_value now next type l.type_leaves, λ x. ((λ h. sym (domain_has type x) ∙ h), (λ h. domain_has type x ∙ h)))

-- the test of a mode
module _ (s : SliceTree) (type : DeclaredTree) (now next : Leaves Path) (read own : Value) (st : ModeState) (l : SliceLeaves s type now read own st) where
  pub stands_value : (m : Text) → IsKnown s (Some m) → m ≢ codes "nominal" → evaluate now next (stands s.name m) ≡ Some (one (truth (stands_at st m)))
  stands_value m known h = rw (l.mode_leaf, l.symbol_leaves (Some m) known) (ap (λ b. Some (one (truth b))) (same_state s.name st m h))

-- over two moments
module _ (s : SliceTree) (type : DeclaredTree) (now next : Leaves Path) (read own read' own' : Value) (st st' : ModeState)
    (l : SliceLeaves s type now read own st) (l' : SliceLeaves s type next read' own' st') (uniform : IsUniform type) (d : IsTrue (in_domain type read)) (d' : IsTrue (in_domain type read')) where
  pub stands_next_value : (m : Text) → IsKnown s (Some m) → m ≢ codes "nominal" → evaluate now next (stands_next s.name m) ≡ Some (one (truth (stands_at st' m)))
  stands_next_value m known h = rw (l'.mode_leaf, l.symbol_leaves (Some m) known) (ap (λ b. Some (one (truth b))) (same_state s.name st' m h))

  pub stays_value : evaluate now next (stays_tree s.target) ≡ Some (one (truth (same_value read' read)))
  stays_value = rw (l.read_leaf, l'.read_leaf, (compared type read' read uniform d' d).0) refl

  -- what the TRANS of a mode gives, for the modes that have one
  pub frozen_value : (m : Text) → IsKnown s (Some m) → m ≢ codes "nominal" →
      evaluate now next (binary op.Implies (stands_next s.name m) (stays_tree s.target)) ≡ Some (one (truth (opposite (stands_at st' m) || same_value read' read)))
  frozen_value m known h = rw (stands_next_value m known h, stays_value) refl

  pub pick_value : (m : Text) → IsKnown s (Some m) → m ≢ codes "nominal" →
      evaluate now next (binary op.Implies (binary op.And (stands s.name m) (stands_next s.name m)) (stays_tree s.target))
      ≡ Some (one (truth (opposite (stands_at st m && stands_at st' m) || same_value read' read)))
  pick_value m known h = rw (stands_value s type now next read own st l m known h, stands_next_value m known h, stays_value) refl

  pub ramp_value : (m : Text) (k f n n' : ℤ) → IsKnown s (Some m) → m ≢ codes "nominal" → read ≡ number n → read' ≡ number n' →
      evaluate now next (binary op.Implies (stands_next s.name m) (binary op.Equal (next_of (named s.target)) (greater_tree (binary op.Minus (named s.target) (number_tree k)) f)))
      ≡ Some (one (truth (opposite (stands_at st' m) || same_value (number n') (number (if int_lt f (n -ℤ k) then n -ℤ k else f)))))
  ramp_value m k f n n' known h e e' =
      let difference : evaluate now next (binary op.Minus (named s.target) (number_tree k)) ≡ Some (one (number (n -ℤ k))) = rw (l.read_leaf, e, number_value now next k) refl in
      rw (stands_next_value m known h, l'.read_leaf, e', greater_value now next (binary op.Minus (named s.target) (number_tree k)) (n -ℤ k) f difference) refl

-- within one moment
module _ (s : SliceTree) (type : DeclaredTree) (now next : Leaves Path) (read own : Value) (st : ModeState)
    (l : SliceLeaves s type now read own st) (uniform : IsUniform type) (d : IsTrue (in_domain type read)) (o : IsTrue (in_domain type own)) where
  pub erroneous_value : (m : Text) → IsKnown s (Some m) → m ≢ codes "nominal" →
      evaluate now next (binary op.Implies (stands s.name m) (binary op.Differs (named s.target) (named (own_name s.target))))
      ≡ Some (one (truth (opposite (stands_at st m) || opposite (same_value read own))))
  erroneous_value m known h = rw (stands_value s type now next read own st l m known h, l.read_leaf, l.own_leaf, (compared type read own uniform d o).1) refl

  -- and at a first moment
  pub frozen_first_value : (m : Text) → IsKnown s (Some m) → m ≢ codes "nominal" →
      evaluate now next (frozen_first s.name m s.target) ≡ Some (one (truth (opposite (stands_at st m) || same_value read own)))
  frozen_first_value m known h = rw (stands_value s type now next read own st l m known h, l.read_leaf, l.own_leaf, (compared type read own uniform d o).0) refl

  pub ramp_first_value : (m : Text) (k f n n' : ℤ) → IsKnown s (Some m) → m ≢ codes "nominal" → own ≡ number n → read ≡ number n' →
      evaluate now next (ramp_first k f s.name m s.target)
      ≡ Some (one (truth (opposite (stands_at st m) || same_value (number n') (number (if int_lt f (n -ℤ k) then n -ℤ k else f)))))
  ramp_first_value m k f n n' known h e e' =
      let difference : evaluate now next (binary op.Minus (named (own_name s.target)) (number_tree k)) ≡ Some (one (number (n -ℤ k))) = rw (l.own_leaf, e, number_value now next k) refl in
      rw (
        stands_value s type now next read own st l m known h,
        l.read_leaf,
        e',
        greater_value now next (binary op.Minus (named (own_name s.target)) (number_tree k)) (n -ℤ k) f difference,
      ) refl

-- what the tests say
pub implied : (a b : Bool) → (opposite a || b) ≡ true ↔ (a ≡ true → b ≡ true)
implied true b = ((λ h e. h), (λ h. h refl))
implied false b = ((λ h e. cc), (λ h. refl))

pub equal_value : (x y : Value) → (same_value x y ≡ true) ↔ (x ≡ y)
equal_value x y = (same_value_equal x y, (λ e. subst (λ z. same_value x z ≡ true) e (same_value_refl x)))

pub differs_value : (x y : Value) → (opposite (same_value x y) ≡ true) ↔ (x ≢ y)
differs_value x y = go (same_value x y) refl
  where
    go : (b : Bool) → same_value x y ≡ b → (opposite b ≡ true) ↔ (x ≢ y)
    go true e = ((λ h. cc), (λ h. absurd (h (same_value_equal x y e))))
    go false e = ((λ h same. let yes' : same_value x y ≡ true = (equal_value x y).1 same in cc), (λ h. refl))
