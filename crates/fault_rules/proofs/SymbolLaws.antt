-- That symbols may be asked for after the name of their slice, before those of earlier modes are added.
use Rattle.std.proofs.Common.{◌≡◌, ℕ, suc, ◌+◌, ◌<◌, length, drop, get_or, arith, Bool, true, false, List, [], ◌∷◌, ◌++◌, Option, Some, None, map, refl, sym, ◌∙◌, ap}
use Rattle.std.specs.Prelude.{◌||◌, codes}
use Rattle.smv_language.specs.Language.{Text, program_tree, declared_tree, same_text, is_among}
use Rattle.fault_instructions.specs.declared.instructions.ModeRule.{ModeRule}
use Rattle.fault_instructions.specs.Instructions.{ModeTree, mode_tree}
use Rattle.smv_language.proofs.ListLaws.{drop_here}
use Rattle.fault_instructions.specs.AddedNames.{mode_symbol}
use Rattle.fault_instructions.specs.Effects.{fault_of}
use Rattle.fault_rules.specs.Rules.{first_of, effect_rules, is_taken, is_program_name}
use Rattle.fault_rules.specs.KeyedLists.{with_text}
use Rattle.fault_rules.specs.Faults.{fault_at, rule_of, faults_of, IsKnown}
use Rattle.fault_rules.specs.Symbols.{has_symbol, AreSymbolsOf, rule_among, faults_among}
use Rattle.fault_rules.specs.declared.fault.InstructionRule.{InstructionRule}
use Rattle.fault_rules.specs.declared.fault.InstructionRule.TheVariants.{DoubleMode, NameTaken}
use Rattle.fault_rules.specs.declared.fault.RuleFault.{RuleFault}
use Rattle.fault_rules.specs.declared.modes.JudgedSlice.{JudgedSlice}
use Rattle.fault_rules.specs.declared.modes.TakenSymbols.{TakenSymbols}
use Rattle.fault_rules.proofs.KeyedLaws.{among_with}
use Rattle.fault_rules.proofs.LocalLaws.{program_has}
use Rattle.smv_language.proofs.BoolLaws.{or_false, or_assoc}
use Rattle.smv_language.proofs.ValueLaws.{same_after}

module _ (judged : JudgedSlice) (start : List Text) (symbols : TakenSymbols) (known : IsKnown judged.known.now) (are : AreSymbolsOf judged start symbols) where
  abbrev symbol_of : Text → Text
  symbol_of x = mode_symbol judged.slice.now.name (Some x)

  -- the states are those before the slice, and the symbols of earlier modes
  abbrev Agree : List Text → List Text → Type 0
  Agree states names = (x : Text) → is_among states (symbol_of x) ≡ (is_among start (symbol_of x) || is_among names x)

  -- a symbol is taken alike where no earlier mode has the name
  taken_alike : (states names : List Text) → Agree states names → (x : Text) → is_among names x ≡ false →
      has_symbol symbols x ≡ is_taken (program_tree judged.known.now.program.now) states judged.owns.now (symbol_of x)
  taken_alike states names h x new =
      let program : is_among symbols.known.0 (symbols.known.1 ++ x) ≡ is_program_name (program_tree judged.known.now.program.now) (symbol_of x) =
      ap (λ (a : List Text × Text). is_among a.0 (a.1 ++ x)) are.known ∙ ap (λ xs. is_among xs (symbol_of x)) known.names ∙ program_has (symbol_of x) (program_tree judged.known.now.program.now) in
      let state : is_among symbols.states.0 (symbols.states.1 ++ x) ≡ is_among states (symbol_of x) =
      ap (λ (a : List Text × Text). is_among a.0 (a.1 ++ x)) are.states_are ∙ sym (or_false (is_among start (symbol_of x))) ∙ ap (λ b. is_among start (symbol_of x) || b) (sym new) ∙ sym (h x) in
      let own : is_among symbols.owns.0 (symbols.owns.1 ++ x) ≡ is_among judged.owns.now (symbol_of x) = ap (λ (a : List Text × Text). is_among a.0 (a.1 ++ x)) are.owns in
      λ i. program i || (state i || own i)

  -- and so a mode breaks the same rule
  rule_alike : (states names : List Text) → Agree states names → (m : ModeTree) → rule_among judged symbols names m ≡ rule_of judged states names m
  rule_alike states names h m = go (is_among names m.name) refl
    where
      after : Bool → Bool → Option InstructionRule
      after double taken = first_of ((double, DoubleMode) ∷ (effect_rules (fault_of m.effect (declared_tree judged.declared.now)) ++ (taken, NameTaken) ∷ []))

      go : (b : Bool) → is_among names m.name ≡ b → after (is_among names m.name) (has_symbol symbols m.name)
          ≡ after (is_among names m.name) (is_taken (program_tree judged.known.now.program.now) states judged.owns.now (symbol_of m.name))
      go true e = ap (λ d. after d (has_symbol symbols m.name)) e ∙ sym (ap (λ d. after d (is_taken (program_tree judged.known.now.program.now) states judged.owns.now (symbol_of m.name))) e)
      go false e = ap (after (is_among names m.name)) (taken_alike states names h m.name e)

  -- after one more mode they still agree
  agree_more : (states names : List Text) (y : Text) → Agree states names → Agree (with_text states (symbol_of y)) (with_text names y)
  agree_more states names y h x =
      among_with states (symbol_of y) (symbol_of x)
      ∙ (λ i. h x i || same_after (judged.slice.now.name ++ codes "#") y x i)
      ∙ or_assoc (is_among start (symbol_of x)) (is_among names x) (same_text y x)
      ∙ ap (λ b. is_among start (symbol_of x) || b) (sym (among_with names y x))

  -- so all modes break the same rule first
  pub faults_alike : (states names : List Text) → Agree states names → (n : ℕ) (ms : List ModeTree) → faults_among judged symbols names n ms ≡ faults_of judged states names n ms
  faults_alike states names h n [] = refl
  faults_alike states names h n (m ∷ ms) =
      λ i. fault_at (rule_alike states names h m i) (n + 1) (faults_alike (with_text states (symbol_of m.name)) (with_text names m.name) (agree_more states names m.name h) (n + 1) ms i)

  -- with no earlier mode
  pub faults_from_none : (n : ℕ) (ms : List ModeTree) → faults_among judged symbols [] n ms ≡ faults_of judged start [] n ms
  faults_from_none n ms = faults_alike start [] (λ x. sym (or_false (is_among start (symbol_of x)))) n ms

-- modes, one on
module _ (judged : JudgedSlice) (symbols : TakenSymbols) (names : List Text) (n : ℕ) (ms : List ModeRule) (i : ℕ) (m : ModeRule) (below : i < length ms) (here : m ≡ get_or ms i m) where
  abbrev pub rest : List Text → ℕ → Option RuleFault
  rest ns k = faults_among judged symbols ns k (map mode_tree (drop (i + 1) ms))

  among_here : faults_among judged symbols names n (map mode_tree (drop i ms)) ≡ fault_at (rule_among judged symbols names (mode_tree m)) (n + 1) (rest (with_text names m.name) (n + 1))
  among_here = ap (λ xs. faults_among judged symbols names n (map mode_tree xs)) (drop_here ms i m below here)

  pub among_next : (names' : List Text) (n' : ℕ) → rule_among judged symbols names (mode_tree m) ≡ None → names' ≡ with_text names m.name → n' ≡ n + 1 →
      rest names' n' ≡ faults_among judged symbols names n (map mode_tree (drop i ms))
  among_next names' n' kept t e = (λ j. rest (t j) (e j)) ∙ sym (ap (λ r. fault_at r (n + 1) (rest (with_text names m.name) (n + 1))) kept) ∙ sym among_here

  pub among_stops : (fault : RuleFault) → rule_among judged symbols names (mode_tree m) ≡ Some fault.rule → fault.item ≡ n + 1 →
      faults_among judged symbols names n (map mode_tree (drop i ms)) ≡ Some fault
  among_stops fault told at = among_here ∙ ap (λ r. fault_at r (n + 1) (rest (with_text names m.name) (n + 1))) told ∙ ap (λ k. Some (record { rule = fault.rule; item = k })) (sym at)

  pub among_last : (n' : ℕ) → n' ≡ n + 1 → n' + length (drop (i + 1) ms) ≡ n + length (drop i ms)
  among_last n' e = let l : length (drop i ms) ≡ suc (length (drop (i + 1) ms)) = ap length (drop_here ms i m below here) in omega arith
