-- A mode stands where its variable has the number of its symbol.
use Rattle.std.proofs.Common.{◌≡◌, ◌<◌, List, [], ◌∷◌, length, Some, refl, ap, ◌∙◌}
use Rattle.std.specs.Prelude.{slice_get}
use Rattle.std.specs.List.{list_any}
use Rattle.smv_language.specs.Language.{Text, same_text, text_or_none, Each, FlatModel, told_trace, told_moment, told_value}
use Rattle.base_values.specs.declared.value.Value.{Value}
use Rattle.base_values.specs.declared.value.Value.TheVariants.{Bool as truth, Num, Sym}
use Rattle.smv_flat_laws.specs.FlatTrace.{is_symbol_value, stands, stands_in_some}
use Rattle.smv_flat_laws.specs.History.{Mode}
use Rattle.smv_evaluation.specs.SymbolTests.{is_symbol, has_symbol}
use Rattle.smv_evaluation.specs.EvaluableModels.{IsNumbered, IsEvaluable, IsLawful}
use Rattle.smv_evaluation.proofs.FilledLaws.{lawful_length}
use Rattle.smv_evaluation.proofs.Rows.{same_symbol}
use Rattle.smv_flat_laws.proofs.Conditions.{each_at}
use Rattle.smv_language.proofs.ListLaws.{get_map}
use Rattle.base_values.proofs.ListLaws.{get_within}

module _ (m : FlatModel) (able : IsEvaluable m) (f : Mode) (variable : f.variable < length m.variables) (symbol : f.symbol < length m.symbols) where
  symbol_is : (y : Text) → slice_get m.symbols f.symbol ≡ Some y → (v : Value) → IsNumbered m.symbols v → is_symbol f.symbol v ≡ is_symbol_value (Some y) (Some (told_value m.symbols v))
  symbol_is y e (truth b) p = refl
  symbol_is y e (Num n) p = refl
  symbol_is y e (Sym i) p =
      same_symbol m.symbols able.apart i f.symbol p (record { text = y; there = e }) ∙ ap (λ o. same_text (text_or_none (slice_get m.symbols i)) (text_or_none o)) e

  stands_is : (v : List Value) → IsLawful m v → has_symbol f.variable f.symbol v ≡ stands m f (told_moment m.symbols v)
  stands_is v p =
      let x : (x : Value) × (slice_get v f.variable ≡ Some x) = get_within v f.variable (lawful_length m v p f.variable variable) in
      let y : (y : Text) × (slice_get m.symbols f.symbol ≡ Some y) = get_within m.symbols f.symbol symbol in
      rw (x.1, y.1, get_map (told_value m.symbols) v f.variable x.0 x.1) (symbol_is y.0 y.1 x.0 (each_at (IsNumbered m.symbols) v f.variable x.0 p.numbered x.1))

  pub failed_law : (trace : List (List Value)) → Each (IsLawful m) trace → list_any (has_symbol f.variable f.symbol) trace ≡ stands_in_some m f (told_trace m.symbols trace)
  failed_law [] p = refl
  failed_law (v ∷ vs) p = rw (stands_is v p.0, failed_law vs p.1) refl
