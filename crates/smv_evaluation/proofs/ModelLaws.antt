-- A program's flat model may be evaluated.
use Rattle.std.proofs.Common.{◌≡◌, List, Some, refl, subst}
use Rattle.std.specs.Prelude.{slice_get}
use Rattle.smv_language.specs.ProgramTree.{Text}
use Rattle.smv_flat_laws.specs.Model.{symbols_of}
use Rattle.smv_flat_laws.proofs.OneModel.{OtherText, symbols_apart}
use Rattle.smv_type_laws.proofs.ClosedLaws.{models_closed}
use Rattle.smv_evaluation.specs.Laws.{FlatModelsAreEvaluable}
use Rattle.smv_flat_laws.proofs.Pairs.{pairwise_same}

pub evaluable : FlatModelsAreEvaluable
evaluable p m is = record {
  closed = models_closed p m is;
  apart = λ i j x e f.
      pairwise_same OtherText (symbols_of p) i j x x (symbols_apart p) (subst (λ (xs : List Text). slice_get xs i ≡ Some x) is.symbols e) (subst (λ (xs : List Text). slice_get xs j ≡ Some x) is.symbols f)
      (λ d. d refl) (λ d. d refl);
}
