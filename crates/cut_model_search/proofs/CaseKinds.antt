-- The flat model of a case breaks no rule of kinds, and its faults are modes whose variables have symbols.
use Rattle.std.proofs.Common.{◌≡◌, ℕ, List, [], ◌∷◌, refl, ap, subst, ◌∙◌}
use Rattle.smv_language.specs.Language.{Each, EachBoth, FlatModel}
use Rattle.smv_flat_laws.specs.History.{Mode}
use Rattle.smv_flat_laws.specs.FlatTrace.{IsModeOf}
use Rattle.smv_flat_laws.proofs.Lists.{each_more}
use Rattle.smv_type_laws.specs.ExpressionKinds.{KindRule, too_large}
use Rattle.smv_type_laws.specs.Laws.{IsClosed}
use Rattle.smv_type_laws.specs.Models.{breaches, IsTyped, IsFault}
use Rattle.smv_type_laws.proofs.ClosedLaws.{models_closed}
use Rattle.fault_weave.specs.Faults.{Fault}
use Rattle.fault_woven_laws.specs.Modes.{HasSymbols, IsSliceMode}
use Rattle.fault_woven_laws.specs.Laws.{AreWoven}
use Rattle.fault_woven_laws.proofs.WovenLaws.{modes_symbols, modes_are_modes}
use Rattle.verb_loading.specs.Models.{IsLawful}
use Rattle.verb_loading.specs.declared.status.InputFault.{InputFault}
use Rattle.verb_loading.specs.Wrongs.{kinds_fault}
use Rattle.verb_loading.specs.Wholes.{IsWhole, BreaksKinds}
use Rattle.verb_loading.specs.Cases.{Case, extension_of, whole_of, IsCase}
use Rattle.verb_loading.proofs.LimitLaws.{of_program, slice_modes, are_woven}
use Rattle.verb_loading.proofs.FlatLimits.{flat_typed}
use Rattle.cert_laws.specs.ExtendedTraces.{IsModeOfFault}

pub record HasKinds (c : Case) : Type 0 where
  pub closed : IsClosed c.flat
  pub no_breach : breaches c.flat ≡ []
  pub modes : Each (IsModeOf c.flat) c.modes
  pub symbols : Each (HasSymbols c.flat) c.modes

module _ (c : Case) (m : FlatModel) (lawful : IsLawful c.program m) (is : IsCase c) where
  abbrev whole : IsWhole (extension_of c) c.faults (whole_of c)
  whole = record { flat = c.flat; modes = c.modes; model = is.is_flat; are_modes = is.are_modes; is = refl }

  woven_of : AreWoven c.program m c.instructions c.flat
  woven_of = are_woven c.program m c.instructions c.faults lawful is.taken is.are_faults (whole_of c) whole is.within.accepted

  of_slices : Each (IsSliceMode c.program c.instructions c.flat) c.modes
  of_slices = slice_modes c.program c.instructions c.flat c.faults c.modes is.are_modes (of_program c.program c.instructions c.faults is.are_faults)

  modes_are : (faults : List Fault) (modes : List Mode) → EachBoth (IsModeOfFault c.flat) faults modes → Each (IsSliceMode c.program c.instructions c.flat) modes → Each (IsModeOf c.flat) modes
  modes_are [] [] both of = tt
  modes_are [] (f ∷ modes) both of = absurd both
  modes_are (a ∷ faults) [] both of = absurd both
  modes_are (a ∷ faults) (f ∷ modes) both of = (modes_are_modes c.program m c.instructions c.flat woven_of f of.0 _ both.0.symbol, modes_are faults modes both.1 of.1)

  pub case_kinds : HasKinds c
  case_kinds =
      let typed : IsTyped c.flat = flat_typed c.program m c.instructions c.faults lawful is.taken is.are_faults c.flat is.is_flat is.within in
      record {
        closed = models_closed (extension_of c) c.flat is.is_flat.is;
        no_breach = typed.kept;
        modes = modes_are c.faults c.modes is.are_modes of_slices;
        symbols = each_more (IsSliceMode c.program c.instructions c.flat) (HasSymbols c.flat) c.modes (λ f s. modes_symbols c.program m c.instructions c.flat woven_of f s) of_slices;
      }

-- where the one fault of kinds that a model may have is that of its size, that is told
pub size_told : (k : FlatModel) (fault : InputFault) → BreaksKinds k fault → ((rule : KindRule) (item : ℕ) → IsFault k rule item → (rule ≡ too_large) × (item ≡ 0)) →
    IsFault k too_large 0 × (fault ≡ kinds_fault too_large 0)
size_told k fault h alone =
    let only = alone h.rule h.item h.broken in
    (subst (λ r. IsFault k r 0) only.0 (subst (λ i. IsFault k h.rule i) only.1 h.broken), h.is ∙ ap (λ r. kinds_fault r 0) only.0)
