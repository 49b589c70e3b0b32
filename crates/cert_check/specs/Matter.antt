-- What a certificate is judged about: a model with its faults and a top event, and the clause lists that encode them.
use Rattle.std.specs.Prelude.{ℕ, List, map}
use Rattle.smv_language.specs.Language.{Tree, Value, FlatLeaf, FlatModel, model_tree, flat_tree}
use Rattle.smv_language.specs.declared.expr.Expr.{Expr}
use Rattle.smv_flat_laws.specs.FlatTrace.{IsFlatTrace}
use Rattle.smv_flat_laws.specs.History.{Mode}
use Rattle.smv_language.specs.declared.model.Flat.{Flat}
use Rattle.smv_language.specs.declared.model.FlatModel.{FlatModel as Model}
use Rattle.smv_language.specs.declared.model.Fault.{Fault}
use Rattle.smv_flat_laws.specs.FaultModes.{mode_of}
use Rattle.sat_encoding_laws.specs.FlatTraces.{ReachesTop, HasFailedNumber}
use Rattle.cut_text_laws.specs.TraceOfText.{GivesTrace}
use Rattle.cert_laws.specs.Certificate.{Certificate, Site}
use Rattle.cert_laws.specs.Acceptance.{Subject, Rule, IsAccepted, IsObjection}
use Rattle.cert_laws.specs.Subject.{subject_of}
use Rattle.cert_laws.specs.Sites.{KeepsAll, BreaksFirst}

-- a model without history, its faults, a top event, a subject and a certificate
pub record Matter : Type 0 where
  pub model : FlatModel
  pub modes : List Mode
  pub top : Tree FlatLeaf
  pub subject : Subject
  pub certificate : Certificate

-- the matter of what the code has in memory
abbrev pub matter_of : Model → Model → List Fault → Expr Flat → Certificate → Matter
matter_of full plain faults top c =
    record {
      model = model_tree plain;
      modes = map mode_of faults;
      top = flat_tree top;
      subject = subject_of (model_tree full) (model_tree plain) (map mode_of faults) (flat_tree top);
      certificate = c;
    }

module _ (a : Matter) where
  -- no rule is broken, by texts of flat traces that reach the top event
  abbrev pub IsAcceptedIn : Type 0
  IsAcceptedIn = IsAccepted (List (List Value)) (GivesTrace a.model) (IsFlatTrace a.model) (ReachesTop a.model a.top)
      (HasFailedNumber a.model a.modes) a.subject a.certificate

  -- a rule is the first that is broken
  abbrev pub IsObjectionIn : ℕ → Rule → Type 0
  IsObjectionIn line rule =
      IsObjection (List (List Value)) (GivesTrace a.model) (IsFlatTrace a.model) (ReachesTop a.model a.top)
      (HasFailedNumber a.model a.modes) a.subject a.certificate line rule

  -- every rule is kept at a site
  abbrev pub KeepsAllIn : Site → Type 0
  KeepsAllIn site = KeepsAll (List (List Value)) (GivesTrace a.model) (IsFlatTrace a.model) (ReachesTop a.model a.top)
      (HasFailedNumber a.model a.modes) a.subject a.certificate site

  -- a rule is the first that is broken at a site
  abbrev pub BreaksFirstIn : Site → Rule → Type 0
  BreaksFirstIn site rule =
      BreaksFirst (List (List Value)) (GivesTrace a.model) (IsFlatTrace a.model) (ReachesTop a.model a.top)
      (HasFailedNumber a.model a.modes) a.subject a.certificate site rule
