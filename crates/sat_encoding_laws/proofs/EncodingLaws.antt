-- The laws of encoding.
use Rattle.std.proofs.Common.{false, refl}
use Rattle.smv_language.specs.Language.{Tree, Trees, Branches, leaf, not_of, negate, next_of, binary, choice, case_of, set_of, span, no_tree, tree_then, no_branch, branch_then, AllLeaves, AllLeavesOfTrees, AllLeavesOfBranches, FlatLeaf, leaves_at}
use Rattle.smv_language.specs.Tree.{truth as is_truth, number as is_number}
use Rattle.smv_type_laws.specs.Models.{kind_of_leaf}
use Rattle.smv_type_laws.proofs.Typed.{model_holds}
use Rattle.sat_circuits.proofs.Extension.{Means-weaker}
use Rattle.sat_encoding_laws.specs.Expressions.{Asked, its_value, whether_has}
use Rattle.sat_encoding_laws.specs.Meanings.{IsSignal}
use Rattle.sat_encoding_laws.specs.ReadNames.{Reads, ReadsTrees, ReadsBranches}
use Rattle.sat_encoding_laws.specs.Encodable.{IsKnownName}
use Rattle.sat_encoding_laws.specs.Laws.{ExpressionsAreEncoded, WordsHoldKinds, ModelsAreEncoded, BadStatesAreEncoded, IsAskedIn, IsAskedOf}
use Rattle.sat_encoding_laws.proofs.ExpressionMeans.{encoded-means}
use Rattle.sat_encoding_laws.proofs.Fitting.{fits_width}
use Rattle.sat_encoding_laws.proofs.SystemMeans.{encoding_of}
use Rattle.sat_encoding_laws.proofs.BadMeans.{bad_list_of}

-- a tree of which nothing is left out
mutual
  reads_all : {L : Type 0} (good : L → Type 0) (t : Tree L) → AllLeaves good t → Reads good (λ l. false) (λ l. false) t
  reads_all good (is_truth b) h = tt
  reads_all good (is_number n) h = tt
  reads_all good (leaf l) h = (h, refl)
  reads_all good (not_of a) h = reads_all good a h
  reads_all good (negate a) h = reads_all good a h
  reads_all good (next_of a) h = reads_all good a h
  reads_all good (binary o a b) h = (reads_all good a h.0, reads_all good b h.1)
  reads_all good (choice d a b) h = (reads_all good d h.0, reads_all good a h.1, reads_all good b h.2)
  reads_all good (case_of bs) h = branches_all good bs h
  reads_all good (set_of ts) h = trees_all good ts h
  reads_all good (span lo hi) h = tt

  trees_all : {L : Type 0} (good : L → Type 0) (ts : Trees L) → AllLeavesOfTrees good ts → ReadsTrees good (λ l. false) (λ l. false) ts
  trees_all good no_tree h = tt
  trees_all good (tree_then t ts) h = (reads_all good t h.0, trees_all good ts h.1)

  branches_all : {L : Type 0} (good : L → Type 0) (bs : Branches L) → AllLeavesOfBranches good bs → ReadsBranches good (λ l. false) (λ l. false) bs
  branches_all good no_branch h = tt
  branches_all good (branch_then d a bs) h = (reads_all good d h.0, reads_all good a h.1, branches_all good bs h.2)

pub expressions_encoded : ExpressionsAreEncoded
expressions_encoded m is c s ready names asked hu sets may e own right =
    Means-weaker s _ IsSignal IsSignal _ _
    (encoded-means FlatLeaf m.symbols is.symbols (kind_of_leaf m) (IsKnownName m) c asked e s ready (record { now = names.now; next = names.next; width = names.width }) (usable asked hu)) (λ h. h)
    (λ a sat answers v w hv hw now next.
    answers (λ l. false) (λ l. false) (leaves_at m v) (leaves_at m w)
    (record {
      holds_now = model_holds m is.closed is.typed v hv;
      holds_next = model_holds m is.closed is.typed w hw;
      has_now = λ l known kept x given. now l known x given;
      has_next = λ l known kept x given. next l known x given;
    })
    (reads_all (IsKnownName m) e own) sets (may_ask asked may) right)
  where
    usable : (asked : Asked) → IsAskedIn s asked → IsAskedIn s asked
    usable its_value h = tt
    usable (whether_has u) h = h

    may_ask : (asked : Asked) → IsAskedOf asked sets → IsAskedOf asked sets
    may_ask its_value h = h
    may_ask (whether_has u) h = tt

pub words_hold : WordsHoldKinds
words_hold i z f h = let k = fits_width i z f h in (k.low, k.high)

pub models_encoded : ModelsAreEncoded
models_encoded m is = encoding_of m is

pub bad_states_encoded : BadStatesAreEncoded
bad_states_encoded m is top fit history bits sets size = bad_list_of m is top fit history bits sets size
