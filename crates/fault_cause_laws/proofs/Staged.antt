-- An extension's model meets what the staged model asks.
use Rattle.std.proofs.Common.{ℕ, suc, List, [], ◌∷◌, length}
use Rattle.smv_language.specs.Language.{Tree, AllLeaves, Each, FlatLeaf, flat_variable, flat_symbol, flat_definition, FlatFormula, FlatModel}
use Rattle.smv_flat_laws.specs.NameResolution.{leaves_in, Resolver, IsSound, IsResolved}
use Rattle.smv_flat_laws.proofs.Lists.{each_more}
use Rattle.smv_type_laws.specs.Laws.{IsKnown, AreInOrder, IsClosed}
use Rattle.smv_type_laws.proofs.ClosedLaws.{own_by, models_closed}
use Rattle.fault_weave.specs.WovenProgram.{woven}
use Rattle.sat_encoding_laws.specs.EncodedLaws.{AreOwn}
use Rattle.cert_laws.proofs.Own.{each_leaf, models_own}
use Rattle.fault_cause_laws.specs.Additions.{IsKnownName, IsKnownFormula, KnowsNames}
use Rattle.fault_cause_laws.specs.CausesExtendedLaws.{ExtensionsAreStaged}

known_name : (v s d : ℕ) (l : FlatLeaf) → IsKnown v s d l → IsKnownName v s l
known_name v s d (flat_variable i) h = h
known_name v s d (flat_symbol i) h = h
known_name v s d (flat_definition i) h = tt

known_names : (v s d : ℕ) (e : Tree FlatLeaf) → AllLeaves (IsKnown v s d) e → Each (IsKnownName v s) (leaves_in e)
known_names v s d e h = each_more (IsKnown v s d) (IsKnownName v s) (leaves_in e) (known_name v s d) (each_leaf (IsKnown v s d) e h)

known_definitions : (v s k : ℕ) (ds : List FlatFormula) → AreInOrder v s k ds → Each (IsKnownFormula v s) ds
known_definitions v s k [] h = tt
known_definitions v s k (d ∷ ds) h = (known_names v s k d.value h.0, known_definitions v s (suc k) ds h.1)

pub closed_knows : (m : FlatModel) → IsClosed m → KnowsNames m
closed_knows m closed = record {
  definitions = known_definitions (length m.variables) (length m.symbols) 0 m.definitions closed.definitions;
  at_first = formulas m.at_first closed.at_first;
  at_each = formulas m.at_each closed.at_each;
  at_step = formulas m.at_step closed.at_step;
}
  where
    formulas : (fs : List FlatFormula) → Each (λ f. AllLeaves (IsKnown (length m.variables) (length m.symbols) (length m.definitions)) f.value) fs → Each (IsKnownFormula (length m.variables) (length m.symbols)) fs
    formulas [] h = tt
    formulas (f ∷ fs) h = (known_names (length m.variables) (length m.symbols) (length m.definitions) f.value h.0, formulas fs h.1)

pub extensions_staged : ExtensionsAreStaged
extensions_staged p i faults top m fs flat_top model cs are =
    let own : AreOwn m fs flat_top = models_own p i faults top m fs flat_top model in
    let r : (r : Resolver) × IsSound (woven p i) m model.flat.written r × IsResolved (r []) top flat_top = model.resolved model.flat in (
      record { knows = closed_knows m (models_closed (woven p i) m model.flat); modes = own.modes; causes = are },
      known_names (length m.variables) (length m.symbols) (length m.definitions) flat_top (own_by (woven p i) m model.flat r.0 r.1 [] top flat_top r.2),
    )
