-- What the passes of a copy build together.
use Rattle.std.proofs.Common.{◌≡◌, ℕ, ◌<◌, ◌≤◌, Bool, List, refl, sym, ◌∙◌, ap, subst, arith}
use Rattle.smv_language.specs.Language.{Each, FlatModel}
use Rattle.sat_circuits.specs.Circuit.{Circuit, after}
use Rattle.sat_circuits.specs.Meaning.{HasTruth}
use Rattle.sat_encoding_laws.specs.Signals.{Signal}
use Rattle.sat_encoding_laws.specs.Layout.{variable_signals}
use Rattle.sat_encoding_laws.specs.Lists.{Copy, copy_of as the_copy, names_of, formulas_gates, domains_gates, definitions_gates, moment_gates, copy_gates}
use Rattle.sat_encoding_laws.specs.Meanings.{IsSignal, IsReady}
use Rattle.sat_encoding_laws.specs.Encodable.{IsEncodable}
use Rattle.sat_encoding_laws.proofs.MomentMeans.{model_types}
use Rattle.sat_encoding_laws.proofs.Readings.{signals_below}
use Rattle.sat_expressions.specs.BuiltSignals.{signals_of}
use Rattle.sat_expressions.proofs.ChoiceLoop.{usable_later}
use Rattle.sat_expressions.specs.declared.names.Copied.{Copied}
use Rattle.sat_expressions.specs.ModelNames.{copy_of, IsCopied}
use Rattle.sat_encoding.specs.Copies.{BuildsDefinitions, BuildsCopy, Builds, IsPlaced}

pub copied_later : (c : Copied) (s t : Circuit) → s.free ≤ t.free → IsCopied s c → IsCopied t c
copied_later c s t h k = record { variables = usable_later s t h c.variables k.variables; definitions = usable_later s t h c.definitions k.definitions }

pub builds_then : (s t u r q : Circuit) (f : Circuit → Circuit) → Builds s r t → Builds t (f t) u → q ≡ f r → Builds s q u
builds_then s t u r q f a b e = record { exact = e ∙ ap f a.exact ∙ b.exact; grows = omega (arith, a.grows, b.grows) }

-- the bits of a copy may be used
pub variables_usable : (m : FlatModel) → IsEncodable m → (s : Circuit) (p q : ℕ) → HasTruth s → 1 < s.free → IsPlaced m s p q → (es : List Signal) → es ≡ variable_signals m.symbols p q m.variables → Each (IsSignal s) es
variables_usable m is s p q truth least placed es e =
    let ready : IsReady s = record { truth = truth; least = least } in
    subst (λ (xs : List Signal). Each (IsSignal s) xs) (sym e) (signals_below m.symbols is.symbols s ready m.variables (model_types m is) p q placed.state placed.inputs)

abbrev made_copy : FlatModel → Bool → List Signal → List Signal → Circuit → Circuit × Copy
made_copy m all xs ds t = (moment_gates m (the_copy xs ds) all t, the_copy xs ds)

abbrev with_copy : Copy → Circuit → Circuit × Copy
with_copy v t = (t, v)

pub copy_is : (m : FlatModel) (all : Bool) (vs es : List Signal) (s t u : Circuit) (c : Copied) → es ≡ vs → BuildsDefinitions es s (definitions_gates m es all s) t c → Builds t (moment_gates m (copy_of c) all t) u
    → BuildsCopy s (copy_gates m vs all s) u c
unfolding after
copy_is m all vs es s t u c e defs made =
    record {
      exact =
          sym (ap (λ xs. copy_gates m xs all s) e) ∙ ap (λ (r : Circuit × List Signal). made_copy m all es r.1 r.0) defs.exact
          ∙ sym (ap (λ xs. made_copy m all xs (signals_of c.definitions) t) defs.variables) ∙ ap (with_copy (copy_of c)) made.exact;
      usable = copied_later c t u made.grows defs.usable;
      grows = omega (arith, defs.grows, made.grows);
    }

pub moment_is : (m : FlatModel) (c : Copied) (all : Bool) (s t u : Circuit) → ((now next : Copy) → Builds s (domains_gates m (names_of m now next) all m.variables (signals_of c.variables) s) t)
    → Builds t (formulas_gates (names_of m (copy_of c) (copy_of c)) m.at_each t) u → Builds s (moment_gates m (copy_of c) all s) u
moment_is m c all s t u domains formulas = builds_then s t u _ _ (formulas_gates (names_of m (copy_of c) (copy_of c)) m.at_each) (domains (copy_of c) (copy_of c)) formulas refl
