-- The stages of a generated model: numbered from 1 on, each fed by one of them or by TRUE, with names of their own.
use Rattle.std.proofs.Common.{◌≡◌, ℕ, suc, ◌+◌, ◌^◌, ◌<◌, ◌≤◌, arith, Bool, true, false, List, [], ◌∷◌, ◌++◌, length, Option, Some, None, refl, sym, ◌∙◌, ap, subst, eqb-true, drop}
use Rattle.std.specs.Prelude.{nat_eq, codes}
use Rattle.std.proofs.lemmas.Bool.Decides.{nat_tests}
use Rattle.std.proofs.lemmas.Fmt.{decimal_injective}
use Rattle.base_values.specs.declared.limits.TheConstants.{MOST_INSTANCES}
use Rattle.smv_language.specs.Language.{DeclTree, SectionTree, ModuleTree, ProgramTree, same_text, Each, Kind, an_instance, state, kind_in_decls}
use Rattle.smv_language.proofs.ValueLaws.{same_text_equal, same_text_refl}
use Rattle.smv_flat_laws.proofs.Lists.{each_more}
use Rattle.fault_generator.specs.Generator.{rails_after, stage_name, output_of, Rails, stage, with_stage, with_stages, rails_of, relay_variables, relay_assignments, relay_module, main_module, generated_model}
use Rattle.fault_generator.proofs.Writable.{as_many}
use Rattle.smv_language.proofs.EachLaws.{each_end}

-- stages numbered from this one on, by what feeds each
abbrev pub stages_from : ℕ → List (Option ℕ) → List DeclTree
stages_from n [] = []
stages_from n (f ∷ fs) = stage n f ∷ stages_from (suc n) fs

-- nothing, or a stage before this one
abbrev pub IsStageBefore : ℕ → Option ℕ → Type 0
IsStageBefore n None = Unit {0}
IsStageBefore n (Some j) = (1 ≤ j) × (j < n)

-- the modules of a model with stages that these feed, and these last outputs
abbrev pub main_of : List (Option ℕ) → Option ℕ → Option ℕ → ModuleTree
main_of fs last_a last_b = main_module (record { stages = stages_from 1 fs; last_a = last_a; last_b = last_b })

-- the module of relays with other sections, as it is woven
abbrev pub relay_with : List SectionTree → ModuleTree
relay_with sections = record { name = codes "Relay"; formals = codes "feed" ∷ []; sections = sections }

abbrev pub program_with : List SectionTree → List (Option ℕ) → Option ℕ → Option ℕ → ProgramTree
program_with sections fs last_a last_b = relay_with sections ∷ main_of fs last_a last_b ∷ []

abbrev pub relay_sections : List SectionTree
relay_sections = relay_variables ∷ relay_assignments ∷ []

abbrev pub program_of : List (Option ℕ) → Option ℕ → Option ℕ → ProgramTree
program_of fs last_a last_b = program_with relay_sections fs last_a last_b

-- so many stages, of which each is fed by one of them or by TRUE, and so are the last outputs
pub record AreStages (fs : List (Option ℕ)) (last_a last_b : Option ℕ) : Type 0 where
  pub few : length fs < MOST_INSTANCES
  pub fed : Each (IsStageBefore (suc (length fs))) fs
  pub is_a : IsStageBefore (suc (length fs)) last_a
  pub is_b : IsStageBefore (suc (length fs)) last_b

-- Rails that are built stage by stage are so.
record AreRails (rails : Rails) (next : ℕ) (fs : List (Option ℕ)) : Type 0 where
  stages : rails.stages ≡ stages_from 1 fs
  count : next ≡ suc (length fs)
  fed : Each (IsStageBefore next) fs
  is_a : IsStageBefore next rails.last_a
  is_b : IsStageBefore next rails.last_b

before_later : (n : ℕ) (f : Option ℕ) → IsStageBefore n f → IsStageBefore (suc n) f
before_later n None h = tt
before_later n (Some j) h = (h.0, omega (arith, h.1))

length_more : (fs : List (Option ℕ)) (f : Option ℕ) → length (fs ++ f ∷ []) ≡ suc (length fs)
length_more [] f = refl
length_more (g ∷ fs) f = ap suc (length_more fs f)

stages_end : (n m : ℕ) (fs : List (Option ℕ)) (f : Option ℕ) → m ≡ n + length fs → stages_from n fs ++ stage m f ∷ [] ≡ stages_from n (fs ++ f ∷ [])
stages_end n m [] f e = let same : m ≡ n = omega (arith, e) in ap (λ k. stage k f ∷ []) same
stages_end n m (g ∷ fs) f e = let later : m ≡ suc n + length fs = omega (arith, e) in ap (λ ds. stage n g ∷ ds) (stages_end (suc n) m fs f later)

fed_by : Bool → Rails → Option ℕ
fed_by true rails = rails.last_a
fed_by false rails = rails.last_b

more_rails : (b : Bool) (i : ℕ) (rails : Rails) (fs : List (Option ℕ)) → AreRails rails i fs → AreRails (with_stage b i rails) (suc i) (fs ++ fed_by b rails ∷ [])
unfolding fed_by
more_rails true i rails fs are =
    let later : i ≡ 1 + length fs = omega (arith, are.count) in
    record {
      stages = ap (λ ds. ds ++ stage i rails.last_a ∷ []) are.stages ∙ stages_end 1 i fs rails.last_a later;
      count = ap suc are.count ∙ ap suc (sym (length_more fs rails.last_a));
      fed = each_end (IsStageBefore (suc i)) fs rails.last_a (each_more (IsStageBefore i) (IsStageBefore (suc i)) fs (before_later i) are.fed) (before_later i rails.last_a are.is_a);
      is_a = (omega (arith, are.count), omega arith);
      is_b = before_later i rails.last_b are.is_b;
    }
more_rails false i rails fs are =
    let later : i ≡ 1 + length fs = omega (arith, are.count) in
    record {
      stages = ap (λ ds. ds ++ stage i rails.last_b ∷ []) are.stages ∙ stages_end 1 i fs rails.last_b later;
      count = ap suc are.count ∙ ap suc (sym (length_more fs rails.last_b));
      fed = each_end (IsStageBefore (suc i)) fs rails.last_b (each_more (IsStageBefore i) (IsStageBefore (suc i)) fs (before_later i) are.fed) (before_later i rails.last_b are.is_b);
      is_a = before_later i rails.last_a are.is_a;
      is_b = (omega (arith, are.count), omega arith);
    }

all_rails : (bs : List Bool) (i : ℕ) (rails : Rails) (fs : List (Option ℕ)) → AreRails rails i fs → (gs : List (Option ℕ)) × AreRails (with_stages bs i rails) (i + length bs) gs
all_rails [] i rails fs are = let same : i ≡ i + 0 = omega arith in (fs, subst (λ n. AreRails rails n fs) same are)
all_rails (b ∷ bs) i rails fs are =
    let more : (gs : List (Option ℕ)) × AreRails (with_stages bs (suc i) (with_stage b i rails)) (suc i + length bs) gs =
    all_rails bs (suc i) (with_stage b i rails) (fs ++ fed_by b rails ∷ []) (more_rails b i rails fs are) in
    let same : suc i + length bs ≡ i + suc (length bs) = omega arith in
    (more.0, subst (λ n. AreRails (with_stages bs (suc i) (with_stage b i rails)) n more.0) same more.1)

-- a generated model is such a program
pub record IsOfStages (p : ProgramTree) (stages : ℕ) : Type 0 where
  pub fs : List (Option ℕ)
  pub last_a : Option ℕ
  pub last_b : Option ℕ
  pub same : program_of fs last_a last_b ≡ p
  pub count : length fs ≡ stages
  pub are : AreStages fs last_a last_b

pub generated_of_stages : (number stages : ℕ) → stages < MOST_INSTANCES → IsOfStages (generated_model number stages) stages
generated_of_stages number stages few = record {
  fs = built.0;
  last_a = (rails_of number stages).last_a;
  last_b = (rails_of number stages).last_b;
  same = ap (λ (ds : List DeclTree). relay_module ∷ main_module (record { stages = ds; last_a = (rails_of number stages).last_a; last_b = (rails_of number stages).last_b }) ∷ []) (sym built.1.stages);
  count = long;
  are = record {
    few = omega (arith, few, long);
    fed = subst (λ n. Each (IsStageBefore n) built.0) built.1.count built.1.fed;
    is_a = subst (λ n. IsStageBefore n (rails_of number stages).last_a) built.1.count built.1.is_a;
    is_b = subst (λ n. IsStageBefore n (rails_of number stages).last_b) built.1.count built.1.is_b;
  };
}
  where
    built : (gs : List (Option ℕ)) × AreRails (rails_of number stages) (1 + length (rails_after stages number)) gs
    built = all_rails (rails_after stages number) 1 (record { stages = []; last_a = None; last_b = None }) [] (record { stages = refl; count = refl; fed = tt; is_a = tt; is_b = tt })

    long : length built.0 ≡ stages
    long = omega (arith, built.1.count, as_many stages number)

-- Stages of different numbers have different names.
same_number : (i j : ℕ) → i < 2 ^ 64 → j < 2 ^ 64 → stage_name i ≡ stage_name j → i ≡ j
same_number i j h k e = decimal_injective i j h k (ap (drop 1) e)

pub names_differ : (i j : ℕ) → i < j → j < 2 ^ 64 → same_text (stage_name i) (stage_name j) ≡ false
names_differ i j h k = by_test (same_text (stage_name i) (stage_name j)) refl
  where
    by_test : (b : Bool) → same_text (stage_name i) (stage_name j) ≡ b → same_text (stage_name i) (stage_name j) ≡ false
    by_test false e = e
    by_test true e = let same : i ≡ j = same_number i j (omega (arith, h, k)) k (same_text_equal (stage_name i) (stage_name j) e) in absurd (omega (arith, h, same))

-- a stage's name is declared, as an instance of the module of relays
pub record IsFed (n : ℕ) (otherwise : Kind) : Type 0 where
  pub feed : Option ℕ
  pub before : IsStageBefore n feed
  pub kind : otherwise ≡ an_instance (codes "Relay") (output_of feed ∷ [])

pub stage_found : (n i : ℕ) (fs : List (Option ℕ)) (j : ℕ) (otherwise : Kind) → Each (IsStageBefore n) fs → i ≤ j → j < i + length fs → j < 2 ^ 64 →
    IsFed n (kind_in_decls state (stages_from i fs) (stage_name j) otherwise)
stage_found n i [] j otherwise fed h k small = absurd (omega (arith, h, k))
stage_found n i (f ∷ fs) j otherwise fed h k small = by_number (nat_eq i j) refl (λ apart. stage_found n (suc i) fs j otherwise fed.1 apart (omega (arith, k)) small)
  where
    by_number : (b : Bool) → nat_eq i j ≡ b → (i < j → IsFed n (kind_in_decls state (stages_from (suc i) fs) (stage_name j) otherwise)) →
        IsFed n (kind_in_decls state (stages_from i (f ∷ fs)) (stage_name j) otherwise)
    by_number true e later =
        let same : i ≡ j = eqb-true i j e in
        let found : same_text (stage_name i) (stage_name j) ≡ true = subst (λ k. same_text (stage_name i) (stage_name k) ≡ true) same (same_text_refl (stage_name i)) in
        record { feed = f; before = fed.0; kind = rw found refl }
    by_number false e later =
        let apart : i < j = grind (arith, nat_tests) in
        let other : same_text (stage_name i) (stage_name j) ≡ false = names_differ i j apart small in
        rw other (later apart)

-- no stage is named `dead`
pub no_stage_dead : (i : ℕ) (fs : List (Option ℕ)) (otherwise : Kind) → kind_in_decls state (stages_from i fs) (codes "dead") otherwise ≡ otherwise
no_stage_dead i [] otherwise = refl
no_stage_dead i (f ∷ fs) otherwise = no_stage_dead (suc i) fs otherwise
