-- The first mode with which there are too many is the first broken rule of counts.
use Rattle.std.proofs.Common.{◌≡◌, ℕ, suc, ◌+◌, ◌*◌, Bool, true, false, List, [], ◌∷◌, ◌++◌, Some, None, Ok, Err, map, length, refl, sym, ◌∙◌, ap, subst, append_assoc, append-nil, length-append, arith}
use Rattle.std.specs.Prelude.{if◌then◌else◌, ◌||◌, nat_le, nat_lt}
use Rattle.base_values.specs.declared.limits.TheConstants.{MOST_FAULTS, MOST_MODES}
use Rattle.smv_language.specs.ProgramTree.{Text}
use Rattle.fault_instructions.specs.Instructions.{ModeTree, SliceTree, ExtensionTree}
use Rattle.fault_rules.specs.Sites.{OwnedSlice, owned, Site, an_extension, a_slice, a_mode, mode_sites, slice_sites, extension_sites}
use Rattle.fault_rules.specs.FirstBroken.{AllKept, IsFirstBroken}
use Rattle.fault_rules.specs.CountLimits.{instances_of, faults_of, is_one_too_many, count_broken_at}
use Rattle.fault_rules.specs.FaultCounts.{Outcome, start, and_then, next_item, with_mode, counted_mode, counted_modes, counted_slice, counted_slices, counted_extension, counted_extensions}
use Rattle.fault_rules.specs.Faults.{fault_at, first_fault, owned_slices, file_slices}
use Rattle.fault_rules.specs.declared.count.Counted.{Counted}
use Rattle.fault_rules.specs.declared.fault.InstructionRule.TheVariants.{TooManyFaults}
use Rattle.fault_rules.specs.declared.fault.RuleFault.{RuleFault}
use Rattle.fault_rules.proofs.SiteFaults.{faults_none, faults_some, all_kept, first_broken}

module _ (names : List Text) where
  -- what is counted is what the rule of counts says: after items that end at a number, with so many faults
  abbrev IsCounted : ℕ → List Site → ℕ → Outcome → Type 0
  IsCounted n sites total (Ok c) = (first_fault (count_broken_at names) n sites ≡ None) × (c.item ≡ n + length sites) × (c.faults ≡ total)
  IsCounted n sites total (Err f) = first_fault (count_broken_at names) n sites ≡ Some f

  faults_append : (os qs : List OwnedSlice) → faults_of names (os ++ qs) ≡ faults_of names os + faults_of names qs
  faults_append [] qs = omega arith
  faults_append (o ∷ os) qs =
      let rest : faults_of names (os ++ qs) ≡ faults_of names os + faults_of names qs = faults_append os qs in omega arith

  counted_then : (n : ℕ) (ss ts : List Site) (t u : ℕ) (r : Outcome) (next : Counted → Outcome) → IsCounted n ss t r →
      ((c : Counted) → c.item ≡ n + length ss → c.faults ≡ t → IsCounted (n + length ss) ts u (next c)) → IsCounted n (ss ++ ts) u (and_then r next)
  counted_then n ss ts t u (Err f) next h more = faults_some (count_broken_at names) n ss ts f h
  counted_then n ss ts t u (Ok c) next h more = go (next c) (more c h.1 h.2)
    where
      go : (q : Outcome) → IsCounted (n + length ss) ts u q → IsCounted n (ss ++ ts) u q
      go (Ok d) g =
          (faults_none (count_broken_at names) n ss ts h.0 ∙ g.0, let l : length (ss ++ ts) ≡ length ss + length ts = length-append ss ts in let e : d.item ≡ (n + length ss) + length ts = g.1 in omega arith, g.2)
      go (Err f) g = faults_none (count_broken_at names) n ss ts h.0 ∙ g

  -- an item that counts no fault before others
  counted_item : (n u : ℕ) (site : Site) (sites : List Site) (r : Outcome) → count_broken_at names site ≡ None → IsCounted (n + 1) sites u r → IsCounted n (site ∷ sites) u r
  counted_item n u site sites (Ok d) none g =
      (ap (λ q. fault_at q (n + 1) (first_fault (count_broken_at names) (n + 1) sites)) none ∙ g.0, let e : d.item ≡ (n + 1) + length sites = g.1 in omega arith, g.2)
  counted_item n u site sites (Err f) none g = ap (λ q. fault_at q (n + 1) (first_fault (count_broken_at names) (n + 1) sites)) none ∙ g

  module _ (before : List OwnedSlice) (o : OwnedSlice) where
    one_mode : (n : ℕ) (earlier : List ModeTree) (m : ModeTree) (c : Counted) → c.item ≡ n → c.faults ≡ faults_of names before + length earlier * instances_of names o.owner →
        IsCounted n (a_mode before o earlier m ∷ []) (faults_of names before + suc (length earlier) * instances_of names o.owner) (counted_mode (instances_of names o.owner) (length earlier) c)
    one_mode n earlier m c at has =
        subst (λ total. IsCounted n (a_mode before o earlier m ∷ []) total (counted_mode (instances_of names o.owner) (length earlier) c)) sum
        (go (nat_le MOST_MODES (length earlier) || nat_lt MOST_FAULTS (c.faults + instances_of names o.owner)) (ap (λ k. nat_le MOST_MODES (length earlier) || nat_lt MOST_FAULTS k) sum))
      where
        sum : c.faults + instances_of names o.owner ≡ faults_of names before + suc (length earlier) * instances_of names o.owner
        sum = grind arith

        go : (b : Bool) → b ≡ is_one_too_many names (a_mode before o earlier m) →
            IsCounted n (a_mode before o earlier m ∷ []) (c.faults + instances_of names o.owner)
            (if b then Err (record { rule = TooManyFaults; item = c.item + 1 }) else Ok (with_mode (instances_of names o.owner) c))
        go true e = ap (λ b. fault_at (if b then Some TooManyFaults else None) (n + 1) None) (sym e) ∙ ap (λ k. Some (record { rule = TooManyFaults; item = k + 1 })) (sym at)
        go false e = (ap (λ b. fault_at (if b then Some TooManyFaults else None) (n + 1) None) (sym e), omega arith, refl)

    modes_counted : (n : ℕ) (earlier ms : List ModeTree) (c : Counted) → c.item ≡ n → c.faults ≡ faults_of names before + length earlier * instances_of names o.owner →
        IsCounted n (mode_sites before o earlier ms) (faults_of names before + (length earlier + length ms) * instances_of names o.owner) (counted_modes (instances_of names o.owner) (length earlier) ms c)
    modes_counted n earlier [] c at has = (refl, omega arith, has ∙ ap (λ k. faults_of names before + k * instances_of names o.owner) (omega arith))
    modes_counted n earlier (m ∷ ms) c at has =
        counted_then n (a_mode before o earlier m ∷ []) (mode_sites before o (earlier ++ m ∷ []) ms) (faults_of names before + suc (length earlier) * instances_of names o.owner)
        (faults_of names before + (length earlier + suc (length ms)) * instances_of names o.owner) (counted_mode (instances_of names o.owner) (length earlier) c)
        (λ d. counted_modes (instances_of names o.owner) (length earlier + 1) ms d) (one_mode n earlier m c at has) (λ d at_d has_d.
        subst (λ total. IsCounted (n + 1) (mode_sites before o (earlier ++ m ∷ []) ms) total (counted_modes (instances_of names o.owner) (length earlier + 1) ms d))
        (ap (λ k. faults_of names before + k * instances_of names o.owner) (total d))
        (subst (λ k. IsCounted (n + 1) (mode_sites before o (earlier ++ m ∷ []) ms) (faults_of names before + (length (earlier ++ m ∷ []) + length ms) * instances_of names o.owner) (counted_modes (instances_of names o.owner) k ms d)) long
        (modes_counted (n + 1) (earlier ++ m ∷ []) ms d at_d (has_d ∙ ap (λ k. faults_of names before + k * instances_of names o.owner) (sym (long ∙ one_more))))))
      where
        long : length (earlier ++ m ∷ []) ≡ length earlier + 1
        long = length-append earlier (m ∷ [])

        one_more : length earlier + 1 ≡ suc (length earlier)
        one_more = omega arith

        total : (d : Counted) → length (earlier ++ m ∷ []) + length ms ≡ length earlier + suc (length ms)
        total d = let l : length (earlier ++ m ∷ []) ≡ length earlier + 1 = long in omega arith

  slices_counted : (n : ℕ) (before : List OwnedSlice) (owner : Text) (ss : List SliceTree) (c : Counted) → c.item ≡ n → c.faults ≡ faults_of names before →
      IsCounted n (slice_sites before owner ss) (faults_of names (before ++ map (owned owner) ss)) (counted_slices (instances_of names owner) ss c)
  slices_counted n before owner [] c at has = (refl, omega arith, has ∙ ap (faults_of names) (sym (append-nil before)))
  slices_counted n before owner (s ∷ ss) c at has =
      counted_item n (faults_of names (before ++ owned owner s ∷ map (owned owner) ss)) (a_slice before (owned owner s)) (mode_sites before (owned owner s) [] s.modes ++ slice_sites (before ++ owned owner s ∷ []) owner ss)
      (counted_slices (instances_of names owner) (s ∷ ss) c) refl
      (counted_then (n + 1) (mode_sites before (owned owner s) [] s.modes) (slice_sites (before ++ owned owner s ∷ []) owner ss) (faults_of names before + length s.modes * instances_of names owner)
      (faults_of names (before ++ owned owner s ∷ map (owned owner) ss)) (counted_slice (instances_of names owner) s c) (λ d. counted_slices (instances_of names owner) ss d)
      (subst (λ total. IsCounted (n + 1) (mode_sites before (owned owner s) [] s.modes) total (counted_slice (instances_of names owner) s c)) (ap (λ k. faults_of names before + k * instances_of names owner) none)
      (modes_counted before (owned owner s) (n + 1) [] s.modes (next_item c) (ap (λ k. k + 1) at) (has ∙ no_more)))
      (λ d at_d has_d.
      subst (λ os. IsCounted (n + 1 + length (mode_sites before (owned owner s) [] s.modes)) (slice_sites (before ++ owned owner s ∷ []) owner ss) (faults_of names os) (counted_slices (instances_of names owner) ss d))
      (append_assoc before (owned owner s ∷ []) (map (owned owner) ss))
      (slices_counted (n + 1 + length (mode_sites before (owned owner s) [] s.modes)) (before ++ owned owner s ∷ []) owner ss d at_d (has_d ∙ pushed))))
    where
      none : 0 + length s.modes ≡ length s.modes
      none = omega arith

      no_more : faults_of names before ≡ faults_of names before + 0 * instances_of names owner
      no_more = grind arith

      pushed : faults_of names before + length s.modes * instances_of names owner ≡ faults_of names (before ++ owned owner s ∷ [])
      pushed = let l : faults_of names (before ++ owned owner s ∷ []) ≡ faults_of names before + (length s.modes * instances_of names owner + 0) = faults_append before (owned owner s ∷ []) in omega arith

  extensions_counted : (n : ℕ) (before : List OwnedSlice) (xs : List ExtensionTree) (c : Counted) → c.item ≡ n → c.faults ≡ faults_of names before →
      IsCounted n (extension_sites before xs) (faults_of names (before ++ file_slices xs)) (counted_extensions names xs c)
  extensions_counted n before [] c at has = (refl, omega arith, has ∙ ap (faults_of names) (sym (append-nil before)))
  extensions_counted n before (x ∷ xs) c at has =
      counted_item n (faults_of names (before ++ (owned_slices x ++ file_slices xs))) (an_extension x.of_module) (slice_sites before x.of_module x.slices ++ extension_sites (before ++ map (owned x.of_module) x.slices) xs)
      (counted_extensions names (x ∷ xs) c) refl
      (counted_then (n + 1) (slice_sites before x.of_module x.slices) (extension_sites (before ++ map (owned x.of_module) x.slices) xs) (faults_of names (before ++ owned_slices x))
      (faults_of names (before ++ (owned_slices x ++ file_slices xs))) (counted_extension names x c) (λ d. counted_extensions names xs d)
      (slices_counted (n + 1) before x.of_module x.slices (next_item c) (ap (λ k. k + 1) at) has)
      (λ d at_d has_d.
      subst (λ os. IsCounted (n + 1 + length (slice_sites before x.of_module x.slices)) (extension_sites (before ++ owned_slices x) xs) (faults_of names os) (counted_extensions names xs d))
      (append_assoc before (owned_slices x) (file_slices xs))
      (extensions_counted (n + 1 + length (slice_sites before x.of_module x.slices)) (before ++ owned_slices x) xs d at_d has_d)))

  -- the whole file
  pub count_kept : (xs : List ExtensionTree) (c : Counted) → counted_extensions names xs start ≡ Ok c → AllKept (count_broken_at names) (extension_sites [] xs)
  count_kept xs c h =
      all_kept (count_broken_at names) 0 (extension_sites [] xs)
      (subst (IsCounted 0 (extension_sites [] xs) (faults_of names ([] ++ file_slices xs))) h (extensions_counted 0 [] xs start refl refl)).0

  pub count_broken : (xs : List ExtensionTree) (f : RuleFault) → counted_extensions names xs start ≡ Err f → IsFirstBroken (count_broken_at names) (extension_sites [] xs) f.rule f.item
  count_broken xs f h =
      first_broken (count_broken_at names) (extension_sites [] xs) f
      (subst (IsCounted 0 (extension_sites [] xs) (faults_of names ([] ++ file_slices xs))) h (extensions_counted 0 [] xs start refl refl))
