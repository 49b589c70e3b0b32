-- Where at most as many faults have failed as there are, nothing is asked of their number.
use Rattle.std.proofs.Common.{ℕ, ◌≤◌, Bool, not, List, length, refl, arith}
use Rattle.std.specs.Prelude.{filter}
use Rattle.std.specs.List.{range_with_len}
use Rattle.std.proofs.lemmas.List.Filters.{length-filter_both}
use Rattle.std.proofs.lemmas.List.FromFn.{length-range_with_len}
use Rattle.smv_language.specs.Language.{Tree, Value, FlatLeaf, FlatModel}
use Rattle.smv_flat_laws.specs.History.{Mode, with_history}
use Rattle.sat_encoding_laws.specs.Encodings.{is_true_at, IsBadMoment}
use Rattle.sat_encoding_laws.specs.FlatTraces.{history_of}
use Rattle.cut_search_laws.specs.Searchable.{LargerSizesServe}

-- no more numbers pass a test than there are
passed_few : (p : ℕ → Bool) (n k : ℕ) → length (filter p (range_with_len n k)) ≤ k
passed_few p n k =
    let both = length-filter_both p (λ x. not (p x)) (λ x. refl) (range_with_len n k) in
    let long = length-range_with_len n k in
    omega (arith, both, long)

module _ (m : FlatModel) (fs : List Mode) (top : Tree FlatLeaf) (sets : List (List ℕ)) where
  widened : (size : ℕ) → length fs ≤ size → (v : List Value) → IsBadMoment (with_history m fs) top (history_of m fs) sets (length fs) v → IsBadMoment (with_history m fs) top (history_of m fs) sets size v
  widened size h v bad = record { moment = bad.moment; reaches = bad.reaches; small = omega (arith, h, bad.small); unlisted = bad.unlisted }

  narrowed : (size : ℕ) (v : List Value) → IsBadMoment (with_history m fs) top (history_of m fs) sets size v → IsBadMoment (with_history m fs) top (history_of m fs) sets (length fs) v
  narrowed size v bad = record { moment = bad.moment; reaches = bad.reaches; small = passed_few (is_true_at v) (length m.variables) (length fs); unlisted = bad.unlisted }

pub larger_serve : LargerSizesServe
larger_serve problem size h sets bad is = record {
  bad_means = λ s b. let found = is.bad_means s b in (found.0, widened problem.model problem.modes problem.top sets size h found.0 found.1, found.2);
  bad_comes = λ v b. is.bad_comes v (narrowed problem.model problem.modes problem.top sets size v b);
  bad_free = λ v w d e b. widened problem.model problem.modes problem.top sets size h w (is.bad_free v w d e (narrowed problem.model problem.modes problem.top sets size v b));
}
