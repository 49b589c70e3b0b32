-- Sets that are right for one kind of traces are right for a kind that corresponds to it.
use Rattle.std.proofs.Common.{◌≡◌, ℕ, ◌∙◌, List, Some, sym}
use Rattle.std.specs.Prelude.{slice_get, Contains}
use Rattle.cut_right_laws.specs.Right.{HasFailedAll, Shows}
use Rattle.cut_right_laws.specs.Laws.{Correspond, RightIsCarried}
use Rattle.cut_right_laws.proofs.Places.{both_long, both_at}

module _ (T U : Type 0) (is_trace reaches : T → Type 0) (has_failed : T → ℕ → Type 0) (is_other other_reaches : U → Type 0) (other_failed : U → ℕ → Type 0) where
  shows_other : (R : T → U → Type 0) → Correspond T U is_trace reaches has_failed is_other other_reaches other_failed R →
      (t : T) (u : U) (set : List ℕ) → R t u → Shows T is_trace reaches has_failed t set → Shows U is_other other_reaches other_failed u set
  shows_other R c t u set r s = record {
    is_one = c.traces t u r s.is_one;
    reaching = (c.reaching t u r).0 s.reaching;
    exactly = λ i. ((λ h. (s.exactly i).0 ((c.failed t u r i).1 h)), (λ h. (c.failed t u r i).0 ((s.exactly i).1 h)));
  }

  pub right_carried : (R : T → U → Type 0) (class : T → Type 0) (other : U → Type 0) → RightIsCarried T U is_trace reaches has_failed is_other other_reaches other_failed R class other
  right_carried R class other c met size sets traces others both right = record {
    one_each = sym (both_long R traces others both) ∙ right.one_each;
    small = right.small;
    shown = λ k set u at there.
        let first : (t : T) × (slice_get traces k ≡ Some t) × R t u = both_at R traces others both k u there in
        shows_other R c first.0 u set first.2 (right.shown k set first.0 at first.1);
    covered = λ u is reaching few.
        let first : (t : T) × R t u × class t = met u is in
        let some : (set : List ℕ) × Contains sets set × HasFailedAll T is_trace reaches has_failed first.0 set =
        right.covered first.0 first.2 ((c.reaching first.0 u first.1).1 reaching) (few.0, few.1, λ i h. few.2 i ((c.failed first.0 u first.1 i).0 h)) in
        (some.0, some.1, λ i h. (c.failed first.0 u first.1 i).0 (some.2 i h));
    apart = right.apart;
  }
