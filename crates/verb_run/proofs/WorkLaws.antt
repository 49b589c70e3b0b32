-- What is refused, or done where nothing is to be refused, is one.
use Rattle.std.proofs.Common.{◌≡◌, ap, refl}
use Rattle.verb_loading.specs.declared.status.Refusal.{Refusal}
use Rattle.verb_run.specs.Runs.{Outcome, refuses, RefusedOr, is_refused, is_done}

pub one_or : (Refuses : Refusal → Type 0) (Holds : Type 0) (work o q : Outcome) → ((r s : Refusal) → Refuses r → Refuses s → r ≡ s) → ((r : Refusal) → Holds → Refuses r → ⊥) → RefusedOr Refuses Holds work o →
    RefusedOr Refuses Holds work q → o ≡ q
one_or Refuses Holds work o q one none (is_refused r bad) (is_refused s also) = ap refuses (one r s bad also)
one_or Refuses Holds work o q one none (is_refused r bad) (is_done holds) = absurd (none r holds bad)
one_or Refuses Holds work o q one none (is_done holds) (is_refused s bad) = absurd (none s holds bad)
one_or Refuses Holds work o q one none (is_done holds) (is_done have) = refl
