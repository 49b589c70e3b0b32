-- A fault that is passed on is the fault of the call.
use Rattle.std.proofs.Common.{◌≡◌, Result, Ok, Err, IfErr, sym, subst}
use Rattle.std.specs.Result.{IsErrAnd}
use Rattle.smv_scope.specs.declared.fault.FlatFault.{FlatFault}

pub passed_on : {A : Type 0} (P : FlatFault → Type 0) (r : Result A FlatFault) (f : FlatFault) → IsErrAnd r (λ y. y ≡ f) → P f → IfErr r P
passed_on P (Ok a) f h k = absurd h
passed_on P (Err y) f h k = subst P (sym h) k
