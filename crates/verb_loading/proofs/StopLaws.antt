-- Why the writing can't go on is no refusal.
use Rattle.std.proofs.Common.{◌≡◌, refl}
use Rattle.base_files.specs.declared.desk.WriteStop.{WriteStop}
use Rattle.base_files.specs.declared.desk.WriteStop.TheVariants as write_stop
use Rattle.verb_loading.specs.declared.input.Stop.TheVariants as stop
use Rattle.verb_loading.specs.declared.status.Refusal.{Refusal}
use Rattle.verb_loading.specs.Inputs.{stop_of_write}

pub write_refused : (s : WriteStop) (r : Refusal) → stop_of_write s ≡ stop.Refused r → ⊥
write_refused write_stop.Failed r e = cc
write_refused write_stop.OutOfMemory r e = cc

pub write_desk : (s : WriteStop) → stop_of_write s ≡ stop.Desk → s ≡ write_stop.Failed
write_desk write_stop.Failed e = refl
write_desk write_stop.OutOfMemory e = cc
