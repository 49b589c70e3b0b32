-- An expression that breaks no rule of names at an instance breaks none there over the woven program.
use Rattle.smv_flat_laws.specs.NameResolution.{leaves_in}
use Rattle.smv_flat_laws.specs.Rules.{no_such_name, next_here, input_here, HasNoValue, GivesInput}
use Rattle.smv_flat_laws.proofs.Lists.{each_more}
use Rattle.fault_weave.specs.WovenProgram.{woven}
use Rattle.fault_woven_laws.proofs.Looking.{Valued, Quiet, still_valued, still_quiet}
use Rattle.fault_woven_laws.proofs.Orders.{none_some}
use Rattle.fault_woven_laws.specs.WovenTopsLaws.{WovenKeepsValues}
use Rattle.smv_language.proofs.EachLaws.{each_not}

pub values_kept : WovenKeepsValues
values_kept p i ok at inputs e kept no_such_name broken =
    none_some (HasNoValue (woven p i) at) (leaves_in e)
    (each_more (Valued p at) (Valued (woven p i) at) (leaves_in e) (still_valued p i ok at) (each_not (HasNoValue p at) (leaves_in e) (kept no_such_name))) broken
values_kept p i ok at inputs e kept next_here broken = kept next_here broken
values_kept p i ok at inputs e kept input_here broken =
    none_some (GivesInput (woven p i) at) (leaves_in e)
    (each_more (Quiet p at) (Quiet (woven p i) at) (leaves_in e) (still_quiet p i ok at) (each_not (GivesInput p at) (leaves_in e) (λ gives. kept input_here (broken.0, gives)))) broken.1
values_kept p i ok at inputs e kept other broken = absurd broken
