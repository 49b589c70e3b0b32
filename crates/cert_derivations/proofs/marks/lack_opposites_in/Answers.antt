use Rattle.std.proofs.Common.{refl, sym, ◌∙◌}
use Rattle.cert_derivations.proofs.MarkLaws.{lacking, unmarked}
use Rattle.cert_derivations.proofs.marks.lack_opposites_in.Goals as goal

pub returns : goal.returns
returns c = (
  (λ e. lacking c.args.window 4096 c.args.lits.now c.mark_all.new.marks c.mark_all.ensures refl (sym c.have_unmarked.ensures ∙ e)),
  (λ h. c.have_unmarked.ensures ∙ unmarked c.args.window 4096 c.args.lits.now c.mark_all.new.marks c.mark_all.ensures refl h),
)
