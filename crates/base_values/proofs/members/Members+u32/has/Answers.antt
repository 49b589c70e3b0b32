use Rattle.std.proofs.Common.{nat_cmp}
use Rattle.std.proofs.lemmas.Cmp.{nat_cmp_total}
use Rattle.std.proofs.lemmas.Map.Lookups.{exact_unsigned}
use Rattle.base_values.proofs.Searching.{found}
use Rattle.base_values.proofs.members.Members+u32.has.Goals as goal

pub returns : goal.returns
returns c =
    let facts = c.binary_search.ensures in
    rw (c.is_ok.ensures.value, ← c.self.view_is) (found nat_cmp nat_cmp_total exact_unsigned c.self.inside.listed c.deref.result.now (rw c.deref.ensures.value c.self.invariant) c.args.symbol.now c.binary_search.result facts.bound facts.position)
