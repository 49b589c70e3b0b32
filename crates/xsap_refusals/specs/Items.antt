-- Where a cause begins in its file.
use Rattle.xsap_refusals.specs.declared.counting.Counter.{Counter}
use Rattle.xsap_refusals.specs.declared.counting.Counter.TheVariants as counter
use Rattle.xsap_refusals.specs.declared.counting.ItemRole.{ItemRole}
use Rattle.xsap_refusals.specs.declared.counting.ItemRole.TheVariants as role

-- the next token begins an item of a list
abbrev pub IsBetween : Counter → Type 0
IsBetween counter.List = Unit {0}
IsBetween _ = ⊥

-- the token is the first one of an item
abbrev pub IsFirst : ItemRole → Type 0
IsFirst role.First = Unit {0}
IsFirst _ = ⊥
