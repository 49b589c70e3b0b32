-- What is reached so far, as definitions see it.
use Rattle.smv_scope.specs.declared.needs.Spread.{Spread as Code}
use Rattle.smv_scope.specs.Links.{Spread}

-- what the code has reached, as lists
abbrev pub spread_of : Code → Spread
spread_of s = record { reached = s.reached.items; waiting = s.waiting.items }
