-- What leads to what, on several links.
use Rattle.std.proofs.Common.{ℕ, refl, subst, inl, inr}
use Rattle.smv_scope.specs.Links.{Graph, Has, Reaches, start, further}
use Rattle.smv_scope.specs.Components.{Leads}

pub leads_self : (g : Graph) (k : ℕ) → Leads g k k
leads_self g k = start (inl refl)

pub leads_to : (g : Graph) (a b : ℕ) → Has (g a) b → Leads g a b
leads_to g a b h = further (leads_self g a) h

pub leads_on : (g : Graph) (a b c : ℕ) → Leads g a b → Leads g b c → Leads g a c
leads_on g a b c first (start (inl e)) = subst (Leads g a) e first
leads_on g a b c first (start (inr h)) = absurd h
leads_on g a b c first (further {a = d} more h) = further (leads_on g a b d first more) h

pub reaches_leads : (g : Graph) (a b : ℕ) → Reaches g (g a) b → Leads g a b
reaches_leads g a b (start h) = leads_to g a b h
reaches_leads g a b (further {a = d} more h) = further (reaches_leads g a d more) h

-- a link, and what its end leads to
pub leads_after : (g : Graph) (a b c : ℕ) → Has (g a) b → Leads g b c → Reaches g (g a) c
leads_after g a b c h (start (inl e)) = start (subst (Has (g a)) e h)
leads_after g a b c h (start (inr n)) = absurd n
leads_after g a b c h (further {a = d} more to) = further (leads_after g a b d h more) to

pub leads_split : (g : Graph) (a c : ℕ) → Reaches g (g a) c → (b : ℕ) × Has (g a) b × Leads g b c
leads_split g a c (start h) = (c, h, leads_self g c)
leads_split g a c (further {a = d} more to) = let one : (b : ℕ) × Has (g a) b × Leads g b d = leads_split g a d more in (one.0, one.1, further one.2 to)
