-- The first broken rule of sites, part by part.
use Rattle.std.proofs.Common.{◌≡◌, ℕ, ◌<◌, List, [], ◌∷◌, ◌++◌, Option, Some, None, refl, ◌∙◌, ap}
use Rattle.smv_language.specs.Language.{ProgramTree, Each}
use Rattle.smv_flat_laws.specs.Rules.{Rule, number_of, Site, item_of, sites, Breaks, IsKept, IsFirstBroken}

-- the rule broken at a site with the lowest number
pub record IsLowest (p : ProgramTree) (site : Site) (rule : Rule) : Type 0 where
  pub broken : Breaks p rule site
  pub lowest : (other : Rule) → number_of other < number_of rule → Breaks p other site → ⊥

-- the first of some sites
pub record IsFirstOf (p : ProgramTree) (rule : Rule) (item : ℕ) (ss : List Site) : Type 0 where
  pub before : List Site
  pub site : Site
  pub after : List Site
  pub in_order : ss ≡ before ++ site ∷ after
  pub kept_before : Each (IsKept p) before
  pub lowest : IsLowest p site rule
  pub at_item : item ≡ item_of site

-- none of the sites, or the first of them
abbrev pub Outcome : ProgramTree → List Site → Option (Rule × ℕ) → Type 0
Outcome p ss None = Each (IsKept p) ss
Outcome p ss (Some (rule, item)) = IsFirstOf p rule item ss

later : (p : ProgramTree) (s : Site) (ss : List Site) (o : Option (Rule × ℕ)) → IsKept p s → Outcome p ss o → Outcome p (s ∷ ss) o
later p s ss None kept h = (kept, h)
later p s ss (Some (rule, item)) kept h =
    record { before = s ∷ h.before; site = h.site; after = h.after; in_order = ap (λ t. s ∷ t) h.in_order; kept_before = (kept, h.kept_before); lowest = h.lowest; at_item = h.at_item }

pub first_broken : (p : ProgramTree) (rule : Rule) (item : ℕ) → IsFirstOf p rule item (sites p) → IsFirstBroken p rule item
first_broken p rule item h = record {
  before = h.before;
  site = h.site;
  after = h.after;
  in_order = h.in_order;
  kept_before = h.kept_before;
  broken = h.lowest.broken;
  lowest = h.lowest.lowest;
  at_item = h.at_item;
}

-- group by group: what is found in the first part is found, and where nothing is, what is found in the second
pub in_part : (p : ProgramTree) (ss ts : List Site) (rule : Rule) (item : ℕ) → IsFirstOf p rule item ss → IsFirstOf p rule item (ss ++ ts)
in_part p ss ts rule item h = record {
  before = h.before;
  site = h.site;
  after = h.after ++ ts;
  in_order = ap (λ us. us ++ ts) h.in_order ∙ joined h.before (h.site ∷ h.after) ts;
  kept_before = h.kept_before;
  lowest = h.lowest;
  at_item = h.at_item;
}
  where
    joined : (xs ys zs : List Site) → (xs ++ ys) ++ zs ≡ xs ++ (ys ++ zs)
    joined [] ys zs = refl
    joined (x ∷ xs) ys zs = ap (λ ws. x ∷ ws) (joined xs ys zs)

pub after_part : (p : ProgramTree) (ss ts : List Site) (o : Option (Rule × ℕ)) → Each (IsKept p) ss → Outcome p ts o → Outcome p (ss ++ ts) o
after_part p [] ts o h k = k
after_part p (s ∷ ss) ts o h k = later p s (ss ++ ts) o h.0 (after_part p ss ts o h.1 k)
