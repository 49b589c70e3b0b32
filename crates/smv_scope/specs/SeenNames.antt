-- What has been seen of the names of expressions.
use Rattle.std.specs.Prelude.{Bool, true, ◌||◌, List, [], ◌∷◌, ◌++◌}
use Rattle.smv_language.specs.Tree.{Tree, Trees, Branches, truth, number, leaf, not_of, negate, next_of, binary, choice, case_of, set_of}
use Rattle.smv_language.specs.Tree.{span, no_tree, tree_then, no_branch, branch_then}
use Rattle.smv_language.specs.ProgramTree.{Path}
use Rattle.smv_scope.specs.declared.uses.Uses.{Uses}

-- the names so far, and whether `next` came, and came under another
pub record Seen : Type 0 where
  pub names : List (Path × Bool)
  pub next : Bool
  pub nested : Bool

-- what the code has seen
abbrev pub seen_in : Uses → Seen
seen_in u = record { names = u.names.items; next = u.has_next; nested = u.nested_next }

abbrev mutual
  -- what has been seen after an expression, where the whole stands under `next` or does not
  pub seen_after : Bool → Tree Path → Seen → Seen
  seen_after under (truth b) s = s
  seen_after under (number n) s = s
  seen_after under (leaf l) s = record { names = s.names ++ (l, under) ∷ []; next = s.next; nested = s.nested }
  seen_after under (not_of a) s = seen_after under a s
  seen_after under (negate a) s = seen_after under a s
  seen_after under (next_of a) s = seen_after true a (record { names = s.names; next = true; nested = s.nested || under })
  seen_after under (binary o a b) s = seen_after under b (seen_after under a s)
  seen_after under (choice c a b) s = seen_after under b (seen_after under a (seen_after under c s))
  seen_after under (case_of bs) s = seen_after_branches under bs s
  seen_after under (set_of ts) s = seen_after_trees under ts s
  seen_after under (span lo hi) s = s

  pub seen_after_trees : Bool → Trees Path → Seen → Seen
  seen_after_trees under no_tree s = s
  seen_after_trees under (tree_then t ts) s = seen_after_trees under ts (seen_after under t s)

  pub seen_after_branches : Bool → Branches Path → Seen → Seen
  seen_after_branches under no_branch s = s
  seen_after_branches under (branch_then c a bs) s = seen_after_branches under bs (seen_after under a (seen_after under c s))
