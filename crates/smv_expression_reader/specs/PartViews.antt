-- The code's parts, as those of the machine.
use Rattle.std.specs.Prelude.{List, [], ◌∷◌, map}
use Rattle.smv_language.specs.Language.{tree_of, branch_trees, Path, Tree}
use Rattle.smv_expression_reader.specs.declared.parts.Pending.TheVariants as p
use Rattle.smv_expression_reader.specs.declared.parts.Pending.{Pending}
use Rattle.smv_expression_reader.specs.TreeBuilder as machine

-- each part of the code, by its name in the machine
abbrev pub part_view : Pending → machine.Part
part_view p.Minus = machine.minus_part
part_view p.Bang = machine.bang_part
part_view (p.Left o a) = machine.left_part o (tree_of a.tree)
part_view (p.Answered c a) = machine.answered (tree_of c.tree) (tree_of a.tree)
part_view (p.Asked c) = machine.asked (tree_of c.tree)
part_view p.Group = machine.group_part
part_view p.Next = machine.next_part
part_view (p.Set ts) = machine.set_part (map tree_of ts.trees)
part_view (p.Condition bs) = machine.condition_part (map branch_trees bs.branches)
part_view (p.Outcome bs c) = machine.outcome_part (map branch_trees bs.branches) (tree_of c.tree)

-- the stack, whose top is the vector's last
abbrev pub parts_onto : List machine.Part → List Pending → List machine.Part
parts_onto s [] = s
parts_onto s (x ∷ xs) = parts_onto (part_view x ∷ s) xs

-- the stack of a vector of parts
unfoldable pub parts_of : List Pending → List machine.Part
parts_of xs = parts_onto [] xs

-- an operand over the parts that wait
abbrev pub held : Tree Path → List machine.Part → machine.Held
held t ps = record { tree = t; parts = ps }
