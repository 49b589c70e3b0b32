-- The code's stages as the definitions see them.
use Rattle.std.specs.Prelude.{map}
use Rattle.smv_language.specs.ProgramTree.{decl_tree}
use Rattle.fault_generator.specs.Generator.{Rails}
use Rattle.fault_generator.specs.declared.rails.TwoRails.{TwoRails}

-- the rails in memory as the definitions see them
abbrev pub told_rails : TwoRails → Rails
told_rails r = record { stages = map decl_tree r.stages; last_a = r.last_a; last_b = r.last_b }
