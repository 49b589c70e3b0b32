-- The members of a set and the branches of a case, one after the other.
use Rattle.std.specs.Prelude.{◌||◌, Bool, true, false, Option, Some, None, List, [], ◌∷◌}
use Rattle.smv_language.specs.Tree.{Branches, no_branch, branch_then}
use Rattle.smv_type_laws.specs.ExpressionKinds.{Kind, Judged as Found, joined, is_word_true, judge}
use Rattle.smv_types.specs.Rows.{lower, unless, class_rule, some_values}
use Rattle.smv_types.specs.Answers.{told}
use Rattle.smv_types.specs.declared.fault.TypeRule.TheVariants.{Mismatch, NotBoolean, CaseEnd}
use Rattle.smv_types.specs.declared.sort.Class.TheVariants.{Truth}
use Rattle.smv_types.specs.declared.sort.JudgedExpr.{JudgedExpr}
use Rattle.smv_types.specs.declared.several.Several.{Several}
use Rattle.smv_types.specs.declared.several.Guards.{Guards}

-- one more value
abbrev pub add_to : Option Several → JudgedExpr → Several
add_to None j = record { sort = j.sort; is_set = j.is_set; own = None; parts = j.broken }
add_to (Some s) j =
    record {
      sort = record { class = s.sort.class; interval = joined s.sort.interval j.sort.interval };
      is_set = s.is_set || j.is_set;
      own = lower s.own (class_rule s.sort.class Mismatch j.sort);
      parts = lower s.parts j.broken;
    }

-- values one after the other
abbrev pub add_all : Option Several → List Found → Option Several
add_all s [] = s
add_all s (j ∷ js) = add_all (Some (add_to s (told j))) js

-- one more condition
abbrev pub guard_by : Guards → JudgedExpr → Bool → Guards
guard_by g j ends = record { own = lower g.own (class_rule Truth NotBoolean j.sort); parts = lower g.parts j.broken; ends = ends }

-- the conditions of branches one after the other
abbrev pub guard_all : {L : Type 0} → (L → Kind) → Guards → Branches L → Guards
guard_all k g no_branch = g
guard_all k g (branch_then c a bs) = guard_all k (guard_by g (told (judge k false c)) (is_word_true c)) bs

-- before the first condition
abbrev pub no_guards : Guards
no_guards = record { own = None; parts = None; ends = false }

-- a set of these members
abbrev pub row_set : Bool → Option Several → JudgedExpr
row_set sets None = some_values sets true None (record { class = Truth; interval = None }) None
row_set sets (Some s) = some_values sets true s.own s.sort s.parts

-- a case of these conditions and values
abbrev pub row_case : Bool → Guards → Option Several → JudgedExpr
row_case sets g None = some_values sets false (lower g.own (unless g.ends CaseEnd)) (record { class = Truth; interval = None }) g.parts
row_case sets g (Some s) = some_values sets s.is_set (lower g.own (lower s.own (unless g.ends CaseEnd))) s.sort (lower g.parts s.parts)
