use Rattle.std.proofs.Common.{◌≡◌, ◌-◌, length, map}
use Rattle.std.specs.Option.{option_map}
use Rattle.sat_adviser.specs.Room.{first_mapped}
use Rattle.sat_adviser.proofs.panel.Panel.ready.Given as goal

abbrev pub invariant-loop-i : goal.invariant-loop-i
invariant-loop-i g l = record {
  told : map (λ b. (goal.Adviser-dyn g (b.vtable, b.value)).told b.value) l.self.advisers.items
      ≡ map (λ b. (goal.Adviser-dyn g (b.vtable, b.value)).told b.value) l.initial.self.advisers.items;
  asks : map (λ b. (goal.Adviser-dyn g (b.vtable, b.value)).asked b.value) l.self.advisers.items
      ≡ map (λ b. (goal.Adviser-dyn g (b.vtable, b.value)).asked b.value) l.initial.self.advisers.items;
  same : l.self ≡ record l.initial.self { advisers = l.self.advisers };
  room : map (λ b. (goal.Adviser-dyn g (b.vtable, b.value)).room b.value) l.self.advisers.items
      ≡ first_mapped (option_map (λ _. l.vars)) l.i (map (λ b. (goal.Adviser-dyn g (b.vtable, b.value)).room b.value) l.initial.self.advisers.items);
}

abbrev pub decreases-loop-i : goal.decreases-loop-i
decreases-loop-i g l = length l.self.advisers.items - l.i
