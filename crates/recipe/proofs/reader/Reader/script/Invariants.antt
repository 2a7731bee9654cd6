use Rattle.std.proofs.Common.{◌-◌, length}
use Rattle.recipe.specs.Trees.{script}
use Rattle.recipe.specs.Devices.Reading.{Got}
use Rattle.recipe.proofs.reader.Reader.script.Given as goal

abbrev pub invariant-loop-self : goal.invariant-loop-self
invariant-loop-self l = Got script 0 l.initial.self l.self

abbrev pub decreases-loop-self : goal.decreases-loop-self
decreases-loop-self l = length l.initial.self.src.now - l.self.pos
