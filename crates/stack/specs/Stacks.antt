-- The bodies of a stack at work.
use Rattle.std.specs.Prelude.{List}
use Rattle.picture.specs.Bodies.{Body}
use Rattle.stack.specs.Waiting.{waiting}
use Rattle.stack.specs.declared.stack.Working.{Working}

-- the bodies that wait, the latest first
abbrev pub bodies : {W : Type 0} → Working W → List (Body W)
bodies w = waiting w.stack.now.height w.stack.now.records w.work.now
