-- For the contracts of private functions: a body taken apart for steps.
use Rattle.index.specs.Terms.{edges}
use Rattle.picture.specs.Bodies.{Body}
use Rattle.tile.specs.declared.automaton.Automaton.{Automaton}

-- the body
abbrev pub body : {W : Type 0} → Automaton W → Body W
body a = record { states = a.arcs.states; first = a.first.now; last = a.last.now; arcs = edges a.arcs }
