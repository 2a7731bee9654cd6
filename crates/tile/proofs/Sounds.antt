-- A body taken apart for steps is sound.
use Rattle.picture.specs.Bodies.{Sound, Within}
use Rattle.picture.proofs.Storing.{all_zipped}
use Rattle.tile.specs.Automata.{body}
use Rattle.tile.specs.declared.automaton.Automaton.{Automaton}

pub sound : {W : Type 0} (a : Automaton W) → Sound (body a)
sound a = record { firsts = a.firsts; lasts = a.lasts; ends = all_zipped (Within a.arcs.states) a.arcs.arcs.now a.arcs.weights.now a.arcs.ends }
