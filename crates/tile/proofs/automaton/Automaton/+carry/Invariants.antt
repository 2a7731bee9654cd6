use Rattle.tile.proofs.automaton.Automaton.+carry.Given as goal

abbrev pub decreases-carry : goal.decreases-carry
decreases-carry g l = l.depth
