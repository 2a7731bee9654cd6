-- When an operation is refused, and why.
use Rattle.std.specs.Prelude.{ℕ, cond, List, length, Some, None, Option, nat_lt, codes}
use Rattle.weight.specs.Kinds.{Kind}
use Rattle.picture.specs.Bodies.{Body}
use Rattle.compose.specs.declared.limits.Fault.{Fault}
use Rattle.compose.specs.declared.limits.Fault.TheVariants.{NoExchange, ManyStates, ManyArcs}

-- the number of each fault
abbrev pub number : Fault → ℕ
number NoExchange = 12
number ManyStates = 13
number ManyArcs = 14

-- the text of each fault
abbrev pub text : Fault → List ℕ
text NoExchange = codes "the product of two weights may depend on their order"
text ManyStates = codes "too many states"
text ManyArcs = codes "too many arcs"

-- at most 64 states, and at most 512 arcs; states are looked at first
abbrev pub excess : ℕ → ℕ → Option Fault
excess states arcs = cond (nat_lt 64 states) (Some ManyStates) (cond (nat_lt 512 arcs) (Some ManyArcs) None)

-- the limit that a body passes
abbrev pub over_limit : {W : Type 0} → Body W → Option Fault
over_limit b = excess b.states (length b.arcs)

-- a product is refused first on a kind that does not exchange, whatever the bodies are
abbrev pub product_excess : {W : Type 0} → Kind W → ℕ → ℕ → Option Fault
product_excess k states arcs = cond k.exchanges (excess states arcs) (Some NoExchange)

-- why a product with this body is refused
abbrev pub product_fault : {W : Type 0} → Kind W → Body W → Option Fault
product_fault k b = product_excess k b.states (length b.arcs)
