-- A body in memory: a record, and 640 weights with first weights from 0, last weights from 64, arc weights from 128.
use Rattle.std.specs.Prelude.{◌≡◌, ℕ, ◌+◌, ◌≤◌, List, length, take, drop}
use Rattle.std.specs.List.{zip, between, AllByRecursion}
use Rattle.picture.specs.Bodies.{Body, Within}
use Rattle.picture.specs.declared.body.Arc.{Arc}
use Rattle.picture.specs.declared.body.Record.{Record}

-- `between i j xs` is `xs[i..j]`
abbrev pub stored : {W : Type 0} → Record → List W → Body W
stored r mem = record {
  states = r.states;
  first = between 0 r.states mem;
  last = between 64 (64 + r.states) mem;
  arcs = zip (between 0 r.count r.arcs) (between 128 (128 + r.count) mem);
}

-- the counts are within their limits, and both ends of each arc are states
pub record Kept (r : Record) : Type 0 where
  pub few_states : r.states ≤ 64
  pub few_arcs : r.count ≤ 512
  pub ends : AllByRecursion (Within r.states) (between 0 r.count r.arcs)

-- so many states and these arcs are within the limits
pub record Fits (n : ℕ) (arcs : List Arc) : Type 0 where
  pub few_states : n ≤ 64
  pub few_arcs : length arcs ≤ 512
  pub ends : AllByRecursion (Within n) arcs

-- a record of so many states and these arcs, within the limits
pub record Holds (n : ℕ) (arcs : List Arc) (r : Record) : Type 0 where
  pub states : r.states ≡ n
  pub count : r.count ≡ length arcs
  pub same : between 0 r.count r.arcs ≡ arcs
  pub kept : Kept r

-- nothing but the `size` weights from `at` on may differ
pub record Outside {W : Type 0} (at size : ℕ) (before after : List W) : Type 0 where
  pub below : take at after ≡ take at before
  pub above : drop (at + size) after ≡ drop (at + size) before
  pub long : length after ≡ length before
