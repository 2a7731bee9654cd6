-- Devices of the contracts of private functions, and of no others.
-- Of a kind W of weight, `w` and `base` are the members that it has as `Written` and as `Weight`.
use Rattle.std.specs.Prelude.{◌≡◌, ℕ, ◌+◌, List, ◌++◌, length, take, drop}
use Rattle.std.specs.List.{zip, between, flat_map}
use Rattle.weight.specs.Words.{Writing}
use Rattle.weight.specs.declared.kind.Weight.{Ghosts as Weight}
use Rattle.weight.specs.declared.written.Written.{Ghosts as Written}
use Rattle.picture.specs.Stored.{stored, Kept}
use Rattle.picture.specs.declared.body.Record.{Record}
use Rattle.words.specs.Format.{state_words, edge_words}
use Rattle.words.specs.Wrong.{Piece, FirstWrong}
use Rattle.words.specs.declared.fault.PieceFault.{PieceFault}
use Rattle.words.specs.declared.head.Counts.{Counts}
use Rattle.words.specs.declared.reader.Reader.{Reader}
use Rattle.words.specs.declared.writer.Writer.{Writer}

-- from a to b the reader took these words
pub record Took {W : Type 0} {w : Written W} {base : Weight W} (xs : List ℕ) (a b : Reader W w base) : Type 0 where
  pub splits : a.rest.now ≡ xs ++ b.rest.now
  pub on : b.position ≡ a.position + length xs

-- from a to b the writer put these words into the memory that it borrows
pub record Put {W : Type 0} {w : Written W} {base : Weight W} (xs : List ℕ) (a b : Writer W w base) : Type 0 where
  pub on : b.position ≡ a.position + length xs
  pub front : take b.position b.out.now ≡ take a.position a.out.now ++ xs
  pub back : drop b.position b.out.now ≡ drop b.position a.out.now
  pub long : length b.out.now ≡ length a.out.now
  pub same : b.out.ghost_name ≡ a.out.ghost_name

-- from a to b the reader took these pieces, all right: what is wrong first behind them is wrong first
pub record Passed {W : Type 0} {w : Written W} {base : Weight W} (s : Writing W) (n : ℕ) (done : List Piece) (a b : Reader W w base) : Type 0 where
  pub first : (due : List Piece) (f : PieceFault) → FirstWrong s n due b.rest.now b.position f → FirstWrong s n (done ++ due) a.rest.now a.position f

-- the states that n first weights from 0 on and n last weights from 64 on are
abbrev pub states_in : {W : Type 0} → ℕ → List W → List (W × W)
states_in n mem = zip (between 0 n mem) (between 64 (64 + n) mem)

-- from a to b the reader took the states and arcs that are stored now, as many as the counts name
pub record ReadBody {W : Type 0} {w : Written W} {base : Weight W} (s : Writing W) (counts : Counts) (mem : List W) (a b : Reader W w base) (place : Record) : Type 0 where
  pub states : place.states ≡ counts.states
  pub arcs : place.count ≡ counts.arcs
  pub kept : Kept place
  pub took : Took (flat_map (state_words s) (states_in place.states mem) ++ flat_map (edge_words s) (stored place mem).arcs) a b
