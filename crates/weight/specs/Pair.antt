-- Pairs: two kinds side by side.
use Rattle.std.specs.Prelude.{◌+◌, min, ◌&&◌, ◌++◌}
use Rattle.weight.specs.Kinds.{Kind}
use Rattle.weight.specs.Words.{Writing}
use Rattle.weight.specs.declared.pair.Pair.{Pair}

abbrev pub pair : {A B : Type 0} → A → B → Pair A B
pair a b = record { first = a; second = b }

-- part by part
abbrev pub pair_kind : {A B : Type 0} → Kind A → Kind B → Kind (Pair A B)
pair_kind j k = record {
  zero = pair j.zero k.zero;
  one = pair j.one k.one;
  plus = λ x y. pair (j.plus x.first y.first) (k.plus x.second y.second);
  times = λ x y. pair (j.times x.first y.first) (k.times x.second y.second);
  exchanges = j.exchanges && k.exchanges;
}

-- the words of the first part, then those of the second; a width above 8 is given as 9
abbrev pub pair_writing : {A B : Type 0} → Writing A → Writing B → Writing (Pair A B)
pair_writing s t = record {
  code = 6;
  width = min (s.width + t.width) 9;
  words = λ v. s.words v.first ++ t.words v.second;
}
