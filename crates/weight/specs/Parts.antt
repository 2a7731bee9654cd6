-- Kinds side by side keep the laws, part by part.
use Rattle.std.proofs.Common.{ap, ap₂}
use Rattle.std.proofs.lemmas.Bool.{and_parts}
use Rattle.weight.specs.Kinds.{Kind, Laws}
use Rattle.weight.specs.Pair.{pair, pair_kind}

pub pair_laws : {A B : Type 0} {j : Kind A} {k : Kind B} → Laws j → Laws k → Laws (pair_kind j k)
pair_laws {j = j} {k = k} a b = record {
  plus_assoc = λ x y z. ap₂ pair (a.plus_assoc _ _ _) (b.plus_assoc _ _ _);
  plus_comm = λ x y. ap₂ pair (a.plus_comm _ _) (b.plus_comm _ _);
  plus_zero = λ x. ap₂ pair (a.plus_zero _) (b.plus_zero _);
  times_assoc = λ x y z. ap₂ pair (a.times_assoc _ _ _) (b.times_assoc _ _ _);
  one_times = λ x. ap₂ pair (a.one_times _) (b.one_times _);
  times_one = λ x. ap₂ pair (a.times_one _) (b.times_one _);
  zero_times = λ x. ap₂ pair (a.zero_times _) (b.zero_times _);
  times_zero = λ x. ap₂ pair (a.times_zero _) (b.times_zero _);
  times_plus = λ x y z. ap₂ pair (a.times_plus _ _ _) (b.times_plus _ _ _);
  plus_times = λ x y z. ap₂ pair (a.plus_times _ _ _) (b.plus_times _ _ _);
  apart = λ e. a.apart (ap (λ p. p.first) e);
  times_comm = λ e x y.
      let both = and_parts j.exchanges k.exchanges e in
      ap₂ pair (a.times_comm both.0 _ _) (b.times_comm both.1 _ _);
}
