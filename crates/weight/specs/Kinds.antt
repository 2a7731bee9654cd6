-- What a kind of weight is: a semiring in which zero and one differ.
use Rattle.std.specs.Prelude.{◌≡◌, Bool, true}

-- the operations of a kind; `exchanges` states whether a·b = b·a
pub record Kind (W : Type 0) : Type 0 where
  pub zero : W
  pub one : W
  pub plus : W → W → W
  pub times : W → W → W
  pub exchanges : Bool

-- what every kind owes
pub record Laws {W : Type 0} (k : Kind W) : Type 0 where
  pub plus_assoc : (x y z : W) → k.plus (k.plus x y) z ≡ k.plus x (k.plus y z)
  pub plus_comm : (x y : W) → k.plus x y ≡ k.plus y x
  pub plus_zero : (x : W) → k.plus x k.zero ≡ x
  pub times_assoc : (x y z : W) → k.times (k.times x y) z ≡ k.times x (k.times y z)
  pub one_times : (x : W) → k.times k.one x ≡ x
  pub times_one : (x : W) → k.times x k.one ≡ x
  pub zero_times : (x : W) → k.times k.zero x ≡ k.zero
  pub times_zero : (x : W) → k.times x k.zero ≡ k.zero
  pub times_plus : (x y z : W) → k.times x (k.plus y z) ≡ k.plus (k.times x y) (k.times x z)
  pub plus_times : (x y z : W) → k.times (k.plus x y) z ≡ k.plus (k.times x z) (k.times y z)
  pub apart : k.zero ≡ k.one → ⊥
  pub times_comm : k.exchanges ≡ true → (x y : W) → k.times x y ≡ k.times y x
