-- Numbers under two operations, each result rounded to a weight, are a commutative semiring.
use Rattle.std.specs.Prelude.{◌≡◌, ℕ, ◌+◌, ◌*◌, min, true}
use Rattle.std.proofs.Common.{sym, ap, ap₂, ◌∙◌, add_assoc, add_comm, mul_assoc, mul_comm, mul-add, arith}
use Rattle.weight.specs.Kinds.{Kind, Laws}

pub record Operations (add mul : ℕ → ℕ → ℕ) : Type 0 where
  pub add_assoc : (a b c : ℕ) → add (add a b) c ≡ add a (add b c)
  pub add_comm : (a b : ℕ) → add a b ≡ add b a
  pub mul_assoc : (a b c : ℕ) → mul (mul a b) c ≡ mul a (mul b c)
  pub mul_comm : (a b : ℕ) → mul a b ≡ mul b a
  pub mul-add : (a b c : ℕ) → mul a (add b c) ≡ add (mul a b) (mul a c)

pub plus_and_times : Operations ◌+◌ ◌*◌
plus_and_times = record { add_assoc = add_assoc; add_comm = add_comm; mul_assoc = mul_assoc; mul_comm = mul_comm; mul-add = mul-add }

pub min_and_plus : Operations min ◌+◌
min_and_plus = record {
  add_assoc = λ a b c. omega arith;
  add_comm = λ a b. omega arith;
  mul_assoc = add_assoc;
  mul_comm = add_comm;
  mul-add = λ a b c. omega arith;
}

-- the weight that a number is rounded to, and the number of a weight
module _ {W : Type 0} (of : ℕ → W) (value : W → ℕ) where
  abbrev lifted : (ℕ → ℕ → ℕ) → W → W → W
  lifted f x y = of (f (value x) (value y))

  pub record Rounded (add mul : ℕ → ℕ → ℕ) (zero one : W) : Type 0 where
    pub add_of : (a b : ℕ) → of (add (value (of a)) b) ≡ of (add a b)
    pub mul_of : (a b : ℕ) → of (mul (value (of a)) b) ≡ of (mul a b)
    pub plus_zero : (x : W) → lifted add x zero ≡ x
    pub times_one : (x : W) → lifted mul x one ≡ x
    pub times_zero : (x : W) → lifted mul x zero ≡ zero
    pub apart : zero ≡ one → ⊥

  module _ {f : ℕ → ℕ → ℕ} (comm : (a b : ℕ) → f a b ≡ f b a) (f-of : (a b : ℕ) → of (f (value (of a)) b) ≡ of (f a b)) where
    lifted_comm : (x y : W) → lifted f x y ≡ lifted f y x
    lifted_comm x y = ap of (comm (value x) (value y))

    right_of : (a b : ℕ) → of (f a (value (of b))) ≡ of (f a b)
    right_of a b = ap of (comm a (value (of b))) ∙ f-of b a ∙ ap of (comm b a)

    lifted_assoc : ((a b c : ℕ) → f (f a b) c ≡ f a (f b c)) → (x y z : W) → lifted f (lifted f x y) z ≡ lifted f x (lifted f y z)
    lifted_assoc assoc x y z = f-of _ (value z) ∙ ap of (assoc (value x) (value y) (value z)) ∙ sym (right_of (value x) _)

  abbrev pub rounded_kind : (add mul : ℕ → ℕ → ℕ) → W → W → Kind W
  rounded_kind add mul zero one = record { zero = zero; one = one; plus = lifted add; times = lifted mul; exchanges = true }

  pub rounded_laws : {add mul : ℕ → ℕ → ℕ} {zero one : W} → Operations add mul → Rounded add mul zero one → Laws (rounded_kind add mul zero one)
  rounded_laws {add} {mul} {zero} {one} ops r =
      let plus_comm = lifted_comm ops.add_comm r.add_of in
      let times_comm = lifted_comm ops.mul_comm r.mul_of in
      let times_plus : (x y z : W) → lifted mul x (lifted add y z) ≡ lifted add (lifted mul x y) (lifted mul x z) =
      λ x y z. right_of ops.mul_comm r.mul_of (value x) _ ∙ ap of (ops.mul-add (value x) (value y) (value z))
      ∙ sym (r.add_of _ _ ∙ right_of ops.add_comm r.add_of _ _) in
      record {
        plus_assoc = lifted_assoc ops.add_comm r.add_of ops.add_assoc;
        plus_comm = plus_comm;
        plus_zero = r.plus_zero;
        times_assoc = lifted_assoc ops.mul_comm r.mul_of ops.mul_assoc;
        one_times = λ x. times_comm one x ∙ r.times_one x;
        times_one = r.times_one;
        zero_times = λ x. times_comm zero x ∙ r.times_zero x;
        times_zero = r.times_zero;
        times_plus = times_plus;
        plus_times = λ x y z. times_comm (lifted add x y) z ∙ times_plus z x y ∙ ap₂ (lifted add) (times_comm z x) (times_comm z y);
        apart = r.apart;
        times_comm = λ _. times_comm;
      }
