-- The steps of a script come to what its lines come to.
use Rattle.std.proofs.Common.{◌≡◌, ℕ, ◌+◌, List, [], ◌∷◌, ◌++◌, length, Ok, Err, Result, sym, refl, ap, ◌∙◌, append_assoc, append-nil}
use Rattle.recipe.specs.declared.place.Place.{Place}
use Rattle.recipe.specs.declared.step.Step.{Step}
use Rattle.recipe.specs.declared.step.Step.TheVariants.{Name, Turn, Mirror, Zoom, Add, Multiply, Piece, Store}
use Rattle.recipe.specs.Trees.{Cat, sum, product, part, closed, line, script, Prefix, turn, mirror, zoom, Tree, one, plus, single, times, name, prefixed, round, pieces, closes, row, blank, next, spelled, text}
use Rattle.recipe.specs.Steps.{step_of, steps}
use Rattle.recipe.specs.Expressions.{Expression, Named, Turned, Mirrored, Zoomed, Sum, Product, Pieced, Line, under, Unbracketed, unbracketed}
use Rattle.recipe.specs.Evaluations.{Operations, either, then, put, value, Ran, one_more, stops, run_lines, carry}
use Rattle.recipe.specs.Laws.{StepsAgree}

-- the steps of an expression, of a line and of lines
abbrev flat : Expression → List Step
flat (Named p) = Name p ∷ []
flat (Turned f) = flat f ++ Turn ∷ []
flat (Mirrored f) = flat f ++ Mirror ∷ []
flat (Zoomed d f) = flat f ++ Zoom d ∷ []
flat (Sum i f g) = flat f ++ (flat g ++ Add i ∷ [])
flat (Product i f g) = flat f ++ (flat g ++ Multiply i ∷ [])
flat (Pieced i x y z u) = flat x ++ (flat y ++ (flat z ++ (flat u ++ Piece i ∷ [])))

abbrev flat_line : Line → List Step
flat_line l = flat l.right ++ Store l.target ∷ []

abbrev flat_lines : List Line → List Step
flat_lines [] = []
flat_lines (l ∷ ls) = flat_line l ++ flat_lines ls

flat_last : (ls : List Line) (l : Line) → flat_lines (ls ++ l ∷ []) ≡ flat_lines ls ++ flat_line l
flat_last [] l = append-nil (flat_line l)
flat_last (m ∷ ls) l = ap (λ (ss : List Step). flat_line m ++ ss) (flat_last ls l) ∙ sym (append_assoc (flat_line m) (flat_lines ls) (flat_line l))

-- the steps of what a tree is without its brackets
abbrev flat_of : (c : Cat) → Unbracketed c → List Step
flat_of sum f = flat f
flat_of product f = flat f
flat_of part f = flat f
flat_of (closed b) f = flat f
flat_of line l = flat_line l
flat_of script ls = flat_lines ls

flat_under : (o : Prefix) (f : Expression) → flat (under o f) ≡ flat f ++ step_of o ∷ []
flat_under turn f = refl
flat_under mirror f = refl
flat_under (zoom d) f = refl

flatten : {c : Cat} (t : Tree c) (i : ℕ) → steps t i ≡ flat_of c (unbracketed t i)
flatten (one p) i = flatten p i
flatten (plus s p) i = λ j. flatten s i j ++ (flatten p (i + length (text s) + 1) j ++ Add (i + length (text s)) ∷ [])
flatten (single p) i = flatten p i
flatten (times q p) i = λ j. flatten q i j ++ (flatten p (i + length (text q) + 1) j ++ Multiply (i + length (text q)) ∷ [])
flatten (name n) i = refl
flatten (prefixed o p) i = ap (λ (ss : List Step). ss ++ step_of o ∷ []) (flatten p (i + length (spelled o))) ∙ sym (flat_under o (unbracketed p (i + length (spelled o))))
flatten (round s) i = flatten s (i + 1)
flatten (pieces x y z u) i = λ j.
    flatten x (i + 1) j ++
    (flatten y (i + 1 + length (text x)) j ++
    (flatten z (i + 1 + length (text x) + length (text y)) j ++
    (flatten u (i + 1 + length (text x) + length (text y) + length (text z)) j ++
    Piece (i + length (text x) + length (text y) + length (text z) + length (text u)) ∷ [])))
flatten (closes b s) i = flatten s i
flatten (row n s) i = ap (λ (ss : List Step). ss ++ Store n ∷ []) (flatten s (i + 2))
flatten blank i = refl
flatten (next s r) i = (λ j. flatten s i j ++ flatten r (i + length (text s)) j) ∙ sym (flat_last (unbracketed s i) (unbracketed r (i + length (text s))))

module _ {V E : Type 0} (o : Operations V E) where
  -- a result, then the rest
  either_then : {C : Type 0} (r : Result V E) (f : V → Result V E) (g : V → C) (h : E → C) → either (then r f) g h ≡ either r (λ b. either (f b) g h) h
  either_then (Ok b) f g h = refl
  either_then (Err s) f g h = refl

  either_same : {C : Type 0} (r : Result V E) (f g : V → C) (h : E → C) → ((b : V) → f b ≡ g b) → either r f h ≡ either r g h
  either_same (Ok b) f g h e = e b
  either_same (Err s) f g h e = refl

  module _ (at : Place → V) where
    -- the steps of an expression, then others, and what these come to
    link : (f : Expression) (ss : List Step) (ws : List V) (h : V → Result V E) (K : V → Ran V E)
        → carry o (flat f ++ ss) ws at ≡ either (value o at f) (λ b. carry o ss (b ∷ ws) at) (stops at)
        → ((b : V) → carry o ss (b ∷ ws) at ≡ either (h b) K (stops at))
        → carry o (flat f ++ ss) ws at ≡ either (then (value o at f) h) K (stops at)
    link f ss ws h K here on = here ∙ either_same (value o at f) _ _ (stops at) on ∙ sym (either_then (value o at f) h K (stops at))

    regroup : (xs ys ss : List Step) (ws : List V) → carry o ((xs ++ ys) ++ ss) ws at ≡ carry o (xs ++ (ys ++ ss)) ws at
    regroup xs ys ss ws = ap (λ (ts : List Step). carry o ts ws at) (append_assoc xs ys ss)

    carry_flat : (f : Expression) (ss : List Step) (ws : List V) → carry o (flat f ++ ss) ws at ≡ either (value o at f) (λ b. carry o ss (b ∷ ws) at) (stops at)
    carry_flat (Named p) ss ws = refl
    carry_flat (Turned f) ss ws =
        regroup (flat f) (Turn ∷ []) ss ws
        ∙ link f (Turn ∷ ss) ws (λ a. Ok (o.turn a)) (λ b. carry o ss (b ∷ ws) at) (carry_flat f (Turn ∷ ss) ws) (λ b. refl)
    carry_flat (Mirrored f) ss ws =
        regroup (flat f) (Mirror ∷ []) ss ws
        ∙ link f (Mirror ∷ ss) ws (λ a. Ok (o.mirror a)) (λ b. carry o ss (b ∷ ws) at) (carry_flat f (Mirror ∷ ss) ws) (λ b. refl)
    carry_flat (Zoomed d f) ss ws =
        regroup (flat f) (Zoom d ∷ []) ss ws
        ∙ link f (Zoom d ∷ ss) ws (λ a. Ok (o.zoom d a)) (λ b. carry o ss (b ∷ ws) at) (carry_flat f (Zoom d ∷ ss) ws) (λ b. refl)
    carry_flat (Sum i f g) ss ws =
        let K : V → Ran V E = λ b. carry o ss (b ∷ ws) at in
        ap (λ (ts : List Step). carry o ts ws at) (append_assoc (flat f) (flat g ++ Add i ∷ []) ss ∙ ap (λ (ts : List Step). flat f ++ ts) (append_assoc (flat g) (Add i ∷ []) ss))
        ∙ link f (flat g ++ Add i ∷ ss) ws (λ a. then (value o at g) (o.add i a)) K (carry_flat f (flat g ++ Add i ∷ ss) ws)
        (λ a. link g (Add i ∷ ss) (a ∷ ws) (o.add i a) K (carry_flat g (Add i ∷ ss) (a ∷ ws)) (λ b. refl))
    carry_flat (Product i f g) ss ws =
        let K : V → Ran V E = λ b. carry o ss (b ∷ ws) at in
        ap (λ (ts : List Step). carry o ts ws at) (append_assoc (flat f) (flat g ++ Multiply i ∷ []) ss ∙ ap (λ (ts : List Step). flat f ++ ts) (append_assoc (flat g) (Multiply i ∷ []) ss))
        ∙ link f (flat g ++ Multiply i ∷ ss) ws (λ a. then (value o at g) (o.multiply i a)) K (carry_flat f (flat g ++ Multiply i ∷ ss) ws)
        (λ a. link g (Multiply i ∷ ss) (a ∷ ws) (o.multiply i a) K (carry_flat g (Multiply i ∷ ss) (a ∷ ws)) (λ b. refl))
    carry_flat (Pieced i x y z u) ss ws =
        let K : V → Ran V E = λ b. carry o ss (b ∷ ws) at in
        let s₁ : List Step = flat u ++ Piece i ∷ ss in
        let s₂ : List Step = flat z ++ s₁ in
        let s₃ : List Step = flat y ++ s₂ in
        let e : flat (Pieced i x y z u) ++ ss ≡ flat x ++ s₃ = simp append_assoc in
        ap (λ (ts : List Step). carry o ts ws at) e
        ∙ link x s₃ ws (λ a. then (value o at y) (λ b. then (value o at z) (λ c. then (value o at u) (o.piece i a b c)))) K (carry_flat x s₃ ws)
        (λ a. link y s₂ (a ∷ ws) (λ b. then (value o at z) (λ c. then (value o at u) (o.piece i a b c))) K (carry_flat y s₂ (a ∷ ws))
        (λ b. link z s₁ (b ∷ a ∷ ws) (λ c. then (value o at u) (o.piece i a b c)) K (carry_flat z s₁ (b ∷ a ∷ ws))
        (λ c. link u (Piece i ∷ ss) (c ∷ b ∷ a ∷ ws) (o.piece i a b c) K (carry_flat u (Piece i ∷ ss) (c ∷ b ∷ a ∷ ws)) (λ d. refl))))

  carry_lines : (ls : List Line) (at : Place → V) → carry o (flat_lines ls) [] at ≡ run_lines o ls at
  carry_lines [] at = refl
  carry_lines (l ∷ ls) at =
      regroup at (flat l.right) (Store l.target ∷ []) (flat_lines ls) []
      ∙ carry_flat at l.right (Store l.target ∷ flat_lines ls) []
      ∙ either_same (value o at l.right) _ _ (stops at) (λ b. ap one_more (carry_lines ls (put l.target b at)))

pub steps_agree : {V E : Type 0} → StepsAgree V E
steps_agree o at t = ap (λ (ss : List Step). carry o ss [] at) (flatten t 0) ∙ carry_lines o (unbracketed t 0) at
