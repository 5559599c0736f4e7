-- A draw in its parts.
use Rattle.std.proofs.Common.{◌≡◌, ◌∙◌, ℕ, ℤ, pos, List, [], ◌∷◌, ap}
use Rattle.fx_num.specs.Roots.{sqrt_of}
use Rattle.velocity_make.specs.Draw.{draw_of, generator_of, velocity_by}

-- three words of a generator, and what each gives
pub words_give : {G : Type 0} (f : ℕ → ℕ → ℤ) (word : G → ℕ) (next : G → G) (g g0 g1 g2 : G) (r root w0 w1 w2 : ℕ) (x y z : ℤ) → g0 ≡ g → w0 ≡ word g0 → g1 ≡ next g0
    → w1 ≡ word g1 → g2 ≡ next g1 → w2 ≡ word g2 → root ≡ r → x ≡ f root w0 → y ≡ f root w1 → z ≡ f root w2
    → (x ≡ f r (word g)) × (y ≡ f r (word (next g))) × (z ≡ f r (word (next (next g))))
words_give f word next g g0 g1 g2 r root w0 w1 w2 x y z a b c d e h i j k l = (cc, cc, cc)

pub three_same : (x y z a b c : ℤ) → x ≡ a → y ≡ b → z ≡ c → (x ∷ y ∷ z ∷ []) ≡ (a ∷ b ∷ c ∷ [])
three_same x y z a b c e f g =
    ap (λ (i : ℤ). i ∷ y ∷ z ∷ []) e ∙ ap (λ (j : ℤ). a ∷ j ∷ z ∷ []) f ∙ ap (λ (k : ℤ). a ∷ b ∷ k ∷ []) g

pub draw_is : (dim seed id mass : ℕ) (v : List ℤ) → v ≡ velocity_by dim (generator_of seed id) (sqrt_of mass) → v ≡ draw_of dim seed id (pos mass)
unfolding draw_of
draw_is dim seed id mass v is = is
