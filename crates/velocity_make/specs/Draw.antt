-- The velocity that an atom is given by a draw: it depends on the seed, the atom's id and its mass alone.
use Rattle.std.specs.Prelude.{◌/◌, ◌^◌, ◌==◌, cond, ℕ, ℤ, pos, ◌-ℤ◌, ◌*ℤ◌, unsigned_abs, List, [], ◌∷◌}
use Rattle.fx_num.specs.Rounding.{div_rounded}
use Rattle.fx_num.specs.Roots.{sqrt_of}
use Rattle.rand_pcg.specs.Lcg.{Lcg, started, increment_of}
use Rattle.rand_pcg.specs.Pcg.{multiplier_64, pcg32}

-- the generator of an id: the seed is its state, the id its stream
abbrev pub generator_of : ℕ → ℕ → Lcg
generator_of seed id = started 64 multiplier_64 seed (increment_of 64 id)

-- the word that comes first, and the generator after it
abbrev pub first_word : Lcg → ℕ
first_word g = (pcg32 g).0

abbrev pub after_word : Lcg → Lcg
after_word g = (pcg32 g).1

-- a component by a word: its high 25 bits, from -1 to 1, by the root of the mass
abbrev pub component_of : ℕ → ℕ → ℤ
component_of root word = div_rounded ((pos (word / 128) -ℤ pos (2 ^ 24)) *ℤ pos (2 ^ 12)) (pos root)

-- the velocity by the words of a generator; in two dimensions the third word is not used
abbrev pub velocity_by : ℕ → Lcg → ℕ → List ℤ
velocity_by dim g root =
    component_of root (first_word g)
    ∷ component_of root (first_word (after_word g))
    ∷ cond (dim == 2) (pos 0) (component_of root (first_word (after_word (after_word g))))
    ∷ []

unfoldable pub draw_of : ℕ → ℕ → ℕ → ℤ → List ℤ
draw_of dim seed id mass = velocity_by dim (generator_of seed id) (sqrt_of (unsigned_abs mass))
