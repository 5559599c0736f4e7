-- Pair styles and the coefficients of pairs of types. i j and j i are one pair.
use Rattle.std.specs.Prelude.{◌+◌, ◌-◌, ◌||◌, Bool, false, cond, min, max, not, ℕ, ℤ, unsigned_abs, Option, Some, None, Result, Ok, Err, List, [], ◌∷◌, fold, length, unwrap_or}
use Rattle.meaning.specs.declared.code.Code.{Code}
use Rattle.meaning.specs.declared.code.Code.TheVariants.{BadValue, NoBox, Unset}
use Rattle.meaning.specs.declared.force.Force.{Force}
use Rattle.command_words.specs.declared.pairs.PairCoeff.{PairCoeff}
use Rattle.command_words.specs.declared.ranges.KindRange.{KindRange}
use Rattle.meaning.specs.declared.settings.Body.{Body}
use Rattle.meaning.specs.declared.settings.Settings.{Settings}
use Rattle.meaning.specs.MassesGroups.{is_beyond, last_of}
use Rattle.pair_lj.specs.declared.pair_settings.PairCoefficients.{PairCoefficients}
use Rattle.pair_lj.specs.Pairs.{are_covered, is_covered, set_pair, types_from, with_cutoffs}

-- the greatest of all cutoffs, and of the cutoff that counts besides
abbrev pub reach_of : Force → ℕ
reach_of f = fold (λ most p. max most (unsigned_abs p.cutoff)) (unsigned_abs f.comm_cutoff) f.pairs

-- a cutoff for the style: where one was set before, the pairs that are set get it, else all pairs are unset
abbrev pub with_style : ℤ → Option ℤ → Force → Result Force Code
with_style cutoff None f = Ok (record f { pair_style = Some cutoff; pairs = [] })
with_style cutoff (Some old) f =
    cond (are_covered cutoff f.pairs)
    (Ok (record f { pair_style = Some cutoff; pairs = with_cutoffs cutoff f.pairs }))
    (Err BadValue)

abbrev pub with_force : Settings → Result Force Code → Result Settings Code
with_force s (Ok f) = Ok (record s { force = f })
with_force s (Err why) = Err why

abbrev pub pair_style : ℤ → Settings → Result Settings Code
pair_style cutoff s = with_force s (with_style cutoff s.force.pair_style s.force)

-- the types of a range, in a box of so many types
abbrev pub types_in : KindRange → ℕ → List ℕ
types_in r kinds = types_from r.first ((last_of r.last kinds + 1) - r.first)

-- coefficients for each pair of a type of the first list and one of the second, one after another
abbrev pub of_types : PairCoefficients → ℕ → ℕ → PairCoefficients
of_types p i j = record p { i = min i j; j = max i j }

abbrev pub set_with : PairCoefficients → ℕ → List ℕ → List PairCoefficients → List PairCoefficients
set_with p i [] pairs = pairs
set_with p i (j ∷ js) pairs = set_with p i js (set_pair (of_types p i j) pairs)

abbrev pub set_all : PairCoefficients → List ℕ → List ℕ → List PairCoefficients → List PairCoefficients
set_all p [] js pairs = pairs
set_all p (i ∷ is) js pairs = set_all p is js (set_with p i js pairs)

-- the coefficients that a command gives, without types; without a cutoff that of the style counts
abbrev pub given : PairCoeff → ℤ → PairCoefficients
given c cutoff = record { i = 1; j = 1; epsilon = c.epsilon; sigma = c.sigma; cutoff = unwrap_or c.cutoff cutoff }

-- a size above four cutoffs, where there is a style
abbrev pub is_uncovered : PairCoeff → Option ℤ → Bool
is_uncovered c None = false
is_uncovered c (Some cutoff) = not (is_covered (given c cutoff).cutoff (given c cutoff))

abbrev pub styled_pairs : PairCoeff → ℕ → Settings → Option ℤ → Result Settings Code
styled_pairs c kinds s None = Err Unset
styled_pairs c kinds s (Some cutoff) =
    Ok (record s { force = record s.force { pairs = set_all (given c cutoff) (types_in c.first kinds) (types_in c.second kinds) s.force.pairs } })

abbrev pub boxed_pairs : PairCoeff → Settings → Option Body → Result Settings Code
boxed_pairs c s None = Err NoBox
boxed_pairs c s (Some b) =
    cond (is_beyond c.first (length b.mass) || is_beyond c.second (length b.mass))
    (Err BadValue)
    (styled_pairs c (length b.mass) s s.force.pair_style)

abbrev pub pair_coeff : PairCoeff → Settings → Result Settings Code
pair_coeff c s = cond (is_uncovered c s.force.pair_style) (Err BadValue) (boxed_pairs c s s.body)
