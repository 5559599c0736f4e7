-- A bad word is told by the form of the words, or by the second name of `restart`: all else refuses numbers.
use Rattle.std.proofs.Common.{◌≡◌, ◌∙◌, ◌+◌, ◌&&◌, ◌⊎◌, inl, inr, ⊎_elim, Bool, true, false, cond, ℕ, ℤ, pos, neg_ℤ, Option, Some, None, Result, Ok, Err, List, [], ◌∷◌, drop, length, refl, sym, ap, subst}
use Rattle.std.specs.Prelude.{IfErr, nat_le, min}
use Rattle.std.specs.Str.{bytes_eq}
use Rattle.std.proofs.lemmas.Result.{IfErr-at_err}
use Rattle.std.proofs.lemmas.Slice.Eq.{bytes_eq-Decides}
use Rattle.box_geo.specs.declared.limits.TheConstants.{FULL_WEIGHT, MAX_CUTOFF, MAX_EPSILON, MAX_FORCE, MAX_KINDS, MAX_MASS, MAX_REST_LENGTH, MAX_SIGMA, MAX_SKIN, MAX_STEP, MAX_STIFFNESS, MAX_TEMPERATURE, MAX_TIMESTEP, MIN_MASS}
use Rattle.fx_num.specs.Decimal.{read_count, read_number}
use Rattle.fx_num.specs.declared.decimal.NumError.{NumError}
use Rattle.fx_num.specs.declared.decimal.TheConstants.{MAX_UNITS}
use Rattle.command_words.specs.Forms.{places_of}
use Rattle.command_words.specs.Places.{behind, stuck}
use Rattle.command_words.specs.declared.places.Place.{Place}
use Rattle.command_words.specs.Prefixes.{IsFirstBad, NamesOneFile}
use Rattle.command_words.specs.Ranges.{id_range, kind_range}
use Rattle.command_words.specs.Vocabulary.{is_among, text_of}
use Rattle.command_words.specs.declared.forms.TheConstants.{FORMS}
use Rattle.command_words.specs.declared.limits.TheConstants.{MAX_LOOP, MAX_REPEAT, MAX_SEED}
use Rattle.command_words.specs.declared.values.TheConstants.{MAX_WHOLE}
use Rattle.command_words.specs.declared.vocabulary.Word.{Word}
use Rattle.command_words.specs.declared.vocabulary.Word.TheVariants as name
use Rattle.command_words.specs.declared.vocabulary.Words.{Words}
use Rattle.command_words.specs.declared.vocabulary.Words.TheVariants.{Null, Open, Star}
use Rattle.command_words.proofs.BadWordLemmas.{bad_words_are_the_first}
use Rattle.command_words.specs.declared.limits.TheConstants.{MIN_DENSITY, MAX_DENSITY}
use Rattle.command_words.specs.Bonds as bonds_commands
use Rattle.command_words.specs.Dumps as dumps_commands
use Rattle.command_words.specs.Fixes as fixes_commands
use Rattle.command_words.specs.Lattice as lattice_commands
use Rattle.command_words.specs.MassesGroups as masses_groups_commands
use Rattle.command_words.specs.Neighbors as neighbors_commands
use Rattle.command_words.specs.Pairs as pairs_commands
use Rattle.command_words.specs.Restarts as restarts_commands
use Rattle.command_words.specs.Runs as runs_commands
use Rattle.command_words.specs.Setup as setup_commands
use Rattle.command_words.specs.Thermo as thermo_commands
use Rattle.command_words.specs.Variables as variables_commands
use Rattle.command_words.specs.Velocity as velocity_commands
use Rattle.command_words.specs.Read.{best, best_from, form_among, form_of, form_or, is_counted, is_known, make, read}
use Rattle.command_words.specs.Values.{any_number, count, given, is_between, kinds, kinds_at, number, number_at, number_or, then, value_place, whole, whole_at, word}
use Rattle.command_words.specs.declared.bonds.BondsForm.TheVariants as bonds
use Rattle.command_words.specs.declared.bonds.BondsForm.{BondsForm}
use Rattle.command_words.specs.declared.command.Command.{Command}
use Rattle.command_words.specs.declared.command.Command.TheVariants as command
use Rattle.command_words.specs.declared.dumps.DumpsForm.TheVariants as dumps
use Rattle.command_words.specs.declared.dumps.DumpsForm.{DumpsForm}
use Rattle.command_words.specs.declared.fixes.FixesForm.TheVariants as fixes
use Rattle.command_words.specs.declared.fixes.FixesForm.{FixesForm}
use Rattle.command_words.specs.declared.forms.Form.TheVariants as form
use Rattle.command_words.specs.declared.forms.Form.{Form}
use Rattle.command_words.specs.declared.lattice.LatticeForm.TheVariants as lattice
use Rattle.command_words.specs.declared.lattice.LatticeForm.{LatticeForm}
use Rattle.command_words.specs.declared.masses_groups.MassesGroupsForm.TheVariants as masses_groups
use Rattle.command_words.specs.declared.masses_groups.MassesGroupsForm.{MassesGroupsForm}
use Rattle.command_words.specs.declared.neighbors.NeighborsForm.TheVariants as neighbors
use Rattle.command_words.specs.declared.neighbors.NeighborsForm.{NeighborsForm}
use Rattle.command_words.specs.declared.pairs.PairCoeff.{PairCoeff}
use Rattle.command_words.specs.declared.pairs.PairsForm.TheVariants as pairs
use Rattle.command_words.specs.declared.pairs.PairsForm.{PairsForm}
use Rattle.command_words.specs.declared.ranges.KindRange.{KindRange}
use Rattle.command_words.specs.declared.refusal.WordRefusal.{WordRefusal}
use Rattle.command_words.specs.declared.refusal.WordRefusal.TheVariants.{BadValue, BadWord, UnknownCommand, WordCount}
use Rattle.command_words.specs.declared.restarts.RestartsForm.TheVariants as restarts
use Rattle.command_words.specs.declared.restarts.RestartsForm.{RestartsForm}
use Rattle.command_words.specs.declared.restarts.TheConstants.{RESTART}
use Rattle.command_words.specs.declared.runs.RunsForm.TheVariants as runs
use Rattle.command_words.specs.declared.runs.RunsForm.{RunsForm}
use Rattle.command_words.specs.declared.setup.SetupForm.TheVariants as setup
use Rattle.command_words.specs.declared.setup.SetupForm.{SetupForm}
use Rattle.command_words.specs.declared.thermo.ThermoForm.TheVariants as thermo
use Rattle.command_words.specs.declared.thermo.ThermoForm.{ThermoForm}
use Rattle.command_words.specs.declared.variables.VariablesForm.TheVariants as variables
use Rattle.command_words.specs.declared.variables.VariablesForm.{VariablesForm}
use Rattle.command_words.specs.declared.velocity.VelocityForm.TheVariants as velocity
use Rattle.command_words.specs.declared.velocity.VelocityForm.{VelocityForm}

-- a refusal is that of a number, if there is one
abbrev IsValue : WordRefusal → Type 0
IsValue (BadValue place) = Unit {0}
IsValue why = ⊥

abbrev Tells : {X : Type 0} → Result X WordRefusal → Type 0
Tells r = IfErr r IsValue

then_tells : {X Y : Type 0} (r : Result X WordRefusal) (next : X → Result Y WordRefusal) → Tells r → ((x : X) → Tells (next x)) → Tells (then r next)
then_tells (Ok x) next first each = each x
then_tells (Err why) next first each = first

either_tells : {X : Type 0} (b : Bool) (r s : Result X WordRefusal) → Tells r → Tells s → Tells (cond b r s)
either_tells true r s first second = first
either_tells false r s first second = second

-- numbers
number_by : (place : ℕ) (low high : ℤ) (r : Result ℤ NumError) → Tells (number_at place low high r)
number_by place low high (Ok v) = either_tells (is_between low high v) (Ok v) (Err (BadValue place)) tt tt
number_by place low high (Err e) = tt

number_tells : (place : ℕ) (low high : ℤ) (words : List (List ℕ)) → Tells (number place low high words)
number_tells place low high words = number_by place low high (read_number (word place words))

given_tells : {X : Type 0} (r : Result X WordRefusal) → Tells r → Tells (given r)
given_tells (Ok x) tells = tt
given_tells (Err why) tells = tells

number_or_tells : (instead : Words) (place : ℕ) (low high : ℤ) (words : List (List ℕ)) → Tells (number_or instead place low high words)
number_or_tells instead place low high words =
    either_tells (is_among instead (word place words)) (Ok None) (given (number place low high words)) tt (given_tells (number place low high words) (number_tells place low high words))

any_number_tells : (place : ℕ) (words : List (List ℕ)) → Tells (any_number place words)
any_number_tells place words = number_tells place (neg_ℤ MAX_UNITS) MAX_UNITS words

whole_by : (place low high : ℕ) (r : Result ℕ NumError) → Tells (whole_at place low high r)
whole_by place low high (Ok n) = either_tells (nat_le low n && nat_le n high) (Ok n) (Err (BadValue place)) tt tt
whole_by place low high (Err e) = tt

whole_tells : (place low high : ℕ) (words : List (List ℕ)) → Tells (whole place low high words)
whole_tells place low high words = whole_by place low high (read_count (word place words))

count_tells : (place : ℕ) (words : List (List ℕ)) → Tells (count place words)
count_tells place words = whole_tells place 0 MAX_WHOLE words

kinds_by : (place : ℕ) (o : Option KindRange) → Tells (kinds_at place o)
kinds_by place (Some range) = tt
kinds_by place None = tt

kinds_tell : (place : ℕ) (words : List (List ℕ)) → Tells (kinds place words)
kinds_tell place words = kinds_by place (kind_range (word place words))

first_tells : {X : Type 0} (place : ℕ) (o : Option X) (rest : Result (List X) WordRefusal) → Tells rest → Tells (masses_groups_commands.first place o rest)
first_tells place None rest tells = tt
first_tells place (Some x) rest tells = then_tells rest _ tells (λ xs. tt)

kind_ranges_tell : (place : ℕ) (words : List (List ℕ)) → Tells (masses_groups_commands.kind_ranges place words)
kind_ranges_tell place [] = tt
kind_ranges_tell place (word ∷ words) =
    first_tells place (kind_range word) (masses_groups_commands.kind_ranges (place + 1) words) (kind_ranges_tell (place + 1) words)

id_ranges_tell : (place : ℕ) (words : List (List ℕ)) → Tells (masses_groups_commands.id_ranges place words)
id_ranges_tell place [] = tt
id_ranges_tell place (word ∷ words) =
    first_tells place (id_range word) (masses_groups_commands.id_ranges (place + 1) words) (id_ranges_tell (place + 1) words)

-- Each family of commands.

bricks_tell : (place : ℕ) (words : List (List ℕ)) → Tells (setup_commands.bricks place words)
bricks_tell place words = either_tells (is_among Star (word place words)) (Ok 1) (whole place 1 MAX_WHOLE words) tt (whole_tells place 1 MAX_WHOLE words)

grid_tells : (o : Option (List ℕ)) → Tells (setup_commands.grid_command o)
grid_tells (Some counts) = tt
grid_tells None = tt

setup_tells : (f : SetupForm) (words : List (List ℕ)) → Tells (setup_commands.make f words)
setup_tells setup.Units words = tt
setup_tells setup.Dimension words = then_tells (whole 1 2 3 words) _ (whole_tells 1 2 3 words) (λ n. tt)
setup_tells setup.Boundary words = tt
setup_tells setup.AtomStyle words = tt
setup_tells setup.Processors words =
    then_tells (setup_commands.bricks 1 words) _ (bricks_tell 1 words) (λ x. then_tells (setup_commands.bricks 2 words) _ (bricks_tell 2 words) (λ y.
    then_tells (setup_commands.bricks 3 words) _ (bricks_tell 3 words) (λ z. grid_tells (setup_commands.grid x y z))))
setup_tells setup.Newton words = tt
setup_tells setup.AtomModify words = tt
setup_tells setup.Echo words = tt

side_tells : (place : ℕ) (words : List (List ℕ)) → Tells (lattice_commands.side place words)
side_tells place words = number_or_tells Open place (neg_ℤ MAX_UNITS) MAX_UNITS words

sides_tell : (lo hi : ℕ) (words : List (List ℕ)) → Tells (lattice_commands.sides_in lo hi words)
sides_tell lo hi words =
    then_tells (lattice_commands.side lo words) _ (side_tells lo words) (λ a. then_tells (lattice_commands.side hi words) _ (side_tells hi words) (λ b. tt))

block_tells : (words : List (List ℕ)) → Tells (lattice_commands.block_in words)
block_tells words =
    then_tells (lattice_commands.sides_in 3 4 words) _ (sides_tell 3 4 words) (λ x. then_tells (lattice_commands.sides_in 5 6 words) _ (sides_tell 5 6 words) (λ y.
    then_tells (lattice_commands.sides_in 7 8 words) _ (sides_tell 7 8 words) (λ z. tt)))

vector_tells : (x y z : ℕ) (words : List (List ℕ)) → Tells (lattice_commands.vector x y z words)
vector_tells x y z words =
    then_tells (any_number x words) _ (any_number_tells x words) (λ a. then_tells (any_number y words) _ (any_number_tells y words) (λ b.
    then_tells (any_number z words) _ (any_number_tells z words) (λ c. tt)))

sphere_tells : (words : List (List ℕ)) → Tells (lattice_commands.sphere_in words)
sphere_tells words =
    then_tells (lattice_commands.vector 3 4 5 words) _ (vector_tells 3 4 5 words) (λ x. then_tells (any_number 6 words) _ (any_number_tells 6 words) (λ r. tt))

option_tells : (o : Option ℕ) (words : List (List ℕ)) → Tells (lattice_commands.kinds_at o words)
option_tells None words = tt
option_tells (Some place) words = whole_tells place 0 MAX_KINDS words

unless_tells : {X : Type 0} (o : Option ℕ) (r : Result X WordRefusal) → Tells r → Tells (lattice_commands.unless_bad o r)
unless_tells None r tells = tells
unless_tells (Some place) r tells = tt

kinds_option_tells : (option : Word) (words : List (List ℕ)) → Tells (lattice_commands.kinds_option option words)
kinds_option_tells option words = option_tells (value_place option 3 words) words

box_tells : (words : List (List ℕ)) → Tells (lattice_commands.box_counts words)
box_tells words =
    then_tells (whole 1 1 MAX_KINDS words) _ (whole_tells 1 1 MAX_KINDS words) (λ n. unless_tells (lattice_commands.box_excess words) _
    (then_tells (lattice_commands.kinds_option name.BondTypes words) _ (kinds_option_tells name.BondTypes words) (λ b.
    then_tells (lattice_commands.kinds_option name.AngleTypes words) _ (kinds_option_tells name.AngleTypes words) (λ a. tt))))

kind_tells : (words : List (List ℕ)) → Tells (lattice_commands.kind words)
kind_tells words = whole_tells 1 1 MAX_KINDS words

lattice_tells : (f : LatticeForm) (words : List (List ℕ)) → Tells (lattice_commands.make f words)
lattice_tells lattice.Lattice words = then_tells (number 2 MIN_DENSITY MAX_DENSITY words) _ (number_tells 2 MIN_DENSITY MAX_DENSITY words) (λ rho. tt)
lattice_tells lattice.RegionBlock words = then_tells (lattice_commands.block_in words) _ (block_tells words) (λ b. tt)
lattice_tells lattice.RegionSphere words = then_tells (lattice_commands.sphere_in words) _ (sphere_tells words) (λ s. tt)
lattice_tells lattice.RegionUnion words = tt
lattice_tells lattice.RegionIntersect words = tt
lattice_tells lattice.CreateBox words = then_tells (lattice_commands.box_counts words) _ (box_tells words) (λ n. tt)
lattice_tells lattice.CreateAtomsBox words = then_tells (lattice_commands.kind words) _ (kind_tells words) (λ n. tt)
lattice_tells lattice.CreateAtomsRegion words = then_tells (lattice_commands.kind words) _ (kind_tells words) (λ n. tt)
lattice_tells lattice.CreateAtomsSingle words =
    then_tells (lattice_commands.kind words) _ (kind_tells words) (λ n. then_tells (lattice_commands.vector 3 4 5 words) _ (vector_tells 3 4 5 words) (λ x. tt))

masses_groups_tell : (f : MassesGroupsForm) (words : List (List ℕ)) → Tells (masses_groups_commands.make f words)
masses_groups_tell masses_groups.Mass words =
    then_tells (kinds 1 words) _ (kinds_tell 1 words) (λ k. then_tells (number 2 MIN_MASS MAX_MASS words) _ (number_tells 2 MIN_MASS MAX_MASS words) (λ m. tt))
masses_groups_tell masses_groups.GroupRegion words = tt
masses_groups_tell masses_groups.GroupType words = then_tells (masses_groups_commands.kind_ranges 3 (drop 3 words)) _ (kind_ranges_tell 3 (drop 3 words)) (λ k. tt)
masses_groups_tell masses_groups.GroupId words = then_tells (masses_groups_commands.id_ranges 3 (drop 3 words)) _ (id_ranges_tell 3 (drop 3 words)) (λ k. tt)
masses_groups_tell masses_groups.GroupUnion words = tt
masses_groups_tell masses_groups.GroupSubtract words = tt
masses_groups_tell masses_groups.GroupIntersect words = tt
masses_groups_tell masses_groups.GroupVariable words = tt

coefficients_tell : (words : List (List ℕ)) → Tells (pairs_commands.coefficients words)
coefficients_tell words =
    then_tells (kinds 1 words) _ (kinds_tell 1 words) (λ a. then_tells (kinds 2 words) _ (kinds_tell 2 words) (λ b.
    then_tells (number 3 (pos 0) MAX_EPSILON words) _ (number_tells 3 (pos 0) MAX_EPSILON words) (λ s.
    then_tells (number 4 (pos 1) MAX_SIGMA words) _ (number_tells 4 (pos 1) MAX_SIGMA words) (λ t. tt))))

cutoff_tells : (place : ℕ) (words : List (List ℕ)) → Tells (pairs_commands.cutoff place words)
cutoff_tells place words = number_tells place (pos 1) MAX_CUTOFF words

pairs_tell : (f : PairsForm) (words : List (List ℕ)) → Tells (pairs_commands.make f words)
pairs_tell pairs.PairStyle words = then_tells (pairs_commands.cutoff 2 words) _ (cutoff_tells 2 words) (λ c. tt)
pairs_tell pairs.PairCoeff words = then_tells (pairs_commands.coefficients words) _ (coefficients_tell words) (λ p. tt)
pairs_tell pairs.PairCoeffCut words =
    then_tells (pairs_commands.coefficients words) _ (coefficients_tell words) (λ p. then_tells (pairs_commands.cutoff 5 words) _ (cutoff_tells 5 words) (λ c.
    let own : PairCoeff = record { first = p.first; second = p.second; epsilon = p.epsilon; sigma = p.sigma; cutoff = Some c } in
    either_tells (pairs_commands.is_short c p.sigma) (Err (BadValue 5)) (Ok (command.PairCoeff own)) tt tt))
pairs_tell pairs.PairModify words = tt

weight_tells : (place : ℕ) (words : List (List ℕ)) → Tells (bonds_commands.weight place words)
weight_tells place words = number_tells place (pos 0) FULL_WEIGHT words

bonds_tell : (f : BondsForm) (words : List (List ℕ)) → Tells (bonds_commands.make f words)
bonds_tell bonds.SpecialBonds words =
    then_tells (bonds_commands.weight 2 words) _ (weight_tells 2 words) (λ a. then_tells (bonds_commands.weight 3 words) _ (weight_tells 3 words) (λ b.
    then_tells (bonds_commands.weight 4 words) _ (weight_tells 4 words) (λ c. tt)))
bonds_tell bonds.BondStyle words = tt
bonds_tell bonds.BondCoeff words =
    then_tells (kinds 1 words) _ (kinds_tell 1 words) (λ t. then_tells (number 2 (pos 0) MAX_STIFFNESS words) _ (number_tells 2 (pos 0) MAX_STIFFNESS words) (λ k.
    then_tells (number 3 (pos 0) MAX_REST_LENGTH words) _ (number_tells 3 (pos 0) MAX_REST_LENGTH words) (λ r. tt)))
bonds_tell bonds.AngleStyle words = tt
bonds_tell bonds.AngleCoeff words =
    then_tells (kinds 1 words) _ (kinds_tell 1 words) (λ t. then_tells (number 2 (pos 0) MAX_STIFFNESS words) _ (number_tells 2 (pos 0) MAX_STIFFNESS words) (λ k. tt))

neighbors_tell : (f : NeighborsForm) (words : List (List ℕ)) → Tells (neighbors_commands.make f words)
neighbors_tell neighbors.Neighbor words = then_tells (number 1 (pos 0) MAX_SKIN words) _ (number_tells 1 (pos 0) MAX_SKIN words) (λ s. tt)
neighbors_tell neighbors.NeighModify words = tt
neighbors_tell neighbors.CommModify words = then_tells (number 2 (pos 0) MAX_CUTOFF words) _ (number_tells 2 (pos 0) MAX_CUTOFF words) (λ c. tt)

component_tells : (place : ℕ) (words : List (List ℕ)) → Tells (velocity_commands.component place words)
component_tells place words = number_or_tells Null place (neg_ℤ MAX_UNITS) MAX_UNITS words

action_tells : (f : VelocityForm) (words : List (List ℕ)) → Tells (velocity_commands.action f words)
action_tells velocity.VelocityCreate words =
    then_tells (number 3 (pos 0) MAX_TEMPERATURE words) _ (number_tells 3 (pos 0) MAX_TEMPERATURE words) (λ t.
    then_tells (whole 4 1 MAX_SEED words) _ (whole_tells 4 1 MAX_SEED words) (λ s. tt))
action_tells velocity.VelocitySet words =
    then_tells (velocity_commands.component 3 words) _ (component_tells 3 words) (λ x. then_tells (velocity_commands.component 4 words) _ (component_tells 4 words) (λ y.
    then_tells (velocity_commands.component 5 words) _ (component_tells 5 words) (λ z. tt)))
action_tells velocity.VelocityScale words = then_tells (number 3 (pos 0) MAX_TEMPERATURE words) _ (number_tells 3 (pos 0) MAX_TEMPERATURE words) (λ t. tt)
action_tells velocity.VelocityZero words = tt

velocity_tells : (f : VelocityForm) (words : List (List ℕ)) → Tells (velocity_commands.make f words)
velocity_tells f words = then_tells (velocity_commands.action f words) _ (action_tells f words) (λ a. tt)

force_tells : (place : ℕ) (words : List (List ℕ)) → Tells (fixes_commands.force place words)
force_tells place words = number_tells place (neg_ℤ MAX_FORCE) MAX_FORCE words

force_or_tells : (place : ℕ) (words : List (List ℕ)) → Tells (fixes_commands.force_or place words)
force_or_tells place words = number_or_tells Null place (neg_ℤ MAX_FORCE) MAX_FORCE words

set_force_tells : (words : List (List ℕ)) → Tells (fixes_commands.set_force words)
set_force_tells words =
    then_tells (fixes_commands.force_or 4 words) _ (force_or_tells 4 words) (λ x. then_tells (fixes_commands.force_or 5 words) _ (force_or_tells 5 words) (λ y.
    then_tells (fixes_commands.force_or 6 words) _ (force_or_tells 6 words) (λ z. tt)))

add_force_tells : (words : List (List ℕ)) → Tells (fixes_commands.add_force words)
add_force_tells words =
    then_tells (fixes_commands.force 4 words) _ (force_tells 4 words) (λ x. then_tells (fixes_commands.force 5 words) _ (force_tells 5 words) (λ y.
    then_tells (fixes_commands.force 6 words) _ (force_tells 6 words) (λ z. tt)))

periods_tell : (words : List (List ℕ)) → Tells (fixes_commands.periods_in words)
periods_tell words =
    then_tells (whole 4 1 MAX_STEP words) _ (whole_tells 4 1 MAX_STEP words) (λ e. then_tells (whole 5 1 MAX_REPEAT words) _ (whole_tells 5 1 MAX_REPEAT words) (λ r.
    then_tells (whole 6 1 MAX_STEP words) _ (whole_tells 6 1 MAX_STEP words) (λ f.
    either_tells (fixes_commands.is_regular e r f) (Ok record { every = e; repeat = r; freq = f }) (Err (BadValue 6)) tt tt)))

average_tells : (words : List (List ℕ)) → Tells (fixes_commands.average words)
average_tells words = then_tells (fixes_commands.periods_in words) _ (periods_tell words) (λ p. tt)

fixes_tell : (f : FixesForm) (words : List (List ℕ)) → Tells (fixes_commands.make f words)
fixes_tell fixes.FixNve words = tt
fixes_tell fixes.FixSetForce words = then_tells (fixes_commands.set_force words) _ (set_force_tells words) (λ s. tt)
fixes_tell fixes.FixAddForce words = then_tells (fixes_commands.add_force words) _ (add_force_tells words) (λ s. tt)
fixes_tell fixes.FixEnforce2d words = tt
fixes_tell fixes.FixAverage words = then_tells (fixes_commands.average words) _ (average_tells words) (λ s. tt)
fixes_tell fixes.FixExternal words = tt
fixes_tell fixes.Unfix words = tt

thermo_tells : (f : ThermoForm) (words : List (List ℕ)) → Tells (thermo_commands.make f words)
thermo_tells thermo.Thermo words = then_tells (count 1 words) _ (count_tells 1 words) (λ n. tt)
thermo_tells thermo.ThermoStyleOne words = tt
thermo_tells thermo.ThermoStyleCustom words = tt
thermo_tells thermo.ThermoModify words = tt

dumps_tell : (f : DumpsForm) (words : List (List ℕ)) → Tells (dumps_commands.make f words)
dumps_tell dumps.DumpAtom words = then_tells (count 4 words) _ (count_tells 4 words) (λ n. tt)
dumps_tell dumps.DumpCustom words = then_tells (count 4 words) _ (count_tells 4 words) (λ n. tt)
dumps_tell dumps.DumpModify words = tt
dumps_tell dumps.Undump words = tt

runs_tell : (f : RunsForm) (words : List (List ℕ)) → Tells (runs_commands.make f words)
runs_tell runs.Run words = then_tells (whole 1 0 MAX_STEP words) _ (whole_tells 1 0 MAX_STEP words) (λ n. tt)
runs_tell runs.RunUpto words = then_tells (whole 1 0 MAX_STEP words) _ (whole_tells 1 0 MAX_STEP words) (λ n. tt)
runs_tell runs.Timestep words = then_tells (number 1 (pos 0) MAX_TIMESTEP words) _ (number_tells 1 (pos 0) MAX_TIMESTEP words) (λ dt. tt)
runs_tell runs.ResetTimestep words = then_tells (whole 1 0 MAX_STEP words) _ (whole_tells 1 0 MAX_STEP words) (λ n. tt)

loop_to_tells : (words : List (List ℕ)) → Tells (variables_commands.loop_to words)
loop_to_tells words = then_tells (whole 3 1 MAX_LOOP words) _ (whole_tells 3 1 MAX_LOOP words) (λ n. tt)

loop_range_tells : (words : List (List ℕ)) → Tells (variables_commands.loop_range words)
loop_range_tells words =
    then_tells (whole 3 0 MAX_LOOP words) _ (whole_tells 3 0 MAX_LOOP words) (λ a. then_tells (whole 4 0 MAX_LOOP words) _ (whole_tells 4 0 MAX_LOOP words) (λ b.
    either_tells (nat_le a b) (Ok record { first = a; last = b }) (Err (BadValue 4)) tt tt))

variables_tell : (f : VariablesForm) (words : List (List ℕ)) → Tells (variables_commands.make f words)
variables_tell variables.VariableIndex words = tt
variables_tell variables.VariableLoop words = then_tells (variables_commands.loop_to words) _ (loop_to_tells words) (λ r. tt)
variables_tell variables.VariableLoopRange words = then_tells (variables_commands.loop_range words) _ (loop_range_tells words) (λ r. tt)
variables_tell variables.VariableEqual words = tt
variables_tell variables.VariableAtom words = tt
variables_tell variables.VariableString words = tt
variables_tell variables.VariableDelete words = tt
variables_tell variables.Next words = tt

-- `restart` alone refuses a word of a form
restarts_tell : (f : RestartsForm) (words : List (List ℕ)) → Tells (restarts_commands.make f words) ⊎ (f ≡ restarts.Restart)
restarts_tell restarts.RestartOff words = inl tt
restarts_tell restarts.Restart words = inr refl
restarts_tell restarts.WriteRestart words = inl tt
restarts_tell restarts.ReadRestart words = inl tt
restarts_tell restarts.ReadRestartNewer words = inl tt

make_tells : (f : Form) (words : List (List ℕ)) → Tells (make f words) ⊎ (f ≡ form.Restarts restarts.Restart)
make_tells (form.Setup f) words = inl (setup_tells f words)
make_tells (form.Lattice f) words = inl (lattice_tells f words)
make_tells (form.SystemFiles f) words = inl tt
make_tells (form.Restarts f) words = ⊎_elim (λ tells. inl tells) (λ same. inr (ap form.Restarts same)) (restarts_tell f words)
make_tells (form.MassesGroups f) words = inl (masses_groups_tell f words)
make_tells (form.Pairs f) words = inl (pairs_tell f words)
make_tells (form.Bonds f) words = inl (bonds_tell f words)
make_tells (form.Neighbors f) words = inl (neighbors_tell f words)
make_tells (form.Velocity f) words = inl (velocity_tells f words)
make_tells (form.Fixes f) words = inl (fixes_tell f words)
make_tells (form.Computes f) words = inl tt
make_tells (form.Thermo f) words = inl (thermo_tells f words)
make_tells (form.Dumps f) words = inl (dumps_tell f words)
make_tells (form.Runs f) words = inl (runs_tell f words)
make_tells (form.Output f) words = inl tt
make_tells (form.Variables f) words = inl (variables_tell f words)
make_tells (form.Flow f) words = inl tt
make_tells (form.Session f) words = inl tt

-- the form that words have takes all of them
formed : (forms : List Form) (words : List (List ℕ)) (fewest : ℕ) (f : Form) → best forms words fewest ≡ Ok f → stuck (places_of f) words ≡ None
formed [] words fewest f e = absurd (cc)
formed (g ∷ forms) words fewest f e = formed_by (stuck (places_of g) words) g forms words fewest f refl (λ n d. formed forms words n f d) e
  where
    formed_by : (o : Option ℕ) (g : Form) (forms : List Form) (words : List (List ℕ)) (fewest : ℕ) (f : Form) → stuck (places_of g) words ≡ o
        → ((n : ℕ) → best forms words n ≡ Ok f → stuck (places_of f) words ≡ None) → best_from g o (best forms words) fewest ≡ Ok f
        → stuck (places_of f) words ≡ None
    formed_by None g forms words fewest f is each e = let same : g ≡ f = cc in subst (λ (h : Form). stuck (places_of h) words ≡ None) same is
    formed_by (Some l) g forms words fewest f is each e = each (min fewest l) e

form_by : (known counted : Bool) (r : Result Form ℕ) (n : ℕ) (f : Form) → cond known (cond counted (form_or n r) (Err WordCount)) (Err UnknownCommand) ≡ Ok f → r ≡ Ok f
form_by true true (Ok g) n f e = cc
form_by true true (Err left) n f e = absurd (cc)
form_by true false r n f e = absurd (cc)
form_by false counted r n f e = absurd (cc)

form_takes : (words : List (List ℕ)) (f : Form) → form_of words ≡ Ok f → stuck (places_of f) words ≡ None
unfolding form_among
form_takes words f e =
    formed FORMS.now words (length words) f
    (form_by (is_known FORMS.now (word 0 words)) (is_counted FORMS.now (word 0 words) (length words)) (best FORMS.now words (length words)) (length words) f e)

-- the words of `restart` begin with its word
named_by : (b : Bool) (w text : List ℕ) (places : List Place) (words : List (List ℕ)) → bytes_eq w text ≡ b
    → behind (stuck places) (cond b (Ok words) (Err (length words + 1))) ≡ None → text ≡ w
named_by true w text places words is e = sym ((bytes_eq-Decides w text).0 is)
named_by false w text places words is e = absurd (cc)

restart_named : (words : List (List ℕ)) → stuck (places_of (form.Restarts restarts.Restart)) words ≡ None → word 0 words ≡ text_of name.Restart
restart_named [] e = absurd (cc)
restart_named (text ∷ words) e = named_by (bytes_eq (text_of name.Restart) text) (text_of name.Restart) text (drop 1 RESTART.now) words refl e

restart_by : (b : Bool) (words : List (List ℕ)) (i : ℕ) (saves : ℕ → Result Command WordRefusal) → bytes_eq (word 2 words) (word 3 words) ≡ b
    → ((n : ℕ) → Tells (saves n)) → word 0 words ≡ text_of name.Restart → cond b (Err (BadWord 3)) (then (count 1 words) saves) ≡ Err (BadWord i) → NamesOneFile words i
restart_by true words i saves is each named e =
    record { command = named; same = sym ((bytes_eq-Decides (word 2 words) (word 3 words)).0 is); there = cc }
restart_by false words i saves is each named e = absurd (IfErr-at_err IsValue e (then_tells (count 1 words) saves (count_tells 1 words) each))

restart_tells : (words : List (List ℕ)) (i : ℕ) → word 0 words ≡ text_of name.Restart → restarts_commands.restart words ≡ Err (BadWord i) → NamesOneFile words i
restart_tells words i named e =
    restart_by (bytes_eq (word 2 words) (word 3 words)) words i
    (λ n. Ok (command.Restart (Some record { every = n; first = word 2 words; second = word 3 words }))) refl (λ n. tt) named e

read_by : (r : Result Form WordRefusal) (words : List (List ℕ)) (i : ℕ) → form_of words ≡ r → then r (λ f. make f words) ≡ Err (BadWord i)
    → IsFirstBad words i ⊎ NamesOneFile words i
read_by (Err why) words i is e = inl (bad_words_are_the_first words i (is ∙ cc))
read_by (Ok f) words i is e =
    ⊎_elim (λ tells. absurd (IfErr-at_err IsValue e tells))
    (λ same.
    let taken : stuck (places_of (form.Restarts restarts.Restart)) words ≡ None = subst (λ (g : Form). stuck (places_of g) words ≡ None) same (form_takes words f is) in
    let refused : make (form.Restarts restarts.Restart) words ≡ Err (BadWord i) = subst (λ (g : Form). make g words ≡ Err (BadWord i)) same e in
    inr (restart_tells words i (restart_named words taken) refused))
    (make_tells f words)

pub bad_words_of_commands : (words : List (List ℕ)) (i : ℕ) → read words ≡ Err (BadWord i) → IsFirstBad words i ⊎ NamesOneFile words i
unfolding read
bad_words_of_commands words i e = read_by (form_of words) words i refl e
