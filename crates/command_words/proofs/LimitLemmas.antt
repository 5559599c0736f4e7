-- The numbers of a command that was read keep to their limits: what each reader gives is between its bounds, and so is what is made of it.
use Rattle.std.proofs.Common.{◌≡◌, ◌≤◌, ◌⊎◌, Bool, true, false, cond, ℕ, ℤ, pos, Option, Some, None, Result, Ok, Err, List, [], ◌∷◌, drop, refl, arith}
use Rattle.std.specs.Prelude.{◌*◌, ◌%◌, neg_ℤ, All, IfOk, IfSome, option_and_then}
use Rattle.std.specs.Str.{bytes_eq}
use Rattle.std.proofs.lemmas.Result.{IfOk-at_ok}
use Rattle.std.proofs.lemmas.Bool.Decides.{nat_tests}
use Rattle.std.proofs.lemmas.Int.{ints}
use Rattle.std.proofs.lemmas.List.Elements.{All-cons, All-nil}
use Rattle.box_geo.specs.declared.limits.TheConstants.{FULL_WEIGHT, MAX_CUTOFF, MAX_EPSILON, MAX_FORCE, MAX_KINDS, MAX_MASS, MAX_REST_LENGTH, MAX_SIGMA, MAX_SKIN, MAX_STEP, MAX_STIFFNESS, MAX_TEMPERATURE, MAX_TIMESTEP, MIN_MASS}
use Rattle.fx_num.specs.Decimal.{read_count, read_number}
use Rattle.fx_num.specs.declared.decimal.NumError.{NumError}
use Rattle.command_words.specs.Limits.{ActionKeepsLimits, AreCoefficients, ArePeriods, AreTypeCounts, IsBetween, IsCutoff, IsForce, IsWeight, KeepsLimits, StyleKeepsLimits}
use Rattle.command_words.specs.declared.limits.TheConstants.{MAX_DENSITY, MAX_REPEAT, MAX_SEED, MIN_DENSITY}
use Rattle.command_words.specs.Bonds as bonds_commands
use Rattle.command_words.specs.Computes as computes_commands
use Rattle.command_words.specs.Dumps as dumps_commands
use Rattle.command_words.specs.Fixes as fixes_commands
use Rattle.command_words.specs.Flow as flow_commands
use Rattle.command_words.specs.Lattice as lattice_commands
use Rattle.command_words.specs.MassesGroups as masses_groups_commands
use Rattle.command_words.specs.Neighbors as neighbors_commands
use Rattle.command_words.specs.Output as output_commands
use Rattle.command_words.specs.Pairs as pairs_commands
use Rattle.command_words.specs.Restarts as restarts_commands
use Rattle.command_words.specs.Runs as runs_commands
use Rattle.command_words.specs.Session as session_commands
use Rattle.command_words.specs.Setup as setup_commands
use Rattle.command_words.specs.SystemFiles as system_files_commands
use Rattle.command_words.specs.Thermo as thermo_commands
use Rattle.command_words.specs.Variables as variables_commands
use Rattle.command_words.specs.Velocity as velocity_commands
use Rattle.command_words.specs.Vocabulary.{is_among}
use Rattle.command_words.specs.Ranges.{before, count_within, first_kind, from, kind_range, kind_range_of, last_kind, within}
use Rattle.command_words.specs.Read.{form_of, make, read}
use Rattle.command_words.specs.Values.{count, given, kinds, kinds_at, number, number_at, then, value_place, whole, whole_at, word}
use Rattle.command_words.specs.declared.bonds.BondsForm.TheVariants as bonds
use Rattle.command_words.specs.declared.bonds.BondsForm.{BondsForm}
use Rattle.command_words.specs.declared.command.Command.{Command}
use Rattle.command_words.specs.declared.command.Command.TheVariants as command
use Rattle.command_words.specs.declared.computes.ComputesForm.TheVariants as computes
use Rattle.command_words.specs.declared.computes.ComputesForm.{ComputesForm}
use Rattle.command_words.specs.declared.dumps.DumpsForm.TheVariants as dumps
use Rattle.command_words.specs.declared.dumps.DumpsForm.{DumpsForm}
use Rattle.command_words.specs.declared.fixes.FixesForm.TheVariants as fixes
use Rattle.command_words.specs.declared.fixes.FixesForm.{FixesForm}
use Rattle.command_words.specs.declared.fixes.Periods.{Periods}
use Rattle.command_words.specs.declared.flow.FlowForm.TheVariants as flow
use Rattle.command_words.specs.declared.flow.FlowForm.{FlowForm}
use Rattle.command_words.specs.declared.forms.Form.TheVariants as form
use Rattle.command_words.specs.declared.forms.Form.{Form}
use Rattle.command_words.specs.declared.lattice.Counts.{Counts}
use Rattle.command_words.specs.declared.lattice.LatticeForm.TheVariants as lattice
use Rattle.command_words.specs.declared.lattice.LatticeForm.{LatticeForm}
use Rattle.command_words.specs.declared.masses_groups.MassesGroupsForm.TheVariants as masses_groups
use Rattle.command_words.specs.declared.masses_groups.MassesGroupsForm.{MassesGroupsForm}
use Rattle.command_words.specs.declared.neighbors.NeighborsForm.TheVariants as neighbors
use Rattle.command_words.specs.declared.neighbors.NeighborsForm.{NeighborsForm}
use Rattle.command_words.specs.declared.output.OutputForm.TheVariants as output
use Rattle.command_words.specs.declared.output.OutputForm.{OutputForm}
use Rattle.command_words.specs.declared.pairs.PairCoeff.{PairCoeff}
use Rattle.command_words.specs.declared.pairs.PairsForm.TheVariants as pairs
use Rattle.command_words.specs.declared.pairs.PairsForm.{PairsForm}
use Rattle.command_words.specs.declared.ranges.KindRange.{KindRange}
use Rattle.command_words.specs.declared.refusal.WordRefusal.{WordRefusal}
use Rattle.command_words.specs.declared.refusal.WordRefusal.TheVariants.{BadValue, BadWord}
use Rattle.command_words.specs.declared.restarts.RestartsForm.TheVariants as restarts
use Rattle.command_words.specs.declared.restarts.RestartsForm.{RestartsForm}
use Rattle.command_words.specs.declared.runs.RunsForm.TheVariants as runs
use Rattle.command_words.specs.declared.runs.RunsForm.{RunsForm}
use Rattle.command_words.specs.declared.session.SessionForm.TheVariants as session
use Rattle.command_words.specs.declared.session.SessionForm.{SessionForm}
use Rattle.command_words.specs.declared.setup.SetupForm.TheVariants as setup
use Rattle.command_words.specs.declared.setup.SetupForm.{SetupForm}
use Rattle.command_words.specs.declared.system_files.SystemFilesForm.TheVariants as system_files
use Rattle.command_words.specs.declared.system_files.SystemFilesForm.{SystemFilesForm}
use Rattle.command_words.specs.declared.thermo.ThermoForm.TheVariants as thermo
use Rattle.command_words.specs.declared.thermo.ThermoForm.{ThermoForm}
use Rattle.command_words.specs.declared.variables.VariablesForm.TheVariants as variables
use Rattle.command_words.specs.declared.variables.VariablesForm.{VariablesForm}
use Rattle.command_words.specs.declared.velocity.VelocityForm.{VelocityForm}
use Rattle.command_words.specs.declared.velocity.VelocityForm.TheVariants as velocity
use Rattle.command_words.specs.declared.vocabulary.Word.{Word}
use Rattle.command_words.specs.declared.vocabulary.Word.TheVariants as name
use Rattle.command_words.specs.declared.vocabulary.Words.TheVariants.{Null}

-- what is made of what was read
then_gives : {X Y : Type 0} (P : Y → Type 0) (r : Result X WordRefusal) (next : X → Result Y WordRefusal) → ((x : X) → r ≡ Ok x → IfOk (next x) P) → IfOk (then r next) P
then_gives P (Ok x) next each = each x refl
then_gives P (Err why) next each = tt

-- a command keeps to its limits, if there is one
abbrev Keeps : Result Command WordRefusal → Type 0
Keeps r = IfOk r KeepsLimits

then_keeps : {X : Type 0} (r : Result X WordRefusal) (next : X → Result Command WordRefusal) → ((x : X) → r ≡ Ok x → Keeps (next x)) → Keeps (then r next)
then_keeps r next each = then_gives KeepsLimits r next each

unless_keeps : (b : Bool) (why : WordRefusal) (r : Result Command WordRefusal) → Keeps r → Keeps (cond b (Err why) r)
unless_keeps true why r keeps = tt
unless_keeps false why r keeps = keeps

-- a number is between its bounds
number_by : (place : ℕ) (low high : ℤ) (r : Result ℤ NumError) (v : ℤ) → number_at place low high r ≡ Ok v → IsBetween low high v
number_by place low high (Ok w) v e = grind (arith, ints)
number_by place low high (Err why) v e = absurd (cc)

number_between : (place : ℕ) (low high : ℤ) (words : List (List ℕ)) (v : ℤ) → number place low high words ≡ Ok v → IsBetween low high v
number_between place low high words v e = number_by place low high (read_number (word place words)) v e

cutoff_from : (place : ℕ) (words : List (List ℕ)) (v : ℤ) → number place (pos 1) MAX_CUTOFF words ≡ Ok v → IsCutoff v
cutoff_from place words v e =
    let b : IsBetween (pos 1) MAX_CUTOFF v = number_between place (pos 1) MAX_CUTOFF words v e in
    record { low = omega (arith, ints, b.0); high = b.1 }

-- a whole number is
whole_by : (place low high : ℕ) (r : Result ℕ NumError) (n : ℕ) → whole_at place low high r ≡ Ok n → (low ≤ n) × (n ≤ high)
whole_by place low high (Ok m) n e = grind (arith, nat_tests)
whole_by place low high (Err why) n e = absurd (cc)

whole_between : (place low high : ℕ) (words : List (List ℕ)) (n : ℕ) → whole place low high words ≡ Ok n → (low ≤ n) × (n ≤ high)
whole_between place low high words n e = whole_by place low high (read_count (word place words)) n e

-- the first type of a range is at least 1
within_some : (high : ℕ) (r : Result ℕ NumError) (n : ℕ) → within high r ≡ Some n → 1 ≤ n
within_some high (Ok m) n e = grind (arith, nat_tests)
within_some high (Err why) n e = absurd (cc)

first_some : (text : List ℕ) (n : ℕ) → first_kind text ≡ Some n → 1 ≤ n
first_some [] n e = grind arith
first_some (c ∷ text) n e = within_some MAX_KINDS (read_count (c ∷ text)) n e

one_kind : (o : Option ℕ) (r : KindRange) → ((n : ℕ) → o ≡ Some n → 1 ≤ n) → option_and_then (λ n. Some record { first = n; last = Some n }) o ≡ Some r → 1 ≤ r.first
one_kind (Some n) r each e = let h : 1 ≤ n = each n refl in grind arith
one_kind None r each e = absurd (cc)

two_kinds : (o : Option ℕ) (l : Option (Option ℕ)) (r : KindRange) → ((n : ℕ) → o ≡ Some n → 1 ≤ n)
    → option_and_then (λ a. option_and_then (λ b. Some record { first = a; last = b }) l) o ≡ Some r → 1 ≤ r.first
two_kinds (Some n) (Some m) r each e = let h : 1 ≤ n = each n refl in grind arith
two_kinds (Some n) None r each e = absurd (cc)
two_kinds None l r each e = absurd (cc)

range_by : (first rest : List ℕ) (r : KindRange) → kind_range_of first rest ≡ Some r → 1 ≤ r.first
range_by first [] r e = one_kind (count_within MAX_KINDS first) r (within_some MAX_KINDS (read_count first)) e
range_by first (star ∷ last) r e = two_kinds (first_kind first) (last_kind last) r (first_some first) e

kinds_by : (place : ℕ) (o : Option KindRange) (r : KindRange) → ((k : KindRange) → o ≡ Some k → 1 ≤ k.first) → kinds_at place o ≡ Ok r → 1 ≤ r.first
kinds_by place (Some k) r each e = let h : 1 ≤ k.first = each k refl in grind arith
kinds_by place None r each e = absurd (cc)

kinds_first : (place : ℕ) (words : List (List ℕ)) (r : KindRange) → kinds place words ≡ Ok r → 1 ≤ r.first
kinds_first place words r e = kinds_by place (kind_range (word place words)) r (range_by (before 42 (word place words)) (from 42 (word place words))) e

-- three numbers of a list
all_three : {X : Type 0} (P : X → Type 0) (x y z : X) → P x → P y → P z → All P (x ∷ y ∷ z ∷ [])
all_three P x y z px py pz = All-cons P x (y ∷ z ∷ []) px (All-cons P y (z ∷ []) py (All-cons P z [] pz (All-nil P)))

-- the dimension
dimension_is : (n : ℕ) → (2 ≤ n) × (n ≤ 3) → (n ≡ 2) ⊎ (n ≡ 3)
dimension_is n b = grind (arith, b.0, b.1)

-- Each family of commands.

setup_keeps : (f : SetupForm) (words : List (List ℕ)) → Keeps (setup_commands.make f words)
setup_keeps setup.Units words = tt
setup_keeps setup.Dimension words = then_keeps (whole 1 2 3 words) _ (λ n e. dimension_is n (whole_between 1 2 3 words n e))
setup_keeps setup.Boundary words = tt
setup_keeps setup.AtomStyle words = tt
setup_keeps setup.Processors words =
    then_keeps (setup_commands.bricks 1 words) _ (λ x e. then_keeps (setup_commands.bricks 2 words) _ (λ y f. then_keeps (setup_commands.bricks 3 words) _ (λ z g.
    grid_keeps (setup_commands.grid x y z))))
  where
    grid_keeps : (o : Option (List ℕ)) → Keeps (setup_commands.grid_command o)
    grid_keeps (Some counts) = tt
    grid_keeps None = tt
setup_keeps setup.Newton words = tt
setup_keeps setup.AtomModify words = tt
setup_keeps setup.Echo words = tt

-- the numbers of types of a box
option_by : (o : Option ℕ) (words : List (List ℕ)) (n : ℕ) → lattice_commands.kinds_at o words ≡ Ok n → n ≤ MAX_KINDS
option_by None words n e = grind arith
option_by (Some place) words n e = (whole_between place 0 MAX_KINDS words n e).1

option_within : (option : Word) (words : List (List ℕ)) (n : ℕ) → lattice_commands.kinds_option option words ≡ Ok n → n ≤ MAX_KINDS
option_within option words n e = option_by (value_place option 3 words) words n e

unless_bad_gives : {X : Type 0} (P : X → Type 0) (o : Option ℕ) (r : Result X WordRefusal) → IfOk r P → IfOk (lattice_commands.unless_bad o r) P
unless_bad_gives P None r gives = gives
unless_bad_gives P (Some place) r gives = tt

abbrev CountsKeep : Counts → Type 0
CountsKeep n = AreTypeCounts n.kinds n.bonds n.angles

counts_keep : (words : List (List ℕ)) → IfOk (lattice_commands.box_counts words) CountsKeep
counts_keep words =
    then_gives CountsKeep (whole 1 1 MAX_KINDS words) _ (λ n e. unless_bad_gives CountsKeep (lattice_commands.box_excess words) _
    (then_gives CountsKeep (lattice_commands.kinds_option name.BondTypes words) _ (λ b f.
    then_gives CountsKeep (lattice_commands.kinds_option name.AngleTypes words) _ (λ a g.
    record {
      kinds = whole_between 1 1 MAX_KINDS words n e;
      bond_kinds = option_within name.BondTypes words b f;
      angle_kinds = option_within name.AngleTypes words a g;
    }))))

lattice_keeps : (f : LatticeForm) (words : List (List ℕ)) → Keeps (lattice_commands.make f words)
lattice_keeps lattice.Lattice words = then_keeps (number 2 MIN_DENSITY MAX_DENSITY words) _ (λ rho e. number_between 2 MIN_DENSITY MAX_DENSITY words rho e)
lattice_keeps lattice.RegionBlock words = then_keeps (lattice_commands.block_in words) _ (λ b e. tt)
lattice_keeps lattice.RegionSphere words = then_keeps (lattice_commands.sphere_in words) _ (λ s e. tt)
lattice_keeps lattice.RegionUnion words = tt
lattice_keeps lattice.RegionIntersect words = tt
lattice_keeps lattice.CreateBox words = then_keeps (lattice_commands.box_counts words) _ (λ n e. IfOk-at_ok CountsKeep e (counts_keep words))
lattice_keeps lattice.CreateAtomsBox words = then_keeps (lattice_commands.kind words) _ (λ n e. whole_between 1 1 MAX_KINDS words n e)
lattice_keeps lattice.CreateAtomsRegion words = then_keeps (lattice_commands.kind words) _ (λ n e. whole_between 1 1 MAX_KINDS words n e)
lattice_keeps lattice.CreateAtomsSingle words =
    then_keeps (lattice_commands.kind words) _ (λ n e. then_keeps (lattice_commands.vector 3 4 5 words) _ (λ x f. whole_between 1 1 MAX_KINDS words n e))

system_files_keep : (f : SystemFilesForm) (words : List (List ℕ)) → KeepsLimits (system_files_commands.make f words)
system_files_keep system_files.ReadData words = tt
system_files_keep system_files.WriteData words = tt

restarts_keep : (f : RestartsForm) (words : List (List ℕ)) → Keeps (restarts_commands.make f words)
restarts_keep restarts.RestartOff words = tt
restarts_keep restarts.Restart words =
    let saves : ℕ → Result Command WordRefusal = λ n. Ok (command.Restart (Some record { every = n; first = word 2 words; second = word 3 words })) in
    unless_keeps (bytes_eq (word 2 words) (word 3 words)) (BadWord 3) (then (count 1 words) saves) (then_keeps (count 1 words) saves (λ n e. tt))
restarts_keep restarts.WriteRestart words = tt
restarts_keep restarts.ReadRestart words = tt
restarts_keep restarts.ReadRestartNewer words = tt

masses_groups_keep : (f : MassesGroupsForm) (words : List (List ℕ)) → Keeps (masses_groups_commands.make f words)
masses_groups_keep masses_groups.Mass words =
    then_keeps (kinds 1 words) _ (λ k e. then_keeps (number 2 MIN_MASS MAX_MASS words) _ (λ m f.
    (kinds_first 1 words k e, number_between 2 MIN_MASS MAX_MASS words m f)))
masses_groups_keep masses_groups.GroupRegion words = tt
masses_groups_keep masses_groups.GroupType words = then_keeps (masses_groups_commands.kind_ranges 3 (drop 3 words)) _ (λ k e. tt)
masses_groups_keep masses_groups.GroupId words = then_keeps (masses_groups_commands.id_ranges 3 (drop 3 words)) _ (λ k e. tt)
masses_groups_keep masses_groups.GroupUnion words = tt
masses_groups_keep masses_groups.GroupSubtract words = tt
masses_groups_keep masses_groups.GroupIntersect words = tt
masses_groups_keep masses_groups.GroupVariable words = tt

-- the coefficients of two ranges of types keep to their limits, and so they do with a cutoff of their own
coefficients_keep : (words : List (List ℕ)) → IfOk (pairs_commands.coefficients words) AreCoefficients
coefficients_keep words =
    then_gives AreCoefficients (kinds 1 words) _ (λ a e. then_gives AreCoefficients (kinds 2 words) _ (λ b f.
    then_gives AreCoefficients (number 3 (pos 0) MAX_EPSILON words) _ (λ s g. then_gives AreCoefficients (number 4 (pos 1) MAX_SIGMA words) _ (λ t h.
    let sigma : IsBetween (pos 1) MAX_SIGMA t = number_between 4 (pos 1) MAX_SIGMA words t h in
    record {
      first = kinds_first 1 words a e;
      second = kinds_first 2 words b f;
      epsilon = number_between 3 (pos 0) MAX_EPSILON words s g;
      sigma_low = omega (arith, ints, sigma.0);
      sigma_high = sigma.1;
      cutoff = tt;
    }))))

with_cutoff : (p : PairCoeff) (c : ℤ) → AreCoefficients p → IsCutoff c
    → AreCoefficients record { first = p.first; second = p.second; epsilon = p.epsilon; sigma = p.sigma; cutoff = Some c }
with_cutoff p c k own = record { first = k.first; second = k.second; epsilon = k.epsilon; sigma_low = k.sigma_low; sigma_high = k.sigma_high; cutoff = own }

pairs_keep : (f : PairsForm) (words : List (List ℕ)) → Keeps (pairs_commands.make f words)
pairs_keep pairs.PairStyle words = then_keeps (pairs_commands.cutoff 2 words) _ (λ c e. cutoff_from 2 words c e)
pairs_keep pairs.PairCoeff words = then_keeps (pairs_commands.coefficients words) _ (λ p e. IfOk-at_ok AreCoefficients e (coefficients_keep words))
pairs_keep pairs.PairCoeffCut words =
    then_keeps (pairs_commands.coefficients words) _ (λ p e. then_keeps (pairs_commands.cutoff 5 words) _ (λ c f.
    let own : PairCoeff = record { first = p.first; second = p.second; epsilon = p.epsilon; sigma = p.sigma; cutoff = Some c } in
    unless_keeps (pairs_commands.is_short c p.sigma) (BadValue 5) (Ok (command.PairCoeff own))
    (with_cutoff p c (IfOk-at_ok AreCoefficients e (coefficients_keep words)) (cutoff_from 5 words c f))))
pairs_keep pairs.PairModify words = tt

bonds_keep : (f : BondsForm) (words : List (List ℕ)) → Keeps (bonds_commands.make f words)
bonds_keep bonds.SpecialBonds words =
    then_keeps (bonds_commands.weight 2 words) _ (λ a e. then_keeps (bonds_commands.weight 3 words) _ (λ b f. then_keeps (bonds_commands.weight 4 words) _ (λ c g.
    all_three IsWeight a b c (number_between 2 (pos 0) FULL_WEIGHT words a e) (number_between 3 (pos 0) FULL_WEIGHT words b f)
    (number_between 4 (pos 0) FULL_WEIGHT words c g))))
bonds_keep bonds.BondStyle words = tt
bonds_keep bonds.BondCoeff words =
    then_keeps (kinds 1 words) _ (λ t e. then_keeps (number 2 (pos 0) MAX_STIFFNESS words) _ (λ k f.
    then_keeps (number 3 (pos 0) MAX_REST_LENGTH words) _ (λ r g.
    record {
      first = kinds_first 1 words t e;
      stiffness = number_between 2 (pos 0) MAX_STIFFNESS words k f;
      rest = number_between 3 (pos 0) MAX_REST_LENGTH words r g;
    })))
bonds_keep bonds.AngleStyle words = tt
bonds_keep bonds.AngleCoeff words =
    then_keeps (kinds 1 words) _ (λ t e. then_keeps (number 2 (pos 0) MAX_STIFFNESS words) _ (λ k f.
    record { first = kinds_first 1 words t e; stiffness = number_between 2 (pos 0) MAX_STIFFNESS words k f }))

neighbors_keep : (f : NeighborsForm) (words : List (List ℕ)) → Keeps (neighbors_commands.make f words)
neighbors_keep neighbors.Neighbor words = then_keeps (number 1 (pos 0) MAX_SKIN words) _ (λ s e. number_between 1 (pos 0) MAX_SKIN words s e)
neighbors_keep neighbors.NeighModify words = tt
neighbors_keep neighbors.CommModify words = then_keeps (number 2 (pos 0) MAX_CUTOFF words) _ (λ c e. number_between 2 (pos 0) MAX_CUTOFF words c e)

action_keeps : (f : VelocityForm) (words : List (List ℕ)) → IfOk (velocity_commands.action f words) ActionKeepsLimits
action_keeps velocity.VelocityCreate words =
    then_gives ActionKeepsLimits (number 3 (pos 0) MAX_TEMPERATURE words) _ (λ t e. then_gives ActionKeepsLimits (whole 4 1 MAX_SEED words) _ (λ s f.
    let seed : (1 ≤ s) × (s ≤ MAX_SEED) = whole_between 4 1 MAX_SEED words s f in
    record { temperature = number_between 3 (pos 0) MAX_TEMPERATURE words t e; seed_low = seed.0; seed_high = seed.1 }))
action_keeps velocity.VelocitySet words =
    then_gives ActionKeepsLimits (velocity_commands.component 3 words) _ (λ x e. then_gives ActionKeepsLimits (velocity_commands.component 4 words) _ (λ y f.
    then_gives ActionKeepsLimits (velocity_commands.component 5 words) _ (λ z g. tt)))
action_keeps velocity.VelocityScale words =
    then_gives ActionKeepsLimits (number 3 (pos 0) MAX_TEMPERATURE words) _ (λ t e. number_between 3 (pos 0) MAX_TEMPERATURE words t e)
action_keeps velocity.VelocityZero words = tt

velocity_keeps : (f : VelocityForm) (words : List (List ℕ)) → Keeps (velocity_commands.make f words)
velocity_keeps f words = then_keeps (velocity_commands.action f words) _ (λ a e. IfOk-at_ok ActionKeepsLimits e (action_keeps f words))

-- a component of a force that is set, if it does not stay
set_by : (stays : Bool) (r : Result ℤ WordRefusal) (o : Option ℤ) → ((v : ℤ) → r ≡ Ok v → IsForce v) → cond stays (Ok None) (given r) ≡ Ok o → IfSome o IsForce
set_by stays r None each e = tt
set_by true r (Some v) each e = absurd (cc)
set_by false (Ok w) (Some v) each e = each v (cc)
set_by false (Err why) (Some v) each e = absurd (cc)

force_set : (place : ℕ) (words : List (List ℕ)) (o : Option ℤ) → fixes_commands.force_or place words ≡ Ok o → IfSome o IsForce
force_set place words o e =
    set_by (is_among Null (word place words)) (number place (neg_ℤ MAX_FORCE) MAX_FORCE words) o (number_between place (neg_ℤ MAX_FORCE) MAX_FORCE words) e

set_force_keeps : (words : List (List ℕ)) → IfOk (fixes_commands.set_force words) StyleKeepsLimits
set_force_keeps words =
    then_gives StyleKeepsLimits (fixes_commands.force_or 4 words) _ (λ x e. then_gives StyleKeepsLimits (fixes_commands.force_or 5 words) _ (λ y f.
    then_gives StyleKeepsLimits (fixes_commands.force_or 6 words) _ (λ z g.
    all_three (λ o. IfSome o IsForce) x y z (force_set 4 words x e) (force_set 5 words y f) (force_set 6 words z g))))

add_force_keeps : (words : List (List ℕ)) → IfOk (fixes_commands.add_force words) StyleKeepsLimits
add_force_keeps words =
    then_gives StyleKeepsLimits (fixes_commands.force 4 words) _ (λ x e. then_gives StyleKeepsLimits (fixes_commands.force 5 words) _ (λ y f.
    then_gives StyleKeepsLimits (fixes_commands.force 6 words) _ (λ z g.
    all_three IsForce x y z (number_between 4 (neg_ℤ MAX_FORCE) MAX_FORCE words x e) (number_between 5 (neg_ℤ MAX_FORCE) MAX_FORCE words y f)
    (number_between 6 (neg_ℤ MAX_FORCE) MAX_FORCE words z g))))

-- the periods of averages
abbrev PeriodsKeep : Periods → Type 0
PeriodsKeep p = ArePeriods p.every p.repeat p.freq

if_regular : (regular : Bool) (p : Periods) (why : WordRefusal) → (regular ≡ true → PeriodsKeep p) → IfOk (cond regular (Ok p) (Err why)) PeriodsKeep
if_regular true p why keeps = keeps refl
if_regular false p why keeps = tt

regular_multiple : (every repeat freq : ℕ) → fixes_commands.is_regular every repeat freq ≡ true → freq % every ≡ 0
regular_multiple every repeat freq e = grind (arith, nat_tests)

regular_room : (every repeat freq : ℕ) → fixes_commands.is_regular every repeat freq ≡ true → every * repeat ≤ freq
regular_room every repeat freq e = grind (arith, nat_tests)

periods_keep : (words : List (List ℕ)) → IfOk (fixes_commands.periods_in words) PeriodsKeep
periods_keep words =
    then_gives PeriodsKeep (whole 4 1 MAX_STEP words) _ (λ e g. then_gives PeriodsKeep (whole 5 1 MAX_REPEAT words) _ (λ r h.
    then_gives PeriodsKeep (whole 6 1 MAX_STEP words) _ (λ f i.
    let every : (1 ≤ e) × (e ≤ MAX_STEP) = whole_between 4 1 MAX_STEP words e g in
    let repeat : (1 ≤ r) × (r ≤ MAX_REPEAT) = whole_between 5 1 MAX_REPEAT words r h in
    let freq : (1 ≤ f) × (f ≤ MAX_STEP) = whole_between 6 1 MAX_STEP words f i in
    if_regular (fixes_commands.is_regular e r f) _ _ (λ regular. record {
      every_low = every.0;
      every_high = every.1;
      repeat_low = repeat.0;
      repeat_high = repeat.1;
      freq_low = freq.0;
      freq_high = freq.1;
      multiple = regular_multiple e r f regular;
      room = regular_room e r f regular;
    }))))

average_keeps : (words : List (List ℕ)) → IfOk (fixes_commands.average words) StyleKeepsLimits
average_keeps words = then_gives StyleKeepsLimits (fixes_commands.periods_in words) _ (λ p e. IfOk-at_ok PeriodsKeep e (periods_keep words))

fixes_keep : (f : FixesForm) (words : List (List ℕ)) → Keeps (fixes_commands.make f words)
fixes_keep fixes.FixNve words = tt
fixes_keep fixes.FixSetForce words = then_keeps (fixes_commands.set_force words) _ (λ s e. IfOk-at_ok StyleKeepsLimits e (set_force_keeps words))
fixes_keep fixes.FixAddForce words = then_keeps (fixes_commands.add_force words) _ (λ s e. IfOk-at_ok StyleKeepsLimits e (add_force_keeps words))
fixes_keep fixes.FixEnforce2d words = tt
fixes_keep fixes.FixAverage words = then_keeps (fixes_commands.average words) _ (λ s e. IfOk-at_ok StyleKeepsLimits e (average_keeps words))
fixes_keep fixes.FixExternal words = tt
fixes_keep fixes.Unfix words = tt

computes_keep : (f : ComputesForm) (words : List (List ℕ)) → KeepsLimits (computes_commands.make f words)
computes_keep computes.ComputeKe words = tt
computes_keep computes.ComputeTemp words = tt
computes_keep computes.ComputePe words = tt
computes_keep computes.ComputePressure words = tt
computes_keep computes.Uncompute words = tt

thermo_keeps : (f : ThermoForm) (words : List (List ℕ)) → Keeps (thermo_commands.make f words)
thermo_keeps thermo.Thermo words = then_keeps (count 1 words) _ (λ n e. tt)
thermo_keeps thermo.ThermoStyleOne words = tt
thermo_keeps thermo.ThermoStyleCustom words = tt
thermo_keeps thermo.ThermoModify words = tt

dumps_keep : (f : DumpsForm) (words : List (List ℕ)) → Keeps (dumps_commands.make f words)
dumps_keep dumps.DumpAtom words = then_keeps (count 4 words) _ (λ n e. tt)
dumps_keep dumps.DumpCustom words = then_keeps (count 4 words) _ (λ n e. tt)
dumps_keep dumps.DumpModify words = tt
dumps_keep dumps.Undump words = tt

runs_keep : (f : RunsForm) (words : List (List ℕ)) → Keeps (runs_commands.make f words)
runs_keep runs.Run words = then_keeps (whole 1 0 MAX_STEP words) _ (λ n e. (whole_between 1 0 MAX_STEP words n e).1)
runs_keep runs.RunUpto words = then_keeps (whole 1 0 MAX_STEP words) _ (λ n e. (whole_between 1 0 MAX_STEP words n e).1)
runs_keep runs.Timestep words = then_keeps (number 1 (pos 0) MAX_TIMESTEP words) _ (λ dt e. number_between 1 (pos 0) MAX_TIMESTEP words dt e)
runs_keep runs.ResetTimestep words = then_keeps (whole 1 0 MAX_STEP words) _ (λ n e. (whole_between 1 0 MAX_STEP words n e).1)

output_keeps : (f : OutputForm) (words : List (List ℕ)) → KeepsLimits (output_commands.make f words)
output_keeps output.Print words = tt
output_keeps output.Log words = tt

variables_keep : (f : VariablesForm) (words : List (List ℕ)) → Keeps (variables_commands.make f words)
variables_keep variables.VariableIndex words = tt
variables_keep variables.VariableLoop words = then_keeps (variables_commands.loop_to words) _ (λ r e. tt)
variables_keep variables.VariableLoopRange words = then_keeps (variables_commands.loop_range words) _ (λ r e. tt)
variables_keep variables.VariableEqual words = tt
variables_keep variables.VariableAtom words = tt
variables_keep variables.VariableString words = tt
variables_keep variables.VariableDelete words = tt
variables_keep variables.Next words = tt

flow_keeps : (f : FlowForm) (words : List (List ℕ)) → KeepsLimits (flow_commands.make f words)
flow_keeps flow.Label words = tt
flow_keeps flow.Jump words = tt
flow_keeps flow.JumpLabel words = tt
flow_keeps flow.Include words = tt
flow_keeps flow.If words = tt

session_keeps : (f : SessionForm) → KeepsLimits (session_commands.make f)
session_keeps session.Clear = tt
session_keeps session.Quit = tt

make_keeps : (f : Form) (words : List (List ℕ)) → Keeps (make f words)
make_keeps (form.Setup f) words = setup_keeps f words
make_keeps (form.Lattice f) words = lattice_keeps f words
make_keeps (form.SystemFiles f) words = system_files_keep f words
make_keeps (form.Restarts f) words = restarts_keep f words
make_keeps (form.MassesGroups f) words = masses_groups_keep f words
make_keeps (form.Pairs f) words = pairs_keep f words
make_keeps (form.Bonds f) words = bonds_keep f words
make_keeps (form.Neighbors f) words = neighbors_keep f words
make_keeps (form.Velocity f) words = velocity_keeps f words
make_keeps (form.Fixes f) words = fixes_keep f words
make_keeps (form.Computes f) words = computes_keep f words
make_keeps (form.Thermo f) words = thermo_keeps f words
make_keeps (form.Dumps f) words = dumps_keep f words
make_keeps (form.Runs f) words = runs_keep f words
make_keeps (form.Output f) words = output_keeps f words
make_keeps (form.Variables f) words = variables_keep f words
make_keeps (form.Flow f) words = flow_keeps f words
make_keeps (form.Session f) words = session_keeps f

read_keeps : (words : List (List ℕ)) → Keeps (read words)
unfolding read
read_keeps words = then_keeps (form_of words) _ (λ f e. make_keeps f words)

pub commands_keep_their_limits : (words : List (List ℕ)) (c : Command) → read words ≡ Ok c → KeepsLimits c
commands_keep_their_limits words c e = IfOk-at_ok KeepsLimits e (read_keeps words)
