-- Masses and groups.
use Rattle.std.specs.Prelude.{◌+◌, ℕ, Option, Some, None, Result, Ok, Err, List, [], ◌∷◌, drop}
use Rattle.box_geo.specs.declared.limits.TheConstants.{MAX_MASS, MIN_MASS}
use Rattle.command_words.specs.Ranges.{id_range, kind_range}
use Rattle.command_words.specs.Values.{kinds, number, then, word}
use Rattle.command_words.specs.declared.masses_groups.Members.{Members}
use Rattle.command_words.specs.declared.masses_groups.Members.TheVariants as members
use Rattle.command_words.specs.declared.ranges.IdRange.{IdRange}
use Rattle.command_words.specs.declared.ranges.KindRange.{KindRange}
use Rattle.command_words.specs.declared.masses_groups.MassesGroupsForm.{MassesGroupsForm}
use Rattle.command_words.specs.declared.masses_groups.MassesGroupsForm.TheVariants as form
use Rattle.command_words.specs.declared.masses_groups.TheConstants.{MASS, GROUP_REGION, GROUP_TYPE, GROUP_ID, GROUP_UNION, GROUP_SUBTRACT, GROUP_INTERSECT, GROUP_VARIABLE}
use Rattle.command_words.specs.declared.places.Place.{Place}
use Rattle.command_words.specs.declared.command.Command.{Command}
use Rattle.command_words.specs.declared.command.Command.TheVariants as command
use Rattle.command_words.specs.declared.refusal.WordRefusal.{WordRefusal}
use Rattle.command_words.specs.declared.refusal.WordRefusal.TheVariants.{BadValue}

-- the places of a form
abbrev pub places : MassesGroupsForm → List Place
places form.Mass = MASS.now
places form.GroupRegion = GROUP_REGION.now
places form.GroupType = GROUP_TYPE.now
places form.GroupId = GROUP_ID.now
places form.GroupUnion = GROUP_UNION.now
places form.GroupSubtract = GROUP_SUBTRACT.now
places form.GroupIntersect = GROUP_INTERSECT.now
places form.GroupVariable = GROUP_VARIABLE.now

abbrev pub mass : List (List ℕ) → Result Command WordRefusal
mass words = then (kinds 1 words) (λ k. then (number 2 MIN_MASS MAX_MASS words) (λ m. Ok (command.Mass record { kinds = k; mass = m })))

-- what words write from a place on, each at its place
abbrev pub first : {X : Type 0} → ℕ → Option X → Result (List X) WordRefusal → Result (List X) WordRefusal
first place None rest = Err (BadValue place)
first place (Some x) rest = then rest (λ xs. Ok (x ∷ xs))

abbrev pub kind_ranges : ℕ → List (List ℕ) → Result (List KindRange) WordRefusal
kind_ranges place [] = Ok []
kind_ranges place (word ∷ words) = first place (kind_range word) (kind_ranges (place + 1) words)

abbrev pub id_ranges : ℕ → List (List ℕ) → Result (List IdRange) WordRefusal
id_ranges place [] = Ok []
id_ranges place (word ∷ words) = first place (id_range word) (id_ranges (place + 1) words)

abbrev pub group : Members → List (List ℕ) → Command
group added words = command.Group record { id = word 1 words; members = added }

abbrev pub group_kinds : List (List ℕ) → Result Command WordRefusal
group_kinds words = then (kind_ranges 3 (drop 3 words)) (λ k. Ok (group (members.Kinds k) words))

abbrev pub group_ids : List (List ℕ) → Result Command WordRefusal
group_ids words = then (id_ranges 3 (drop 3 words)) (λ k. Ok (group (members.Ids k) words))

-- the command of the words of a form
abbrev pub make : MassesGroupsForm → List (List ℕ) → Result Command WordRefusal
make form.Mass words = mass words
make form.GroupRegion words = Ok (group (members.Region (word 3 words)) words)
make form.GroupType words = group_kinds words
make form.GroupId words = group_ids words
make form.GroupUnion words = Ok (group (members.Union (drop 3 words)) words)
make form.GroupSubtract words = Ok (group (members.Subtract (drop 3 words)) words)
make form.GroupIntersect words = Ok (group (members.Intersect (drop 3 words)) words)
make form.GroupVariable words = Ok (group (members.Variable (word 3 words)) words)
