-- Worked command lines: what words ask for, and where they have no reading.
use Rattle.std.proofs.Common.{◌≡◌, ◌∷◌, [], Some, Ok, Err, true, false, refl}
use Rattle.std.specs.Prelude.{codes}
use Rattle.fx_num.specs.Decimal.{read_count}
use Rattle.fxlmp_top.specs.declared.asked.LogChoice.TheVariants.{Default, File, Nowhere}
use Rattle.fxlmp_top.specs.declared.asked.Source.TheVariants as source
use Rattle.fxlmp_top.specs.Words.{asked}

-- the script alone
script_alone : asked (codes "-in" ∷ codes "in.melt" ∷ [])
    ≡ Ok record { script = Some (source.File record { place = 1; name = codes "in.melt" }); log = Default; screen = true; vars = [] }
script_alone = refl

-- short words, in another order, and all that may be asked for
all_words : asked (codes "-sc" ∷ codes "none" ∷ codes "-v" ∷ codes "x" ∷ codes "1" ∷ codes "-2" ∷ codes "-l" ∷ codes "a.log" ∷ codes "-i" ∷ codes "in.melt" ∷ [])
    ≡ Ok record {
      script = Some (source.File record { place = 9; name = codes "in.melt" });
      log = File (codes "a.log");
      screen = false;
      vars = record { name = codes "x"; values = codes "1" ∷ codes "-2" ∷ [] } ∷ [];
    }
all_words = refl

-- a variable of two values before the script
variable_first : asked (codes "-var" ∷ codes "v" ∷ codes "1" ∷ codes "2" ∷ codes "-in" ∷ codes "f" ∷ [])
    ≡ Ok record {
      script = Some (source.File record { place = 5; name = codes "f" });
      log = Default;
      screen = true;
      vars = record { name = codes "v"; values = codes "1" ∷ codes "2" ∷ [] } ∷ [];
    }
variable_first = refl

-- the log's name is free for the script where there is no log
log_off : asked (codes "-in" ∷ codes "log.lammps" ∷ codes "-log" ∷ codes "none" ∷ [])
    ≡ Ok record { script = Some (source.File record { place = 1; name = codes "log.lammps" }); log = Nowhere; screen = true; vars = [] }
log_off = refl

no_words : asked [] ≡ Err 0
no_words = refl

no_name : asked (codes "-in" ∷ []) ≡ Err 1
no_name = refl

word_too_many : asked (codes "-in" ∷ codes "a" ∷ codes "b" ∷ []) ≡ Err 2
word_too_many = refl

-- the later of two equal names
script_is_log : asked (codes "-log" ∷ codes "x" ∷ codes "-in" ∷ codes "x" ∷ []) ≡ Err 3
script_is_log = refl

log_is_script : asked (codes "-in" ∷ codes "x" ∷ codes "-log" ∷ codes "x" ∷ []) ≡ Err 3
log_is_script = refl

-- the default name of the log
script_is_default_log : asked (codes "-in" ∷ codes "log.lammps" ∷ []) ≡ Err 1
script_is_default_log = refl

compressed : asked (codes "-in" ∷ codes "in.melt.gz" ∷ []) ≡ Err 1
compressed = refl

-- a variable without a value
no_value : asked (codes "-var" ∷ codes "v" ∷ codes "-in" ∷ codes "f" ∷ []) ≡ Err 2
no_value = refl

no_value_at_end : asked (codes "-in" ∷ codes "f" ∷ codes "-var" ∷ codes "v" ∷ []) ≡ Err 4
no_value_at_end = refl

no_variable_name : asked (codes "-in" ∷ codes "f" ∷ codes "-var" ∷ codes "a-b" ∷ codes "1" ∷ []) ≡ Err 3
no_variable_name = refl

-- a word that is not built yet
grid : asked (codes "-grid" ∷ codes "1" ∷ codes "1" ∷ codes "1" ∷ codes "-in" ∷ codes "f" ∷ []) ≡ Err 0
grid = refl

second_script : asked (codes "-in" ∷ codes "a" ∷ codes "-i" ∷ codes "b" ∷ []) ≡ Err 2
second_script = refl

second_log : asked (codes "-in" ∷ codes "a" ∷ codes "-log" ∷ codes "none" ∷ codes "-l" ∷ codes "b" ∷ []) ≡ Err 4
second_log = refl

screen_on : asked (codes "-in" ∷ codes "a" ∷ codes "-screen" ∷ codes "yes" ∷ []) ≡ Err 3
screen_on = refl

-- the generated script, and numbers that begin with 0
generated : asked (codes "-gen" ∷ codes "4" ∷ codes "1" ∷ [])
    ≡ Ok record { script = Some (source.Generated 4 1); log = Default; screen = true; vars = [] }
unfolding read_count
generated = refl

generated_most : asked (codes "-screen" ∷ codes "none" ∷ codes "-gen" ∷ codes "064" ∷ codes "2147483647" ∷ [])
    ≡ Ok record { script = Some (source.Generated 64 2147483647); log = Default; screen = false; vars = [] }
unfolding read_count
generated_most = refl

-- its name is free for the log
generated_beside_gen : asked (codes "-log" ∷ codes "gen" ∷ codes "-gen" ∷ codes "4" ∷ codes "1" ∷ [])
    ≡ Ok record { script = Some (source.Generated 4 1); log = File (codes "gen"); screen = true; vars = [] }
unfolding read_count
generated_beside_gen = refl

-- one of the two, the later is told
generated_behind_script : asked (codes "-in" ∷ codes "a" ∷ codes "-gen" ∷ codes "4" ∷ codes "1" ∷ []) ≡ Err 2
generated_behind_script = refl

script_behind_generated : asked (codes "-gen" ∷ codes "4" ∷ codes "1" ∷ codes "-in" ∷ codes "a" ∷ []) ≡ Err 3
unfolding read_count
script_behind_generated = refl

too_few_cells : asked (codes "-gen" ∷ codes "3" ∷ codes "1" ∷ []) ≡ Err 1
unfolding read_count
too_few_cells = refl

too_many_cells : asked (codes "-gen" ∷ codes "65" ∷ codes "1" ∷ []) ≡ Err 1
unfolding read_count
too_many_cells = refl

cells_with_a_sign : asked (codes "-gen" ∷ codes "+4" ∷ codes "1" ∷ []) ≡ Err 1
unfolding read_count
cells_with_a_sign = refl

no_seed : asked (codes "-gen" ∷ codes "4" ∷ []) ≡ Err 2
unfolding read_count
no_seed = refl

seed_too_small : asked (codes "-gen" ∷ codes "4" ∷ codes "0" ∷ []) ≡ Err 2
unfolding read_count
seed_too_small = refl

seed_too_great : asked (codes "-gen" ∷ codes "4" ∷ codes "2147483648" ∷ []) ≡ Err 2
unfolding read_count
seed_too_great = refl
