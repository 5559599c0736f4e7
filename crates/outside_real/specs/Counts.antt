-- What the forms over real files count.
use Rattle.std.specs.Prelude.{ℕ, List, Result, Ok, Err}
use Rattle.outside.specs.Memory.{next}
use Rattle.outside.specs.declared.press.PutRefusal.{PutRefusal}
use Rattle.outside.specs.declared.press.PutRefusal.TheVariants as no
use Rattle.outside.specs.declared.shelf.FetchRefusal.{FetchRefusal}
use Rattle.outside.specs.declared.shelf.FetchRefusal.TheVariants.{Missing, TooLong, Faulted, NoMemory}

-- how often a shelf failed, and how often a file was missing or too long
pub record ShelfCounts : Type 0 where
  pub faults : ℕ
  pub absent : ℕ

-- the counts of a shelf after a fetch, by its answer
abbrev pub shelf_counts_after : ShelfCounts → Result (List ℕ) FetchRefusal → ShelfCounts
shelf_counts_after counts (Ok bytes) = counts
shelf_counts_after counts (Err Missing) = record counts { absent = next counts.absent }
shelf_counts_after counts (Err (TooLong n)) = record counts { absent = next counts.absent }
shelf_counts_after counts (Err Faulted) = record counts { faults = next counts.faults }
shelf_counts_after counts (Err NoMemory) = counts

-- the count of a press's failures after a put, by its answer
abbrev pub put_faults_after : ℕ → Result Unit PutRefusal → ℕ
put_faults_after faults (Ok done) = faults
put_faults_after faults (Err no.Faulted) = next faults
put_faults_after faults (Err no.NoMemory) = faults
