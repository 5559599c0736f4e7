-- Lines read one by one.
use Rattle.std.proofs.Common.{◌≡◌, ◌∙◌, ◌+◌, ℕ, Result, Ok, Err, List, [], ◌∷◌, ap}
use Rattle.std.specs.Result.{IfOk}
use Rattle.data_file.specs.declared.contents.DataSet.{DataSet}
use Rattle.data_file.specs.declared.fault.DataFault.{DataFault}
use Rattle.data_file.specs.declared.fault.DataRefusal.{DataRefusal}
use Rattle.data_file.specs.declared.fault.DataRefusal.TheVariants as refusal
use Rattle.data_file.specs.declared.fault.Stop.{Stop}
use Rattle.data_file.specs.declared.fault.Stop.TheVariants as stop
use Rattle.data_file.specs.declared.reading.Reading.{Reading}
use Rattle.data_file.specs.Data.{at_line, contents_of, finished, goes_on, judge_line, read_lines, refusal_of, Contents, Ends, ReadsText, Takes}

-- a line that is taken
pub goes_reads : (line : List ℕ) (lines : List (List ℕ)) (n : ℕ) (s t : Reading) → judge_line n s line ≡ Ok t → read_lines (line ∷ lines) n s ≡ read_lines lines (n + 1) t
goes_reads line lines n s t e = ap (goes_on n (read_lines lines (n + 1))) e

-- a line that is refused
pub stop_reads : (U : Type 0) (meant : Result Contents (ℕ × DataFault)) (line : List ℕ) (lines : List (List ℕ)) (n : ℕ) (s t : Reading) (why : Stop)
    → meant ≡ read_lines (line ∷ lines) n s → Takes {U = U} (judge_line n s line) (Err why) t → ReadsText meant (Err (refusal_of n why))
stop_reads U meant line lines n s t (stop.Fault why) e h = e ∙ ap (goes_on n (read_lines lines (n + 1))) h
stop_reads U meant line lines n s t stop.NoMemory e h = tt

-- the end is refused
pub end_reads : (meant : Result Contents (ℕ × DataFault)) (n : ℕ) (s : Reading) (why : Stop) → meant ≡ read_lines [] n s → Ends (finished s) (Err why) → ReadsText meant (Err (refusal_of n why))
end_reads meant n s (stop.Fault why) e h = e ∙ ap (at_line n) h
end_reads meant n s stop.NoMemory e h = tt

-- what is read, and what is refused
pub reads_ok : (meant : Result Contents (ℕ × DataFault)) (r : Result DataSet DataRefusal) → ReadsText meant r → IfOk r (λ d. meant ≡ Ok (contents_of d))
reads_ok meant (Ok d) h = h
reads_ok meant (Err why) h = tt

pub reads_refused : (meant : Result Contents (ℕ × DataFault)) (r : Result DataSet DataRefusal) (n : ℕ) (why : DataFault) → ReadsText meant r → r ≡ Err (refusal.Line n why) → meant ≡ Err (n, why)
reads_refused meant (Ok d) n why h e = absurd cc
reads_refused meant (Err (refusal.Line m what)) n why h e = let a : m ≡ n = cc in let b : what ≡ why = cc in cc
reads_refused meant (Err refusal.NoMemory) n why h e = absurd cc

-- what holds of all contents that are meant holds of those that are read
pub sound_ok : (meant : Result Contents (ℕ × DataFault)) (r : Result DataSet DataRefusal) (P : Contents → Type 0) → ReadsText meant r → ((c : Contents) → meant ≡ Ok c → P c) → IfOk r (λ d. P (contents_of d))
sound_ok meant (Ok d) P h f = f (contents_of d) h
sound_ok meant (Err why) P h f = tt
