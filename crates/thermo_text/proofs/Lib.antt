mod RowLemmas
mod Worked
