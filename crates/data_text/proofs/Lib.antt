mod HeaderLemmas
mod RowLemmas
mod SectionLemmas
mod Worked
