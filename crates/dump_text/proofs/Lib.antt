mod ColumnLemmas
mod FrameLemmas
mod HeaderLemmas
mod MemberLemmas
mod RowLemmas
mod WalkLemmas
mod Worked
