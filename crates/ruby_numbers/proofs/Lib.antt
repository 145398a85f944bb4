mod EachOnce
mod InOrder
mod ProgramLaws
mod RowLemmas
