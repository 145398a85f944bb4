mod Faults
mod ProgramLaws
