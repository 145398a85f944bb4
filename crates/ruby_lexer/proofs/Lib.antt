mod CommentEnds
mod Ends
mod Found
mod Fronts
mod Lengths
mod Looks
mod Pieces
mod Runs
mod Stacks
mod Suffices
mod Values
mod Worked
pub mod Seconds
