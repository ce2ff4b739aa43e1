mod Fours
mod Sums
mod Coming
mod Accepted
mod Recording
