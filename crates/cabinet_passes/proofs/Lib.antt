-- What a turn of a pass leaves to do. Assumes nothing.
mod Turns
