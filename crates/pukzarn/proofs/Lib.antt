mod Slots
mod Filling
mod Calls
mod Cells
