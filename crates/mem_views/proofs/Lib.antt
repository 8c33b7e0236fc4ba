mod Parts
mod Ends
mod Fronts
mod Places
mod Entries
