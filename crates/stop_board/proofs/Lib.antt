mod OneThread
mod Runs
mod Search
mod Waiting
mod Worlds
