mod Compacted
mod Latest
mod Lists
mod Pigeonhole
mod Places
mod Replays
