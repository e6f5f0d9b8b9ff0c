mod Opens
mod Plays
