mod Comes
mod Meets
