mod Beside
mod Turned
