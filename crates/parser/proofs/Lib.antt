mod Promised
mod Determined
