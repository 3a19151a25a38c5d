mod Places
mod Marked
