mod Texts
mod Kept
