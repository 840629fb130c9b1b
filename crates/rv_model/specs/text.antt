-- Text as lines, tokens and numbers. Read `Lines` first, with lines of text and a user's tag, then `Words`, with the runs of bytes between
-- spaces, then `Digits`, with the number that digits spell.
pub mod Digits
pub mod Lines
pub mod Words
