mod EqualWidths
mod Pairs
mod Shapes
mod Sources
mod Widths
