-- ELF-64 images. Modules, in reading order:
-- `Fields`: the fields of an image.
-- `Faults`: the faults that an image can have.
-- `Image`: the memory that an image describes.
-- `ImageCells`: a law of this memory, address by address.
pub mod Faults
pub mod Fields
pub mod Image
pub mod ImageCells
