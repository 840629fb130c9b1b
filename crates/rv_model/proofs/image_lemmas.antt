-- Laws about images: the memory that an image describes.
pub mod Cells
