pub mod Shapes
pub mod ShapesLaws
pub mod Text
pub mod Words
