pub mod Equality
pub mod EqualityLaws
pub mod Locale
pub mod Reading
pub mod ReadingLaws
pub mod ShapeLaws
pub mod Shapes
pub mod Words
