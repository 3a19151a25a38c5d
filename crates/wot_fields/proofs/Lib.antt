pub mod FirstSeparator
pub mod Escapes
pub mod ImportFits
pub mod LineParts
pub mod Numerals
pub mod Pieced
pub mod Spaceless
pub mod StateLines
