pub mod Signature
pub mod KeptOctets
pub mod KeptFacts
pub mod SingleFacts
