mod WordLaws
mod IdentitiesSoFar
pub mod Shapes
pub mod ThreeCertifications
pub mod PacketSizes
