pub mod Words
pub mod Bodies
pub mod Identities
pub mod Certifications
