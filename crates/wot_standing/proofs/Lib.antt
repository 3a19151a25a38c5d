pub mod RevokedByNumber
pub mod SpanLaw
pub mod NumbersByIssuer
pub mod CountsAsIssuer
pub mod OtherIssuerNamed
pub mod Placing
pub mod Taking
