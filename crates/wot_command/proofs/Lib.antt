mod Anew
pub mod Calling
pub mod EdgeLines
pub mod PolicyAskedByLine
mod CertificateLines
pub mod Lasting
pub mod DirectoryAfterFailure
pub mod RefusedReplies
mod Short
mod FailedPut
mod ReachedOrMissed
mod StoredOrRefused
