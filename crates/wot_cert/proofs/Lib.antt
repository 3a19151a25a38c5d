pub mod Narrow
pub mod Same
pub mod MergedMarks
pub mod AppendedTexts
pub mod Totals
pub mod Drafts
pub mod Sketches
pub mod Cuts
pub mod CertificateWithKey
pub mod SpanLaw
pub mod ReadingBack
pub mod UnionLaws
pub mod Unchanged
pub mod Assemblies
pub mod NewTotals
pub mod AllPlaces
pub mod Grown
mod OfBoth
