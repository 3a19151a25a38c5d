mod ConsultedTotal
mod Grounds
mod Told
pub mod WereKept
