pub mod OnePathMore
pub mod SumWithOneMore
pub mod SlicesSuffice
