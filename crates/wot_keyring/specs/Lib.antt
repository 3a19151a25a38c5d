pub mod Dump
pub mod Parts
pub mod Behind
pub mod Uniting
pub mod Merging
