pub mod ReadFromStart
