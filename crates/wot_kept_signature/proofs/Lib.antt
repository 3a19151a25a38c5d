pub mod NewOctets
