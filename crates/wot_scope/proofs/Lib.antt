pub mod ScopeDecided
