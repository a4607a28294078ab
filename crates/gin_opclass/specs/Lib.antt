pub mod Class
pub mod NoQuery
