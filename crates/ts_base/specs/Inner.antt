pub mod Leads
pub mod Machine
pub mod Residuals
