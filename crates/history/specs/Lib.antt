pub mod History
pub mod Rules
pub mod Log
pub mod Offered
pub mod Demand
