-- Sessions.
pub mod Order
